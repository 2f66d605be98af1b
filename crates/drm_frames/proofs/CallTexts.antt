-- A frame that asks a row's call is a frame, and the call is found in it.
use Rattle.std.proofs.Common.{◌≡◌, ℕ, ◌≤◌, List, All, length, Option, Some, None, refl, sym, ap, ◌∙◌, subst}
use Rattle.std.specs.Prelude.{map}
use Rattle.drm_table.specs.declared.calls.Call.{Call}
use Rattle.drm_table.specs.declared.calls.Call.TheVariants as calls
use Rattle.drm_table.specs.declared.fields.Field.{Field}
use Rattle.drm_table.specs.declared.calls.CallKind.{CallKind}
use Rattle.drm_table.specs.Table.{kind_number, kind_layout, call_kind_of, call_row, IsReadBack, HasWidths}
use Rattle.drm_table.specs.Fields.{Layout, FitsField, width_of, widths_in}
use Rattle.drm_table.proofs.TableRows.{number-small, kind-found, read-back, has-widths}
use Rattle.drm_frames.specs.Number.{AreBytes}
use Rattle.drm_frames.specs.Fields.{fields_text, fields_in}
use Rattle.drm_frames.specs.Grammar.{FrameValue, frame_value, IsFrame, frame_text}
use Rattle.drm_frames.specs.Requests.{AsksRow, AsksBy, IsOfRow, IsRowCall, WritesCall, asked_of, request_of}
use Rattle.drm_frames.proofs.Sizes.{some-is}
use Rattle.drm_frames.proofs.FieldTexts.{text-short, text-bytes, text-read}

-- ---- a frame that asks a row's call is a frame

by-row-fits : (f : FrameValue) (kind : CallKind) (fs : List Field) → AsksRow kind fs f → IsFrame f
by-row-fits f kind fs h = record {
  number = rw h.number (number-small kind);
  short = rw h.text (text-short (kind_layout kind) fs h.fits.few);
  bytes = subst AreBytes (sym h.text) (text-bytes (kind_layout kind) fs);
}

fits-by : (f : FrameValue) (o : Option (CallKind × List Field)) → AsksBy o f → IsFrame f
fits-by f None h = absurd h
fits-by f (Some row) h = by-row-fits f row.0 row.1 h

-- A frame that asks a row's call fits the format of frames.
pub row-fits : (f : FrameValue) (call : Call) → IsRowCall call f → IsFrame f
row-fits f call h = fits-by f (call_row call) h

-- ---- a row's call is found

found-by : (f : FrameValue) (call : Call) (o : Option (CallKind × List Field)) → IsReadBack call o → AsksBy o f
    → asked_of f (call_kind_of f.number) ≡ call
found-by f call None back h = absurd h
found-by f call (Some row) back h =
    let kind : call_kind_of f.number ≡ Some row.0 = ap call_kind_of h.number ∙ kind-found row.0 in
    let fields : fields_in (kind_layout row.0) f.fields ≡ Some row.1 =
    ap (fields_in (kind_layout row.0)) h.text ∙ text-read (kind_layout row.0) row.1 h.fits in
    rw (kind, fields, back) refl

-- A row's call is found in a frame that asks it.
pub row-found : (f : FrameValue) (call : Call) → IsRowCall call f → request_of f ≡ call
unfolding request_of
row-found f call h = found-by f call (call_row call) (read-back call) h

-- ---- the frame of a call's row asks the call

-- A call that a frame can ask has a row.
pub has_row : (call : Call) → IsOfRow call → None ≡ call_row call → ⊥
unfolding call_row
has_row (calls.Unknown n) h e = h
has_row (calls.BadLayout n) h e = h
has_row call h e = cc

widths-by : (kind : CallKind) (fs : List Field) (o : Option (CallKind × List Field)) → HasWidths o → o ≡ Some (kind, fs)
    → map width_of fs ≡ widths_in (kind_layout kind) (length fs)
widths-by kind fs None h e = absurd (cc)
widths-by kind fs (Some row) h e =
    subst (λ (r : CallKind × List Field). map width_of r.1 ≡ widths_in (kind_layout r.0) (length r.1))
    (some-is row (kind, fs) e) h

-- The text made of a row's number and of the call's fields is that of a frame that asks the call.
pub writes-row : (call : Call) (kind : CallKind) (fs xs : List Field) (layout : Layout) (number : ℕ) (fields slice text : List ℕ)
    → call_row call ≡ Some (kind, fs) → xs ≡ fs
    → length fs ≤ 32 → layout ≡ kind_layout kind → number ≡ kind_number kind → fields ≡ fields_text layout xs
    → All FitsField xs → slice ≡ fields → text ≡ frame_text (frame_value number slice)
    → WritesCall call text
writes-row call kind fs xs layout number fields slice text row same few l n f each s t =
    let asks : AsksRow kind fs (frame_value number slice) =
    record {
      number = n;
      fits =
          record
          { widths = widths-by kind fs (call_row call) (has-widths call) row; few = few; each = subst (λ (ys : List Field). All FitsField ys) same each };
      text = s ∙ f ∙ ap (fields_text layout) same ∙ ap (λ (k : Layout). fields_text k fs) l;
    } in
    record {
      frame = frame_value number slice;
      asks = subst (λ (o : Option (CallKind × List Field)). AsksBy o (frame_value number slice)) (sym row) asks;
      fits = by-row-fits (frame_value number slice) kind fs asks;
      whole = t;
    }
