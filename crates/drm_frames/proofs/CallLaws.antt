-- What a frame asks is what is found, both ways.
use Rattle.std.proofs.Common.{◌≡◌, ℕ, List, Option, Some, None, refl, sym, ap, ◌∙◌, subst}
use Rattle.std.specs.Option.{option_and_then}
use Rattle.std.proofs.lemmas.Option.{none-some}
use Rattle.drm_table.specs.declared.calls.Call.{Call}
use Rattle.drm_table.specs.declared.calls.Call.TheVariants.{Unknown, BadLayout}
use Rattle.drm_table.specs.declared.fields.Field.{Field}
use Rattle.drm_table.specs.declared.calls.CallKind.{CallKind}
use Rattle.drm_table.specs.Table.{kind_number, kind_layout, call_kind_of, call_row, call_with, AreFieldsOf}
use Rattle.drm_table.proofs.TableRows.{kind-found, kind-of-its-own, kind-short, fields-of}
use Rattle.drm_frames.specs.Fields.{fields_text, fields_in}
use Rattle.drm_frames.specs.Grammar.{FrameValue, IsFrame}
use Rattle.drm_frames.specs.Requests.{AsksRow, AsksBy, IsRowCall, HasRow, Asks, or_bad, asked_of, request_of}
use Rattle.drm_frames.proofs.FieldTexts.{text-was}
use Rattle.drm_frames.proofs.Sizes.{frame_value-is}
use Rattle.drm_frames.proofs.CallTexts.{row-found}

-- ---- what is found is asked

-- A row's number with other fields: no call is asked, since a call that is asked is found.
not-asked : (f : FrameValue) (n : ℕ) → request_of f ≡ BadLayout n → (call : Call) → IsRowCall call f → ⊥
unfolding call_row
not-asked f n e call h = subst (λ (c : Call). IsRowCall c f) (sym (row-found f call h) ∙ e) h

-- no other is a row's call
row-call-asks : (f : FrameValue) (call : Call) → IsRowCall call f → Asks f call
unfolding call_row
row-call-asks f (Unknown n) h = absurd h
row-call-asks f (BadLayout n) h = absurd h
row-call-asks f call h = h

-- the call that is made of the fields
made : (f : FrameValue) (kind : CallKind) (fs : List Field) (o : Option Call) (call : Call) → AreFieldsOf kind fs o
    → o ≡ Some call → AsksRow kind fs f → IsRowCall call f
made f kind fs None call are e h = absurd (none-some call e)
made f kind fs (Some c) call are e h =
    let same : c ≡ call = cc in
    subst (λ (o : Option (CallKind × List Field)). AsksBy o f) (sym (ap call_row (sym same) ∙ are)) h

by-fields : (f : FrameValue) (kind : CallKind) (o : Option (List Field)) (call : Call) → IsFrame f
    → f.number ≡ kind_number kind → fields_in (kind_layout kind) f.fields ≡ o
    → option_and_then (call_with kind) o ≡ Some call → IsRowCall call f
by-fields f kind None call fits number t e = absurd (none-some call e)
by-fields f kind (Some fs) call fits number t e =
    let was = text-was (kind_layout kind) f.fields fs (kind-short kind) fits.bytes t in
    made f kind fs (call_with kind fs) call (fields-of kind fs) e
    (record { number = number; fits = was.fits; text = was.text })

by-call : (f : FrameValue) (o : Option Call) → HasRow f.number → request_of f ≡ or_bad f.number o
    → ((call : Call) → o ≡ Some call → IsRowCall call f) → Asks f (or_bad f.number o)
by-call f None row e each = (refl, row, not-asked f f.number e)
by-call f (Some call) row e each = row-call-asks f call (each call refl)

by-kind : (f : FrameValue) (o : Option CallKind) → IsFrame f → call_kind_of f.number ≡ o → request_of f ≡ asked_of f o
    → Asks f (asked_of f o)
by-kind f None fits t e = (refl, λ row. none-some row.0 (sym t ∙ ap call_kind_of (sym row.1) ∙ kind-found row.0))
by-kind f (Some kind) fits t e =
    let number : f.number ≡ kind_number kind = sym (kind-of-its-own f.number kind t) in
    by-call f (option_and_then (call_with kind) (fields_in (kind_layout kind) f.fields)) (kind, sym number) e
    (λ call. by-fields f kind (fields_in (kind_layout kind) f.fields) call fits number refl)

asked-is : (f : FrameValue) → request_of f ≡ asked_of f (call_kind_of f.number)
unfolding request_of
asked-is f = refl

-- Each frame asks what is found in it.
pub asks : (f : FrameValue) → IsFrame f → Asks f (request_of f)
asks f fits =
    subst (λ (c : Call). Asks f c) (sym (asked-is f)) (by-kind f (call_kind_of f.number) fits refl (asked-is f))

-- ---- what is asked is found

unknown-found : (f : FrameValue) (n : ℕ) (o : Option CallKind) → call_kind_of f.number ≡ o → n ≡ f.number
    → (HasRow n → ⊥) → asked_of f o ≡ Unknown n
unknown-found f n None t e none = ap Unknown (sym e)
unknown-found f n (Some kind) t e none = absurd (none (kind, kind-of-its-own f.number kind t ∙ sym e))

bad-by : (f : FrameValue) (n : ℕ) (o : Option Call) → n ≡ f.number → ((call : Call) → o ≡ Some call → ⊥)
    → or_bad f.number o ≡ BadLayout n
bad-by f n None e none = ap BadLayout (sym e)
bad-by f n (Some call) e none = absurd (none call refl)

bad-found : (f : FrameValue) (n : ℕ) (o : Option CallKind) → IsFrame f → call_kind_of f.number ≡ o → n ≡ f.number
    → HasRow n → ((call : Call) → IsRowCall call f → ⊥) → asked_of f o ≡ BadLayout n
bad-found f n None fits t e row none =
    absurd (none-some row.0 (sym t ∙ ap call_kind_of (sym (row.1 ∙ e)) ∙ kind-found row.0))
bad-found f n (Some kind) fits t e row none =
    let number : f.number ≡ kind_number kind = sym (kind-of-its-own f.number kind t) in
    bad-by f n (option_and_then (call_with kind) (fields_in (kind_layout kind) f.fields)) e
    (λ call is. none call (by-fields f kind (fields_in (kind_layout kind) f.fields) call fits number refl is))

-- What a frame asks is found in it.
pub found : (f : FrameValue) (call : Call) → IsFrame f → Asks f call → request_of f ≡ call
found f (Unknown n) fits h = asked-is f ∙ unknown-found f n (call_kind_of f.number) refl h.0 h.1
found f (BadLayout n) fits h = asked-is f ∙ bad-found f n (call_kind_of f.number) fits refl h.0 h.1 h.2
found f call fits h = row-found f call h

-- ---- a call is asked by one frame

same-by : (f g : FrameValue) (o : Option (CallKind × List Field)) → AsksBy o f → AsksBy o g → f ≡ g
same-by f g None a b = absurd a
same-by f g (Some row) a b =
    let text = fields_text (kind_layout row.0) row.1 in
    frame_value-is f (kind_number row.0) text a.number a.text
    ∙ sym (frame_value-is g (kind_number row.0) text b.number b.text)

-- Only one frame asks a row's call.
pub one-frame : (f g : FrameValue) (call : Call) → IsRowCall call f → IsRowCall call g → f ≡ g
one-frame f g call a b = same-by f g (call_row call) a b
