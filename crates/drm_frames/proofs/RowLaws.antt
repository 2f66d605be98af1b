-- The rows that frames ask are those of the table of calls.
use Rattle.std.proofs.Common.{◌≡◌, ℕ, List, true, Option, Some, None, refl, sym, ap, ◌∙◌}
use Rattle.std.specs.Prelude.{is_some}
use Rattle.std.specs.Option.{option_map, option_map_or}
use Rattle.drm_table.specs.declared.calls.Call.{Call}
use Rattle.drm_table.specs.declared.fields.Field.{Field}
use Rattle.drm_table.specs.declared.calls.CallKind.{CallKind}
use Rattle.drm_table.specs.Table.{kind_row, kind_number, call_kind_of, row_of, call_row, call_number, asked_number}
use Rattle.drm_table.proofs.TableRows.{kind-found, kind-of-its-own}
use Rattle.drm_frames.specs.Grammar.{FrameValue}
use Rattle.drm_frames.specs.Requests.{AsksBy, IsRowCall, HasRow}

-- A number of the table has a row.
pub row-there : (n : ℕ) → HasRow n → is_some (row_of n) ≡ true
unfolding row_of
row-there n row =
    ap (λ (o : Option CallKind). is_some (option_map kind_row o)) (ap call_kind_of (sym row.1) ∙ kind-found row.0)

none-by : (n : ℕ) (o : Option CallKind) → call_kind_of n ≡ o → (HasRow n → ⊥) → option_map kind_row o ≡ None
none-by n None t h = refl
none-by n (Some kind) t h = absurd (h (kind, kind-of-its-own n kind t))

-- A number that is not in the table has no row.
pub no-row-there : (n : ℕ) → (HasRow n → ⊥) → row_of n ≡ None
unfolding row_of
no-row-there n h = none-by n (call_kind_of n) refl h

number-by : (f : FrameValue) (o : Option (CallKind × List Field)) (other : ℕ) → AsksBy o f
    → f.number ≡ option_map_or (λ (row : CallKind × List Field). kind_number row.0) o other
number-by f None other h = absurd h
number-by f (Some row) other h = h.number

-- A frame that asks a row's call has the call's number.
pub number-of-row : (f : FrameValue) (call : Call) → IsRowCall call f → f.number ≡ call_number call
unfolding call_number
number-of-row f call h = number-by f (call_row call) (asked_number call) h
