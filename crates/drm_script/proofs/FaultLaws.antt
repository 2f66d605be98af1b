-- The fields of a call: which of them is at fault, and that a call is made of those that fit.
use Rattle.std.proofs.Common.{◌≡◌, ℕ, List, [], ◌∷◌, length, refl, sym, ap, ◌∙◌, Bool, true, false, Some, None, Option, option_map, zero, suc, ◌⊎◌, inl, inr}
use Rattle.std.specs.Prelude.{map, is_some, option_and_then, replicate}
use Rattle.drm_table.specs.declared.calls.CallKind.{CallKind}
use Rattle.drm_table.specs.declared.calls.CallKind.TheVariants as kinds
use Rattle.drm_table.specs.declared.fields.Field.{Field}
use Rattle.drm_table.specs.declared.fields.Field.TheVariants as fields
use Rattle.drm_table.specs.declared.fields.Width.{Width}
use Rattle.drm_table.specs.declared.fields.Width.TheVariants as widths
use Rattle.drm_table.specs.Audits as audits
use Rattle.drm_table.specs.Fields.{width_of, number_in, widths_in, ids_in, put_before}
use Rattle.drm_table.specs.declared.calls.Call.TheVariants as calls
use Rattle.drm_table.specs.Table.{call_with, kind_layout, kind_row}
use Rattle.drm_table.proofs.TableRows.{kind-short}
use Rattle.drm_script.specs.declared.malformations.Malformation.{Malformation}
use Rattle.drm_script.specs.declared.malformations.Malformation.TheVariants as causes
use Rattle.drm_script.specs.declared.malformations.Wanted.TheVariants as wanted
use Rattle.drm_script.specs.Fields.{Words, ◌>>=◌, end_at, number_at, field_at, numbers_at, fields_at}
use Rattle.drm_script.specs.Faults.{Place, fault_at, first_misfit, number_fault, number_in_bits, layout_places, call_fields, unless, IsFirstMisfit, IsNoOtherKind, KindFits}
use Rattle.drm_script.specs.Grammar.{SpellEach, SpellsNumber, field_part}
use Rattle.drm_script.proofs.FieldLaws.{number32_at_some}
use Rattle.drm_script.proofs.CallFieldLaws.{fields_were}
use Rattle.drm_script.proofs.FaultLemmas.{number_was}

-- ---- the kind of an audit

-- a first field that fits as a kind, or is no number, is reported as any number is
kind_case : (o : Option ℕ) (w : List ℕ) (ws : Words) (ps : List Place) → number_in_bits 32 w ≡ o
    → (o ≡ None) ⊎ (fault_at Place.audit_kind w ≡ None)
    → first_misfit (Place.audit_kind ∷ ps) (w ∷ ws) ≡ first_misfit (Place.number 32 ∷ ps) (w ∷ ws)
kind_case None w ws ps e h = rw e refl
kind_case (Some n) w ws ps e (inl h) = absurd (cc)
kind_case (Some n) w ws ps e (inr h) = rw (h, e) refl

-- If the kind of audit fits, the first misfit of the fields is that of the call.
pub kind_passed : (kind : CallKind) (ws : Words) (cause : Malformation) (at : Words) → KindFits kind ws
    → IsFirstMisfit (layout_places (kind_layout kind) ws) ws cause at
    → IsFirstMisfit (call_fields (Some kind) ws) ws cause at
unfolding kind_row
kind_passed kinds.Audit [] cause at h m = m
kind_passed kinds.Audit (w ∷ ws) cause at h m = kind_case (number_in_bits 32 w) w ws (Place.number 32 ∷ []) refl h ∙ m
kind_passed _ ws cause at h m = m

-- If the number names no kind of audit, the first misfit is that word.
pub kind_unfit : (ws : Words) (found : ℕ × Words) → Some found ≡ number_at 32 ws → audits.kind_of found.0 ≡ None
    → IsFirstMisfit (call_fields (Some kinds.Audit) ws) ws (causes.Unfit wanted.AuditKind) ws
unfolding kind_row
kind_unfit ws found e n =
    let is = number_was 32 ws found e in
    rw is.words (rw is.number (rw n refl))

-- an audit of no kind is not read
audit_of_none : (n m : ℕ) → audits.kind_of n ≡ None → call_with kinds.Audit (fields.U32 n ∷ fields.U32 m ∷ []) ≡ None
unfolding call_with kind_row
audit_of_none n m e = rw e refl

end_unread : (n m : ℕ) (ws : Words) → audits.kind_of n ≡ None
    → option_and_then (call_with kinds.Audit) (end_at ws >>= (λ (end : Unit {0}). Some (fields.U32 n ∷ fields.U32 m ∷ []))) ≡ None
end_unread n m [] e = audit_of_none n m e
end_unread n m (w ∷ ws) e = refl

abbrev nothing_read : Words → List Field × Words
nothing_read ws = ([], ws)

abbrev field_read : ℕ × Words → Field × Words
field_read found = (fields.U32 found.0, found.1)

from_unread : (o : Option (ℕ × Words)) (n : ℕ) → audits.kind_of n ≡ None
    → option_and_then (call_with kinds.Audit)
    (option_map (put_before (fields.U32 n)) (option_and_then (λ (one : Field × Words). option_map (put_before one.0) (Some (nothing_read one.1))) (o >>= (λ (m : ℕ × Words). Some (field_read m))))
    >>= (λ (read : List Field × Words). end_at read.1 >>= (λ (end : Unit {0}). Some read.0))) ≡ None
from_unread None n e = refl
from_unread (Some m) n e = end_unread n m.0 m.1 e

-- If the number names no kind of audit, no call is read.
pub kind_unread : (ws : Words) (found : ℕ × Words) → Some found ≡ number_at 32 ws → audits.kind_of found.0 ≡ None
    → option_and_then (call_with kinds.Audit) (fields_at (kind_layout kinds.Audit) ws) ≡ None
unfolding kind_row fields_at numbers_at field_at
kind_unread ws found e n = rw (← e) (from_unread (number_at 32 found.1) found.0 n)

-- If the number names a kind of audit, the kind fits.
pub kind_fits : (ws : Words) (found : ℕ × Words) → Some found ≡ number_at 32 ws
    → is_some (audits.kind_of found.0) ≡ true → KindFits kinds.Audit ws
kind_fits ws found e n =
    let is = number_was 32 ws found e in
    rw is.words (inr (rw is.number (rw n refl)))

kind_case_of : (b : Bool) → unless b (causes.Unfit wanted.AuditKind) ≡ None → b ≡ true
kind_case_of true e = refl
kind_case_of false e = absurd (cc)

-- the number that a word spells is the one that is read
kind_is : (w : List ℕ) (ws : Words) (n : ℕ) (o : Option ℕ) → number_in_bits 32 w ≡ o → o ≡ Some n
    → IsNoOtherKind (w ∷ ws) → is_some (audits.kind_of n) ≡ true
kind_is w ws n None e s h = absurd (cc)
kind_is w ws n (Some m) e s (inl h) = absurd (cc)
kind_is w ws n (Some m) e s (inr h) =
    kind_case_of (is_some (audits.kind_of n))
    (sym (ap (λ (o : Option ℕ). number_fault (λ k. is_some (audits.kind_of k)) (causes.Unfit wanted.AuditKind) o) (e ∙ s)) ∙ h)

first_same : {w v : List ℕ} {ws vs : Words} → w ∷ ws ≡ v ∷ vs → w ≡ v
first_same e = cc

in_bits : (w : List ℕ) (n : ℕ) → SpellsNumber 32 n w → number_in_bits 32 w ≡ Some n
in_bits w n s =
    let read : Some (n, []) ≡ number_at 32 (w ∷ []) = sym (number32_at_some w [] n s) in
    let is = number_was 32 (w ∷ []) (n, []) read in
    ap (number_in_bits 32) (first_same is.words) ∙ is.number

-- ---- a call of fields that fit

abbrev field_of : Width → ℕ → Field
field_of widths.U32 n = fields.U32 n
field_of widths.U64 n = fields.U64 n

-- fields of these widths, with numbers by their place
abbrev filled : List Width → (ℕ → ℕ) → List Field
filled [] f = []
filled (v ∷ vs) f = field_of v (f 0) ∷ filled vs (λ k. f (suc k))

abbrev number_of_place : List Field → ℕ → ℕ
number_of_place [] k = zero
number_of_place (f ∷ fs) zero = number_in f
number_of_place (f ∷ fs) (suc k) = number_of_place fs k

refilled : (fs : List Field) → filled (map width_of fs) (number_of_place fs) ≡ fs
refilled [] = refl
refilled (fields.U32 n ∷ fs) = ap (λ (more : List Field). fields.U32 n ∷ more) (refilled fs)
refilled (fields.U64 n ∷ fs) = ap (λ (more : List Field). fields.U64 n ∷ more) (refilled fs)

some_mapped : {A B : Type 0} (f : A → B) (o : Option A) → is_some o ≡ true → is_some (option_map f o) ≡ true
some_mapped f None e = e
some_mapped f (Some x) e = refl

-- fields as wide as ids are ids
ids_filled : (count : ℕ) (f : ℕ → ℕ) → is_some (ids_in (filled (replicate count widths.U32) f)) ≡ true
ids_filled zero f = refl
ids_filled (suc count) f =
    some_mapped (λ more. f 0 ∷ more) (ids_in (filled (replicate count widths.U32) (λ k. f (suc k))))
    (ids_filled count (λ k. f (suc k)))

abbrev IsNoAudit : CallKind → Type 0
IsNoAudit kinds.Audit = ⊥
IsNoAudit _ = Unit {0}

-- each kind has a call of fields of its widths, but an audit only one of a kind
call_filled : (kind : CallKind) (count : ℕ) (f : ℕ → ℕ) → IsNoAudit kind
    → is_some (call_with kind (filled (widths_in (kind_layout kind) count) f)) ≡ true
unfolding call_with kind_row
call_filled kinds.Audit count f other = absurd other
call_filled kinds.CreateLease count f other =
    some_mapped calls.CreateLease (ids_in (filled (replicate count widths.U32) f)) (ids_filled count f)
call_filled _ count f other = refl

audit_filled : (f : ℕ → ℕ) → is_some (audits.kind_of (f 0)) ≡ true
    → is_some (call_with kinds.Audit (fields.U32 (f 0) ∷ fields.U32 (f 1) ∷ [])) ≡ true
unfolding call_with kind_row
audit_filled f e = some_mapped (λ kind. calls.Audit kind (f 1)) (audits.kind_of (f 0)) e

no_none : {A : Type 0} (o : Option A) → is_some o ≡ true → o ≡ None → ⊥
no_none None e n = absurd (cc)
no_none (Some x) e n = absurd (cc)

refits : (kind : CallKind) (fs : List Field) → map width_of fs ≡ widths_in (kind_layout kind) (length fs)
    → filled (widths_in (kind_layout kind) (length fs)) (number_of_place fs) ≡ fs
refits kind fs e = ap (λ (vs : List Width). filled vs (number_of_place fs)) (sym e) ∙ refilled fs

plain_call : (kind : CallKind) (fs : List Field) → IsNoAudit kind
    → map width_of fs ≡ widths_in (kind_layout kind) (length fs) → call_with kind fs ≡ None → ⊥
plain_call kind fs other e n =
    no_none (call_with kind fs)
    (ap (λ (xs : List Field). is_some (call_with kind xs)) (sym (refits kind fs e)) ∙ call_filled kind (length fs) (number_of_place fs) other)
    n

-- the kind of an audit was read from its word
kind_read : (w : List ℕ) (ws : Words) (n : ℕ) → SpellsNumber 32 n w → IsNoOtherKind (w ∷ ws)
    → is_some (audits.kind_of n) ≡ true
kind_read w ws n s h = kind_is w ws n (number_in_bits 32 w) refl (in_bits w n s) h

audit_call : (ws : Words) (fs : List Field) → IsNoOtherKind ws → SpellEach (map field_part fs) ws
    → map width_of fs ≡ widths.U32 ∷ widths.U32 ∷ [] → call_with kinds.Audit fs ≡ None → ⊥
audit_call (w ∷ ws) (fields.U32 n ∷ fields.U32 m ∷ []) h s e none =
    no_none _ (audit_filled (number_of_place (fields.U32 n ∷ fields.U32 m ∷ [])) (kind_read w ws n s.0 h)) none
audit_call [] (f ∷ fs) h s e none = absurd s
audit_call ws _ h s e none = absurd (cc)

-- If the kind fits and the fields are read, a call is made of them.
pub no_call : (kind : CallKind) (ws : Words) (fs : List Field) → KindFits kind ws
    → fields_at (kind_layout kind) ws ≡ Some fs → call_with kind fs ≡ None → ⊥
unfolding kind_row
no_call kinds.Audit ws fs h e n =
    let were = fields_were (kind_layout kinds.Audit) ws fs (kind-short kinds.Audit) e in
    audit_call ws fs h were.0 were.1.widths n
no_call kinds.Version ws fs h e n =
    plain_call kinds.Version fs tt (fields_were (kind_layout kinds.Version) ws fs (kind-short kinds.Version) e).1.widths
    n
no_call kind ws fs h e n = plain_call kind fs tt (fields_were (kind_layout kind) ws fs (kind-short kind) e).1.widths n
