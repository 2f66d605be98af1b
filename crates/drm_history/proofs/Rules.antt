-- What an event that is carried out was tested for.
use Rattle.std.proofs.Common.{◌≡◌, ℕ, Bool, true, false, not, ◌||◌, List, None, refl}
use Rattle.std.specs.List.{AllByRecursion}
use Rattle.drm_table.specs.Permit.{Check, has_flag, master}
use Rattle.drm_table.specs.Table.{flags_of, row_of, call_row, call_number, call_kind_of, kind_row}
use Rattle.drm_table.specs.declared.calls.Call.{Call}
use Rattle.drm_table.specs.declared.calls.Call.TheVariants.{CreateLease, RevokeLease}
use Rattle.drm_table.specs.declared.events.Event.{Event}
use Rattle.drm_table.specs.declared.events.Event.TheVariants.{Ask, Close}
use Rattle.drm_model.specs.Rows.{Rows, is_open}
use Rattle.drm_model.specs.Magics.{is_current}
use Rattle.drm_model.specs.Verdict.{verdict, checks, admission_checks}
use Rattle.drm_model.proofs.FewLeased.{all_hold}

-- An event that is carried out passed each of its checks.
pub each_holds : (w : Rows) (event : Event) → verdict w event ≡ None
    → AllByRecursion (λ (x : Check). x.holds ≡ true) (checks w event)
unfolding verdict
each_holds w event h = all_hold (checks w event) h

-- The caller of an accepted call is open.
pub caller_open : (w : Rows) (c : ℕ) (call : Call) → verdict w (Ask c call) ≡ None → is_open w c ≡ true
unfolding checks admission_checks
caller_open w c call h = (each_holds w (Ask c call) h).1.1.0

-- The client of an accepted closing is open.
pub closer_open : (w : Rows) (c : ℕ) → verdict w (Close c) ≡ None → is_open w c ≡ true
unfolding checks
closer_open w c h = (each_holds w (Close c) h).0

-- who makes or revokes a lease is current
create_lease_flags : (ids : List ℕ) → has_flag (flags_of (CreateLease ids)) master ≡ true
unfolding flags_of row_of call_row call_number call_kind_of kind_row
create_lease_flags ids = refl

revoke_lease_flags : (lessee : ℕ) → has_flag (flags_of (RevokeLease lessee)) master ≡ true
unfolding flags_of row_of call_row call_number call_kind_of kind_row
revoke_lease_flags lessee = refl

wanted : (flag current : Bool) → flag ≡ true → (not flag || current) ≡ true → current ≡ true
wanted true current e h = h
wanted false current e h = absurd (let n : false ≡ true = e in cc)

caller_current : (w : Rows) (c : ℕ) (call : Call) → has_flag (flags_of call) master ≡ true
    → verdict w (Ask c call) ≡ None → is_current w c ≡ true
unfolding checks admission_checks
caller_current w c call flag h =
    wanted (has_flag (flags_of call) master) (is_current w c) flag (each_holds w (Ask c call) h).1.1.1.1.1.0

-- A client that creates a lease is current.
pub lessor_current : (w : Rows) (c : ℕ) (ids : List ℕ) → verdict w (Ask c (CreateLease ids)) ≡ None
    → is_current w c ≡ true
lessor_current w c ids h = caller_current w c (CreateLease ids) (create_lease_flags ids) h

-- A client that revokes a lease is current.
pub revoker_current : (w : Rows) (c lessee : ℕ) → verdict w (Ask c (RevokeLease lessee)) ≡ None → is_current w c ≡ true
revoker_current w c lessee h = caller_current w c (RevokeLease lessee) (revoke_lease_flags lessee) h
