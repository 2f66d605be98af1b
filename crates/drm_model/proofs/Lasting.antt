-- What has ended stays ended: grants and lease tokens are assigned to new masters alone.
use Rattle.std.proofs.Common.{◌≡◌, ◌∙◌, ℕ, ◌+◌, ◌≤◌, ◌==◌, Bool, true, false, ◌&&◌, ◌||◌, List, Option, None, Some, refl, ap, arith}
use Rattle.std.specs.Prelude.{if◌then◌else◌, IfSome}
use Rattle.std.specs.List.{list_any}
use Rattle.std.proofs.lemmas.Bool.{and_right}
use Rattle.drm_index_array.proofs.Lists.{list_any-map, none_each, none_filtered}
use Rattle.drm_index_array.proofs.Numbers.{flipped, less-differ}
use Rattle.drm_table.specs.declared.calls.Call.TheVariants.{CreateLease}
use Rattle.drm_table.specs.declared.events.Event.{Event}
use Rattle.drm_table.specs.declared.events.Event.TheVariants.{Open, Ask, Close}
use Rattle.drm_model.specs.Rows.{Rows, MasterRow, step_number}
use Rattle.drm_model.specs.Leases.{grant, leased}
use Rattle.drm_model.specs.Change.{after, changed, swept, is_living, journaled}
use Rattle.drm_model.specs.Run.{run}
use Rattle.drm_model.specs.Endings.{HasEnded, is_grant_of, is_open_lease}
use Rattle.drm_model.proofs.Journals.{after-steps}
use Rattle.drm_model.proofs.EventChanges.{along, master_after, new_grants, new_master_row, spends_token, by_verdict, grant_stays, each_edits}
use Rattle.std.specs.Option.{is_some}
use Rattle.drm_index_array.proofs.Edits.{listed, none_edited}
use Rattle.drm_model.proofs.StepNumbers.{master-new}

-- the two lists that are read
abbrev HaveEnded : ℕ → Rows → Type 0
HaveEnded m w = (list_any (is_grant_of m) w.grants ≡ false) × (list_any (is_open_lease m) w.masters ≡ false)

other : (m n : ℕ) → m ≤ n → (n + 1 == m) ≡ false
other m n h = flipped m (n + 1) (less-differ m (n + 1) (omega (arith, h)))

untokened : (m : ℕ) (b : Bool) (row : MasterRow) → is_open_lease m row ≡ false
    → is_open_lease m (if b then record row { lease_token = None } else row) ≡ false
untokened m true row h = and_right (row.master == m) false refl
untokened m false row h = h

-- a new master is another, and so is that of new grants
new_grants-other : (w : Rows) (event : Event) (m : ℕ) → m ≤ w.steps
    → list_any (is_grant_of m) (new_grants w event) ≡ false
new_grants-other w (Ask c (CreateLease ids)) m old =
    list_any-map (is_grant_of m) (grant (step_number w)) (leased w c ids)
    ∙ none_each (λ x. step_number w == m) (λ x. other m w.steps old) (leased w c ids)
new_grants-other w (Ask c call) m old = refl
new_grants-other w (Open opening) m old = refl
new_grants-other w (Close c) m old = refl

new_master-other : (w : Rows) (m : ℕ) → m ≤ w.steps → (o : Option MasterRow)
    → IfSome o (λ row. row.master ≡ step_number w) → list_any (is_open_lease m) (listed o) ≡ false
new_master-other w m old None fresh = refl
new_master-other w m old (Some row) fresh =
    ap (λ b. b && is_some row.lease_token || false) (ap (λ n. n == m) fresh ∙ other m w.steps old)

changed-still : (w : Rows) (event : Event) (m : ℕ) → m ≤ w.steps → HaveEnded m w → HaveEnded m (changed w event)
changed-still w event m old h =
    let is = each_edits w event in (
      ap (list_any (is_grant_of m)) (ap (λ (v : Rows). v.grants) is)
          ∙ none_edited (grant_stays w event) (λ row. row) (new_grants w event) w.grants (is_grant_of m) (λ row k. k)
          (new_grants-other w event m old) h.0,
      ap (list_any (is_open_lease m)) (ap (λ (v : Rows). v.masters) is)
          ∙ none_edited (λ row. true) (master_after w event) (listed (new_master_row w event)) w.masters
          (is_open_lease m) (λ row k. untokened m (spends_token w event row) row k)
          (new_master-other w m old (new_master_row w event) (master-new w event)) h.1,
    )

swept-still : (w : Rows) (m : ℕ) → HaveEnded m w → HaveEnded m (journaled (swept w))
unfolding swept
swept-still w m h = (h.0, none_filtered (is_open_lease m) (λ row. is_living w row.master) w.masters h.1)

after-still : (m : ℕ) (w : Rows) (event : Event) → (m ≤ w.steps) × HaveEnded m w
    → (m ≤ (after w event).steps) × HaveEnded m (after w event)
after-still m w event h = (
  let old = h.0 in let more = after-steps w event in omega (arith, old, more),
  by_verdict (HaveEnded m) w event h.1 (λ accepted. swept-still (changed w event) m (changed-still w event m h.0 h.1)),
)

-- A master that has no grant and no open lease token has none after any further events.
pub stays_ended : (w : Rows) (events : List Event) (m : ℕ) → m ≤ w.steps → HasEnded w m → HasEnded (run w events) m
stays_ended w events m old h = let k = along (λ v. (m ≤ v.steps) × HaveEnded m v) (after-still m) events w (old, (h.grants, h.lease_token)) in record { grants = k.1.0; lease_token = k.1.1 }
