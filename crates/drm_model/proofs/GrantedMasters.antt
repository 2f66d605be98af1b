-- Steps made the masters that grants name, along a run.
use Rattle.std.proofs.Common.{ℕ, ◌+◌, ◌≤◌, List, [], ◌∷◌, map, sym, subst, arith, ap}
use Rattle.std.specs.List.{AllByRecursion}
use Rattle.drm_index_array.proofs.Lists.{all_weaker}
use Rattle.drm_index_array.proofs.Edits.{all_edited}
use Rattle.drm_table.specs.declared.calls.Call.TheVariants.{CreateLease}
use Rattle.drm_table.specs.declared.events.Event.{Event}
use Rattle.drm_table.specs.declared.events.Event.TheVariants.{Open, Ask, Close}
use Rattle.drm_model.specs.StepNumbers.{GrantsMade}
use Rattle.drm_model.specs.Rows.{Rows, GrantRow, step_number, empty_rows}
use Rattle.drm_model.specs.Leases.{grant, leased}
use Rattle.drm_model.specs.Change.{after, changed, swept, journaled}
use Rattle.drm_model.specs.Run.{rows_of, DeviceValue}
use Rattle.drm_model.proofs.EventChanges.{new_grants, by_verdict, along, grant_stays, each_edits}
use Rattle.drm_model.proofs.Journals.{after-steps}

later : (w : Rows) → GrantsMade w.steps w → GrantsMade (step_number w) w
later w h =
    all_weaker (λ (row : GrantRow). row.master ≤ w.steps) (λ (row : GrantRow). row.master ≤ w.steps + 1)
    (λ row k. omega (arith, k)) w.grants h

of_one : (m last : ℕ) → m ≤ last → (ids : List ℕ)
    → AllByRecursion (λ (row : GrantRow). row.master ≤ last) (map (grant m) ids)
of_one m last h [] = tt
of_one m last h (x ∷ xs) = (h, of_one m last h xs)

new-made : (w : Rows) (event : Event)
    → AllByRecursion (λ (row : GrantRow). row.master ≤ step_number w) (new_grants w event)
new-made w (Ask c (CreateLease ids)) = of_one (step_number w) (step_number w) (omega arith) (leased w c ids)
new-made w (Ask c call) = tt
new-made w (Open opening) = tt
new-made w (Close c) = tt

changed-made : (w : Rows) (event : Event) → GrantsMade w.steps w → GrantsMade (step_number w) (changed w event)
changed-made w event h =
    subst (AllByRecursion (λ (row : GrantRow). row.master ≤ step_number w))
    (sym (ap (λ (v : Rows). v.grants) (each_edits w event)))
    (all_edited (grant_stays w event) (λ row. row) (new_grants w event) w.grants (λ row. row.master ≤ step_number w) (λ row. row.master ≤ step_number w) (λ row old _. old) (new-made w event) (later w h))

swept-made : (w : Rows) (last : ℕ) → GrantsMade last w → GrantsMade last (journaled (swept w))
unfolding swept
swept-made w last h = h

-- If earlier steps made the masters of all grants, that is still so after any event.
pub after-made : (w : Rows) (event : Event) → GrantsMade w.steps w → GrantsMade (after w event).steps (after w event)
after-made w event h =
    subst (λ n. GrantsMade n (after w event)) (sym (after-steps w event))
    (by_verdict (GrantsMade (step_number w)) w event (later w h) (λ accepted. swept-made (changed w event) (step_number w) (changed-made w event h)))

-- In the rows of any history, steps made the masters of all grants.
pub grants_made : (h : DeviceValue) → GrantsMade (rows_of h).steps (rows_of h)
unfolding rows_of
grants_made h = along (λ w. GrantsMade w.steps w) after-made h.journal (empty_rows h.topology h.limits) tt
