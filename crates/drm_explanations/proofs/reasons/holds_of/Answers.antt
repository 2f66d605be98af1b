use Rattle.std.proofs.Common.{◌≡◌, ℕ, ◌+◌, ◌<◌, ◌==◌, ◌&&◌, true, List, length, get_or, take, refl, sym, ◌∙◌, ap, subst, eq-eqb}
use Rattle.std.specs.Prelude.{AllPairs}
use Rattle.std.specs.List.{AllByRecursion}
use Rattle.std.proofs.lemmas.List.{take_all}
use Rattle.std.proofs.lemmas.List.Folds.{list_any_at}
use Rattle.std.proofs.lemmas.Option.{get_or_from_slice_get, slice_get-get_or}
use Rattle.drm_trails.specs.Handles.{is_given_at, is_held_since}
use Rattle.drm_trails.specs.Searches.{last_gift}
use Rattle.drm_trails.specs.Steps.{history_of}
use Rattle.drm_trails.specs.declared.handles.Held.{Held}
use Rattle.drm_trails.specs.declared.steps.Step.{Step}
use Rattle.drm_explanations.specs.declared.rows.HandleRow.{HandleRow}
use Rattle.drm_explanations.proofs.HoldLemmas.{AreRows, IsShown, all_rows, no_rows, with_row, without_row}
use Rattle.drm_explanations.proofs.reasons.holds_of.Goals as goal
use Rattle.drm_explanations.proofs.reasons.holds_of.Goals.{in-Some+in_ok-hold_row+in_ok-push, in_default}

-- the handles that were found are those that a step assigned
are_given : (client : ℕ) (trail steps : List Step) (held found : List Held) → steps ≡ trail → held ≡ found
    → ((h s : ℕ) → is_held_since found h s ≡ is_given_at (last_gift (history_of steps) client h) s) → (h s : ℕ)
    → is_held_since held h s ≡ is_given_at (last_gift (history_of trail) client h) s
are_given client trail steps held found same is are h s =
    ap (λ (items : List Held). is_held_since items h s) is ∙ are h s
    ∙ ap (λ (steps : List Step). is_given_at (last_gift (history_of steps) client h) s) same

-- a handle that is read
read_at : (held : List Held) (n : ℕ) (d : Held) → n < length held → get_or held n d ≡ get_or held n (get_or held n d)
read_at held n d within =
    sym (get_or_from_slice_get held n (get_or held n d) (get_or held n d) (slice_get-get_or held n d within))

pub loop-one-init : goal.loop-one-init
loop-one-init c =
    let history = history_of c.args.trail.now in
    subst (AreRows history c.args.client c.deref-one-items.result.now 0) (sym c.new-rows.ensures.items)
    (no_rows history c.args.client c.deref-one-items.result.now)

pub loop-one-preserved : goal.loop-one-preserved
loop-one-preserved c =
    let told = c.loop-one.invariant in
    let history = history_of c.args.trail.now in
    let client = c.args.client in
    let held = c.deref-one-items.result.now in
    let n = c.loop-one.one-index in
    let none : Held = record { handle = 0; step = 0 } in
    let one : Held = get_or held n none in
    let within : n < length held = c.loop-one-test.true in
    let rise =
    subst (AllPairs (λ (x y : Held). x.handle < y.handle)) (sym c.deref-one-items.ensures.value)
    c.in_ok-held.ensures.rising in
    let listed =
    list_any_at (λ (x : Held). (x.handle == one.handle) && (x.step == one.step)) held n none within
    (λ i. eq-eqb one.handle one.handle refl i && eq-eqb one.step one.step refl i) in
    let given : is_given_at (last_gift history client one.handle) one.step ≡ true =
    sym (are_given client c.args.trail.now c.steps-steps.result.now held _ c.steps-steps.ensures c.deref-one-items.ensures.value c.in_ok-held.ensures.held one.handle one.step) ∙ listed in
    elim c.match-object_assigned.branch [
      | in-Some+in_ok-hold_row+in_ok-push w ↦
          let has = w.in-Some.ensures.object client one.handle given in
          subst (λ (rows : List HandleRow). AreRows history client held (n + 1) rows)
          (sym (ap (λ told. told.items) w.rows-is ∙ w.in_ok-push.ensures.items))
          (with_row history client held rise n one within (read_at held n none within) c.loop-one.rows.items told w.in_ok-hold_row.field-0 w.in-Some.object w.in_ok-hold_row.ensures.handle w.in_ok-hold_row.ensures.object has)
      | in_default w ↦
          let nothing = w.in_default.ensures.none client one.handle given in
          subst (λ (rows : List HandleRow). AreRows history client held (n + 1) rows)
          (sym (ap (λ told. told.items) w.rows-is))
          (without_row history client held rise n one within (read_at held n none within) c.loop-one.rows.items told nothing)
    ]

pub returns : goal.returns
returns c =
    let history = history_of c.args.trail.now in
    let client = c.args.client in
    let held = c.deref-one-items.result.now in
    let rows = c.loop-one.rows.items in
    let all : take c.loop-one.one-index held ≡ held = take_all c.loop-one.one-index held c.loop-one-test.false in
    let told = c.loop-one.invariant in
    let are =
    are_given client c.args.trail.now c.steps-steps.result.now held _ c.steps-steps.ensures c.deref-one-items.ensures.value c.in_ok-held.ensures.held in
    record {
      rising = told.rising;
      had = told.had;
      each =
          all_rows history client held rows are
          (λ of_device. subst (AllByRecursion (IsShown history client rows)) all (told.each of_device));
    }
