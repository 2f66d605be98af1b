use Rattle.std.proofs.Common.{◌≡◌, ℕ, ◌+◌, ◌<◌, Global, Vec, map, refl, sym, ◌∙◌, ap, subst}
use Rattle.std.specs.Prelude.{AllPairs}
use Rattle.std.specs.BTreeMap.{get, is_at}
use Rattle.std.specs.Map.{lookup}
use Rattle.std.specs.Ordering.{nat_cmp}
use Rattle.std.proofs.lemmas.List.{take_all}
use Rattle.std.proofs.lemmas.Result.{IfOk-weaker}
use Rattle.drm_model.specs.Rows.{is_option}
use Rattle.drm_trails.specs.Handles.{held_of, is_given_at, is_held_since, step_of_gift}
use Rattle.drm_trails.specs.Searches.{last_gift}
use Rattle.drm_trails.specs.Steps.{history_of}
use Rattle.drm_trails.specs.declared.handles.Held.{Held}
use Rattle.drm_trails.proofs.HandleLemmas.{listed-held, listed-rising, handles_more, handles_none, is_step_of}
use Rattle.drm_trails.proofs.handles.handles_of.Goals as goal

pub loop-step-init : goal.loop-step-init
loop-step-init c =
    record
    { count = refl; told = λ h. ap (lookup (is_at (nat_cmp h))) c.new-held.ensures.empty ∙ sym (handles_none c.args.client h) }

pub loop-step-preserved : goal.loop-step-preserved
loop-step-preserved c = record {
  count = ap (λ n. n + 1) c.loop-step.invariant.count;
  told = λ h.
      handles_more c.args.steps.now c.loop-step.step-index (c.loop-step.number + 1) c.args.client h c.step-item.result
      (get nat_cmp c.loop-step.held h) (get nat_cmp c.note_step.new.held h)
      c.loop-step-test.true c.step-item.is (ap (λ n. n + 1) c.loop-step.invariant.count) (c.loop-step.invariant.told h)
      (c.in_ok-note_step.ensures h);
}

pub returns-clause-held : goal.returns-clause-held
returns-clause-held c =
    let Is : Vec Held Global → Type 0 = λ list. list.items ≡ map held_of c.loop-step.held.entries in
    let Tells : Vec Held Global → Type 0 =
    λ list. (h s : ℕ) → is_held_since list.items h s ≡ is_given_at
    (last_gift (history_of c.args.steps.now) c.args.client h) s in
    IfOk-weaker c.listed.result Is Tells
    (λ list is. λ h s.
    ap (λ items. is_held_since items h s) is
    ∙ listed-held c.loop-step.held.entries c.listed.ensures.ordered h s
    ∙ ap (is_option s)
    (c.loop-step.invariant.told h ∙ ap (λ steps. step_of_gift (last_gift (history_of steps) c.args.client h)) (take_all c.loop-step.step-index c.args.steps.now c.loop-step-test.false))
    ∙ is_step_of (last_gift (history_of c.args.steps.now) c.args.client h) s)
    c.listed.ensures.entries

pub returns-clause-rising : goal.returns-clause-rising
returns-clause-rising c =
    let Rise = AllPairs (λ (one other : Held). one.handle < other.handle) in
    let Is : Vec Held Global → Type 0 = λ list. list.items ≡ map held_of c.loop-step.held.entries in
    IfOk-weaker c.listed.result Is (λ list. Rise list.items)
    (λ list is. subst Rise (sym is) (listed-rising c.loop-step.held.entries c.listed.ensures.ordered))
    c.listed.ensures.entries
