use Rattle.std.proofs.Common.{◌≡◌, false, not, None, Some, is_some, option_copied, ap, sym, ◌∙◌, arith}
use Rattle.drm_id_alloc.proofs.TableLemmas.{none_within, past_within, some_within, found_low, fresh_of}
use Rattle.drm_id_alloc.proofs.SearchLemmas.{free_at_start}
use Rattle.drm_id_alloc.proofs.table.IdTable.free_from.Goals as goal

pub returns-then-is_none-clause-least : goal.returns-then-is_none-clause-least
returns-then-is_none-clause-least g c =
    let absent = elim c.get.result as (λ r. is_some r ≡ false → is_some (option_copied r) ≡ false) [
      | None ↦ λ none. none
      | Some _ ↦ λ none. none
    ] (c.is_none.ensures ∙ ap not c.if-is_none.true) in
    rw (← c.self.view_is)
    (free_at_start _ c.args.from c.self.inside.last c.if-from-self.true (ap is_some (sym c.get.ensures.value) ∙ absent))

pub returns-in_default-clause-least : goal.returns-in_default-clause-least
returns-in_default-clause-least g c =
    rw (← c.self.view_is)
    (none_within _ c.args.from c.self.inside.last 4294967295 c.self.invariant.within.fits c.in_default.ensures)

pub returns-then-id-self-clause-least : goal.returns-then-id-self-clause-least
returns-then-id-self-clause-least g c =
    rw (← c.self.view_is)
    (past_within _ c.args.from c.self.inside.last 4294967295 c.self.invariant.within.fits c.in-Some.id c.in-Some.ensures (omega (arith, c.if-id-self.true)))

pub returns-clause-least : goal.returns-clause-least
returns-clause-least g c =
    rw (← c.self.view_is)
    (some_within _ c.args.from c.self.inside.last 4294967295 c.self.invariant.within.fits c.in-Some.id c.in-Some.ensures (omega (arith, c.if-id-self.false)))

pub returns-clause-fresh : goal.returns-clause-fresh
returns-clause-fresh g c = rw (← c.self.view_is) (fresh_of _ c.args.from 4294967295 c.in-Some.id c.in-Some.ensures)

pub returns-clause-low : goal.returns-clause-low
returns-clause-low g c =
    found_low _ c.args.from c.self.inside.last 4294967295 c.self.invariant.within.fits c.in-Some.id c.in-Some.ensures
