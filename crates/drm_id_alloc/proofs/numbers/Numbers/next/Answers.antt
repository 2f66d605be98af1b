use Rattle.std.proofs.Common.{◌≡◌, sym, ap, ◌∙◌, arith}
use Rattle.drm_id_alloc.specs.Kept.{array_of}
use Rattle.drm_id_alloc.proofs.NumberLemmas.{single, single_below, single_above, single_least}
use Rattle.drm_id_alloc.proofs.numbers.Numbers.next.Goals as goal

pub returns-then-only-from-clause-least : goal.returns-then-only-from-clause-least
returns-then-only-from-clause-least c =
    let is : single c.in-One.only ≡ c.args.self.now = ap array_of (sym c.in-One.is) ∙ c.self.view_is in
    rw (← is) (single_below c.in-One.only c.args.from 4294967295 c.if-only-from.true)

pub returns-then-only-from-clause-none_above : goal.returns-then-only-from-clause-none_above
returns-then-only-from-clause-none_above c =
    let is : single c.in-One.only ≡ c.args.self.now = ap array_of (sym c.in-One.is) ∙ c.self.view_is in
    rw (← is) (single_above c.in-One.only c.args.from c.if-only-from.true)

pub returns-else-only-from-clause-least : goal.returns-else-only-from-clause-least
returns-else-only-from-clause-least c =
    let is : single c.in-One.only ≡ c.args.self.now = ap array_of (sym c.in-One.is) ∙ c.self.view_is in
    rw (← is) (single_least c.in-One.only c.args.from 4294967295 c.if-only-from.false (omega arith))
