use Rattle.std.proofs.Common.{◌≡◌, sym, ap, ◌∙◌, arith}
use Rattle.drm_id_alloc.specs.Kept.{array_of}
use Rattle.drm_id_alloc.proofs.NumberLemmas.{single, single_past, single_first}
use Rattle.drm_id_alloc.proofs.numbers.Numbers.nth.Goals as goal

pub returns-then-position-gt0 : goal.returns-then-position-gt0
returns-then-position-gt0 c =
    let is : single c.in-One.only ≡ c.args.self.now = ap array_of (sym c.in-One.is) ∙ c.self.view_is in
    rw (← is) (single_past c.in-One.only c.args.position c.if-position-gt0.true)

pub returns-else-position-gt0 : goal.returns-else-position-gt0
returns-else-position-gt0 c =
    let is : single c.in-One.only ≡ c.args.self.now = ap array_of (sym c.in-One.is) ∙ c.self.view_is in
    rw (← is) (single_first c.in-One.only c.args.position (omega (arith, c.if-position-gt0.false)))
