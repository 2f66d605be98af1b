use Rattle.std.proofs.Common.{◌≡◌, sym, ap, ◌∙◌}
use Rattle.drm_id_alloc.specs.Kept.{array_of}
use Rattle.drm_id_alloc.proofs.NumberLemmas.{single, single_again}
use Rattle.drm_id_alloc.proofs.numbers.Numbers.note.Goals as goal

pub returns-then-only-number-clause-ok : goal.returns-then-only-number-clause-ok
returns-then-only-number-clause-ok c =
    let is : single c.in-One.only ≡ c.args.self.now = ap array_of (sym c.in-One.is) ∙ c.self.view_is in
    rw (← is) (single_again c.in-One.only c.args.number c.if-only-number.true)
