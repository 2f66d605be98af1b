use Rattle.std.proofs.Common.{◌≡◌, sym, ap, ◌∙◌}
use Rattle.drm_id_alloc.specs.Kept.{array_of}
use Rattle.drm_id_alloc.proofs.NumberLemmas.{single, single_len}
use Rattle.drm_id_alloc.proofs.numbers.Numbers.len.Goals as goal

pub returns-in-One : goal.returns-in-One
returns-in-One c =
    let is : single c.in-One.field-0 ≡ c.args.self.now = ap array_of (sym c.in-One.is) ∙ c.self.view_is in
    rw (← is) (sym (single_len c.in-One.field-0))
