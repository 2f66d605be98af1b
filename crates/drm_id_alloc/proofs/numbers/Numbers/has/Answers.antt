use Rattle.std.proofs.Common.{◌≡◌, sym, ap, ◌∙◌}
use Rattle.drm_id_alloc.specs.Kept.{array_of}
use Rattle.drm_id_alloc.proofs.NumberLemmas.{single, single_has}
use Rattle.drm_id_alloc.proofs.numbers.Numbers.has.Goals as goal
use Rattle.drm_index_array.proofs.Numbers.{same_either}

pub returns-in-One : goal.returns-in-One
returns-in-One c =
    let is : single c.in-One.only ≡ c.args.self.now = ap array_of (sym c.in-One.is) ∙ c.self.view_is in
    rw (← is) (same_either c.in-One.only c.args.number ∙ sym (single_has c.in-One.only c.args.number))
