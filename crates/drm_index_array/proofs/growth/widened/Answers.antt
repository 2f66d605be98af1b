use Rattle.std.proofs.Common.{◌∙◌, ap, sym}
use Rattle.std.specs.FinMap as map
use Rattle.drm_index_array.specs.Marked.{unmarked}
use Rattle.drm_index_array.proofs.growth.widened.Goals as goal

pub returns-in-Ok-sole-clause-ok : goal.returns-in-Ok-sole-clause-ok
returns-in-Ok-sole-clause-ok g c =
    let empty = map.empty_of_len _ (rw c.deref.ensures at (c.is_empty.ensures.0 c.if-is_empty.true)) in
    rw c.in-Some.is
    (c.in-Ok-sole.ensures.items ∙ ap (λ m. map.insert m c.args.index (unmarked c.args.value)) (sym empty))
