use Rattle.std.proofs.Common.{◌∙◌, ap, sym}
use Rattle.std.specs.FinMap as map
use Rattle.drm_index_array.specs.Slots.{below}
use Rattle.drm_index_array.proofs.EditLemmas.{none_below}
use Rattle.drm_index_array.proofs.tree.is_hollow.Goals as goal

pub returns-in-Child-clause-none : goal.returns-in-Child-clause-none
returns-in-Child-clause-none g c =
    λ empty r. ap (λ s. below s r) c.in-Child.is ∙ ap (λ t. map.get t.items r) (sym c.deref.ensures) ∙ none_below _ (c.is_empty.ensures.0 empty) r
