-- The heights of subtrees: each is lower than the node that holds it (own).
use Rattle.std.specs.Prelude.{ℕ, ◌≤◌, List, [], ◌∷◌}
use Rattle.std.proofs.Common.{arith}
use denote.Param.Weighed.{most}
use Rattle.drm_index_array.specs.declared.tree.Slot.{Slot}
use Rattle.drm_index_array.specs.declared.tree.Slot.TheVariants.{Vacant, Value, Child}
use Rattle.drm_index_array.specs.declared.tree.Node.TheInside.{Inside}
use Rattle.drm_index_array.specs.declared.tree.Node.TheDeep.{deep-Node, deep-Slot}
use Rattle.drm_index_array.specs.Slots.{AllFit, IsNode}

module _ {T : Type 0} where
  -- no subtree is as high as the node
  most_falls : (height : ℕ) (slots : List (Slot T)) → AllFit height slots → most (λ s. deep-Slot T s) slots ≤ height
  most_falls height [] fit = omega arith
  most_falls height (Vacant ∷ ss) fit = omega (arith, most_falls height ss fit.1)
  most_falls height (Value v ∷ ss) fit = omega (arith, most_falls height ss fit.1)
  most_falls height (Child b ∷ ss) fit = omega (arith, fit.0, most_falls height ss fit.1)

  pub height_falls : (a : Inside T) → IsNode a.height a.slots.items a.words a.count → deep-Node T a ≤ a.height
  height_falls a h = omega (arith, most_falls a.height a.slots.items h.sound.all_fit)
