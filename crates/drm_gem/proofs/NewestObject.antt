-- An object younger than all others.
use Rattle.std.proofs.Common.{◌≡◌, ℕ, ◌<◌, ◌==◌, true, false, List, [], ◌∷◌, ◌++◌, ap}
use Rattle.std.proofs.lemmas.Bool.{lt-ltb}
use Rattle.drm_index_array.proofs.Lists.{all_weaker}
use Rattle.drm_index_array.proofs.Numbers.{less-differ}
use Rattle.drm_index_array.proofs.Placed.{placed_last}
use Rattle.drm_gem.specs.declared.object.Object.{Object}
use Rattle.drm_gem.specs.Objects.{ObjectSet, IsNewStepNumber, IsUnusedBirth, is_older, new_object, with_object}

-- A step number above all others is unused.
pub newest_unused : (set : ObjectSet) (birth : ℕ) → IsNewStepNumber set birth → IsUnusedBirth set birth
newest_unused set birth newest =
    all_weaker (λ (x : Object). x.step_number < birth) (λ (x : Object). (x.step_number == birth) ≡ false)
    (λ x less. less-differ x.step_number birth less) set.objects newest

-- The place of an object newer than all others is the end.
pub newest_last : (set : ObjectSet) (key birth size : ℕ) → IsNewStepNumber set birth
    → with_object set key birth size ≡ record set { objects = set.objects ++ new_object key birth size ∷ [] }
newest_last set key birth size newest =
    let x = new_object key birth size in
    ap (λ (os : List Object). record set { objects = os })
    (placed_last (λ (y : Object). is_older y x) x set.objects (all_weaker (λ (y : Object). y.step_number < birth) (λ (y : Object). is_older y x ≡ true) (λ y less. lt-ltb y.step_number birth less) set.objects newest))
