-- What is left in more than one step.
use Rattle.std.proofs.Common.{◌≡◌, ℕ, true, List, refl, sym, ap, ◌∙◌}
use Rattle.drm_index_array.specs.Numbers.{is_among}
use Rattle.drm_index_array.proofs.Lists.{all_each, filter_all, filter-both, filter-same}
use Rattle.drm_index_array.proofs.Numbers.{fewer_among}
use Rattle.drm_gem.specs.Objects.{ObjectSet}
use Rattle.drm_share.specs.declared.rows.SharedName.{SharedName}
use Rattle.drm_share.specs.Names.{NameList}
use Rattle.drm_state.specs.Invariants.{AreCounted, AreNamed, Leaves, names_among}
use Rattle.drm_state.proofs.Counting.{all_named, and_weaker, named_trans}

-- If handles name the object of each name, all names stay.
pub names_stay : (names : NameList) (keys : List ℕ) → AreNamed keys names.names → names ≡ names_among keys names
names_stay names keys h =
    ap (λ l. record names { names = l }) (sym (filter_all (λ (x : SharedName). is_among keys x.object) names.names h))

-- If all keys stay, nothing is removed.
pub leaves_all : (names : NameList) (objects : ObjectSet) (keys refs : List ℕ) → AreCounted keys refs objects.objects
    → AreNamed keys names.names → Leaves names objects keys refs names objects
leaves_all names objects keys refs invariants named =
    record
    { invariants = invariants; those = all_named keys refs objects.objects invariants; limit = refl; names = names_stay names keys named }

-- of those that are named, those that fewer handles name
fewer_names : (names : NameList) (keys fewer : List ℕ) → ((n : ℕ) → is_among fewer n ≡ true → is_among keys n ≡ true)
    → names_among fewer (names_among keys names) ≡ names_among fewer names
fewer_names names keys fewer f =
    ap (λ l. record names { names = l }) (filter-both (λ (x : SharedName). is_among fewer x.object) (λ (x : SharedName). is_among keys x.object) names.names
    ∙ filter-same _ (λ (x : SharedName). is_among fewer x.object) names.names (all_each _ (λ x. and_weaker (is_among keys x.object) (is_among fewer x.object) (f x.object)) names.names))

-- What fewer handles leave of what some handles leave is what the fewer handles leave.
pub leaves_trans : (names middle now : NameList) (objects set new : ObjectSet) (keys fewer refs : List ℕ)
    → ((n : ℕ) → is_among fewer n ≡ true → is_among keys n ≡ true) → Leaves names objects keys refs middle set
    → Leaves middle set fewer refs now new → Leaves names objects fewer refs now new
leaves_trans names middle now objects set new keys fewer refs f h k = record {
  invariants = k.invariants;
  those =
      named_trans objects.objects set.objects new.objects _ _ (λ n e. fewer_among fewer keys refs n (f n) e) h.those
      k.those;
  limit = k.limit ∙ h.limit;
  names = k.names ∙ ap (names_among fewer) h.names ∙ fewer_names names keys fewer f;
}
