-- What is freed with a handle: the name of its object with the last one, and the object with the last that refers to
-- it.
use Rattle.std.proofs.Common.{◌≡◌, ℕ, suc, ◌==◌, Bool, true, false, not, ◌||◌, List, ◌∷◌, Option, Some, refl, sym, ap, ◌∙◌, arith, eq-eqb}
use Rattle.std.specs.Option.{option_map, OnSome, IfNone}
use Rattle.std.proofs.lemmas.Bool.Decides.{nat_tests}
use Rattle.drm_index_array.specs.Numbers.{is_among, count}
use Rattle.drm_index_array.proofs.Lists.{all_weaker, filter-same, filter_all}
use Rattle.drm_index_array.proofs.Numbers.{count-none}
use Rattle.drm_gem.specs.declared.object.Object.{Object}
use Rattle.drm_gem.specs.declared.object.Dead.{Dead}
use Rattle.drm_gem.specs.Objects.{ObjectSet, object_at, changed_at, without_key, unheld, dead_after}
use Rattle.drm_share.specs.declared.rows.SharedName.{SharedName}
use Rattle.drm_share.specs.Names.{NameList, without_name_of}
use Rattle.drm_state.specs.Invariants.{AreCounted, AreNamed, Leaves, names_among}
use Rattle.drm_state.proofs.Counting.{left_alone, already, handle_count}
use Rattle.drm_state.proofs.Contents.{unheld_step, unhold_limit}
use Rattle.drm_index_array.proofs.Entries.{differ}

-- no other handle names the object
forgotten : (names : NameList) (k : ℕ) (keys : List ℕ) → is_among keys k ≡ false → AreNamed (k ∷ keys) names.names
    → without_name_of names k ≡ names_among keys names
forgotten names k keys none h =
    ap (λ l. record names { names = l })
    (filter-same (λ (x : SharedName). not (x.object == k)) (λ (x : SharedName). is_among keys x.object) names.names
    (all_weaker (λ (x : SharedName). is_among (k ∷ keys) x.object ≡ true) (λ (x : SharedName). not (x.object == k) ≡ is_among keys x.object) (λ x e. left_alone keys k x.object none e) names.names h))

one_yet : (keys : List ℕ) (k n : ℕ) → is_among keys k ≡ true → (k == n || is_among keys n) ≡ true
    → is_among keys n ≡ true
one_yet keys k n more h =
    elim (k == n) as (λ b. (k == n) ≡ b → (b || is_among keys n) ≡ true → is_among keys n ≡ true) [ true ↦ λ is j. already keys k n more is | false ↦ λ is j. j ] refl h

-- another one does
kept : (names : NameList) (k : ℕ) (keys : List ℕ) → is_among keys k ≡ true → AreNamed (k ∷ keys) names.names
    → names ≡ names_among keys names
kept names k keys more h =
    ap (λ l. record names { names = l })
    (sym (filter_all (λ (x : SharedName). is_among keys x.object) names.names
    (all_weaker (λ (x : SharedName). is_among (k ∷ keys) x.object ≡ true) (λ (x : SharedName). is_among keys x.object ≡ true) (λ x e. one_yet keys k x.object more e) names.names h)))

not_among : (b : Bool) → true ≡ not b → b ≡ false
not_among true h = h
not_among false h = refl

among : (b : Bool) → false ≡ not b → b ≡ true
among true h = refl
among false h = h

only_one : (n m : ℕ) → n ≡ suc m → (n == 1) ≡ (m == 0)
only_one n m h = grind (arith, nat_tests)

last_one : (keys : List ℕ) (k n : ℕ) → n ≡ suc (count keys k) → (n == 1) ≡ true → is_among keys k ≡ false
last_one keys k n e is = not_among (is_among keys k) (sym is ∙ only_one n (count keys k) e ∙ count-none keys k)

not_last : (keys : List ℕ) (k n : ℕ) → n ≡ suc (count keys k) → (n == 1) ≡ false → is_among keys k ≡ true
not_last keys k n e is = among (is_among keys k) (sym is ∙ only_one n (count keys k) e ∙ count-none keys k)

module _ (names : NameList) (set new : ObjectSet) (k n : ℕ) (keys refs : List ℕ) (dead : Option Dead) (invariants : AreCounted (k ∷ keys) refs set.objects) (named : AreNamed (k ∷ keys) names.names) (number : option_map (λ (x : Object). x.holds) (object_at set k) ≡ Some n)
    (is : dead ≡ dead_after unheld set k) (gone : OnSome dead (new ≡ without_key k set)) (stays : IfNone dead (new ≡ changed_at k unheld set)) where
  -- Without the only handle of an object, its name is removed too.
  pub leaves_last : (now : NameList) → n ≡ 1 → now ≡ without_name_of names k → Leaves names set keys refs now new
  leaves_last now one e =
      let step = unheld_step set new k keys refs dead invariants is gone stays in
      record { invariants = step.invariants; those = step.named; limit = unhold_limit set new k dead gone stays; names = e ∙ forgotten names k keys (last_one keys k n (handle_count set k keys refs n invariants number) (eq-eqb n 1 one)) named }

  -- Without one handle of several of an object, its name stays.
  pub leaves_others : (n ≡ 1 → ⊥) → Leaves names set keys refs names new
  leaves_others more =
      let step = unheld_step set new k keys refs dead invariants is gone stays in
      record { invariants = step.invariants; those = step.named; limit = unhold_limit set new k dead gone stays; names = kept names k keys (not_last keys k n (handle_count set k keys refs n invariants number) (differ n 1 more)) named }
