-- The objects in their slab.
use Rattle.std.proofs.Common.{◌≡◌, ℕ, ◌==◌, Bool, true, false, not, cond, ◌&&◌, List, [], ◌∷◌, map, filter, find, option_map, Some, None, refl, sym, ap, ◌∙◌, subst, nat_cmp}
use Rattle.std.specs.Prelude.{if◌then◌else◌}
use Rattle.std.specs.List.{AllByRecursion}
use Rattle.std.specs.FinMap as fin
use Rattle.std.proofs.lemmas.Bool.{eqb-true}
use Rattle.slab.specs.Slab.{Slab, get, Updates}
use Rattle.drm_index_array.specs.Orders.{InOrder}
use Rattle.drm_index_array.proofs.Lists.{all_weaker, filter-same}
use Rattle.drm_index_array.proofs.Numbers.{flipped}
use Rattle.drm_keys.specs.Keys.{rows_in, IsKeyed}
use Rattle.drm_keys.proofs.KeyLemmas.{only_one, replaced, removed}
use Rattle.drm_gem.specs.declared.object.Object.{Object}
use Rattle.drm_gem.specs.Fields.{nothing, key_of, step_number_of}
use Rattle.drm_gem.specs.Objects.{ObjectSet, object_at, is_key, is_unused, dead_of, dead_after}

alike : (p q : Object → Bool) (f : Object → Object) → (xs : List Object) → AllByRecursion (λ x. p x ≡ q x) xs
    → map (λ z. if p z then f z else z) xs ≡ map (λ z. if q z then f z else z) xs
alike p q f [] h = refl
alike p q f (x ∷ xs) h = λ i. (if h.0 i then f x else x) ∷ alike p q f xs h.1 i

module _ (keys : fin.FinMap nat_cmp ℕ) (slab : Slab Object) (keyed : IsKeyed key_of step_number_of keys slab) (k : ℕ) (x : Object) (new : Slab Object) (there : get slab k ≡ Some x) where
  abbrev all : List Object
  all = rows_in nothing slab (fin.entries keys)

  one : AllByRecursion (λ (z : Object). (z.step_number == x.step_number) ≡ (z.key == k)) all
  one = only_one key_of step_number_of nothing keys slab keyed k x there

  -- A changed object is changed in the list.
  pub changed : (f : Object → Object) → (f x).step_number ≡ x.step_number → (f x).key ≡ x.key
      → Updates slab new k (Some (f x))
      → rows_in nothing new (fin.entries keys) ≡ map (λ (z : Object). if z.key == k then f z else z) all
  changed f same_step same_key up =
      replaced key_of step_number_of nothing keys slab keyed k x f new there same_step same_key up
      ∙ alike (λ z. z.step_number == x.step_number) (is_key k) f all one

  -- A removed object is removed from the list.
  pub gone : Updates slab new k None
      → rows_in nothing new (fin.entries (fin.remove keys x.step_number)) ≡ filter (λ (z : Object). not (z.key == k)) all
  gone up =
      removed key_of step_number_of nothing keys slab keyed k x new there up
      ∙ filter-same (λ (z : Object). not (z.step_number == x.step_number)) (λ (z : Object). not (z.key == k)) all
      (all_weaker (λ (z : Object). (z.step_number == x.step_number) ≡ (z.key == k)) (λ (z : Object). not (z.step_number == x.step_number) ≡ not (z.key == k)) (λ z e. ap not e) all one)

-- ---- what is left of the object of a key

none_other : (k : ℕ) (f : Object → Object) (x : Object) → x.key ≡ k → (xs : List Object)
    → AllByRecursion (λ (y : Object). (x.key == y.key) ≡ false) xs
    → find (λ (z : Object). is_key k z && is_unused (f z)) xs ≡ None
none_other k f x e [] h = refl
none_other k f x e (y ∷ ys) h =
    ap (λ b. cond (b && is_unused (f y)) (Some y) (find (λ (z : Object). is_key k z && is_unused (f z)) ys))
    (flipped k y.key (ap (λ n. n == y.key) (sym e) ∙ h.0))
    ∙ none_other k f x e ys h.1

dead-same : (k : ℕ) (f : Object → Object) → (xs : List Object) (x : Object)
    → InOrder (λ (y z : Object). (y.key == z.key) ≡ false) xs → find (is_key k) xs ≡ Some x →
    option_map dead_of (find (λ (z : Object). is_key k z && is_unused (f z)) xs) ≡
    (if is_unused (f x) then Some (dead_of x) else None)
dead-same k f [] x h e = absurd (let n : None ≡ Some x = e in cc)
dead-same k f (z ∷ zs) x h e =
    elim (z.key == k) as (λ b. (z.key == k) ≡ b → cond b (Some z) (find (is_key k) zs) ≡ Some x →
    option_map dead_of (cond (b && is_unused (f z)) (Some z) (find (λ (o : Object). is_key k o && is_unused (f o)) zs)) ≡ (if is_unused (f x) then Some (dead_of x) else None)) [
      | true ↦ λ is j.
          let same : z ≡ x = let s : Some z ≡ Some x = j in cc in
          subst
          (λ (o : Object). option_map dead_of (cond (is_unused (f z)) (Some z) (find (λ (o : Object). is_key k o && is_unused (f o)) zs)) ≡ (if is_unused (f o) then Some (dead_of o) else None))
          same
          (ap (λ r. option_map dead_of (cond (is_unused (f z)) (Some z) r)) (none_other k f z (eqb-true z.key k is) zs h.0) ∙ elim (is_unused (f z)) as (λ b. option_map dead_of (cond b (Some z) None) ≡ (if b then Some (dead_of z) else None)) [ true ↦ refl | false ↦ refl ])
      | false ↦ λ is j. dead-same k f zs x h.1 j
    ] refl e

-- A change of an object frees it if and only if the changed object is unused.
pub dead_is : (k : ℕ) (f : Object → Object) (set : ObjectSet) (x new : Object)
    → InOrder (λ (y z : Object). (y.key == z.key) ≡ false) set.objects → object_at set k ≡ Some x → f x ≡ new
    → dead_after f set k ≡ (if is_unused new then Some (dead_of x) else None)
dead_is k f set x new differ there is =
    dead-same k f set.objects x differ there ∙ ap (λ (y : Object). if is_unused y then Some (dead_of x) else None) is
