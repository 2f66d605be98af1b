-- Objects, and how often keys name them.
use Rattle.std.proofs.Common.{◌≡◌, ℕ, suc, ◌+◌, ◌-◌, ◌<◌, ◌==◌, Bool, true, false, cond, not, ◌&&◌, ◌||◌, List, [], ◌∷◌, ◌++◌, map, filter, find, Option, Some, None, refl, sym, ap, ◌∙◌, subst, arith, eq-eqb}
use Rattle.std.specs.Prelude.{if◌then◌else◌}
use Rattle.std.specs.List.{AllByRecursion}
use Rattle.std.specs.Option.{is_some, option_map, OnSome, IfNone}
use Rattle.std.proofs.lemmas.Bool.{eqb-true, or_left, or_right, or_parts}
use Rattle.drm_index_array.specs.Orders.{SameRows, InOrder}
use Rattle.drm_index_array.specs.Numbers.{is_among, count}
use Rattle.drm_index_array.proofs.Lists.{all_weaker, all_append, filter-same, filter-both, all_both, all_each, filter_all}
use Rattle.drm_index_array.proofs.FoundInLists.{find_others, none_found, on_some}
use Rattle.drm_index_array.proofs.Numbers.{flipped, less-differ, among-more, among-first, among-append, among-differs, count-none, count-absent, count-other, count-it}
use Rattle.drm_index_array.proofs.Orders.{in_order_filter, in_order_append, same-any}
use Rattle.drm_gem.specs.declared.object.Object.{Object}
use Rattle.drm_gem.specs.declared.object.Dead.{Dead}
use Rattle.drm_gem.specs.Objects.{ObjectSet, is_key, object_at, changed_at, without_key, held, unheld, referred, unreferred, is_unused, dead_of, dead_after}
use Rattle.drm_state.specs.Invariants.{Counts, AreCounted, AreThoseNamed, core}

not_or : (a b : Bool) → (not a && not b) ≡ not (a || b)
not_or true b = refl
not_or false b = refl

-- An object is unused exactly if no key names it.
pub unused_is : (keys refs : List ℕ) (x : Object) (n : ℕ) → x.key ≡ n → Counts keys refs x
    → is_unused x ≡ not (is_among (keys ++ refs) n)
unused_is keys refs x n e h =
    ap (λ m. (m == 0) && (x.refs == 0)) h.0 ∙ ap (λ m. (count keys x.key == 0) && (m == 0)) h.1
    ∙ ap (λ b. b && (count refs x.key == 0)) (count-none keys x.key)
    ∙ ap (λ b. not (is_among keys x.key) && b) (count-none refs x.key)
    ∙ not_or (is_among keys x.key) (is_among refs x.key) ∙ ap not (sym (among-append keys refs x.key))
    ∙ ap (λ m. not (is_among (keys ++ refs) m)) e

-- ---- what is found of a key

-- An object whose key is found has this key and what holds for all objects.
pub is_found : (k : ℕ) → (xs : List Object) → is_some (find (is_key k) xs) ≡ true → (P : Object → Type 0)
    → AllByRecursion P xs → (x : Object) × (find (is_key k) xs ≡ Some x) × (x.key ≡ k) × P x
is_found k [] h P all = absurd (let e : false ≡ true = h in cc)
is_found k (x ∷ xs) h P all =
    elim (x.key == k) as (λ b. (x.key == k) ≡ b → is_some (cond b (Some x) (find (is_key k) xs)) ≡ true → (y : Object) × (cond b (Some x) (find (is_key k) xs) ≡ Some y) × (y.key ≡ k) × P y)
    [ true ↦ λ e j. (x, refl, eqb-true x.key k e, all.0) | false ↦ λ e j. is_found k xs j P all.1 ] refl h

found_passing : (k : ℕ) (p : Object → Bool) → (xs : List Object) (x : Object) → find (is_key k) xs ≡ Some x → p x ≡ true
    → find (λ (z : Object). is_key k z && p z) xs ≡ Some x
found_passing k p [] x h e = absurd (let n : None ≡ Some x = h in cc)
found_passing k p (y ∷ ys) x h e =
    elim (y.key == k) as (λ b. cond b (Some y) (find (is_key k) ys) ≡ Some x → cond (b && p y) (Some y) (find (λ (z : Object). is_key k z && p z) ys) ≡ Some x) [
      | true ↦ λ j. let same : y ≡ x = let s : Some y ≡ Some x = j in cc in ap (λ b. cond b (Some y) (find (λ (z : Object). is_key k z && p z) ys)) (ap p same ∙ e) ∙ j
      | false ↦ λ j. found_passing k p ys x j e
    ] h

none_passing : (k : ℕ) (p : Object → Bool) → (xs : List Object)
    → AllByRecursion (λ (x : Object). (x.key == k) ≡ true → p x ≡ false) xs
    → find (λ (z : Object). is_key k z && p z) xs ≡ None
none_passing k p [] h = refl
none_passing k p (x ∷ xs) h =
    elim (x.key == k) as (λ b. (x.key == k) ≡ b → cond (b && p x) (Some x) (find (λ (z : Object). is_key k z && p z) xs) ≡ None)
    [ true ↦ λ e. ap (λ b. cond b (Some x) (find (λ (z : Object). is_key k z && p z) xs)) (h.0 e) ∙ none_passing k p xs h.1 | false ↦ λ e. none_passing k p xs h.1 ]
    refl

-- ---- the object of a key changed

-- a change that leaves the key and the number
pub record IsChange (f : Object → Object) : Type 0 where
  pub key : (x : Object) → (f x).key ≡ x.key
  pub step_number : (x : Object) → (f x).step_number ≡ x.step_number

abbrev pub at_key : ℕ → (Object → Object) → List Object → List Object
at_key k f objects = map (λ (x : Object). if x.key == k then f x else x) objects

find-changed : (n k : ℕ) (f : Object → Object) → IsChange f → (xs : List Object)
    → is_some (find (is_key n) (at_key k f xs)) ≡ is_some (find (is_key n) xs)
find-changed n k f is [] = refl
find-changed n k f is (x ∷ xs) =
    elim (x.key == k) as (λ b. is_some (find (is_key n) ((if b then f x else x) ∷ at_key k f xs)) ≡ is_some (find (is_key n) (x ∷ xs))) [
      | true ↦
          ap (λ m. is_some (cond (m == n) (Some (f x)) (find (is_key n) (at_key k f xs)))) (is.key x)
          ∙ elim (x.key == n) as (λ t. is_some (cond t (Some (f x)) (find (is_key n) (at_key k f xs))) ≡ is_some (cond t (Some x) (find (is_key n) xs))) [ true ↦ refl | false ↦ find-changed n k f is xs ]
      | false ↦ elim (x.key == n) as (λ t. is_some (cond t (Some x) (find (is_key n) (at_key k f xs))) ≡ is_some (cond t (Some x) (find (is_key n) xs))) [ true ↦ refl | false ↦ find-changed n k f is xs ]
    ]

all_changed : (P Q : Object → Type 0) (k : ℕ) (f : Object → Object)
    → ((x : Object) → (x.key == k) ≡ true → P x → Q (f x)) → ((x : Object) → (x.key == k) ≡ false → P x → Q x)
    → (xs : List Object) → AllByRecursion P xs → AllByRecursion Q (at_key k f xs)
all_changed P Q k f g o [] h = tt
all_changed P Q k f g o (x ∷ xs) h =
    (elim (x.key == k) as (λ b. (x.key == k) ≡ b → Q (if b then f x else x)) [ true ↦ λ e. g x e h.0 | false ↦ λ e. o x e h.0 ] refl, all_changed P Q k f g o xs h.1)

-- rows in an order by a number that stays
in_order_changed : (number : Object → ℕ) (k : ℕ) (f : Object → Object) → ((x : Object) → number (f x) ≡ number x)
    → (xs : List Object) → InOrder (λ x y. (number x == number y) ≡ false) xs
    → InOrder (λ x y. (number x == number y) ≡ false) (at_key k f xs)
in_order_changed number k f is [] h = tt
in_order_changed number k f is (x ∷ xs) h =
    let later : AllByRecursion (λ y. (number x == number y) ≡ false) (at_key k f xs) = all_changed (λ y. (number x == number y) ≡ false) (λ y. (number x == number y) ≡ false) k f (λ y e b. ap (λ n. number x == n) (is y) ∙ b) (λ y e b. b) xs h.0 in (
      elim (x.key == k) as (λ b. AllByRecursion (λ y. (number (if b then f x else x) == number y) ≡ false) (at_key k f xs))
          [ true ↦ all_weaker (λ y. (number x == number y) ≡ false) (λ y. (number (f x) == number y) ≡ false) (λ y b. ap (λ n. n == number y) (is x) ∙ b) (at_key k f xs) later | false ↦ later ],
      in_order_changed number k f is xs h.1,
    )

-- Objects still count what names them after one of them changed, if it counts what is new and all keys stay.
pub changed_invariants : (keys refs new_keys new_refs : List ℕ) (k : ℕ) (f : Object → Object) → IsChange f
    → ((n : ℕ) → is_among (new_keys ++ new_refs) n ≡ is_among (keys ++ refs) n) →
    ((x : Object) → (x.key == k) ≡ true → Counts keys refs x → Counts new_keys new_refs (f x))
    → ((x : Object) → (x.key == k) ≡ false → Counts keys refs x → Counts new_keys new_refs x) →
    (objects : List Object) → AreCounted keys refs objects → AreCounted new_keys new_refs (at_key k f objects)
changed_invariants keys refs new_keys new_refs k f is same own others objects h = record {
  there = λ n e. find-changed n k f is objects ∙ h.there n (sym (same n) ∙ e);
  counted = all_changed (Counts keys refs) (Counts new_keys new_refs) k f own others objects h.counted;
  used =
      all_changed (λ (x : Object). is_among (keys ++ refs) x.key ≡ true)
      (λ (x : Object). is_among (new_keys ++ new_refs) x.key ≡ true) k f
      (λ x e u. ap (is_among (new_keys ++ new_refs)) (is.key x) ∙ same x.key ∙ u) (λ x e u. same x.key ∙ u) objects
      h.used;
  keys_differ = in_order_changed (λ (x : Object). x.key) k f is.key objects h.keys_differ;
  step_numbers_differ =
      in_order_changed (λ (x : Object). x.step_number) k f is.step_number objects h.step_numbers_differ;
}

-- Objects count the same if the keys of handles are in another order.
pub same_invariants : (keys others refs : List ℕ) (objects : List Object) → SameRows keys others
    → AreCounted keys refs objects → AreCounted others refs objects
same_invariants keys others refs objects same h =
    let agree = λ (n : ℕ). let a : is_among (keys ++ refs) n ≡ is_among (others ++ refs) n = among-append keys refs n ∙ ap (λ b. b || is_among refs n) (same-any (λ k. k == n) keys others same) ∙ sym (among-append others refs n) in a in
    record {
      there = λ n e. h.there n (agree n ∙ e);
      counted =
          all_weaker (Counts keys refs) (Counts others refs) (λ x e. (e.0 ∙ same (λ key. key == x.key), e.1)) objects
          h.counted;
      used =
          all_weaker (λ (x : Object). is_among (keys ++ refs) x.key ≡ true)
          (λ (x : Object). is_among (others ++ refs) x.key ≡ true) (λ x e. sym (agree x.key) ∙ e) objects h.used;
      keys_differ = h.keys_differ;
      step_numbers_differ = h.step_numbers_differ;
    }

-- ---- those that are named

-- If objects count what names them, each of them is named.
pub all_named : (keys refs : List ℕ) (objects : List Object) → AreCounted keys refs objects
    → AreThoseNamed objects (keys ++ refs) objects
all_named keys refs objects h =
    ap (map core) (sym (filter_all (λ (x : Object). is_among (keys ++ refs) x.key) objects h.used))

core-named : (keys : List ℕ) → (xs : List Object)
    → map core (filter (λ (x : Object). is_among keys x.key) xs) ≡ filter (λ (x : Object). is_among keys x.key) (map core xs)
core-named keys [] = refl
core-named keys (x ∷ xs) =
    elim (is_among keys x.key) as (λ b. map core (cond b (x ∷ filter (λ (x : Object). is_among keys x.key) xs) (filter (λ (x : Object). is_among keys x.key) xs)) ≡ cond b (core x ∷ filter (λ (x : Object). is_among keys x.key) (map core xs)) (filter (λ (x : Object). is_among keys x.key) (map core xs)))
    [ true ↦ ap (λ l. core x ∷ l) (core-named keys xs) | false ↦ core-named keys xs ]

-- If one test implies another, both pass exactly if the first does.
pub and_weaker : (a b : Bool) → (b ≡ true → a ≡ true) → (a && b) ≡ b
and_weaker true b f = refl
and_weaker false true f = f refl
and_weaker false false f = refl

-- The objects that fewer keys leave of those that some keys leave are those that the fewer keys leave.
pub named_trans : (objects middle now : List Object) (keys fewer : List ℕ)
    → ((n : ℕ) → is_among fewer n ≡ true → is_among keys n ≡ true) → AreThoseNamed objects keys middle
    → AreThoseNamed middle fewer now → AreThoseNamed objects fewer now
named_trans objects middle now keys fewer f h k =
    k ∙ core-named fewer middle ∙ ap (filter (λ (x : Object). is_among fewer x.key)) h
    ∙ sym (core-named fewer (filter (λ (x : Object). is_among keys x.key) objects))
    ∙ ap (map core) (filter-both (λ (x : Object). is_among fewer x.key) (λ (x : Object). is_among keys x.key) objects
    ∙ filter-same _ (λ (x : Object). is_among fewer x.key) objects (all_each _ (λ x. and_weaker (is_among keys x.key) (is_among fewer x.key) (f x.key)) objects))

-- Lists with the same keys name the same objects.
pub same_named : (objects : List Object) (keys others : List ℕ) (now : List Object)
    → ((n : ℕ) → is_among keys n ≡ is_among others n) → AreThoseNamed objects keys now
    → AreThoseNamed objects others now
same_named objects keys others now agree h =
    h
    ∙ ap (map core)
    (filter-same (λ (x : Object). is_among keys x.key) (λ (x : Object). is_among others x.key) objects (all_each _ (λ x. agree x.key) objects))

-- ---- one that names an object fewer

-- the objects that the fewer keys name, which they count
pub record IsStep (objects : List Object) (keys refs : List ℕ) (new : ObjectSet) : Type 0 where
  pub invariants : AreCounted keys refs new.objects
  pub named : AreThoseNamed objects (keys ++ refs) new.objects

-- one that names the key's object goes, and the object counts one fewer
pub record IsFewer (k : ℕ) (f : Object → Object) (keys refs fewer_keys fewer_refs : List ℕ) : Type 0 where
  pub change : IsChange f
  pub bare : (x : Object) → core (f x) ≡ core x
  pub one : (n : ℕ) → is_among (keys ++ refs) n ≡ (k == n || is_among (fewer_keys ++ fewer_refs) n)
  pub own : (x : Object) → (x.key == k) ≡ true → Counts keys refs x → Counts fewer_keys fewer_refs (f x)
  pub others : (x : Object) → (x.key == k) ≡ false → Counts keys refs x → Counts fewer_keys fewer_refs x

core-changed : (k : ℕ) (f : Object → Object) → ((x : Object) → core (f x) ≡ core x) → (xs : List Object)
    → map core (at_key k f xs) ≡ map core xs
core-changed k f h [] = refl
core-changed k f h (x ∷ xs) =
    elim (x.key == k) as (λ b. core (if b then f x else x) ∷ map core (at_key k f xs) ≡ core x ∷ map core xs)
    [ true ↦ ap (λ y. y ∷ map core (at_key k f xs)) (h x) ∙ ap (λ l. core x ∷ l) (core-changed k f h xs) | false ↦ ap (λ l. core x ∷ l) (core-changed k f h xs) ]

abbrev without_it : ℕ → List Object → List Object
without_it k objects = filter (λ (x : Object). not (x.key == k)) objects

all_without : (P Q : Object → Type 0) (k : ℕ) → ((x : Object) → (x.key == k) ≡ false → P x → Q x) → (xs : List Object)
    → AllByRecursion P xs → AllByRecursion Q (without_it k xs)
all_without P Q k f [] h = tt
all_without P Q k f (x ∷ xs) h =
    elim (x.key == k) as (λ b. (x.key == k) ≡ b → AllByRecursion Q (cond (not b) (x ∷ without_it k xs) (without_it k xs)))
    [ true ↦ λ e. all_without P Q k f xs h.1 | false ↦ λ e. (f x e h.0, all_without P Q k f xs h.1) ] refl

-- If a key is not among the rest, a key of both together is another exactly if it is among the rest.
pub left_alone : (rest : List ℕ) (k n : ℕ) → is_among rest k ≡ false → (k == n || is_among rest n) ≡ true
    → not (n == k) ≡ is_among rest n
left_alone rest k n h e =
    elim (n == k) as (λ b. (n == k) ≡ b → not b ≡ is_among rest n) [
      | true ↦ λ is. sym (ap (is_among rest) (eqb-true n k is) ∙ h)
      | false ↦ λ is. sym (ap (λ b. b || is_among rest n) (sym (flipped n k is)) ∙ e)
    ] refl

stays : (k : ℕ) (f : Object → Object) (keys refs fewer_keys fewer_refs : List ℕ) (set : ObjectSet)
    → IsFewer k f keys refs fewer_keys fewer_refs → AreCounted keys refs set.objects
    → is_among (fewer_keys ++ fewer_refs) k ≡ true →
    IsStep set.objects fewer_keys fewer_refs (changed_at k f set)
stays k f keys refs fewer_keys fewer_refs set is h more =
    let same = λ (n : ℕ).
    let a : is_among (fewer_keys ++ fewer_refs) n ≡ is_among (keys ++ refs) n =
    sym (is.one n ∙ elim (k == n) as (λ b. (k == n) ≡ b → (b || is_among (fewer_keys ++ fewer_refs) n) ≡ is_among (fewer_keys ++ fewer_refs) n)
    [ true ↦ λ e. sym (ap (is_among (fewer_keys ++ fewer_refs)) (sym (eqb-true k n e)) ∙ more) | false ↦ λ e. refl ] refl) in a in
    record {
      invariants = changed_invariants keys refs fewer_keys fewer_refs k f is.change same is.own is.others set.objects h;
      named =
          core-changed k f is.bare set.objects
          ∙ same_named set.objects (keys ++ refs) (fewer_keys ++ fewer_refs) set.objects (λ n. sym (same n))
          (all_named keys refs set.objects h);
    }

goes : (k : ℕ) (f : Object → Object) (keys refs fewer_keys fewer_refs : List ℕ) (set : ObjectSet)
    → IsFewer k f keys refs fewer_keys fewer_refs → AreCounted keys refs set.objects
    → is_among (fewer_keys ++ fewer_refs) k ≡ false →
    IsStep set.objects fewer_keys fewer_refs (without_key k set)
goes k f keys refs fewer_keys fewer_refs set is h none =
    let rest = fewer_keys ++ fewer_refs in
    let named =
    all_weaker (λ (x : Object). is_among (keys ++ refs) x.key ≡ true)
    (λ (x : Object). not (x.key == k) ≡ is_among rest x.key)
    (λ x u. left_alone rest k x.key none (sym (is.one x.key) ∙ u)) set.objects h.used in
    record {
      invariants = record {
        there =
            λ n e. ap is_some (find_others (λ (x : Object). x.key) n k (among-differs rest k n none e) set.objects)
            ∙ h.there n (is.one n ∙ or_right (k == n) (is_among rest n) e);
        counted = all_without (Counts keys refs) (Counts fewer_keys fewer_refs) k is.others set.objects h.counted;
        used =
            all_without (λ (x : Object). not (x.key == k) ≡ is_among rest x.key)
            (λ (x : Object). is_among rest x.key ≡ true) k (λ x e u. sym u ∙ ap not e) set.objects named;
        keys_differ = in_order_filter (λ (x y : Object). (x.key == y.key) ≡ false) _ set.objects h.keys_differ;
        step_numbers_differ =
            in_order_filter (λ (x y : Object). (x.step_number == y.step_number) ≡ false) _ set.objects
            h.step_numbers_differ;
      };
      named =
          ap (map core)
          (filter-same (λ (x : Object). not (x.key == k)) (λ (x : Object). is_among rest x.key) set.objects named);
    }

dies : (k : ℕ) (f : Object → Object) (keys refs fewer_keys fewer_refs : List ℕ) (set : ObjectSet)
    → IsFewer k f keys refs fewer_keys fewer_refs → AreCounted keys refs set.objects
    → is_among (fewer_keys ++ fewer_refs) k ≡ false → is_some (dead_after f set k) ≡ true
dies k f keys refs fewer_keys fewer_refs set is h none =
    let it =
    is_found k set.objects (h.there k (is.one k ∙ or_left (k == k) _ (eq-eqb k k refl))) (Counts keys refs)
    h.counted in
    let unused : is_unused (f it.0) ≡ true =
    unused_is fewer_keys fewer_refs (f it.0) k (is.change.key it.0 ∙ it.2)
    (is.own it.0 (eq-eqb it.0.key k it.2) it.3)
    ∙ ap not none in
    ap (λ o. is_some (option_map dead_of o)) (found_passing k (λ x. is_unused (f x)) set.objects it.0 it.1 unused)

lives : (k : ℕ) (f : Object → Object) (keys refs fewer_keys fewer_refs : List ℕ) (set : ObjectSet)
    → IsFewer k f keys refs fewer_keys fewer_refs → AreCounted keys refs set.objects
    → is_among (fewer_keys ++ fewer_refs) k ≡ true → dead_after f set k ≡ None
lives k f keys refs fewer_keys fewer_refs set is h more =
    ap (option_map dead_of) (none_passing k (λ x. is_unused (f x)) set.objects
    (all_weaker (Counts keys refs) (λ (x : Object). (x.key == k) ≡ true → is_unused (f x) ≡ false) (λ x c e. unused_is fewer_keys fewer_refs (f x) k (is.change.key x ∙ eqb-true x.key k e) (is.own x e c) ∙ ap not more) set.objects h.counted))

-- With one key fewer, its object counts one fewer, or is freed with its last key, and the others stay.
pub fewer_step : (k : ℕ) (f : Object → Object) (keys refs fewer_keys fewer_refs : List ℕ) (set new : ObjectSet) (left : Option Dead)
    → IsFewer k f keys refs fewer_keys fewer_refs → AreCounted keys refs set.objects → left ≡ dead_after f set k →
    OnSome left (new ≡ without_key k set) → IfNone left (new ≡ changed_at k f set) → IsStep set.objects fewer_keys
    fewer_refs new
fewer_step k f keys refs fewer_keys fewer_refs set new left is h e gone same =
    elim (is_among (fewer_keys ++ fewer_refs) k) as (λ b. is_among (fewer_keys ++ fewer_refs) k ≡ b → IsStep set.objects fewer_keys fewer_refs new) [
      | true ↦ λ more.
          let now : new ≡ changed_at k f set =
          subst (λ o. IfNone o (new ≡ changed_at k f set))
          (e ∙ lives k f keys refs fewer_keys fewer_refs set is h more) same in
          subst (IsStep set.objects fewer_keys fewer_refs) (sym now)
          (stays k f keys refs fewer_keys fewer_refs set is h more)
      | false ↦ λ none.
          let now : new ≡ without_key k set =
          on_some left (new ≡ without_key k set)
          (ap is_some e ∙ dies k f keys refs fewer_keys fewer_refs set is h none) gone in
          subst (IsStep set.objects fewer_keys fewer_refs) (sym now)
          (goes k f keys refs fewer_keys fewer_refs set is h none)
    ] refl

one_less : (n m : ℕ) → n ≡ suc m → n - 1 ≡ m
one_less n m h = omega (arith, h)

-- Without a handle, one key fewer is counted as a handle.
pub handle_fewer : (k : ℕ) (keys refs : List ℕ) → IsFewer k unheld (k ∷ keys) refs keys refs
handle_fewer k keys refs = record {
  change = record { key = λ x. refl; step_number = λ x. refl };
  bare = λ x. refl;
  one = λ n. refl;
  own = λ x e c. (one_less x.holds _ (c.0 ∙ count-it keys k x.key e), c.1);
  others = λ x e c. (c.0 ∙ count-other keys k x.key e, c.1);
}

-- A key is in two lists with one in between exactly if it is this one or in one of the lists.
pub among-between : (keys refs : List ℕ) (k n : ℕ)
    → is_among (keys ++ k ∷ refs) n ≡ (k == n || is_among (keys ++ refs) n)
among-between [] refs k n = refl
among-between (x ∷ keys) refs k n = ap (λ b. x == n || b) (among-between keys refs k n) ∙ elim (x == n) as (λ b. (b || (k == n || is_among (keys ++ refs) n)) ≡ (k == n || (b || is_among (keys ++ refs) n)))
    [ true ↦ sym (or_right (k == n) true refl) | false ↦ refl ]

-- Without a token or a framebuffer, one key fewer is counted as a reference.
pub reference_fewer : (k : ℕ) (keys refs : List ℕ) → IsFewer k unreferred keys (k ∷ refs) keys refs
reference_fewer k keys refs = record {
  change = record { key = λ x. refl; step_number = λ x. refl };
  bare = λ x. refl;
  one = among-between keys refs k;
  own = λ x e c. (c.0, one_less x.refs _ (c.1 ∙ count-it refs k x.key e));
  others = λ x e c. (c.0, c.1 ∙ count-other refs k x.key e);
}

-- ---- one that names an object more

-- a key that is among them changes nothing as to which are among them
among_already : (b d : Bool) → (b ≡ true → d ≡ true) → (b || d) ≡ d
among_already true d f = sym (f refl)
among_already false d f = refl

one_more : (n m : ℕ) → n ≡ m → n + 1 ≡ suc m
one_more n m h = omega (arith, h)

-- A key that equals one of a list is in the list.
pub already : (keys : List ℕ) (k n : ℕ) → is_among keys k ≡ true → (k == n) ≡ true → is_among keys n ≡ true
already keys k n h e = ap (is_among keys) (sym (eqb-true k n e)) ∙ h

-- With one handle more, its object counts one more, and the others count the same.
pub handle_more : (k : ℕ) (keys refs : List ℕ) (objects : List Object) → is_among (keys ++ refs) k ≡ true
    → AreCounted keys refs objects → AreCounted (k ∷ keys) refs (at_key k held objects)
handle_more k keys refs objects e h =
    changed_invariants keys refs (k ∷ keys) refs k held (record { key = λ x. refl; step_number = λ x. refl })
    (λ n. among_already (k == n) (is_among (keys ++ refs) n) (already (keys ++ refs) k n e))
    (λ x is c. (one_more x.holds _ c.0 ∙ sym (count-it keys k x.key (flip x.key k is)), c.1))
    (λ x is c. (c.0 ∙ sym (count-other keys k x.key is), c.1)) objects h
  where
    flip : (a b : ℕ) → (a == b) ≡ true → (a == b) ≡ true
    flip a b h = h

-- With one token or framebuffer more, its object counts one more, and the others count the same.
pub reference_more : (k : ℕ) (keys refs : List ℕ) (objects : List Object) → is_among (keys ++ refs) k ≡ true
    → AreCounted keys refs objects → AreCounted keys (k ∷ refs) (at_key k referred objects)
reference_more k keys refs objects e h =
    changed_invariants keys refs keys (k ∷ refs) k referred (record { key = λ x. refl; step_number = λ x. refl })
    (λ n. among-between keys refs k n ∙ among_already (k == n) (is_among (keys ++ refs) n) (already (keys ++ refs) k n e))
    (λ x is c. (c.0, one_more x.refs _ c.1 ∙ sym (count-it refs k x.key is)))
    (λ x is c. (c.0, c.1 ∙ sym (count-other refs k x.key is))) objects h

-- Objects count the same if the keys of tokens and framebuffers are in another order.
pub same_references : (keys refs others : List ℕ) (objects : List Object) → SameRows refs others
    → AreCounted keys refs objects → AreCounted keys others objects
same_references keys refs others objects same h =
    let agree = λ (n : ℕ). let a : is_among (keys ++ refs) n ≡ is_among (keys ++ others) n = among-append keys refs n ∙ ap (λ b. is_among keys n || b) (same-any (λ k. k == n) refs others same) ∙ sym (among-append keys others n) in a in
    record {
      there = λ n e. h.there n (agree n ∙ e);
      counted =
          all_weaker (Counts keys refs) (Counts keys others) (λ x e. (e.0, e.1 ∙ same (λ key. key == x.key))) objects
          h.counted;
      used =
          all_weaker (λ (x : Object). is_among (keys ++ refs) x.key ≡ true)
          (λ (x : Object). is_among (keys ++ others) x.key ≡ true) (λ x e. sym (agree x.key) ∙ e) objects h.used;
      keys_differ = h.keys_differ;
      step_numbers_differ = h.step_numbers_differ;
    }

-- A change of counts alone leaves the objects those that more keys name.
pub more_named : (k : ℕ) (f : Object → Object) (keys refs more : List ℕ) (objects : List Object)
    → ((x : Object) → core (f x) ≡ core x) → ((n : ℕ) → is_among (keys ++ refs) n ≡ true → is_among more n ≡ true)
    → AreCounted keys refs objects → AreThoseNamed objects more (at_key k f objects)
more_named k f keys refs more objects bare sub h =
    core-changed k f bare objects
    ∙ ap (map core)
    (sym (filter_all (λ (x : Object). is_among more x.key) objects (all_weaker (λ (x : Object). is_among (keys ++ refs) x.key ≡ true) (λ (x : Object). is_among more x.key ≡ true) (λ x u. sub x.key u) objects h.used)))

-- The handles of the first key's object are one more than the other handles that name it.
pub handle_count : (set : ObjectSet) (k : ℕ) (keys refs : List ℕ) (n : ℕ) → AreCounted (k ∷ keys) refs set.objects
    → option_map (λ (x : Object). x.holds) (object_at set k) ≡ Some n → n ≡ suc (count keys k)
handle_count set k keys refs n h e =
    let it = is_found k set.objects (h.there k (among-first (keys ++ refs) k)) (Counts (k ∷ keys) refs) h.counted in
    let same : Some it.0.holds ≡ Some n = sym (ap (option_map (λ (x : Object). x.holds)) it.1) ∙ e in
    let number : it.0.holds ≡ n = cc in
    sym number ∙ it.3.0 ∙ ap (count (k ∷ keys)) it.2 ∙ count-it keys k k (eq-eqb k k refl)

-- ---- a new object, which one handle names

find-pushed : (n : ℕ) (y : Object) → (xs : List Object)
    → is_some (find (is_key n) (xs ++ y ∷ [])) ≡ (is_some (find (is_key n) xs) || y.key == n)
find-pushed n y [] = elim (y.key == n) as (λ b. is_some (cond b (Some y) None) ≡ b) [ true ↦ refl | false ↦ refl ]
find-pushed n y (x ∷ xs) =
    elim (x.key == n) as (λ b. is_some (cond b (Some x) (find (is_key n) (xs ++ y ∷ []))) ≡ (is_some (cond b (Some x) (find (is_key n) xs)) || y.key == n))
    [ true ↦ refl | false ↦ find-pushed n y xs ]

fresh_key : (keys refs : List ℕ) (key : ℕ) (objects : List Object) → AreCounted keys refs objects
    → find (is_key key) objects ≡ None → is_among (keys ++ refs) key ≡ false
fresh_key keys refs key objects h e =
    elim (is_among (keys ++ refs) key) as (λ b. is_among (keys ++ refs) key ≡ b → b ≡ false) [ true ↦ λ j. absurd (let k : false ≡ true = sym (ap is_some e) ∙ h.there key j in cc) | false ↦ λ j. refl ] refl

-- Objects count what refers to them after a new one was added, which one handle names.
pub created_invariants : (keys refs : List ℕ) (objects : List Object) (new : Object) → AreCounted keys refs objects
    → find (is_key new.key) objects ≡ None → AllByRecursion (λ (x : Object). x.step_number < new.step_number) objects
    → new.holds ≡ 1 → new.refs ≡ 0 →
    AreCounted (new.key ∷ keys) refs (objects ++ new ∷ [])
created_invariants keys refs objects new h fresh newest one none =
    let others = none_found (is_key new.key) objects fresh in
    let absent =
    or_parts (is_among keys new.key) (is_among refs new.key)
    (sym (among-append keys refs new.key) ∙ fresh_key keys refs new.key objects h fresh) in
    let own : Counts (new.key ∷ keys) refs new =
    (one ∙ sym (count-it keys new.key new.key (eq-eqb new.key new.key refl) ∙ ap (λ n. suc n) (count-absent keys new.key absent.0)), none ∙ sym (count-absent refs new.key absent.1)) in
    record {
      there = λ n e. find-pushed n new objects ∙ elim (new.key == n) as (λ b. (b || is_among (keys ++ refs) n) ≡ true → (is_some (find (is_key n) objects) || b) ≡ true) [ true ↦ λ j. or_right _ true refl | false ↦ λ j. or_left _ false (h.there n j) ] e;
      counted = all_append (Counts (new.key ∷ keys) refs) objects (new ∷ [])
          (all_both (λ (x : Object). (x.key == new.key) ≡ false) (Counts keys refs) (Counts (new.key ∷ keys) refs) (λ x e c. (c.0 ∙ sym (count-other keys new.key x.key e), c.1)) objects others h.counted)
          (own, tt);
      used =
          all_append (λ (x : Object). is_among (new.key ∷ (keys ++ refs)) x.key ≡ true) objects (new ∷ [])
          (all_weaker _ _ (λ (x : Object) u. among-more (keys ++ refs) new.key x.key u) objects h.used)
          (among-first (keys ++ refs) new.key, tt);
      keys_differ = in_order_append (λ (x y : Object). (x.key == y.key) ≡ false) objects new h.keys_differ others;
      step_numbers_differ =
          in_order_append (λ (x y : Object). (x.step_number == y.step_number) ≡ false) objects new h.step_numbers_differ
          (all_weaker _ _ (λ x less. less-differ x.step_number new.step_number less) objects newest);
    }
