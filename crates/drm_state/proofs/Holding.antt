-- Handles in the order of their clients and numbers.
use Rattle.std.proofs.Common.{◌≡◌, ℕ, ◌==◌, nat_le, Bool, true, false, not, cond, ◌&&◌, ◌||◌, List, [], ◌∷◌, ◌++◌, map, filter, find, Some, None, refl, sym, ◌∙◌, ap, subst, arith, eq-eqb}
use Rattle.std.specs.List.{list_any, AllByRecursion}
use Rattle.std.specs.Option.{option_map}
use Rattle.std.proofs.lemmas.Bool.Decides.{nat_tests}
use Rattle.drm_index_array.specs.Orders.{SameRows, InOrder}
use Rattle.drm_index_array.specs.Numbers.{is_among}
use Rattle.drm_index_array.proofs.Lists.{all_weaker, all_append, all_filter, filter_true, all_both}
use Rattle.drm_index_array.proofs.FoundInLists.{is_some-find, is_among-map_filter}
use Rattle.drm_index_array.proofs.Orders.{RisesTo, in_order_filter, same-trans, same-refl, same-cons, same-swap, moved_in, same_parts}
use Rattle.drm_index_array.proofs.Placed as lists
use Rattle.drm_files.specs.declared.rows.FileHandle.{FileHandle}
use Rattle.drm_files.specs.Files.{FileLists, is_handle, of_client, handle_before, placed, handles_of, free_handle}
use Rattle.drm_index_array.proofs.Least.{least_some}
use Rattle.drm_state.specs.Parts.{keys_of}
use Rattle.std.proofs.lemmas.Bool.{not-true}

abbrev AreInOrder : List FileHandle → Type 0
AreInOrder holds = InOrder (λ x y. handle_before x y ≡ true) holds

-- A row that is put in its place is among the others, up to order.
pub placed_same : {X : Type 0} (before : X → X → Bool) (x : X) (xs : List X) → SameRows (x ∷ xs) (placed before x xs)
placed_same before x xs = lists.same_placed (λ y. before y x) x xs

-- A handle that is put in its place is among the others, up to order.
pub same_placed : (h : FileHandle) (hs : List FileHandle) → SameRows (h ∷ hs) (placed handle_before h hs)
same_placed h hs = placed_same handle_before h hs

-- What holds of a row and of all others holds of all after it was put in its place.
pub all_placed : {X : Type 0} (before : X → X → Bool) (P : X → Type 0) (x : X) (xs : List X) → P x → AllByRecursion P xs
    → AllByRecursion P (placed before x xs)
all_placed before P x xs h k = lists.all_placed P (λ y. before y x) x xs h k

before-trans : (x y z : FileHandle) → handle_before x y ≡ true → handle_before y z ≡ true → handle_before x z ≡ true
before-trans x y z h k = grind (arith, nat_tests)

before-other : (x y : FileHandle) → is_handle y.client y.handle x ≡ false → not (handle_before x y) ≡ true
    → handle_before y x ≡ true
before-other x y h k = grind (arith, nat_tests)

in_order_join : (y : FileHandle) (zs : List FileHandle) → AllByRecursion (λ z. handle_before y z ≡ true) zs
    → AreInOrder zs → (xs : List FileHandle) → AllByRecursion (λ x. handle_before x y ≡ true) xs → AreInOrder xs
    → AreInOrder (xs ++ y ∷ zs)
in_order_join y zs e k [] h o = (e, k)
in_order_join y zs e k (x ∷ xs) h o = (
  all_append (λ z. handle_before x z ≡ true) xs (y ∷ zs) o.0
      (h.0, all_weaker (λ z. handle_before y z ≡ true) (λ z. handle_before x z ≡ true) (λ z j. before-trans x y z h.0 j) zs e),
  in_order_join y zs e k xs h.1 o.1,
)

-- A handle that is put in its place leaves handles in order, if no other has its number.
pub in_order_placed : (y : FileHandle) (hs : List FileHandle) → AreInOrder hs
    → AllByRecursion (λ x. is_handle y.client y.handle x ≡ false) hs → AreInOrder (placed handle_before y hs)
in_order_placed y hs o new =
    let behind = filter (λ z. not (handle_before z y)) hs in
    in_order_join y behind
    (all_both (λ z. is_handle y.client y.handle z ≡ false) (λ z. not (handle_before z y) ≡ true) (λ z. handle_before y z ≡ true) (λ z e k. before-other z y e k) behind (all_filter (λ z. is_handle y.client y.handle z ≡ false) (λ z. not (handle_before z y)) hs new) (filter_true (λ z. not (handle_before z y)) hs))
    (in_order_filter (λ x z. handle_before x z ≡ true) (λ z. not (handle_before z y)) hs o)
    (filter (λ z. handle_before z y) hs) (filter_true (λ z. handle_before z y) hs)
    (in_order_filter (λ x z. handle_before x z ≡ true) (λ z. handle_before z y) hs o)

none_passes : (p : FileHandle → Bool) → (xs : List FileHandle) → list_any p xs ≡ false
    → AllByRecursion (λ x. p x ≡ false) xs
none_passes p [] h = tt
none_passes p (x ∷ xs) h =
    elim (p x) as (λ b. p x ≡ b → (b || list_any p xs) ≡ false → (p x ≡ false) × AllByRecursion (λ x. p x ≡ false) xs)
    [ true ↦ λ e k. absurd (let no : true ≡ false = k in cc) | false ↦ λ e k. (e, none_passes p xs k) ] refl h

-- No row has the free handle of the client.
pub free_is_new : (files : FileLists) (c n : ℕ) → free_handle files c ≡ Some n
    → AllByRecursion (λ (x : FileHandle). is_handle c n x ≡ false) files.holds
free_is_new files c n h =
    none_passes (is_handle c n) files.holds
    (sym (is_some-find (is_handle c n) files.holds) ∙ sym (is_among-map_filter (of_client c) (λ (x : FileHandle). x.handle) n files.holds)
    ∙ not-true (is_among (handles_of files c) n) (least_some (λ k. not (is_among (handles_of files c) k)) 1 files.last_handle n h).passes)

-- ---- what a handle names

key_after : (x z : FileHandle) (c n : ℕ) → is_handle c n x ≡ true → handle_before x z ≡ true → is_handle c n z ≡ false
key_after x z c n h k = grind (arith, nat_tests)

keeps_rest : (x : FileHandle) (c n : ℕ) → is_handle c n x ≡ true → (xs : List FileHandle)
    → AllByRecursion (λ z. handle_before x z ≡ true) xs → filter (λ (z : FileHandle). not (is_handle c n z)) xs ≡ xs
keeps_rest x c n h [] k = refl
keeps_rest x c n h (z ∷ zs) k =
    ap
    (λ b. cond (not b) (z ∷ filter (λ (z : FileHandle). not (is_handle c n z)) zs) (filter (λ (z : FileHandle). not (is_handle c n z)) zs))
    (key_after x z c n h k.0)
    ∙ ap (λ l. z ∷ l) (keeps_rest x c n h zs k.1)

-- Without a handle of a client, one key fewer is named: the key of that handle.
pub one_goes : (c n key : ℕ) → (hs : List FileHandle) → InOrder (λ x y. handle_before x y ≡ true) hs
    → Some key ≡ option_map (λ (x : FileHandle). x.object) (find (is_handle c n) hs)
    → SameRows (keys_of hs) (key ∷ keys_of (filter (λ (z : FileHandle). not (is_handle c n z)) hs))
one_goes c n key [] h e = absurd (let k : Some key ≡ None = e in cc)
one_goes c n key (x ∷ xs) h e =
    let rest = filter (λ (z : FileHandle). not (is_handle c n z)) xs in
    elim (is_handle c n x) as (λ b. is_handle c n x ≡ b → Some key ≡ option_map (λ (x : FileHandle). x.object) (cond b (Some x) (find (is_handle c n) xs)) → SameRows (keys_of (x ∷ xs)) (key ∷ keys_of (cond (not b) (x ∷ rest) rest))) [
      | true ↦ λ is f.
          let same : key ≡ x.object = let k : Some key ≡ Some x.object = f in cc in
          subst (λ k. SameRows (keys_of (x ∷ xs)) (k ∷ keys_of rest)) (sym same)
          (subst (λ l. SameRows (x.object ∷ keys_of xs) (x.object ∷ keys_of l)) (sym (keeps_rest x c n is xs h.0)) (same-refl (x.object ∷ keys_of xs)))
      | false ↦ λ is f.
          same-trans (x.object ∷ keys_of xs) (x.object ∷ key ∷ keys_of rest) (key ∷ x.object ∷ keys_of rest)
          (same-cons x.object (keys_of xs) (key ∷ keys_of rest) (one_goes c n key xs h.1 f))
          (same-swap x.object key (keys_of rest))
    ] refl e

-- All rows of a client's handle name the object of the first.
pub one_object : (c n : ℕ) (number : ℕ → ℕ) → (xs : List FileHandle) → AreInOrder xs → (y : FileHandle)
    → find (is_handle c n) xs ≡ Some y
    → list_any (λ (x : FileHandle). is_handle c n x && not (number x.object == number y.object)) xs ≡ false
one_object c n number [] k y e = refl
one_object c n number (x ∷ xs) k y e =
    elim (is_handle c n x) as (λ b. is_handle c n x ≡ b → cond b (Some x) (find (is_handle c n) xs) ≡ Some y → ((b && not (number x.object == number y.object)) || list_any (λ (x : FileHandle). is_handle c n x && not (number x.object == number y.object)) xs) ≡ false) [
      | true ↦ λ is j.
          let same : x ≡ y = let s : Some x ≡ Some y = j in cc in
          let first : not (number x.object == number y.object) ≡ false =
          ap (λ (z : FileHandle). not (number z.object == number y.object)) same
          ∙ ap not (eq-eqb (number y.object) (number y.object) refl) in
          rw first (none_alike x is xs k.0)
      | false ↦ λ is j. one_object c n number xs k.1 y j
    ] refl e
  where
    none_alike : (x : FileHandle) → is_handle c n x ≡ true → (zs : List FileHandle)
        → AllByRecursion (λ z. handle_before x z ≡ true) zs
        → list_any (λ (z : FileHandle). is_handle c n z && not (number z.object == number y.object)) zs ≡ false
    none_alike x is [] k = refl
    none_alike x is (z ∷ zs) k = rw (key_after x z c n is k.0) (none_alike x is zs k.1)

handle_after : (x z : FileHandle) (c : ℕ) → of_client c x ≡ true → of_client c z ≡ true → handle_before x z ≡ true
    → RisesTo nat_le x.handle z.handle
handle_after x z c e f h = (grind (arith, nat_tests), grind (arith, nat_tests))

later_handles : (x : FileHandle) (c : ℕ) → of_client c x ≡ true → (xs : List FileHandle)
    → AllByRecursion (λ z. handle_before x z ≡ true) xs
    → AllByRecursion (RisesTo nat_le x.handle) (map (λ (x : FileHandle). x.handle) (filter (of_client c) xs))
later_handles x c e [] h = tt
later_handles x c e (z ∷ zs) h =
    elim (of_client c z) as (λ b. of_client c z ≡ b → AllByRecursion (RisesTo nat_le x.handle) (map (λ (x : FileHandle). x.handle) (cond b (z ∷ filter (of_client c) zs) (filter (of_client c) zs))))
    [ true ↦ λ f. (handle_after x z c e f h.0, later_handles x c e zs h.1) | false ↦ λ f. later_handles x c e zs h.1 ]
    refl

-- The handles of a client are in rising order.
pub handles_rise : (c : ℕ) → (xs : List FileHandle) → AreInOrder xs
    → InOrder (RisesTo nat_le) (map (λ (x : FileHandle). x.handle) (filter (of_client c) xs))
handles_rise c [] h = tt
handles_rise c (x ∷ xs) h =
    elim (of_client c x) as (λ b. of_client c x ≡ b → InOrder (RisesTo nat_le) (map (λ (x : FileHandle). x.handle) (cond b (x ∷ filter (of_client c) xs) (filter (of_client c) xs))))
    [ true ↦ λ e. (later_handles x c e xs h.0, handles_rise c xs h.1) | false ↦ λ e. handles_rise c xs h.1 ] refl
