-- Which objects keys name, by the numbers of the objects.
use Rattle.std.proofs.Common.{◌≡◌, ℕ, suc, ◌+◌, ◌==◌, Bool, true, false, cond, not, List, [], ◌∷◌, ◌++◌, map, filter, find, length, Some, None, refl, sym, ap, ◌∙◌, subst, eq-eqb, arith}
use Rattle.std.specs.List.{list_any, AllByRecursion}
use Rattle.std.specs.Prelude.{⊤}
use Rattle.std.specs.Option.{is_some, option_map_or}
use Rattle.std.proofs.lemmas.Bool.{eqb-true}
use Rattle.drm_index_array.specs.Orders.{SameRows, InOrder}
use Rattle.drm_index_array.specs.Numbers.{is_among, count}
use Rattle.drm_index_array.proofs.Lists.{all_weaker, map-map, length-filter_append, list_any-map, all_both, all_each}
use Rattle.drm_index_array.proofs.Numbers.{flipped, among-more, count-none, among-first, count_of}
use Rattle.drm_index_array.proofs.Orders.{same-any, same-map}
use Rattle.std.proofs.lemmas.List.{map-append}
use Rattle.drm_gem.specs.declared.object.Object.{Object}
use Rattle.drm_gem.specs.Objects.{is_key}
use Rattle.drm_files.specs.declared.rows.FileHandle.{FileHandle}
use Rattle.drm_share.specs.declared.rows.SharedName.{SharedName}
use Rattle.drm_share.specs.declared.rows.SharedToken.{SharedToken}
use Rattle.drm_modes.specs.declared.rows.Framebuffer.{Framebuffer}
use Rattle.drm_model.specs.Rows.{Rows, HandleRow, TokenRow, FramebufferRow}
use Rattle.drm_state.specs.Parts.{step_number_at, handle_row_by, handle_row_of, name_row_by, name_row_of, token_row_by, token_row_of, framebuffer_row_by, framebuffer_row_of, object_row_of, keys_of, token_keys, framebuffer_keys, referring}
use Rattle.drm_state.specs.Invariants.{AreCounted, AreThoseNamed, core}
use Rattle.drm_state.proofs.Counting.{is_found}

step_number_core : (k : ℕ) → (xs : List Object) → step_number_at (map core xs) k ≡ step_number_at xs k
step_number_core k [] = refl
step_number_core k (x ∷ xs) =
    elim (x.key == k) as (λ b. option_map_or (λ (x : Object). x.step_number) (cond b (Some (core x)) (find (is_key k) (map core xs))) 0 ≡ option_map_or (λ (x : Object). x.step_number) (cond b (Some x) (find (is_key k) xs)) 0)
    [ true ↦ refl | false ↦ step_number_core k xs ]

find-named : (keys : List ℕ) (k : ℕ) → is_among keys k ≡ true → (xs : List Object)
    → find (is_key k) (filter (λ (x : Object). is_among keys x.key) xs) ≡ find (is_key k) xs
find-named keys k h [] = refl
find-named keys k h (x ∷ xs) =
    elim (x.key == k) as (λ b. (x.key == k) ≡ b → find (is_key k) (cond (is_among keys x.key) (x ∷ filter (λ (x : Object). is_among keys x.key) xs) (filter (λ (x : Object). is_among keys x.key) xs)) ≡ cond b (Some x) (find (is_key k) xs)) [
      | true ↦ λ e. ap (λ b. find (is_key k) (cond b (x ∷ filter (λ (x : Object). is_among keys x.key) xs) (filter (λ (x : Object). is_among keys x.key) xs))) (ap (is_among keys) (eqb-true x.key k e) ∙ h) ∙ ap (λ b. cond b (Some x) (find (is_key k) (filter (λ (x : Object). is_among keys x.key) xs))) e
      | false ↦ λ e. elim (is_among keys x.key) as (λ d. find (is_key k) (cond d (x ∷ filter (λ (x : Object). is_among keys x.key) xs) (filter (λ (x : Object). is_among keys x.key) xs)) ≡ find (is_key k) xs)
          [ true ↦ ap (λ b. cond b (Some x) (find (is_key k) (filter (λ (x : Object). is_among keys x.key) xs))) e ∙ find-named keys k h xs | false ↦ find-named keys k h xs ]
    ] refl

-- An object that is named keeps its number.
pub step_number_kept : (objects : List Object) (keys : List ℕ) (now : List Object) (k : ℕ)
    → AreThoseNamed objects keys now → is_among keys k ≡ true → step_number_at now k ≡ step_number_at objects k
step_number_kept objects keys now k h e =
    sym (step_number_core k now) ∙ ap (λ xs. step_number_at xs k) h
    ∙ step_number_core k (filter (λ (x : Object). is_among keys x.key) objects)
    ∙ ap (λ o. option_map_or (λ (x : Object). x.step_number) o 0) (find-named keys k e objects)

-- rows that name objects by numbers are the same where their keys have the same numbers
pub same_numbers : {X Y : Type 0} (row : X → ℕ → Y) (key : X → ℕ) (objects now : List Object) → (xs : List X)
    → ((n : ℕ) → is_among (map key xs) n ≡ true → step_number_at now n ≡ step_number_at objects n) →
    map (λ x. row x (step_number_at now (key x))) xs ≡ map (λ x. row x (step_number_at objects (key x))) xs
same_numbers row key objects now [] f = refl
same_numbers row key objects now (x ∷ xs) f =
    ap (λ n. row x n ∷ map (λ x. row x (step_number_at now (key x))) xs) (f (key x) (among-first (map key xs) (key x)))
    ∙ ap (λ l. row x (step_number_at objects (key x)) ∷ l)
    (same_numbers row key objects now xs (λ n e. f n (among-more (map key xs) (key x) n e)))

-- Handles name the same objects as before, if these are still named.
pub holds_as_before : (objects now : List Object) (keys : List ℕ) (hs : List FileHandle)
    → AreThoseNamed objects keys now → ((n : ℕ) → is_among (keys_of hs) n ≡ true → is_among keys n ≡ true)
    → map (handle_row_of now) hs ≡ map (handle_row_of objects) hs
holds_as_before objects now keys hs h f =
    same_numbers handle_row_by (λ (x : FileHandle). x.object) objects now hs
    (λ n e. step_number_kept objects keys now n h (f n e))

-- Tokens name the same objects as before, if these are still named.
pub tokens_as_before : (objects now : List Object) (keys : List ℕ) (ts : List SharedToken)
    → AreThoseNamed objects keys now → ((n : ℕ) → is_among (token_keys ts) n ≡ true → is_among keys n ≡ true)
    → map (token_row_of now) ts ≡ map (token_row_of objects) ts
tokens_as_before objects now keys ts h f =
    same_numbers token_row_by (λ (x : SharedToken). x.object) objects now ts
    (λ n e. step_number_kept objects keys now n h (f n e))

-- Framebuffers name the same objects as before, if these are still named.
pub framebuffers_as_before : (objects now : List Object) (keys : List ℕ) (fs : List Framebuffer)
    → AreThoseNamed objects keys now → ((n : ℕ) → is_among (framebuffer_keys fs) n ≡ true → is_among keys n ≡ true)
    → map (framebuffer_row_of now) fs ≡ map (framebuffer_row_of objects) fs
framebuffers_as_before objects now keys fs h f =
    same_numbers framebuffer_row_by (λ (x : Framebuffer). x.object) objects now fs
    (λ n e. step_number_kept objects keys now n h (f n e))

-- Names name the same objects as before, if these are still named.
pub names_as_before : (objects now : List Object) (keys : List ℕ) (ns : List SharedName)
    → AreThoseNamed objects keys now
    → ((n : ℕ) → is_among (map (λ (x : SharedName). x.object) ns) n ≡ true → is_among keys n ≡ true)
    → map (name_row_of now) ns ≡ map (name_row_of objects) ns
names_as_before objects now keys ns h f =
    same_numbers name_row_by (λ (x : SharedName). x.object) objects now ns
    (λ n e. step_number_kept objects keys now n h (f n e))

-- The rows of the objects that are left are the rows of those that keys name.
pub rows_left : (objects now : List Object) (keys : List ℕ) → AreThoseNamed objects keys now
    → map object_row_of now ≡ map object_row_of (filter (λ (x : Object). is_among keys x.key) objects)
rows_left objects now keys h =
    sym (map-map object_row_of core now) ∙ ap (map object_row_of) h
    ∙ map-map object_row_of core (filter (λ (x : Object). is_among keys x.key) objects)

-- ---- by keys, and by numbers

all_true : (xs : List Object) → AllByRecursion (λ (x : Object). ⊤) xs
all_true xs = all_each (λ (x : Object). ⊤) (λ x. tt) xs

-- An object has the number of a key's object exactly if it has the key.
pub one_number : (k : ℕ) (z : Object) → (xs : List Object) → find (is_key k) xs ≡ Some z
    → InOrder (λ (x y : Object). (x.key == y.key) ≡ false) xs
    → InOrder (λ (x y : Object). (x.step_number == y.step_number) ≡ false) xs
    → AllByRecursion (λ (x : Object). (z.step_number == x.step_number) ≡ (k == x.key)) xs
one_number k z [] e h b = absurd (let n : None ≡ Some z = e in cc)
one_number k z (y ∷ ys) e h b =
    elim (y.key == k) as (λ t. (y.key == k) ≡ t → cond t (Some y) (find (is_key k) ys) ≡ Some z → AllByRecursion (λ (x : Object). (z.step_number == x.step_number) ≡ (k == x.key)) (y ∷ ys)) [
      | true ↦ λ is j.
          let same : y ≡ z = let s : Some y ≡ Some z = j in cc in
          let key = eqb-true y.key k is in
          subst (λ (o : Object). AllByRecursion (λ (x : Object). (o.step_number == x.step_number) ≡ (k == x.key)) (y ∷ ys)) same (
            eq-eqb y.step_number y.step_number refl ∙ sym (eq-eqb k y.key (sym key)),
            all_both (λ x. (y.key == x.key) ≡ false) (λ x. (y.step_number == x.step_number) ≡ false)
                (λ x. (y.step_number == x.step_number) ≡ (k == x.key))
                (λ x u v. v ∙ sym (subst (λ n. (n == x.key) ≡ false) key u)) ys h.0 b.0,
          )
      | false ↦ λ is j.
          let it = is_found k ys (ap is_some j) (λ (x : Object). (y.step_number == x.step_number) ≡ false) b.0 in
          let same : it.0 ≡ z = let s : Some it.0 ≡ Some z = sym it.1 ∙ j in cc in
          let born : (y.step_number == z.step_number) ≡ false =
          subst (λ (o : Object). (y.step_number == o.step_number) ≡ false) same it.3 in
          (flipped y.step_number z.step_number born ∙ sym (flipped y.key k is), one_number k z ys j h.1 b.1)
    ] refl e

step_number_there : (k : ℕ) (xs : List Object) (z : Object) → find (is_key k) xs ≡ Some z
    → step_number_at xs k ≡ z.step_number
step_number_there k xs z e = ap (λ o. option_map_or (λ (x : Object). x.step_number) o 0) e

-- A key that names an object has the number of that object and of no other.
pub key_by_number : (keys refs : List ℕ) (objects : List Object) (k : ℕ) → AreCounted keys refs objects
    → is_among (keys ++ refs) k ≡ true
    → AllByRecursion (λ (x : Object). (step_number_at objects k == x.step_number) ≡ (k == x.key)) objects
key_by_number keys refs objects k h e =
    let it = is_found k objects (h.there k e) (λ x. ⊤) (all_true objects) in
    all_weaker (λ (x : Object). (it.0.step_number == x.step_number) ≡ (k == x.key))
    (λ (x : Object). (step_number_at objects k == x.step_number) ≡ (k == x.key))
    (λ x r. ap (λ n. n == x.step_number) (step_number_there k objects it.0 it.1) ∙ r) objects
    (one_number k it.0 objects it.1 h.keys_differ h.step_numbers_differ)

-- An object's number occurs among the numbers of keys as often as its key among the keys.
pub count_numbers : (keys refs : List ℕ) (objects : List Object) → AreCounted keys refs objects → (some : List ℕ)
    → ((n : ℕ) → is_among some n ≡ true → is_among (keys ++ refs) n ≡ true) →
    AllByRecursion (λ (x : Object). count (map (step_number_at objects) some) x.step_number ≡ count some x.key) objects
count_numbers keys refs objects h [] f = all_each _ (λ x. refl) objects
count_numbers keys refs objects h (k ∷ ks) f =
    let rest = map (step_number_at objects) ks in
    all_both (λ (x : Object). (step_number_at objects k == x.step_number) ≡ (k == x.key))
    (λ (x : Object). count rest x.step_number ≡ count ks x.key)
    (λ (x : Object). count (step_number_at objects k ∷ rest) x.step_number ≡ count (k ∷ ks) x.key)
    (λ x u v.
    ap
    (λ b. length (cond b (step_number_at objects k ∷ filter (λ key. key == x.step_number) rest) (filter (λ key. key == x.step_number) rest)))
    u
    ∙ elim (k == x.key) as (λ b. length (cond b (step_number_at objects k ∷ filter (λ key. key == x.step_number) rest) (filter (λ key. key == x.step_number) rest)) ≡ length (cond b (k ∷ filter (λ key. key == x.key) ks) (filter (λ key. key == x.key) ks)))
    [ true ↦ ap (λ n. suc n) v | false ↦ v ]) objects
    (key_by_number keys refs objects k h (f k (among-first ks k)))
    (count_numbers keys refs objects h ks (λ n e. f n (among-more ks k n e)))

same_not : (a b : Bool) → not a ≡ not b → a ≡ b
same_not true true h = refl
same_not false false h = refl
same_not true false h = absurd (let e : false ≡ true = h in cc)
same_not false true h = absurd (let e : true ≡ false = h in cc)

-- An object's number is among the numbers of keys exactly if its key is among them.
pub among_numbers : (keys refs : List ℕ) (objects : List Object) → AreCounted keys refs objects → (some : List ℕ)
    → ((n : ℕ) → is_among some n ≡ true → is_among (keys ++ refs) n ≡ true) →
    AllByRecursion (λ (x : Object). is_among (map (step_number_at objects) some) x.step_number ≡ is_among some x.key)
    objects
among_numbers keys refs objects h some f =
    all_weaker (λ (x : Object). count (map (step_number_at objects) some) x.step_number ≡ count some x.key)
    (λ (x : Object). is_among (map (step_number_at objects) some) x.step_number ≡ is_among some x.key)
    (λ x e. same_not _ _ (sym (count-none (map (step_number_at objects) some) x.step_number) ∙ ap (λ n. n == 0) e ∙ count-none some x.key))
    objects (count_numbers keys refs objects h some f)

abbrev named_object : HandleRow → ℕ
named_object row = row.object

numbers_of : (objects : List Object) (hs : List FileHandle)
    → map named_object (map (handle_row_of objects) hs) ≡ map (step_number_at objects) (keys_of hs)
numbers_of objects hs =
    map-map named_object (handle_row_of objects) hs
    ∙ sym (map-map (step_number_at objects) (λ (x : FileHandle). x.object) hs)

-- As many rows of handles name a number as keys of handles have it.
pub holds_counted : (rows : List HandleRow) (objects : List Object) (hs : List FileHandle) (n : ℕ)
    → SameRows rows (map (handle_row_of objects) hs)
    → length (filter (λ (row : HandleRow). row.object == n) rows) ≡ count (map (step_number_at objects) (keys_of hs)) n
holds_counted rows objects hs n h =
    h (λ (row : HandleRow). row.object == n) ∙ count_of named_object n (map (handle_row_of objects) hs)
    ∙ ap (λ l. count l n) (numbers_of objects hs)

-- A number is named by a row of handles exactly if the key of a handle has this number.
pub holds_naming : (rows : List HandleRow) (objects : List Object) (hs : List FileHandle) (n : ℕ)
    → SameRows rows (map (handle_row_of objects) hs)
    → list_any (λ (row : HandleRow). row.object == n) rows ≡ is_among (map (step_number_at objects) (keys_of hs)) n
holds_naming rows objects hs n h =
    same-any (λ (row : HandleRow). row.object == n) rows (map (handle_row_of objects) hs) h
    ∙ sym (list_any-map (λ x. x == n) named_object (map (handle_row_of objects) hs))
    ∙ ap (λ l. is_among l n) (numbers_of objects hs)

-- A key's number is among the numbers of keys exactly if the key is.
pub among_key : (keys refs : List ℕ) (objects : List Object) → AreCounted keys refs objects → (some : List ℕ)
    → ((n : ℕ) → is_among some n ≡ true → is_among (keys ++ refs) n ≡ true) →
    (k : ℕ) → is_among (keys ++ refs) k ≡ true
    → is_among (map (step_number_at objects) some) (step_number_at objects k) ≡ is_among some k
among_key keys refs objects h some f k e =
    let it =
    is_found k objects (h.there k e)
    (λ (x : Object). is_among (map (step_number_at objects) some) x.step_number ≡ is_among some x.key)
    (among_numbers keys refs objects h some f) in
    ap (is_among (map (step_number_at objects) some)) (step_number_there k objects it.0 it.1) ∙ it.3
    ∙ ap (is_among some) it.2

-- Two keys have one number exactly if they are equal.
pub one_key : (keys refs : List ℕ) (objects : List Object) (k m : ℕ) → AreCounted keys refs objects
    → is_among (keys ++ refs) k ≡ true → is_among (keys ++ refs) m ≡ true
    → (step_number_at objects k == step_number_at objects m) ≡ (k == m)
one_key keys refs objects k m h e f =
    let it =
    is_found m objects (h.there m f) (λ (x : Object). (step_number_at objects k == x.step_number) ≡ (k == x.key))
    (key_by_number keys refs objects k h e) in
    ap (λ n. step_number_at objects k == n) (step_number_there m objects it.0 it.1) ∙ it.3 ∙ ap (λ n. k == n) it.2

-- the objects that tokens and framebuffers name
abbrev pub references : Rows → List ℕ
references w =
    map (λ (row : TokenRow). row.object) w.tokens ++ map (λ (row : FramebufferRow). row.object) w.framebuffers

-- Rows that are the same up to order stay so when each list is continued by such rows.
pub same-append : {X : Type 0} (xs ys us vs : List X) → SameRows xs ys → SameRows us vs → SameRows (xs ++ us) (ys ++ vs)
same-append xs ys us vs h k =
    λ test. length-filter_append test xs us ∙ ap (λ n. n + length (filter test us)) (h test)
    ∙ ap (λ n. length (filter test ys) + n) (k test) ∙ sym (length-filter_append test ys vs)

-- A row between two lists is the same, up to order, as the row in front of both.
pub same-middle : {X : Type 0} (x : X) (xs ys : List X) → SameRows (xs ++ x ∷ ys) (x ∷ (xs ++ ys))
same-middle x xs ys = λ test.
    let longer = length-filter_append test xs (x ∷ ys) in
    let shorter = length-filter_append test xs ys in
    elim (test x) as (λ b. length (filter test (xs ++ x ∷ ys)) ≡ length (filter test xs) + length (cond b (x ∷ filter test ys) (filter test ys)) → length (filter test (xs ++ x ∷ ys)) ≡ length (cond b (x ∷ filter test (xs ++ ys)) (filter test (xs ++ ys))))
    [ true ↦ λ h. omega (arith, h, shorter) | false ↦ λ h. omega (arith, h, shorter) ] longer

-- the numbers that rows name, by the keys of what they represent
numbers_named : {X Y : Type 0} (named : Y → ℕ) (row : X → Y) (key : X → ℕ) (objects : List Object) (rows : List Y) (xs : List X)
    → ((x : X) → named (row x) ≡ step_number_at objects (key x)) → SameRows rows (map row xs)
    → SameRows (map named rows) (map (step_number_at objects) (map key xs))
numbers_named named row key objects rows xs is h =
    subst (SameRows (map named rows))
    (map-map named row xs ∙ ap (λ f. map f xs) (λ i x. is x i) ∙ sym (map-map (step_number_at objects) key xs))
    (same-map named rows (map row xs) h)

-- The objects that the rows of tokens and framebuffers name are those of their keys.
pub references_by : (v : Rows) (objects : List Object) (ts : List SharedToken) (fs : List Framebuffer)
    → SameRows v.tokens (map (token_row_of objects) ts)
    → SameRows v.framebuffers (map (framebuffer_row_of objects) fs) →
    SameRows (references v) (map (step_number_at objects) (referring ts fs))
references_by v objects ts fs h k =
    subst (SameRows (references v)) (sym (map-append (step_number_at objects) (token_keys ts) (framebuffer_keys fs)))
    (same-append (map (λ (row : TokenRow). row.object) v.tokens) (map (step_number_at objects) (token_keys ts)) (map (λ (row : FramebufferRow). row.object) v.framebuffers) (map (step_number_at objects) (framebuffer_keys fs))
    (numbers_named (λ (row : TokenRow). row.object) (token_row_of objects) (λ (x : SharedToken). x.object) objects v.tokens ts (λ x. refl) h)
    (numbers_named (λ (row : FramebufferRow). row.object) (framebuffer_row_of objects) (λ (x : Framebuffer). x.object) objects v.framebuffers fs (λ x. refl) k))
