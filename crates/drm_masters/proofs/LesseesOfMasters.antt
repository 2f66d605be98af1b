-- The lessees of each master, as masters are created and freed.
use Rattle.std.proofs.Common.{◌≡◌, ℕ, ◌<◌, ◌≤◌, ◌==◌, Bool, true, false, not, cond, ◌&&◌, ◌||◌, List, [], ◌∷◌, map, filter, Option, None, Some, refl, sym, ap, ◌∙◌, eq-eqb, arith, nat_cmp}
use Rattle.std.specs.Prelude.{T, IfNone}
use Rattle.std.specs.List.{list_any, AllByRecursion}
use Rattle.std.specs.Option.{is_some, option_map_or, option_and_then}
use Rattle.std.specs.FinMap as fin
use Rattle.std.specs.FinMap.Entries.{is_sorted, below_all}
use Rattle.std.proofs.lemmas.Bool.{eqb-true, ne_eqb, false≢true}
use Rattle.drm_index_array.specs.Least.{least}
use Rattle.drm_index_array.specs.Rows.{placed}
use Rattle.drm_index_array.specs.Indexed.{Indexed}
use Rattle.drm_index_array.proofs.RowsByKey.{left, right}
use Rattle.drm_index_array.proofs.Least.{least_some}
use Rattle.drm_id_alloc.proofs.NumberLemmas.{among_numbers}
use Rattle.drm_id_alloc.specs.Groups.{Groups, GroupMap, has, numbers_of}
use Rattle.drm_index_array.specs.Orders.{InOrder}
use Rattle.drm_index_array.specs.Numbers.{is_among}
use Rattle.drm_index_array.proofs.Lists.{all_weaker, all_filter, all_mapped}
use Rattle.drm_index_array.proofs.FoundInLists.{find_none}
use Rattle.drm_index_array.proofs.Rising.{any_found, all_found, find_where}
use Rattle.drm_masters.specs.declared.rows.Master.{Master}
use Rattle.drm_masters.specs.Masters.{is_step_number, master_before, is_option, master_at, lessor_of, lessees_of}
use Rattle.drm_masters.specs.Tables.{AreLesseesOf, IsListed, IsUnlisted}
use Rattle.drm_masters.proofs.MasterChains.{Rise, IsFresh, others_apart}
use Rattle.drm_masters.proofs.Pushed.{new_lessor, other_lessors}
use Rattle.drm_index_array.proofs.Entries.{less_of}

none_more : (a b : Bool) → (a || (b && false)) ≡ a
none_more true b = refl
none_more false true = refl
none_more false false = refl

none_fewer : (a b : Bool) → (a && not (b && false)) ≡ a
none_fewer true true = refl
none_fewer true false = refl
none_fewer false b = refl

one_more : (b : Bool) → (false || (b && true)) ≡ b
one_more true = refl
one_more false = refl

itself_gone : (b : Bool) → (b && not (b && true)) ≡ false
itself_gone true = refl
itself_gone false = refl

module _ (ms : List Master) (x : Master) where
  module _ (fresh : IsFresh ms x.step_number) where
    none_yet : lessor_of ms x.step_number ≡ None
    none_yet =
        ap (option_and_then (λ (y : Master). y.lessor))
        (find_none (is_step_number x.step_number) ms (others_apart ms x.step_number fresh))

    -- After a new master is listed with its lessor, the groups are those of the list with this master.
    pub listed : (old new : Groups) → AreLesseesOf ms old → IsListed old x.lessor x.step_number new
        → AreLesseesOf (placed master_before x ms) new
    listed old new are added m n =
        added m n
        ∙ elim (n == x.step_number) as (λ b. (n == x.step_number) ≡ b → (old m n || (is_option m x.lessor && b)) ≡ is_option m (lessor_of (placed master_before x ms) n)) [
          | true ↦ λ e.
              let same : n ≡ x.step_number = eqb-true n x.step_number e in
              ap (λ b. b || (is_option m x.lessor && true))
              (are m n ∙ ap (is_option m) (ap (lessor_of ms) same ∙ none_yet))
              ∙ one_more (is_option m x.lessor)
              ∙ sym (ap (is_option m) (ap (lessor_of (placed master_before x ms)) same ∙ new_lessor ms x fresh))
          | false ↦ λ e. none_more (old m n) (is_option m x.lessor) ∙ are m n ∙ sym (ap (is_option m) (other_lessors ms x fresh n e))
        ] refl

    -- If a new master is listed with its lessor and removed again, the groups are those of the list before.
    pub back : (old mid new : Groups) → AreLesseesOf ms old → IsListed old x.lessor x.step_number mid
        → IsUnlisted mid x.lessor x.step_number new → AreLesseesOf ms new
    back old mid new are added taken m n =
        taken m n ∙ ap (λ b. b && not (is_option m x.lessor && (n == x.step_number))) (added m n)
        ∙ elim (n == x.step_number) as (λ b. (n == x.step_number) ≡ b → ((old m n || (is_option m x.lessor && b)) && not (is_option m x.lessor && b)) ≡ is_option m (lessor_of ms n)) [
          | true ↦ λ e.
              let same : n ≡ x.step_number = eqb-true n x.step_number e in
              let none = are m n ∙ ap (is_option m) (ap (lessor_of ms) same ∙ none_yet) in
              ap (λ b. (b || (is_option m x.lessor && true)) && not (is_option m x.lessor && true)) none
              ∙ gone (is_option m x.lessor) ∙ sym (ap (is_option m) (ap (lessor_of ms) same ∙ none_yet))
          | false ↦ λ e. none_fewer (old m n || (is_option m x.lessor && false)) (is_option m x.lessor) ∙ none_more (old m n) (is_option m x.lessor) ∙ are m n
        ] refl
      where
        gone : (b : Bool) → ((false || (b && true)) && not (b && true)) ≡ false
        gone true = refl
        gone false = refl

  -- After a master is removed from its lessor's group, the groups are those of the list without this master.
  pub unlisted : master_at ms x.step_number ≡ Some x → (old new : Groups) → AreLesseesOf ms old
      → IsUnlisted old x.lessor x.step_number new
      → AreLesseesOf (filter (λ (y : Master). not (is_step_number x.step_number y)) ms) new
  unlisted here old new are taken m n =
      taken m n
      ∙ elim (n == x.step_number) as (λ b. (n == x.step_number) ≡ b → (old m n && not (is_option m x.lessor && b)) ≡ is_option m (option_and_then (λ (y : Master). y.lessor) (cond (not b) (master_at ms n) None))) [
        | true ↦ λ e.
            let same : n ≡ x.step_number = eqb-true n x.step_number e in
            ap (λ b. b && not (is_option m x.lessor && true))
            (are m n ∙ ap (λ o. is_option m (option_and_then (λ (y : Master). y.lessor) o)) (ap (master_at ms) same ∙ here))
            ∙ itself_gone (is_option m x.lessor)
        | false ↦ λ e. none_fewer (old m n) (is_option m x.lessor) ∙ are m n
      ] refl
      ∙ sym
      (ap (λ o. is_option m (option_and_then (λ (y : Master). y.lessor) o)) (find_where (λ (y : Master). y.step_number) (λ k. not (k == x.step_number)) n ms))

-- Masters with the same lessors have the same groups of lessees.
pub same_lessees : (ms others : List Master) → ((n : ℕ) → lessor_of others n ≡ lessor_of ms n) → (groups : Groups)
    → AreLesseesOf ms groups → AreLesseesOf others groups
same_lessees ms others same groups are m n = are m n ∙ ap (is_option m) (sym (same n))

-- ---- what the groups answer

module _ (ms : List Master) (rise : Rise ms) (groups : GroupMap) (are : AreLesseesOf ms (has groups)) (m : ℕ) where
  row_is : AllByRecursion (λ (x : Master). is_option m x.lessor ≡ has groups m x.step_number) ms
  row_is =
      all_weaker (λ (x : Master). master_at ms x.step_number ≡ Some x)
      (λ (x : Master). is_option m x.lessor ≡ has groups m x.step_number)
      (λ x at. sym (are m x.step_number ∙ ap (λ o. is_option m (option_and_then (λ (y : Master). y.lessor) o)) at)) ms
      (all_found (λ (x : Master). x.step_number) ms rise)

  -- The master's group has a number if and only if some master has this one as its lessor.
  pub any_lessee : (o : Option ℕ) → o ≡ least (has groups m) 0 4294967295
      → IfNone o ((n : ℕ) → 0 ≤ n → has groups m n ≡ false)
      → is_some o ≡ list_any (λ (x : Master). is_option m x.lessor) ms
  any_lessee None e none = sym (all ms row_is)
    where
      all : (xs : List Master) → AllByRecursion (λ (x : Master). is_option m x.lessor ≡ has groups m x.step_number) xs
          → list_any (λ (x : Master). is_option m x.lessor) xs ≡ false
      all [] h = refl
      all (x ∷ xs) h =
          ap (λ b. b || list_any (λ (y : Master). is_option m y.lessor) xs) (h.0 ∙ none x.step_number (omega arith))
          ∙ all xs h.1
  any_lessee (Some n) e none =
      by_row (master_at ms n) refl (sym (are m n) ∙ (least_some (has groups m) 0 4294967295 n (sym e)).passes)
    where
      by_row : (o : Option Master) → master_at ms n ≡ o
          → is_option m (option_and_then (λ (y : Master). y.lessor) o) ≡ true
          → true ≡ list_any (λ (x : Master). is_option m x.lessor) ms
      by_row None at h = absurd (false≢true h)
      by_row (Some x) at h = sym (any_found (is_step_number n) (λ (y : Master). is_option m y.lessor) x ms at h)

-- ---- two lists that rise and have the same numbers are one

abbrev Up : List ℕ → Type 0
Up xs = InOrder (λ (a b : ℕ). a < b) xs

above_all : (x n : ℕ) (xs : List ℕ) → AllByRecursion (λ y. x < y) xs → is_among xs n ≡ true → x < n
above_all x n [] h e = absurd (false≢true e)
above_all x n (y ∷ ys) h e =
    (elim (y == n) as (λ b. (y == n) ≡ b → (b || is_among ys n) ≡ true → x < n) [ true ↦ λ k j. let same = eqb-true y n k in let lt = h.0 in omega (arith, same, lt) | false ↦ λ k j. above_all x n ys h.1 j ])
    refl e

below_none : (x n : ℕ) (xs : List ℕ) → AllByRecursion (λ y. x < y) xs → n ≤ x → is_among xs n ≡ false
below_none x n [] h le = refl
below_none x n (y ∷ ys) h le = let lt = h.0 in ap (λ b. b || is_among ys n) (ne_eqb y n (λ same. omega (arith, same, lt, le))) ∙ below_none x n ys h.1 le

-- Two rising lists with the same numbers are equal.
pub same_up : (xs ys : List ℕ) → Up xs → Up ys → ((n : ℕ) → is_among xs n ≡ is_among ys n) → xs ≡ ys
same_up [] [] hx hy same = refl
same_up [] (y ∷ ys) hx hy same = absurd (false≢true (same y ∙ ap (λ b. b || is_among ys y) (eq-eqb y y refl)))
same_up (x ∷ xs) [] hx hy same = absurd (false≢true (sym (same x) ∙ ap (λ b. b || is_among xs x) (eq-eqb x x refl)))
same_up (x ∷ xs) (y ∷ ys) hx hy same = (λ i. head i ∷ same_up xs ys hx.1 hy.1 tails i)
  where
    x_in : is_among (y ∷ ys) x ≡ true
    x_in = sym (same x) ∙ ap (λ b. b || is_among xs x) (eq-eqb x x refl)

    y_in : is_among (x ∷ xs) y ≡ true
    y_in = same y ∙ ap (λ b. b || is_among ys y) (eq-eqb y y refl)

    low : (a b : ℕ) (bs : List ℕ) → AllByRecursion (λ c. b < c) bs → is_among (b ∷ bs) a ≡ true → b ≤ a
    low a b bs h e =
        (elim (b == a) as (λ t. (b == a) ≡ t → (t || is_among bs a) ≡ true → b ≤ a) [ true ↦ λ k j. let s = eqb-true b a k in omega (arith, s) | false ↦ λ k j. let lt = above_all b a bs h j in omega (arith, lt) ])
        refl e

    head : x ≡ y
    head = let a = low x y ys hy.0 x_in in let b = low y x xs hx.0 y_in in omega (arith, a, b)

    tails : (n : ℕ) → is_among xs n ≡ is_among ys n
    tails n =
        elim (x == n) as (λ t. (x == n) ≡ t → is_among xs n ≡ is_among ys n) [
          | true ↦ λ e. let s = eqb-true x n e in below_none x n xs hx.0 (omega (arith, s)) ∙ sym (below_none y n ys hy.0 (omega (arith, s, head)))
          | false ↦ λ e. ap (λ t. t || is_among xs n) (sym e) ∙ same n ∙ ap (λ t. t || is_among ys n) (ap (λ k. k == n) (sym head) ∙ e)
        ] refl

-- ---- the numbers of a group are the lessees

keys_up : (m : fin.FinMap nat_cmp (Unit {0})) → Up (fin.keys m)
keys_up m = up (fin.entries m) (fin.entries_sorted m)
  where
    above : (k : ℕ) (es : List (ℕ × Unit {0})) → T (below_all nat_cmp k es)
        → AllByRecursion (λ y. k < y) (map (λ e. e.0) es)
    above k [] h = tt
    above k (e ∷ es) h = (less_of k e.0 (left _ _ h), above k es (right _ _ h))

    up : (es : List (ℕ × Unit {0})) → T (is_sorted nat_cmp es) → Up (map (λ e. e.0) es)
    up [] h = tt
    up (e ∷ es) h = (above e.0 es (left _ _ h), up es (right _ _ h))

numbers_up : (o : Option (Indexed (Unit {0}))) → Up (option_map_or (λ (a : Indexed (Unit {0})). fin.keys a.items) o [])
numbers_up None = tt
numbers_up (Some a) = keys_up a.items

step_numbers_up : (m : ℕ) (ms : List Master) → Rise ms → Up (lessees_of ms m)
step_numbers_up m [] h = tt
step_numbers_up m (x ∷ xs) h =
    elim (is_option m x.lessor) as (λ b. Up (map (λ (y : Master). y.step_number) (cond b (x ∷ filter (λ (y : Master). is_option m y.lessor) xs) (filter (λ (y : Master). is_option m y.lessor) xs)))) [
      | true ↦ (all_mapped (λ n. x.step_number < n) (λ (y : Master). y.step_number) (filter (λ (y : Master). is_option m y.lessor) xs) (all_filter (λ (y : Master). x.step_number < y.step_number) (λ (y : Master). is_option m y.lessor) xs h.0), step_numbers_up m xs h.1)
      | false ↦ step_numbers_up m xs h.1
    ]

step_numbers_among : (m n : ℕ) (ms : List Master) → Rise ms
    → is_among (lessees_of ms m) n ≡ is_option m (lessor_of ms n)
step_numbers_among m n [] h = refl
step_numbers_among m n (x ∷ xs) h =
    elim (x.step_number == n) as (λ b. (x.step_number == n) ≡ b → is_among (lessees_of (x ∷ xs) m) n ≡ is_option m (option_and_then (λ (y : Master). y.lessor) (cond b (Some x) (master_at xs n)))) [
      | true ↦ λ e.
          let s = eqb-true x.step_number n e in
          let none =
          below_none x.step_number n (lessees_of xs m)
          (all_mapped (λ k. x.step_number < k) (λ (y : Master). y.step_number) (filter (λ (y : Master). is_option m y.lessor) xs) (all_filter (λ (y : Master). x.step_number < y.step_number) (λ (y : Master). is_option m y.lessor) xs h.0))
          (omega (arith, s)) in
          elim (is_option m x.lessor) as (λ b. is_among (map (λ (y : Master). y.step_number) (cond b (x ∷ filter (λ (y : Master). is_option m y.lessor) xs) (filter (λ (y : Master). is_option m y.lessor) xs))) n ≡ b) [
            | true ↦ ap (λ b. b || is_among (lessees_of xs m) n) e
            | false ↦ none
          ]
      | false ↦ λ e.
          elim (is_option m x.lessor) as (λ b. is_among (map (λ (y : Master). y.step_number) (cond b (x ∷ filter (λ (y : Master). is_option m y.lessor) xs) (filter (λ (y : Master). is_option m y.lessor) xs))) n ≡ is_option m (lessor_of xs n)) [
            | true ↦ ap (λ b. b || is_among (lessees_of xs m) n) e ∙ step_numbers_among m n xs h.1
            | false ↦ step_numbers_among m n xs h.1
          ]
    ] refl

-- The numbers in a master's group are its direct lessees, rising.
pub numbers_are : (ms : List Master) → Rise ms → (groups : GroupMap) → AreLesseesOf ms (has groups) → (m : ℕ)
    → numbers_of groups m ≡ lessees_of ms m
numbers_are ms rise groups are m =
    same_up (numbers_of groups m) (lessees_of ms m) (numbers_up (fin.get groups m)) (step_numbers_up m ms rise)
    (λ n. among_numbers groups m n ∙ are m n ∙ sym (step_numbers_among m n ms rise))
