-- The numbers of one group.
use Rattle.std.proofs.Common.{◌≡◌, ℕ, zero, suc, ◌+◌, ◌<◌, ◌≤◌, ◌==◌, ◌&&◌, ◌||◌, Bool, true, false, not, cond, is_some, length, List, [], ◌∷◌, Option, Some, None, refl, sym, ap, ◌∙◌, eq-eqb, slice_get, arith, nat_cmp}
use Rattle.std.specs.FinMap as fin
use Rattle.std.specs.List.{list_any}
use Rattle.std.specs.Option.{option_map_or}
use Rattle.std.specs.Cmp.{nat_cmp_total}
use Rattle.std.specs.Ordering.{eq_by_cmp}
use Rattle.std.proofs.lemmas.Bool.Decides.{nat_tests}
use Rattle.std.specs.FinMap.Entries.{find}
use Rattle.std.proofs.lemmas.Bool.{eqb-true, ne_eqb}
use Rattle.std.proofs.lemmas.List.{length-map}
use Rattle.drm_index_array.specs.Indexed.{Indexed, empty_array, with_item, without_item}
use Rattle.drm_index_array.specs.Least.{least}
use Rattle.drm_index_array.proofs.Least.{least-same, least_is, least_is_none}
use Rattle.drm_index_array.proofs.MarkedLemmas.{get-insert, get-remove}
use Rattle.drm_id_alloc.specs.Groups.{GroupMap, has_number, has, numbers_of, IsNoted, IsForgotten}
use Rattle.drm_id_alloc.proofs.GroupLemmas.{group_is, nothing_or, all_and}
use Rattle.std.proofs.Math.Bool.{and-false, or-true, or-false}
use Rattle.drm_index_array.proofs.Numbers.{same_either}

abbrev Numbers : Type 0
Numbers = Indexed (Unit {0})

with_one : (a : Option (Unit {0})) (t : Bool) → is_some (cond t (Some tt) a) ≡ (is_some a || t)
with_one None true = refl
with_one None false = refl
with_one (Some x) true = refl
with_one (Some x) false = refl

without_one : (a : Option (Unit {0})) (t : Bool) → is_some (cond t None a) ≡ (is_some a && not t)
without_one None true = refl
without_one None false = refl
without_one (Some x) true = refl
without_one (Some x) false = refl

-- Adding a number to a group adds this number and no other.
pub one_more : (a b : Numbers) (n : ℕ) → b ≡ with_item a n tt → IsNoted a n b
one_more a b n new u =
    ap (λ (x : Numbers). has_number x u) new ∙ ap is_some (get-insert a.items n tt u)
    ∙ with_one (fin.get a.items u) (u == n)

-- A number added to an empty group is the only one in it.
pub one_first : (a b : Numbers) (n : ℕ) → a ≡ empty_array → b ≡ with_item a n tt → (u : ℕ)
    → has_number b u ≡ (false || (u == n))
one_first a b n none new u =
    one_more a b n new u
    ∙ ap (λ s. s || (u == n)) (ap (λ (x : Numbers). has_number x u) none ∙ ap is_some (fin.get-empty nat_cmp u))

-- Removing a number from a group removes this number and no other.
pub one_less : (a b : Numbers) (n : ℕ) → b ≡ without_item a n → (u : ℕ)
    → has_number b u ≡ (has_number a u && not (u == n))
one_less a b n new u =
    ap (λ (x : Numbers). has_number x u) new ∙ ap is_some (get-remove a.items n u)
    ∙ without_one (fin.get a.items u) (u == n)

-- Adding a number that the group already has changes nothing.
pub one_there : (a b : Numbers) (n : ℕ) → b ≡ a → is_some (fin.get a.items n) ≡ true → IsNoted a n b
one_there a b n same there u =
    ap (λ (x : Numbers). has_number x u) same
    ∙ elim (u == n) as (λ t. (u == n) ≡ t → has_number a u ≡ (has_number a u || t)) [
      | true ↦ λ e. ap (has_number a) (eqb-true u n e) ∙ there ∙ sym (or-true (has_number a u))
      | false ↦ λ e. sym (or-false (has_number a u))
    ] refl

none_in : (es : List (ℕ × Unit {0})) → length es ≡ 0 → (u : ℕ) → find nat_cmp u es ≡ None
none_in [] e u = refl
none_in (x ∷ es) e u = absurd (omega (arith, e))

-- A group of length 0 has no numbers.
pub none_has : (a : Numbers) → fin.len a.items ≡ 0 → (u : ℕ) → has_number a u ≡ false
none_has a last u =
    ap is_some (fin.get-entries a.items u ∙ none_in (fin.entries a.items) (sym (fin.len-entries a.items) ∙ last) u)

-- A group that does not exist has no lowest number.
pub least_of_none : (m : GroupMap) (g from to : ℕ) → fin.get m g ≡ None → least (has m g) from to ≡ None
least_of_none m g from to is = least_is_none (has m g) from to (λ k low high. group_is has_number m g None is k)

-- A group has as many keys as its length.
pub as_many_keys : (a : Numbers) → fin.len a.items ≡ length (fin.keys a.items)
as_many_keys a = fin.len-entries a.items ∙ sym (length-map (fin.entries a.items) (λ e. e.0))

key_test : (k n : ℕ) → (k == n) ≡ eq_by_cmp nat_cmp n k
key_test k n = grind (arith, nat_tests)

-- A number is in a group's list if and only if the group has it.
pub among_numbers : (m : GroupMap) (g n : ℕ) → list_any (λ k. k == n) (numbers_of m g) ≡ has m g n
among_numbers m g n = by_row (fin.get m g)
  where
    agree : (ks : List ℕ) → list_any (λ k. k == n) ks ≡ list_any (eq_by_cmp nat_cmp n) ks
    agree [] = refl
    agree (k ∷ ks) = λ i. key_test k n i || agree ks i

    by_row : (o : Option Numbers)
        → list_any (λ k. k == n) (option_map_or (λ (a : Numbers). fin.keys a.items) o []) ≡ option_map_or (λ (a : Numbers). has_number a n) o false
    by_row None = refl
    by_row (Some a) = agree (fin.keys a.items) ∙ sym (fin.contains_key-keys a.items n)

-- ---- one number alone

abbrev pub single : ℕ → Numbers
single n = with_item empty_array n tt

-- A group with one number has this number and no other.
pub single_has : (n u : ℕ) → has_number (single n) u ≡ (u == n)
single_has n u = one_first empty_array (single n) n refl refl u

-- A group with one number has the length 1.
pub single_len : (n : ℕ) → fin.len (single n).items ≡ 1
single_len n =
    fin.len-insert nat_cmp_total fin.empty n tt
    ∙ ap
    (λ o. cond (is_some o) (fin.len {X = Unit {0}} {R = nat_cmp} fin.empty) (fin.len {X = Unit {0}} {R = nat_cmp} fin.empty + 1))
    (fin.get-empty nat_cmp n)
    ∙ ap (λ k. k + 1) (fin.len-empty nat_cmp (Unit {0}))

-- a list of one number, and whether another is in it
in_one : (k u : ℕ) → list_any (eq_by_cmp nat_cmp u) (k ∷ []) ≡ (u == k)
in_one k u = sym (nothing_or (eq_by_cmp nat_cmp u k)) ∙ sym (key_test k u) ∙ same_either k u

one_key : (ks : List ℕ) (n : ℕ) → length ks ≡ 1 → list_any (eq_by_cmp nat_cmp n) ks ≡ true → ks ≡ n ∷ []
one_key [] n many there = absurd (omega (arith, many))
one_key (k ∷ []) n many there = ap (λ x. x ∷ []) (sym (eqb-true n k (sym (in_one k n) ∙ there)))
one_key (k ∷ j ∷ ks) n many there = absurd (omega (arith, many))

-- The keys of a group with one number are this number.
pub single_keys : (n : ℕ) → fin.keys (single n).items ≡ n ∷ []
single_keys n =
    one_key (fin.keys (single n).items) n (sym (as_many_keys (single n)) ∙ single_len n)
    (sym (fin.contains_key-keys (single n).items n) ∙ single_has n n ∙ eq-eqb n n refl)

-- A group of length 1 has the number of its first key and no other.
pub alone : (a : Numbers) (only : ℕ) → fin.len a.items ≡ 1 → Some only ≡ slice_get (fin.keys a.items) 0 → (u : ℕ)
    → has_number a u ≡ (u == only)
alone a only one first u =
    fin.contains_key-keys a.items u ∙ by_keys (fin.keys a.items) (sym (as_many_keys a) ∙ one) first
  where
    by_keys : (ks : List ℕ) → length ks ≡ 1 → Some only ≡ slice_get ks 0
        → list_any (eq_by_cmp nat_cmp u) ks ≡ (u == only)
    by_keys [] many first = absurd (omega (arith, many))
    by_keys (k ∷ []) many first = let same : k ≡ only = cc in in_one k u ∙ ap (λ n. u == n) same
    by_keys (k ∷ j ∷ ks) many first = absurd (omega (arith, many))

-- A group with one number has none at a position past 0.
pub single_past : (n position : ℕ) → 0 < position → None ≡ slice_get (fin.keys (single n).items) position
single_past n position past = rw single_keys (past_one position past)
  where
    past_one : (p : ℕ) → 0 < p → None ≡ slice_get (n ∷ []) p
    past_one zero past = absurd (omega (arith, past))
    past_one (suc p) past = refl

-- A group with one number has it at position 0.
pub single_first : (n position : ℕ) → position ≡ 0 → Some n ≡ slice_get (fin.keys (single n).items) position
single_first n position first = rw (single_keys, first) refl

-- A group with one number has none above it.
pub single_above : (n from : ℕ) → n < from → (k : ℕ) → from ≤ k → has_number (single n) k ≡ false
single_above n from below k low = single_has n k ∙ grind (arith, nat_tests)

-- A search above the only number of a group finds nothing.
pub single_below : (n from to : ℕ) → n < from → None ≡ least (has_number (single n)) from to
single_below n from to below = sym (least_is_none _ from to (λ k low high. single_above n from below k low))

-- A search in a range with the only number of a group finds it.
pub single_least : (n from to : ℕ) → from ≤ n → n ≤ to → Some n ≡ least (has_number (single n)) from to
single_least n from to low high =
    sym (least_is _ from to n (record {
      at_least = low;
      at_most = high;
      passes = single_has n n ∙ eq-eqb n n refl;
      none_below = λ k at_least below. single_has n k ∙ grind (arith, nat_tests);
    }))

-- Adding the only number of a group again leaves the group unchanged.
pub single_again : (n u : ℕ) → n ≡ u → IsNoted (single n) u (single n)
single_again n u same = one_there (single n) (single n) u refl (single_has n u ∙ eq-eqb u n (sym same))

-- A second number added to a group with one number makes a group of both.
pub two : (first second : ℕ) (none a b : Numbers) → none ≡ empty_array → IsNoted none first a → IsNoted a second b
    → IsNoted (single first) second b
two first second none a b is one more u =
    more u
    ∙ ap (λ s. s || (u == second))
    (one u ∙ ap (λ s. s || (u == first)) (ap (λ (x : Numbers). has_number x u) is ∙ ap is_some (fin.get-empty nat_cmp u)) ∙ sym (single_has first u))

-- Removing the only number of a group leaves the empty group.
pub single_gone : (n u : ℕ) → n ≡ u → IsForgotten (single n) u empty_array
single_gone n u same k =
    ap is_some (fin.get-empty nat_cmp k)
    ∙ elim (k == u) as (λ t. (k == u) ≡ t → false ≡ (has_number (single n) k && not t)) [
      | true ↦ λ e. sym (and-false (has_number (single n) k))
      | false ↦ λ e. ap (λ s. s && true) (sym (single_has n k ∙ ap (λ m. k == m) same ∙ e))
    ] refl

-- Removing another number leaves a group with one number unchanged.
pub single_stays : (n u : ℕ) → (n ≡ u → ⊥) → IsForgotten (single n) u (single n)
single_stays n u apart k =
    elim (k == u) as (λ t. (k == u) ≡ t → has_number (single n) k ≡ (has_number (single n) k && not t)) [
      | true ↦ λ e. single_has n k ∙ ap (λ m. m == n) (eqb-true k u e) ∙ ne_eqb u n (λ same. apart (sym same)) ∙ sym (and-false (has_number (single n) k))
      | false ↦ λ e. all_and (has_number (single n) k)
    ] refl

-- If one number is left after a removal, the group is that of this number.
pub one_left : (a b : Numbers) (n u : ℕ) → b ≡ without_item a u → ((k : ℕ) → has_number b k ≡ (k == n))
    → IsForgotten a u (single n)
one_left a b n u less left k = single_has n k ∙ sym (left k) ∙ one_less a b u less k

-- A removal of a number stays one if both groups are written as equal ones.
pub forgotten_as : (a was b is : Numbers) (n : ℕ) → a ≡ was → is ≡ b → IsForgotten a n b → IsForgotten was n is
forgotten_as a was b is n old new less k =
    ap (λ (x : Numbers). has_number x k) new ∙ less k ∙ ap (λ (x : Numbers). has_number x k && not (k == n)) old
