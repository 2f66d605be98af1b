-- What a tree says of all indices, those past it too.
use Rattle.std.proofs.Common.{◌≡◌, ℕ, ◌+◌, ◌-◌, ◌*◌, ◌^◌, ◌<◌, ◌≤◌, Bool, true, false, not, cond, eqb, ltb, List, Option, Some, None, is_some, option_map, IsTrue, IfNone, refl, sym, ap, ◌∙◌, subst, inl, inr, arith}
use Rattle.std.specs.FinMap as map
use Rattle.std.specs.Ordering.{nat_cmp}
use Rattle.std.proofs.lemmas.Bool.{cases_lt, cases_eq, eq-eqb, ne_eqb, lt-ltb, le-ltb, false≢true}
use Rattle.std.proofs.lemmas.Nat.{pow_pos}
use Rattle.std.proofs.Math.Nat.{pow-le-pow_right, le_trans}
use Rattle.drm_index_array.specs.Least.{least, IsLeastFrom}
use Rattle.drm_index_array.specs.Marked.{Marked, MarkedMap, get, unmarked}
use Rattle.drm_index_array.specs.Root.{IsPast}
use Rattle.drm_index_array.specs.Slots.{view_of, look}
use Rattle.drm_index_array.specs.Tree.{Tree, width, span}
use Rattle.drm_index_array.specs.declared.tree.Slot.{Slot}
use Rattle.drm_index_array.proofs.Least.{least_some, least_none, least_is_none}
use Rattle.drm_index_array.proofs.MarkedLemmas.{same_by_gets, get-insert, get-remove}
use Rattle.drm_index_array.proofs.TableLemmas.{get-table_past, len-table}
use Rattle.std.proofs.lemmas.Option.{none-some}

module _ {T : Type 0} (height : ℕ) (slots : List (Slot T)) (v : Tree T) (view_is : view_of height slots ≡ v) where
  -- A node has no entry past its span.
  pub view_past : IsPast v (span v.height)
  view_past =
      subst (λ (v : Tree T). IsPast v (span v.height)) view_is
      (λ k le. get-table_past (span height) (look height slots) k le)

  -- A node of a height up to 5 has at most 2^36 entries.
  pub view_few : height ≤ 5 → map.len v.items ≤ 2 ^ 36
  view_few low =
      let exponent : 6 * height + 6 ≤ 36 = omega arith in
      let wide : span height ≤ 2 ^ 36 = pow-le-pow_right {n = 2} (omega arith) exponent in
      let few : map.len (view_of height slots).items ≤ span height = len-table (span height) (look height slots) in
      rw (ap (λ (t : Tree T). map.len t.items) view_is) at (le_trans few wide)

-- A number that is not lower than b is at least b.
pub beyond : (a b : ℕ) → (a < b → IsTrue false) → b ≤ a
beyond a b none = elim (cases_lt a b) [ inl lt ↦ absurd (false≢true (none lt)) | inr ge ↦ ge ]

module _ {T : Type 0} (v : Tree T) where
  -- A search that begins past the span finds nothing in it.
  pub first_beyond : (p : ℕ → Bool) (from : ℕ) → span v.height ≤ from → None ≡ least p from (span v.height - 1)
  first_beyond p from le =
      sym (least_is_none p from _ (λ k ge high. absurd (omega (arith, pow_pos (6 * v.height + 6)))))

  module _ (past : IsPast v (span v.height)) (from : ℕ) where
    abbrev free : ℕ → Bool
    free k = not (map.contains_key v.items k)

    free_past : (k : ℕ) → span v.height ≤ k → free k ≡ true
    free_past k le = ap (λ o. not (is_some o)) (past k le)

    -- The lowest free index within the span is the lowest free one of all.
    pub vacant_found : (n : ℕ) → Some n ≡ least free from (span v.height - 1) → IsLeastFrom free from n
    vacant_found n found =
        let is = least_some free from _ n (sym found) in
        record { at_least = is.at_least; at_most = omega arith; passes = is.passes; none_below = is.none_below }

    -- If no index of the span is free, the first index past it is the lowest free one.
    pub vacant_none : from < span v.height → None ≡ least free from (span v.height - 1)
        → IsLeastFrom free from (span v.height)
    vacant_none lt none =
        record
        { at_least = omega arith; at_most = omega arith; passes = free_past (span v.height) (omega arith); none_below = λ k ge below. least_none free from _ (sym none) k ge (omega arith) }

-- The span of a lower node is at most the slot width of a higher one.
pub span_low : (a b : ℕ) → a + 1 ≤ b → span a ≤ width b
span_low a b le =
    let exponent : 6 * a + 6 ≤ 6 * b = omega arith in
    pow-le-pow_right {n = 2} (omega arith) exponent

-- A node whose span has an index past another's span is higher.
pub higher : (a b q : ℕ) → span a ≤ q → q < span b → a + 1 ≤ b
higher a b q past within =
    elim (cases_lt a b) [
      | inl lt ↦ omega arith
      | inr ge ↦ let exponent : 6 * b + 6 ≤ 6 * a + 6 = omega arith in
          let wide : span b ≤ span a = pow-le-pow_right {n = 2} (omega arith) exponent in
          absurd (omega arith)
    ]

-- A map with one entry has this entry and no other.
pub get-lone : {X : Type 0} (q : ℕ) (x : X) (k : ℕ)
    → map.get (map.insert (map.empty {R = nat_cmp}) q x) k ≡ cond (eqb k q) (Some x) None
get-lone q x k = get-insert map.empty q x k ∙ ap (λ o. cond (eqb k q) (Some x) o) (map.get-empty nat_cmp k)

-- a tree hung into the first slot of a higher one
module _ {X : Type 0} (n : ℕ) (top child root now : map.FinMap nat_cmp X) (child_is : child ≡ root) (past : (k : ℕ) → n ≤ k → map.get root k ≡ None) (gets : (k : ℕ) → map.get now k ≡ cond (ltb k n) (map.get child k) (map.get top k)) where
  -- A root hung into an empty top is all that the new root has.
  pub hung_alone : top ≡ map.empty → now ≡ root
  hung_alone none = same_by_gets now root (λ k. gets k ∙ elim (cases_lt k n) as (λ _. cond (ltb k n) (map.get child k) (map.get top k) ≡ map.get root k) [
    | inl lt ↦ rw (lt-ltb k n lt) (ap (λ m. map.get m k) child_is)
    | inr ge ↦ rw (le-ltb k n ge) (ap (λ m. map.get m k) none ∙ map.get-empty nat_cmp k ∙ sym (past k ge))
  ])

  -- A root hung into a top with one entry past its span is the root with this entry inserted.
  pub hung_beside : (q : ℕ) (x : X) → n ≤ q → top ≡ map.insert map.empty q x → now ≡ map.insert root q x
  hung_beside q x le one = same_by_gets now (map.insert root q x) (λ k. gets k ∙ elim (cases_lt k n) as (λ _. cond (ltb k n) (map.get child k) (map.get top k) ≡ map.get (map.insert root q x) k) [
    | inl lt ↦ rw (lt-ltb k n lt) (ap (λ m. map.get m k) child_is ∙ sym (get-insert root q x k ∙ rw (ne_eqb k q (λ e. omega (arith, lt, le, e))) refl))
    | inr ge ↦ rw (le-ltb k n ge) (ap (λ m. map.get m k) one ∙ get-lone q x k ∙ ap (λ o. cond (eqb k q) (Some x) o) (sym (past k ge)) ∙ sym (get-insert root q x k))
  ])

-- the one entry of a tree, taken out
module _ {T : Type 0} where
  -- The value at the index of a tree's only entry is the value of this entry.
  pub lone_taken : (q : ℕ) (v : T) (o : Option T) (t u : Tree T) → o ≡ get t.items q → t ≡ u
      → u.items ≡ map.insert map.empty q (unmarked v) → o ≡ Some v
  lone_taken q v o t u taken same one =
      taken
      ∙ ap (λ (t : Tree T). get t.items q) same
      ∙ ap (λ m. get m q) one
      ∙ ap (option_map (λ s. s.value))
      (get-lone q (unmarked v) q ∙ ap (λ b. cond b (Some (unmarked v)) None) (eq-eqb q q refl))

module _ {T : Type 0} where
  -- A map without one key that is otherwise unchanged is the map after the removal.
  pub removed_by : (old now : MarkedMap T) (q : ℕ) → ((k : ℕ) → map.get now k ≡ cond (eqb k q) None (map.get old k))
      → now ≡ map.remove old q
  removed_by old now q gets = same_by_gets now (map.remove old q) (λ k. gets k ∙ sym (get-remove old q k))

  -- Removing at an index with no entry changes nothing.
  pub remove_none : (m : MarkedMap T) (q : ℕ) → map.get m q ≡ None → map.remove m q ≡ m
  remove_none m q none =
      same_by_gets (map.remove m q) m (λ k. get-remove m q k ∙ elim (cases_eq k q) as (λ _. cond (eqb k q) None (map.get m k) ≡ map.get m k) [
        | inl is ↦ rw (eq-eqb k q is) (sym (ap (map.get m) is ∙ none))
        | inr apart ↦ rw (ne_eqb k q apart) refl
      ])

  -- An index with no value has no entry.
  pub no_value : (m : MarkedMap T) (q : ℕ) → None ≡ get m q → map.get m q ≡ None
  no_value m q none = from (map.get m q) none
    where
      from : (o : Option (Marked T)) → None ≡ option_map (λ s. s.value) o → o ≡ None
      from None e = refl
      from (Some s) e = absurd (none-some s.value e)

  -- If a lookup finds no value, removing at the index changes nothing.
  pub kept_unless : (m : MarkedMap T) (q : ℕ) (o : Option T) → o ≡ get m q → IfNone o (map.remove m q ≡ m)
  kept_unless m q None is = remove_none m q (no_value m q is)
  kept_unless m q (Some x) is = tt
