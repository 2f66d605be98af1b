-- The entries of all tables in one list, each under its client and its handle.
use Rattle.std.proofs.Common.{◌≡◌, ℕ, Bool, true, false, ◌&&◌, ◌||◌, ◌==◌, nat_lt, eqb, cond, T, List, [], ◌∷◌, ◌++◌, map, Option, Some, None, option_and_then, refl, sym, ap, subst, ◌∙◌, inl, inr, arith, Ordering, Less, Equal, Greater, is_lt, nat_cmp}
use Rattle.std.specs.Option.{option_or}
use Rattle.std.specs.Ordering.{ordering_then, eq_by_cmp}
use Rattle.std.specs.Cmp.{IsTotalOrder, nat_cmp_total}
use Rattle.std.specs.FinMap as fin
use Rattle.std.specs.FinMap.{IsAntisymmetric}
use Rattle.std.specs.FinMap.Entries.{find, is_sorted, below_all, same_entries}
use Rattle.std.proofs.lemmas.Bool.{cases_eq}
use Rattle.std.proofs.lemmas.Bool.Decides.{nat_tests}
use Rattle.std.proofs.lemmas.Cmp.{then_total, on_total}
use Rattle.std.proofs.lemmas.Map.Lookups.{exact_pairs, exact_unsigned}
use Rattle.drm_index_array.proofs.MarkedLemmas.{eq_by_cmp-nat_cmp}
use Rattle.drm_files.specs.declared.files.FileRecord.{FileRecord}
use Rattle.drm_files.specs.declared.files.Held.{Held}
use Rattle.drm_files.specs.declared.rows.FileHandle.{FileHandle}
use Rattle.drm_files.specs.Files.{hold}
use Rattle.drm_files.specs.Records.{rows_in, holds_in}
use Rattle.drm_index_array.proofs.RowsByKey.{left, right, both, find_below}

abbrev pub KeyPair : Type 0
KeyPair = ℕ × ℕ

-- by client, and then by handle
abbrev pub key_pair_cmp : KeyPair → KeyPair → Ordering
key_pair_cmp a b = ordering_then (nat_cmp a.0 b.0) (nat_cmp a.1 b.1)

-- The order of pairs is total.
pub export_order_total : IsTotalOrder key_pair_cmp
export_order_total =
    then_total (on_total (λ (a : KeyPair). a.0) nat_cmp_total) (on_total (λ (a : KeyPair). a.1) nat_cmp_total)

-- Two pairs that are equal in their order are the same.
pub export_order_exact : IsAntisymmetric key_pair_cmp
export_order_exact = exact_pairs nat_cmp nat_cmp exact_unsigned exact_unsigned

abbrev pub row_of : KeyPair × Held → FileHandle
row_of e = hold e.0.0 e.0.1 e.1.object e.1.export_order

-- one client's entries
abbrev pub tagged : ℕ → List (ℕ × Held) → List (KeyPair × Held)
tagged c hs = map (λ e. ((c, e.0), e.1)) hs

abbrev pub flat : List (ℕ × FileRecord) → List (KeyPair × Held)
flat [] = []
flat (e ∷ es) = tagged e.0 (fin.entries e.1.handles.slots) ++ flat es

-- Equal numbers pass the test of equality.
pub eqb_same : (a b : ℕ) → a ≡ b → eqb a b ≡ true
eqb_same a b same = grind (arith, nat_tests)

-- Different numbers fail the test of equality.
pub eqb_other : (a b : ℕ) → (a ≡ b → ⊥) → eqb a b ≡ false
eqb_other a b apart = grind (arith, nat_tests)

nat_same : (c : ℕ) → nat_cmp c c ≡ Equal
nat_same c = grind (arith, nat_tests)

-- Two pairs are equal if and only if both parts are.
pub export_order_eq : (a b c d : ℕ) → eq_by_cmp key_pair_cmp (a, b) (c, d) ≡ (eqb a c && eqb b d)
export_order_eq a b c d = grind (arith, nat_tests)

-- A pair is less if its first part is, or if its second is and the first parts are equal.
pub export_order_lt : (a b c d : ℕ) → is_lt (key_pair_cmp (a, b) (c, d)) ≡ (nat_lt a c || ((a == c) && nat_lt b d))
export_order_lt a b c d = grind (arith, nat_tests)

map_append : {A B : Type 0} (f : A → B) (xs ys : List A) → map f (xs ++ ys) ≡ map f xs ++ map f ys
map_append f [] ys = refl
map_append f (x ∷ xs) ys = ap (λ l. f x ∷ l) (map_append f xs ys)

-- The rows of a client's tagged entries are the client's handles.
pub rows_tagged : (c : ℕ) (hs : List (ℕ × Held)) → map row_of (tagged c hs) ≡ rows_in c hs
rows_tagged c [] = refl
rows_tagged c (e ∷ hs) = ap (λ l. hold c e.0 e.1.object e.1.export_order ∷ l) (rows_tagged c hs)

-- The rows of the flat list are the handles of all clients.
pub rows_flat : (es : List (ℕ × FileRecord)) → holds_in es ≡ map row_of (flat es)
rows_flat [] = refl
rows_flat (e ∷ es) =
    (λ i. sym (rows_tagged e.0 (fin.entries e.1.handles.slots)) i ++ rows_flat es i)
    ∙ sym (map_append row_of (tagged e.0 (fin.entries e.1.handles.slots)) (flat es))

-- the order of the flat list

below_tagged : (c h : ℕ) (hs : List (ℕ × Held)) → below_all key_pair_cmp (c, h) (tagged c hs) ≡ below_all nat_cmp h hs
below_tagged c h [] = refl
below_tagged c h (e ∷ hs) = λ i. is_lt (ordering_then (nat_same c i) (nat_cmp h e.0)) && below_tagged c h hs i

-- Tagged entries are sorted if and only if the entries are.
pub sorted_tagged : (c : ℕ) (hs : List (ℕ × Held)) → is_sorted key_pair_cmp (tagged c hs) ≡ is_sorted nat_cmp hs
sorted_tagged c [] = refl
sorted_tagged c (e ∷ hs) = λ i. below_tagged c e.0 hs i && sorted_tagged c hs i

below_append : (p : KeyPair) (xs ys : List (KeyPair × Held)) → T (below_all key_pair_cmp p xs)
    → T (below_all key_pair_cmp p ys) → T (below_all key_pair_cmp p (xs ++ ys))
below_append p [] ys h k = k
below_append p (x ∷ xs) ys h k = both _ _ (left _ _ h) (below_append p xs ys (right _ _ h) k)

above_tagged : (c h d : ℕ) (hs : List (ℕ × Held)) → T (is_lt (nat_cmp c d))
    → T (below_all key_pair_cmp (c, h) (tagged d hs))
above_tagged c h d [] lt = tt
above_tagged c h d (e ∷ hs) lt = both _ _ (before (nat_cmp c d) lt) (above_tagged c h d hs lt)
  where
    before : (r : Ordering) → T (is_lt r) → T (is_lt (ordering_then r (nat_cmp h e.0)))
    before Less lt = tt
    before Equal lt = absurd lt
    before Greater lt = absurd lt

above_flat : (c h : ℕ) (es : List (ℕ × FileRecord)) → T (below_all nat_cmp c es)
    → T (below_all key_pair_cmp (c, h) (flat es))
above_flat c h [] k = tt
above_flat c h (e ∷ es) k =
    below_append (c, h) _ _ (above_tagged c h e.0 (fin.entries e.1.handles.slots) (left _ _ k))
    (above_flat c h es (right _ _ k))

sorted_append : (c : ℕ) (hs : List (ℕ × Held)) (ys : List (KeyPair × Held)) → T (is_sorted key_pair_cmp (tagged c hs))
    → ((h : ℕ) → T (below_all key_pair_cmp (c, h) ys)) → T (is_sorted key_pair_cmp ys)
    → T (is_sorted key_pair_cmp (tagged c hs ++ ys))
sorted_append c [] ys h above k = k
sorted_append c (e ∷ hs) ys h above k =
    both _ _ (below_append (c, e.0) (tagged c hs) ys (left _ _ h) (above e.0))
    (sorted_append c hs ys (right _ _ h) above k)

-- If the records are sorted, the flat list is.
pub sorted_flat : (es : List (ℕ × FileRecord)) → T (is_sorted nat_cmp es) → T (is_sorted key_pair_cmp (flat es))
sorted_flat [] h = tt
sorted_flat (e ∷ es) h =
    sorted_append e.0 (fin.entries e.1.handles.slots) (flat es)
    (subst T (sym (sorted_tagged e.0 (fin.entries e.1.handles.slots))) (fin.entries_sorted e.1.handles.slots))
    (λ n. above_flat e.0 n es (left _ _ h)) (sorted_flat es (right _ _ h))

-- what is found in it

find_append : (p : KeyPair) (xs ys : List (KeyPair × Held))
    → find key_pair_cmp p (xs ++ ys) ≡ option_or (find key_pair_cmp p xs) (find key_pair_cmp p ys)
find_append p [] ys = refl
find_append p (x ∷ xs) ys =
    elim (eq_by_cmp key_pair_cmp p x.0) as (λ b. cond b (Some x.1) (find key_pair_cmp p (xs ++ ys)) ≡ option_or (cond b (Some x.1) (find key_pair_cmp p xs)) (find key_pair_cmp p ys)) [ true ↦ refl | false ↦ find_append p xs ys ]

-- A search in one client's tagged entries finds the client's own handles and no others.
pub find_tagged : (a b c : ℕ) (hs : List (ℕ × Held))
    → find key_pair_cmp (a, b) (tagged c hs) ≡ cond (eqb a c) (find nat_cmp b hs) None
find_tagged a b c [] = sym (cond_none (eqb a c))
  where
    cond_none : (t : Bool) → cond t (find {X = Held} nat_cmp b []) None ≡ None
    cond_none true = refl
    cond_none false = refl
find_tagged a b c (e ∷ hs) =
    (λ i. cond (export_order_eq a b c e.0 i) (Some e.1) (find_tagged a b c hs i))
    ∙ elim (eqb a c) as (λ t. cond (t && eqb b e.0) (Some e.1) (cond t (find nat_cmp b hs) None) ≡ cond t (find nat_cmp b (e ∷ hs)) None) [
      | true ↦ ap (λ t. cond t (Some e.1) (find nat_cmp b hs)) (sym (eq_by_cmp-nat_cmp b e.0))
      | false ↦ refl
    ]

-- the value of a handle of a client
abbrev pub held : fin.FinMap nat_cmp FileRecord → ℕ → ℕ → Option Held
held m c h = option_and_then (λ r. fin.get r.handles.slots h) (fin.get m c)

find_flat : (es : List (ℕ × FileRecord)) → T (is_sorted nat_cmp es) → (a b : ℕ)
    → find key_pair_cmp (a, b) (flat es) ≡ option_and_then (λ r. fin.get r.handles.slots b) (find nat_cmp a es)
find_flat [] h a b = refl
find_flat (e ∷ es) h a b =
    let hs = fin.entries e.1.handles.slots in
    let rest = find_flat es (right _ _ h) a b in
    find_append (a, b) (tagged e.0 hs) (flat es)
    ∙ (λ i. option_or (find_tagged a b e.0 hs i) (rest i))
    ∙ elim (cases_eq a e.0) [
      | inl same ↦
          let none : find nat_cmp a es ≡ None = rw same (find_below nat_cmp nat_cmp_total e.0 es (left _ _ h)) in
          let yes_it : eqb a e.0 ≡ true = eqb_same a e.0 same in
          let yes_cmp : eq_by_cmp nat_cmp a e.0 ≡ true = eq_by_cmp-nat_cmp a e.0 ∙ yes_it in
          (λ i. option_or (cond (yes_it i) (find nat_cmp b hs) None) (option_and_then (λ r. fin.get r.handles.slots b) (none i)))
          ∙ or_none (find nat_cmp b hs) ∙ sym (fin.get-entries e.1.handles.slots b)
          ∙ ap (λ t. option_and_then (λ r. fin.get r.handles.slots b) (cond t (Some e.1) (find nat_cmp a es)))
          (sym yes_cmp)
      | inr apart ↦
          let no_it : eqb a e.0 ≡ false = eqb_other a e.0 apart in
          let no_cmp : eq_by_cmp nat_cmp a e.0 ≡ false = eq_by_cmp-nat_cmp a e.0 ∙ no_it in
          (λ i. option_or (cond (no_it i) (find nat_cmp b hs) None) (option_and_then (λ r. fin.get r.handles.slots b) (find nat_cmp a es)))
          ∙ ap (λ t. option_and_then (λ r. fin.get r.handles.slots b) (cond t (Some e.1) (find nat_cmp a es)))
          (sym no_cmp)
    ]
  where
    or_none : (x : Option Held) → option_or x None ≡ x
    or_none None = refl
    or_none (Some x) = refl

-- A search in the flat list finds the entry of the client's table.
pub find_held : (m : fin.FinMap nat_cmp FileRecord) (a b : ℕ)
    → find key_pair_cmp (a, b) (flat (fin.entries m)) ≡ held m a b
find_held m a b =
    find_flat (fin.entries m) (fin.entries_sorted m) a b
    ∙ ap (option_and_then (λ r. fin.get r.handles.slots b)) (sym (fin.get-entries m a))

-- A sorted list with the same handle at each pair is the flat list.
pub flat_is : (m : fin.FinMap nat_cmp FileRecord) (es : List (KeyPair × Held)) → T (is_sorted key_pair_cmp es)
    → ((a b : ℕ) → held m a b ≡ find key_pair_cmp (a, b) es) → flat (fin.entries m) ≡ es
flat_is m es h same =
    same_entries key_pair_cmp export_order_total export_order_exact _ es
    (sorted_flat (fin.entries m) (fin.entries_sorted m)) h (λ q. find_held m q.0 q.1 ∙ same q.0 q.1)
