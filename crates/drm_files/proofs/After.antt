-- The handles of the clients from a number on, and the first handle after one.
use Rattle.std.proofs.Common.{◌≡◌, ℕ, ◌+◌, ◌≤◌, Bool, true, false, ◌&&◌, ◌||◌, ◌==◌, eqb, cond, nat_le, nat_lt, List, [], ◌∷◌, ◌++◌, filter, find, length, slice_get, IsTrue, Option, Some, None, refl, sym, ap, ◌∙◌, arith, nat_cmp}
use Rattle.std.specs.List.{AllByRecursion}
use Rattle.std.specs.Option.{option_or}
use Rattle.std.specs.Ordering.{eq_by_cmp}
use Rattle.std.specs.FinMap as fin
use Rattle.std.specs.FinMap.Entries.{find as find_key, where_key}
use Rattle.std.proofs.lemmas.Bool.Decides.{nat_tests}
use Rattle.std.proofs.lemmas.List.Elements.{filter-append}
use Rattle.std.proofs.lemmas.Option.{none-some}
use Rattle.drm_index_array.proofs.MarkedLemmas.{eq_by_cmp-nat_cmp}
use Rattle.drm_files.specs.declared.files.FileRecord.{FileRecord}
use Rattle.drm_files.specs.declared.files.Held.{Held}
use Rattle.drm_files.specs.declared.rows.FileHandle.{FileHandle}
use Rattle.drm_files.specs.Files.{hold, of_client, handle_before, comes_after, InOrder}
use Rattle.drm_files.specs.Records.{rows_in, holds_in}
use Rattle.drm_files.proofs.ChangedLists.{rows_of_client}
use Rattle.drm_files.proofs.Walks.{from_past}

-- the clients from a number on

abbrev from_client : ℕ → FileHandle → Bool
from_client from row = nat_le from row.client

rows_kept : (p : FileHandle → Bool) (c : ℕ) (b : Bool) → ((h o : ℕ) (x : Option ℕ) → p (hold c h o x) ≡ b)
    → (hs : List (ℕ × Held)) → filter p (rows_in c hs) ≡ cond b (rows_in c hs) []
rows_kept p c true all [] = refl
rows_kept p c true all (e ∷ hs) =
    let row = hold c e.0 e.1.object e.1.export_order in
    (λ i. cond (all e.0 e.1.object e.1.export_order i) (row ∷ filter p (rows_in c hs)) (filter p (rows_in c hs)))
    ∙ ap (λ l. row ∷ l) (rows_kept p c true all hs)
rows_kept p c false all [] = refl
rows_kept p c false all (e ∷ hs) =
    let row = hold c e.0 e.1.object e.1.export_order in
    (λ i. cond (all e.0 e.1.object e.1.export_order i) (row ∷ filter p (rows_in c hs)) (filter p (rows_in c hs)))
    ∙ rows_kept p c false all hs

-- The handles of the clients from a number on are those of their records.
pub holds_from : (from : ℕ) (es : List (ℕ × FileRecord))
    → filter (λ row. nat_le from row.client) (holds_in es) ≡ holds_in (where_key nat_cmp (λ k. nat_le from k) es)
holds_from from [] = refl
holds_from from (e ∷ es) =
    let hs = fin.entries e.1.handles.slots in
    let rest = where_key nat_cmp (λ k. nat_le from k) es in
    filter-append (from_client from) (rows_in e.0 hs) (holds_in es)
    ∙ elim (nat_le from e.0) as (λ b. nat_le from e.0 ≡ b → filter (from_client from) (rows_in e.0 hs) ++ filter (from_client from) (holds_in es) ≡ holds_in (cond b (e ∷ rest) rest)) [
      | true ↦ λ is i. rows_kept (from_client from) e.0 true (λ h o x. is) hs i ++ holds_from from es i
      | false ↦ λ is i. rows_kept (from_client from) e.0 false (λ h o x. is) hs i ++ holds_from from es i
    ] refl

-- The clients from 0 on are all clients.
pub from_first : (rows : List FileHandle) → filter (λ row. nat_le 0 row.client) rows ≡ rows
from_first [] = refl
from_first (row ∷ rows) =
    (λ i. cond (every row.client i) (row ∷ filter (from_client 0) rows) (filter (from_client 0) rows))
    ∙ ap (λ l. row ∷ l) (from_first rows)
  where
    every : (n : ℕ) → nat_le 0 n ≡ true
    every n = grind (arith, nat_tests)

-- No handle is of a client past `u32`.
pub none_past : (m : fin.FinMap nat_cmp FileRecord) → ((k : ℕ) → IsTrue (fin.contains_key m k) → k ≤ 4294967295)
    → filter (λ row. nat_le 4294967296 row.client) (holds_in (fin.entries m)) ≡ []
none_past m bound = holds_from 4294967296 (fin.entries m) ∙ ap holds_in (from_past m 4294967296 bound (omega arith))

-- There are no more entries from a number on than entries.
pub fewer : {X : Type 0} (from : ℕ) (es : List (ℕ × X))
    → length (where_key nat_cmp (λ k. nat_le from k) es) ≤ length es
fewer from [] = omega arith
fewer from (e ∷ es) =
    let rest = where_key nat_cmp (λ k. nat_le from k) es in
    elim (nat_le from e.0) as (λ b. length (cond b (e ∷ rest) rest) ≤ length (e ∷ es)) [
      | true ↦ omega (arith, fewer from es)
      | false ↦ omega (arith, fewer from es)
    ]

-- the handles of one client from a number on

-- The first handle of a client from a number on is that of the first entry.
pub first_row : (c from : ℕ) (hs : List (ℕ × Held))
    → find (λ (row : FileHandle). nat_le from row.handle) (rows_in c hs) ≡ slice_get (rows_in c (where_key nat_cmp (λ k. nat_le from k) hs)) 0
first_row c from [] = refl
first_row c from (e ∷ hs) =
    let rest = where_key nat_cmp (λ k. nat_le from k) hs in
    elim (nat_le from e.0) as (λ b. cond b (Some (hold c e.0 e.1.object e.1.export_order)) (find (λ (row : FileHandle). nat_le from row.handle) (rows_in c hs)) ≡ slice_get (rows_in c (cond b (e ∷ rest) rest)) 0) [
      | true ↦ refl
      | false ↦ first_row c from hs
    ]

find_both : {X : Type 0} (p q : X → Bool) (xs : List X) → find (λ x. p x && q x) xs ≡ find q (filter p xs)
find_both p q [] = refl
find_both p q (x ∷ xs) =
    elim (p x) as (λ b. cond (b && q x) (Some x) (find (λ y. p y && q y) xs) ≡ find q (cond b (x ∷ filter p xs) (filter p xs))) [
      | true ↦ ap (cond (q x) (Some x)) (find_both p q xs)
      | false ↦ find_both p q xs
    ]

find_alike : {X : Type 0} (p q : X → Bool) → ((x : X) → p x ≡ q x) → (xs : List X) → find p xs ≡ find q xs
find_alike p q same [] = refl
find_alike p q same (x ∷ xs) = λ i. cond (same x i) (Some x) (find_alike p q same xs i)

lt_is_le : (a b : ℕ) → nat_lt a b ≡ nat_le (a + 1) b
lt_is_le a b = grind (arith, nat_tests)

-- The first handle of an open client after one is found in the client's table.
pub next_found : (m : fin.FinMap nat_cmp FileRecord) (c h : ℕ) (r : FileRecord) → fin.get m c ≡ Some r
    → find (λ row. (row.client == c) && nat_lt h row.handle) (holds_in (fin.entries m))
    ≡ find (λ row. nat_le (h + 1) row.handle) (rows_in c (fin.entries r.handles.slots))
next_found m c h r found =
    find_both (of_client c) (λ (row : FileHandle). nat_lt h row.handle) (holds_in (fin.entries m))
    ∙ ap (find (λ (row : FileHandle). nat_lt h row.handle)) (rows_of_client m c r found)
    ∙ find_alike (λ (row : FileHandle). nat_lt h row.handle) (λ (row : FileHandle). nat_le (h + 1) row.handle) (λ row. lt_is_le h row.handle) (rows_in c (fin.entries r.handles.slots))

nobody_holds : (c : ℕ) (es : List (ℕ × FileRecord)) → find_key nat_cmp c es ≡ None
    → filter (of_client c) (holds_in es) ≡ []
nobody_holds c [] none = refl
nobody_holds c (e ∷ es) none =
    let hs = fin.entries e.1.handles.slots in
    filter-append (of_client c) (rows_in e.0 hs) (holds_in es)
    ∙ elim (eq_by_cmp nat_cmp c e.0) as (λ b. eq_by_cmp nat_cmp c e.0 ≡ b → cond b (Some e.1) (find_key nat_cmp c es) ≡ None → filter (of_client c) (rows_in e.0 hs) ++ filter (of_client c) (holds_in es) ≡ []) [
      | true ↦ λ is found. absurd (none-some e.1 (sym found))
      | false ↦ λ is found i. rows_kept (of_client c) e.0 false (λ h o x. apart is) hs i ++ nobody_holds c es found i
    ] refl none
  where
    apart : eq_by_cmp nat_cmp c e.0 ≡ false → (e.0 == c) ≡ false
    apart is = let differs : eqb c e.0 ≡ false = sym (eq_by_cmp-nat_cmp c e.0) ∙ is in grind (arith, nat_tests)

-- A client that is not open has no handle after one.
pub next_of_nobody : (m : fin.FinMap nat_cmp FileRecord) (c h : ℕ) → fin.get m c ≡ None
    → find (λ row. (row.client == c) && nat_lt h row.handle) (holds_in (fin.entries m)) ≡ None
next_of_nobody m c h none =
    find_both (of_client c) (λ (row : FileHandle). nat_lt h row.handle) (holds_in (fin.entries m))
    ∙ ap (find (λ (row : FileHandle). nat_lt h row.handle)) (nobody_holds c (fin.entries m) (sym (fin.get-entries m c) ∙ none))

-- the first handle after one

none_of_client : (c h : ℕ) (x : FileHandle) → nat_le (c + 1) x.client ≡ true → (ys : List FileHandle)
    → AllByRecursion (λ y. handle_before x y ≡ true) ys
    → find (λ (row : FileHandle). (row.client == c) && nat_lt h row.handle) ys ≡ None
none_of_client c h x above [] all = refl
none_of_client c h x above (y ∷ ys) all =
    (λ i. cond (apart above all.0 i) (Some y) (find (λ (row : FileHandle). (row.client == c) && nat_lt h row.handle) ys))
    ∙ none_of_client c h x above ys all.1
  where
    apart : nat_le (c + 1) x.client ≡ true → handle_before x y ≡ true → ((y.client == c) && nat_lt h y.handle) ≡ false
    apart above before = grind (arith, nat_tests)

-- The first handle after one is the client's next one, or else the first one of the next clients.
pub after_is : (c h : ℕ) (xs : List FileHandle) → InOrder handle_before xs
    → find (comes_after c h) xs
    ≡ option_or (find (λ row. (row.client == c) && nat_lt h row.handle) xs) (slice_get (filter (λ row. nat_le (c + 1) row.client) xs) 0)
after_is c h [] order = refl
after_is c h (x ∷ xs) order =
    let own : FileHandle → Bool = λ row. (row.client == c) && nat_lt h row.handle in
    let later : FileHandle → Bool = λ row. nat_le (c + 1) row.client in
    (λ i. cond (lt_is_le c x.client i || own x) (Some x) (find (comes_after c h) xs))
    ∙ elim (nat_le (c + 1) x.client) as (λ b. nat_le (c + 1) x.client ≡ b → cond (b || own x) (Some x) (find (comes_after c h) xs) ≡ option_or (cond (own x) (Some x) (find own xs)) (slice_get (cond b (x ∷ filter later xs) (filter later xs)) 0)) [
      | true ↦ λ above. elim (own x) as (λ b. Some x ≡ option_or (cond b (Some x) (find own xs)) (Some x)) [
        | true ↦ refl
        | false ↦ ap (λ o. option_or o (Some x)) (sym (none_of_client c h x above xs order.0))
      ]
      | false ↦ λ below. elim (own x) as (λ b. cond b (Some x) (find (comes_after c h) xs) ≡ option_or (cond b (Some x) (find own xs)) (slice_get (filter later xs) 0)) [
        | true ↦ refl
        | false ↦ after_is c h xs order.1
      ]
    ] refl
