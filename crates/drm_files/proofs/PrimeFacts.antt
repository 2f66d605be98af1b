-- The least export order of one client's handles, and how a walk over those for an object finds it.
use Rattle.std.proofs.Common.{◌≡◌, ℕ, ◌≤◌, ◌&&◌, ◌||◌, ◌==◌, Bool, true, false, cond, if◌then◌else◌, List, [], ◌∷◌, map, filter, Option, Some, None, option_map, option_and_then, refl, sym, ap, subst, ◌∙◌, arith, eq-eqb, nat_cmp}
use Rattle.std.proofs.Math.Bool.{or-true}
use Rattle.std.specs.List.{filter_map, cons_option, list_any, AllByRecursion}
use Rattle.std.specs.Option.{option_map_or}
use Rattle.std.specs.Ordering.{eq_by_cmp}
use Rattle.std.specs.Cmp.{nat_cmp_total}
use Rattle.std.specs.FinMap as fin
use Rattle.std.specs.FinMap.Entries.{find}
use Rattle.std.proofs.lemmas.Bool.{false≢true, eqb-true, and_parts, and_from}
use Rattle.std.proofs.lemmas.Bool.Decides.{nat_tests}
use Rattle.std.proofs.lemmas.Option.{same_Some, none-some}
use Rattle.drm_index_array.proofs.Lists.{some_passing, all_of_map}
use Rattle.drm_index_array.specs.Least.{least_of}
use Rattle.drm_index_array.proofs.Least.{least_of_is}
use Rattle.drm_index_array.proofs.RowsByKey.{all_rows}
use Rattle.drm_files.specs.declared.files.FileRecord.{FileRecord}
use Rattle.drm_files.specs.declared.files.Held.{Held}
use Rattle.drm_files.specs.declared.primes.Prime.{Prime}
use Rattle.drm_files.specs.declared.rows.FileHandle.{FileHandle}
use Rattle.drm_files.specs.Files.{hold, of_client, is_handle_of, has_export_order, export_orders_of, handles_at, prime_handle}
use Rattle.drm_files.specs.Records.{rows_in, holds_in, lists_of}
use Rattle.drm_files.specs.Primes.{is_for, is_at, export_orders_in, handles_in, least_prime, prime_of, prime_at, is_before}
use Rattle.drm_files.specs.ExportOrders.{IsNext}
use Rattle.drm_files.proofs.OrderFacts.{named}
use Rattle.drm_files.proofs.ChangedLists.{rows_of_client}

-- no export order is lesser, nor a handle at that order
abbrev IsFirst : Prime → Prime → Type 0
IsFirst x y = (x.export_order ≤ y.export_order) × (x.export_order ≡ y.export_order → x.handle ≤ y.handle)

not_before : (y x : Prime) → is_before y x ≡ false → IsFirst x y
not_before y x is = ((grind (arith, nat_tests)), λ same. grind (arith, nat_tests))

-- what the entries of a table have

any_export_order : (object k : ℕ) (es : List (ℕ × Held))
    → list_any (λ x. x == k) (export_orders_in object es) ≡ list_any (λ e. is_for object e && is_at k e) es
any_export_order object k [] = refl
any_export_order object k (e ∷ es) =
    let others = filter (is_for object) es in
    let rest = list_any (λ e. is_for object e && is_at k e) es in
    elim (is_for object e) as (λ t. list_any (λ x. x == k) (filter_map (λ x. x.1.export_order) (cond t (e ∷ others) others)) ≡ ((t && is_at k e) || rest)) [
      | true ↦ elim e.1.export_order as (λ p. list_any (λ x. x == k) (cons_option p (filter_map (λ x. x.1.export_order) others)) ≡ (option_map_or (λ x. x == k) p false || rest)) [
        | None ↦ any_export_order object k es
        | Some export_order ↦ ap (λ b. (export_order == k) || b) (any_export_order object k es)
      ]
      | false ↦ any_export_order object k es
    ]

any_handle : (object export_order h : ℕ) (es : List (ℕ × Held))
    → list_any (λ x. x == h) (handles_in object export_order es) ≡ list_any (λ e. (is_for object e && is_at export_order e) && (e.0 == h)) es
any_handle object export_order h [] = refl
any_handle object export_order h (e ∷ es) =
    let others = filter (is_for object) es in
    let rest = list_any (λ e. (is_for object e && is_at export_order e) && (e.0 == h)) es in
    elim (is_for object e) as (λ t. list_any (λ x. x == h) (map (λ x. x.0) (filter (is_at export_order) (cond t (e ∷ others) others))) ≡ (((t && is_at export_order e) && (e.0 == h)) || rest)) [
      | true ↦ elim (is_at export_order e) as (λ t. list_any (λ x. x == h) (map (λ x. x.0) (cond t (e ∷ filter (is_at export_order) others) (filter (is_at export_order) others))) ≡ ((t && (e.0 == h)) || rest)) [
        | true ↦ ap (λ b. (e.0 == h) || b) (any_handle object export_order h es)
        | false ↦ any_handle object export_order h es
      ]
      | false ↦ any_handle object export_order h es
    ]

any_entry : (p : ℕ × Held → Bool) (h : ℕ) (x : Held) (es : List (ℕ × Held)) → find nat_cmp h es ≡ Some x
    → p (h, x) ≡ true → list_any p es ≡ true
any_entry p h x [] found passes = absurd (none-some x found)
any_entry p h x (e ∷ es) found passes =
    elim (eq_by_cmp nat_cmp h e.0) as (λ t. eq_by_cmp nat_cmp h e.0 ≡ t → cond t (Some e.1) (find nat_cmp h es) ≡ Some x → (p e || list_any p es) ≡ true) [
      | true ↦ λ same is.
          let here : (h, x) ≡ e = λ i. (tied_is h e.0 same i, sym (same_Some e.1 x is) i) in
          ap (λ b. b || list_any p es) (ap p (sym here) ∙ passes)
      | false ↦ λ apart is. ap (λ b. p e || b) (any_entry p h x es is passes) ∙ or-true (p e)
    ] refl found
  where
    tied_is : (a b : ℕ) → eq_by_cmp nat_cmp a b ≡ true → a ≡ b
    tied_is a b e = grind (arith, nat_tests)

placed_at : (k : ℕ) (p : Option ℕ) → option_map_or (λ x. x == k) p false ≡ true → p ≡ Some k
placed_at k None e = absurd (false≢true e)
placed_at k (Some x) e = ap Some (eqb-true x k e)

module _ (m : fin.FinMap nat_cmp Held) (object : ℕ) where
  abbrev es : List (ℕ × Held)
  es = fin.entries m

  there : AllByRecursion (λ e. fin.get m e.0 ≡ Some e.1) es
  there =
      all_of_map (λ (e : ℕ × Held). fin.get m e.0 ≡ Some e.1) (λ e. e) es
      (all_rows nat_cmp nat_cmp_total (λ e. e) (λ (e : ℕ × Held). fin.get m e.0 ≡ Some e.1) es (fin.entries_sorted m) (λ h x found. fin.get-entries m h ∙ found))

  prime_is_at : (h k : ℕ) (x : Held) → fin.get m h ≡ Some x → (x.object == object) ≡ true → x.export_order ≡ Some k
      → prime_at m object h ≡ Some (record { export_order = k; handle = h })
  prime_is_at h k x at mine export_order =
      ap (option_and_then (λ held. prime_of object (h, held))) at
      ∙ ap
      (λ t. if t then option_map (λ export_order. record { export_order = export_order; handle = h }) x.export_order else None)
      mine
      ∙ ap (option_map (λ export_order. record { export_order = export_order; handle = h })) export_order

  placed : (x : Prime) (o : Option Held) → option_and_then (λ held. prime_of object (x.handle, held)) o ≡ Some x
      → (y : Held) × (o ≡ Some y) × ((y.object == object) ≡ true) × (y.export_order ≡ Some x.export_order)
  placed x None e = absurd (none-some x e)
  placed x (Some y) e = let tests = by_test (y.object == object) e in (y, refl, tests.0, tests.1)
    where
      by_export_order : (p : Option ℕ)
          → option_map (λ export_order. record { export_order = export_order; handle = x.handle }) p ≡ Some x
          → p ≡ Some x.export_order
      by_export_order None e = absurd (none-some x e)
      by_export_order (Some k) e = ap (λ o. option_map (λ (z : Prime). z.export_order) o) e

      by_test : (t : Bool)
          → (if t then option_map (λ export_order. record { export_order = export_order; handle = x.handle }) y.export_order else None) ≡ Some x
          → (t ≡ true) × (y.export_order ≡ Some x.export_order)
      by_test true e = (refl, by_export_order y.export_order e)
      by_test false e = absurd (none-some x e)

  no_export_orders : IsNext is_before (prime_at m object) None None → (fs : List (ℕ × Held))
      → AllByRecursion (λ e. fin.get m e.0 ≡ Some e.1) fs → export_orders_in object fs ≡ []
  no_export_orders none [] at = refl
  no_export_orders none (e ∷ fs) at =
      let others = filter (is_for object) fs in
      elim (is_for object e) as (λ t. is_for object e ≡ t → filter_map (λ (x : ℕ × Held). x.1.export_order) (cond t (e ∷ others) others) ≡ []) [
        | true ↦ λ mine.
            let nowhere : e.1.export_order ≡ None = without e.1.export_order refl mine in
            ap (λ p. cons_option p (filter_map (λ (x : ℕ × Held). x.1.export_order) others)) nowhere
            ∙ no_export_orders none fs at.1
        | false ↦ λ other. no_export_orders none fs at.1
      ] refl
    where
      without : (p : Option ℕ) → e.1.export_order ≡ p → is_for object e ≡ true → e.1.export_order ≡ None
      without None is mine = is
      without (Some k) is mine =
          absurd
          (false≢true (sym (none e.0 (record { export_order = k; handle = e.0 }) (prime_is_at e.0 k e.1 at.0 mine is))))

  found_first : (k h : ℕ) → least_of (export_orders_in object es) ≡ Some k → least_of (handles_in object k es) ≡ Some h
      → least_prime object es ≡ Some (record { export_order = k; handle = h })
  found_first k h first least =
      ap
      (option_and_then (λ export_order. option_map {U = Prime} (λ handle. record { export_order = export_order; handle = handle }) (least_of (handles_in object export_order es))))
      first
      ∙ ap (option_map {U = Prime} (λ handle. record { export_order = k; handle = handle })) least

  -- The first prime is the handle with the lowest export order.
  pub least_is : (r : Option ℕ) → IsNext is_before (prime_at m object) None r
      → r ≡ option_map (λ (x : Prime). x.handle) (least_prime object es)
  least_is None none =
      ap
      (λ export_orders. option_map (λ (x : Prime). x.handle) (option_and_then (λ export_order. option_map (λ handle. record { export_order = export_order; handle = handle }) (least_of (handles_in object export_order es))) (least_of export_orders)))
      (sym (no_export_orders none es there))
  least_is (Some h) is =
      let x = is.prime in
      let name : x.handle ≡ h = named m object h x is.there in
      let held = placed x (fin.get m x.handle) (ap (prime_at m object) name ∙ is.there) in
      let entry = sym (fin.get-entries m x.handle) ∙ held.1 in
      let mine = held.2 in
      let here : is_at x.export_order (x.handle, held.0) ≡ true =
      ap (λ p. option_map_or (λ q. q == x.export_order) p false) held.3
      ∙ eq-eqb x.export_order x.export_order refl in
      let export_order = least_of_is (export_orders_in object es) x.export_order (record {
        among =
            any_export_order object x.export_order es
            ∙ any_entry (λ e. is_for object e && is_at x.export_order e) x.handle held.0 es entry
            (and_from _ _ mine here);
        at_most = λ k among.
            let e =
            some_passing (λ e. is_for object e && is_at k e) (λ e. fin.get m e.0 ≡ Some e.1) es there
            (sym (any_export_order object k es) ∙ among) in
            let tests = and_parts _ _ e.1 in
            (first_is e.0.0 k e.0.1 e.2 tests.0 (placed_at k e.0.1.export_order tests.1)).0;
      }) in
      let handle = least_of_is (handles_in object x.export_order es) x.handle (record {
        among =
            any_handle object x.export_order x.handle es
            ∙ any_entry (λ e. (is_for object e && is_at x.export_order e) && (e.0 == x.handle)) x.handle held.0 es entry
            (and_from _ _ (and_from _ _ mine here) (eq-eqb x.handle x.handle refl));
        at_most = λ k among.
            let e =
            some_passing (λ e. (is_for object e && is_at x.export_order e) && (e.0 == k))
            (λ e. fin.get m e.0 ≡ Some e.1) es there (sym (any_handle object x.export_order k es) ∙ among) in
            let last = and_parts _ _ e.1 in
            let tests = and_parts _ _ last.0 in
            let least =
            (first_is e.0.0 x.export_order e.0.1 e.2 tests.0 (placed_at x.export_order e.0.1.export_order tests.1)).1
            refl in
            subst (λ n. x.handle ≤ n) (eqb-true e.0.0 k last.1) least;
      }) in
      ap Some (sym name)
      ∙ ap (option_map (λ (z : Prime). z.handle)) (sym (found_first x.export_order x.handle export_order handle))
    where
      first_is : (h k : ℕ) (x : Held) → fin.get m h ≡ Some x → (x.object == object) ≡ true → x.export_order ≡ Some k
          → IsFirst is.prime (record { export_order = k; handle = h })
      first_is h k x at its placed =
          not_before (record { export_order = k; handle = h }) is.prime
          (is.first h (record { export_order = k; handle = h }) (prime_is_at h k x at its placed) refl)

-- the lists of a client's handles are those of its table

both_tests : {X : Type 0} (p q : X → Bool) (xs : List X) → filter (λ x. p x && q x) xs ≡ filter q (filter p xs)
both_tests p q [] = refl
both_tests p q (x ∷ xs) =
    elim (p x) as (λ t. cond (t && q x) (x ∷ filter (λ y. p y && q y) xs) (filter (λ y. p y && q y) xs) ≡ filter q (cond t (x ∷ filter p xs) (filter p xs))) [
      | true ↦ ap (λ l. cond (q x) (x ∷ l) l) (both_tests p q xs)
      | false ↦ both_tests p q xs
    ]

module _ (c : ℕ) where
  rows_for : (object : ℕ) (es : List (ℕ × Held))
      → filter (λ (row : FileHandle). row.object == object) (rows_in c es) ≡ rows_in c (filter (is_for object) es)
  rows_for object [] = refl
  rows_for object (e ∷ es) =
      let row = hold c e.0 e.1.object e.1.export_order in
      ap (λ l. cond (is_for object e) (row ∷ l) l) (rows_for object es)
      ∙ elim (is_for object e) as (λ t. cond t (row ∷ rows_in c (filter (is_for object) es)) (rows_in c (filter (is_for object) es)) ≡ rows_in c (cond t (e ∷ filter (is_for object) es) (filter (is_for object) es))) [ true ↦ refl | false ↦ refl ]

  export_orders_by_row : (es : List (ℕ × Held))
      → filter_map (λ (row : FileHandle). row.export_order) (rows_in c es) ≡ filter_map (λ e. e.1.export_order) es
  export_orders_by_row [] = refl
  export_orders_by_row (e ∷ es) = ap (cons_option e.1.export_order) (export_orders_by_row es)

  handles_by_row : (export_order : ℕ) (es : List (ℕ × Held))
      → map (λ (row : FileHandle). row.handle) (filter (has_export_order export_order) (rows_in c es)) ≡ map (λ e. e.0) (filter (is_at export_order) es)
  handles_by_row export_order [] = refl
  handles_by_row export_order (e ∷ es) =
      let row = hold c e.0 e.1.object e.1.export_order in
      elim (is_at export_order e) as (λ t. map (λ (row : FileHandle). row.handle) (cond t (row ∷ filter (has_export_order export_order) (rows_in c es)) (filter (has_export_order export_order) (rows_in c es))) ≡ map (λ e. e.0) (cond t (e ∷ filter (is_at export_order) es) (filter (is_at export_order) es))) [
        | true ↦ ap (λ l. e.0 ∷ l) (handles_by_row export_order es)
        | false ↦ handles_by_row export_order es
      ]

module _ (limit last : ℕ) (m : fin.FinMap nat_cmp FileRecord) (c : ℕ) (r : FileRecord) (found : fin.get m c ≡ Some r) (object : ℕ) where
  rows_are : filter (is_handle_of c object) (holds_in (fin.entries m)) ≡ rows_in c (filter (is_for object) (fin.entries r.handles.slots))
  rows_are =
      both_tests (of_client c) (λ row. row.object == object) (holds_in (fin.entries m))
      ∙ ap (filter (λ row. row.object == object)) (rows_of_client m c r found)
      ∙ rows_for c object (fin.entries r.handles.slots)

  export_orders_are : export_orders_of (lists_of limit last m) c object ≡ export_orders_in object (fin.entries r.handles.slots)
  export_orders_are =
      ap (filter_map (λ row. row.export_order)) rows_are
      ∙ export_orders_by_row c (filter (is_for object) (fin.entries r.handles.slots))

  handles_at_are : (export_order : ℕ)
      → handles_at (lists_of limit last m) c object export_order ≡ handles_in object export_order (fin.entries r.handles.slots)
  handles_at_are export_order =
      ap (λ rows. map (λ row. row.handle) (filter (has_export_order export_order) rows)) rows_are
      ∙ handles_by_row c export_order (filter (is_for object) (fin.entries r.handles.slots))

  -- The handle with the lowest export order in a client's table is its PRIME handle.
  pub prime_is : option_map (λ (prime : Prime). prime.handle) (least_prime object (fin.entries r.handles.slots)) ≡ prime_handle (lists_of limit last m) c object
  prime_is =
      handle_of (least_of (export_orders_in object (fin.entries r.handles.slots)))
      ∙
      (λ i. option_and_then (λ export_order. least_of (sym (handles_at_are export_order) i)) (least_of (sym export_orders_are i)))
    where
      of_export_order : (export_order : ℕ) (x : Option ℕ)
          → option_map (λ (prime : Prime). prime.handle) (option_map (λ handle. record { export_order = export_order; handle = handle }) x) ≡ x
      of_export_order export_order None = refl
      of_export_order export_order (Some handle) = refl

      handle_of : (x : Option ℕ)
          → option_map (λ (prime : Prime). prime.handle) (option_and_then (λ export_order. option_map (λ handle. record { export_order = export_order; handle = handle }) (least_of (handles_in object export_order (fin.entries r.handles.slots)))) x) ≡ option_and_then (λ export_order. least_of (handles_in object export_order (fin.entries r.handles.slots))) x
      handle_of None = refl
      handle_of (Some export_order) =
          of_export_order export_order (least_of (handles_in object export_order (fin.entries r.handles.slots)))
