-- The leases as a list of grants, and how it changes.
use Rattle.std.proofs.Common.{◌≡◌, ℕ, zero, suc, ◌-◌, ◌<◌, ◌≤◌, ◌==◌, nat_lt, Bool, true, false, not, cond, ◌&&◌, ◌||◌, T, List, [], ◌∷◌, ◌++◌, map, filter, find as find_row, length, slice_get, Option, Some, None, option_map, option_and_then, is_some, refl, sym, ap, ◌∙◌, arith, append_assoc, append-nil, nat_cmp}
use Rattle.std.specs.List.{list_any, AllByRecursion}
use Rattle.std.specs.Option.{option_map_or}
use Rattle.std.specs.Ordering.{eq_by_cmp}
use Rattle.std.specs.Cmp.{nat_cmp_total}
use Rattle.std.specs.FinMap as fin
use Rattle.std.specs.FinMap.Entries.{is_sorted, below_all}
use Rattle.std.proofs.Math.Bool.{and-false, and_comm, and-true, or-false}
use Rattle.std.proofs.lemmas.Bool.{eqb-true, false≢true}
use Rattle.std.proofs.lemmas.Bool.Decides.{nat_tests}
use Rattle.std.proofs.lemmas.List.Folds.{list_any-append}
use Rattle.drm_index_array.specs.Rows.{placed}
use Rattle.drm_index_array.specs.Orders.{InOrder}
use Rattle.drm_index_array.specs.Numbers.{is_among}
use Rattle.drm_index_array.proofs.Each.{each_fails}
use Rattle.drm_index_array.proofs.Lists.{list_any-map, all_of_map}
use Rattle.drm_index_array.proofs.Entries.{same_test, before_test, less_of}
use Rattle.drm_index_array.proofs.RowsByKey.{left, right, rows_put, rows_where, find_rows, row_at, rows_length, entries_removed}
use Rattle.drm_leases.specs.declared.rows.Lease.{Lease}
use Rattle.drm_leases.specs.declared.rows.LeaseRecord.{LeaseRecord}
use Rattle.drm_leases.specs.declared.rows.Grant.{Grant}
use Rattle.drm_leases.specs.Leases.{Lending, has_some_lease, is_grant_of, is_granted, granted_objects}
use Rattle.drm_leases.specs.Masks.{has_object, objects_in, is_empty, lease_before, lease_row, leases_in, grants_of, grants_in, lending_of, lendings_in, IsFull}
use Rattle.drm_leases.specs.Calls.{put_in, lending_before}
use Rattle.drm_leases.proofs.Bits.{among_objects}

abbrev pub Kept : Type 0
Kept = fin.FinMap nat_cmp LeaseRecord

abbrev pub is_of : ℕ → Lease → Bool
is_of m x = x.lessee == m

apart : (a b : ℕ) → a < b → (b == a) ≡ false
apart a b lt = grind (arith, nat_tests)

-- ---- tests of grants

one_any : (a : Bool) (b : ℕ → Bool) → (xs : List ℕ) → list_any (λ x. a && b x) xs ≡ (a && list_any b xs)
one_any a b [] = sym (and-false a)
one_any true b (x ∷ xs) = ap (λ c. b x || c) (one_any true b xs)
one_any false b (x ∷ xs) = one_any false b xs

-- Some grant passes a test of both parts if and only if some lease's lessee and one of its objects do.
pub any_grant : (p : Grant → Bool) (a b : ℕ → Bool) → ((g : Grant) → p g ≡ (a g.master && b g.mode_object))
    → (xs : List Lease) → list_any p (grants_in xs) ≡ list_any (λ x. a x.lessee && list_any b (objects_in x.objects)) xs
any_grant p a b is [] = refl
any_grant p a b is (x ∷ xs) = list_any-append p (grants_of x) (grants_in xs) ∙ (λ i. one i || any_grant p a b is xs i)
  where
    each : (ids : List ℕ)
        → list_any (λ id. p (record { master = x.lessee; mode_object = id })) ids ≡ list_any (λ id. a x.lessee && b id) ids
    each [] = refl
    each (id ∷ ids) = λ i. is (record { master = x.lessee; mode_object = id }) i || each ids i

    one : list_any p (grants_of x) ≡ (a x.lessee && list_any b (objects_in x.objects))
    one =
        list_any-map p (λ id. record { master = x.lessee; mode_object = id }) (objects_in x.objects)
        ∙ each (objects_in x.objects) ∙ one_any (a x.lessee) b (objects_in x.objects)

-- Some grant has the object and a passing lessee if and only if some lease does.
pub any_with : (p : Grant → Bool) (a : ℕ → Bool) (id : ℕ) → ((g : Grant) → p g ≡ ((g.mode_object == id) && a g.master))
    → (xs : List Lease) → list_any p (grants_in xs) ≡ list_any (λ x. has_object x.objects id && a x.lessee) xs
any_with p a id is xs =
    any_grant p a (λ n. n == id) (λ g. is g ∙ and_comm (g.mode_object == id) (a g.master)) xs ∙ turned xs
  where
    turned : (ys : List Lease)
        → list_any (λ x. a x.lessee && is_among (objects_in x.objects) id) ys ≡ list_any (λ x. has_object x.objects id && a x.lessee) ys
    turned [] = refl
    turned (y ∷ ys) =
        λ i. (ap (λ b. a y.lessee && b) (among_objects y.objects id) ∙ and_comm (a y.lessee) (has_object y.objects id))
        i || turned ys i

-- If each lease has an object, some grant's lessee passes if and only if some lease's does.
pub any_of : (p : Grant → Bool) (a : ℕ → Bool) → ((g : Grant) → p g ≡ a g.master) → (xs : List Lease)
    → AllByRecursion IsFull xs → list_any p (grants_in xs) ≡ list_any (λ x. a x.lessee) xs
any_of p a is xs full = any_grant p a (λ id. true) (λ g. is g ∙ sym (and-true (a g.master))) xs ∙ each xs full
  where
    some : (ids : List ℕ) → is_empty ids ≡ false → list_any (λ id. true) ids ≡ true
    some [] h = absurd (false≢true (sym h))
    some (id ∷ ids) h = refl

    each : (ys : List Lease) → AllByRecursion IsFull ys
        → list_any (λ x. a x.lessee && list_any (λ id. true) (objects_in x.objects)) ys ≡ list_any (λ x. a x.lessee) ys
    each [] h = refl
    each (y ∷ ys) h =
        λ i. (ap (λ b. a y.lessee && b) (some (objects_in y.objects) h.0) ∙ and-true (a y.lessee)) i || each ys h.1 i

-- ---- of one lessee

abbrev pub Rise : List Lease → Type 0
Rise xs = InOrder (λ (x y : Lease). x.lessee < y.lessee) xs

none_behind : (q : Lease → Bool) (m : ℕ) → (xs : List Lease) → AllByRecursion (λ (x : Lease). m < x.lessee) xs
    → list_any (λ x. is_of m x && q x) xs ≡ false
none_behind q m [] h = refl
none_behind q m (x ∷ xs) h =
    ap (λ b. (b && q x) || list_any (λ x. is_of m x && q x) xs) (apart m x.lessee h.0) ∙ none_behind q m xs h.1

-- A lessee older than all leases of a list has none in it.
pub absent_behind : (m : ℕ) → (xs : List Lease) → AllByRecursion (λ (x : Lease). m < x.lessee) xs
    → find_row (is_of m) xs ≡ None
absent_behind m [] h = refl
absent_behind m (x ∷ xs) h =
    ap (λ b. cond b (Some x) (find_row (is_of m) xs)) (apart m x.lessee h.0) ∙ absent_behind m xs h.1

further : (m n : ℕ) → (xs : List Lease) → m ≡ n → AllByRecursion (λ (x : Lease). n < x.lessee) xs
    → AllByRecursion (λ (x : Lease). m < x.lessee) xs
further m n [] e h = tt
further m n (x ∷ xs) e h = (omega (arith, e, h.0), further m n xs e h.1)

any_found : (q : Lease → Bool) (m : ℕ) → (xs : List Lease) → Rise xs
    → list_any (λ x. is_of m x && q x) xs ≡ option_map_or q (find_row (is_of m) xs) false
any_found q m [] h = refl
any_found q m (x ∷ xs) h =
    elim (is_of m x) as (λ b. is_of m x ≡ b → ((b && q x) || list_any (λ x. is_of m x && q x) xs) ≡ option_map_or q (cond b (Some x) (find_row (is_of m) xs)) false) [
      | true ↦ λ e. ap (λ b. q x || b) (none_behind q m xs (further m x.lessee xs (sym (eqb-true x.lessee m e)) h.0)) ∙ or-false (q x)
      | false ↦ λ e. any_found q m xs h.1
    ] refl

abbrev objects_of_lease : Option Lease → List ℕ
objects_of_lease None = []
objects_of_lease (Some x) = objects_in x.objects

filter_both : (p : Grant → Bool) → (xs ys : List Grant) → filter p (xs ++ ys) ≡ filter p xs ++ filter p ys
filter_both p [] ys = refl
filter_both p (x ∷ xs) ys = elim (p x) as (λ b. cond b (x ∷ filter p (xs ++ ys)) (filter p (xs ++ ys)) ≡ cond b (x ∷ filter p xs) (filter p xs) ++ filter p ys) [ true ↦ ap (λ l. x ∷ l) (filter_both p xs ys) | false ↦ filter_both p xs ys ]

map_both : (f : Grant → ℕ) → (xs ys : List Grant) → map f (xs ++ ys) ≡ map f xs ++ map f ys
map_both f [] ys = refl
map_both f (x ∷ xs) ys = ap (λ l. f x ∷ l) (map_both f xs ys)

-- of the grants of a lease those of a lessee
its_own : (m n : ℕ) (t : Bool) → (n == m) ≡ t → (ids : List ℕ)
    → map (λ (g : Grant). g.mode_object) (filter (is_grant_of m) (map (λ id. record { master = n; mode_object = id }) ids)) ≡ cond t ids []
its_own m n true e [] = refl
its_own m n false e [] = refl
its_own m n true e (id ∷ ids) =
    let g : Grant = record { master = n; mode_object = id } in
    let rest = filter (is_grant_of m) (map (λ id. let h : Grant = record { master = n; mode_object = id } in h) ids) in
    ap (λ b. map (λ (g : Grant). g.mode_object) (cond b (g ∷ rest) rest)) e ∙ ap (λ l. id ∷ l) (its_own m n true e ids)
its_own m n false e (id ∷ ids) =
    let g : Grant = record { master = n; mode_object = id } in
    let rest = filter (is_grant_of m) (map (λ id. let h : Grant = record { master = n; mode_object = id } in h) ids) in
    ap (λ b. map (λ (g : Grant). g.mode_object) (cond b (g ∷ rest) rest)) e ∙ its_own m n false e ids

objects_found : (m : ℕ) → (xs : List Lease) → Rise xs
    → granted_objects (grants_in xs) m ≡ objects_of_lease (find_row (is_of m) xs)
objects_found m [] h = refl
objects_found m (x ∷ xs) h =
    ap (map (λ (g : Grant). g.mode_object)) (filter_both (is_grant_of m) (grants_of x) (grants_in xs))
    ∙ map_both (λ (g : Grant). g.mode_object) (filter (is_grant_of m) (grants_of x))
    (filter (is_grant_of m) (grants_in xs))
    ∙ elim (is_of m x) as (λ b. is_of m x ≡ b → map (λ (g : Grant). g.mode_object) (filter (is_grant_of m) (grants_of x)) ++ granted_objects (grants_in xs) m ≡ objects_of_lease (cond b (Some x) (find_row (is_of m) xs))) [
      | true ↦ λ e. (λ i. its_own m x.lessee true e (objects_in x.objects) i ++ (objects_found m xs h.1 ∙ ap objects_of_lease (absent_behind m xs (further m x.lessee xs (sym (eqb-true x.lessee m e)) h.0))) i) ∙ append-nil (objects_in x.objects)
      | false ↦ λ e. λ i. its_own m x.lessee false e (objects_in x.objects) i ++ objects_found m xs h.1 i
    ] refl

-- ---- leases that go

-- The grants of the leases whose lessees pass are the grants whose lessees pass.
pub grants_where : (t : ℕ → Bool) → (xs : List Lease)
    → grants_in (filter (λ (x : Lease). t x.lessee) xs) ≡ filter (λ (g : Grant). t g.master) (grants_in xs)
grants_where t [] = refl
grants_where t (x ∷ xs) =
    elim (t x.lessee) as (λ b. t x.lessee ≡ b → grants_in (cond b (x ∷ filter (λ (y : Lease). t y.lessee) xs) (filter (λ (y : Lease). t y.lessee) xs)) ≡ cond_grants b) [
      | true ↦ λ e. ap (λ l. grants_of x ++ l) (grants_where t xs)
      | false ↦ λ e. grants_where t xs
    ] refl
    ∙ sym
    (filter_both (λ (g : Grant). t g.master) (grants_of x) (grants_in xs) ∙ ap (λ l. l ++ filter (λ (g : Grant). t g.master) (grants_in xs)) (its (t x.lessee) refl (objects_in x.objects)))
  where
    cond_grants : Bool → List Grant
    cond_grants b = cond b (grants_of x) [] ++ filter (λ (g : Grant). t g.master) (grants_in xs)

    its : (b : Bool) → t x.lessee ≡ b → (ids : List ℕ)
        → filter (λ (g : Grant). t g.master) (map (λ id. record { master = x.lessee; mode_object = id }) ids) ≡ cond b (map (λ id. record { master = x.lessee; mode_object = id }) ids) []
    its true e [] = refl
    its false e [] = refl
    its true e (id ∷ ids) =
        let g : Grant = record { master = x.lessee; mode_object = id } in
        let rest =
        filter (λ (g : Grant). t g.master)
        (map (λ id. let h : Grant = record { master = x.lessee; mode_object = id } in h) ids) in
        ap (λ c. cond c (g ∷ rest) rest) e ∙ ap (λ l. g ∷ l) (its true e ids)
    its false e (id ∷ ids) =
        let g : Grant = record { master = x.lessee; mode_object = id } in
        let rest =
        filter (λ (g : Grant). t g.master)
        (map (λ id. let h : Grant = record { master = x.lessee; mode_object = id } in h) ids) in
        ap (λ c. cond c (g ∷ rest) rest) e ∙ its false e ids

-- The grants of two lists together are those of the first, then those of the second.
pub grants_both : (xs ys : List Lease) → grants_in (xs ++ ys) ≡ grants_in xs ++ grants_in ys
grants_both [] ys = refl
grants_both (x ∷ xs) ys =
    ap (λ l. grants_of x ++ l) (grants_both xs ys) ∙ sym (append_assoc (grants_of x) (grants_in xs) (grants_in ys))

-- The lendings of two lists together are those of the first, then those of the second.
pub lendings_both : (xs ys : List Lease) → lendings_in (xs ++ ys) ≡ lendings_in xs ++ lendings_in ys
lendings_both [] ys = refl
lendings_both (x ∷ xs) ys = ap (λ l. lending_of x ∷ l) (lendings_both xs ys)

-- The lendings of the leases whose lessees pass are the lendings whose lessees pass.
pub lendings_where : (t : ℕ → Bool) → (xs : List Lease)
    → lendings_in (filter (λ (x : Lease). t x.lessee) xs) ≡ filter (λ (x : Lending). t x.lessee) (lendings_in xs)
lendings_where t [] = refl
lendings_where t (x ∷ xs) = elim (t x.lessee) as (λ b. lendings_in (cond b (x ∷ filter (λ (y : Lease). t y.lessee) xs) (filter (λ (y : Lease). t y.lessee) xs)) ≡ cond b (lending_of x ∷ filter (λ (y : Lending). t y.lessee) (lendings_in xs)) (filter (λ (y : Lending). t y.lessee) (lendings_in xs))) [
  | true ↦ ap (λ l. lending_of x ∷ l) (lendings_where t xs)
  | false ↦ lendings_where t xs
]

-- A lease put at its place puts its grants at their place.
pub grants_put : (new : Lease) (xs : List Lease)
    → grants_in (placed lease_before new xs) ≡ put_in (λ (g : Grant). g.master) new.lessee (grants_of new) (grants_in xs)
grants_put new xs =
    let m = new.lessee in
    let fore = filter (λ (x : Lease). lease_before x new) xs in
    let behind = filter (λ (x : Lease). not (lease_before x new)) xs in
    grants_both fore (new ∷ behind)
    ∙ (λ i. grants_where (λ n. nat_lt n m) xs i ++ (grants_of new ++ grants_where (λ n. not (nat_lt n m)) xs i))

-- A lease put at its place puts its lending at its place.
pub lendings_put : (new : Lease) (xs : List Lease)
    → lendings_in (placed lease_before new xs) ≡ placed lending_before (lending_of new) (lendings_in xs)
lendings_put new xs =
    let m = new.lessee in
    let fore = filter (λ (x : Lease). lease_before x new) xs in
    let behind = filter (λ (x : Lease). not (lease_before x new)) xs in
    lendings_both fore (new ∷ behind)
    ∙ (λ i. lendings_where (λ n. nat_lt n m) xs i ++ lending_of new ∷ lendings_where (λ n. not (nat_lt n m)) xs i)

-- If a lessee has no lease, no lease is the lessee's.
pub all_others : (m : ℕ) → (xs : List Lease) → has_some_lease (lendings_in xs) m ≡ false
    → AllByRecursion (λ (x : Lease). is_of m x ≡ false) xs
all_others m xs h =
    all_of_map (λ (x : Lending). (x.lessee == m) ≡ false) lending_of xs
    (each_fails (λ (x : Lending). x.lessee == m) (lendings_in xs) h)

-- ---- the grant at a place

row_here : (n : ℕ) (rest : List Grant) (ids : List ℕ) (i id : ℕ) → slice_get ids i ≡ Some id
    → slice_get (map (λ k. record { master = n; mode_object = k }) ids ++ rest) i ≡ Some (record { master = n; mode_object = id })
row_here n rest [] i id e = absurd (false≢true (ap is_some e))
row_here n rest (k ∷ ids) zero id e = let is : k ≡ id = (let s : Some k ≡ Some id = e in cc) in ap (λ j. let g : Grant = record { master = n; mode_object = j } in Some g) is
row_here n rest (k ∷ ids) (suc i) id e = row_here n rest ids i id e

-- A place among the first lease's objects is the grant of that object.
pub grant_here : (x : Lease) (rest : List Grant) (i id : ℕ) → slice_get (objects_in x.objects) i ≡ Some id
    → slice_get (grants_of x ++ rest) i ≡ Some (record { master = x.lessee; mode_object = id })
grant_here x rest i id e = row_here x.lessee rest (objects_in x.objects) i id e

row_behind : (n : ℕ) (rest : List Grant) (ids : List ℕ) (i : ℕ) → length ids ≤ i
    → slice_get (map (λ k. record { master = n; mode_object = k }) ids ++ rest) i ≡ slice_get rest (i - length ids)
row_behind n rest [] i le = ap (slice_get rest) (let e : i ≡ i - 0 = omega arith in e)
row_behind n rest (k ∷ ids) zero le = absurd (omega (arith, le))
row_behind n rest (k ∷ ids) (suc i) le =
    row_behind n rest ids i (omega (arith, le))
    ∙ ap (slice_get rest) (let e : i - length ids ≡ suc i - suc (length ids) = omega arith in e)

-- A place past the first lease's objects is a place in the grants that follow.
pub grant_behind : (x : Lease) (rest : List Grant) (i : ℕ) → length (objects_in x.objects) ≤ i
    → slice_get (grants_of x ++ rest) i ≡ slice_get rest (i - length (objects_in x.objects))
grant_behind x rest i le = row_behind x.lessee rest (objects_in x.objects) i le

-- A number that is not lower than b is at least b.
pub not_less : (a b : ℕ) → false ≡ nat_lt a b → b ≤ a
not_less a b h = grind (arith, nat_tests)

-- ---- in a list

module _ (rows : List Lease) (rise : Rise rows) where
  -- A lessee is granted a mode object if and only if its lease has it.
  pub granted_by : (m id : ℕ) (o : Option Lease) → find_row (is_of m) rows ≡ o
      → is_granted (grants_in rows) m id ≡ option_map_or (λ (x : Lease). has_object x.objects id) o false
  granted_by m id o at =
      any_grant (λ (g : Grant). (g.master == m) && (g.mode_object == id)) (λ n. n == m) (λ n. n == id) (λ g. refl) rows
      ∙ any_found (λ x. is_among (objects_in x.objects) id) m rows rise
      ∙ ap (λ l. option_map_or (λ (x : Lease). is_among (objects_in x.objects) id) l false) at
      ∙ by_row o
    where
      by_row : (o : Option Lease)
          → option_map_or (λ (x : Lease). is_among (objects_in x.objects) id) o false ≡ option_map_or (λ (x : Lease). has_object x.objects id) o false
      by_row None = refl
      by_row (Some x) = among_objects x.objects id

  -- The granted objects of a lessee are those of its lease, or none if it has no lease.
  pub objects_by : (m : ℕ) (o : Option Lease) → find_row (is_of m) rows ≡ o
      → granted_objects (grants_in rows) m ≡ objects_of_lease o
  objects_by m o at = objects_found m rows rise ∙ ap objects_of_lease at

-- ---- in their map

module _ (kept : Kept) where
  abbrev rows : List Lease
  rows = leases_in kept

  -- The lessees of the leases rise.
  pub leases_rise : Rise rows
  leases_rise = rise (fin.entries kept) (fin.entries_sorted kept)
    where
      above : (c : ℕ) (es : List (ℕ × LeaseRecord)) → T (below_all nat_cmp c es)
          → AllByRecursion (λ (y : Lease). c < y.lessee) (map lease_row es)
      above c [] h = tt
      above c (e ∷ es) h = (less_of c e.0 (left _ _ h), above c es (right _ _ h))

      rise : (es : List (ℕ × LeaseRecord)) → T (is_sorted nat_cmp es) → Rise (map lease_row es)
      rise [] h = tt
      rise (e ∷ es) h = (above e.0 es (left _ _ h), rise es (right _ _ h))

  -- The lease found for a lessee is its record in the map.
  pub lease_of : (m : ℕ) (o : Option LeaseRecord) → fin.get kept m ≡ o
      → find_row (is_of m) rows ≡ option_map (λ v. lease_row (m, v)) o
  lease_of m o at =
      find_rows nat_cmp nat_cmp_total lease_row fin.nat_cmp-IsAntisymmetric m (is_of m) (λ e. same_test m e.0)
      (fin.entries kept)
      ∙ ap (option_map (λ v. lease_row (m, v))) (sym (fin.get-entries kept m) ∙ at)

  -- There are as many leases as records in the map.
  pub leases_many : length rows ≡ fin.len kept
  leases_many = rows_length kept 0 lease_row

  -- The lease at a place is the record of the key at this place.
  pub lease_at : (i : ℕ)
      → option_and_then (λ m. option_map (λ v. lease_row (m, v)) (fin.get kept m)) (slice_get (fin.keys kept) i) ≡ slice_get rows i
  lease_at i = row_at kept 0 lease_row i

  -- A new record puts its lease at its place in the list.
  pub lease_added : (m : ℕ) (v : LeaseRecord) → fin.get kept m ≡ None
      → leases_in (fin.insert kept m v) ≡ placed lease_before (lease_row (m, v)) rows
  lease_added m v absent =
      ap (map lease_row) (fin.entries-insert nat_cmp_total kept m v)
      ∙ rows_put nat_cmp nat_cmp_total lease_row lease_before (λ e f. before_test e.0 f.0) m v (fin.entries kept)
      (fin.entries_sorted kept) (sym (fin.get-entries kept m) ∙ absent)

  -- A removed record removes its lease from the list.
  pub lease_removed : (m : ℕ) → leases_in (fin.remove kept m) ≡ filter (λ (x : Lease). not (x.lessee == m)) rows
  lease_removed m =
      ap (map lease_row) (entries_removed kept m)
      ∙ rows_where nat_cmp nat_cmp_total lease_row (λ k. not (eq_by_cmp nat_cmp m k))
      (λ (x : Lease). not (x.lessee == m)) (λ e. ap not (same_test m e.0)) (fin.entries kept)

-- An empty map has no leases.
pub no_leases : leases_in fin.empty ≡ []
no_leases = none (fin.entries fin.empty) (sym (fin.len-entries fin.empty) ∙ fin.len-empty nat_cmp LeaseRecord)
  where
    none : (es : List (ℕ × LeaseRecord)) → length es ≡ 0 → map lease_row es ≡ []
    none [] e = refl
    none (x ∷ es) e = absurd (omega (arith, e))
