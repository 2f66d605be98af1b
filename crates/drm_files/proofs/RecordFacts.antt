-- What is true of the lists, and how the records stay sound.
use Rattle.std.proofs.Common.{◌≡◌, ℕ, ◌≤◌, Bool, true, false, not, ◌||◌, ◌==◌, eqb, cond, T, List, [], ◌∷◌, map, find, length, is_some, IsTrue, Option, Some, None, option_map, option_and_then, unwrap_or, refl, sym, ap, subst, ◌∙◌, inl, inr, arith, nat_cmp}
use Rattle.std.specs.List.{AllByRecursion, list_any}
use Rattle.std.specs.Ordering.{eq_by_cmp}
use Rattle.std.specs.Cmp.{nat_cmp_total}
use Rattle.std.specs.FinMap as fin
use Rattle.std.specs.FinMap.Entries.{is_sorted}
use Rattle.std.proofs.lemmas.Bool.{cases_eq, false≢true}
use Rattle.std.proofs.lemmas.Bool.Decides.{nat_tests}
use Rattle.drm_index_array.proofs.FoundInLists.{is_some-false}
use Rattle.drm_index_array.specs.Least.{least}
use Rattle.drm_index_array.proofs.Least.{least-same}
use Rattle.drm_index_array.proofs.MarkedLemmas.{get-insert, get-remove, insert_same, same_by_gets}
use Rattle.drm_id_alloc.specs.Table.{Table, is_free, least_free, with_entry, without_entry}
use Rattle.drm_files.specs.declared.files.FileRecord.{FileRecord}
use Rattle.drm_files.specs.declared.files.Held.{Held}
use Rattle.drm_files.specs.declared.orders.ExportOrders.{ExportOrders}
use Rattle.drm_files.specs.ExportOrders.{AreInOrder}
use Rattle.drm_files.specs.declared.rows.FileHandle.{FileHandle}
use Rattle.drm_files.specs.Files.{client, hold, handle_before, client_before, is_open_client, is_handle, is_among, handles_of, free_handle, left_by, empty_files, AreFiles, IsHandleOf, InOrder}
use Rattle.drm_files.specs.Records.{rows_in, holds_in, clients_in, lists_of, pairs_of, IsTable, AreRecords}
use Rattle.drm_index_array.proofs.RowsByKey.{all_rows, rows_in_order}
use Rattle.drm_files.proofs.Flat.{key_pair_cmp, export_order_total, row_of, flat, rows_flat, sorted_flat, held, find_held, eqb_other}
use Rattle.drm_files.proofs.ChangedLists.{client_of, hold_order, find_client, find_hold, held_here, rows_of_client}
use Rattle.std.proofs.lemmas.Option.{none-some}
use Rattle.drm_index_array.proofs.Entries.{before_test}

some_of : {X Y : Type 0} (f : X → Y) (x : Option X) → is_some (option_map f x) ≡ is_some x
some_of f None = refl
some_of f (Some x) = refl

module _ (limit last : ℕ) (m : fin.FinMap nat_cmp FileRecord) where
  -- A client is open if and only if it has a record.
  pub open_client_is : (c : ℕ) → is_open_client (lists_of limit last m) c ≡ is_some (fin.get m c)
  open_client_is c = ap is_some (find_client m c) ∙ some_of (λ r. client c r.flags) (fin.get m c)

  -- A client that is not open has no record.
  pub absent_none : (c : ℕ) → is_open_client (lists_of limit last m) c ≡ false → fin.get m c ≡ None
  absent_none c absent = is_some-false (fin.get m c) (sym (open_client_is c) ∙ absent)

  -- An open client has a record.
  pub nobody : (c : ℕ) → is_open_client (lists_of limit last m) c ≡ true → None ≡ fin.get m c → ⊥
  nobody c open_client none = false≢true (ap is_some none ∙ sym (open_client_is c) ∙ open_client)

  -- A handle of the client in the lists is in its table.
  pub has_none : (c h : ℕ) (r : FileRecord) → fin.get m c ≡ Some r
      → is_some (find (is_handle c h) (lists_of limit last m).holds) ≡ true → None ≡ fin.get r.handles.slots h → ⊥
  has_none c h r found has none =
      false≢true
      (ap is_some none ∙ sym (ap is_some (find_hold m c h) ∙ some_of (λ x. hold c h x.object x.export_order) (held m c h) ∙ ap is_some (held_here m c r found c h refl)) ∙ has)

  -- The handles of a client are the keys of its table.
  pub handles_are : (c : ℕ) (r : FileRecord) → fin.get m c ≡ Some r
      → handles_of (lists_of limit last m) c ≡ fin.keys r.handles.slots
  handles_are c r found =
      ap (map (λ row. row.handle)) (rows_of_client m c r found) ∙ keys_in (fin.entries r.handles.slots)
    where
      keys_in : (hs : List (ℕ × Held)) → map (λ (row : FileHandle). row.handle) (rows_in c hs) ≡ map (λ e. e.0) hs
      keys_in [] = refl
      keys_in (e ∷ hs) = ap (λ l. e.0 ∷ l) (keys_in hs)

  -- The handles and objects that a client leaves are those of its table.
  pub left_is : (c : ℕ) (r : FileRecord) → fin.get m c ≡ Some r → left_by (lists_of limit last m) c ≡ pairs_of r.handles
  left_is c r found =
      ap (map {B = ℕ × ℕ} (λ row. (row.handle, row.object))) (rows_of_client m c r found)
      ∙ pairs_in (fin.entries r.handles.slots)
    where
      pairs_in : (hs : List (ℕ × Held))
          → map {B = ℕ × ℕ} (λ (row : FileHandle). (row.handle, row.object)) (rows_in c hs) ≡ map {B = ℕ × ℕ} (λ e. (e.0, e.1.object)) hs
      pairs_in [] = refl
      pairs_in (e ∷ hs) = ap (λ l. (e.0, e.1.object) ∷ l) (pairs_in hs)

  -- The lowest free handle of a client is that of its table.
  pub free_is : (c : ℕ) (r : FileRecord) → fin.get m c ≡ Some r → IsTable last r.handles
      → free_handle (lists_of limit last m) c ≡ least_free r.handles
  free_is c r found table =
      least-same _ (is_free r.handles) 1 last
      (λ k low high. ap not (ap (λ l. is_among l k) (handles_are c r found) ∙ any_of k (fin.keys r.handles.slots) ∙ sym (fin.contains_key-keys r.handles.slots k)))
      ∙ (λ i. least (is_free r.handles) (sym table.first_is i) (sym table.last_is i))
    where
      same_test : (x k : ℕ) → (x == k) ≡ eq_by_cmp nat_cmp k x
      same_test x k = grind (arith, nat_tests)

      any_of : (k : ℕ) (xs : List ℕ) → list_any (λ x. x == k) xs ≡ list_any (eq_by_cmp nat_cmp k) xs
      any_of k [] = refl
      any_of k (x ∷ xs) =
          ap (λ b. b || list_any (λ x. x == k) xs) (same_test x k) ∙ ap (λ b. eq_by_cmp nat_cmp k x || b) (any_of k xs)

  -- The handles of all clients are in the order of clients, and then of handles.
  pub holds_in_order : InOrder handle_before (holds_in (fin.entries m))
  holds_in_order =
      subst (λ l. InOrder handle_before l) (sym (rows_flat (fin.entries m)))
      (rows_in_order key_pair_cmp export_order_total row_of handle_before hold_order (flat (fin.entries m)) (sorted_flat (fin.entries m) (fin.entries_sorted m)))

  -- The facts of files hold for the lists of sound records.
  pub files_are : AreRecords limit last m → ((c : ℕ) → IsTrue (fin.contains_key m c) → c ≤ 4294967295)
      → AreFiles (lists_of limit last m)
  files_are are fit = record {
    last_low = are.last_low;
    last_high = are.last_high;
    limit_high = are.limit_high;
    clients_rise =
        rows_in_order nat_cmp nat_cmp_total client_of client_before (λ e f. before_test e.0 f.0) (fin.entries m)
        (fin.entries_sorted m);
    clients_fit =
        all_rows nat_cmp nat_cmp_total client_of (λ row. row.client ≤ 4294967295) (fin.entries m) (fin.entries_sorted m)
        (λ k v found. fit k (ap is_some (fin.get-entries m k ∙ found)));
    holds_rise = holds_in_order;
    holds_are =
        subst (λ l. AllByRecursion (IsHandleOf (lists_of limit last m)) l) (sym (rows_flat (fin.entries m)))
        (all_rows key_pair_cmp export_order_total row_of (IsHandleOf (lists_of limit last m)) (flat (fin.entries m)) sorted (λ p v found. each p.0 p.1 v (sym (find_held m p.0 p.1) ∙ found)));
  }
    where
      sorted : T (is_sorted key_pair_cmp (flat (fin.entries m)))
      sorted = sorted_flat (fin.entries m) (fin.entries_sorted m)

      in_table : (c h : ℕ) (v : Held) (x : Option FileRecord) → fin.get m c ≡ x
          → option_and_then (λ r. fin.get r.handles.slots h) x ≡ Some v
          → IsHandleOf (lists_of limit last m) (hold c h v.object v.export_order)
      in_table c h v None is found = absurd (none-some v found)
      in_table c h v (Some r) is found = record {
        client_open = open_client_is c ∙ ap is_some is;
        handle_low = (are.tables c r is).low h (ap is_some found);
        handle_high = (are.tables c r is).high h (ap is_some found);
      }

      each : (c h : ℕ) (v : Held) → held m c h ≡ Some v
          → IsHandleOf (lists_of limit last m) (hold c h v.object v.export_order)
      each c h v found = in_table c h v (fin.get m c) refl found

-- how the records stay what they are

-- A new table without handles is a sound table.
pub IsTable-empty : (last : ℕ) (t : Table Held) → t.first ≡ 1 → t.last ≡ last → t.slots ≡ fin.empty → IsTable last t
IsTable-empty last t f l none =
    record
    { first_is = f; last_is = l; low = λ h there. absurd (nothing h there); high = λ h there. absurd (nothing h there) }
  where
    nothing : (h : ℕ) → IsTrue (fin.contains_key t.slots h) → ⊥
    nothing h there =
        false≢true (sym (ap (λ s. is_some (fin.get s h)) none ∙ ap is_some (fin.get-empty nat_cmp h)) ∙ there)

-- a number that exists after an insertion is the new one, or was there
there_before : (s : fin.FinMap nat_cmp Held) (k : ℕ) (v : Held) (h : ℕ) → (h ≡ k → ⊥)
    → IsTrue (fin.contains_key (fin.insert s k v) h) → IsTrue (fin.contains_key s h)
there_before s k v h apart there =
    sym (ap is_some (get-insert s k v h ∙ ap (λ b. cond b (Some v) (fin.get s h)) (eqb_other h k apart))) ∙ there

-- A sound table stays sound after a handle in its range is added.
pub IsTable-add : (last : ℕ) (t s : Table Held) (k : ℕ) (v : Held) → IsTable last t → 1 ≤ k → k ≤ last
    → s.first ≡ t.first → s.last ≡ t.last → s.slots ≡ fin.insert t.slots k v → IsTable last s
IsTable-add last t s k v is low high f l slots = record {
  first_is = f ∙ is.first_is;
  last_is = l ∙ is.last_is;
  low =
      λ h there. elim (cases_eq h k)
      [ inl same ↦ omega (arith, same, low) | inr apart ↦ is.low h (there_before t.slots k v h apart (sym (ap (λ m. fin.contains_key m h) slots) ∙ there)) ];
  high =
      λ h there. elim (cases_eq h k)
      [ inl same ↦ omega (arith, same, high) | inr apart ↦ is.high h (there_before t.slots k v h apart (sym (ap (λ m. fin.contains_key m h) slots) ∙ there)) ];
}

-- An entry just added is in the table.
pub entry_there : (t : Table Held) (h : ℕ) (x : Held) → fin.get (with_entry t h x).slots h ≡ Some x
entry_there t h x = get-insert t.slots h x h ∙ ap (λ b. cond b (Some x) (fin.get t.slots h)) (same_number h)
  where
    same_number : (k : ℕ) → eqb k k ≡ true
    same_number k = grind (arith, nat_tests)

-- Of two values written at a handle, the second one stays.
pub entry_twice : (t : Table Held) (h : ℕ) (x y : Held) → with_entry (with_entry t h x) h y ≡ with_entry t h y
entry_twice t h x y = λ i. record t { slots = same i }
  where
    each : (q : ℕ) → fin.get (fin.insert (fin.insert t.slots h x) h y) q ≡ fin.get (fin.insert t.slots h y) q
    each q =
        get-insert (fin.insert t.slots h x) h y q
        ∙ elim (eqb q h) as (λ b. eqb q h ≡ b → cond b (Some y) (fin.get (fin.insert t.slots h x) q) ≡ cond b (Some y) (fin.get t.slots q)) [
          | true ↦ λ e. refl
          | false ↦ λ e. get-insert t.slots h x q ∙ ap (λ b. cond b (Some x) (fin.get t.slots q)) e
        ] refl
        ∙ sym (get-insert t.slots h y q)

    same : fin.insert (fin.insert t.slots h x) h y ≡ fin.insert t.slots h y
    same = same_by_gets _ _ each

-- A sound table stays sound after a handle is removed.
pub IsTable-drop : (last : ℕ) (t s : Table Held) (k : ℕ) → IsTable last t → s.first ≡ t.first → s.last ≡ t.last
    → s.slots ≡ fin.remove t.slots k → IsTable last s
IsTable-drop last t s k is f l slots = record {
  first_is = f ∙ is.first_is;
  last_is = l ∙ is.last_is;
  low = λ h there. is.low h (before h (sym (ap (λ m. fin.contains_key m h) slots) ∙ there));
  high = λ h there. is.high h (before h (sym (ap (λ m. fin.contains_key m h) slots) ∙ there));
}
  where
    inside : (b : Bool) (x : Option Held) → is_some (cond b None x) ≡ true → is_some x ≡ true
    inside true x there = absurd (false≢true there)
    inside false x there = there

    before : (h : ℕ) → IsTrue (fin.contains_key (fin.remove t.slots k) h) → IsTrue (fin.contains_key t.slots h)
    before h there = inside (eqb h k) (fin.get t.slots h) (sym (ap is_some (get-remove t.slots k h)) ∙ there)

module _ (limit last : ℕ) (m : fin.FinMap nat_cmp FileRecord) (are : AreRecords limit last m) (c : ℕ) where
  -- Sound records stay sound with another record whose table is sound and whose orders are in order.
  pub AreRecords-insert : (s : FileRecord) → IsTable last s.handles → AreInOrder s.handles.slots s.orders
      → AreRecords limit last (fin.insert m c s)
  AreRecords-insert s is order = record {
    limit_high = are.limit_high;
    last_low = are.last_low;
    last_high = are.last_high;
    tables = λ k r found. (each k r (eqb k c) (sym (get-insert m c s k) ∙ found)).0;
    in_order = λ k r found. (each k r (eqb k c) (sym (get-insert m c s k) ∙ found)).1;
  }
    where
      each : (k : ℕ) (r : FileRecord) (b : Bool) → cond b (Some s) (fin.get m k) ≡ Some r
          → IsTable last r.handles × AreInOrder r.handles.slots r.orders
      each k r true found =
          subst (λ (t : FileRecord). IsTable last t.handles × AreInOrder t.handles.slots t.orders)
          (ap (λ x. unwrap_or x s) found) (is, order)
      each k r false found = (are.tables k r found, are.in_order k r found)

  -- Sound records stay sound without one of them.
  pub AreRecords-remove : AreRecords limit last (fin.remove m c)
  AreRecords-remove = record {
    limit_high = are.limit_high;
    last_low = are.last_low;
    last_high = are.last_high;
    tables = λ k r found. are.tables k r (each k r (eqb k c) (sym (get-remove m c k) ∙ found));
    in_order = λ k r found. are.in_order k r (each k r (eqb k c) (sym (get-remove m c k) ∙ found));
  }
    where
      each : (k : ℕ) (r : FileRecord) (b : Bool) → cond b None (fin.get m k) ≡ Some r → fin.get m k ≡ Some r
      each k r true found = absurd (none-some r found)
      each k r false found = found

abbrev pub with_table : FileRecord → Table Held → FileRecord
with_table r t = record r { handles = t }

-- the export orders, too
abbrev pub with_both : FileRecord → Table Held → ExportOrders → FileRecord
with_both r t orders = record { flags = r.flags; handles = t; orders = orders }

module _ (limit last : ℕ) (m : fin.FinMap nat_cmp FileRecord) (c : ℕ) (r : FileRecord) (t : Table Held) (found : fin.get m c ≡ Some r) where
  -- A table written back unchanged leaves the records unchanged.
  pub unchanged : t ≡ r.handles → fin.insert m c (with_table r t) ≡ m
  unchanged same = ap (λ h. fin.insert m c (with_table r h)) same ∙ insert_same m c r found

  -- Sound records stay sound if a record's table is written back unchanged.
  pub are-unchanged : AreRecords limit last m → t ≡ r.handles → AreRecords limit last (fin.insert m c (with_table r t))
  are-unchanged are same = subst (AreRecords limit last) (sym (unchanged same)) are

  -- Sound records stay sound after a handle in range is added or changed and the orders are in order.
  pub are-put : AreRecords limit last m → (s : FileRecord) (h : ℕ) (x : Held) → r.handles.first ≤ h → h ≤ r.handles.last
      → s.handles ≡ with_entry r.handles h x → AreInOrder s.handles.slots s.orders
      → AreRecords limit last (fin.insert m c s)
  are-put are s h x low high is order =
      let table = are.tables c r found in
      AreRecords-insert limit last m are c s
      (IsTable-add last r.handles s.handles h x table (omega (arith, low, table.first_is)) (omega (arith, high, table.last_is)) (ap (λ u. u.first) is) (ap (λ u. u.last) is) (ap (λ u. u.slots) is))
      order

  module _ (are : AreRecords limit last m) (new : ExportOrders) (order : AreInOrder t.slots new) where
    -- Sound records stay sound with the same table and other orders that are in order.
    pub are-kept : t ≡ r.handles → AreRecords limit last (fin.insert m c (with_both r t new))
    are-kept same =
        AreRecords-insert limit last m are c (with_both r t new)
        (subst (IsTable last) (sym same) (are.tables c r found)) order

    -- Sound records stay sound after a handle is removed and the orders are still in order.
    pub are-dropped : (h : ℕ) → t ≡ without_entry r.handles h
        → AreRecords limit last (fin.insert m c (with_both r t new))
    are-dropped h is =
        AreRecords-insert limit last m are c (with_both r t new)
        (IsTable-drop last r.handles t h (are.tables c r found) (ap (λ u. u.first) is) (ap (λ u. u.last) is) (ap (λ u. u.slots) is))
        order

-- An empty map of records is sound if the limits are in range.
pub AreRecords-empty : (limit last : ℕ) (m : fin.FinMap nat_cmp FileRecord) → m ≡ fin.empty → limit ≤ 4294967295
    → 1 ≤ last → last ≤ 4294967295 → AreRecords limit last m
AreRecords-empty limit last m none limit_high low high = record {
  limit_high = limit_high;
  last_low = low;
  last_high = high;
  tables = λ k r found. absurd (none-some r (sym (ap (λ n. fin.get n k) none ∙ fin.get-empty nat_cmp k) ∙ found));
  in_order = λ k r found. absurd (none-some r (sym (ap (λ n. fin.get n k) none ∙ fin.get-empty nat_cmp k) ∙ found));
}

no_entries : fin.entries (fin.empty {K = ℕ} {X = FileRecord} {R = nat_cmp}) ≡ []
no_entries = none_of _ (sym (fin.len-entries fin.empty) ∙ fin.len-empty nat_cmp FileRecord)
  where
    none_of : (es : List (ℕ × FileRecord)) → length es ≡ 0 → es ≡ []
    none_of [] e = refl
    none_of (x ∷ es) e = absurd (omega (arith, e))

-- An empty map of records represents empty lists.
pub lists-empty : (limit last : ℕ) → lists_of limit last fin.empty ≡ empty_files limit last
lists-empty limit last =
    λ i. record
    { limit = limit; last_handle = last; clients = clients_in (no_entries i); holds = holds_in (no_entries i) }

-- A test that passes exactly if an option has no value is the opposite of having one.
pub room_is : (b : Bool) (x : Option ℕ) → (IsTrue b → x ≡ None) → (x ≡ None → IsTrue b) → not b ≡ is_some x
room_is true None f g = refl
room_is true (Some n) f g = absurd (none-some n (sym (f refl)))
room_is false None f g = absurd (false≢true (g refl))
room_is false (Some n) f g = refl
