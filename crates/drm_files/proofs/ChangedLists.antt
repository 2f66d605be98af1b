-- What the lists are after each change of the records.
use Rattle.std.proofs.Common.{◌≡◌, ℕ, Bool, true, false, not, ◌&&◌, ◌==◌, eqb, cond, if◌then◌else◌, T, map, filter, find as find_row, Option, Some, None, option_map, option_and_then, refl, sym, ap, subst, ◌∙◌, inl, inr, arith, map-id, nat_cmp, is_lt}
use Rattle.std.specs.Option.{option_or}
use Rattle.std.specs.Ordering.{eq_by_cmp}
use Rattle.std.specs.Cmp.{nat_cmp_total}
use Rattle.std.specs.FinMap as fin
use Rattle.std.specs.FinMap.{nat_cmp-IsAntisymmetric}
use Rattle.std.specs.FinMap.Entries.{find, put, where_key, is_sorted-put, is_sorted-where_key, find-put, find-where_key, same_entries}
use Rattle.std.proofs.lemmas.Bool.{cases_eq}
use Rattle.std.proofs.lemmas.Bool.Decides.{nat_tests}
use Rattle.drm_index_array.proofs.MarkedLemmas.{get-insert, get-remove}
use Rattle.drm_files.specs.declared.files.FileRecord.{FileRecord}
use Rattle.drm_files.specs.declared.files.Held.{Held}
use Rattle.drm_files.specs.declared.rows.FileClient.{FileClient}
use Rattle.drm_files.specs.declared.rows.FileHandle.{FileHandle}
use Rattle.drm_files.specs.Files.{client, hold, handle_before, client_before, is_client, is_handle, of_client, given_export_order}
use Rattle.drm_index_array.specs.Rows.{placed}
use Rattle.drm_files.specs.Records.{rows_in, holds_in, clients_in}
use Rattle.drm_index_array.proofs.RowsByKey.{rows_where, find_rows, rows_put, rows_put_found, entries_removed}
use Rattle.drm_files.proofs.Flat.{KeyPair, key_pair_cmp, export_order_total, export_order_exact, export_order_eq, export_order_lt, row_of, tagged, flat, rows_flat, rows_tagged, sorted_flat, sorted_tagged, held, find_held, find_tagged, flat_is, eqb_same, eqb_other}
use Rattle.drm_index_array.proofs.Entries.{same_test, before_test}

-- clients

abbrev pub client_of : ℕ × FileRecord → FileClient
client_of e = client e.0 e.1.flags

module _ (m : fin.FinMap nat_cmp FileRecord) (c : ℕ) where
  -- The client found in the list is its record in the map.
  pub find_client : find_row (is_client c) (clients_in (fin.entries m)) ≡ option_map (λ r. client c r.flags) (fin.get m c)
  find_client =
      find_rows nat_cmp nat_cmp_total client_of nat_cmp-IsAntisymmetric c (is_client c) (λ e. same_test c e.0)
      (fin.entries m)
      ∙ ap (option_map (λ r. client c r.flags)) (sym (fin.get-entries m c))

  -- A new record puts its client at its place in the list.
  pub clients_opened : (r : FileRecord) → fin.get m c ≡ None
      → clients_in (fin.entries (fin.insert m c r)) ≡ placed client_before (client c r.flags) (clients_in (fin.entries m))
  clients_opened r none =
      ap clients_in (fin.entries-insert nat_cmp_total m c r)
      ∙ rows_put nat_cmp nat_cmp_total client_of client_before (λ e f. before_test e.0 f.0) c r (fin.entries m)
      (fin.entries_sorted m) (sym (fin.get-entries m c) ∙ none)

  -- A removed record removes its client from the list.
  pub clients_closed : clients_in (fin.entries (fin.remove m c)) ≡ filter (λ row. not (is_client c row)) (clients_in (fin.entries m))
  clients_closed =
      ap clients_in (entries_removed m c)
      ∙ rows_where nat_cmp nat_cmp_total client_of (λ k. not (eq_by_cmp nat_cmp c k)) (λ row. not (is_client c row))
      (λ e. ap not (same_test c e.0)) (fin.entries m)

  clients_put : (f : FileClient → FileClient) (r s : FileRecord) → fin.get m c ≡ Some r
      → ((k : ℕ) → eq_by_cmp nat_cmp c k ≡ true → client k s.flags ≡ f (client k r.flags))
      → ((k : ℕ) (t : FileRecord) → eq_by_cmp nat_cmp c k ≡ false → f (client k t.flags) ≡ client k t.flags) →
      clients_in (fin.entries (fin.insert m c s)) ≡ map f (clients_in (fin.entries m))
  clients_put f r s found new kept =
      ap clients_in (fin.entries-insert nat_cmp_total m c s)
      ∙ rows_put_found nat_cmp nat_cmp_total client_of f c (λ e no. kept e.0 e.1 no) r s
      (λ e at value. new e.0 at ∙ ap (λ (t : FileRecord). f (client e.0 t.flags)) (sym value)) (fin.entries m)
      (fin.entries_sorted m) (sym (fin.get-entries m c) ∙ found)

  -- A record with the same flags leaves the list of clients unchanged.
  pub clients_kept : (r s : FileRecord) → fin.get m c ≡ Some r → s.flags ≡ r.flags
      → clients_in (fin.entries (fin.insert m c s)) ≡ clients_in (fin.entries m)
  clients_kept r s found same =
      clients_put (λ row. row) r s found (λ k at. ap (client k) same) (λ k t no. refl)
      ∙ map-id (clients_in (fin.entries m))

  -- Changed flags of a record change the row of its client and no other.
  pub clients_changed : (change : FileClient → FileClient) (r s : FileRecord) → fin.get m c ≡ Some r
      → ((k : ℕ) → client k s.flags ≡ change (client k r.flags)) →
      clients_in (fin.entries (fin.insert m c s)) ≡ map (λ row. if is_client c row then change row else row)
      (clients_in (fin.entries m))
  clients_changed change r s found same =
      clients_put (λ row. if is_client c row then change row else row) r s found
      (λ k at. same k ∙ ap (λ b. cond b (change (client k r.flags)) (client k r.flags)) (sym (same_test c k ∙ at)))
      (λ k t no. ap (λ b. cond b (change (client k t.flags)) (client k t.flags)) (same_test c k ∙ no))

-- holds

hold_test : (c h : ℕ) (e : KeyPair × Held) → is_handle c h (row_of e) ≡ eq_by_cmp key_pair_cmp (c, h) e.0
hold_test c h e = turn e.0.0 e.0.1 ∙ sym (export_order_eq c h e.0.0 e.0.1)
  where
    turn : (a b : ℕ) → ((a == c) && (b == h)) ≡ (eqb c a && eqb h b)
    turn a b = grind (arith, nat_tests)

-- Handles are ordered by their clients, then by their numbers.
pub hold_order : (e f : KeyPair × Held) → handle_before (row_of e) (row_of f) ≡ is_lt (key_pair_cmp e.0 f.0)
hold_order e f = sym (export_order_lt e.0.0 e.0.1 f.0.0 f.0.1)

by_client : (a c : ℕ) (P : Bool → Type 0) → (a ≡ c → P true) → ((a ≡ c → ⊥) → P false) → P (eqb a c)
by_client a c P same other =
    elim (cases_eq a c)
    [ inl is ↦ subst P (sym (eqb_same a c is)) (same is) | inr apart ↦ subst P (sym (eqb_other a c apart)) (other apart) ]

module _ (m : fin.FinMap nat_cmp FileRecord) (c : ℕ) where
  -- The handle found in the list is its entry in the client's table.
  pub find_hold : (h : ℕ)
      → find_row (is_handle c h) (holds_in (fin.entries m)) ≡ option_map (λ x. hold c h x.object x.export_order) (held m c h)
  find_hold h =
      ap (find_row (is_handle c h)) (rows_flat (fin.entries m))
      ∙ find_rows key_pair_cmp export_order_total row_of export_order_exact (c, h) (is_handle c h) (hold_test c h)
      (flat (fin.entries m))
      ∙ ap (option_map (λ x. hold c h x.object x.export_order)) (find_held m c h)

  -- A changed record changes the handles of its client and of no other.
  pub held_insert : (s : FileRecord) (a b : ℕ)
      → held (fin.insert m c s) a b ≡ cond (eqb a c) (fin.get s.handles.slots b) (held m a b)
  held_insert s a b = ap (option_and_then (λ r. fin.get r.handles.slots b)) (get-insert m c s a) ∙ inside (eqb a c)
    where
      inside : (t : Bool)
          → option_and_then (λ r. fin.get r.handles.slots b) (cond t (Some s) (fin.get m a)) ≡ cond t (fin.get s.handles.slots b) (held m a b)
      inside true = refl
      inside false = refl

  -- The handles of a client are those of its record.
  pub held_here : (r : FileRecord) → fin.get m c ≡ Some r → (a b : ℕ) → a ≡ c → held m a b ≡ fin.get r.handles.slots b
  held_here r found a b same = ap (option_and_then (λ s. fin.get s.handles.slots b)) (ap (fin.get m) same ∙ found)

  -- A record with the same handles leaves the list of handles unchanged.
  pub holds_kept : (s : FileRecord) → ((b : ℕ) → fin.get s.handles.slots b ≡ held m c b)
      → holds_in (fin.entries (fin.insert m c s)) ≡ holds_in (fin.entries m)
  holds_kept s same =
      rows_flat _
      ∙ ap (map row_of) (flat_is (fin.insert m c s) (flat (fin.entries m)) (sorted_flat (fin.entries m) (fin.entries_sorted m)) (λ a b.
      held_insert s a b
      ∙ by_client a c (λ t. cond t (fin.get s.handles.slots b) (held m a b) ≡ held m a b)
      (λ is. same b ∙ ap (λ k. held m k b) (sym is)) (λ apart. refl)
      ∙ sym (find_held m a b)))
      ∙ sym (rows_flat (fin.entries m))

  -- a client's table that has one more entry, or another at its number
  holds_put : (r s : FileRecord) (h : ℕ) (x : Held) → fin.get m c ≡ Some r
      → s.handles.slots ≡ fin.insert r.handles.slots h x
      → holds_in (fin.entries (fin.insert m c s)) ≡ map row_of (put key_pair_cmp (c, h) x (flat (fin.entries m)))
  holds_put r s h x found slots =
      let es = flat (fin.entries m) in
      let sorted = sorted_flat (fin.entries m) (fin.entries_sorted m) in
      rows_flat _
      ∙ ap (map row_of) (flat_is (fin.insert m c s) (put key_pair_cmp (c, h) x es) (is_sorted-put key_pair_cmp export_order_total (c, h) x es sorted) (λ a b.
      held_insert s a b
      ∙ by_client a c (λ t. cond t (fin.get s.handles.slots b) (held m a b) ≡ cond (t && eqb b h) (Some x) (held m a b))
      (λ is. ap (λ t. fin.get t b) slots ∙ get-insert r.handles.slots h x b ∙ ap (cond (eqb b h) (Some x)) (sym (held_here r found a b is)))
      (λ apart. refl)
      ∙ (λ i. cond (sym (export_order_eq a b c h) i) (Some x) (sym (find_held m a b) i))
      ∙ sym (find-put key_pair_cmp export_order_total (a, b) (c, h) x es)))

  -- A handle added to a client's table is put at its place in the list.
  pub holds_added : (r s : FileRecord) (h : ℕ) (x : Held) → fin.get m c ≡ Some r → fin.get r.handles.slots h ≡ None
      → s.handles.slots ≡ fin.insert r.handles.slots h x →
      holds_in (fin.entries (fin.insert m c s)) ≡ placed handle_before (hold c h x.object x.export_order)
      (holds_in (fin.entries m))
  holds_added r s h x found new slots =
      let es = flat (fin.entries m) in
      let sorted = sorted_flat (fin.entries m) (fin.entries_sorted m) in
      holds_put r s h x found slots
      ∙ rows_put key_pair_cmp export_order_total row_of handle_before hold_order (c, h) x es sorted
      (find_held m c h ∙ held_here r found c h refl ∙ new)
      ∙ ap (placed handle_before (hold c h x.object x.export_order)) (sym (rows_flat (fin.entries m)))

  abbrev with_own : ℕ → ℕ → FileHandle → FileHandle
  with_own h export_order row = if is_handle c h row then given_export_order export_order row else row

  -- An export order set in a client's table is set in the handle's row.
  pub holds_placed : (r s : FileRecord) (h : ℕ) (x : Held) (export_order : ℕ) → fin.get m c ≡ Some r
      → fin.get r.handles.slots h ≡ Some x
      → s.handles.slots ≡ fin.insert r.handles.slots h (record { object = x.object; export_order = option_or x.export_order (Some export_order) }) →
      holds_in (fin.entries (fin.insert m c s)) ≡ map (with_own h export_order) (holds_in (fin.entries m))
  holds_placed r s h x export_order found here slots =
      let es = flat (fin.entries m) in
      let sorted = sorted_flat (fin.entries m) (fin.entries_sorted m) in
      let y : Held = record { object = x.object; export_order = option_or x.export_order (Some export_order) } in
      let own : (e : KeyPair × Held) → with_own h export_order (row_of e) ≡ cond (eq_by_cmp key_pair_cmp (c, h) e.0) (given_export_order export_order (row_of e)) (row_of e) =
      λ e. ap (λ b. cond b (given_export_order export_order (row_of e)) (row_of e)) (hold_test c h e) in
      holds_put r s h y found slots
      ∙ rows_put_found key_pair_cmp export_order_total row_of (with_own h export_order) (c, h)
      (λ e no. own e ∙ ap (λ b. cond b (given_export_order export_order (row_of e)) (row_of e)) no)
      x y
      (λ e at value. (λ i. hold e.0.0 e.0.1 (sym value i).object (option_or (sym value i).export_order (Some export_order))) ∙ sym (own e ∙ ap (λ b. cond b (given_export_order export_order (row_of e)) (row_of e)) at))
      es sorted (find_held m c h ∙ held_here r found c h refl ∙ here)
      ∙ ap (map (with_own h export_order)) (sym (rows_flat (fin.entries m)))

  -- A handle removed from a client's table is removed from the list.
  pub holds_dropped : (r s : FileRecord) (h : ℕ) → fin.get m c ≡ Some r
      → s.handles.slots ≡ fin.remove r.handles.slots h →
      holds_in (fin.entries (fin.insert m c s)) ≡ filter (λ row. not (is_handle c h row)) (holds_in (fin.entries m))
  holds_dropped r s h found slots =
      let es = flat (fin.entries m) in
      let sorted = sorted_flat (fin.entries m) (fin.entries_sorted m) in
      let keep : KeyPair → Bool = λ p. not (eq_by_cmp key_pair_cmp (c, h) p) in
      rows_flat _
      ∙ ap (map row_of) (flat_is (fin.insert m c s) (where_key key_pair_cmp keep es) (is_sorted-where_key key_pair_cmp keep es sorted) (λ a b.
      held_insert s a b
      ∙ by_client a c
      (λ t. cond t (fin.get s.handles.slots b) (held m a b) ≡ cond (not (t && eqb b h)) (held m a b) None)
      (λ is. ap (λ t. fin.get t b) slots ∙ get-remove r.handles.slots h b ∙ swap (eqb b h) _ ∙ ap (λ y. cond (not (eqb b h)) y None) (sym (held_here r found a b is)))
      (λ apart. refl)
      ∙ (λ i. cond (not (test a b i)) (sym (find_held m a b) i) None)
      ∙ sym (find-where_key key_pair_cmp keep (a, b) (λ p t. ap keep (sym (export_order_exact (a, b) p t))) es)))
      ∙ rows_where key_pair_cmp export_order_total row_of keep (λ row. not (is_handle c h row))
      (λ e. ap not (hold_test c h e)) es
      ∙ ap (filter (λ row. not (is_handle c h row))) (sym (rows_flat (fin.entries m)))
    where
      swap : (t : Bool) (y : Option Held) → cond t None y ≡ cond (not t) y None
      swap true y = refl
      swap false y = refl

      turn : (a b : ℕ) → (eqb a c && eqb b h) ≡ (eqb c a && eqb h b)
      turn a b = grind (arith, nat_tests)

      test : (a b : ℕ) → (eqb a c && eqb b h) ≡ eq_by_cmp key_pair_cmp (c, h) (a, b)
      test a b = turn a b ∙ sym (export_order_eq c h a b)

  -- A removed record removes all handles of its client from the list.
  pub holds_closed : holds_in (fin.entries (fin.remove m c)) ≡ filter (λ row. not (of_client c row)) (holds_in (fin.entries m))
  holds_closed =
      let es = flat (fin.entries m) in
      let sorted = sorted_flat (fin.entries m) (fin.entries_sorted m) in
      let keep : KeyPair → Bool = λ p. not (p.0 == c) in
      rows_flat _
      ∙ ap (map row_of) (flat_is (fin.remove m c) (where_key key_pair_cmp keep es) (is_sorted-where_key key_pair_cmp keep es sorted) (λ a b.
      ap (option_and_then (λ r. fin.get r.handles.slots b)) (get-remove m c a)
      ∙ swap (eqb a c) (fin.get m a) b
      ∙ ap (λ y. cond (not (eqb a c)) y None) (sym (find_held m a b))
      ∙ sym (find-where_key key_pair_cmp keep (a, b) (λ p t. ap keep (sym (export_order_exact (a, b) p t))) es)))
      ∙ rows_where key_pair_cmp export_order_total row_of keep (λ row. not (of_client c row)) (λ e. refl) es
      ∙ ap (filter (λ row. not (of_client c row))) (sym (rows_flat (fin.entries m)))
    where
      swap : (t : Bool) (y : Option FileRecord) (b : ℕ)
          → option_and_then (λ r. fin.get r.handles.slots b) (cond t None y) ≡ cond (not t) (option_and_then (λ r. fin.get r.handles.slots b) y) None
      swap true y b = refl
      swap false y b = refl

  -- The handles of a client in the list are those of its table.
  pub rows_of_client : (r : FileRecord) → fin.get m c ≡ Some r
      → filter (of_client c) (holds_in (fin.entries m)) ≡ rows_in c (fin.entries r.handles.slots)
  rows_of_client r found =
      let es = flat (fin.entries m) in
      let hs = fin.entries r.handles.slots in
      let sorted = sorted_flat (fin.entries m) (fin.entries_sorted m) in
      let keep : KeyPair → Bool = λ p. p.0 == c in
      ap (filter (of_client c)) (rows_flat (fin.entries m))
      ∙ sym (rows_where key_pair_cmp export_order_total row_of keep (of_client c) (λ e. refl) es)
      ∙ ap (map row_of) (same_entries key_pair_cmp export_order_total export_order_exact (where_key key_pair_cmp keep es) (tagged c hs) (is_sorted-where_key key_pair_cmp keep es sorted) (subst T (sym (sorted_tagged c hs)) (fin.entries_sorted r.handles.slots)) (λ q.
      find-where_key key_pair_cmp keep q (λ p t. ap keep (sym (export_order_exact q p t))) es
      ∙ ap (λ y. cond (q.0 == c) y None) (find_held m q.0 q.1)
      ∙ by_client q.0 c (λ t. cond t (held m q.0 q.1) None ≡ cond t (find nat_cmp q.1 hs) None)
      (λ is. held_here r found q.0 q.1 is ∙ fin.get-entries r.handles.slots q.1) (λ apart. refl)
      ∙ sym (find_tagged q.0 q.1 c hs)))
      ∙ rows_tagged c hs
