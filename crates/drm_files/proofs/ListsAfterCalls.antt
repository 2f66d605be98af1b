-- The lists after each call.
use Rattle.std.proofs.Common.{◌≡◌, ℕ, find, length, slice_get, Option, Some, None, option_map, option_and_then, refl, sym, ap, ◌∙◌, nat_cmp}
use Rattle.std.specs.Option.{option_or}
use Rattle.std.specs.FinMap as fin
use Rattle.drm_files.specs.declared.files.FileRecord.{FileRecord}
use Rattle.drm_files.specs.declared.files.Held.{Held}
use Rattle.drm_files.specs.declared.rows.FileClient.{FileClient}
use Rattle.drm_files.specs.declared.rows.FileHandle.{FileHandle}
use Rattle.drm_files.specs.Files.{FileLists, is_client, is_handle, client, hold, with_client, without_client, with_handle_row, without_handle_row, with_export_order, with_change}
use Rattle.drm_files.specs.Records.{clients_in, holds_in, lists_of, rows_in}
use Rattle.drm_files.proofs.Flat.{held}
use Rattle.drm_index_array.proofs.RowsByKey.{row_at, rows_length}
use Rattle.drm_files.proofs.ChangedLists.{client_of, clients_opened, clients_closed, clients_kept, clients_changed, holds_kept, holds_added, holds_placed, holds_dropped, holds_closed, held_here, find_client, find_hold}

module _ (limit last : ℕ) (m : fin.FinMap nat_cmp FileRecord) (c : ℕ) where
  -- There are as many clients as records.
  pub length_clients : length (clients_in (fin.entries m)) ≡ fin.len m
  length_clients = rows_length m c client_of

  by_rows : (k : fin.FinMap nat_cmp FileRecord) (v : FileLists) → clients_in (fin.entries k) ≡ v.clients
      → holds_in (fin.entries k) ≡ v.holds → lists_of limit last k ≡ record v { limit = limit; last_handle = last }
  by_rows k v a b = λ i. record { limit = limit; last_handle = last; clients = a i; holds = b i }

  -- A new record without handles is one more client in the lists.
  pub opened : (r : FileRecord) → fin.get m c ≡ None → r.handles.slots ≡ fin.empty
      → lists_of limit last (fin.insert m c r) ≡ with_client (lists_of limit last m) c r.flags
  opened r none slots =
      by_rows (fin.insert m c r) (with_client (lists_of limit last m) c r.flags) (clients_opened m c r none)
      (holds_kept m c r (λ b. ap (λ s. fin.get s b) slots ∙ fin.get-empty nat_cmp b ∙ ap (option_and_then (λ s. fin.get s.handles.slots b)) (sym none)))

  -- A removed record is a removed client with all its handles.
  pub closed : lists_of limit last (fin.remove m c) ≡ without_client (lists_of limit last m) c
  closed = by_rows (fin.remove m c) (without_client (lists_of limit last m) c) (clients_closed m c) (holds_closed m c)

  -- A handle added to a client's table is one more handle in the lists.
  pub added : (r s : FileRecord) (h : ℕ) (x : Held) → fin.get m c ≡ Some r → fin.get r.handles.slots h ≡ None
      → s.flags ≡ r.flags → s.handles.slots ≡ fin.insert r.handles.slots h x →
      lists_of limit last (fin.insert m c s) ≡ with_handle_row (lists_of limit last m)
      (hold c h x.object x.export_order)
  added r s h x found new flags slots =
      by_rows (fin.insert m c s) (with_handle_row (lists_of limit last m) (hold c h x.object x.export_order))
      (clients_kept m c r s found flags) (holds_added m c r s h x found new slots)

  -- A handle removed from a client's table is removed from the lists.
  pub dropped : (r s : FileRecord) (h : ℕ) → fin.get m c ≡ Some r → s.flags ≡ r.flags
      → s.handles.slots ≡ fin.remove r.handles.slots h
      → lists_of limit last (fin.insert m c s) ≡ without_handle_row (lists_of limit last m) c h
  dropped r s h found flags slots =
      by_rows (fin.insert m c s) (without_handle_row (lists_of limit last m) c h) (clients_kept m c r s found flags)
      (holds_dropped m c r s h found slots)

  -- An export order set in a client's table is set in the lists.
  pub given : (r s : FileRecord) (h : ℕ) (x : Held) (export_order : ℕ) → fin.get m c ≡ Some r
      → fin.get r.handles.slots h ≡ Some x → s.flags ≡ r.flags
      → s.handles.slots ≡ fin.insert r.handles.slots h (record { object = x.object; export_order = option_or x.export_order (Some export_order) })
      → lists_of limit last (fin.insert m c s) ≡ with_export_order (lists_of limit last m) c h export_order
  given r s h x export_order found here flags slots =
      by_rows (fin.insert m c s) (with_export_order (lists_of limit last m) c h export_order)
      (clients_kept m c r s found flags) (holds_placed m c r s h x export_order found here slots)

  -- A change of a client's flags is the same change in the lists.
  pub changed : (change : FileClient → FileClient) (r s : FileRecord) → fin.get m c ≡ Some r
      → ((k : ℕ) → client k s.flags ≡ change (client k r.flags)) → s.handles.slots ≡ r.handles.slots
      → lists_of limit last (fin.insert m c s) ≡ with_change change (lists_of limit last m) c
  changed change r s found flags slots =
      by_rows (fin.insert m c s) (with_change change (lists_of limit last m) c)
      (clients_changed m c change r s found flags)
      (holds_kept m c s (λ b. ap (λ t. fin.get t b) slots ∙ sym (held_here m c r found c b refl)))

  -- A record written back with the same flags and handles leaves the lists unchanged.
  pub rewritten : (r s : FileRecord) → fin.get m c ≡ Some r → s.flags ≡ r.flags → s.handles.slots ≡ r.handles.slots
      → lists_of limit last (fin.insert m c s) ≡ lists_of limit last m
  rewritten r s found flags slots =
      by_rows (fin.insert m c s) (lists_of limit last m) (clients_kept m c r s found flags)
      (holds_kept m c s (λ b. ap (λ t. fin.get t b) slots ∙ sym (held_here m c r found c b refl)))

  composed : {X Y Z : Type 0} (f : Y → Z) (g : X → Y) (x : Option X)
      → option_map f (option_map g x) ≡ option_map (λ y. f (g y)) x
  composed f g None = refl
  composed f g (Some x) = refl

  -- The flags of a client's record are those in the lists.
  pub flags_are : (l : FileLists) → lists_of limit last m ≡ l
      → option_map (λ (r : FileRecord). r.flags) (fin.get m c) ≡ option_map (λ row. row.flags) (find (is_client c) l.clients)
  flags_are l is =
      sym
      (ap (option_map (λ row. row.flags)) (find_client m c) ∙ composed (λ (row : FileClient). row.flags) (λ (r : FileRecord). client c r.flags) (fin.get m c))
      ∙ ap (λ (k : FileLists). option_map (λ row. row.flags) (find (is_client c) k.clients)) is

  -- The object of a handle in a client's table is the one in the lists.
  pub object_is : (l : FileLists) → lists_of limit last m ≡ l → (h : ℕ)
      → option_map (λ (x : Held). x.object) (held m c h) ≡ option_map (λ row. row.object) (find (is_handle c h) l.holds)
  object_is l is h =
      sym
      (ap (option_map (λ row. row.object)) (find_hold m c h) ∙ composed (λ (row : FileHandle). row.object) (λ (x : Held). hold c h x.object x.export_order) (held m c h))
      ∙ ap (λ (k : FileLists). option_map (λ row. row.object) (find (is_handle c h) k.holds)) is

-- the client at a place, by its number
abbrev pub client_named : fin.FinMap nat_cmp FileRecord → Option ℕ → Option FileClient
client_named m k = option_and_then (λ c. option_map (λ (r : FileRecord). client c r.flags) (fin.get m c)) k

-- The client at a place is the record of the key at this place.
pub client_at : (m : fin.FinMap nat_cmp FileRecord) (i : ℕ)
    → client_named m (slice_get (fin.keys m) i) ≡ slice_get (clients_in (fin.entries m)) i
client_at m i = row_at m 0 client_of i

-- the hold at a place of one client's, by its handle
abbrev pub held_named : ℕ → fin.FinMap nat_cmp Held → Option ℕ → Option FileHandle
held_named c m k = option_and_then (λ h. option_map (λ (x : Held). hold c h x.object x.export_order) (fin.get m h)) k

-- The handle at a place of a client is the entry of the key at this place.
pub handle_at : (c : ℕ) (m : fin.FinMap nat_cmp Held) (i : ℕ)
    → held_named c m (slice_get (fin.keys m) i) ≡ slice_get (rows_in c (fin.entries m)) i
handle_at c m i = row_at m 0 (λ e. hold c e.0 e.1.object e.1.export_order) i
