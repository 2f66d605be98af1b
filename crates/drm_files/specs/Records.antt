-- The flat lists that the clients' records represent (own).
use Rattle.std.specs.Prelude.{◌≡◌, ℕ, ◌≤◌, nat_le, List, [], map as list_map, flat_map, Option, Some, None, IsTrue}
use Rattle.std.specs.Ordering.{nat_cmp}
use Rattle.std.specs.FinMap as map
use Rattle.std.specs.FinMap.Entries.{where_key}
use Rattle.drm_id_alloc.specs.Table.{Table}
use Rattle.drm_files.specs.Files.{FileLists, client, hold}
use Rattle.drm_files.specs.ExportOrders.{AreInOrder}
use Rattle.drm_files.specs.declared.rows.FileClient.{FileClient}
use Rattle.drm_files.specs.declared.rows.FileHandle.{FileHandle}
use Rattle.drm_files.specs.declared.files.FileRecord.{FileRecord}
use Rattle.drm_files.specs.declared.files.Held.{Held}

-- the rows of all clients, in their order
abbrev pub clients_in : List (ℕ × FileRecord) → List FileClient
clients_in records = list_map (λ entry. client entry.0 entry.1.flags) records

-- the rows of one client
abbrev pub rows_in : ℕ → List (ℕ × Held) → List FileHandle
rows_in c entries = list_map (λ entry. hold c entry.0 entry.1.object entry.1.export_order) entries

-- the rows of all handles, in their order
abbrev pub holds_in : List (ℕ × FileRecord) → List FileHandle
holds_in records = flat_map (λ entry. rows_in entry.0 (map.entries entry.1.handles.slots)) records

-- the lists of the records
abbrev pub lists_of : ℕ → ℕ → map.FinMap nat_cmp FileRecord → FileLists
lists_of limit last_handle records = record {
  limit = limit;
  last_handle = last_handle;
  clients = clients_in (map.entries records);
  holds = holds_in (map.entries records);
}

-- the handles of a table with their objects
abbrev pub pairs_of : Table Held → List (ℕ × ℕ)
pairs_of table = list_map (λ entry. (entry.0, entry.1.object)) (map.entries table.slots)

-- the handles of a table from a number on, with their objects; without a number there are none
abbrev pub pairs_from : Table Held → Option ℕ → List (ℕ × ℕ)
pairs_from table None = []
pairs_from table (Some from) =
    list_map (λ entry. (entry.0, entry.1.object)) (where_key nat_cmp (λ handle. nat_le from handle) (map.entries table.slots))

-- a table of the handles from 1 to the last
pub record IsTable (last_handle : ℕ) (table : Table Held) : Type 0 where
  pub first_is : table.first ≡ 1
  pub last_is : table.last ≡ last_handle
  pub low : (h : ℕ) → IsTrue (map.contains_key table.slots h) → 1 ≤ h
  pub high : (h : ℕ) → IsTrue (map.contains_key table.slots h) → h ≤ last_handle

-- each client's table is of that kind, and its export orders are in order; and the limits are numbers of 32 bits
pub record AreRecords (limit last_handle : ℕ) (records : map.FinMap nat_cmp FileRecord) : Type 0 where
  pub limit_high : limit ≤ 4294967295
  pub last_low : 1 ≤ last_handle
  pub last_high : last_handle ≤ 4294967295
  pub tables : (c : ℕ) (row : FileRecord) → map.get records c ≡ Some row → IsTable last_handle row.handles
  pub in_order : (c : ℕ) (row : FileRecord) → map.get records c ≡ Some row → AreInOrder row.handles.slots row.orders
