-- Masters, their chains of lessors, and who is current (drm(7), masters; drm-uapi, leases).
use Rattle.std.specs.Prelude.{ℕ, ◌==◌, Bool, false, ◌&&◌, List, Option, None, Some, find}
use Rattle.std.specs.Option.{is_some, option_and_then}
use Rattle.drm_index_array.specs.Chains as chains
use Rattle.drm_index_array.specs.Chains.{top_of}
use Rattle.drm_model.specs.Rows.{Rows, MasterRow, ClientRow, client_row}
use Rattle.drm_table.specs.declared.permits.Standing.{Standing}

-- a master that no client lent: it has no lessor
abbrev pub new_master : ℕ → MasterRow
new_master m = record { master = m; lessor = None; lessee_id = 0; lease_token = None }

-- the master of a client, its own or the one that it joined
abbrev pub master_of : Rows → ℕ → Option ℕ
master_of w c = option_and_then (λ row. row.master) (client_row w c)

-- the row of a master, if it exists
abbrev pub master_row : List MasterRow → ℕ → Option MasterRow
master_row rows m = find (λ row. row.master == m) rows

-- the lessor of a master, if it is a lessee
abbrev pub lessor_of : List MasterRow → ℕ → Option ℕ
lessor_of rows m = option_and_then (λ row. row.lessor) (master_row rows m)

-- whether the client's master has a lessor
abbrev pub is_lessee : Rows → ℕ → Bool
is_lessee w c = is_some (option_and_then (lessor_of w.masters) (master_of w c))

-- the owner of a master: the top of its chain of lessors
abbrev pub owner_of : List MasterRow → ℕ → ℕ
owner_of rows m = top_of (lessor_of rows) m

-- how many lessors are above a master: 0 if it has none, else one more than above its lessor (own)
abbrev pub depth_of : List MasterRow → ℕ → ℕ
depth_of rows m = chains.depth_of (lessor_of rows) m

-- whether m is the master named top, or below it: its chain of lessors leads there
abbrev pub is_under : List MasterRow → ℕ → ℕ → Bool
is_under rows top m = chains.is_under (lessor_of rows) top m

-- whether the device's master is the owner of a client's
abbrev pub is_owner : List MasterRow → Option ℕ → Option ℕ → Bool
is_owner rows (Some device) (Some m) = device == owner_of rows m
is_owner rows (Some device) None = false
is_owner rows None m = false

-- current: a client that is a master, whose master's owner is the device's master
abbrev pub is_current_row : Rows → ClientRow → Bool
is_current_row w row = row.is_master && is_owner w.masters w.device_master row.master

-- what the tests of drm_ioctl_permit ask of a client; of one that isn't open, nothing holds
abbrev pub credentials_in : Rows → Option ClientRow → Standing
credentials_in w None = record { root = false; render = false; authenticated = false; current = false }
credentials_in w (Some row) =
    record { root = row.root; render = row.render; authenticated = row.authenticated; current = is_current_row w row }

-- the properties of a client that the flags of a call's row are tested against
abbrev pub credentials_of : Rows → ℕ → Standing
credentials_of w c = credentials_in w (client_row w c)
