-- GET_MAGIC and AUTH_MAGIC (drm(7), magics), SET_MASTER and DROP_MASTER (drm(7), masters; drm-uapi, primary nodes, DRM master and
-- authentication). That a client loses its magic with a new master is this project's own.
use Rattle.std.specs.Prelude.{ℕ, ◌==◌, Bool, true, false, not, ◌&&◌, ◌||◌, List, [], ◌∷◌, ◌++◌, Option, None, Some, unwrap_or, find, map, filter, if◌then◌else◌}
use Rattle.std.specs.Option.{is_some, is_none, option_map, option_or}
use Rattle.drm_index_array.specs.Numbers.{is_among}
use Rattle.drm_table.specs.declared.answers.Answer.TheVariants.{Number}
use Rattle.drm_table.specs.declared.rules.Rule.TheVariants.{NoMagic, MasterPerm, MasterBusy, NotCurrent, IsLessee}
use Rattle.drm_table.specs.Permit.{check}
use Rattle.drm_index_array.specs.Least.{least}
use Rattle.drm_model.specs.Rows.{Rows, ClientRow, MagicRow, step_number, without, is_option, is_client, client_has, magic_row}
use Rattle.drm_model.specs.Masters.{new_master, master_of, is_lessee, credentials_of}
use Rattle.drm_model.specs.Meaning.{Meaning, nothing}

-- ---- magics

-- the master of a client; 0 if it has none
abbrev pub caller_master : Rows → ℕ → ℕ
caller_master w c = unwrap_or (master_of w c) 0

-- the magic of a client, spent or not, if it has one
abbrev pub magic_of : Rows → ℕ → Option ℕ
magic_of w c = option_map (λ (row : MagicRow). row.number) (magic_row w c)

-- the magics of a master, spent ones too
abbrev pub magics_under : Rows → ℕ → List ℕ
magics_under w m = map (λ row. row.number) (filter (λ row. row.master == m) w.magics)

-- the lowest free magic of a master, from 1; each client has one at most, so that none is wanting (the kernel's IDR
-- returns the lowest)
abbrev pub free_magic : Rows → ℕ → Option ℕ
free_magic w m = least (λ number. not (is_among (magics_under w m) number)) 1 w.limits.clients

-- the magics, with one of the master for the client if it had none
abbrev pub with_magic : Rows → ℕ → ℕ → Option ℕ → List MagicRow
with_magic w c m (Some number) = w.magics
with_magic w c m None =
    w.magics ++ record { master = m; number = unwrap_or (free_magic w m) 0; client = c; spent = false } ∷ []

-- GET_MAGIC: the client's magic, the same each time, or else the lowest free one of its master
abbrev pub get_magic : Rows → ℕ → Meaning
get_magic w c = record {
  checks = [];
  rows = record w { magics = with_magic w c (caller_master w c) (magic_of w c) };
  answer = Number (unwrap_or (option_or (magic_of w c) (free_magic w (caller_master w c))) 0);
}

-- a magic of the master that isn't spent
abbrev pub is_open_magic : ℕ → ℕ → MagicRow → Bool
is_open_magic m number row = (row.master == m) && (row.number == number) && not row.spent

-- the client that has this magic of the master, where it isn't spent
abbrev pub magic_client : Rows → ℕ → ℕ → Option ℕ
magic_client w m number = option_map (λ (row : MagicRow). row.client) (find (is_open_magic m number) w.magics)

-- the magics, of which this one is spent
unfoldable pub with_spent : ℕ → ℕ → List MagicRow → List MagicRow
with_spent m number magics =
    map (λ (row : MagicRow). if is_open_magic m number row then record row { spent = true } else row) magics

-- the clients, of which this one is authenticated
unfoldable pub with_authenticated : Option ℕ → List ClientRow → List ClientRow
with_authenticated c clients =
    map (λ (row : ClientRow). if is_option row.client c then record row { authenticated = true } else row) clients

-- what it means among the magics of the master
abbrev pub auth_under : Rows → ℕ → ℕ → Meaning
auth_under w m number = record (nothing w) {
  checks = check NoMagic (is_some (magic_client w m number)) ∷ [];
  rows =
      record w
      { clients = with_authenticated (magic_client w m number) w.clients; magics = with_spent m number w.magics };
}

-- AUTH_MAGIC: the client that has this magic of the caller's master is authenticated, and the magic is spent
abbrev pub auth_magic : Rows → ℕ → ℕ → Meaning
auth_magic w c number = auth_under w (caller_master w c) number

-- ---- masters

-- whether a client is current (`drm_is_current_master`)
abbrev pub is_current : Rows → ℕ → Bool
is_current w c = (credentials_of w c).current

-- whether the client is its own master
abbrev pub is_master : Rows → ℕ → Bool
is_master w c = client_has (λ row. row.is_master) w c

-- whether the client was a master once, or is root
abbrev pub may_be_master : Rows → ℕ → Bool
may_be_master w c = client_has (λ row. row.once_master) w c || (credentials_of w c).root

-- the clients, of which this one is a master, authenticated, of the new master
unfoldable pub with_master : ℕ → ℕ → List ClientRow → List ClientRow
with_master c m clients =
    map
    (λ (row : ClientRow). if is_client c row then record row { authenticated = true; once_master = true; is_master = true; master = Some m } else row)
    clients

-- a new master for the client, which is the device's; its magic of the master before is removed
abbrev pub with_new_master : Rows → ℕ → Rows
with_new_master w c = record w {
  clients = with_master c (step_number w) w.clients;
  masters = w.masters ++ new_master (step_number w) ∷ [];
  magics = without (λ row. row.client == c) w.magics;
  device_master = Some (step_number w);
}

-- a client that is current stays so, one that is a master has its own set again, and any other gets a new one
abbrev pub mastered : Rows → ℕ → Bool → Bool → Rows
mastered w c current master =
    if current then w else if master then record w { device_master = master_of w c } else with_new_master w c

-- SET_MASTER: a client that is current is done at once
abbrev pub set_master : Rows → ℕ → Meaning
set_master w c = record (nothing w) {
  checks =
      check MasterPerm (may_be_master w c)
      ∷ check MasterBusy (is_current w c || is_none w.device_master)
      ∷ check IsLessee (is_current w c || not (is_master w c && is_lessee w c))
      ∷ [];
  rows = mastered w c (is_current w c) (is_master w c);
}

-- DROP_MASTER: the device has no master; the client's stays its own
abbrev pub drop_master : Rows → ℕ → Meaning
drop_master w c = record (nothing w) {
  checks =
      check MasterPerm (may_be_master w c) ∷ check NotCurrent (is_current w c) ∷ check IsLessee (not (is_lessee w c)) ∷
      [];
  rows = record w { device_master = None };
}
