-- A caller, by the device's parts (own).
use Rattle.std.specs.Prelude.{◌≡◌, find, Some}
use Rattle.std.specs.Option.{option_map}
use Rattle.drm_files.specs.declared.rows.FileClient.{FileClient}
use Rattle.drm_files.specs.Files.{is_client}
use Rattle.drm_masters.specs.Masters.{member_of, is_current}
use Rattle.drm_state.specs.declared.state.State.{State}
use Rattle.drm_state.specs.declared.caller.Caller.{Caller}
use Rattle.drm_state.specs.declared.caller.PrimaryCaller.{PrimaryCaller}

-- the client is open, and its flags, how it belongs to masters and whether it is current are those that are kept
pub record IsCaller (s : State) (caller : Caller) : Type 0 where
  pub flags : Some caller.flags ≡ option_map (λ (f : FileClient). f.flags) (find (is_client caller.client) s.files.clients)
  pub member : caller.member ≡ member_of s.masters.members caller.client
  pub current : caller.current ≡ is_current s.masters caller.client

-- a caller that is not a render client, as a caller
abbrev pub as_caller : PrimaryCaller → Caller
as_caller caller =
    record { client = caller.client; flags = caller.flags; member = Some caller.member; current = caller.current }

-- the same of a caller that is not a render client, which has a master
abbrev pub IsPrimaryCaller : State → PrimaryCaller → Type 0
IsPrimaryCaller s caller = IsCaller s (as_caller caller)
