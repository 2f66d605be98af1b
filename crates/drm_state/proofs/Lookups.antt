-- What look-ups find in the rows, by what they find in the parts.
use Rattle.std.proofs.Common.{◌≡◌, ℕ, find, None, Some, ◌∙◌, ap, Bool, false, ◌&&◌}
use Rattle.std.specs.Option.{option_map, option_map_or, is_some}
use Rattle.drm_index_array.proofs.FoundInLists.{find-map, is_some-map}
use Rattle.drm_files.specs.declared.rows.FileFlags.{FileFlags}
use Rattle.drm_files.specs.declared.rows.FileClient.{FileClient}
use Rattle.drm_files.specs.Files as files
use Rattle.drm_model.specs.Rows.{Rows, client_row, is_client, is_open}
use Rattle.drm_model.specs.Masters.{is_owner, credentials_in}
use Rattle.drm_masters.specs.Masters.{member_of, is_current}
use Rattle.drm_state.specs.declared.state.State.{State}
use Rattle.drm_state.specs.Parts.{client_row_by, client_row_of, masters_of}
use Rattle.drm_state.specs.Refinement.{Represents}
use Rattle.drm_state.proofs.Represented.{clients_are, masters_are, device_master_is}
use Rattle.drm_state.proofs.Members.{row_found, not_found}
use Rattle.drm_state.proofs.StayingMasters.{current_is}
use Rattle.drm_table.specs.declared.permits.Standing.{Standing}
use Rattle.drm_masters.specs.declared.rows.Member.{Member}

-- The row of a client is that of its file, if the client is open.
pub client_found : (s : State) (w : Rows) → Represents s w → (c : ℕ)
    → client_row w c ≡ option_map (client_row_of s.masters.members) (find (files.is_client c) s.files.clients)
client_found s w h c =
    ap (find (is_client c)) (clients_are s w h)
    ∙ find-map (is_client c) (client_row_of s.masters.members) s.files.clients

-- A client is open by rows exactly if it has a file.
pub is_open_is : (s : State) (w : Rows) → Represents s w → (c : ℕ) → is_open w c ≡ files.is_open_client s.files c
is_open_is s w h c =
    ap is_some (client_found s w h c)
    ∙ is_some-map (client_row_of s.masters.members) (find (files.is_client c) s.files.clients)

-- The row of a client whose flags were looked up has these flags and its master.
pub client_row_is : (s : State) (w : Rows) → Represents s w → (c : ℕ) (flags : FileFlags)
    → Some flags ≡ option_map (λ (f : FileClient). f.flags) (find (files.is_client c) s.files.clients) →
    client_row w c ≡ Some (client_row_by (record { client = c; flags = flags }) (member_of s.masters.members c))
client_row_is s w h c flags e = client_found s w h c ∙ row_found c flags s.masters.members s.files.clients e

-- A client without a file is not open.
pub no_client : (s : State) (w : Rows) → Represents s w → (c : ℕ)
    → None ≡ option_map (λ (f : FileClient). f.flags) (find (files.is_client c) s.files.clients) → is_open w c ≡ false
no_client s w h c e = is_open_is s w h c ∙ not_found c s.files.clients e

-- A client's credentials by rows are those of its flags, and whether it is current.
pub credentials_is : (s : State) (w : Rows) → Represents s w → (c : ℕ) (flags : FileFlags)
    → credentials_in w (Some (client_row_by (record { client = c; flags = flags }) (member_of s.masters.members c))) ≡
    record { root = flags.root; render = flags.render; authenticated = flags.authenticated; current = is_current s.masters c }
credentials_is s w h c flags =
    let o = member_of s.masters.members c in
    let now = λ (b : Bool). let r : Standing = record { root = flags.root; render = flags.render; authenticated = flags.authenticated; current = b } in r in
    ap
    (λ rows. now (option_map_or (λ (x : Member). x.is_master) o false && is_owner rows w.device_master (option_map (λ (x : Member). x.master) o)))
    (masters_are s w h)
    ∙ ap
    (λ device. now (option_map_or (λ (x : Member). x.is_master) o false && is_owner (masters_of s) device (option_map (λ (x : Member). x.master) o)))
    (device_master_is s w h)
    ∙ ap now (current_is s.leases.tokens s.masters.masters s.masters.device_master o)
