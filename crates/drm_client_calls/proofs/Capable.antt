-- The device with a capability of a client on or off.
use Rattle.std.proofs.Common.{◌≡◌, ℕ, ◌==◌, Bool, true, false, List, [], ◌∷◌, Option, map, find, refl, ap, ◌∙◌}
use Rattle.std.specs.Prelude.{if◌then◌else◌}
use Rattle.std.specs.Option.{is_some, option_map}
use Rattle.drm_index_array.proofs.Lists.{all_weaker, all_each, all_mapped}
use Rattle.drm_index_array.proofs.FoundInLists.{find-map, find-same, is_some-map}
use Rattle.drm_files.specs.declared.rows.FileClient.{FileClient}
use Rattle.drm_files.specs.Files as files
use Rattle.drm_files.specs.declared.rows.ClientCapability.{ClientCapability}
use Rattle.drm_files.specs.declared.rows.ClientCapability.TheVariants.{UniversalPlanes}
use Rattle.drm_files.specs.Files.{FileLists, is_open_client, with_capable, with_capability}
use Rattle.drm_masters.specs.declared.rows.Member.{Member}
use Rattle.drm_masters.specs.Masters.{MasterSet, member_of}
use Rattle.drm_model.specs.ClientCapabilities as capabilities
use Rattle.drm_model.specs.Capabilities as model
use Rattle.drm_model.specs.Parts.{Part, Clients}
use Rattle.drm_model.specs.Rows.{Rows, ClientRow}
use Rattle.drm_state.specs.declared.state.State.{State}
use Rattle.drm_state.specs.Parts.{capability_number, capabilities_of, client_row_by, client_row_of, clients_of}
use Rattle.drm_state.specs.Invariants.{Invariant, MembersOpen, ClientsHave, HasMaster, meets_invariant, MeetsInvariants}
use Rattle.drm_state.specs.Refinement.{represents_part, Represents}
use Rattle.drm_state.proofs.Represented.{clients_are, members_open, clients_have}

-- ---- each capability

-- a client of any capability has its master
still_has : (v : MasterSet) (k : ClientCapability) (on : Bool) (f : FileClient) → HasMaster v f
    → HasMaster v (with_capable k on f)
still_has v UniversalPlanes on f h = h

-- the row of a client has the capability on or off exactly if its flags have it
row_put : (k : ClientCapability) (on : Bool) (f : FileClient) (m : Option Member) →
    record (client_row_by f m) { capabilities = capabilities.with_capability (capability_number k) on (capabilities_of f.flags) } ≡ client_row_by (with_capable k on f) m
row_put UniversalPlanes on f m = refl

-- ---- all of them

module _ (k : ClientCapability) (on : Bool) where
  abbrev put : ℕ → FileClient → FileClient
  put c f = if files.is_client c f then with_capable k on f else f

  put_client : (c : ℕ) (f : FileClient) → (put c f).client ≡ f.client
  put_client c f = elim (f.client == c) as (λ b. (if b then with_capable k on f else f).client ≡ f.client) [ true ↦ refl | false ↦ refl ]

  open_client_yet : (fs : FileLists) (c n : ℕ) → is_open_client (with_capability fs c k on) n ≡ is_open_client fs n
  open_client_yet fs c n =
      ap is_some
      (find-map (files.is_client n) (put c) fs.clients ∙ ap (option_map (put c)) (find-same (λ f. files.is_client n (put c f)) (files.is_client n) fs.clients (all_each (λ f. files.is_client n (put c f) ≡ files.is_client n f) (λ f. ap (λ m. m == n) (put_client c f)) fs.clients)))
      ∙ is_some-map (put c) (find (files.is_client n) fs.clients)

module _ (s : State) (c : ℕ) (k : ClientCapability) (on : Bool) where
  abbrev pub shown : State
  shown = record s { files = with_capability s.files c k on }

  -- A client's capability on or off keeps all invariants.
  pub shown_invariants : MeetsInvariants s → (invariant : Invariant) → meets_invariant invariant shown
  unfolding meets_invariant
  shown_invariants t MembersOpen =
      all_weaker (λ (z : Member). is_open_client s.files z.client ≡ true)
      (λ (z : Member). is_open_client (with_capability s.files c k on) z.client ≡ true)
      (λ z e. open_client_yet k on s.files c z.client ∙ e) s.masters.members (members_open s t)
  shown_invariants t ClientsHave =
      all_mapped (HasMaster s.masters) (put k on c) s.files.clients
      (all_weaker (HasMaster s.masters) (λ f. HasMaster s.masters (put k on c f)) (λ f h. elim (f.client == c) as (λ b. HasMaster s.masters (if b then with_capable k on f else f)) [ true ↦ still_has s.masters k on f h | false ↦ h ]) s.files.clients (clients_have s t))
  shown_invariants t invariant = t invariant

  abbrev put_row : ClientRow → ClientRow
  put_row row = record row { capabilities = capabilities.with_capability (capability_number k) on row.capabilities }

  one : (f : FileClient)
      → (if f.client == c then put_row (client_row_of s.masters.members f) else client_row_of s.masters.members f) ≡ client_row_of s.masters.members (put k on c f)
  one f =
      elim (f.client == c) as (λ b. (if b then put_row (client_row_of s.masters.members f) else client_row_of s.masters.members f) ≡ client_row_of s.masters.members (if b then with_capable k on f else f)) [
        | true ↦ row_put k on f (member_of s.masters.members f.client)
        | false ↦ refl
      ]

  each : (fs : List FileClient)
      → map (λ (row : ClientRow). if row.client == c then put_row row else row) (map (client_row_of s.masters.members) fs) ≡ map (client_row_of s.masters.members) (map (put k on c) fs)
  each [] = refl
  each (f ∷ fs) = λ i. one f i ∷ each fs i

  clients_now : (w : Rows) → Represents s w
      → model.with_client_capability c (capability_number k) on w.clients ≡ clients_of shown
  unfolding model.with_client_capability
  clients_now w h =
      ap (map (λ (row : ClientRow). if row.client == c then put_row row else row)) (clients_are s w h)
      ∙ each s.files.clients

  -- A client's capability on or off represents the rows with the same change.
  pub shown_represents : (w : Rows) → Represents s w → (part : Part)
      → represents_part part shown (record w { clients = model.with_client_capability c (capability_number k) on w.clients })
  unfolding represents_part
  shown_represents w h Clients = clients_now w h
  shown_represents w h part = h part
