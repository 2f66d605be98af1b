-- The caller of a call: its file, its row and its master, which it has unless it is a render client.
use Rattle.std.proofs.Common.{◌≡◌, ℕ, true, false, ◌||◌, List, find, Option, None, Some, refl, sym, ap, ◌∙◌}
use Rattle.std.specs.Prelude.{unwrap_or}
use Rattle.std.specs.Option.{is_some, option_map, option_map_or, option_and_then}
use Rattle.std.proofs.lemmas.Bool.{eqb-true}
use Rattle.drm_index_array.proofs.Lists.{all_each}
use Rattle.drm_index_array.proofs.Rising.{found}
use Rattle.drm_files.specs.declared.rows.FileClient.{FileClient}
use Rattle.drm_files.specs.declared.rows.FileFlags.{FileFlags}
use Rattle.drm_files.specs.Files as files
use Rattle.drm_masters.specs.declared.rows.Member.{Member}
use Rattle.drm_masters.specs.Masters as masters
use Rattle.drm_masters.specs.Masters.{member_of}
use Rattle.drm_model.specs.Rows.{Rows, ClientRow, client_row}
use Rattle.drm_model.specs.Masters.{master_of, lessor_of, is_lessee}
use Rattle.drm_model.specs.Magics.{caller_master}
use Rattle.drm_state.specs.declared.state.State.{State}
use Rattle.drm_state.specs.declared.caller.Caller.{Caller}
use Rattle.drm_state.specs.Callers.{IsCaller}
use Rattle.drm_state.specs.Parts.{client_row_by, root_of}
use Rattle.drm_state.specs.Invariants.{MeetsInvariants, HasMaster}
use Rattle.drm_state.specs.Refinement.{Represents}
use Rattle.drm_state.proofs.Represented.{clients_have, masters_are}
use Rattle.drm_state.proofs.StayingMasters.{lessors_are}
use Rattle.drm_state.proofs.Lookups.{client_row_is}

-- An open client has a file.
pub file_of : (s : State) (c : ℕ) → files.is_open_client s.files c ≡ true
    → (flags : FileFlags) × (find (files.is_client c) s.files.clients ≡ Some (record { client = c; flags = flags }))
file_of s c h = by_file (find (files.is_client c) s.files.clients) refl h
  where
    by_file : (o : Option FileClient) → find (files.is_client c) s.files.clients ≡ o → is_some o ≡ true
        → (flags : FileFlags) × (find (files.is_client c) s.files.clients ≡ Some (record { client = c; flags = flags }))
    by_file None e k = absurd (let n : false ≡ true = k in cc)
    by_file (Some f) e k =
        let num : f.client ≡ c =
        eqb-true f.client c
        (found (files.is_client c) (λ _. Unit {0}) f s.files.clients (all_each (λ _. Unit {0}) (λ _. tt) s.files.clients) e).0
        in
        (f.flags, e ∙ (λ i. Some (record { client = num i; flags = f.flags })))

-- An open client has a row made of its file and of how it belongs to masters.
pub row_is : (s : State) (w : Rows) (c : ℕ) (flags : FileFlags) → Represents s w
    → find (files.is_client c) s.files.clients ≡ Some (record { client = c; flags = flags })
    → client_row w c ≡ Some (client_row_by (record { client = c; flags = flags }) (member_of s.masters.members c))
row_is s w c flags h e = client_row_is s w h c flags (sym (ap (option_map (λ (f : FileClient). f.flags)) e))

-- The entry that is found for a client is of this client.
pub same_client : (xs : List Member) (c : ℕ) (x : Member) → member_of xs c ≡ Some x
    → (x.client ≡ c) × (member_of xs x.client ≡ Some x)
same_client xs c x e =
    let num : x.client ≡ c =
    eqb-true x.client c
    (found (masters.is_client c) (λ _. Unit {0}) x xs (all_each (λ _. Unit {0}) (λ _. tt) xs) e).0 in
    (num, ap (member_of xs) num ∙ e)

-- ---- a caller

module _ (s : State) (k : Caller) (is : IsCaller s k) where
  -- A caller is an open client.
  pub caller_open : files.is_open_client s.files k.client ≡ true
  caller_open = by_file (find (files.is_client k.client) s.files.clients) is.flags
    where
      by_file : (o : Option FileClient) → Some k.flags ≡ option_map (λ (f : FileClient). f.flags) o → is_some o ≡ true
      by_file None e = absurd (let n : Some k.flags ≡ None = e in cc)
      by_file (Some f) e = refl

  -- The file of a caller has the flags that the caller carries.
  pub caller_file : find (files.is_client k.client) s.files.clients ≡ Some (record { client = k.client; flags = k.flags })
  caller_file =
      let file = file_of s k.client caller_open in
      let flags : k.flags ≡ file.0 =
      ap (λ o. option_map_or (λ (f : FileFlags). f) o k.flags)
      (is.flags ∙ ap (option_map (λ (f : FileClient). f.flags)) file.1) in
      file.1 ∙ (λ i. Some (record { client = k.client; flags = sym flags i }))

  -- A caller is root exactly if its file says so.
  pub caller_root : k.flags.root ≡ root_of s k.client
  caller_root = sym (ap (λ o. option_map_or (λ (f : FileClient). f.flags.root) o false) caller_file)

  -- A caller has a master unless it is a render client.
  pub caller_member : MeetsInvariants s → k.flags.render ≡ false → is_some k.member ≡ true
  caller_member t render =
      let has : (k.flags.render || is_some (member_of s.masters.members k.client)) ≡ true =
      (found (files.is_client k.client) (HasMaster s.masters) (record { client = k.client; flags = k.flags }) s.files.clients (clients_have s t) caller_file).1
      in
      ap is_some is.member ∙ ap (λ b. b || is_some (member_of s.masters.members k.client)) (sym render) ∙ has

-- ---- a caller that has a master

module _ (s : State) (w : Rows) (c : ℕ) (flags : FileFlags) (x : Member) (h : Represents s w) (file : find (files.is_client c) s.files.clients ≡ Some (record { client = c; flags = flags })) (look : member_of s.masters.members c ≡ Some x) where
  -- A caller that has a master has a row made of its file and of how it belongs to masters.
  pub caller_row : client_row w c ≡ Some (client_row_by (record { client = c; flags = flags }) (Some x))
  caller_row = row_is s w c flags h file ∙ ap (λ o. Some (client_row_by (record { client = c; flags = flags }) o)) look

  -- The master of a caller in the rows is the one that it belongs to.
  pub its_master : master_of w c ≡ Some x.master
  its_master = ap (option_and_then (λ (row : ClientRow). row.master)) caller_row

  -- A caller is a lessee in the rows exactly if its master is one.
  pub lessee_is : is_lessee w c ≡ masters.is_lessee s.masters.masters x.master
  lessee_is =
      ap (λ o. is_some (option_and_then (lessor_of w.masters) o)) its_master
      ∙ ap (λ rows. is_some (lessor_of rows x.master)) (masters_are s w h)
      ∙ ap is_some (lessors_are s.leases.tokens s.masters.masters x.master)

  -- The number of the caller's master in the rows is that of the one that it belongs to.
  pub own_master_is : caller_master w c ≡ x.master
  own_master_is = ap (λ o. unwrap_or o 0) its_master
