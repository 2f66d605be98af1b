-- A new master of a client, which authenticates it.
use Rattle.std.proofs.Common.{◌≡◌, ℕ, ◌<◌, ◌==◌, ◌&&◌, true, false, not, cond, List, [], ◌∷◌, ◌++◌, map, filter, None, Some, refl, sym, ap, subst, ◌∙◌}
use Rattle.std.specs.Prelude.{if◌then◌else◌}
use Rattle.std.specs.List.{filter_map, cons_option, AllByRecursion}
use Rattle.std.proofs.lemmas.List.{map-append}
use Rattle.drm_index_array.specs.Orders.{SameRows}
use Rattle.drm_index_array.proofs.Orders.{same-filter}
use Rattle.drm_files.specs.Files.{with_authenticated}
use Rattle.drm_masters.specs.declared.rows.Master.{Master}
use Rattle.drm_masters.specs.declared.rows.Member.{Member}
use Rattle.drm_leases.specs.Tokens.{LeaseToken}
use Rattle.drm_masters.specs.Masters.{MasterSet, AreMasters, is_client, member_of, swept as masters_swept}
use Rattle.drm_masters.specs.Calls.{IsNewStepNumber, owner, founded_master, with_device, changed_member, remade}
use Rattle.drm_masters.proofs.NewestMember.{newest_master, with_last_master}
use Rattle.drm_leases.proofs.Agreeing.{owns, agreed_swept, agreed_more, agreed_changed}
use Rattle.drm_model.specs.Rows.{Rows, ClientRow, MasterRow, MagicRow, without}
use Rattle.drm_model.specs.Masters.{new_master}
use Rattle.drm_model.specs.Magics as model
use Rattle.drm_model.specs.Change as change
use Rattle.drm_model.specs.Change.{swept}
use Rattle.drm_model.specs.Parts.{Part, Clients, Masters, Magics, Objects, Names, Shown, DeviceMaster}
use Rattle.drm_state.specs.declared.state.State.{State}
use Rattle.drm_state.specs.Parts.{clients_of, masters_of, magics_of, magic_row_of, master_row_of}
use Rattle.drm_state.specs.Invariants.{MeetsInvariants, AreKeptBy}
use Rattle.drm_state.specs.Refinement.{represents_part, Represents}
use Rattle.drm_state.proofs.StayingMasters.{swept_masters}
use Rattle.drm_state.proofs.Represented.{clients_are, masters_are, magics_are, masters_so, tokens_of_lessees, kept_have_tokens, leases_agree}
use Rattle.drm_state.proofs.Ended.{fresh_token, kept_more, kept_swept, of_lessees_more, of_lessees_swept}
use Rattle.drm_state.proofs.Sweeps.{named_by_clients, magics_left, unswept}
use Rattle.drm_master_calls.proofs.Authenticated.{put, changed_clients, changed_invariants, authenticated_invariants}

-- where magics are reported, a client that has no magic any more is like a removed one
magics_put : (y : Member) → magic_row_of y ≡ None → (xs : List Member)
    → filter_map magic_row_of (filter (λ (z : Member). not (is_client y.client z)) xs) ≡ filter_map magic_row_of (map (put y) xs)
magics_put y none [] = refl
magics_put y none (z ∷ zs) =
    let rest = filter (λ (u : Member). not (is_client y.client u)) zs in
    elim (z.client == y.client) as (λ b. filter_map magic_row_of (cond (not b) (z ∷ rest) rest) ≡ cons_option (magic_row_of (if b then y else z)) (filter_map magic_row_of (map (put y) zs))) [
      | true ↦ magics_put y none zs ∙ ap (λ o. cons_option o (filter_map magic_row_of (map (put y) zs))) (sym none)
      | false ↦ ap (cons_option (magic_row_of z)) (magics_put y none zs)
    ]

-- the rows where a client has the master of this step number, its own
abbrev pub own_rows : Rows → ℕ → ℕ → Rows
own_rows w c b = record w {
  clients = model.with_master c b w.clients;
  masters = w.masters ++ new_master b ∷ [];
  magics = without (λ (row : MagicRow). row.client == c) w.magics;
  device_master = Some b;
}

-- the masters where it has it, which is newer than all
abbrev pub remade_last : ℕ → ℕ → ℕ → MasterSet → MasterSet
remade_last c key b v =
    masters_swept (with_device (Some b) (changed_member (owner c b) (with_last_master (founded_master key b) v)))

-- A new master of a client is the last, since it is newer than all.
pub last_remade : (c key b : ℕ) (v : MasterSet) → IsNewStepNumber v b → remade c key b v ≡ remade_last c key b v
last_remade c key b v newest =
    ap (λ u. masters_swept (with_device (Some b) (changed_member (owner c b) u)))
    (newest_master v (founded_master key b) newest)

-- the state where it has it, and what it represents
module _ (s : State) (x : Member) (key b : ℕ) (t : MeetsInvariants s) (new : AllByRecursion (λ (row : LeaseToken). row.master < b) s.leases.tokens) (are : AreMasters (remade_last x.client key b s.masters)) (look : member_of s.masters.members x.client ≡ Some x) (non_master : x.is_master ≡ false) where
  abbrev remade_state : State
  remade_state =
      record s { files = with_authenticated s.files x.client; masters = remade_last x.client key b s.masters }

  abbrev all_masters : List Master
  all_masters = (with_last_master (founded_master key b) s.masters).masters

  abbrev all_members : List Member
  all_members = map (put (owner x.client b)) s.masters.members

  kept : AreKeptBy s.leases.tokens all_masters
  kept = kept_more s.leases.tokens s.masters.masters (founded_master key b) (kept_have_tokens s t) refl new

  -- it owned nothing before
  non_master_owns : (n : ℕ) → owns n x ≡ true → ⊥
  non_master_owns n its = let no : false ≡ true = sym (ap (λ b. b && (x.master == n)) non_master) ∙ its in cc

  -- A new own master of a client keeps all invariants.
  pub remade_invariants : MeetsInvariants remade_state
  remade_invariants =
      authenticated_invariants (record s { masters = remade_last x.client key b s.masters }) x.client
      (changed_invariants s (owner x.client b) (remade_last x.client key b s.masters) t refl are
      (of_lessees_swept all_members s.leases.tokens all_masters kept (of_lessees_more s.leases.tokens s.masters.masters (founded_master key b) (tokens_of_lessees s t)))
      (kept_swept all_members s.leases.tokens all_masters kept)
      (agreed_swept all_members all_masters s.leases.lendings
      (agreed_more all_members s.masters.masters (founded_master key b) s.leases.lendings
      (agreed_changed s.masters.members x (owner x.client b) s.masters.masters s.leases.lendings (masters_so s t).members_rise look (λ n its. absurd (non_master_owns n its)) (leases_agree s t)))) refl)

  module _ (w : Rows) (h : Represents s w) where
    abbrev remade_rows : Rows
    remade_rows = own_rows w x.client b

    clients_now : remade_rows.clients ≡ clients_of remade_state
    unfolding model.with_master
    clients_now =
        ap (model.with_master x.client b) (clients_are s w h)
        ∙ sym
        (changed_clients x (owner x.client b) (λ (row : ClientRow). record row { authenticated = true; once_master = true; is_master = true; master = Some b }) s.masters.members look refl (λ f. refl) s.files.clients)

    masters_now : filter (λ (row : MasterRow). change.is_living remade_rows row.master) remade_rows.masters ≡ masters_of remade_state
    masters_now =
        swept_masters remade_rows s.leases.tokens all_masters all_members
        (ap (λ l. l ++ new_master b ∷ []) (masters_are s w h) ∙ ap (λ o. masters_of s ++ record { master = b; lessor = None; lessee_id = 0; lease_token = o } ∷ []) (sym (fresh_token b s.leases.tokens new))
        ∙ sym (map-append (master_row_of s.leases.tokens) s.masters.masters (founded_master key b ∷ []))) kept
        (named_by_clients remade_rows remade_state remade_invariants clients_now)

    magics_now : SameRows remade_rows.magics (magics_of remade_state)
    magics_now =
        subst (SameRows remade_rows.magics)
        (magics_left x.client s.masters.members ∙ magics_put (owner x.client b) refl s.masters.members)
        (same-filter (λ (row : MagicRow). not (row.client == x.client)) w.magics (magics_of s) (magics_are s w h))

    -- The state with a client's new master represents the swept rows with it.
    pub remade_represents : (part : Part) → represents_part part remade_state (swept remade_rows)
    unfolding represents_part swept
    remade_represents Clients = clients_now
    remade_represents Masters = masters_now
    remade_represents Magics = magics_now
    remade_represents Objects = unswept s w t h Objects
    remade_represents Names = unswept s w t h Names
    remade_represents Shown = unswept s w t h Shown
    remade_represents DeviceMaster = refl
    remade_represents part = h part
