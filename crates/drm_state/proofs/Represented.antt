-- The parts of what a state represents, and its invariants, one by one.
use Rattle.std.proofs.Common.{◌≡◌, ◌≤◌, true}
use Rattle.std.specs.List.{AllByRecursion}
use Rattle.drm_index_array.specs.Orders.{SameRows, InOrder}
use Rattle.drm_files.specs.declared.rows.FileHandle.{FileHandle}
use Rattle.drm_files.specs.Files.{is_open_client, handle_before}
use Rattle.drm_model.specs.Rows.{Rows}
use Rattle.drm_masters.specs.declared.rows.Member.{Member}
use Rattle.drm_masters.specs.Masters.{AreMasters}
use Rattle.drm_leases.specs.Leases.{AreLeases}
use Rattle.drm_modes.specs.Modes.{AreModes}
use Rattle.drm_state.specs.declared.state.State.{State}
use Rattle.drm_state.specs.Parts.{clients_of, masters_of, magics_of, holds_of, objects_of, names_of, tokens_of, grants_of, framebuffers_of, shown_of, last_token_of, last_lease_token_of, keys_of, referring_keys}
use Rattle.drm_leases.specs.Agreed.{AreAgreed}
use Rattle.drm_state.specs.Invariants.{MembersOpen, ClientsHave, MastersAre, MagicsSuffice, LeasesAre, TokensOfLessees, KeptHaveTokens, LeasesAgree, ModesAre, HoldsRise, ObjectsCounted, NamesHeld, meets_invariant, MeetsInvariants, AreCounted, AreNamed, AreOfLessees, AreKeptBy, HasMaster}
use Rattle.drm_model.specs.Parts.{Bounds, Clients, Masters, Magics, Holds, Objects, Names, Tokens, Grants, Framebuffers, Shown, DeviceMaster, LastToken, LastLeaseToken}
use Rattle.drm_state.specs.Refinement.{represents_part, Represents, HaveBounds}

-- ---- the same for each part: if a state represents rows, this list or number of the rows is that of the state

module _ (s : State) (w : Rows) (h : Represents s w) where
  pub bounds_are : HaveBounds s w
  unfolding represents_part
  bounds_are = h Bounds

  pub clients_are : w.clients ≡ clients_of s
  unfolding represents_part
  clients_are = h Clients

  pub masters_are : w.masters ≡ masters_of s
  unfolding represents_part
  masters_are = h Masters

  pub magics_are : SameRows w.magics (magics_of s)
  unfolding represents_part
  magics_are = h Magics

  pub holds_are : SameRows w.holds (holds_of s)
  unfolding represents_part
  holds_are = h Holds

  pub objects_are : w.objects ≡ objects_of s
  unfolding represents_part
  objects_are = h Objects

  pub names_are : SameRows w.names (names_of s)
  unfolding represents_part
  names_are = h Names

  pub tokens_are : SameRows w.tokens (tokens_of s)
  unfolding represents_part
  tokens_are = h Tokens

  pub grants_are : SameRows w.grants (grants_of s)
  unfolding represents_part
  grants_are = h Grants

  pub framebuffers_are : SameRows w.framebuffers (framebuffers_of s)
  unfolding represents_part
  framebuffers_are = h Framebuffers

  pub shown_are : SameRows w.shown (shown_of s)
  unfolding represents_part
  shown_are = h Shown

  pub device_master_is : w.device_master ≡ s.masters.device_master
  unfolding represents_part
  device_master_is = h DeviceMaster

  pub last_token_is : w.last_token ≡ last_token_of s
  unfolding represents_part
  last_token_is = h LastToken

  pub last_lease_token_is : w.last_lease_token ≡ last_lease_token_of s
  unfolding represents_part
  last_lease_token_is = h LastLeaseToken

-- ---- the same for each invariant: a state that meets all of them meets this one

module _ (s : State) (t : MeetsInvariants s) where
  pub members_open : AllByRecursion (λ (x : Member). is_open_client s.files x.client ≡ true) s.masters.members
  unfolding meets_invariant
  members_open = t MembersOpen

  pub clients_have : AllByRecursion (HasMaster s.masters) s.files.clients
  unfolding meets_invariant
  clients_have = t ClientsHave

  pub masters_so : AreMasters s.masters
  unfolding meets_invariant
  masters_so = t MastersAre

  pub leases_so : AreLeases s.leases
  unfolding meets_invariant
  leases_so = t LeasesAre

  pub tokens_of_lessees : AreOfLessees s.leases.tokens s.masters.masters
  unfolding meets_invariant
  tokens_of_lessees = t TokensOfLessees

  pub kept_have_tokens : AreKeptBy s.leases.tokens s.masters.masters
  unfolding meets_invariant
  kept_have_tokens = t KeptHaveTokens

  pub leases_agree : AreAgreed s.leases s.masters
  unfolding meets_invariant
  leases_agree = t LeasesAgree

  pub magics_suffice : s.masters.last_magic ≡ s.files.limit
  unfolding meets_invariant
  magics_suffice = t MagicsSuffice

  pub modes_so : AreModes s.modes
  unfolding meets_invariant
  modes_so = t ModesAre

  pub holds_rise : InOrder (λ (x y : FileHandle). handle_before x y ≡ true) s.files.holds
  unfolding meets_invariant
  holds_rise = t HoldsRise

  pub objects_counted : AreCounted (keys_of s.files.holds) (referring_keys s) s.objects.objects
  unfolding meets_invariant
  objects_counted = t ObjectsCounted

  pub names_held : AreNamed (keys_of s.files.holds) s.names.names
  unfolding meets_invariant
  names_held = t NamesHeld
