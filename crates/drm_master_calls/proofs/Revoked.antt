-- The device without the leases of a master and of all below it.
use Rattle.std.proofs.Common.{◌≡◌, ℕ, Bool, Some, ◌∙◌}
use Rattle.drm_masters.specs.Masters as masters
use Rattle.drm_masters.specs.Masters.{MasterSet, AreMasters}
use Rattle.drm_masters.specs.Calls as calls
use Rattle.drm_leases.specs.Leases.{AreLeases}
use Rattle.drm_leases.specs.Calls as leases
use Rattle.drm_leases.proofs.Agreeing.{agreed_released}
use Rattle.drm_model.specs.Rows.{Rows}
use Rattle.drm_model.specs.Leases.{ended}
use Rattle.drm_model.specs.Change.{swept}
use Rattle.drm_model.specs.Parts.{Part, Masters, Objects, Names, Shown}
use Rattle.drm_state.specs.declared.state.State.{State}
use Rattle.drm_state.specs.Parts.{released, is_below, clients_of}
use Rattle.drm_state.specs.Invariants.{Invariant, MastersAre, LeasesAre, TokensOfLessees, KeptHaveTokens, LeasesAgree, meets_invariant, MeetsInvariants, AreKeptBy}
use Rattle.drm_state.specs.Refinement.{represents_part, Represents}
use Rattle.drm_state.proofs.Represented.{clients_are, masters_are, tokens_of_lessees, kept_have_tokens, leases_agree}
use Rattle.drm_state.proofs.Ended.{kept_ended, of_lessees_ended, kept_swept, of_lessees_swept, opened_released}
use Rattle.drm_state.proofs.StayingMasters.{swept_masters}
use Rattle.drm_state.proofs.Sweeps.{with_ended, ended_represents, named_by_clients, unswept}

module _ (s : State) (top : ℕ) where
  abbrev pub revoked : State
  revoked =
      record s
      { masters = masters.swept (calls.released (is_below (Some top) s.masters.masters) s.masters); leases = leases.ended s.masters.masters top s.leases }

  abbrev below : ℕ → Bool
  below = is_below (Some top) s.masters.masters

  -- To release the lessees of the taken tokens releases all that end.
  pub opened_below : MeetsInvariants s → (v : MasterSet)
      → v ≡ masters.swept (calls.released (leases.is_opened_under s.leases.tokens s.masters.masters top) s.masters)
      → v ≡ revoked.masters
  opened_below t v e =
      e
      ∙
      (λ i. masters.swept (record s.masters { masters = opened_released s.leases.tokens below s.masters.masters (kept_have_tokens s t) i }))

  module _ (t : MeetsInvariants s) (are : AreMasters revoked.masters) (leases_are : AreLeases revoked.leases) where
    kept : AreKeptBy revoked.leases.tokens (released below s.masters.masters)
    kept = kept_ended below s.leases.tokens s.masters.masters (kept_have_tokens s t)

    -- The end of a master's leases keeps all invariants.
    pub revoked_invariants : (invariant : Invariant) → meets_invariant invariant revoked
    unfolding meets_invariant
    revoked_invariants MastersAre = are
    revoked_invariants LeasesAre = leases_are
    revoked_invariants TokensOfLessees =
        of_lessees_swept s.masters.members revoked.leases.tokens (released below s.masters.masters) kept
        (of_lessees_ended below s.leases.tokens s.masters.masters (tokens_of_lessees s t))
    revoked_invariants KeptHaveTokens =
        kept_swept s.masters.members revoked.leases.tokens (released below s.masters.masters) kept
    revoked_invariants LeasesAgree =
        agreed_released below below (λ n e. e) s.masters.members s.masters.masters s.leases.lendings (leases_agree s t)
    revoked_invariants invariant = t invariant

    module _ (w : Rows) (h : Represents s w) where
      before : Represents (with_ended s below s.masters.device_master) (ended w top)
      before = ended_represents s w top h

      clients_yet : (ended w top).clients ≡ clients_of revoked
      unfolding ended
      clients_yet = clients_are s w h

      -- The state in which a master's leases ended represents the swept rows in which they did.
      pub revoked_represents : (part : Part) → represents_part part revoked (swept (ended w top))
      unfolding represents_part swept ended
      revoked_represents Masters =
          swept_masters (ended w top) revoked.leases.tokens (released below s.masters.masters) s.masters.members
          (masters_are (with_ended s below s.masters.device_master) (ended w top) before) kept
          (named_by_clients (ended w top) revoked revoked_invariants clients_yet)
      revoked_represents Objects = unswept s w t h Objects
      revoked_represents Names = unswept s w t h Names
      revoked_represents Shown = unswept s w t h Shown
      revoked_represents part = before part
