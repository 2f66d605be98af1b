-- A lessee that gets a lease, or is released again where memory is refused.
use Rattle.std.proofs.Common.{◌≡◌, ℕ, ◌<◌, true, false, sym, ap, subst, ◌∙◌}
use Rattle.std.specs.Prelude.{Ok}
use Rattle.std.specs.Option.{is_some}
use Rattle.drm_masters.specs.Masters.{MasterSet, AreMasters, master_at, is_there, step_number_at, swept}
use Rattle.drm_masters.specs.Calls.{MadeLessee, with_kept}
use Rattle.drm_masters.proofs.Unmade.{made_there, unmade_by_key}

module _ (v : MasterSet) (are : AreMasters v) (m birth : ℕ) (made : ℕ × ℕ) (w : MasterSet) (h : MadeLessee v m birth (Ok made) w) (unused : is_some (master_at v.masters birth) ≡ false) (there : is_some (master_at v.masters m) ≡ true) (later : m < birth) where
  -- The key of the new lessee is in use.
  pub lessee_there : is_there w.masters made.0 ≡ true
  lessee_there =
      subst (λ (u : MasterSet). is_there u.masters made.0 ≡ true) (sym h.2)
      (made_there v are made.0 birth m made.1 unused there later h.0)

  -- The new lessee, released by its key, leaves the masters as before it was created.
  pub lessee_back : (u : MasterSet) → u ≡ swept (with_kept (step_number_at w.masters made.0) false w) → u ≡ v
  lessee_back u e =
      e ∙ ap (λ (u : MasterSet). swept (with_kept (step_number_at u.masters made.0) false u)) h.2
      ∙ unmade_by_key v are made.0 birth m made.1 unused there later h.0
