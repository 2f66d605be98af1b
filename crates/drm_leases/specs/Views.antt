-- What a client sees of the fixed mode objects, by what its master controls (drm-uapi, leases and universal planes).
use Rattle.std.specs.Prelude.{◌≡◌, ℕ, Bool, true, List}
use Rattle.drm_modes.specs.LeaseRules as rules
use Rattle.drm_modes.specs.Topology.{Topology}
use Rattle.drm_masters.specs.declared.rows.Master.{Master}
use Rattle.drm_leases.specs.declared.rows.Grant.{Grant}
use Rattle.drm_leases.specs.declared.views.Controlled.{Controlled}
use Rattle.drm_leases.specs.declared.views.Controlled.TheVariants.{All, Lease}
use Rattle.drm_leases.specs.declared.views.View.{View}
use Rattle.drm_leases.specs.Leases.{controls}
use Rattle.drm_leases.specs.Masks.{has_object}

-- whether a mode object is among those that a master controls
abbrev pub is_controlled : Controlled → ℕ → Bool
is_controlled All x = true
is_controlled (Lease objects) x = has_object objects x

-- These are the mode objects that the master controls.
abbrev pub AreControlled : List Grant → List Master → ℕ → Controlled → Type 0
AreControlled grants masters m controlled = (x : ℕ) → is_controlled controlled x ≡ controls grants masters m x

-- whether a client sees a fixed mode object
abbrev pub is_in_view : Topology → View → ℕ → Bool
is_in_view t view x = rules.sees t (is_controlled view.controlled x) view.universal x
