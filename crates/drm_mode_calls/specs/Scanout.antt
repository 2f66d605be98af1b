-- The rules of SETCRTC and SETPLANE, by the device's parts (drm-uapi, kernel mode setting).
use Rattle.std.specs.Prelude.{ℕ, ◌==◌, Bool, ◌&&◌, ◌||◌, [], ◌∷◌, Option}
use Rattle.drm_table.specs.declared.rules.Rule.{Rule}
use Rattle.drm_table.specs.declared.rules.Rule.TheVariants.{NoModeObject, NoFb, BadRoute}
use Rattle.drm_table.specs.Permit.{check, first_failing}
use Rattle.drm_modes.specs.declared.kinds.Kind.TheVariants.{Crtc, Plane, Connector}
use Rattle.drm_modes.specs.Topology as topology
use Rattle.drm_modes.specs.Modes.{can_show}
use Rattle.drm_state.specs.declared.state.State.{State}
use Rattle.drm_state.specs.declared.caller.PrimaryCaller.{PrimaryCaller}
use Rattle.drm_state.specs.Seeing.{sees_object}

-- the first rule that fails
abbrev pub refusal : Bool → Bool → Bool → Option Rule
refusal seen there shows = first_failing (check NoModeObject seen ∷ check NoFb there ∷ check BadRoute shows ∷ [])

-- whether the caller sees the CRTC, and the connector unless that is 0
abbrev pub sees_route : State → PrimaryCaller → ℕ → ℕ → Bool
sees_route s k crtc connector = sees_object s k Crtc crtc && ((connector == 0) || sees_object s k Connector connector)

-- a framebuffer with a connector that the CRTC reaches, or neither
abbrev pub is_route : State → ℕ → ℕ → ℕ → Bool
is_route s crtc f connector = topology.is_route s.modes.topology crtc f connector

-- whether the caller sees the plane, and the CRTC unless the plane becomes dark
abbrev pub sees_plane_route : State → PrimaryCaller → ℕ → ℕ → ℕ → Bool
sees_plane_route s k plane crtc f = sees_object s k Plane plane && ((f == 0) || sees_object s k Crtc crtc)

-- whether the plane can be shown on the CRTC, or becomes dark
abbrev pub is_plane_route : State → ℕ → ℕ → ℕ → Bool
is_plane_route s plane crtc f = topology.is_plane_route s.modes.topology plane crtc f

-- the first rule of SETCRTC that fails, and that of SETPLANE
abbrev pub crtc_refusal : State → PrimaryCaller → ℕ → ℕ → ℕ → Option Rule
crtc_refusal s k crtc f connector =
    refusal (sees_route s k crtc connector) (can_show s.modes f) (is_route s crtc f connector)

-- the first rule of SETPLANE that fails, if one does
abbrev pub plane_refusal : State → PrimaryCaller → ℕ → ℕ → ℕ → Option Rule
plane_refusal s k plane crtc f =
    refusal (sees_plane_route s k plane crtc f) (can_show s.modes f) (is_plane_route s plane crtc f)
