-- What SETCRTC and SETPLANE are, and which scanout they set.
use Rattle.std.proofs.Common.{◌≡◌, ℕ, ◌+◌, ◌-◌, ◌<◌, ◌==◌, Bool, true, false, not, ◌&&◌, ◌||◌, length, None, Some, refl, ◌∙◌, arith}
use Rattle.std.specs.Prelude.{if◌then◌else◌}
use Rattle.drm_table.specs.declared.calls.Call.TheVariants.{SetCrtc, SetPlane}
use Rattle.drm_table.specs.declared.events.Event.TheVariants.{Ask}
use Rattle.drm_table.specs.declared.rules.Rule.TheVariants.{NoModeObject}
use Rattle.drm_table.specs.Permit.{first_failing}
use Rattle.drm_modes.specs.Topology.{is_crtc, is_plane, reaches, drives}
use Rattle.drm_modes.specs.Modes.{can_show}
use Rattle.drm_modes.proofs.Fixed.{within}
use Rattle.drm_model.specs.Rows.{Rows}
use Rattle.drm_model.specs.Calls.{meaning}
use Rattle.drm_model.specs.Verdict.{verdict, admission_checks}
use Rattle.drm_state.specs.declared.state.State.{State}
use Rattle.drm_state.specs.declared.caller.PrimaryCaller.{PrimaryCaller}
use Rattle.drm_state.specs.Callers.{IsPrimaryCaller}
use Rattle.drm_state.specs.Invariants.{MeetsInvariants}
use Rattle.drm_state.specs.Refinement.{Represents}
use Rattle.drm_state.proofs.Represented.{modes_so}
use Rattle.drm_state.proofs.Refinements.{call_verdict}
use Rattle.drm_state.proofs.Seeing.{topology_is, crtc_seen, plane_seen, connector_seen}
use Rattle.drm_state.proofs.Scanouts.{may_show}
use Rattle.drm_mode_calls.specs.Scanout.{refusal, sees_route, is_route, sees_plane_route, is_plane_route}

-- ---- the first rule that fails

module _ (s : State) (w : Rows) (k : PrimaryCaller) (is : IsPrimaryCaller s k) (h : Represents s w) where
  -- MODE_SETCRTC is denied by the first rule that fails: of the objects seen, the framebuffer, and the route.
  pub crtc_verdict : (crtc f connector : ℕ)
      → first_failing (admission_checks w k.client (SetCrtc crtc f connector)) ≡ None →
      verdict w (Ask k.client (SetCrtc crtc f connector)) ≡ refusal (sees_route s k crtc connector) (can_show s.modes f)
      (is_route s crtc f connector)
  unfolding meaning
  crtc_verdict crtc f connector admitted =
      call_verdict w k.client (SetCrtc crtc f connector) admitted
      ∙
      (λ i. refusal (crtc_seen s w k is h crtc i && ((connector == 0) || connector_seen s w k is h connector i)) (may_show s w h f i) (if connector == 0 then f == 0 else not (f == 0) && reaches (topology_is s w h i) connector crtc))

  -- MODE_SETPLANE is denied by the first rule that fails: of the objects seen, the framebuffer, and the route.
  pub plane_verdict : (plane crtc f : ℕ) → first_failing (admission_checks w k.client (SetPlane plane crtc f)) ≡ None →
      verdict w (Ask k.client (SetPlane plane crtc f)) ≡ refusal (sees_plane_route s k plane crtc f)
      (can_show s.modes f) (is_plane_route s plane crtc f)
  unfolding meaning
  plane_verdict plane crtc f admitted =
      call_verdict w k.client (SetPlane plane crtc f) admitted
      ∙
      (λ i. refusal (plane_seen s w k is h plane i && ((f == 0) || crtc_seen s w k is h crtc i)) (may_show s w h f i) ((f == 0) || drives (topology_is s w h i) plane crtc))

-- If no rule of the route fails, the caller sees the objects.
pub seen_by : (seen there shows : Bool) → refusal seen there shows ≡ None → seen ≡ true
seen_by true there shows e = refl
seen_by false there shows e = absurd (let n : Some NoModeObject ≡ None = e in cc)

-- If three tests pass together, the first passes.
pub is_first : (a b d : Bool) → ((a && b) && d) ≡ true → a ≡ true
is_first true b d e = cc
is_first false b d e = absurd (let n : false ≡ true = e in cc)

-- ---- the scanout of a CRTC and of a plane

module _ (s : State) (t : MeetsInvariants s) (x : ℕ) where
  -- A CRTC has a place among the scan-out engines.
  pub crtc_place : is_crtc s.modes.topology x ≡ true → (x ≡ 1 + (x - 1)) × (x - 1 < length s.modes.scanouts)
  crtc_place is =
      let ends = within 1 s.modes.topology.crtcs x is in
      let scanouts = (modes_so s t).each_has_a_scanout in
      (omega (arith, ends.0), omega (arith, ends.0, ends.1, scanouts))

  -- A plane has a place among the scan-out engines.
  pub plane_place : is_plane s.modes.topology x ≡ true → (x ≡ 1 + (x - 1)) × (x - 1 < length s.modes.scanouts)
  plane_place is =
      let ends = within (s.modes.topology.crtcs + 1) (length s.modes.topology.planes) x is in
      let scanouts = (modes_so s t).each_has_a_scanout in
      (omega (arith, ends.0), omega (arith, ends.0, ends.1, scanouts))
