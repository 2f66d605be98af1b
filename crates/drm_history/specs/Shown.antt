-- Which capabilities a client has on, by the history alone, and what a client with universal planes off is not shown
-- (drm-uapi, client capabilities).
use Rattle.std.specs.Prelude.{◌≡◌, ℕ, ◌==◌, Bool, true, false, List, [], ◌∷◌, if◌then◌else◌}
use Rattle.std.specs.List.{AllByRecursion}
use Rattle.drm_table.specs.declared.answers.Answer.{Answer}
use Rattle.drm_table.specs.declared.answers.Answer.TheVariants.{List as ListIs}
use Rattle.drm_table.specs.declared.calls.Call.{Call}
use Rattle.drm_table.specs.declared.calls.Call.TheVariants.{GetPlaneResources, GetPlane, SetPlane}
use Rattle.drm_table.specs.declared.events.Event.{Event}
use Rattle.drm_table.specs.declared.events.Event.TheVariants.{Open, Ask, Close}
use Rattle.drm_modes.specs.Topology.{Topology, is_primary_or_cursor}
use Rattle.drm_model.specs.ClientCapabilities.{ClientCapabilities, no_capabilities, opening_capabilities, with_capability}
use Rattle.drm_history.specs.History.{AnsweredEvent, next_number}
use Rattle.drm_history.specs.Effects.{Effect, OpensPrimary, OpensRender, Redeems, SetsCapability, effect, is_accepted}

-- the capabilities that a client has on, after a step
abbrev pub capabilities_by : Effect → ℕ → ℕ → ClientCapabilities → ClientCapabilities
capabilities_by (OpensPrimary root capabilities) number c older = if number == c then capabilities else older
capabilities_by OpensRender number c older = if number == c then opening_capabilities true else older
capabilities_by (Redeems token root capabilities) number c older = if number == c then capabilities else older
capabilities_by (SetsCapability client capability on) number c older = if client == c then with_capability capability on older else older
capabilities_by _ number c older = older

-- the capabilities that a client has on: each by the last SET_CLIENT_CAP of it that was carried out, else by the
-- client's opening
unfoldable pub capabilities_in : List AnsweredEvent → ℕ → ClientCapabilities
capabilities_in [] c = no_capabilities
capabilities_in (step ∷ past) c = capabilities_by (effect step) (next_number past) c (capabilities_in past c)

-- whether a client has universal planes on
abbrev pub is_universal_in : List AnsweredEvent → ℕ → Bool
is_universal_in history c = (capabilities_in history c).universal_planes

-- a call that is carried out names no plane but an overlay plane, and the list of planes has none
abbrev pub ShowsOverlays : Topology → Call → Answer → Type 0
ShowsOverlays t (GetPlane plane) answer = is_primary_or_cursor t plane ≡ false
ShowsOverlays t (SetPlane plane crtc framebuffer) answer = is_primary_or_cursor t plane ≡ false
ShowsOverlays t GetPlaneResources (ListIs planes) = AllByRecursion (λ x. is_primary_or_cursor t x ≡ false) planes
ShowsOverlays t _ answer = Unit {0}

-- the step's answer has only overlay planes if its client has universal planes off
abbrev pub OverlaysFor : Topology → Event → Answer → List AnsweredEvent → Type 0
OverlaysFor t (Ask c call) answer past =
    is_universal_in past c ≡ false → is_accepted answer ≡ true → ShowsOverlays t call answer
OverlaysFor t (Open opening) answer past = Unit {0}
OverlaysFor t (Close c) answer past = Unit {0}

-- what a step answers a client that had universal planes off before it
abbrev pub KeepsToOverlays : Topology → AnsweredEvent → List AnsweredEvent → Type 0
KeepsToOverlays t step past = OverlaysFor t step.event step.answer past
