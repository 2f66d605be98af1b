-- What a client whose lease ended is still answered (drm-uapi, leases): nothing that describes a CRTC, a connector or a
-- plane.
use Rattle.std.specs.Prelude.{◌≡◌, ℕ, true, List, [], Some}
use Rattle.drm_table.specs.declared.answers.Answer.{Answer}
use Rattle.drm_table.specs.declared.answers.Answer.TheVariants.{Number, Resources, List as ListIs}
use Rattle.drm_table.specs.declared.calls.Call.{Call}
use Rattle.drm_table.specs.declared.calls.Call.TheVariants.{GetResources, GetCrtc, SetCrtc, GetEncoder, GetConnector, GetPlaneResources, GetPlane, SetPlane, CreateLease, GetLease}
use Rattle.drm_table.specs.declared.events.Event.{Event}
use Rattle.drm_table.specs.declared.events.Event.TheVariants.{Open, Ask, Close}
use Rattle.drm_history.specs.History.{AnsweredEvent}
use Rattle.drm_history.specs.Effects.{is_accepted}
use Rattle.drm_history.specs.MasterState.{master_in}
use Rattle.drm_history.specs.Lessees.{lessor_in, has_ended}

-- A call that is carried out names no CRTC, connector or plane, so it is none of those that look one up. Its lists have
-- none, and a mask is 0.
abbrev pub SeesNothing : Call → Answer → Type 0
SeesNothing (GetCrtc crtc) answer = ⊥
SeesNothing (SetCrtc crtc framebuffer connector) answer = ⊥
SeesNothing (GetConnector connector) answer = ⊥
SeesNothing (GetPlane plane) answer = ⊥
SeesNothing (SetPlane plane crtc framebuffer) answer = ⊥
SeesNothing (CreateLease ids) answer = ⊥
SeesNothing GetResources answer =
    (encoders : List ℕ) × (framebuffers : List ℕ) × (answer ≡ Resources [] [] encoders framebuffers)
SeesNothing GetPlaneResources answer = answer ≡ ListIs []
SeesNothing GetLease answer = answer ≡ ListIs []
SeesNothing (GetEncoder encoder) answer = answer ≡ Number 0
SeesNothing _ answer = Unit {0}

-- the step's call sees nothing if the client's master is a lessee whose lease ended
abbrev pub SeesNothingFor : Event → Answer → List AnsweredEvent → Type 0
SeesNothingFor (Ask c call) answer past =
    (m lessor : ℕ) → master_in past c ≡ Some m → lessor_in past m ≡ Some lessor → has_ended past m ≡ true → is_accepted
    answer ≡ true → SeesNothing call answer
SeesNothingFor (Open opening) answer past = Unit {0}
SeesNothingFor (Close c) answer past = Unit {0}

-- what a step answers a client of a lessee that some step ended before
abbrev pub KeepsSeeingNothing : AnsweredEvent → List AnsweredEvent → Type 0
KeepsSeeingNothing step past = SeesNothingFor step.event step.answer past
