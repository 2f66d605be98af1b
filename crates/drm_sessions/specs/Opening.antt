-- The opening that a hello requests, and its answers (own).
use Rattle.std.specs.Prelude.{ℕ, ◌==◌, Bool, true, false, Option, Some, None, Ok, Err, ⊤}
use Rattle.drm_table.specs.declared.events.Event.{Event}
use Rattle.drm_table.specs.declared.events.Event.TheVariants.{Open}
use Rattle.drm_table.specs.declared.events.Opening.{Opening}
use Rattle.drm_table.specs.declared.events.Opening.TheVariants.{Primary, Render as RenderNode, Lease}
use Rattle.drm_table.specs.declared.answers.Answer.TheVariants.{Opened, Denied}
use Rattle.drm_frames.specs.declared.hello.Hello.{Hello}
use Rattle.drm_frames.specs.Grammar.{FrameValue}
use Rattle.drm_frames.specs.Hellos.{hello_in}
use Rattle.drm_frames.specs.Answers.{CallResult}
use Rattle.drm_sessions.specs.declared.class.Class.{Class}
use Rattle.drm_sessions.specs.declared.class.Class.TheVariants.{Card, Render, Root}

-- An opening is answered by a client, a denial or a fault.
abbrev pub IsOpeningAnswer : CallResult → Type 0
IsOpeningAnswer (Ok (Opened client)) = ⊤
IsOpeningAnswer (Ok (Denied rule)) = ⊤
IsOpeningAnswer (Err apart) = ⊤
IsOpeningAnswer (Ok _) = ⊥

-- the same of any event: only an opening's answer is bound
abbrev pub AnswersOpening : Event → CallResult → Type 0
AnswersOpening (Open opening) outcome = IsOpeningAnswer outcome
AnswersOpening _ outcome = ⊤

-- A primary node, or what a lease token grants.
abbrev pub node_or_lease : Bool → Bool → Option ℕ → Opening
node_or_lease root universal None = Primary root universal
node_or_lease root universal (Some token) = Lease token root universal

-- the opening that a hello asks for on a listener of this class: version 1 with universal planes on, version 2 with them off
-- (own). A render listener has no leases
abbrev pub opening_for : Class → Bool → Option ℕ → Option Opening
opening_for Card universal lease = Some (node_or_lease false universal lease)
opening_for Root universal lease = Some (node_or_lease true universal lease)
opening_for Render universal None = Some RenderNode
opening_for Render universal (Some token) = None

-- the opening that a hello of a class requests, if there is one
abbrev pub opening_by : Class → Option Hello → Option Opening
opening_by class None = None
opening_by class (Some hello) = opening_for class (hello.version == 1) hello.lease

-- the opening that a first frame asks for, if it is a hello that the class allows
unfoldable pub opening_in : Class → FrameValue → Option Opening
opening_in class frame = opening_by class (hello_in frame)
