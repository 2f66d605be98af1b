-- The effect of a step on masters, leases, authentication and capabilities, by its event and its answer alone (drm(7),
-- masters and magics; drm-uapi, leases, render nodes and client capabilities).
use Rattle.std.specs.Prelude.{ℕ, ◌==◌, Bool, true, false, List, [], ◌∷◌}
use Rattle.drm_table.specs.declared.answers.Answer.{Answer}
use Rattle.drm_table.specs.declared.answers.Answer.TheVariants.{Done, Opened, Number, Lease as LeaseIs, Closed, Denied}
use Rattle.drm_table.specs.declared.calls.Call.{Call}
use Rattle.drm_table.specs.declared.calls.Call.TheVariants.{GetMagic, SetClientCap, AuthMagic, SetMaster, DropMaster, CreateLease, RevokeLease}
use Rattle.drm_table.specs.declared.events.Event.{Event}
use Rattle.drm_table.specs.declared.events.Event.TheVariants.{Open, Ask, Close}
use Rattle.drm_table.specs.declared.events.Opening.{Opening}
use Rattle.drm_table.specs.declared.events.Opening.TheVariants.{Primary, Render, Lease}
use Rattle.drm_model.specs.ClientCapabilities.{ClientCapabilities, opening_capabilities}
use Rattle.drm_history.specs.History.{AnsweredEvent}

-- a denial, and each call that has no case here, has no effect
pub data Effect : Type 0 where
  Nothing : Effect
  OpensPrimary : (root : Bool) (capabilities : ClientCapabilities) → Effect
  OpensRender : Effect
  Redeems : (token : ℕ) (root : Bool) (capabilities : ClientCapabilities) → Effect
  Closes : (client : ℕ) → Effect
  GetsMagic : (client magic : ℕ) → Effect
  Authenticates : (client magic : ℕ) → Effect
  SetsMaster : (client : ℕ) → Effect
  SetsCapability : (client capability : ℕ) (on : Bool) → Effect
  DropsMaster : Effect
  Leases : (client : ℕ) (ids : List ℕ) (lessee token : ℕ) → Effect
  Revokes : (client lessee : ℕ) → Effect

-- the effect of an accepted opening
abbrev pub opening_effect : Opening → Effect
opening_effect (Primary root universal) = OpensPrimary root (opening_capabilities universal)
opening_effect Render = OpensRender
opening_effect (Lease token root universal) = Redeems token root (opening_capabilities universal)

-- the effect of a call, by its answer
abbrev pub call_effect : ℕ → Call → Answer → Effect
call_effect c GetMagic (Number magic) = GetsMagic c magic
call_effect c (AuthMagic magic) Done = Authenticates c magic
call_effect c SetMaster Done = SetsMaster c
call_effect c (SetClientCap cap value) Done = SetsCapability c cap (value == 1)
call_effect c DropMaster Done = DropsMaster
call_effect c (CreateLease ids) (LeaseIs lessee token) = Leases c ids lessee token
call_effect c (RevokeLease lessee) Done = Revokes c lessee
call_effect c _ _ = Nothing

-- the effect of an event, by its answer
abbrev pub effect_by : Event → Answer → Effect
effect_by (Open opening) (Opened client) = opening_effect opening
effect_by (Open opening) _ = Nothing
effect_by (Ask c call) answer = call_effect c call answer
effect_by (Close c) Closed = Closes c
effect_by (Close c) _ = Nothing

-- what the step did
unfoldable pub effect : AnsweredEvent → Effect
effect step = effect_by step.event step.answer

-- the step was carried out
abbrev pub is_accepted : Answer → Bool
is_accepted (Denied rule) = false
is_accepted _ = true

-- each step of a history is so, seen with all steps before it
unfoldable pub AllSteps : (AnsweredEvent → List AnsweredEvent → Type 0) → List AnsweredEvent → Type 0
AllSteps P [] = Unit {0}
AllSteps P (step ∷ past) = P step past × AllSteps P past
