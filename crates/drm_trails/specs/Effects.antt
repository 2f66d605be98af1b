-- The effect of a step, as code has it (own). The ids of a lease's mode objects are not part of it: they are in the
-- step.
use Rattle.std.specs.Prelude.{ℕ, Bool, true, false, List, []}
use Rattle.drm_table.specs.declared.answers.Answer.{Answer}
use Rattle.drm_table.specs.declared.answers.Answer.TheVariants.{Done, Opened, Lease}
use Rattle.drm_table.specs.declared.calls.Call.TheVariants.{CreateLease}
use Rattle.drm_table.specs.declared.events.Event.{Event}
use Rattle.drm_table.specs.declared.events.Event.TheVariants.{Ask}
use Rattle.drm_model.specs.ClientCapabilities.{opening_capabilities}
use Rattle.drm_history.specs.Effects as told
use Rattle.drm_trails.specs.declared.effects.Effect.{Effect}
use Rattle.drm_trails.specs.declared.effects.Effect.TheVariants as effects

-- the effect of the definitions, with these ids in a lease
abbrev pub effect_of : List ℕ → Effect → told.Effect
effect_of ids effects.Nothing = told.Nothing
effect_of ids (effects.OpensPrimary root universal) = told.OpensPrimary root (opening_capabilities universal)
effect_of ids effects.OpensRender = told.OpensRender
effect_of ids (effects.Redeems token root universal) = told.Redeems token root (opening_capabilities universal)
effect_of ids (effects.Closes client) = told.Closes client
effect_of ids (effects.GetsMagic client magic) = told.GetsMagic client magic
effect_of ids (effects.Authenticates client magic) = told.Authenticates client magic
effect_of ids (effects.SetsMaster client) = told.SetsMaster client
effect_of ids (effects.SetsCapability client capability on) = told.SetsCapability client capability on
effect_of ids effects.DropsMaster = told.DropsMaster
effect_of ids (effects.Leases client lessee token) = told.Leases client ids lessee token
effect_of ids (effects.Revokes client lessee) = told.Revokes client lessee

-- the mode objects that a step leases
abbrev pub leased_by : Event → Answer → List ℕ
leased_by (Ask client (CreateLease ids)) (Lease lessee token) = ids
leased_by event answer = []

-- the effect if the call is done, else none
abbrev pub if_done : Answer → told.Effect → told.Effect
if_done Done effect = effect
if_done _ effect = told.Nothing

-- whether a client was opened
abbrev pub is_opened : Answer → Bool
is_opened (Opened client) = true
is_opened _ = false
