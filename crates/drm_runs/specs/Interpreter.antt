-- The use of one line of a script, and its result (own).
use Rattle.std.specs.Prelude.{◌≡◌, ℕ, List, [], ◌∷◌, Option, None, Some, Result}
use Rattle.drm_table.specs.declared.answers.Answer.{Answer}
use Rattle.drm_table.specs.declared.apart.Apart.{Apart}
use Rattle.drm_table.specs.declared.events.Event.{Event}
use Rattle.drm_table.specs.declared.limits.Limits.{Limits}
use Rattle.drm_model.specs.Run.{DeviceValue}
use Rattle.drm_runs.specs.Script.{Setting, Place, StepsOn, Uses, IsMisplaced, IsAt, IsNowhere, WantsDevice, bound, unbound, empty_device, limited_to}
use Rattle.drm_runs.specs.Script.Place.{Planned, Made, Refused}
use Rattle.drm_runs.specs.declared.interpreter.LineResult.{LineResult}
use Rattle.drm_runs.specs.declared.interpreter.LineResult.TheVariants as results

-- the device, and the clients that the labels name
pub record InterpreterState : Type 0 where
  pub device : Place
  pub labels : List ℕ

-- no device yet, and no label bound
abbrev pub at_start : Setting → InterpreterState
at_start setting = record { device = Planned setting; labels = unbound }

-- the device, if it exists
abbrev pub device_made : Place → Option DeviceValue
device_made (Planned setting) = None
device_made (Made device) = Some device
device_made Refused = None

-- the place of the device, by the device and its setup
abbrev pub place_of : Option DeviceValue → Option Setting → Place
place_of (Some device) planned = Made device
place_of None (Some setting) = Planned setting
place_of None None = Refused

-- the limits of the device, or those of its setup; any if memory for it was refused
abbrev pub HasLimits : Place → Limits → Type 0
HasLimits (Planned setting) limits = limits ≡ setting.limits
HasLimits (Made device) limits = limits ≡ device.limits
HasLimits Refused limits = Unit {0}

-- The result of a line. Either it was used, and its answer, if there is one, is in the place lent for it. Or it can't
-- be used, and the state is unchanged. Or memory for the device that it needs was refused, and there is none.
abbrev pub Interprets : InterpreterState → InterpreterState → List ℕ → LineResult → Result Answer Apart → Type 0
Interprets old new line results.Unanswered answer = Uses old.device old.labels line [] new.device new.labels
Interprets old new line results.Answered answer = Uses old.device old.labels line (answer ∷ []) new.device new.labels
Interprets old new line (results.Malformed malformed) answer = IsMisplaced old.device line × (new ≡ old)
Interprets old new line results.NoMemory answer =
    IsNowhere old.device × WantsDevice line × IsNowhere new.device × (new.labels ≡ old.labels)

-- the result of a line of limits
abbrev pub SetsLimits : InterpreterState → InterpreterState → Limits → LineResult → Type 0
SetsLimits old new limits results.Unanswered =
    (setting : Setting) × (old.device ≡ Planned setting) × (new.device ≡ Made (empty_device (limited_to setting limits))) × (new.labels ≡ old.labels)
SetsLimits old new limits results.Answered = ⊥
SetsLimits old new limits (results.Malformed malformed) = (made : DeviceValue) × (old.device ≡ Made made) × (new ≡ old)
SetsLimits old new limits results.NoMemory = IsNowhere old.device × IsNowhere new.device × (new.labels ≡ old.labels)

-- a step, and the label that its answer binds
pub record Steps (old new : InterpreterState) (binds : Option ℕ) (event : Event) (result : Result Answer Apart) : Type 0 where
  pub before : DeviceValue
  pub after : DeviceValue
  pub at : IsAt old.device before
  pub step : StepsOn before event result after
  pub device : new.device ≡ Made after
  pub labels : new.labels ≡ bound old.labels binds result

-- the result of an event that a line makes: the step was made, and its answer is in its place, or memory for the device
-- was refused
abbrev pub Asks : InterpreterState → InterpreterState → Option ℕ → Event → Option (Unit {0}) → Result Answer Apart
    → Type 0
Asks old new binds event (Some done) answer = Steps old new binds event answer
Asks old new binds event None answer = IsNowhere old.device × IsNowhere new.device × (new.labels ≡ old.labels)
