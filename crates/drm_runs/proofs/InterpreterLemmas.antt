-- One line of a script, from what the code made of it.
use Rattle.std.proofs.Common.{◌≡◌, ℕ, List, [], ◌∷◌, refl, sym, ap, subst, ◌∙◌, true, false, Some, None, Option, Result, Ok, Err, OnOk, OnErr}
use Rattle.std.specs.Option.{is_some}
use Rattle.drm_table.specs.declared.answers.Answer.{Answer}
use Rattle.drm_table.specs.declared.apart.Apart.{Apart}
use Rattle.drm_table.specs.declared.events.Event.{Event}
use Rattle.drm_table.specs.declared.limits.Limits.{Limits}
use Rattle.drm_model.specs.Run.{DeviceValue, Step, journaled_in, rows_of}
use Rattle.drm_script.specs.declared.commands.Command.{Command}
use Rattle.drm_script.specs.declared.reading.Reading.TheVariants as readings
use Rattle.drm_script.specs.Reading.{reading_of}
use Rattle.drm_runs.specs.Script.{Setting, Place, StepsOn, Uses, IsAt, IsNowhere, event_of, label_bound, empty_device, limited_to}
use Rattle.drm_runs.specs.Script.Place.{Made, Planned}
use Rattle.drm_runs.specs.Script.Uses.{limited, asked}
use Rattle.drm_runs.specs.Script.IsMisplaced.{late}
use Rattle.drm_runs.specs.Script.WantsDevice.{limits as wants_limits}
use Rattle.drm_runs.specs.Interpreter.{HasLimits, InterpreterState, Steps, Interprets, SetsLimits, device_made, place_of}
use Rattle.drm_runs.specs.declared.interpreter.LineResult.{LineResult}
use Rattle.drm_runs.specs.declared.interpreter.LineResult.TheVariants as results

-- A place with a device is at this device.
pub at_some : (d : Option DeviceValue) (p : Option Setting) (x : DeviceValue) → d ≡ Some x → IsAt (place_of d p) x
at_some d p x e = subst (λ o. IsAt (place_of o p) x) (sym e) refl

-- A place without a device, whose setting is known, is at the empty device of this setting.
pub at_none : (d : Option DeviceValue) (p : Option Setting) (s : Setting) (x : DeviceValue) → d ≡ None → p ≡ Some s
    → x ≡ empty_device s → IsAt (place_of d p) x
at_none d p s x e f h = subst (λ o. IsAt (place_of o p) x) (sym e) (subst (λ q. IsAt (place_of None q) x) (sym f) h)

-- A place without a device is nowhere.
pub nowhere : (d : Option DeviceValue) (p : Option Setting) → d ≡ None → IsNowhere (place_of d p)
nowhere d None e = subst (λ o. IsNowhere (place_of o None)) (sym e) tt
nowhere d (Some s) e = subst (λ o. IsNowhere (place_of o (Some s))) (sym e) tt

-- Without a device, no device was made.
pub not_made : (p : Option Setting) → device_made (place_of None p) ≡ None
not_made None = refl
not_made (Some s) = refl

-- A place at which no device was made has none.
pub unmade : (d : Option DeviceValue) (p : Option Setting) → device_made (place_of d p) ≡ None → d ≡ None
unmade None p h = refl
unmade (Some x) p h = absurd (let e : Some x ≡ None = h in cc)

-- A place without a device, whose setting is known, is planned with this setting.
pub planned_is : (d : Option DeviceValue) (p : Option Setting) (s : Setting) → d ≡ None → p ≡ Some s
    → place_of d p ≡ Planned s
planned_is d p s e f = ap (λ o. place_of o p) e ∙ ap (place_of None) f

-- A place with a device is made.
pub made_is : (d : Option DeviceValue) (p : Option Setting) (x : DeviceValue) → d ≡ Some x → place_of d p ≡ Made x
made_is d p x e = ap (λ o. place_of o p) e

-- The result of an event leaves the device with the event in its history or unchanged.
pub steps_on : (old new : DeviceValue) (event : Event) (r : Result Answer Apart)
    → Step (rows_of old) event r (rows_of new) → OnOk r (new ≡ journaled_in old event) → OnErr r (new ≡ old)
    → StepsOn old event r new
steps_on old new event (Ok answer) s h k = record { answered = s; journaled = h }
steps_on old new event (Err apart) s h k = record { answered = s; journaled = k }

-- the limits that are kept beside the device

-- A step leaves the limits of the device.
pub step_limits : (old new : DeviceValue) (event : Event) (r : Result Answer Apart)
    → OnOk r (new ≡ journaled_in old event) → OnErr r (new ≡ old) → new.limits ≡ old.limits
step_limits old new event (Ok answer) h k = ap (λ (x : DeviceValue). x.limits) h
step_limits old new event (Err apart) h k = ap (λ (x : DeviceValue). x.limits) k

-- The limits of a place stay those that were set, if the next device has them too.
pub limits_stay : (d : Option DeviceValue) (p : Option Setting) (limits : Limits) (x y : DeviceValue) → d ≡ Some x
    → HasLimits (place_of d p) limits → y.limits ≡ x.limits
    → HasLimits (Made y) limits
limits_stay d p limits x y e h s =
    let was : limits ≡ x.limits = subst (λ o. HasLimits (place_of o p) limits) e h in
    was ∙ sym s

-- The limits of a place are those that were set when its first device is made.
pub limits_begin : (d : Option DeviceValue) (p : Option Setting) (limits : Limits) (s : Setting) (x y : DeviceValue)
    → d ≡ None → p ≡ Some s → HasLimits (place_of d p) limits
    → x ≡ empty_device s → y.limits ≡ x.limits → HasLimits (Made y) limits
limits_begin d p limits s x y e f h n k =
    let planned : HasLimits (Planned s) limits =
    subst (λ q. HasLimits (place_of None q) limits) f (subst (λ o. HasLimits (place_of o p) limits) e h) in
    planned ∙ ap (λ (x : DeviceValue). x.limits) (sym n) ∙ sym k

-- An option that is not empty holds a device.
pub some_of : (d : Option DeviceValue) → is_some d ≡ true → (x : DeviceValue) × (d ≡ Some x)
some_of None h = absurd (cc)
some_of (Some x) h = (x, refl)

-- An option that holds no device is empty.
pub none_of : (d : Option DeviceValue) → is_some d ≡ false → d ≡ None
none_of None h = refl
none_of (Some x) h = absurd (cc)

-- a line of limits

-- A line of limits is interpreted as the setting of these limits.
pub sets_interprets : (old new : InterpreterState) (line : List ℕ) (limits : Limits) (result : LineResult) (answer : Result Answer Apart)
    → reading_of line ≡ Some (readings.Limits limits) → SetsLimits old new limits result
    → Interprets old new line result answer
sets_interprets old new line limits results.Unanswered answer h s =
    let made : Place = Made (empty_device (limited_to s.0 limits)) in
    let used : Uses old.device old.labels line [] made old.labels = limited s.1 h in
    subst (λ o. Uses old.device old.labels line [] o new.labels) (sym s.2)
    (subst (λ m. Uses old.device old.labels line [] made m) (sym s.3) used)
sets_interprets old new line limits results.Answered answer h s = absurd s
sets_interprets old new line limits (results.Malformed malformed) answer h s = (late s.1 h, s.2)
sets_interprets old new line limits results.NoMemory answer h s = (s.0, wants_limits h, s.1, s.2)

-- a line that asks the device

-- A line that asks the device is used with the device's answer.
pub uses_asked : (old new : InterpreterState) (line : List ℕ) (command : Command) (r : Result Answer Apart)
    → reading_of line ≡ Some (readings.Says command)
    → Steps old new (label_bound command) (event_of old.labels command) r
    → Uses old.device old.labels line (r ∷ []) new.device new.labels
uses_asked old new line command r h s =
    subst (λ o. Uses old.device old.labels line (r ∷ []) o new.labels) (sym s.device)
    (subst (λ m. Uses old.device old.labels line (r ∷ []) (Made s.after) m) (sym s.labels) (asked s.before h s.at s.step))
