-- The effect of one call on the device when its ticket is served (own).
use Rattle.std.specs.Prelude.{◌≡◌, true, Result, Ok, Err, ⊤}
use Rattle.drm_table.specs.declared.answers.Answer.{Answer}
use Rattle.drm_table.specs.declared.apart.Apart.{Apart}
use Rattle.drm_table.specs.declared.apart.Apart.TheVariants.{JournalFull, NoMemory, Worn}
use Rattle.drm_table.specs.declared.events.Event.{Event}
use Rattle.drm_table.specs.Limits.{are_in_range}
use Rattle.drm_model.specs.Run.{DeviceValue, FoundRoom, Step, journaled_in, rows_of, start_of}

-- what is answered is recorded, and a fault leaves the device unchanged
abbrev pub history_after : DeviceValue → Event → Result Answer Apart → DeviceValue
history_after old event (Ok answer) = journaled_in old event
history_after old event (Err apart) = old

-- The device answered the event from its rows, which are those of its journal.
pub record DeviceSteps (old : DeviceValue) (event : Event) (result : Result Answer Apart) (new : DeviceValue) : Type 0 where
  pub step : Step (rows_of old) event result (rows_of new)
  pub history : new ≡ history_after old event result

-- The device answered the event in a turn, which left it so: its limits are in their ranges, and each event of its journal
-- found room.
pub record Turn (after : DeviceValue) (event : Event) (result : Result Answer Apart) : Type 0 where
  pub before : DeviceValue
  pub steps : DeviceSteps before event result after
  pub in_range : are_in_range after.limits ≡ true
  pub found_room : FoundRoom (start_of after) after.journal

-- What a call answers: what the device returned in a turn that left it so, or that there is no ticket for a turn.
abbrev pub Answered : DeviceValue → Event → Result Answer Apart → Type 0
Answered after event (Err Worn) = ⊤
Answered after event (Err JournalFull) = Turn after event (Err JournalFull)
Answered after event (Err NoMemory) = Turn after event (Err NoMemory)
Answered after event (Ok answer) = Turn after event (Ok answer)
