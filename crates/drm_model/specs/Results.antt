-- The results of a list of events if no memory is refused, computed (own).
use Rattle.std.specs.Prelude.{Bool, true, false, List, [], ◌∷◌, Result, Ok, Err}
use Rattle.drm_table.specs.declared.answers.Answer.{Answer}
use Rattle.drm_table.specs.declared.apart.Apart.{Apart}
use Rattle.drm_table.specs.declared.apart.Apart.TheVariants.{JournalFull}
use Rattle.drm_table.specs.declared.events.Event.{Event}
use Rattle.drm_model.specs.Rows.{Rows}
use Rattle.drm_model.specs.Change.{after}
use Rattle.drm_model.specs.Reply.{reply}
use Rattle.drm_model.specs.Run.{no_room}

-- the result where the journal has no room, and where it has
abbrev pub result_by : Bool → Rows → Event → Result Answer Apart
result_by true w event = Err JournalFull
result_by false w event = Ok (reply w event)

-- the rows after an event, unless it was answered by a fault
abbrev pub rows_by : Bool → Rows → Event → Rows
rows_by true w event = w
rows_by false w event = after w event

-- the results of a list of events
unfoldable pub results : Rows → List Event → List (Result Answer Apart)
results w [] = []
results w (event ∷ events) = result_by (no_room w event) w event ∷ results (rows_by (no_room w event) w event) events
