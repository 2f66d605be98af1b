-- The history of a device: each step that was recorded, with its event and its answer (own). The newest step is first,
-- so what follows a step is all that happened before it. The number of a step is one more than the number of those.
use Rattle.std.specs.Prelude.{ℕ, ◌+◌, List, [], ◌∷◌, ◌++◌, length, Result, Ok, Err}
use Rattle.drm_table.specs.declared.answers.Answer.{Answer}
use Rattle.drm_table.specs.declared.apart.Apart.{Apart}
use Rattle.drm_table.specs.declared.events.Event.{Event}
use Rattle.drm_model.specs.Rows.{Rows}
use Rattle.drm_model.specs.Change.{after}
use Rattle.drm_model.specs.Reply.{reply}
use Rattle.drm_model.specs.Run.{DeviceValue, start_of}

-- a step
pub record AnsweredEvent : Type 0 where
  pub event : Event
  pub answer : Answer

-- the number of the step that follows these
abbrev pub next_number : List AnsweredEvent → ℕ
next_number past = length past + 1

-- the steps before, with the steps of these events, from these rows on
unfoldable pub recorded : Rows → List AnsweredEvent → List Event → List AnsweredEvent
recorded w past [] = past
recorded w past (event ∷ events) = recorded (after w event) (record { event = event; answer = reply w event } ∷ past) events

-- the history of a device: its journal, and what running it answers
unfoldable pub history_of : DeviceValue → List AnsweredEvent
history_of h = recorded (start_of h) [] h.journal

-- the events of a history, in their order
unfoldable pub events_in : List AnsweredEvent → List Event
events_in [] = []
events_in (step ∷ past) = events_in past ++ step.event ∷ []

-- the steps before, with the steps of these events and results: those without a fault as result
unfoldable pub with_journaled : List AnsweredEvent → List Event → List (Result Answer Apart) → List AnsweredEvent
with_journaled past [] results = past
with_journaled past (event ∷ events) [] = past
with_journaled past (event ∷ events) (Ok answer ∷ results) =
    with_journaled (record { event = event; answer = answer } ∷ past) events results
with_journaled past (event ∷ events) (Err apart ∷ results) = with_journaled past events results
