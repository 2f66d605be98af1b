-- A history has the events of its journal, and the answers that they got.
use Rattle.std.proofs.Common.{◌≡◌, List, [], ◌∷◌, ◌++◌, Result, Ok, Err, refl, sym, ◌∙◌, ap}
use Rattle.std.proofs.lemmas.List.{append_assoc, append-nil}
use Rattle.drm_table.specs.declared.answers.Answer.{Answer}
use Rattle.drm_table.specs.declared.apart.Apart.{Apart}
use Rattle.drm_table.specs.declared.apart.Apart.TheVariants.{JournalFull, NoMemory, Worn}
use Rattle.drm_table.specs.declared.events.Event.{Event}
use Rattle.drm_model.specs.Rows.{Rows}
use Rattle.drm_model.specs.Change.{after}
use Rattle.drm_model.specs.Reply.{reply}
use Rattle.drm_model.specs.Run.{DeviceValue, Step, Answers, journaled_in, journaled_events, run, rows_of, start_of}
use Rattle.drm_history.specs.History.{AnsweredEvent, recorded, history_of, events_in, with_journaled}

recorded_events : (w : Rows) (past : List AnsweredEvent) (events : List Event) → events_in (recorded w past events) ≡ events_in past ++ events
unfolding recorded events_in
recorded_events w past [] = sym (append-nil (events_in past))
recorded_events w past (event ∷ events) =
    recorded_events (after w event) (record { event = event; answer = reply w event } ∷ past) events ∙ append_assoc (events_in past) (event ∷ []) events

-- The events of a history are those of its journal, in their order.
pub events_of_journal : (h : DeviceValue) → events_in (history_of h) ≡ h.journal
unfolding history_of events_in
events_of_journal h = recorded_events (start_of h) [] h.journal

recorded_more : (w : Rows) (past : List AnsweredEvent) (events : List Event) (event : Event) → recorded w past (events ++ event ∷ []) ≡ record { event = event; answer = reply (run w events) event } ∷ recorded w past events
unfolding recorded run
recorded_more w past [] event = refl
recorded_more w past (e ∷ es) event = recorded_more (after w e) (record { event = e; answer = reply w e } ∷ past) es event

-- The history with one more event has that event and its answer as the newest step.
pub history_grows : (h : DeviceValue) (event : Event)
    → history_of (journaled_in h event) ≡ record { event = event; answer = reply (rows_of h) event } ∷ history_of h
unfolding history_of rows_of
history_grows h event = recorded_more (start_of h) [] h.journal event

-- whatever was answered to the events
recorded_answers : (w : Rows) (past : List AnsweredEvent) (events : List Event) (results : List (Result Answer Apart)) (v : Rows) → Answers w events results v → with_journaled past events results ≡ recorded w past (journaled_events events results)
unfolding Answers Step with_journaled recorded
recorded_answers w past [] [] v h = refl
recorded_answers w past (e ∷ es) (Ok a ∷ rs) v h =
    recorded_answers h.0 (record { event = e; answer = a } ∷ past) es rs v h.2
    ∙ (λ i. recorded (h.1.2 i) (record { event = e; answer = h.1.1 i } ∷ past) (journaled_events es rs))
recorded_answers w past (e ∷ es) (Err JournalFull ∷ rs) v h = recorded_answers h.0 past es rs v h.2 ∙ ap (λ u. recorded u past (journaled_events es rs)) h.1.1
recorded_answers w past (e ∷ es) (Err NoMemory ∷ rs) v h = recorded_answers h.0 past es rs v h.2 ∙ ap (λ u. recorded u past (journaled_events es rs)) h.1.2
recorded_answers w past (e ∷ es) (Err Worn ∷ rs) v h = absurd h.1
recorded_answers w past [] (r ∷ rs) v h = absurd h
recorded_answers w past (e ∷ es) [] v h = absurd h

-- A device whose journal has the recorded events of a run has the history of this run.
pub history_of_answers : (h : DeviceValue) (events : List Event) (results : List (Result Answer Apart)) (v : Rows)
    → Answers (start_of h) events results v → h.journal ≡ journaled_events events results
    → history_of h ≡ with_journaled [] events results
unfolding history_of
history_of_answers h events results v answers journal =
    ap (recorded (start_of h) []) journal ∙ sym (recorded_answers (start_of h) [] events results v answers)
