-- Histories of a shared device: what was asked, by the participant of which number, and what was answered (own).
use Rattle.std.specs.Prelude.{◌≡◌, ◌⊎◌, ℕ, ◌==◌, false, List, [], ◌∷◌, ◌++◌, cond}
use Rattle.drm_table.specs.declared.answers.Answer.{Answer}
use Rattle.drm_table.specs.declared.events.Event.{Event}
use Rattle.drm_model.specs.Rows.{Rows}
use Rattle.drm_model.specs.Change.{after}
use Rattle.drm_model.specs.Reply.{reply}
use Rattle.drm_model.specs.Run.{DeviceValue, no_room, rows_of, start_of}
use Rattle.drm_turns.specs.declared.history.Entry.{Entry}

-- an entry of a participant's number, an event and an answer
abbrev pub entry : ℕ → Event → Answer → Entry
entry by event answer = record { by = by; event = event; answer = answer }

-- Each event found room, and was answered as the device of one thread answers it there.
abbrev pub Legal : Rows → List Entry → Type 0
Legal w [] = Unit {0}
Legal w (e ∷ es) = (no_room w e.event ≡ false) × (e.answer ≡ reply w e.event) × Legal (after w e.event) es

-- the events of a history, in their order
abbrev pub events_of : List Entry → List Event
events_of [] = []
events_of (e ∷ es) = e.event ∷ events_of es

-- the events, each with the answer that the device of one thread returns, by no client
abbrev pub replayed : Rows → List Event → List Entry
replayed w [] = []
replayed w (e ∷ es) = entry 0 e (reply w e) ∷ replayed (after w e) es

-- what the device had recorded before it was shared
abbrev pub journaled_before : DeviceValue → List Entry
journaled_before origin = replayed (start_of origin) origin.journal

-- a legal history of a device with this topology and these limits
abbrev pub IsLegal : DeviceValue → List Entry → Type 0
IsLegal origin log = Legal (start_of origin) log

-- the device with this history
abbrev pub device_at : DeviceValue → List Entry → DeviceValue
device_at origin log = record origin { journal = events_of log }

-- the rows of the device after a history
abbrev pub rows_after : DeviceValue → List Entry → Rows
rows_after origin log = rows_of (device_at origin log)

-- the entries of one participant
abbrev pub calls_by : ℕ → List Entry → List Entry
calls_by n [] = []
calls_by n (e ∷ es) = cond (e.by == n) (e ∷ calls_by n es) (calls_by n es)

-- the history begins with what was seen
abbrev pub StartsWith : List Entry → List Entry → Type 0
StartsWith log seen = (rest : List Entry) × (log ≡ seen ++ rest)

-- numbers that differ from each other
abbrev pub Has : ℕ → List ℕ → Type 0
Has k [] = ⊥
Has k (x ∷ xs) = (k ≡ x) ⊎ Has k xs

-- no number occurs twice
abbrev pub AllDiffer : List ℕ → Type 0
AllDiffer [] = Unit {0}
AllDiffer (x ∷ xs) = (Has x xs → ⊥) × AllDiffer xs
