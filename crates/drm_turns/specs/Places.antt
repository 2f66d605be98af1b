-- The place of a call's entry in the history, counted from 0 (own).
use Rattle.std.specs.Prelude.{◌≡◌, ℕ, List, [], ◌∷◌, ◌++◌, length, Option, Some, None, Result, Ok, Err, ⊤}
use Rattle.drm_table.specs.declared.answers.Answer.{Answer}
use Rattle.drm_table.specs.declared.apart.Apart.{Apart}
use Rattle.drm_table.specs.declared.events.Event.{Event}
use Rattle.drm_turns.specs.declared.history.Entry.{Entry}
use Rattle.drm_turns.specs.History.{entry}
use Rattle.drm_turns.specs.Participants.{ParticipantView}

-- An answer's entry is the next after these. A fault has no entry.
abbrev pub IsNext : List Entry → Result Answer Apart → Option ℕ → Type 0
IsNext seen (Ok answer) (Some place) = place ≡ length seen
IsNext seen (Ok answer) None = ⊥
IsNext seen (Err apart) (Some place) = ⊥
IsNext seen (Err apart) None = ⊤

-- The call's entry is the last of the history that the participant has seen then, and this many entries are before it. A
-- call without an entry has no place.
abbrev pub IsPlaced : ParticipantView → Event → Result Answer Apart → Option ℕ → ParticipantView → Type 0
IsPlaced s event (Ok answer) (Some place) t =
    (before : List Entry) × (t.seen ≡ before ++ entry s.number event answer ∷ []) × (length before ≡ place)
IsPlaced s event (Ok answer) None t = ⊥
IsPlaced s event (Err apart) (Some place) t = ⊥
IsPlaced s event (Err apart) None t = ⊤
