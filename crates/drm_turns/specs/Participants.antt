-- The value of a participant and of a note that contracts see (own).
use Rattle.std.specs.Prelude.{◌≡◌, ℕ, ◌-◌, ◌<◌, ◌^◌, true, false, List, [], ◌∷◌, ◌++◌, map, Result, Ok, Err, slice_index}
use Rattle.std.specs.List.{AllByRecursion}
use mathlib.Core.Option.{some}
use lib.ListN.{get_elem?}
use Rattle.atomic_table.specs.Seated.{TableId}
use Rattle.drm_table.specs.declared.answers.Answer.{Answer}
use Rattle.drm_table.specs.declared.apart.Apart.{Apart}
use Rattle.drm_table.specs.declared.apart.Apart.TheVariants.{JournalFull, NoMemory, Worn}
use Rattle.drm_table.specs.declared.events.Event.{Event}
use Rattle.drm_model.specs.Run.{Growing, DeviceValue, no_room}
use Rattle.drm_turns.specs.declared.history.Entry.{Entry}
use Rattle.drm_turns.specs.declared.history.View.{View}
use Rattle.drm_turns.specs.declared.history.Stage.TheVariants.{Idle}
use Rattle.drm_turns.specs.History.{AllDiffer, IsLegal, StartsWith, calls_by, device_at, entry, rows_after}
use Rattle.drm_turns.specs.Rule.{Table, IsHeld, Orderly, serving_word}

-- A participant:
--
-- - the shared device that it is of, and the device's value when it was shared
-- - its own number, and the number of the participant that it was split off, 0 for the first participant
-- - the number of participants and notes that were split off it and are not returned to it
-- - the history that it has seen, and of it the entries that it made
-- - the numbers that were merged into it
-- - the number of tickets that it drew and of entries that it made, each with those of the participants that were
--   merged into it
-- - the number that it last found in TICKET
pub record ParticipantView : Type 0 where
  pub table : TableId
  pub number : ℕ
  pub parent : ℕ
  pub outstanding : ℕ
  pub origin : DeviceValue
  pub seen : List Entry
  pub mine : List Entry
  pub merged : List ℕ
  pub drawn : ℕ
  pub journaled : ℕ
  pub found : ℕ

-- A note: what a participant had seen, and that participant's number.
pub record Witness : Type 0 where
  pub table : TableId
  pub parent : ℕ
  pub origin : DeviceValue
  pub seen : List Entry

-- nothing but what was seen and made differs
abbrev pub Same : ParticipantView → ParticipantView → Type 0
Same s t = (t.table ≡ s.table) × (t.number ≡ s.number) × (t.origin ≡ s.origin)

-- The participant is split off the same participant, and as many are out of it.
abbrev pub Unchanged : ParticipantView → ParticipantView → Type 0
Unchanged s t = (t.parent ≡ s.parent) × (t.outstanding ≡ s.outstanding)

-- the participant, of which this many are out
abbrev pub with_outstanding : ParticipantView → ℕ → ParticipantView
with_outstanding participant outstanding = record participant { outstanding = outstanding }

-- The participant's history is legal, begins with what it had seen, and has of the participant's entries just those that it made.
abbrev pub Extends : ParticipantView → ParticipantView → Type 0
Extends s t = Same s t × StartsWith t.seen s.seen × IsLegal t.origin t.seen × (calls_by t.number t.seen ≡ t.mine)

-- The entry ends the new history, after what others did while the participant waited, and is one more of the
-- participant's.
abbrev pub Commits : ParticipantView → Event → Answer → ParticipantView → Type 0
Commits s event answer t = (between : List Entry)
    × (t.seen ≡ (s.seen ++ between) ++ entry s.number event answer ∷ [])
    × (t.mine ≡ s.mine ++ entry s.number event answer ∷ [])
    × (t.found < 2 ^ 64 - 1)

-- Why the event was not carried out. No ticket is left exactly if the last number was found.
abbrev pub Aborts : ParticipantView → Event → Apart → ParticipantView → Type 0
Aborts s event JournalFull t = (t.mine ≡ s.mine) × (t.found < 2 ^ 64 - 1)
    × (no_room (rows_after t.origin t.seen) event ≡ true)
Aborts s event NoMemory t = (t.mine ≡ s.mine) × (t.found < 2 ^ 64 - 1)
    × (no_room (rows_after t.origin t.seen) event ≡ false) × Growing (rows_after t.origin t.seen) event
Aborts s event Worn t = (t.mine ≡ s.mine) × (t.seen ≡ s.seen) × (t.found ≡ 2 ^ 64 - 1)

-- how many entries a call adds
abbrev pub entries_of : Result Answer Apart → ℕ
entries_of (Ok answer) = 1
entries_of (Err apart) = 0

-- how many tickets a call draws
abbrev pub tickets_of : Result Answer Apart → ℕ
tickets_of (Err Worn) = 0
tickets_of _ = 1

-- The device has the events of a legal history that begins with what the participant had seen, and has of the participant's entries just
-- those that it made.
abbrev pub Closes : ParticipantView → DeviceValue → Type 0
Closes s device = (log : List Entry) × (device ≡ device_at s.origin log) × IsLegal s.origin log × StartsWith log s.seen
    × (calls_by s.number log ≡ s.mine)

-- A ticket was drawn that was not passed on. In a state that the rule of the turn allows, where this participant is,
-- some participant has the ticket that is served.
abbrev pub IsTurnOut : ParticipantView → Type 0
IsTurnOut s = (state : Table) × Orderly state
    ×
    ((id : ℕ) × (v : View) × (get_elem? state.views id ≡ some v) × (v.stage ≡ Idle) × (v.number ≡ s.number) × (v.outstanding ≡ s.outstanding) × (v.seen ≡ s.seen))
    × IsHeld state.views (slice_index state.words serving_word)

-- ---- participants that are split off and taken in

-- A participant that was split off this one, and has made nothing yet.
pub record IsSplitOff (participant child : ParticipantView) : Type 0 where
  pub table : child.table ≡ participant.table
  pub origin : child.origin ≡ participant.origin
  pub mine : child.mine ≡ []
  pub merged : child.merged ≡ []
  pub journaled : child.journaled ≡ 0

-- A participant that was split off this one itself, and of which none is out.
pub record IsChild (participant child : ParticipantView) : Type 0 where
  pub parent : child.parent ≡ participant.number
  pub outstanding : child.outstanding ≡ 0

-- The participant has seen what the other had seen. There the entries of the other's number are those that it made.
pub record HasSeen (participant other : ParticipantView) : Type 0 where
  pub seen : StartsWith participant.seen other.seen
  pub own : calls_by other.number other.seen ≡ other.mine

-- the numbers of participants
abbrev pub numbers_of : List ParticipantView → List ℕ
numbers_of participants = map (λ participant. participant.number) participants

-- The participant has taken in these, in their order, and no others.
pub record HasTakenIn (participant : ParticipantView) (others : List ParticipantView) : Type 0 where
  pub seen : AllByRecursion (HasSeen participant) others
  pub merged : participant.merged ≡ numbers_of others
  pub differ : AllDiffer participant.merged
