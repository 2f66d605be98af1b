-- What each step says: of the step, the participant before, the number found and the participant after (own).
use Rattle.std.specs.Prelude.{◌≡◌, ◌≢◌, ℕ, List, [], ◌∷◌, Some, length}
use Rattle.atomic_table.specs.Table.{Step, rest}
use Rattle.drm_turns.specs.declared.history.Entry.{Entry}
use Rattle.drm_turns.specs.declared.history.View.{View}
use Rattle.drm_turns.specs.History.{AllDiffer, IsLegal, StartsWith, calls_by, device_at}
use Rattle.drm_turns.specs.Views.{counted, found_at, informed, numbered, passed, serving, waiting}
use Rattle.drm_turns.specs.Rule.{Slot, Sat}

-- a step of a participant
abbrev pub Play : Type 1
Play = Step Slot → Sat → ℕ → Sat → Type 0

-- the history so far, which begins with all that was seen and reported, and in which the participant's own entries are
-- those that it made
abbrev pub Reads : View → List Entry → Type 0
Reads v seen =
    StartsWith seen v.seen × StartsWith seen v.told × IsLegal v.origin seen ×
    (v.number ≢ 0 → calls_by v.number seen ≡ v.mine)

-- the next ticket is as many as the first participant drew, where none is out of it
abbrev pub finds : Play
finds st m r n = (n ≡ (found_at m.0 r, m.1)) × (m.0.number ≡ 1 → m.0.outstanding ≡ 0 → r ≡ m.0.drawn)

-- draws a ticket
abbrev pub draws : Play
draws st m r n = (r ≡ st.first → n ≡ (waiting m.0 st.first, m.1)) × (r ≢ st.first → n ≡ m)

-- the participant is served, and has the device, with the history for its journal
abbrev pub IsServed : Sat → Sat → Type 0
IsServed m n =
    (seen : List Entry) × (n ≡ (serving m.0 seen, (0, Some (device_at m.0.origin seen)) ∷ m.1)) × Reads m.0 seen

-- looks at the ticket that is served
abbrev pub looks : Play
looks st m r n = (r ≡ m.0.ticket → IsServed m n) × (r ≢ m.0.ticket → n ≡ m)

-- counts an entry, whose place is the number found
abbrev pub counts : Entry → Play
counts e st m r n = (n ≡ (counted m.0 e, m.1)) × (r ≡ length m.0.seen)

-- passes the turn on
abbrev pub passes : Play
passes st m r n = n ≡ (passed m.0, rest m.1)

-- a new participant learns its number
abbrev pub IsNumbered : Sat → Sat → Type 0
IsNumbered m n =
    (number : ℕ) × (n ≡ (numbered m.0 number, m.1)) × (number ≢ 0) × (number ≢ m.0.parent) ×
    (m.0.mine ≡ [] → calls_by number m.0.seen ≡ [])

-- sets the number of a new participant
abbrev pub settles : Play
settles st m r n = IsNumbered m n

-- the participant has seen the history
abbrev pub IsInformed : Sat → Sat → Type 0
IsInformed m n =
    (seen : List Entry) × (n ≡ (informed m.0 seen, m.1)) × Reads m.0 seen ×
    (m.0.number ≢ 0 → AllDiffer (m.0.number ∷ m.0.kept))

-- reads the history
abbrev pub learns : Play
learns st m r n = IsInformed m n
