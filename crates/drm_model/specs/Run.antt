-- Whole runs, and the faults: a full journal and refused memory (the journal is this project's own).
use Rattle.std.specs.Prelude.{◌≡◌, ℕ, ◌+◌, ◌-◌, ◌<◌, ◌⊎◌, Bool, true, false, not, ◌&&◌, nat_lt, List, [], ◌∷◌, ◌++◌, length, None, Result, Ok, Err}
use Rattle.drm_table.specs.declared.answers.Answer.{Answer}
use Rattle.drm_table.specs.declared.apart.Apart.{Apart}
use Rattle.drm_table.specs.declared.apart.Apart.TheVariants.{JournalFull, NoMemory, Worn}
use Rattle.drm_table.specs.declared.events.Event.{Event}
use Rattle.drm_table.specs.declared.events.Event.TheVariants.{Open, Ask, Close}
use Rattle.drm_table.specs.declared.limits.Limits.{Limits}
use Rattle.drm_model.specs.Rows.{Rows, empty_rows, is_open}
use Rattle.drm_modes.specs.Topology.{Topology}
use Rattle.drm_model.specs.Verdict.{verdict}
use Rattle.drm_model.specs.Change.{changed, after}
use Rattle.drm_model.specs.Reply.{reply}

-- the places of the journal that no step has taken
abbrev pub places_left : Rows → ℕ
places_left w = w.limits.journal - w.steps

-- whether the journal has no place for the event: it keeps one for the closing of each open client, and one more
unfoldable pub no_room : Rows → Event → Bool
no_room w (Open opening) = nat_lt (places_left w) (length w.clients + 2)
no_room w (Ask c call) = nat_lt (places_left w) (length w.clients + 1)
no_room w (Close c) = not (is_open w c) && nat_lt (places_left w) (length w.clients + 1)

-- some list other than that of shown rows is longer
abbrev pub IsLonger : Rows → Rows → Type 0
IsLonger w v =
    (length w.clients < length v.clients) ⊎ (length w.masters < length v.masters) ⊎ (length w.magics < length v.magics)
    ⊎ (length w.holds < length v.holds) ⊎ (length w.objects < length v.objects) ⊎ (length w.names < length v.names)
    ⊎ (length w.tokens < length v.tokens) ⊎ (length w.grants < length v.grants) ⊎
    (length w.framebuffers < length v.framebuffers)

-- an accepted event that adds a row
unfoldable pub Growing : Rows → Event → Type 0
Growing w event = (verdict w event ≡ None) × IsLonger w (changed w event)

-- from w the device may answer the event so, and go on to v
unfoldable pub Step : Rows → Event → Result Answer Apart → Rows → Type 0
Step w event (Ok answer) v = (no_room w event ≡ false) × (answer ≡ reply w event) × (v ≡ after w event)
Step w event (Err JournalFull) v = (no_room w event ≡ true) × (v ≡ w)
Step w event (Err NoMemory) v = (no_room w event ≡ false) × Growing w event × (v ≡ w)
Step w event (Err Worn) v = ⊥

-- from w the device may answer the events so, one after another, and be at v then
unfoldable pub Answers : Rows → List Event → List (Result Answer Apart) → Rows → Type 0
Answers w [] [] v = v ≡ w
Answers w (event ∷ events) (result ∷ results) v = (u : Rows) × Step w event result u × Answers u events results v
Answers w [] (result ∷ results) v = ⊥
Answers w (event ∷ events) [] v = ⊥

-- the rows after events that were all carried out or denied
unfoldable pub run : Rows → List Event → Rows
run w [] = w
run w (event ∷ events) = run (after w event) events

-- each event of a run found room in the journal
unfoldable pub FoundRoom : Rows → List Event → Type 0
FoundRoom w [] = Unit {0}
FoundRoom w (event ∷ events) = (no_room w event ≡ false) × FoundRoom (after w event) events

-- the events that were recorded: those without a fault as result
abbrev pub journaled_events : List Event → List (Result Answer Apart) → List Event
journaled_events [] results = []
journaled_events (event ∷ events) [] = []
journaled_events (event ∷ events) (Ok answer ∷ results) = event ∷ journaled_events events results
journaled_events (event ∷ events) (Err apart ∷ results) = journaled_events events results

-- a device, as its contracts see it
pub record DeviceValue : Type 0 where
  pub topology : Topology
  pub limits : Limits
  pub journal : List Event

-- the history with one more event
abbrev pub journaled_in : DeviceValue → Event → DeviceValue
journaled_in h event = record h { journal = h.journal ++ event ∷ [] }

-- what a device starts from
abbrev pub start_of : DeviceValue → Rows
start_of h = empty_rows h.topology h.limits

-- the rows of a device: those of running its journal
unfoldable pub rows_of : DeviceValue → Rows
rows_of h = run (start_of h) h.journal
