-- The rule of the turn (own). Three words are in use: the length of the history, the next ticket, and the ticket that is served.
use Rattle.std.specs.Prelude.{◌≡◌, ◌≢◌, ◌⊎◌, ℕ, suc, ◌+◌, ◌<◌, ◌≤◌, ◌^◌, Bool, true, false, List, [], ◌∷◌, length, Option, Some}
use mathlib.Core.Option.{Option as maybe, some}
use lib.ListN.{get_elem?}
use Rattle.atomic_table.specs.Table.{State, Me}
use Rattle.drm_model.specs.Run.{DeviceValue}
use Rattle.drm_turns.specs.declared.history.Entry.{Entry}
use Rattle.drm_turns.specs.declared.history.View.{View}
use Rattle.drm_turns.specs.declared.history.Stage.{Stage}
use Rattle.drm_turns.specs.declared.history.Stage.TheVariants.{Idle, Waiting, Serving, Spent}
use Rattle.drm_turns.specs.History.{AllDiffer, Has, IsLegal, StartsWith, calls_by, device_at}

-- the slot of the device
abbrev pub Slot : Type 0
Slot = Option DeviceValue

-- the number of the word of the next ticket
abbrev pub ticket_word : ℕ
ticket_word = 1

-- the number of the word of the ticket that is served
abbrev pub serving_word : ℕ
serving_word = 2

-- All words: the length of the history, then the two of tickets. The others are always 0, and only keep these three away
-- from what follows in memory.
abbrev pub words_of : ℕ → ℕ → ℕ → List ℕ
words_of count next serving =
    count ∷ next ∷ serving ∷ 0 ∷ 0 ∷ 0 ∷ 0 ∷ 0 ∷ 0 ∷ 0 ∷ 0 ∷ 0 ∷ 0 ∷ 0 ∷ 0 ∷ 0 ∷ []

-- the state of the table
abbrev pub Table : Type 0
Table = State Slot View

-- a participant's place in the table
abbrev pub Sat : Type 0
Sat = Me Slot View

-- the facts after the words: the whole history, the next ticket, the ticket that is served, and whether the device is
-- out of its slot
pub record World : Type 0 where
  pub origin : DeviceValue
  pub log : List Entry
  pub next : ℕ
  pub serving : ℕ
  pub outstanding : Bool

-- what the views count, added up
abbrev pub total : (View → ℕ) → List View → ℕ
total count [] = 0
total count (v ∷ views) = count v + total count views

-- what holds of each view that is not spent
pub record Fits (origin : DeviceValue) (log : List Entry) (id : ℕ) (v : View) : Type 0 where
  pub origin_is : v.origin ≡ origin
  pub number : (v.number ≡ 0) ⊎ (v.number ≡ suc id)
  pub parent : v.parent ≢ suc id
  pub seen : StartsWith log v.seen
  pub told : StartsWith log v.told
  pub mine : calls_by (suc id) log ≡ v.mine

-- a participant's view fits the world, at its stage
abbrev pub Knows : World → ℕ → View → Stage → Type 0
Knows x id v Idle = Fits x.origin x.log id v
Knows x id v Waiting = Fits x.origin x.log id v × (x.serving ≤ v.ticket) × (v.ticket < x.next)
Knows x id v Serving =
    Fits x.origin x.log id v × (v.ticket ≡ x.serving) × (x.serving < x.next) × (x.outstanding ≡ true) × (v.seen ≡ x.log)
Knows x id v Spent = (v.drawn ≡ 0) × (v.journaled ≡ 0)

-- a participant in these stages has a ticket
abbrev pub has_ticket : Stage → Bool
has_ticket Idle = false
has_ticket Waiting = true
has_ticket Serving = true
has_ticket Spent = false

-- the device is at home and has the events of the history for its journal, or it is with the participant that is served
abbrev pub Placed : Bool → World → List (maybe Slot) → List View → Type 0
Placed false x homes views = get_elem? homes 0 ≡ some (some (Some (device_at x.origin x.log)))
Placed true x homes views = (id : ℕ) × (v : View) × (get_elem? views id ≡ some v) × (v.stage ≡ Serving)

-- each view fits the world
abbrev pub AllKnow : World → List View → Type 0
AllKnow x views = (id : ℕ) (v : View) → get_elem? views id ≡ some v → Knows x id v v.stage

-- a participant has this ticket
abbrev pub IsHeld : List View → ℕ → Type 0
IsHeld views t = (id : ℕ) × (v : View) × (get_elem? views id ≡ some v) × (has_ticket v.stage ≡ true) × (v.ticket ≡ t)

-- a participant has each ticket that was drawn and not passed on
abbrev pub AllHeld : World → List View → Type 0
AllHeld x views = (t : ℕ) → x.serving ≤ t → t < x.next → IsHeld views t

-- no two participants have one ticket
abbrev pub TicketsDiffer : List View → Type 0
TicketsDiffer views = (i j : ℕ) (v w : View) → get_elem? views i ≡ some v → get_elem? views j ≡ some w
    → has_ticket v.stage ≡ true → has_ticket w.stage ≡ true → v.ticket ≡ w.ticket → i ≡ j

-- a number without a view has no entries
abbrev pub Unborn : List Entry → List View → Type 0
Unborn log views = (id : ℕ) → length views ≤ id → calls_by (suc id) log ≡ []

-- the participant with this number was merged into another
abbrev pub IsSpent : List View → ℕ → Type 0
IsSpent views k = (j : ℕ) × (u : View) × (k ≡ suc j) × (get_elem? views j ≡ some u) × (u.stage ≡ Spent)

-- each number that a view keeps is of a spent view, and no number is kept twice
pub record TakenIn (views : List View) : Type 0 where
  pub spent : (id : ℕ) (v : View) (k : ℕ) → get_elem? views id ≡ some v → Has k v.kept → IsSpent views k
  pub apart : (id : ℕ) (v : View) → get_elem? views id ≡ some v → AllDiffer v.kept
  pub once : (i j : ℕ) (v w : View) (k : ℕ) → get_elem? views i ≡ some v → get_elem? views j ≡ some w → Has k v.kept
      → Has k w.kept → i ≡ j

-- the view is spent, and all that was split off it is returned
abbrev pub IsBack : List View → (ℕ → List ℕ) → ℕ → Type 0
IsBack views away id = IsSpent views (suc id) × (away id ≡ [])

-- What was split off and isn't returned. `away` has for each view those of its children that count. Each view but the
-- first is returned itself or away. A view that isn't spent counts at least as many as are away.
pub record Lent (views : List View) : Type 0 where
  pub away : ℕ → List ℕ
  pub within : (p c : ℕ) → Has c (away p) → (p < c) × (c < length views)
  pub back : (c : ℕ) (u : View) → get_elem? views (suc c) ≡ some u
      → IsBack views away (suc c) ⊎ ((p : ℕ) × Has (suc c) (away p))
  pub parent : (p c : ℕ) (u : View) → Has c (away p) → get_elem? views c ≡ some u → (u.stage ≡ Spent → ⊥)
      → u.parent ≡ suc p
  pub first : (u : View) → get_elem? views 0 ≡ some u → (u.stage ≡ Spent → ⊥) → u.parent ≡ 0
  pub count : (id : ℕ) (v : View) → get_elem? views id ≡ some v → (v.stage ≡ Spent → ⊥)
      → length (away id) ≤ v.outstanding

-- the facts about the table
pub record Orderly (s : Table) : Type 0 where
  pub world : World
  pub words : s.words ≡ words_of (length world.log) world.next world.serving
  pub few : world.next < 2 ^ 64
  pub behind : world.serving ≤ world.next
  pub legal : IsLegal world.origin world.log
  pub placed : Placed world.outstanding world s.homes s.views
  pub know : AllKnow world s.views
  pub held : AllHeld world s.views
  pub differ : TicketsDiffer s.views
  pub unborn : Unborn world.log s.views
  pub taken_in : TakenIn s.views
  pub lent : Lent s.views
  pub drawn : total (λ v. v.drawn) s.views ≡ world.next
  pub journaled : length world.origin.journal + total (λ v. v.journaled) s.views ≡ length world.log
