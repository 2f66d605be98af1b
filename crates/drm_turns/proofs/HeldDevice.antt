-- The device while a participant has it.
use Rattle.std.proofs.Common.{◌≡◌, ℕ, suc, ◌+◌, ◌-◌, ◌<◌, ◌^◌, List, [], ◌∷◌, ◌++◌, length, get_or, sym, refl, ap, ◌∙◌, subst, Some, None, Option, Result, Ok, Err, true, false, append-nil, append_assoc, arith}
use Rattle.std.specs.Prelude.{IfErr, IfOk, OnErr, OnOk}
use Rattle.atomic_table.specs.Table.{rest}
use Rattle.drm_table.specs.declared.answers.Answer.{Answer}
use Rattle.drm_table.specs.declared.apart.Apart.{Apart}
use Rattle.drm_table.specs.declared.apart.Apart.TheVariants.{JournalFull, NoMemory, Worn}
use Rattle.drm_table.specs.declared.events.Event.{Event}
use Rattle.drm_table.specs.Limits.{are_in_range}
use Rattle.drm_model.specs.Rows.{Rows}
use Rattle.drm_model.specs.Reply.{reply}
use Rattle.drm_model.specs.Run.{FoundRoom, DeviceValue, Step, no_room, journaled_in, rows_of, start_of}
use Rattle.drm_turns.specs.declared.history.Entry.{Entry}
use Rattle.drm_turns.specs.declared.history.View.{View}
use Rattle.drm_turns.specs.History.{StartsWith, device_at, entry, events_of, rows_after}
use Rattle.drm_turns.specs.Plays.{Reads}
use Rattle.drm_turns.specs.Rule.{Slot, Sat}
use Rattle.drm_turns.specs.Views.{Grows, IsOwn, counted, serving, waiting}
use Rattle.drm_turns.specs.Participants.{Commits, Aborts, ParticipantView, entries_of, tickets_of}
use Rattle.drm_turns.specs.Turns.{Answered, Turn}
use Rattle.drm_turns.specs.Places.{IsNext, IsPlaced}
use Rattle.drm_turns.proofs.GrowingHistories.{calls_own, events-snoc, legal-more}

-- A history has as many events as entries.
pub events-length : (log : List Entry) → length (events_of log) ≡ length log
events-length [] = refl
events-length (e ∷ es) = ap suc (events-length es)

-- What a participant takes out of the slot is what its list has.
pub held_is : (c : List (ℕ × Slot)) (found have : Slot) → c ≡ (0, found) ∷ rest c → c ≡ (0, have) ∷ [] → found ≡ have
held_is c found have e f = ap (λ (l : List (ℕ × Slot)). (get_or l 0 (0, found)).1) (sym e ∙ f)

-- A participant that puts back the device leaves the device of its history.
pub after_put : (me me' : Sat) (d : DeviceValue) → me' ≡ (me.0, (0, Some d) ∷ rest me.1) → rest me.1 ≡ []
    → d ≡ device_at me.0.origin me.0.seen
    → me'.1 ≡ (0, Some (device_at me'.0.origin me'.0.seen)) ∷ []
after_put me me' d e none_more is =
    ap (λ (m : Sat). m.1) e
    ∙
    (ap (λ (l : List (ℕ × Slot)). (0, Some d) ∷ l) none_more ∙ (ap (λ (x : DeviceValue). (0, Some x) ∷ []) is ∙ ap (λ (m : Sat). (0, Some (device_at m.0.origin m.0.seen)) ∷ []) (sym e)))

-- The device after one more entry is the one of the longer history.
pub noting_at : (origin : DeviceValue) (log : List Entry) (e : Entry)
    → journaled_in (device_at origin log) e.event ≡ device_at origin (log ++ e ∷ [])
noting_at origin log e = ap (λ (l : List Event). record origin { journal = l }) (sym (events-snoc log e))

-- A participant's history grows by one entry if its event found room and was answered as the device answers it.
pub grows_by : (v : View) (e : Entry) (w : View) → w ≡ counted v e → IsOwn v → e.by ≡ v.number
    → no_room (rows_after v.origin v.seen) e.event ≡ false → e.answer ≡ reply (rows_after v.origin v.seen) e.event
    → Grows v w
grows_by v e w is own by room answer = (
  (e ∷ [], is),
  subst IsOwn (sym is)
      (legal-more v.origin v.seen e own.0 room answer, calls_own v.number v.seen e by ∙ ap (λ (l : List Entry). l ++ e ∷ []) own.1),
)

-- A participant's history grows by nothing if its view is unchanged.
pub grows_not : (v w : View) → w ≡ v → IsOwn v → Grows v w
grows_not v w is own =
    let same : v.journaled ≡ v.journaled + 0 = omega arith in
    (([], is ∙ (λ i. record v { seen = sym (append-nil v.seen) i; mine = sym (append-nil v.mine) i; journaled = same i })), subst IsOwn (sym is) own)

-- A whole turn keeps the participant, and its history extends what it had seen.
pub turned : (v : View) (ticket : ℕ) (seen : List Entry) (w : View) → Reads v seen
    → Grows (serving (waiting v ticket) seen) w
    → (w.number ≡ v.number) × (w.origin ≡ v.origin) × (w.told ≡ v.told) × StartsWith w.seen v.seen × IsOwn w × (w.kept ≡ v.kept) × (w.ticket ≡ ticket) × (w.parent ≡ v.parent) × (w.outstanding ≡ v.outstanding) × (w.drawn ≡ v.drawn + 1)
turned v ticket seen w reads grows =
    let more : List Entry = grows.0.0 in
    let is = grows.0.1 in
    let r : List Entry = reads.0.0 in (
      ap (λ (u : View). u.number) is,
      ap (λ (u : View). u.origin) is,
      ap (λ (u : View). u.told) is,
      (r ++ more, ap (λ (u : View). u.seen) is ∙ (ap (λ (l : List Entry). l ++ more) reads.0.1 ∙ append_assoc v.seen r more)),
      grows.1,
      ap (λ (u : View). u.kept) is,
      ap (λ (u : View). u.ticket) is,
      ap (λ (u : View). u.parent) is,
      ap (λ (u : View). u.outstanding) is,
      ap (λ (u : View). u.drawn) is,
    )

-- ---- what a step shows

-- An event that a device answers found room, and the answer is that of its rows.
pub step_ok : (w : Rows) (event : Event) (answer : Answer) (v : Rows) → Step w event (Ok answer) v
    → (no_room w event ≡ false) × (answer ≡ reply w event)
unfolding Step
step_ok w event answer v s = (s.0, s.1)

-- A device that stepped on an event has had its turn, if its limits are in range and each recorded event found room.
pub turn_of : (old new : DeviceValue) (event : Event) (result : Result Answer Apart)
    → Step (rows_of old) event result (rows_of new) → OnOk result (new ≡ journaled_in old event)
    → OnErr result (new ≡ old)
    → are_in_range new.limits ≡ true → FoundRoom (start_of new) new.journal → Turn new event result
turn_of old new event (Ok answer) step ok err in_range found_room =
    record { before = old; steps = record { step = step; history = ok }; in_range = in_range; found_room = found_room }
turn_of old new event (Err apart) step ok err in_range found_room =
    record { before = old; steps = record { step = step; history = err }; in_range = in_range; found_room = found_room }

-- An event that is not carried out leaves the view, and the fault has its reason in the rows.
pub refuses : (old new : DeviceValue) (event : Event) (result : Result Answer Apart) (v w : View)
    → old ≡ device_at v.origin v.seen → Step (rows_of old) event result (rows_of new) → OnErr result (new ≡ old)
    → OnErr result (w ≡ v)
    → IfErr result (λ apart. (w ≡ v) × Step (rows_after v.origin v.seen) event (Err apart) (rows_after v.origin v.seen))
refuses old new event (Ok answer) v w at step same is = tt
refuses old new event (Err apart) v w at step same is = (
  is,
  subst (λ (d : DeviceValue). Step (rows_of d) event (Err apart) (rows_of d)) at
      (subst (λ (d : DeviceValue). Step (rows_of old) event (Err apart) (rows_of d)) same step),
)

-- A call that had its turn is answered as the device answers it.
pub answered : (device : DeviceValue) (event : Event) (result : Result Answer Apart) → Turn device event result
    → Answered device event result
answered device event (Ok answer) turn = turn
answered device event (Err JournalFull) turn = turn
answered device event (Err NoMemory) turn = turn
answered device event (Err Worn) turn = tt

-- ---- what a call answers, where its participant had the view v, u one after the other, and w after it

excused : (s t : ParticipantView) (event : Event) (apart : Apart) → t.mine ≡ s.mine → t.found < 2 ^ 64 - 1
    → Step (rows_after t.origin t.seen) event (Err apart) (rows_after t.origin t.seen) → Aborts s event apart t
unfolding Step
excused s t event JournalFull mine few step = (mine, few, step.0)
excused s t event NoMemory mine few step = (mine, few, step.0, step.1)
excused s t event Worn mine few step = absurd step

-- A call without an entry says why to its participant, which has all that it saw.
pub aborts : (result : Result Answer Apart) (event : Event) (s t : ParticipantView) (u w : View)
    → IfErr result (λ apart. (w ≡ u) × Step (rows_after u.origin u.seen) event (Err apart) (rows_after u.origin u.seen))
    → t.origin ≡ w.origin → t.seen ≡ w.seen → t.mine ≡ w.mine → u.mine ≡ s.mine → t.found < 2 ^ 64 - 1
    → IfErr result (λ apart. Aborts s event apart t)
aborts (Ok answer) event s t u w h origin seen mine ours few = tt
aborts (Err apart) event s t u w h origin seen mine ours few =
    let from : t.origin ≡ u.origin = origin ∙ ap (λ (x : View). x.origin) h.0 in
    let saw : t.seen ≡ u.seen = seen ∙ ap (λ (x : View). x.seen) h.0 in
    excused s t event apart (mine ∙ (ap (λ (x : View). x.mine) h.0 ∙ ours)) few
    (subst (λ (z : DeviceValue × List Entry). Step (rows_after z.0 z.1) event (Err apart) (rows_after z.0 z.1)) (λ i. (sym from i, sym saw i)) h.1)

-- A call with an entry has added it to its participant's history, after the entries that others made.
pub commits : (result : Result Answer Apart) (event : Event) (s t : ParticipantView) (u w : View) (between : List Entry)
    → IfOk result (λ answer. w ≡ counted u (entry u.number event answer))
    → t.seen ≡ w.seen → t.mine ≡ w.mine → u.number ≡ s.number → u.seen ≡ s.seen ++ between → u.mine ≡ s.mine
    → t.found < 2 ^ 64 - 1
    → IfOk result (λ answer. Commits s event answer t)
commits (Err apart) event s t u w between h seen mine number saw ours few = tt
commits (Ok answer) event s t u w between h seen mine number saw ours few = (
  between,
  seen ∙ (ap (λ (x : View). x.seen) h ∙ (λ i. saw i ++ entry (number i) event answer ∷ [])),
  mine ∙ (ap (λ (x : View). x.mine) h ∙ (λ i. ours i ++ entry (number i) event answer ∷ [])),
  few,
)

-- A call's entry is the last that its participant has seen, after those that it had seen when it was served.
pub placed_after : (result : Result Answer Apart) (place : Option ℕ) (event : Event) (s t : ParticipantView) (u w : View)
    → IsNext u.seen result place → IfOk result (λ answer. w ≡ counted u (entry u.number event answer))
    → t.seen ≡ w.seen → u.number ≡ s.number → IsPlaced s event result place t
placed_after (Ok answer) (Some place) event s t u w next ok seen number = (
  u.seen,
  seen ∙ (ap (λ (x : View). x.seen) ok ∙ (λ i. u.seen ++ entry (number i) event answer ∷ [])),
  sym next,
)
placed_after (Ok answer) None event s t u w next ok seen number = next
placed_after (Err apart) (Some place) event s t u w next ok seen number = next
placed_after (Err apart) None event s t u w next ok seen number = tt

-- ---- what a call counts

-- A call that had its turn drew one ticket.
pub turn_tickets : (device : DeviceValue) (event : Event) (result : Result Answer Apart) → Turn device event result
    → tickets_of result ≡ 1
unfolding Step
turn_tickets device event (Ok answer) turn = refl
turn_tickets device event (Err JournalFull) turn = refl
turn_tickets device event (Err NoMemory) turn = refl
turn_tickets device event (Err Worn) turn = absurd turn.steps.step

-- A call adds an entry exactly if the device recorded its event.
pub turn_entries : (result : Result Answer Apart) (event : Event) (u w : View)
    → IfOk result (λ answer. w ≡ counted u (entry u.number event answer))
    → IfErr result (λ apart. (w ≡ u) × Step (rows_after u.origin u.seen) event (Err apart) (rows_after u.origin u.seen))
    → w.journaled ≡ u.journaled + entries_of result
turn_entries (Ok answer) event u w ok err = ap (λ (x : View). x.journaled) ok
turn_entries (Err apart) event u w ok err = let same = ap (λ (x : View). x.journaled) err.0 in omega arith

-- A call that had its turn found a ticket.
pub not_worn : (device : DeviceValue) (event : Event) (result : Result Answer Apart) → Turn device event result
    → result ≡ Err Worn → ⊥
not_worn device event result turn worn = let one = turn_tickets device event result turn in let none : tickets_of result ≡ 0 = ap tickets_of worn in omega arith
