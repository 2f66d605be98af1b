-- What each step leaves of mode objects, limits, steps and open clients, so that the journal has places for their closings.
use Rattle.std.proofs.Common.{◌≡◌, ℕ, suc, ◌+◌, ◌≤◌, nat_lt, Bool, true, false, cond, not, ◌&&◌, List, [], ◌∷◌, ◌++◌, length, find, Option, None, Some, refl, sym, ◌∙◌, ap, arith, length-append}
use Rattle.std.specs.Option.{is_some}
use Rattle.std.proofs.lemmas.Bool.{ltb-false}
use Rattle.std.proofs.lemmas.List.{length-map}
use Rattle.drm_index_array.proofs.Lists.{filter-shorter}
use Rattle.drm_table.specs.declared.calls.Call.{Call}
use Rattle.drm_table.specs.declared.events.Event.{Event}
use Rattle.drm_table.specs.declared.events.Event.TheVariants.{Open, Ask, Close}
use Rattle.drm_table.specs.declared.events.Opening.{Opening}
use Rattle.drm_table.specs.declared.rules.Rule.{Rule}
use Rattle.drm_table.specs.declared.rules.Rule.TheVariants.{NoClient}
use Rattle.drm_model.specs.Rows.{Rows, empty_rows, is_client, is_open, without}
use Rattle.drm_model.specs.Verdict.{verdict}
use Rattle.drm_model.specs.Change.{after, after_verdict, changed, swept}
use Rattle.drm_model.specs.Clients.{closed}
use Rattle.drm_model.specs.Run.{FoundRoom, no_room, places_left, run, rows_of, DeviceValue, journaled_in}
use Rattle.drm_model.proofs.EventChanges.{client_after, opened_row, each_edits}
use Rattle.drm_model.proofs.Closings.{closing_verdict}
use Rattle.drm_index_array.proofs.Edits.{added, mapped}

-- A run of one more event is the run before, then the step of that event.
pub run_push : (w : Rows) (events : List Event) (event : Event)
    → run w (events ++ event ∷ []) ≡ after (run w events) event
unfolding run
run_push w [] event = refl
run_push w (e ∷ es) event = run_push (after w e) es event

-- If each event found room, and one more finds room after them, each of all found room.
pub found_room_push : (w : Rows) (events : List Event) (event : Event) → FoundRoom w events
    → no_room (run w events) event ≡ false → FoundRoom w (events ++ event ∷ [])
unfolding FoundRoom run
found_room_push w [] event h room = (room, tt)
found_room_push w (e ∷ es) event h room = (h.0, found_room_push (after w e) es event h.1 room)

-- The rows of a history with one more event are those after the event.
pub rows_journaled : (h : DeviceValue) (event : Event) → rows_of (journaled_in h event) ≡ after (rows_of h) event
unfolding rows_of
rows_journaled h event = run_push (empty_rows h.topology h.limits) h.journal event

-- an event keeps the fixed mode objects and the limits, and is one more step
after_verdict-topology : (w : Rows) (event : Event) (v : Option Rule) → (after_verdict v w event).topology ≡ w.topology
unfolding swept
after_verdict-topology w event None = ap (λ (v : Rows). v.topology) (each_edits w event)
after_verdict-topology w event (Some rule) = refl

-- A step leaves the limits unchanged, accepted or denied.
pub after_verdict-limits : (w : Rows) (event : Event) (v : Option Rule) → (after_verdict v w event).limits ≡ w.limits
unfolding swept
after_verdict-limits w event None = ap (λ (v : Rows). v.limits) (each_edits w event)
after_verdict-limits w event (Some rule) = refl

after_verdict-steps : (w : Rows) (event : Event) (v : Option Rule) → (after_verdict v w event).steps ≡ w.steps + 1
unfolding swept
after_verdict-steps w event None = ap (λ (v : Rows). v.steps + 1) (each_edits w event)
after_verdict-steps w event (Some rule) = refl

-- No event changes the fixed mode objects.
pub after-topology : (w : Rows) (event : Event) → (after w event).topology ≡ w.topology
unfolding after
after-topology w event = after_verdict-topology w event (verdict w event)

-- No event changes the limits.
pub after-limits : (w : Rows) (event : Event) → (after w event).limits ≡ w.limits
unfolding after
after-limits w event = after_verdict-limits w event (verdict w event)

-- Each event is one step, accepted or denied.
pub after-steps : (w : Rows) (event : Event) → (after w event).steps ≡ w.steps + 1
unfolding after
after-steps w event = after_verdict-steps w event (verdict w event)

run-topology : (w : Rows) (events : List Event) → (run w events).topology ≡ w.topology
unfolding run
run-topology w [] = refl
run-topology w (e ∷ es) = run-topology (after w e) es ∙ after-topology w e

-- A run leaves the limits unchanged.
pub run-limits : (w : Rows) (events : List Event) → (run w events).limits ≡ w.limits
unfolding run
run-limits w [] = refl
run-limits w (e ∷ es) = run-limits (after w e) es ∙ after-limits w e

-- A run has one step for each of its events.
pub run-steps : (w : Rows) (events : List Event) → (run w events).steps ≡ w.steps + length events
unfolding run
run-steps w [] = omega arith
run-steps w (e ∷ es) = let a = run-steps (after w e) es in let b = after-steps w e in omega arith

-- The rows of a history have its fixed mode objects.
pub rows_of-topology : (h : DeviceValue) → (rows_of h).topology ≡ h.topology
unfolding rows_of
rows_of-topology h = run-topology (empty_rows h.topology h.limits) h.journal

-- The rows of a history have its limits.
pub rows_of-limits : (h : DeviceValue) → (rows_of h).limits ≡ h.limits
unfolding rows_of
rows_of-limits h = run-limits (empty_rows h.topology h.limits) h.journal

-- The rows of a history count as many steps as its journal has events.
pub rows_of-steps : (h : DeviceValue) → (rows_of h).steps ≡ length h.journal
unfolding rows_of
rows_of-steps h = let a = run-steps (empty_rows h.topology h.limits) h.journal in omega arith

-- An opening adds one to the open clients.
pub opened-count : (w : Rows) (opening : Opening) → length (changed w (Open opening)).clients ≡ length w.clients + 1
opened-count w opening =
    ap (λ (v : Rows). length v.clients) (each_edits w (Open opening))
    ∙ ap length (sym (added w.clients (opened_row w opening ∷ [])))
    ∙ length-append w.clients (opened_row w opening ∷ [])

-- A request leaves the number of open clients unchanged.
pub asked-count : (w : Rows) (c : ℕ) (call : Call) → length (changed w (Ask c call)).clients ≡ length w.clients
asked-count w c call =
    ap (λ (v : Rows). length v.clients) (each_edits w (Ask c call))
    ∙ ap length (sym (mapped (client_after w (Ask c call)) w.clients))
    ∙ length-map w.clients (client_after w (Ask c call))

without-found : {X : Type 0} (p : X → Bool) → (xs : List X) → is_some (find p xs) ≡ true
    → length (without p xs) + 1 ≤ length xs
without-found p [] h = absurd (let e : false ≡ true = h in cc)
without-found {X = X} p (x ∷ xs) h =
    let shorter = filter-shorter (λ x. not (p x)) xs in
    (elim (p x) as (λ b. is_some (cond b (Some x) (find p xs)) ≡ true → length (cond (not b) (x ∷ without p xs) (without p xs)) + 1 ≤ suc (length xs))
    [ true ↦ λ e. omega arith | false ↦ λ e. let shorter_rest = without-found p xs e in omega arith ]) h

-- what a verdict leaves of the clients: an opening adds one, a closing takes one at least, a request none
asked-room : (w : Rows) (c : ℕ) (call : Call) (v : Option Rule)
    → length (after_verdict v w (Ask c call)).clients ≡ length w.clients
unfolding swept
asked-room w c call None = asked-count w c call
asked-room w c call (Some rule) = refl

opened-room : (w : Rows) (opening : Opening) (v : Option Rule)
    → length (after_verdict v w (Open opening)).clients ≤ length w.clients + 1
unfolding swept
opened-room w opening None = let e = opened-count w opening in omega arith
opened-room w opening (Some rule) = omega arith

closed-room : (w : Rows) (c : ℕ) (b : Bool) → is_open w c ≡ b
    → (cond b (Unit {0}) (w.steps + length w.clients + 1 ≤ w.limits.journal))
    → w.steps + length w.clients ≤ w.limits.journal →
    w.steps + 1 + length (after_verdict (cond b None (Some NoClient)) w (Close c)).clients ≤ w.limits.journal
unfolding swept changed closed
closed-room w c true e h fits = let found = without-found (is_client c) w.clients e in omega arith
closed-room w c false e h fits = omega arith

kept_export_order : (w : Rows) (c : ℕ) (b : Bool) → is_open w c ≡ b → w.steps + length w.clients ≤ w.limits.journal
    → no_room w (Close c) ≡ false → cond b (Unit {0}) (w.steps + length w.clients + 1 ≤ w.limits.journal)
unfolding no_room
kept_export_order w c true e fits room = tt
kept_export_order w c false e fits room =
    let left = ltb-false (places_left w) (length w.clients + 1) (ap (λ b. not b && nat_lt (places_left w) (length w.clients + 1)) (sym e) ∙ room) in omega arith

-- After an event that found room the journal still has a place for the closing of each open client.
pub room_after : (w : Rows) (event : Event) → w.steps + length w.clients ≤ w.limits.journal → no_room w event ≡ false
    → (after w event).steps + length (after w event).clients ≤ w.limits.journal
unfolding no_room after
room_after w (Open opening) fits room =
    let left = ltb-false (places_left w) (length w.clients + 2) room in
    let steps = after-steps w (Open opening) in
    let clients = opened-room w opening (verdict w (Open opening)) in
    omega arith
room_after w (Ask c call) fits room =
    let left = ltb-false (places_left w) (length w.clients + 1) room in
    let steps = after-steps w (Ask c call) in
    let clients = asked-room w c call (verdict w (Ask c call)) in
    omega arith
room_after w (Close c) fits room =
    let steps = after-steps w (Close c) in
    let clients = closed-room w c (is_open w c) refl (kept_export_order w c (is_open w c) refl fits room) fits in
    rw (steps, closing_verdict w c) clients
