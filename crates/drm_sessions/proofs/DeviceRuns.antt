-- Runs of a device: what its results are, and what they leave in its journal.
use Rattle.std.proofs.Common.{◌≡◌, ℕ, Bool, List, [], ◌∷◌, ◌++◌, Option, Ok, Err, refl, sym, ap, ◌∙◌, subst, append_assoc}
use Rattle.std.specs.List.{AllByRecursion}
use Rattle.std.proofs.lemmas.List.{append-nil}
use Rattle.drm_table.specs.declared.events.Event.{Event}
use Rattle.drm_table.specs.declared.events.Event.TheVariants.{Open}
use Rattle.drm_table.specs.declared.events.Opening.{Opening}
use Rattle.drm_table.specs.declared.answers.Answer.TheVariants.{Opened}
use Rattle.drm_table.specs.declared.apart.Apart.TheVariants.{JournalFull, NoMemory, Worn}
use Rattle.drm_model.specs.Rows.{Rows}
use Rattle.drm_model.specs.Run.{DeviceValue, Step, Answers, no_room, journaled_events, rows_of}
use Rattle.drm_model.specs.Results.{result_by, rows_by, results}
use Rattle.drm_frames.specs.Answers.{CallResult}
use Rattle.drm_frames.specs.Grammar.{FrameValue}
use Rattle.drm_turns.specs.Turns.{DeviceSteps, history_after}
use Rattle.drm_sessions.specs.declared.class.Class.{Class}
use Rattle.drm_sessions.specs.Runs.{RequestReply, request_reply, Runs, events, outcomes}
use Rattle.drm_sessions.specs.Serving.{Makes, Follows}
use Rattle.drm_sessions.specs.Device.{journaled_all, HasMemory, result_of, asks_after, results_from, session_results}

-- A session on a device alone gets what the device answers from its rows.
pub Runs-answers : (old new : DeviceValue) (log : List RequestReply) → Runs DeviceSteps old log new
    → Answers (rows_of old) (events log) (outcomes log) (rows_of new)
unfolding Answers
Runs-answers old new [] e = ap rows_of e
Runs-answers old new (call ∷ log) r = (rows_of r.0, r.1.step, Runs-answers r.0 new log r.2)

-- ---- the journal

journaled_one : (old mid : DeviceValue) (event : Event) (result : CallResult) (more : List Event) (rest : List CallResult)
    → mid ≡ history_after old event result
    → journaled_all mid (journaled_events more rest) ≡ journaled_all old (journaled_events (event ∷ more) (result ∷ rest))
journaled_one old mid event (Ok answer) more rest e =
    ap (λ (h : DeviceValue). journaled_all h (journaled_events more rest)) e
    ∙ ap (λ (j : List Event). let h : DeviceValue = record old { journal = j } in h)
    (append_assoc old.journal (event ∷ []) (journaled_events more rest))
journaled_one old mid event (Err apart) more rest e =
    ap (λ (h : DeviceValue). journaled_all h (journaled_events more rest)) e

-- A session on a device alone leaves a journal with its recorded events more.
pub Runs-history : (old new : DeviceValue) (log : List RequestReply) → Runs DeviceSteps old log new
    → new ≡ journaled_all old (journaled_events (events log) (outcomes log))
Runs-history old new [] e =
    e ∙ ap (λ (j : List Event). let h : DeviceValue = record old { journal = j } in h) (sym (append-nil old.journal))
Runs-history old new (call ∷ log) r =
    Runs-history r.0 new log r.2 ∙ journaled_one old r.0 call.event call.outcome (events log) (outcomes log) r.1.history

-- ---- the results

Step-result : (w : Rows) (event : Event) (result : CallResult) (v : Rows) → Step w event result v → HasMemory result
    → (result ≡ result_of w event) × (v ≡ rows_by (no_room w event) w event)
unfolding Step
Step-result w event (Ok answer) v h m =
    (ap (λ x. Ok x) h.1 ∙ ap (λ (b : Bool). result_by b w event) (sym h.0), h.2 ∙ ap (λ (b : Bool). rows_by b w event) (sym h.0))
Step-result w event (Err JournalFull) v h m =
    (ap (λ (b : Bool). result_by b w event) (sym h.0), h.1 ∙ ap (λ (b : Bool). rows_by b w event) (sym h.0))
Step-result w event (Err NoMemory) v h m = absurd m
Step-result w event (Err Worn) v h m = absurd h

Runs-results : (old new : DeviceValue) (log : List RequestReply) → Runs DeviceSteps old log new
    → AllByRecursion HasMemory (outcomes log) → outcomes log ≡ results (rows_of old) (events log)
unfolding results
Runs-results old new [] r m = refl
Runs-results old new (call ∷ log) r m =
    let one = Step-result (rows_of old) call.event call.outcome (rows_of r.0) r.1.step m.0 in
    ap (λ (x : CallResult). x ∷ outcomes log) one.0
    ∙ ap (λ (xs : List CallResult). result_of (rows_of old) call.event ∷ xs)
    (Runs-results r.0 new log r.2 m.1 ∙ ap (λ (w : Rows). results w (events log)) one.1)

-- The first part of a session's calls leads to some value in between.
pub Runs-front : {A : Type 0} (answers : A → Event → CallResult → A → Type 0) (a b : A) (log more : List RequestReply)
    → Runs answers a (log ++ more) b → (mid : A) × Runs answers a log mid
Runs-front answers a b [] more r = (a, refl)
Runs-front answers a b (call ∷ log) more r = let rest = Runs-front answers r.0 b log more r.2 in (rest.0, (r.0, r.1, rest.1))

follows-asks : (result : CallResult) (frames : List FrameValue) (asks closing : List RequestReply) (client : ℕ)
    → Follows result frames asks closing client → events asks ≡ asks_after result frames
follows-asks (Ok (Opened c)) frames asks closing client h = h.0
follows-asks (Ok _) frames asks closing client h = ap events h.1
follows-asks (Err apart) frames asks closing client h = ap events h.1

-- If no memory is refused, a session's results are computed from the rows and the frames.
pub session-results-found : (class : Class) (old mid : DeviceValue) (frames : List FrameValue) (answered closing : List RequestReply) (client : ℕ)
    → Makes class frames answered closing client
    → Runs DeviceSteps old answered mid → AllByRecursion HasMemory (outcomes answered)
    → outcomes answered ≡ session_results (rows_of old) class frames
session-results-found class old mid [] answered closing client h r m = ap outcomes h.0
session-results-found class old mid (hello ∷ frames) answered closing client h r m =
    let opening : Opening = h.0 in
    let result : CallResult = h.1 in
    let asks : List RequestReply = h.2 in
    let is : answered ≡ request_reply (Open opening) result ∷ asks = h.4 in
    let w : Rows = rows_of old in
    let runs = subst (λ (x : List RequestReply). Runs DeviceSteps old x mid) is r in
    let memory = subst (λ (x : List RequestReply). AllByRecursion HasMemory (outcomes x)) is m in
    let first = Step-result w (Open opening) result (rows_of runs.0) runs.1.step memory.0 in
    let asked : events asks ≡ asks_after (result_of w (Open opening)) frames =
    follows-asks result frames asks closing client h.5 ∙ ap (λ (x : CallResult). asks_after x frames) first.0 in
    ap outcomes is ∙ Runs-results old mid (request_reply (Open opening) result ∷ asks) runs memory
    ∙ ap (λ (x : List Event). results w (Open opening ∷ x)) asked
    ∙ ap (λ (x : Option Opening). results_from w x frames) (sym h.3)
