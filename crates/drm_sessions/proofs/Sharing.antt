-- What a session through a participant shows of the shared device.
use Rattle.std.proofs.Common.{◌≡◌, ℕ, ◌+◌, Ok, Err, List, [], ◌∷◌, ◌++◌, length, refl, sym, ap, ◌∙◌, subst, arith, append_assoc, length-append}
use Rattle.std.specs.List.{AllByRecursion}
use Rattle.std.proofs.lemmas.List.{append-nil}
use Rattle.drm_table.specs.declared.apart.Apart.TheVariants.{JournalFull, NoMemory, Worn}
use Rattle.drm_table.specs.declared.events.Event.{Event}
use Rattle.drm_turns.specs.declared.history.Entry.{Entry}
use Rattle.drm_turns.specs.History.{StartsWith, device_at}
use Rattle.drm_turns.specs.Participants.{ParticipantView, entries_of}
use Rattle.drm_model.specs.Run.{DeviceValue}
use Rattle.drm_turns.specs.Turns.{Answered}
use Rattle.drm_turns.proofs.ParticipantsIn.{starts_on}
use Rattle.drm_frames.specs.Answers.{CallResult}
use Rattle.drm_frames.specs.Streams.{SourceTrace, SinkTrace}
use Rattle.drm_sessions.specs.declared.class.Class.{Class}
use Rattle.drm_sessions.specs.declared.end.Session.{Session}
use Rattle.drm_sessions.specs.Runs.{RequestReply, Runs, journaled, one_if_journaled, outcomes}
use Rattle.drm_sessions.specs.Gates.{LetsAllPass}
use Rattle.drm_sessions.specs.Serving.{Serves, calls_made}
use Rattle.drm_sessions.specs.Shared.{TakesTurn, ServesShared, entries_by, journaled_by}
use Rattle.drm_sessions.proofs.Mapping.{Runs-same}

Runs-turns : (old new : ParticipantView) (log : List RequestReply) → Runs TakesTurn old log new
    → AllByRecursion (λ call. (device : DeviceValue) × Answered device call.event call.outcome) log
Runs-turns old new [] r = tt
Runs-turns old new (call ∷ log) r = ((device_at r.0.origin r.0.seen, r.1.turn), Runs-turns r.0 new log r.2)

-- ---- what was seen

Runs-seen : (old new : ParticipantView) (log : List RequestReply) → Runs TakesTurn old log new
    → StartsWith new.seen old.seen
Runs-seen old new [] r = ([], ap (λ (s : ParticipantView). s.seen) r ∙ sym (append-nil old.seen))
Runs-seen old new (call ∷ log) r = starts_on new.seen r.0.seen old.seen (Runs-seen r.0 new log r.2) r.1.extends.1

-- ---- the participant's own entries

turn-mine : (old new : ParticipantView) (event : Event) (result : CallResult) → TakesTurn old event result new
    → new.mine ≡ old.mine ++ journaled_by old.number event result
turn-mine old new event (Ok answer) h = h.ok.2
turn-mine old new event (Err JournalFull) h = h.err.0 ∙ sym (append-nil old.mine)
turn-mine old new event (Err NoMemory) h = h.err.0 ∙ sym (append-nil old.mine)
turn-mine old new event (Err Worn) h = h.err.0 ∙ sym (append-nil old.mine)

Runs-mine : (old new : ParticipantView) (log : List RequestReply) → Runs TakesTurn old log new
    → new.mine ≡ old.mine ++ entries_by old.number log
Runs-mine old new [] r = ap (λ (s : ParticipantView). s.mine) r ∙ sym (append-nil old.mine)
Runs-mine old new (call ∷ log) r =
    let mid : ParticipantView = r.0 in
    let first : List Entry = journaled_by old.number call.event call.outcome in
    Runs-mine mid new log r.2
    ∙ ap (λ (n : ℕ). mid.mine ++ entries_by n log) r.1.extends.0.1
    ∙ ap (λ (l : List Entry). l ++ entries_by old.number log) (turn-mine old mid call.event call.outcome r.1)
    ∙ append_assoc old.mine first (entries_by old.number log)

-- a call adds an entry where it is recorded
entries-one : (result : CallResult) → entries_of result ≡ one_if_journaled result
entries-one (Ok answer) = refl
entries-one (Err apart) = refl

Runs-journaled : (old new : ParticipantView) (log : List RequestReply) → Runs TakesTurn old log new
    → new.journaled ≡ old.journaled + journaled (outcomes log)
Runs-journaled old new [] r = let same = ap (λ (s : ParticipantView). s.journaled) r in omega arith
Runs-journaled old new (call ∷ log) r =
    let more = Runs-journaled r.0 new log r.2 in
    let first = r.1.journaled in
    let one = entries-one call.outcome in
    omega arith

journaled-one : (number : ℕ) (event : Event) (result : CallResult)
    → length (journaled_by number event result) ≡ one_if_journaled result
journaled-one number event (Ok answer) = refl
journaled-one number event (Err apart) = refl

-- A participant has as many entries in a session as the journal has recorded results.
pub entries-counted : (number : ℕ) (log : List RequestReply) → length (entries_by number log) ≡ journaled (outcomes log)
entries-counted number [] = refl
entries-counted number (call ∷ log) =
    let first = journaled-one number call.event call.outcome in
    let rest = entries-counted number log in
    let both = length-append (journaled_by number call.event call.outcome) (entries_by number log) in
    omega (arith, first, rest, both)

-- A session whose calls each took a turn is one through a participant of a shared device.
pub Serves-shared : {class : Class} {old new : ParticipantView} {in0 in1 : SourceTrace} {out0 out1 : SinkTrace} {session : Session}
    → Serves TakesTurn class old new in0 in1 out0 out1 session → ServesShared class old new in0 in1 out0 out1 session
Serves-shared {old} {new} {session} h =
    let log : List RequestReply = h.answered ++ h.closing in
    let mine : new.mine ≡ old.mine ++ entries_by old.number log = Runs-mine old new log h.made in
    record {
      serves = h;
      turns = Runs-turns old new log h.made;
      same = (
        Runs-same (λ (s : ParticipantView). s.table) TakesTurn (λ a event result b t. t.extends.0.0) old new log h.made,
        Runs-same (λ (s : ParticipantView). s.number) TakesTurn (λ a event result b t. t.extends.0.1) old new log
            h.made,
        Runs-same (λ (s : ParticipantView). s.origin) TakesTurn (λ a event result b t. t.extends.0.2) old new log
            h.made,
      );
      merged =
          Runs-same (λ (s : ParticipantView). s.merged) TakesTurn (λ a event result b t. t.merged) old new log h.made;
      unchanged = (
        Runs-same (λ (s : ParticipantView). s.parent) TakesTurn (λ a event result b t. t.unchanged.0) old new log
            h.made,
        Runs-same (λ (s : ParticipantView). s.outstanding) TakesTurn (λ a event result b t. t.unchanged.1) old new log
            h.made,
      );
      seen = Runs-seen old new log h.made;
      mine = mine;
      steps = ap (λ (l : List Entry). length l) mine ∙ length-append old.mine (entries_by old.number log)
          ∙ ap (λ (n : ℕ). length old.mine + n) (entries-counted old.number log ∙ h.counted);
      journaled = Runs-journaled old new log h.made ∙ ap (λ (n : ℕ). old.journaled + n) h.counted;
    }

-- ---- with the gate

-- A session whose calls each took a turn is one through a shared device, also for equal participants.
pub Serves-through : {G : Type 0} (passes : G → ℕ → G → Type 0) (g0 g1 : G) {class : Class} (before participant after done : ParticipantView) {in0 in1 : SourceTrace} {out0 out1 : SinkTrace} {session : Session}
    → before ≡ participant → done ≡ after
    → (s : Serves TakesTurn class before after in0 in1 out0 out1 session) × LetsAllPass passes g0 (calls_made s) g1
    → (s : ServesShared class participant done in0 in1 out0 out1 session) × LetsAllPass passes g0 (calls_made s.serves) g1
unfolding Serves-shared
Serves-through passes g0 g1 {class} before participant after done {in0} {in1} {out0} {out1} {session} from to served =
    let Gated : ParticipantView → ParticipantView → Type 0 =
    λ x y. (s : ServesShared class x y in0 in1 out0 out1 session) × LetsAllPass passes g0 (calls_made s.serves) g1
    in
    subst (λ (y : ParticipantView). Gated participant y) (sym to)
    (subst (λ (x : ParticipantView). Gated x after) from (Serves-shared served.0, served.1))

-- A session through a participant that leaves one participant leaves each equal one.
pub Served-as : {G : Type 0} (passes : G → ℕ → G → Type 0) (g0 g1 : G) {class : Class} {participant : ParticipantView} (after done : ParticipantView) {in0 in1 : SourceTrace} {out0 out1 : SinkTrace} {session : Session}
    → done ≡ after
    → (s : ServesShared class participant after in0 in1 out0 out1 session) × LetsAllPass passes g0 (calls_made s.serves) g1
    → (s : ServesShared class participant done in0 in1 out0 out1 session) × LetsAllPass passes g0 (calls_made s.serves) g1
Served-as passes g0 g1 {class} {participant} after done {in0} {in1} {out0} {out1} {session} to served =
    subst
    (λ (y : ParticipantView). (s : ServesShared class participant y in0 in1 out0 out1 session) × LetsAllPass passes g0 (calls_made s.serves) g1)
    (sym to) served
