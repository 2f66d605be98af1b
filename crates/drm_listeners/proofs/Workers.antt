-- A listener's participant while connections are served.
use Rattle.std.proofs.Common.{◌≡◌, ℕ, suc, ◌+◌, List, [], ◌∷◌, ◌++◌, All, drop, length, refl, sym, take, ap, ◌∙◌, subst, append-nil, arith}
use Rattle.std.proofs.lemmas.List.{map_push}
use Rattle.std.proofs.lemmas.List.Elements.{All-append, All-drop, All-nil, All-push, All-take, All-weaker}
use Rattle.std.specs.List.{remove}
use Rattle.std.specs.Prelude.{◌≤◌, Err, IfErr, IfOk, IsSomeAnd, None, Ok, Option, Result, Some, Vec}
use Rattle.drm_turns.specs.History.{AllDiffer, StartsWith, calls_by}
use Rattle.drm_turns.specs.Participants.{HasTakenIn, IsChild, ParticipantView, Same}
use Rattle.drm_turns.proofs.ParticipantsIn.{all-seen-more, none-taken-in, one-more-taken-in}
use Rattle.drm_sessions.specs.declared.class.Class.{Class}
use Rattle.drm_sessions.specs.declared.end.Session.{Session}
use Rattle.drm_sessions.specs.Serving.{all_steps}
use Rattle.drm_sessions.proofs.Joining.{all_steps-push}
use Rattle.drm_listeners.specs.declared.accepting.Closing.{Closing}
use Rattle.drm_listeners.specs.declared.accepting.Closing.TheVariants as closings
use Rattle.drm_listeners.specs.declared.connection.ConnectionServed.{ConnectionServed}
use Rattle.drm_listeners.specs.Connections.{IsSessionBy, SessionState, participants_in, sessions_in}
use Rattle.drm_listeners.specs.Serving.{IsBy}
use Rattle.drm_listeners.specs.declared.listener.Outcomes.{Outcomes}
use Rattle.drm_listeners.specs.declared.listener.Terms.{Terms}
use Rattle.drm_listeners.specs.declared.listener.Until.{Until}
use Rattle.drm_listeners.specs.declared.listener.Until.TheVariants as untils
use Rattle.drm_listeners.specs.Accepting.{AreKept, ArePromised, ClosesAs, HasRoom, HasServed, HasServedFor, HasThreads, IsPlain, IsPromised, IsRoomFor, IsWithin, KeepsOne}

-- ---- options and results

some_and : {X : Type 0} {P Q : X → Type 0} (o : Option X) → ((x : X) → P x → Q x) → IsSomeAnd o P → IsSomeAnd o Q
some_and None step h = h
some_and (Some x) step h = step x h

-- What holds of a result's value, if it has one, holds of the value that it has.
pub where_ok : {D E : Type 0} (P : D → Type 0) (r : Result D E) (d : D) → r ≡ Ok d → IfOk r P → P d
where_ok {D} {E} P r d is h = subst (λ (r : Result D E). IfOk r P) is h

-- What holds of a result's error, if it has one, holds of the error that it has.
pub where_err : {D E : Type 0} (P : E → Type 0) (r : Result D E) (e : E) → r ≡ Err e → IfErr r P → P e
where_err {D} {E} P r e is h = subst (λ (r : Result D E). IfErr r P) is h

-- ---- lists

-- What holds of all elements holds of those that are left after a removal.
pub All-removed : {A : Type 0} (P : A → Type 0) (xs : List A) (i : ℕ) → All P xs → All P (remove xs i)
All-removed {A} P xs i h =
    All-append P (take i xs) (drop (suc i) xs) (All-take P i xs h) (All-drop P (suc i) xs h)

-- ---- sessions

-- A participant of which more are out has served the same sessions.
served-still : (class : Class) (old new : ParticipantView) → new.seen ≡ old.seen → new.merged ≡ old.merged
    → new.journaled ≡ old.journaled → HasServed class old → HasServed class new
served-still class old new seen merged journaled h = record {
  sittings = h.sittings;
  of_class = h.of_class;
  taken = record {
    seen = all-seen-more old new ([], seen ∙ sym (append-nil old.seen)) (participants_in h.sittings) h.taken.seen;
    merged = merged ∙ h.taken.merged;
    differ = subst AllDiffer (sym merged) h.taken.differ;
  };
  journaled = journaled ∙ h.journaled;
}

-- A participant that takes in the one of a session has served one session more.
pub served-more : (class : Class) (old new other : ParticipantView) (session : Session) → HasServed class old
    → IsSessionBy class other session
    → StartsWith new.seen old.seen → StartsWith new.seen other.seen → calls_by other.number other.seen ≡ other.mine
    → new.merged ≡ old.merged ++ other.number ∷ other.merged → other.merged ≡ [] → AllDiffer (new.number ∷ new.merged)
    → new.journaled ≡ old.journaled + other.journaled → HasServed class new
served-more class old new other session h by more seen own merged alone differ journaled =
    let last : SessionState = record { participant = other; session = session } in
    record {
      sittings = h.sittings ++ last ∷ [];
      of_class = All-push (IsBy class) h.sittings last h.of_class by;
      taken =
          subst (λ (l : List ParticipantView). HasTakenIn new l)
          (sym (map_push (λ (s : SessionState). s.participant) h.sittings last))
          (one-more-taken-in old new other (participants_in h.sittings) h.taken more seen own merged alone differ);
      journaled = (let before = h.journaled in let steps = by.serves.journaled in let none = by.nothing_journaled in
          let all = ap all_steps (map_push (λ (s : SessionState). s.session) h.sittings last) ∙ all_steps-push (sessions_in h.sittings) session in omega (arith, journaled, before, steps, none, all));
    }

-- A session that is kept is one more of those that are kept.
kept-more : (until : Until) (threadless : ℕ) (before after : List Session) (sittings : List SessionState) (last : SessionState)
    → AreKept until threadless before sittings → KeepsOne until before last.session after
    → AreKept until threadless after (sittings ++ last ∷ [])
kept-more (untils.Counted count) threadless before after sittings last h one = λ none.
    one ∙ ap (λ (l : List Session). l ++ last.session ∷ []) (h none)
    ∙ sym (map_push (λ (s : SessionState). s.session) sittings last)
kept-more untils.Asked threadless before after sittings last h one = tt

-- If a connection got no thread, no session is said to be kept.
none-kept : (until : Until) (threadless more : ℕ) (sessions : List Session) (sittings : List SessionState)
    → more ≡ threadless + 1 → AreKept until more sessions sittings
none-kept (untils.Counted count) threadless more sessions sittings is = λ none. absurd (omega (arith, is, none))
none-kept untils.Asked threadless more sessions sittings is = tt

-- A participant of which more are out has served the same sessions, and the same are kept.
pub still-for : (terms : Terms) (outcomes : Outcomes) (sessions : List Session) (old new : ParticipantView)
    → new.seen ≡ old.seen → new.merged ≡ old.merged → new.journaled ≡ old.journaled
    → HasServedFor terms outcomes sessions old → HasServedFor terms outcomes sessions new
unfolding served-still
still-for terms outcomes sessions old new seen merged journaled h =
    (served-still terms.class old new seen merged journaled h.0, h.1)

-- A participant that takes in the one of a session has served one session more, which is kept or dropped.
pub more-for : (terms : Terms) (outcomes : Outcomes) (before after : List Session) (old new other : ParticipantView) (session : Session)
    → HasServedFor terms outcomes before old → KeepsOne terms.until before session after
    → IsSessionBy terms.class other session
    → StartsWith new.seen old.seen → StartsWith new.seen other.seen → calls_by other.number other.seen ≡ other.mine
    → new.merged ≡ old.merged ++ other.number ∷ other.merged → other.merged ≡ [] → AllDiffer (new.number ∷ new.merged)
    → new.journaled ≡ old.journaled + other.journaled → HasServedFor terms outcomes after new
unfolding served-more
more-for terms outcomes before after old new other session h one by more seen own merged alone differ journaled =
    let last : SessionState = record { participant = other; session = session } in (
      served-more terms.class old new other session h.0 by more seen own merged alone differ journaled,
      kept-more terms.until outcomes.threadless before after h.0.sittings last h.1 one,
    )

-- If a connection got no thread, no session is said to be kept.
pub threadless-for : (terms : Terms) (threadless : ℕ) (outcomes : Outcomes) (sessions : List Session) (own : ParticipantView)
    → outcomes.threadless ≡ threadless + 1 → HasServed terms.class own → HasServedFor terms outcomes sessions own
threadless-for terms threadless outcomes sessions own is h =
    (h, none-kept terms.until threadless outcomes.threadless sessions h.sittings is)

empty-kept : {A : Type 0} (until : Until) (sessions : Vec Session A) → IsRoomFor until sessions
    → AreKept until 0 sessions.items []
empty-kept {A} (untils.Counted count) sessions room = λ none. room.0
empty-kept {A} untils.Asked sessions room = tt

-- A participant that has taken in no other has served no session, and none is kept.
pub none-for : {A : Type 0} (terms : Terms) (sessions : Vec Session A) (own : ParticipantView) → own.merged ≡ [] → own.journaled ≡ 0
    → IsRoomFor terms.until sessions
    → (served : HasServed terms.class own) × AreKept terms.until 0 sessions.items served.sittings
none-for {A} terms sessions own merged journaled room = (
  record {
    sittings = [];
    of_class = All-nil (IsBy terms.class);
    taken = none-taken-in own merged;
    journaled = journaled;
  },
  empty-kept terms.until sessions room,
)

-- A listener that has accepted no connection has accepted no more than it has to.
pub none-within : (until : Until) (accepted : ℕ) → accepted ≡ 0 → IsWithin until accepted
none-within (untils.Counted count) accepted none = omega (arith, none)
none-within untils.Asked accepted none = tt

-- Of no connection none was closed because others were open.
pub none-plain : (until : Until) (outcomes : Outcomes) → outcomes.crowded ≡ 0 → IsPlain until outcomes
none-plain (untils.Counted count) outcomes none = none
none-plain untils.Asked outcomes none = tt

-- Of no connection none got no thread.
pub none-threadless : (until : Until) (outcomes : Outcomes) → outcomes.threadless ≡ 0 → HasThreads until outcomes
none-threadless (untils.Counted count) outcomes none = none
none-threadless untils.Asked outcomes none = tt

kept-threads : (until : Until) (outcomes : Outcomes) (sessions : List Session) (sittings : List SessionState)
    → HasThreads until outcomes → AreKept until outcomes.threadless sessions sittings
    → AreKept until 0 sessions sittings
kept-threads (untils.Counted count) outcomes sessions sittings threads h = λ none. h threads
kept-threads untils.Asked outcomes sessions sittings threads h = tt

closes-joined : (until : Until) (threads : ℕ) (old new : ParticipantView) (closing : Closing)
    → length new.merged ≡ length old.merged + threads → ClosesAs until threads old closing → ClosesAs until 0 new closing
closes-joined (untils.Counted count) threads old new closings.Last joined h = omega (arith, joined, h)
closes-joined (untils.Counted count) threads old new (closings.Asked visitors) joined h = absurd h
closes-joined untils.Asked threads old new closings.Last joined h = absurd h
closes-joined untils.Asked threads old new (closings.Asked visitors) joined h =
    (h.0, let sum = h.1 in omega (arith, joined, sum))

-- A listener whose threads were all waited for has an account.
pub accounted : (terms : Terms) (threads : ℕ) (outcomes : Outcomes) (sessions : List Session) (old new : ParticipantView) (closing : Closing)
    → HasServedFor terms outcomes sessions new → HasThreads terms.until outcomes
    → length new.merged ≡ length old.merged + threads → ClosesAs terms.until threads old closing
    → ((served : HasServed terms.class new) × AreKept terms.until 0 sessions served.sittings)
    × ClosesAs terms.until 0 new closing
accounted terms threads outcomes sessions old new closing h all joined closes = (
  (h.0, kept-threads terms.until outcomes sessions h.0.sittings all h.1),
  closes-joined terms.until threads old new closing joined closes,
)

-- There is room for a number of sessions if there is room for an equal one.
pub same-room : {A : Type 0} (until : Until) (few more : ℕ) (sessions : Vec Session A) → few ≡ more
    → HasRoom until more sessions → HasRoom until few sessions
same-room {A} until few more sessions is h = subst (λ (n : ℕ). HasRoom until n sessions) (sym is) h

-- Where there is room for some sessions there is room for one.
pub some-room : {A : Type 0} (until : Until) (more : ℕ) (sessions : Vec Session A) → 1 ≤ more
    → HasRoom until more sessions → HasRoom until 1 sessions
some-room {A} (untils.Counted count) more sessions some h = omega (arith, some, h)
some-room {A} untils.Asked more sessions some h = tt

-- What was split off a participant stays so.
pub promised-still : {A : Type 0} (promise : A → ConnectionServed) (class : Class) (old new : ParticipantView) (workers : List (Option A))
    → Same old new
    → ArePromised promise class old workers → ArePromised promise class new workers
promised-still {A} promise class old new workers same h =
    All-weaker (λ (worker : Option A). IsSomeAnd worker (λ worker. IsPromised class old (promise worker)))
    (λ (worker : Option A). IsSomeAnd worker (λ worker. IsPromised class new (promise worker)))
    (λ worker is. some_and worker (λ worker p. record {
      of_class = p.of_class;
      table = p.table ∙ sym same.0;
      child = record { parent = p.child.parent ∙ sym same.1; outstanding = p.child.outstanding };
    }) is) workers h
