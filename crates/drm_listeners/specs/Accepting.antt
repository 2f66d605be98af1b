-- A listener and the connections that it accepts (own).
use Rattle.std.specs.Prelude.{◌≡◌, ◌+◌, ◌≤◌, ◌<◌, ◌^◌, ℕ, All, List, [], ◌∷◌, ◌++◌, Option, Result, Ok, Err, Vec, IsSomeAnd, length, vec_len, ⊤}
use Rattle.std.specs.Vec.{vec_capacity}
use Rattle.drm_turns.specs.Participants.{HasTakenIn, IsChild, ParticipantView, Same, Unchanged}
use Rattle.drm_sessions.specs.declared.class.Class.{Class}
use Rattle.drm_sessions.specs.declared.end.Session.{Session}
use Rattle.drm_sessions.specs.Serving.{all_steps}
use Rattle.drm_listeners.specs.declared.accepting.Account.{Account}
use Rattle.drm_listeners.specs.declared.accepting.Closing.{Closing}
use Rattle.drm_listeners.specs.declared.accepting.Closing.TheVariants as closings
use Rattle.drm_listeners.specs.declared.accepting.ServedListener.{ServedListener}
use Rattle.drm_listeners.specs.declared.connection.ConnectionServed.{ConnectionServed}
use Rattle.drm_listeners.specs.declared.listener.Arrival.{Arrival}
use Rattle.drm_listeners.specs.declared.listener.Arrival.TheVariants as arrivals
use Rattle.drm_listeners.specs.declared.listener.Outcomes.{Outcomes}
use Rattle.drm_listeners.specs.declared.listener.Terms.{Terms}
use Rattle.drm_listeners.specs.declared.listener.Until.{Until}
use Rattle.drm_listeners.specs.declared.listener.Until.TheVariants as untils
use Rattle.drm_listeners.specs.declared.listener.Visitors.{Visitors}
use Rattle.drm_listeners.specs.declared.serve_faults.ServeFault.{ServeFault}
use Rattle.drm_listeners.specs.Connections.{IsFaultOf, SessionState, participants_in, sessions_in}
use Rattle.drm_listeners.specs.Serving.{IsBy}
use Rattle.drm_listeners.specs.UntilEnded.{AreAll, attended}

-- ---- how long a listener accepts connections

-- a listener that counts serves as many at once as it accepts
abbrev pub IsMost : Until → ℕ → Type 0
IsMost (untils.Counted count) most = most ≡ count
IsMost untils.Asked most = ⊤

-- a listener that counts has accepted no more than it has to
abbrev pub IsWithin : Until → ℕ → Type 0
IsWithin (untils.Counted count) accepted = accepted ≤ count
IsWithin untils.Asked accepted = ⊤

-- a listener that counts had accepted fewer
abbrev pub IsBelow : Until → ℕ → Type 0
IsBelow (untils.Counted count) accepted = accepted < count
IsBelow untils.Asked accepted = ⊤

-- a listener that counts has accepted all
abbrev pub AreLast : Until → ℕ → Type 0
AreLast (untils.Counted count) accepted = accepted ≡ count
AreLast untils.Asked accepted = ⊥

-- only a listener that doesn't count is asked to end
abbrev pub MayEnd : Until → Type 0
MayEnd (untils.Counted count) = ⊥
MayEnd untils.Asked = ⊤

-- what a listener waited for, and the connections that it had accepted before and has accepted after
abbrev pub Arrives : Until → ℕ → ℕ → Arrival → Type 0
Arrives until before after (arrivals.Connection stream) = (after ≡ before + 1) × (before + 1 < 2 ^ 64) × IsBelow until before
Arrives until before after arrivals.Last = (after ≡ before) × AreLast until before
Arrives until before after (arrivals.End asked) = (after ≡ before) × MayEnd until

-- ---- the connections of a listener

-- how many connections these are
abbrev pub all_of : Outcomes → ℕ
all_of outcomes = outcomes.served + outcomes.crowded + outcomes.threadless

-- a listener that counts closes no connection because others are open
abbrev pub IsPlain : Until → Outcomes → Type 0
IsPlain (untils.Counted count) outcomes = outcomes.crowded ≡ 0
IsPlain untils.Asked outcomes = ⊤

-- a listener that counts got a thread for each connection
abbrev pub HasThreads : Until → Outcomes → Type 0
HasThreads (untils.Counted count) outcomes = outcomes.threadless ≡ 0
HasThreads untils.Asked outcomes = ⊤

-- The participant has taken in those of sessions of this class, whose steps are all that it counts.
pub record HasServed (class : Class) (participant : ParticipantView) : Type 0 where
  pub sittings : List SessionState
  pub of_class : All (IsBy class) sittings
  pub taken : HasTakenIn participant (participants_in sittings)
  pub journaled : participant.journaled ≡ all_steps (sessions_in sittings)

-- these are the sessions, if they are kept, and each got a thread
abbrev pub AreKept : Until → ℕ → List Session → List SessionState → Type 0
AreKept (untils.Counted count) threadless sessions sittings = threadless ≡ 0 → sessions ≡ sessions_in sittings
AreKept untils.Asked threadless sessions sittings = ⊤

-- the same, and the sessions in this list, if they are kept
abbrev pub HasServedFor : Terms → Outcomes → List Session → ParticipantView → Type 0
HasServedFor terms outcomes sessions participant =
    (served : HasServed terms.class participant) × AreKept terms.until outcomes.threadless sessions served.sittings

-- a session is kept after others, or dropped
abbrev pub KeepsOne : Until → List Session → Session → List Session → Type 0
KeepsOne (untils.Counted count) before session after = after ≡ before ++ session ∷ []
KeepsOne untils.Asked before session after = ⊤

-- there is room for this many more sessions, if they are kept
abbrev pub HasRoom : {A : Type 0} → Until → ℕ → Vec Session A → Type 0
HasRoom (untils.Counted count) more sessions = vec_len sessions + more ≤ vec_capacity sessions
HasRoom untils.Asked more sessions = ⊤

-- an empty list, with room for each session that is kept
abbrev pub IsRoomFor : {A : Type 0} → Until → Vec Session A → Type 0
IsRoomFor (untils.Counted count) sessions = (sessions.items ≡ []) × (count ≤ vec_capacity sessions)
IsRoomFor untils.Asked sessions = ⊤

-- A thread was promised to serve a connection of this class, through a participant that was split off this one.
pub record IsPromised (class : Class) (participant : ParticipantView) (promise : ConnectionServed) : Type 0 where
  pub of_class : promise.class ≡ class
  pub table : promise.participant.value.table ≡ participant.table
  pub child : IsChild participant promise.participant.value

-- each of these has a thread, with such a promise
abbrev pub ArePromised : {A : Type 0} → (A → ConnectionServed) → Class → ParticipantView → List (Option A) → Type 0
ArePromised promise class participant workers =
    All (λ worker. IsSomeAnd worker (λ worker. IsPromised class participant (promise worker))) workers

-- Each connection that had a thread or could get none has a session that the participant took in, but for this many,
-- whose threads go on.
abbrev pub AreCounted : Outcomes → ℕ → ParticipantView → Type 0
AreCounted outcomes threads participant = length participant.merged + threads ≡ outcomes.served + outcomes.threadless

-- ---- the end of a listener

-- The participant took in a session of each connection that had one.
pub record IsAccount (own : ParticipantView) (visitors : Visitors) : Type 0 where
  pub all : AreAll visitors
  pub sessions : length own.merged ≡ attended visitors

-- the listener was asked to end
abbrev pub IsAsked : Closing → Type 0
IsAsked closings.Last = ⊥
IsAsked (closings.Asked visitors) = ⊤

-- Why a listener was closed. The participant took in a session of each connection that had one, but for this many, whose
-- threads go on.
abbrev pub ClosesAs : Until → ℕ → ParticipantView → Closing → Type 0
ClosesAs (untils.Counted count) threads own closings.Last = length own.merged + threads ≡ count
ClosesAs (untils.Counted count) threads own (closings.Asked visitors) = ⊥
ClosesAs untils.Asked threads own closings.Last = ⊥
ClosesAs untils.Asked threads own (closings.Asked visitors) =
    AreAll visitors × (length own.merged + threads ≡ attended visitors)

-- the sessions of a listener and why it was closed, or a fault of its class
abbrev pub IsAccounted : Terms → ParticipantView → Result Account ServeFault → Type 0
IsAccounted terms own (Ok account) =
    ((served : HasServed terms.class own) × AreKept terms.until 0 account.sessions.items served.sittings)
    × ClosesAs terms.until 0 own account.closing
IsAccounted terms own (Err fault) = IsFaultOf terms.class fault

-- The participant of a listener has served sessions of its class, and has back each participant that was split off it.
pub record HasKept (class : Class) (participant own : ParticipantView) : Type 0 where
  pub same : Same participant own
  pub unchanged : Unchanged participant own
  pub served : HasServed class own

-- what resulted from a listener, with a fault or without
abbrev pub Serves : Terms → ParticipantView → ServedListener → Type 0
Serves terms participant served =
    HasKept terms.class participant served.participant × IsAccounted terms served.participant served.account
