-- The results of three listeners (own).
use Rattle.std.specs.Prelude.{◌≡◌, ◌≢◌, ◌+◌, ◌∷◌, ◌++◌, Vec, Result, Ok, Err}
use Rattle.atomic_table.specs.Seated.{TableId}
use Rattle.drm_turns.specs.History.{AllDiffer, StartsWith}
use Rattle.drm_turns.specs.Participants.{IsChild, ParticipantView}
use Rattle.drm_sessions.specs.declared.class.Class.{Class}
use Rattle.drm_sessions.specs.declared.end.Session.{Session}
use Rattle.drm_sessions.specs.declared.class.Class.TheVariants.{Card, Render, Root}
use Rattle.drm_listeners.specs.declared.accepting.Account.{Account}
use Rattle.drm_listeners.specs.declared.accepting.ServedListener.{ServedListener}
use Rattle.drm_listeners.specs.declared.listener.Terms.{Terms}
use Rattle.drm_listeners.specs.declared.listener.Until.{Until}
use Rattle.drm_listeners.specs.declared.listeners.ByClass.{ByClass}
use Rattle.drm_listeners.specs.declared.listeners.Job.{Job}
use Rattle.drm_listeners.specs.declared.listeners.ServedListeners.{ServedListeners}
use Rattle.drm_listeners.specs.declared.serve_faults.ServeFault.{ServeFault}
use Rattle.drm_listeners.specs.declared.serve_faults.ServeFault.TheVariants as faults
use Rattle.drm_listeners.specs.Connections.{IsFresh}
use Rattle.drm_listeners.specs.Accepting.{HasKept, HasServed, IsAccounted, IsRoomFor, Serves}

-- the terms of a listener
abbrev pub terms_of : Class → Until → Terms
terms_of class until = record { class = class; until = until }

-- how long each listener accepts connections
abbrev pub untils_in : ByClass Job → ByClass Until
untils_in jobs =
    record { card = jobs.card.listener.terms.until; render = jobs.render.listener.terms.until; root = jobs.root.listener.terms.until }

-- the participants that serve the listeners
abbrev pub participants_of : ByClass Job → ByClass ParticipantView
participants_of jobs =
    record { card = jobs.card.participant; render = jobs.render.participant; root = jobs.root.participant }

-- A listener of this class that has accepted no connection, with a participant that made nothing before, and room for the
-- sessions that are kept.
pub record IsReady (table : TableId) (class : Class) (job : Job) : Type 0 where
  pub fresh : IsFresh table job.participant
  pub of_class : job.listener.terms.class ≡ class
  pub unused : job.listener.accepted ≡ 0
  pub room : IsRoomFor job.listener.terms.until job.sessions

-- the three listeners
pub record AreReady (table : TableId) (jobs : ByClass Job) : Type 0 where
  pub card : IsReady table Card jobs.card
  pub render : IsReady table Render jobs.render
  pub root : IsReady table Root jobs.root

-- for each of the three a list with room for the sessions that are kept
pub record AreRooms {A : Type 0} (untils : ByClass Until) (rooms : ByClass (Vec Session A)) : Type 0 where
  pub card : IsRoomFor untils.card rooms.card
  pub render : IsRoomFor untils.render rooms.render
  pub root : IsRoomFor untils.root rooms.root

-- what resulted from each of the three
pub record AreServing (untils : ByClass Until) (participants : ByClass ParticipantView) (served : ByClass ServedListener) : Type 0 where
  pub card : Serves (terms_of Card untils.card) participants.card served.card
  pub render : Serves (terms_of Render untils.render) participants.render served.render
  pub root : Serves (terms_of Root untils.root) participants.root served.root

-- an account of each of the three, or a fault that is neither of the turn nor for lack of memory
abbrev pub AreAccounted : ByClass Until → ByClass ParticipantView → Result (ByClass Account) ServeFault → Type 0
AreAccounted untils owns (Ok accounts) = IsAccounted (terms_of Card untils.card) owns.card (Ok accounts.card)
    × IsAccounted (terms_of Render untils.render) owns.render (Ok accounts.render)
    × IsAccounted (terms_of Root untils.root) owns.root (Ok accounts.root)
AreAccounted untils owns (Err fault) = (fault ≢ faults.TurnOut) × (fault ≢ faults.NoMemory)

-- what resulted from the three
pub record AreServed (untils : ByClass Until) (participants : ByClass ParticipantView) (served : ServedListeners) : Type 0 where
  pub card : HasKept Card participants.card served.participants.card
  pub render : HasKept Render participants.render served.participants.render
  pub root : HasKept Root participants.root served.participants.root
  pub accounts : AreAccounted untils served.participants served.accounts

-- The participants of the three were split off this one, and none is out of them.
pub record AreChildren (participant : ParticipantView) (participants : ByClass ParticipantView) : Type 0 where
  pub card : IsChild participant participants.card
  pub render : IsChild participant participants.render
  pub root : IsChild participant participants.root

-- A participant that had taken in no other took in those of the three listeners, each of which took in its own.
pub record HasGathered (untils : ByClass Until) (old new : ParticipantView) (accounts : Result (ByClass Account) ServeFault) : Type 0 where
  pub owns : ByClass ParticipantView
  pub card : HasServed Card owns.card
  pub render : HasServed Render owns.render
  pub root : HasServed Root owns.root
  pub are : AreAccounted untils owns accounts
  pub seen : StartsWith new.seen owns.card.seen × StartsWith new.seen owns.render.seen × StartsWith new.seen owns.root.seen
  pub merged : new.merged ≡ ((owns.card.number ∷ owns.card.merged) ++ owns.render.number ∷ owns.render.merged) ++ owns.root.number ∷ owns.root.merged
  pub differ : AllDiffer new.merged
  pub journaled : new.journaled ≡ old.journaled + (owns.card.journaled + (owns.render.journaled + owns.root.journaled))
