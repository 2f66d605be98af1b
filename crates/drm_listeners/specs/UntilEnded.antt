-- Listeners that accept connections until they are asked to end (own).
use Rattle.std.specs.Prelude.{◌≡◌, ◌+◌, ℕ, All, List, length}
use Rattle.drm_model.specs.Run.{DeviceValue}
use Rattle.drm_sessions.specs.declared.class.Class.{Class}
use Rattle.drm_sessions.specs.declared.class.Class.TheVariants.{Card, Render, Root}
use Rattle.drm_sessions.specs.declared.end.Session.{Session}
use Rattle.drm_sessions.specs.Serving.{all_steps}
use Rattle.drm_turns.specs.Participants.{ParticipantView}
use Rattle.drm_connections.specs.declared.counts.Counts.{Counts}
use Rattle.drm_listeners.specs.declared.listeners.ByClass.{ByClass}
use Rattle.drm_listeners.specs.declared.listener.Visitors.{Visitors}
use Rattle.drm_listeners.specs.Connections.{IsSessionOf}
use Rattle.drm_listeners.specs.Serving.{AreSessionsOf, HaveSat, IsHistoryOf, card_sessions, connections, render_sessions, root_sessions}

-- ---- one listener

-- each connection that was accepted was served in a thread, was closed because 64 were open, or got no thread
abbrev pub AreAll : Visitors → Type 0
AreAll visitors = visitors.accepted ≡ visitors.served + visitors.crowded + visitors.threadless

-- how many of the connections had a session
abbrev pub attended : Visitors → ℕ
attended visitors = visitors.served + visitors.threadless

-- ---- all sessions

-- how many connections of each listener had a session
abbrev pub counts_of : ByClass Visitors → Counts
counts_of visitors = record { cards = attended visitors.card; renders = attended visitors.render; roots = attended visitors.root }

-- A participant has taken in those of this many sessions of each listener, each of its class.
pub record HaveAllSat (counts : Counts) (old participant : ParticipantView) : Type 0 where
  pub sessions : List Session
  pub of_classes : AreSessionsOf counts sessions
  pub sat : HaveSat counts participant sessions
  pub journaled : participant.journaled ≡ old.journaled + all_steps sessions

-- What resulted from a server: this many sessions of each listener, each of its class, and one legal history of all of
-- them.
pub record HasServedAll (counts : Counts) (before after : DeviceValue) : Type 0 where
  pub sessions : List Session
  pub count : length sessions ≡ connections counts
  pub cards : All (IsSessionOf Card) (card_sessions counts sessions)
  pub renders : All (IsSessionOf Render) (render_sessions counts sessions)
  pub roots : All (IsSessionOf Root) (root_sessions counts sessions)
  pub history : IsHistoryOf counts before after sessions
  pub journaled : length after.journal ≡ length before.journal + all_steps sessions

-- of each listener, each connection is in the account
pub record AreAllCounted (visitors : ByClass Visitors) : Type 0 where
  pub card : AreAll visitors.card
  pub render : AreAll visitors.render
  pub root : AreAll visitors.root
