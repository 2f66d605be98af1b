-- The sessions of three listeners that accept connections until they are asked to end.
use Rattle.std.proofs.Common.{◌≡◌, ℕ, suc, ◌+◌, List, [], ◌∷◌, ◌++◌, length, refl, sym, ap, ◌∙◌, subst, append_assoc, arith, length-append}
use Rattle.drm_model.specs.Run.{DeviceValue}
use Rattle.drm_turns.specs.declared.history.Entry.{Entry}
use Rattle.drm_turns.specs.History.{AllDiffer, IsLegal, StartsWith, device_at, journaled_before}
use Rattle.drm_turns.specs.Participants.{Closes, ParticipantView, Same, numbers_of}
use Rattle.drm_turns.proofs.ParticipantsIn.{starts_on}
use Rattle.std.specs.Prelude.{Result, Ok}
use Rattle.drm_sessions.specs.declared.class.Class.{Class}
use Rattle.drm_sessions.specs.declared.class.Class.TheVariants.{Card, Render, Root}
use Rattle.drm_sessions.specs.declared.end.Session.{Session}
use Rattle.drm_sessions.specs.Serving.{all_steps}
use Rattle.drm_connections.specs.declared.counts.Counts.{Counts}
use Rattle.drm_listeners.specs.declared.accepting.Account.{Account}
use Rattle.drm_listeners.specs.declared.accepting.Closing.{Closing}
use Rattle.drm_listeners.specs.declared.accepting.Closing.TheVariants as closings
use Rattle.drm_listeners.specs.declared.listener.Until.{Until}
use Rattle.drm_listeners.specs.declared.listener.Until.TheVariants as untils
use Rattle.drm_listeners.specs.declared.listeners.ByClass.{ByClass}
use Rattle.drm_listeners.specs.declared.serve_faults.ServeFault.{ServeFault}
use Rattle.drm_listeners.specs.Connections.{IsSessionOf, SessionState, participants_in, sessions_in}
use Rattle.drm_listeners.specs.UntilEnded.{HasServedAll, HaveAllSat}
use Rattle.drm_listeners.specs.Accepting.{AreKept, ClosesAs, HasServed, IsAsked}
use Rattle.drm_listeners.specs.Listeners.{HasGathered}
use Rattle.drm_listeners.specs.Serving.{AreSessionsOf, HaveSat}
use Rattle.drm_listeners.proofs.Gathering.{length-sessions, map-three, of-class, parted, sat-of, steps-three, told-by-class}

length-numbers : (sittings : List SessionState) → length (numbers_of (participants_in sittings)) ≡ length sittings
length-numbers [] = refl
length-numbers (s ∷ sittings) = ap suc (length-numbers sittings)

-- As many sessions were served as participants were taken in.
sessions-taken : (class : Class) (own : ParticipantView) (h : HasServed class own) (count : ℕ) → length own.merged ≡ count
    → length h.sittings ≡ count
sessions-taken class own h count is =
    sym (length-numbers h.sittings) ∙ ap (λ (l : List ℕ). length l) (sym h.taken.merged) ∙ is

-- The sessions of each class, of a participant that took in three, each of which took in its own.
pub three-sat : (counts : Counts) (owns : ByClass ParticipantView) (old new : ParticipantView)
    → (cards : HasServed Card owns.card) → (renders : HasServed Render owns.render) → (roots : HasServed Root owns.root)
    → StartsWith new.seen owns.card.seen × StartsWith new.seen owns.render.seen × StartsWith new.seen owns.root.seen
    → new.merged ≡ ((owns.card.number ∷ owns.card.merged) ++ owns.render.number ∷ owns.render.merged) ++ owns.root.number ∷ owns.root.merged
    → AllDiffer new.merged
    → new.journaled ≡ old.journaled + (owns.card.journaled + (owns.render.journaled + owns.root.journaled))
    → length owns.card.merged ≡ counts.cards → length owns.render.merged ≡ counts.renders → length owns.root.merged ≡ counts.roots
    → (sessions : List Session)
    × (sessions ≡ sessions_in cards.sittings ++ (sessions_in renders.sittings ++ sessions_in roots.sittings))
    × AreSessionsOf counts sessions × HaveSat counts new sessions × (new.journaled ≡ old.journaled + all_steps sessions)
three-sat counts owns old new cards renders roots seen merged differ journaled of_card of_render of_root =
    let c = sessions-taken Card _ cards counts.cards of_card in
    let r = sessions-taken Render _ renders counts.renders of_render in
    let o = sessions-taken Root _ roots counts.roots of_root in
    let parts =
    parted (IsSessionOf Card) (IsSessionOf Render) (IsSessionOf Root) counts (sessions_in cards.sittings) (sessions_in renders.sittings)
    (sessions_in roots.sittings) (length-sessions cards.sittings ∙ c) (length-sessions renders.sittings ∙ r)
    (of-class Card cards.sittings cards.of_class) (of-class Render renders.sittings renders.of_class) (of-class Root roots.sittings roots.of_class) in (
      sessions_in cards.sittings ++ (sessions_in renders.sittings ++ sessions_in roots.sittings),
      refl,
      record {
        count = (let a = length-append (sessions_in cards.sittings) (sessions_in renders.sittings ++ sessions_in roots.sittings) in let b = length-append (sessions_in renders.sittings) (sessions_in roots.sittings) in
            let ca = length-sessions cards.sittings in let re = length-sessions renders.sittings in let ro = length-sessions roots.sittings in omega (arith, a, b, c, r, o, ca, re, ro));
        cards = parts.0;
        renders = parts.1;
        roots = parts.2;
      },
      sat-of counts owns.card owns.render owns.root new cards.sittings renders.sittings roots.sittings c r cards.of_class
          renders.of_class roots.of_class cards.taken renders.taken roots.taken seen merged differ,
      (let card = cards.journaled in let render = renders.journaled in let root = roots.journaled in
          let steps = steps-three (sessions_in cards.sittings) (sessions_in renders.sittings) (sessions_in roots.sittings) in omega (arith, journaled, card, render, root, steps)),
    )

-- If each of three participants took in its own, the participant that takes in the three has taken in all.
pub all-sat : (counts : Counts) (untils : ByClass Until) (old new : ParticipantView) (accounts : Result (ByClass Account) ServeFault)
    → (h : HasGathered untils old new accounts) → length h.owns.card.merged ≡ counts.cards
    → length h.owns.render.merged ≡ counts.renders → length h.owns.root.merged ≡ counts.roots
    → HaveAllSat counts old new
all-sat counts untils old new accounts h of_card of_render of_root =
    let all =
    three-sat counts h.owns old new h.card h.render h.root h.seen h.merged h.differ h.journaled of_card of_render of_root
    in record { sessions = all.0; of_classes = all.2; sat = all.3; journaled = all.4 }

-- On a fault, too, the participant has taken in all.
pub all-sat-on-fault : (untils : ByClass Until) (old new : ParticipantView) (accounts : Result (ByClass Account) ServeFault)
    → HasGathered untils old new accounts → (counts : Counts) × HaveAllSat counts old new
all-sat-on-fault untils old new accounts h =
    let counts : Counts =
    record { cards = length h.owns.card.merged; renders = length h.owns.render.merged; roots = length h.owns.root.merged } in
    (counts, all-sat counts untils old new accounts h refl refl refl)

-- ---- listeners that count

-- how long the listeners of these counts accept connections
abbrev pub counted : Counts → ByClass Until
counted counts = record {
  card = untils.Counted counts.cards;
  render = untils.Counted counts.renders;
  root = untils.Counted counts.roots;
}

all-counted : (count : ℕ) (own : ParticipantView) (closing : Closing) → ClosesAs (untils.Counted count) 0 own closing
    → length own.merged ≡ count
all-counted count own closings.Last h = omega (arith, h)
all-counted count own (closings.Asked visitors) h = absurd h

kept-count : (class : Class) (count : ℕ) (own : ParticipantView) (account : Account) (served : HasServed class own)
    → AreKept (untils.Counted count) 0 account.sessions.items served.sittings
    → ClosesAs (untils.Counted count) 0 own account.closing → length account.sessions.items ≡ count
kept-count class count own account served kept closes =
    ap (λ (l : List Session). length l) (kept refl) ∙ length-sessions served.sittings
    ∙ sessions-taken class own served count (all-counted count own account.closing closes)

-- Each of three listeners kept as many sessions as it counts.
pub counted-counts : (counts : Counts) (old new : ParticipantView) (accounts : ByClass Account)
    → HasGathered (counted counts) old new (Ok accounts)
    → (length accounts.card.sessions.items ≡ counts.cards) × (length accounts.render.sessions.items ≡ counts.renders)
    × (length accounts.root.sessions.items ≡ counts.roots)
counted-counts counts old new accounts h = (
  kept-count Card counts.cards h.owns.card accounts.card h.are.0.0.0 h.are.0.0.1 h.are.0.1,
  kept-count Render counts.renders h.owns.render accounts.render h.are.1.0.0 h.are.1.0.1 h.are.1.1,
  kept-count Root counts.roots h.owns.root accounts.root h.are.2.0.0 h.are.2.0.1 h.are.2.1,
)

-- The sessions that three listeners kept, in this order, are those of their classes.
pub counted-sat : (counts : Counts) (old new : ParticipantView) (accounts : ByClass Account) (sessions : List Session)
    → HasGathered (counted counts) old new (Ok accounts)
    → sessions ≡ (accounts.card.sessions.items ++ accounts.render.sessions.items) ++ accounts.root.sessions.items
    → AreSessionsOf counts sessions × HaveSat counts new sessions × (new.journaled ≡ old.journaled + all_steps sessions)
counted-sat counts old new accounts sessions h is =
    let card = h.are.0 in
    let render = h.are.1 in
    let root = h.are.2 in
    let all =
    three-sat counts h.owns old new card.0.0 render.0.0 root.0.0 h.seen h.merged h.differ h.journaled
    (all-counted counts.cards h.owns.card accounts.card.closing card.1)
    (all-counted counts.renders h.owns.render accounts.render.closing render.1) (all-counted counts.roots h.owns.root accounts.root.closing root.1)
    in
    let same : all.0 ≡ sessions =
    all.1 ∙ (λ i. sym (card.0.1 refl) i ++ (sym (render.0.1 refl) i ++ sym (root.0.1 refl) i))
    ∙ sym (append_assoc accounts.card.sessions.items accounts.render.sessions.items accounts.root.sessions.items) ∙ sym is in
    subst (λ (l : List Session). AreSessionsOf counts l × HaveSat counts new l × (new.journaled ≡ old.journaled + all_steps l)) same
    (all.2, all.3, all.4)

-- ---- listeners that are asked to end

-- the listeners accept connections until they are asked to end
abbrev pub asked : ByClass Until
asked = record { card = untils.Asked; render = untils.Asked; root = untils.Asked }

-- A listener that doesn't count was closed because it was asked to end.
pub was-asked : (threads : ℕ) (own : ParticipantView) (closing : Closing) → ClosesAs untils.Asked threads own closing
    → IsAsked closing
was-asked threads own closings.Last h = absurd h
was-asked threads own (closings.Asked visitors) h = tt

-- A device that was shared by all sessions of three listeners has the history of these sessions.
pub all-served : (counts : Counts) (before after : DeviceValue) (first last : ParticipantView)
    → (first.origin ≡ before) × (first.seen ≡ journaled_before before) → first.journaled ≡ 0
    → Same first last × StartsWith last.seen first.seen → HaveAllSat counts first last → Closes last after
    → length after.journal ≡ length last.origin.journal + last.journaled → HasServedAll counts before after
all-served counts before after first last seen none same h closes counted =
    let log : List Entry = closes.0 in
    let origin : last.origin ≡ before = same.0.2 ∙ seen.0 in
    let begun : StartsWith last.seen (journaled_before before) =
    subst (λ (l : List Entry). StartsWith last.seen l) seen.1 same.1 in
    let told = told-by-class log counts last h.sessions closes.3 h.sat in
    record {
      sessions = h.sessions;
      count = h.of_classes.count;
      cards = h.of_classes.cards;
      renders = h.of_classes.renders;
      roots = h.of_classes.roots;
      history = record {
        log = log;
        device = closes.1 ∙ ap (λ (d : DeviceValue). device_at d log) origin;
        legal = subst (λ (d : DeviceValue). IsLegal d log) origin closes.2;
        begins = starts_on log last.seen (journaled_before before) closes.3 begun;
        sittings = h.sat.sittings;
        are = h.sat.are;
        cards = told.0;
        renders = told.1;
        roots = told.2;
        differ = h.sat.differ;
      };
      journaled =
          (let more = h.journaled in let long = ap (λ (d : DeviceValue). length d.journal) origin in omega (arith, counted, more, none, long));
    }
