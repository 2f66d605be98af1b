use denote.Param.Send.{sendable}
use Rattle.std.proofs.Common.{◌≡◌, ℕ, List, [], ◌∷◌, ◌++◌, sym, ap, ◌∙◌, subst, arith}
use Rattle.std.proofs.Crossing.{crosses}
use Rattle.drm_turns.specs.Participants.{ParticipantView}
use Rattle.drm_turns.proofs.Crossing.{shared_sync}
use Rattle.drm_connections.proofs.open_connections.OpenConnections.TheSendSync as connections
use Rattle.drm_listeners.specs.declared.listener.Until.{Until}
use Rattle.drm_listeners.specs.declared.listeners.ByClass.{ByClass}
use Rattle.drm_listeners.specs.Listeners.{AreAccounted}
use Rattle.drm_listeners.proofs.serving.serve_shared.Goals as goal

pub returns-clause-gathered : goal.returns-clause-gathered
returns-clause-gathered g c =
    let served = c.serve_listeners-participants.ensures in
    let owns = c.serve_listeners-participants.result.participants in
    let first = c.split.ensures.same in
    let second = c.split-2.ensures.same in
    let third = c.split-3.ensures.same in
    let none : c.split-3.new.participant.merged ≡ [] =
    ap (λ (s : ParticipantView). s.merged) third ∙ (ap (λ (s : ParticipantView). s.merged) second ∙ (ap (λ (s : ParticipantView). s.merged) first ∙ c.requires.merged)) in
    let before =
    ap (λ (s : ParticipantView). s.journaled) third
    ∙ (ap (λ (s : ParticipantView). s.journaled) second ∙ ap (λ (s : ParticipantView). s.journaled) first) in
    let more = c.take_in.ensures.journaled in
    record {
      owns = owns;
      card = served.card.served;
      render = served.render.served;
      root = served.root.served;
      are =
          subst (λ (untils : ByClass Until). AreAccounted untils owns c.serve_listeners-participants.result.accounts)
          (λ i. record { card = c.until.ensures.until i; render = c.until-2.ensures.until i; root = c.until-3.ensures.until i })
          served.accounts;
      seen = c.take_in.ensures.seen;
      merged =
          c.take_in.ensures.merged
          ∙ ap (λ (l : List ℕ). ((l ++ owns.card.number ∷ owns.card.merged) ++ owns.render.number ∷ owns.render.merged) ++ owns.root.number ∷ owns.root.merged) none;
      differ = c.take_in.ensures.differ;
      journaled = omega (arith, before, more);
    }

pub take_in-requires-clause-children : goal.take_in-requires-clause-children
take_in-requires-clause-children g c =
    let served = c.serve_listeners-participants.ensures in
    let second = ap (λ (s : ParticipantView). s.number) c.split-2.ensures.same in
    let third = ap (λ (s : ParticipantView). s.number) c.split-3.ensures.same in
    let first = ap (λ (s : ParticipantView). s.number) c.split.ensures.same in record {
      card =
          record
          { parent = served.card.unchanged.0 ∙ c.split.ensures.parent ∙ sym (third ∙ (second ∙ first)); outstanding = served.card.unchanged.1 ∙ c.split.ensures.none_outstanding };
      render =
          record
          { parent = served.render.unchanged.0 ∙ c.split-2.ensures.parent ∙ sym (third ∙ second); outstanding = served.render.unchanged.1 ∙ c.split-2.ensures.none_outstanding };
      root =
          record
          { parent = served.root.unchanged.0 ∙ c.split-3.ensures.parent ∙ sym third; outstanding = served.root.unchanged.1 ∙ c.split-3.ensures.none_outstanding };
    }

pub serve_listeners-participants-requires-sync-D : goal.serve_listeners-participants-requires-sync-D
serve_listeners-participants-requires-sync-D g c κs within =
    search (shared_sync, connections.the_sync, crosses, sendable) depth 60 fits 10000
