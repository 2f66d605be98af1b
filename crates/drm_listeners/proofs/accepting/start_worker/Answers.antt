use Rattle.std.proofs.Common.{◌+◌, ap, refl, sym, ◌∙◌}
use Rattle.std.proofs.lemmas.List.Elements.{All-push, All-same}
use Rattle.std.specs.Prelude.{IsSomeAnd, Some}
use Rattle.drm_turns.specs.Participants.{ParticipantView}
use Rattle.drm_listeners.specs.Accepting.{IsPromised}
use Rattle.drm_listeners.proofs.Workers.{promised-still, served-more, still-for, threadless-for}
use Rattle.drm_listeners.proofs.accepting.start_worker.Goals as goal

pub returns-in-Ok-clause-served : goal.returns-in-Ok-clause-served
returns-in-Ok-clause-served g c =
    let same = c.split-participant.ensures.same in
    still-for c.args.terms c.args.pool.now.outcomes c.args.pool.now.sessions.items c.args.own.now c.split-participant.new.participant (ap (λ (s : ParticipantView). s.seen) same)
    (ap (λ (s : ParticipantView). s.merged) same) (ap (λ (s : ParticipantView). s.journaled) same) c.requires.served

pub returns-in-Ok-clause-promised : goal.returns-in-Ok-clause-promised
returns-in-Ok-clause-promised g c =
    let own : ParticipantView = c.split-participant.new.participant in
    let same = c.split-participant.ensures.same in
    let table = ap (λ (s : ParticipantView). s.table) same in
    let number = ap (λ (s : ParticipantView). s.number) same in
    let is = c.in-Ok.ensures.participant in
    let promise : IsPromised c.args.terms.class own c.in-Ok.thread.promise = record {
      of_class = c.in-Ok.ensures.class;
      table = ap (λ (s : ParticipantView). s.table) is ∙ c.split-participant.ensures.own.0 ∙ sym table;
      child = record {
        parent = ap (λ (s : ParticipantView). s.parent) is ∙ c.split-participant.ensures.parent ∙ sym number;
        outstanding = ap (λ (s : ParticipantView). s.outstanding) is ∙ c.split-participant.ensures.none_outstanding;
      };
    } in
    All-same (λ worker. IsSomeAnd worker (λ worker. IsPromised c.args.terms.class own worker.thread.promise)) _ _ c.push.ensures.items
    (All-push (λ worker. IsSomeAnd worker (λ worker. IsPromised c.args.terms.class own worker.thread.promise)) c.args.pool.now.workers.items _
    (promised-still (λ worker. worker.thread.promise) c.args.terms.class c.args.own.now own _ (table, number, ap (λ (s : ParticipantView). s.origin) same) c.requires.promised) promise)

pub returns-in-Err-clause-served : goal.returns-in-Err-clause-served
returns-in-Err-clause-served g c =
    let same = c.split-participant.ensures.same in
    let before =
    still-for c.args.terms c.args.pool.now.outcomes c.args.pool.now.sessions.items c.args.own.now c.split-participant.new.participant (ap (λ (s : ParticipantView). s.seen) same)
    (ap (λ (s : ParticipantView). s.merged) same) (ap (λ (s : ParticipantView). s.journaled) same) c.requires.served in
    let ended = c.in-Err.ensures.ended in
    threadless-for c.args.terms c.args.pool.now.outcomes.threadless (record c.args.pool.now.outcomes { threadless = c.args.pool.now.outcomes.threadless + 1 }) _ c.join.new.participant refl
    (served-more c.args.terms.class c.split-participant.new.participant c.join.new.participant c.in-Err.served.participant
    c.in-Err.served.session before.0 ended.0 c.join.ensures.extends.1 c.join.ensures.seen c.join.ensures.theirs
    c.join.ensures.merged ended.2 c.join.ensures.differ c.join.ensures.counts.1)
