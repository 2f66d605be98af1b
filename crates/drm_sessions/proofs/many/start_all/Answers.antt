use Rattle.std.proofs.Common.{◌≡◌, ◌∷◌, [], length, sym, ap, ◌∙◌, subst, length-append, arith}
use Rattle.std.proofs.lemmas.List.Elements.{All-head, All-push, All-tail}
use denote.Exit.{no}
use denote.Param.Send.{arg_sync, param_sync}
use Rattle.drm_turns.specs.Participants.{IsChild, IsSplitOff, ParticipantView}
use Rattle.drm_turns.proofs.Crossing.{shared_sync}
use Rattle.drm_turns.proofs.ParticipantsIn.{still_but_out}
use Rattle.drm_sessions.specs.Jobs.{HasTurns}
use Rattle.drm_sessions.proofs.Matching.{Matched-push}
use Rattle.drm_sessions.proofs.many.start_all.Goals as goal

pub loop-job-preserved : goal.loop-job-preserved
loop-job-preserved g c =
    let before = c.loop-job.invariant in
    let taken = ap (λ xs. length xs) c.in-Some.ensures.steps.0 in
    let pushed = ap (λ xs. length xs) c.push_reserved.ensures.items in
    let grown = length-append c.loop-job.handles.items (c.in-Some-start_job.handle ∷ []) in
    let split : IsSplitOff c.args.own.now c.split-participant.result = record {
      table = c.split-participant.ensures.own.0 ∙ ap (λ (s : ParticipantView). s.table) before.own;
      origin = c.split-participant.ensures.own.1 ∙ ap (λ (s : ParticipantView). s.origin) before.own;
      mine = c.split-participant.ensures.fresh.0;
      merged = c.split-participant.ensures.fresh.1;
      journaled = c.split-participant.ensures.counts.1;
    } in
    let child : IsChild c.args.own.now c.split-participant.result = record {
      parent = c.split-participant.ensures.parent ∙ ap (λ (s : ParticipantView). s.number) before.own;
      outstanding = c.split-participant.ensures.none_outstanding;
    } in
    record {
      can = tt;
      ends = tt;
      own = still_but_out c.args.own.now _ _ _ before.own c.split-participant.ensures.same;
      outstanding =
          (let more = ap (λ (s : ParticipantView). s.outstanding) c.split-participant.ensures.same in let outstanding = before.outstanding in omega arith);
      turns =
          All-tail (λ job. HasTurns g.S.Source.trace g.K.Sink.trace job) _ _
          (rw c.in-Some.ensures.steps.0 at before.turns);
      started =
          rw c.push_reserved.ensures.items
          (Matched-push (λ job handle. handle.promise.job.value ≡ job) _ _ _ _ before.started c.in-Some-start_job.ensures.job);
      split = rw c.push_reserved.ensures.items (All-push (λ handle. IsSplitOff c.args.own.now handle.promise.participant.value) _ _ before.split
          (subst (λ (s : ParticipantView). IsSplitOff c.args.own.now s) (sym c.in-Some-start_job.ensures.participant) split));
      children = rw c.push_reserved.ensures.items (All-push (λ handle. IsChild c.args.own.now handle.promise.participant.value) _ _ before.children
          (subst (λ (s : ParticipantView). IsChild c.args.own.now s) (sym c.in-Some-start_job.ensures.participant) child));
      room = (let room = before.room in let capacity = c.push_reserved.ensures.capacity in omega arith);
    }

pub start_job-requires-sync-D : goal.start_job-requires-sync-D
start_job-requires-sync-D g c κs within = param_sync _ _ (arg_sync _ no _ shared_sync)

pub start_job-requires-clause-turns : goal.start_job-requires-clause-turns
start_job-requires-clause-turns g c κs within =
    All-head (λ job. HasTurns g.S.Source.trace g.K.Sink.trace job) _ _
    (rw c.in-Some.ensures.steps.0 at c.loop-job.invariant.turns)
