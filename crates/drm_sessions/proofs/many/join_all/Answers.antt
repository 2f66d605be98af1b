use Rattle.std.proofs.Common.{rules, ◌≡◌, ◌∷◌, [], ◌++◌, List, length, refl, sym, ap, ◌∙◌, subst, length-append, arith}
use Rattle.std.proofs.lemmas.List.{map_push}
use Rattle.std.proofs.lemmas.List.Elements.{All-head, All-same, All-tail}
use Rattle.drm_turns.specs.Participants.{HasTakenIn, IsChild, IsSplitOff, ParticipantView}
use Rattle.drm_turns.proofs.ParticipantsIn.{given_back, none-taken-in, one-more-taken-in}
use Rattle.drm_sessions.specs.Serving.{all_steps}
use Rattle.drm_sessions.specs.Jobs.{IsServed, participants_of, sessions_of}
use Rattle.drm_sessions.proofs.Joining.{all_steps-done}
use Rattle.drm_sessions.proofs.Matching.{Matched-push}
use Rattle.drm_sessions.proofs.many.join_all.Goals as goal

pub loop-handle-init : goal.loop-handle-init
loop-handle-init g c = record {
  can = tt;
  ends = tt;
  same = (refl, refl, refl);
  parent = refl;
  outstanding = rw c.requires.empty (omega arith);
  split =
      All-same (λ handle. IsSplitOff c.args.own.now handle.promise.participant.value) _ _
      c.into_iter-handle-iterator.ensures.into_iter_gives.0 c.requires.split;
  children =
      All-same (λ handle. IsChild c.args.own.now handle.promise.participant.value) _ _
      c.into_iter-handle-iterator.ensures.into_iter_gives.0 c.requires.children;
  taken = rw c.requires.empty (none-taken-in _ c.requires.merged);
  served = search rules;
  journaled = rw c.requires.empty (omega arith);
  room = search rules;
}

pub loop-handle-preserved : goal.loop-handle-preserved
loop-handle-preserved g c =
    let before = c.loop-handle.invariant in
    let taken = ap (λ xs. length xs) c.in-Some.ensures.steps.0 in
    let pushed = ap (λ xs. length xs) c.push_reserved.ensures.items in
    let grown = length-append c.loop-handle.sessions.items (c.join-finished.result.finished ∷ []) in
    let finished = c.join-finished.result.finished in
    let ended : ParticipantView = c.join-finished.result.participant in
    let is : finished.participant.value ≡ ended = c.join-finished.ensures.1 in
    let split =
    All-head (λ handle. IsSplitOff c.args.own.now handle.promise.participant.value) _ _
    (rw c.in-Some.ensures.steps.0 at before.split) in
    let alone : ended.merged ≡ [] =
    ap (λ (s : ParticipantView). s.merged) (sym is) ∙ (c.join-finished.ensures.0.serves.merged ∙ split.merged) in
    let child =
    All-head (λ handle. IsChild c.args.own.now handle.promise.participant.value) _ _
    (rw c.in-Some.ensures.steps.0 at before.children) in
    let unchanged = c.join-finished.ensures.0.serves.unchanged in
    let fewer = given_back c.loop-handle.own.number c.loop-handle.own.outstanding ended.parent ended.outstanding
    (ap (λ (s : ParticipantView). s.parent) (sym is) ∙ (unchanged.0 ∙ (child.parent ∙ sym before.same.1))) (ap (λ (s : ParticipantView). s.outstanding) (sym is) ∙ (unchanged.1 ∙ child.outstanding)) in
    let kept = c.join.ensures.extends in
    let more =
    one-more-taken-in _ _ ended _ before.taken kept.1 c.join.ensures.seen c.join.ensures.theirs
    c.join.ensures.merged alone c.join.ensures.differ in
    record {
      can = tt;
      ends = tt;
      same = (kept.0.0 ∙ before.same.0, kept.0.1 ∙ before.same.1, kept.0.2 ∙ before.same.2);
      parent = c.join.ensures.parent ∙ before.parent;
      outstanding = (let all = before.outstanding in let now = c.join.ensures.outstanding ∙ fewer in omega arith);
      split =
          All-tail (λ handle. IsSplitOff c.args.own.now handle.promise.participant.value) _ _
          (rw c.in-Some.ensures.steps.0 at before.split);
      children =
          All-tail (λ handle. IsChild c.args.own.now handle.promise.participant.value) _ _
          (rw c.in-Some.ensures.steps.0 at before.children);
      taken = rw c.push_reserved.ensures.items
          (subst (λ (l : List ParticipantView). HasTakenIn c.join.new.participant l) (sym (map_push (λ done. done.participant.value) c.loop-handle.sessions.items finished))
          (subst (λ (s : ParticipantView). HasTakenIn c.join.new.participant (participants_of c.loop-handle.sessions.items ++ s ∷ [])) (sym is) more));
      served =
          rw c.push_reserved.ensures.items
          (Matched-push (λ handle done. IsServed g.G.Gate.passes g.S.Source.trace g.K.Sink.trace handle.promise.participant.value handle.promise.job.value done) _ _ _ _ before.served c.join-finished.ensures.0);
      journaled = (let all = before.journaled in let now = c.join.ensures.counts.1 in let own = c.join-finished.ensures.0.serves.journaled in let none = split.journaled in let same = ap (λ (s : ParticipantView). s.journaled) is in
          let steps = ap (λ l. all_steps (sessions_of l)) c.push_reserved.ensures.items ∙ all_steps-done c.loop-handle.sessions.items finished in omega arith);
      room = (let room = before.room in let capacity = c.push_reserved.ensures.capacity in omega arith);
    }

pub join-requires-clause-own : goal.join-requires-clause-own
join-requires-clause-own g c = c.loop-handle.invariant.same.0 ∙ c.requires.own

pub join-requires-clause-other : goal.join-requires-clause-other
join-requires-clause-other g c =
    let split =
    All-head (λ handle. IsSplitOff c.args.own.now handle.promise.participant.value) _ _
    (rw c.in-Some.ensures.steps.0 at c.loop-handle.invariant.split) in
    ap (λ (s : ParticipantView). s.table) (sym c.join-finished.ensures.1)
    ∙ (c.join-finished.ensures.0.serves.same.0 ∙ (split.table ∙ c.requires.own))
