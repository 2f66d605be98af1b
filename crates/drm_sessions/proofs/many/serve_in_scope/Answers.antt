use Rattle.std.proofs.Common.{rules, ◌≡◌, ◌≤◌, subst, arith, vec_len}
use Rattle.std.specs.Vec.{vec_capacity}
use Rattle.std.proofs.lemmas.List.Elements.{All-weaker}
use Rattle.drm_turns.specs.Participants.{IsChild, IsSplitOff}
use Rattle.drm_turns.proofs.ParticipantsIn.{child_before, split_off_before}
use Rattle.drm_sessions.specs.Jobs.{IsServed, IsServedBeside}
use Rattle.drm_sessions.proofs.Matching.{Matched-beside, Matched-length}
use Rattle.drm_sessions.proofs.many.serve_in_scope.Goals as goal

pub join_all-requires-clause-reserved : goal.join_all-requires-clause-reserved
join_all-requires-clause-reserved g c κs within =
    let same = Matched-length (λ job handle. handle.promise.job.value ≡ job) _ _ c.in_ok-handles-2.ensures.started in
    let reserved : vec_len c.args.jobs ≤ vec_capacity c.in_ok-sessions.sessions = search rules in
    omega arith

pub join_all-requires-clause-split : goal.join_all-requires-clause-split
join_all-requires-clause-split g c κs within =
    let started = c.in_ok-handles-2.ensures in
    All-weaker (λ handle. IsSplitOff c.args.own.now handle.promise.participant.value) _
    (λ handle h. split_off_before c.args.own.now _ handle.promise.participant.value started.own h) _ started.split

pub join_all-requires-clause-children : goal.join_all-requires-clause-children
join_all-requires-clause-children g c κs within =
    let started = c.in_ok-handles-2.ensures in
    All-weaker (λ handle. IsChild c.args.own.now handle.promise.participant.value) _
    (λ handle h. child_before c.args.own.now _ handle.promise.participant.value started.own h) _ started.children

pub returns-clause-outstanding : goal.returns-clause-outstanding
returns-clause-outstanding g c =
    let started = c.in_ok-handles-2.ensures in
    let all =
    Matched-length
    (λ handle finished. IsServed g.G.Gate.passes g.S.Source.trace g.K.Sink.trace handle.promise.participant.value handle.promise.job.value finished)
    _ _ c.join_all.ensures.served in
    let more = started.outstanding in
    let fewer = c.join_all.ensures.outstanding in
    omega arith

pub returns-clause-served : goal.returns-clause-served
returns-clause-served g c =
    Matched-beside (λ handle. IsSplitOff c.args.own.now handle.promise.participant.value)
    (λ job handle. handle.promise.job.value ≡ job)
    (λ handle finished. IsServed g.G.Gate.passes g.S.Source.trace g.K.Sink.trace handle.promise.participant.value handle.promise.job.value finished)
    (λ job finished. IsServedBeside g.G.Gate.passes g.S.Source.trace g.K.Sink.trace c.args.own.now job finished)
    (λ job handle finished split is served. record { own = handle.promise.participant.value; split = split; served = subst (λ j. IsServed g.G.Gate.passes g.S.Source.trace g.K.Sink.trace handle.promise.participant.value j finished) is served })
    _ _ _ c.in_ok-handles-2.ensures.split c.in_ok-handles-2.ensures.started c.join_all.ensures.served
