use Rattle.std.proofs.Common.{subst}
use Rattle.drm_sessions.specs.declared.class.Class.{Class}
use Rattle.drm_listeners.specs.Connections.{IsSessionBy}
use Rattle.drm_listeners.proofs.Workers.{more-for}
use Rattle.drm_listeners.proofs.accepting.join_worker.Goals as goal

pub returns-clause-served : goal.returns-clause-served
returns-clause-served g c =
    let by = c.join-participant.ensures in
    let other = c.join-participant.result.participant in
    let session = c.join-participant.result.session in
    λ outcomes served.
    more-for c.args.terms outcomes c.args.sessions.now.items c.keep.new.sessions.items c.args.own.now c.join.new.participant other session
    served c.keep.ensures.kept (subst (λ (class : Class). IsSessionBy class other session) c.requires.promised.of_class by.0) c.join.ensures.extends.1
    c.join.ensures.seen c.join.ensures.theirs c.join.ensures.merged by.2 c.join.ensures.differ c.join.ensures.counts.1
