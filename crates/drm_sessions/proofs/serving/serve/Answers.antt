use Rattle.drm_sessions.specs.Gates.{Gated}
use Rattle.drm_sessions.proofs.Gating.{Serves-gated}
use Rattle.drm_sessions.proofs.Finishing.{serves-unread, serves-no-hello, serves-session}
use Rattle.drm_sessions.proofs.Costing.{costs-read, costs-no-hello, costs-session}
use Rattle.drm_sessions.proofs.Openings.{opening-said}
use Rattle.drm_sessions.proofs.serving.serve.Goals as goal

pub returns-in-Err-clause-serves : goal.returns-in-Err-clause-serves
returns-in-Err-clause-serves g c =
    let came = rw c.new-inbox.ensures at c.in-Err.ensures.reads.0 in
    Serves-gated g.A.Access.answers g.G.Gate.passes
    (serves-unread (Gated g.A.Access.answers g.G.Gate.passes) _ _ _ _ came c.in-Err.ensures.reads.1)

pub returns-in-Err-clause-costs : goal.returns-in-Err-clause-costs
returns-in-Err-clause-costs g c =
    costs-read _ _ c.in-Err.ensures.reads.0 c.in-Err.ensures.reads.1 c.in-Err.ensures.reads.2 c.in-Err.ensures.reads.3

pub returns-in-Some-clause-serves : goal.returns-in-Some-clause-serves
returns-in-Some-clause-serves g c =
    let used = rw c.new-inbox.ensures at c.in_default.ensures.reads.1 in
    Serves-gated g.A.Access.answers g.G.Gate.passes
    (serves-session (Gated g.A.Access.answers g.G.Gate.passes) used (opening-said _ _ _ _ c.in_default.ensures.reads.2 c.opening_of.ensures) c.in-Some.is c.run_session.ensures.continues)

pub returns-in-Some-clause-costs : goal.returns-in-Some-clause-costs
returns-in-Some-clause-costs g c =
    costs-session _ c.in_default.ensures.reads.1 c.run_session.ensures.moves c.run_session.ensures.shows
    c.run_session.ensures.tells

pub returns-in-None-clause-serves : goal.returns-in-None-clause-serves
returns-in-None-clause-serves g c =
    let used = rw c.new-inbox.ensures at c.in_default.ensures.reads.1 in
    Serves-gated g.A.Access.answers g.G.Gate.passes
    (serves-no-hello (Gated g.A.Access.answers g.G.Gate.passes) _ _ _ used (opening-said _ _ _ _ c.in_default.ensures.reads.2 c.opening_of.ensures) c.in-None.is)

pub returns-in-None-clause-costs : goal.returns-in-None-clause-costs
returns-in-None-clause-costs g c = costs-no-hello _ c.in_default.ensures.reads.1
