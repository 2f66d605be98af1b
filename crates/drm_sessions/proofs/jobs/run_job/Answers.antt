use Rattle.drm_sessions.proofs.Sharing.{Served-as}
use Rattle.drm_sessions.proofs.jobs.run_job.Goals as goal

pub returns-clause-served : goal.returns-clause-served
returns-clause-served g c =
    let served = Served-as g.G.Gate.passes _ _ _ _ c.of.ensures c.serve_through-participant.ensures.serves in
    record { serves = served.0; gated = (c.serve_through-participant.new.gate, served.1); costs = c.serve_through-participant.ensures.costs }
