use Rattle.drm_sessions.proofs.DeviceRuns.{Runs-answers, Runs-history}
use Rattle.drm_sessions.proofs.Mapping.{Serves-map, Runs-same}
use Rattle.drm_sessions.proofs.alone.serve_lent.Goals as goal

pub returns-clause-same : goal.returns-clause-same
returns-clause-same g c =
    let served = c.serve.ensures.serves in
    Runs-same (λ a. a.0.ghost_name) _ (λ a event result b h. h.0) _ _ _ served.0.made

pub returns-clause-serves : goal.returns-clause-serves
unfolding Serves-map
returns-clause-serves g c =
    let served = Serves-map (λ a. a.0.now) _ _ (λ a event result b h. h.1) c.serve.ensures.serves.0 in
    record { serves = served; gated = c.serve.ensures.serves.1; answers = Runs-answers _ _ _ served.made; history = Runs-history _ _ _ served.made }
