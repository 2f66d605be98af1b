use Rattle.drm_sessions.proofs.Sharing.{Serves-through}
use Rattle.drm_sessions.proofs.through.serve_witnessed.Goals as goal

pub returns-clause-serves : goal.returns-clause-serves
returns-clause-serves g c =
    Serves-through g.G.Gate.passes _ _ _ _ _ _ c.witnessed-through.ensures.participant c.into_seat.ensures.participant
    c.serve-session.ensures.serves
