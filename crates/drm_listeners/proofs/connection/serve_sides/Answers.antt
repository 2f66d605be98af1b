use Rattle.drm_listeners.proofs.connection.serve_sides.Goals as goal

pub returns-clause-serves : goal.returns-clause-serves
returns-clause-serves g c = c.serve_witnessed.ensures.serves.0
