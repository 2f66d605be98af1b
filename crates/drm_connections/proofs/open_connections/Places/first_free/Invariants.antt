use Rattle.drm_connections.specs.Places.{NoneFreeBefore}
use Rattle.drm_connections.proofs.open_connections.Places.first_free.Given as goal

abbrev pub invariant-loop-place : goal.invariant-loop-place
invariant-loop-place l = NoneFreeBefore l.self.places.items l.place
