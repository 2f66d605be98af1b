use Rattle.std.specs.Io.KnownBytes.{Keeps}
use Rattle.drm_connections.specs.Requests.{requests_left}
use Rattle.drm_connections.proofs.requests.Requests.remove_seen.Given as goal

abbrev pub invariant-loop : goal.invariant-loop
invariant-loop g l =
    Keeps (requests_left g.S.Read.remaining l.fn.self) (requests_left g.S.Read.remaining l.self)
