use Rattle.std.proofs.Common.{ℕ, List, take, arith}
use Rattle.std.proofs.lemmas.List.{length-take-le}
use Rattle.std.proofs.KnownBytes.{Keeps-trans}
use Rattle.drm_connections.proofs.Looking.{kept, removed}
use Rattle.drm_connections.proofs.requests.Requests.remove_seen.Goals.{in-Ok, in-Err}
use Rattle.drm_connections.proofs.requests.Requests.remove_seen.Goals as goal

pub loop-preserved : goal.loop-preserved
loop-preserved g c =
    let part = length-take-le c.min-most.result c.loop.self.removed (omega (arith, c.min-most.ensures)) in
    let size = c.read.auto.buf in
    elim c.match-read.branch [
      | in-Ok w ↦
          let n : ℕ = w.in-Ok.count in
          let bytes : List ℕ = take n c.read.new.buf in
          rw w.self-is (Keeps-trans _ _ _ c.loop.invariant (removed _ _ _ bytes _ n w.in-Ok.ensures.bytes.0 (length-take-le n c.read.new.buf w.in-Ok.ensures.bound.0) (omega (arith, part, size, w.in-Ok.ensures.bound.0, c.min-most.ensures))))
      | in-Err w ↦ rw w.self-is (Keeps-trans _ _ _ c.loop.invariant (kept _ _ _ _ w.in-Err.ensures.bytes))
    ]
