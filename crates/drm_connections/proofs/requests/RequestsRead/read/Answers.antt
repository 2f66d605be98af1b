use Rattle.std.proofs.Common.{◌≡◌, ℕ, List, ◌++◌, take, drop, arith, length-append}
use Rattle.std.proofs.lemmas.List.{take-append-le, length-take-le, length-drop}
use Rattle.std.proofs.KnownBytes.{Keeps-refl}
use Rattle.std.specs.Io.KnownBytes.{Keeps}
use Rattle.drm_connections.specs.Requests.{requests_left}
use Rattle.drm_connections.proofs.Looking.{later}
use Rattle.drm_connections.proofs.requests.RequestsRead.read.Goals.{then-self-eq0+in_ok-wait_for_room, else-self-eq0}
use Rattle.drm_connections.proofs.requests.RequestsRead.read.Goals as goal

pub returns-clause-bytes : goal.returns-clause-bytes
returns-clause-bytes g c =
    let left = requests_left g.S.Read.remaining in
    let n : ℕ = c.in_ok-count.count in
    let part : List ℕ = c.read_next.new.buf in
    let rest : List ℕ = drop c.min-most.result c.args.buf.now in
    let ready : Keeps (left c.settle.new.self) (left c.if-self-eq0.self) = elim c.if-self-eq0.branch [
      | then-self-eq0+in_ok-wait_for_room w ↦ rw w.self-is w.wait_for_room.ensures.kept
      | else-self-eq0 w ↦ rw w.self-is (Keeps-refl _)
    ] in
    let front : take n (part ++ rest) ≡ take n part = take-append-le n part rest c.in_ok-count.ensures.bound.0 in
    let read = c.in_ok-count.ensures.bytes in
    let same = c.admit_after.ensures in (
      rw (front, same) (later _ _ _ _ _ c.settle.ensures.kept ready read.0),
      λ none some.
          let most = length-take-le c.min-most.result c.args.buf.now (omega (arith, c.min-most.ensures)) in
          let after = length-drop c.min-most.result c.args.buf.now in
          let whole = length-append part rest in
          rw same (read.1 none (omega (arith, most, after, whole, some, c.read_next.auto.buf, c.min-most.ensures))),
    )
