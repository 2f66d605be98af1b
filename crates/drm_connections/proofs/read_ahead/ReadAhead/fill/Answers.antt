use Rattle.std.proofs.Common.{◌∙◌, ℕ, List, ◌++◌, take, drop, ap}
use Rattle.std.proofs.lemmas.List.{drop-append-le, length-take-le}
use Rattle.drm_connections.proofs.read_ahead.ReadAhead.fill.Goals as goal

pub returns : goal.returns
returns g c =
    let bytes : List ℕ = take c.in_ok-count.count c.read.new.buf in
    let old : List ℕ = c.self.inside.bytes.items in
    let items = c.in-Ok.ensures.items ∙ ap (λ l. l ++ bytes) c.reserve.ensures.items in (
      bytes,
      ap (drop c.self.inside.taken) items ∙ drop-append-le c.self.inside.taken old bytes c.self.invariant
          ∙ ap (λ l. l ++ bytes) c.self.view_is,
      c.in_ok-count.ensures.bytes.0,
      length-take-le c.in_ok-count.count c.read.new.buf c.in_ok-count.ensures.bound.0,
    )
