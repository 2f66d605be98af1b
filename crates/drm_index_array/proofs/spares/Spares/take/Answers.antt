use Rattle.std.proofs.Common.{◌≡◌, ap, arith}
use Rattle.std.specs.FinMap as map
use Rattle.drm_index_array.proofs.spares.Spares.take.Goals as goal

pub returns : goal.returns
returns g c =
    let high : c.in_ok-node.node.value.height ≡ c.args.height =
    omega (arith, c.if-height.false, c.height.ensures.height, ap (λ t. t.height) c.deref.ensures) in
    let empty =
    map.empty_of_len _ (rw c.deref-else-height.ensures at (c.is_empty.ensures.0 c.if-not-is_empty.false)) in
    λ i. record { height = high i; items = empty i }
