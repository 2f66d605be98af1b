use Rattle.std.proofs.Common.{◌≤◌, ◌*◌, ◌^◌, arith}
use Rattle.std.proofs.Math.Nat.{mod-eq_of_lt, mul-le-mul}
use Rattle.drm_index_array.specs.Tree.{width}
use Rattle.drm_index_array.proofs.SlotLemmas.{width_low}
use Rattle.drm_index_array.proofs.places.start.Goals as goal

pub returns : goal.returns
returns c =
    let low = width_low c.args.height c.requires.low in
    let slot : c.args.at ≤ 63 = omega (arith, c.requires.slot) in
    let m : c.args.at * width c.args.height ≤ 63 * 2 ^ 30 = mul-le-mul slot low in
    let value = mod-eq_of_lt {n = c.args.at * width c.args.height} {m = 2 ^ 64} (omega arith) in
    record { value = value; bound = rw value m; width = low }
