use Rattle.std.proofs.Common.{true, refl, sym, arith}
use Rattle.drm_index_array.proofs.Least.{least_is, least_is_none}
use Rattle.drm_masters.proofs.ids.first_id.Goals as goal

pub returns-then-last-eq0 : goal.returns-then-last-eq0
returns-then-last-eq0 c =
    sym (least_is_none (λ id. true) 1 c.args.last (λ k low high. absurd (omega (arith, low, high, c.if-last-eq0.true))))

pub returns : goal.returns
returns c =
    sym
    (least_is (λ id. true) 1 c.args.last 1 (record { at_least = omega arith; at_most = omega (arith, c.if-last-eq0.false); passes = refl; none_below = λ k low lt. absurd (omega (arith, low, lt)) }))
