use Rattle.std.proofs.Common.{◌||◌, ap, sym, ◌∙◌}
use Rattle.std.proofs.Math.Bool.{or-false}
use Rattle.drm_leases.specs.Masks.{has_object}
use Rattle.drm_leases.proofs.Bits.{one_set, none_outside}
use Rattle.drm_leases.proofs.masks.with_number.Goals as goal

pub returns-then-not-is_fixed : goal.returns-then-not-is_fixed
returns-then-not-is_fixed c = λ x ge le.
    sym
    (ap (λ b. has_object c.args.mask x || b) (none_outside c.args.number x ge le c.if-not-is_fixed.ensures.1) ∙ or-false (has_object c.args.mask x))

pub returns : goal.returns
returns c = λ x ge le. one_set c.args.mask c.args.number x (c.is_fixed.ensures.0 c.if-not-is_fixed.false)
