use Rattle.std.proofs.Common.{arith}
use Rattle.drm_leases.proofs.Bits.{first_has}
use Rattle.drm_leases.proofs.masks.without.Goals as goal

pub returns : goal.returns
returns c = λ x. first_has c.args.mask c.args.other x (omega (arith, c.ranges.other.fits))
