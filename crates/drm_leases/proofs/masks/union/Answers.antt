use Rattle.drm_leases.proofs.Bits.{either_has}
use Rattle.drm_leases.proofs.masks.union.Goals as goal

pub returns : goal.returns
returns c = λ x. either_has c.args.mask c.args.other x
