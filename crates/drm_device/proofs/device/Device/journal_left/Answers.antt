use Rattle.drm_device.proofs.Devices.{journal_left_is}
use Rattle.drm_device.proofs.device.Device.journal_left.Goals as goal

pub returns : goal.returns
returns c =
    record
    { left = rw (c.len.ensures, c.len-2.ensures, ← c.self.view_is) (journal_left_is c.self.inside c.self.invariant) }
