use Rattle.std.proofs.Common.{◌<◌, sym, ◌∙◌, arith}
use Rattle.drm_turns.proofs.Ends.{splits_moves}
use Rattle.drm_turns.proofs.shared.SharedDevice.note.Goals as goal

pub split_seat-place-requires : goal.split_seat-place-requires
split_seat-place-requires c =
    ((search Rattle.std.proofs.Common.rules), (let w = c.self.invariant.0 in omega arith), splits_moves _ c.participant.inside.place.me.0 c.participant.invariant.idle c.participant.invariant.numbered)
