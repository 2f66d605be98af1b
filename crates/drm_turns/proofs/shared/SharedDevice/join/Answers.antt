use Rattle.std.proofs.Common.{arith, rules}
use Rattle.drm_turns.proofs.Ends.{joins_moves}
use Rattle.drm_turns.proofs.shared.SharedDevice.join.Goals as goal

pub join_seat-requires : goal.join_seat-requires
join_seat-requires c = (
  search rules,
  search rules,
  c.other.invariant.empty,
  (let w = c.self.invariant.0 in omega arith),
  joins_moves _ c.participant.inside.place.me.0 _ c.other.inside.place.me.0 c.participant.invariant.idle
      c.other.invariant.idle c.participant.invariant.numbered c.other.invariant.numbered,
)
