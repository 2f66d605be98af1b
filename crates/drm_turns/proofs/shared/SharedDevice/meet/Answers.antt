use Rattle.std.proofs.Common.{arith, rules}
use Rattle.drm_turns.proofs.Ends.{meets_moves}
use Rattle.drm_turns.proofs.shared.SharedDevice.meet.Goals as goal

pub join_seat-requires : goal.join_seat-requires
join_seat-requires c = (
  search rules,
  search rules,
  c.note.invariant.empty,
  (let w = c.self.invariant.0 in omega arith),
  meets_moves _ c.participant.inside.place.me.0 _ c.note.inside.place.me.0 c.participant.invariant.idle
      c.note.invariant.idle c.participant.invariant.numbered,
)
