use Rattle.std.proofs.Common.{arith, ap, rules}
use Rattle.drm_turns.specs.Rule.{Sat}
use Rattle.drm_turns.proofs.Ends.{splits_moves, settles_moves}
use Rattle.drm_turns.proofs.shared.SharedDevice.split.Goals as goal

pub split_seat-place-requires : goal.split_seat-place-requires
split_seat-place-requires c =
    (search rules, (let w = c.self.invariant.0 in omega arith), splits_moves _ c.participant.inside.place.me.0 c.participant.invariant.idle c.participant.invariant.numbered)

pub load-requires : goal.load-requires
load-requires c = let made = c.split_seat-place.ensures in (
  search rules,
  (let w = c.self.invariant.0 in omega arith),
  settles_moves _ _ c.split_seat-place.result.me (ap (λ (m : Sat). m.0.stage) made.4),
)
