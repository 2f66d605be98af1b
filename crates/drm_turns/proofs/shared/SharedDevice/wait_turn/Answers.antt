use Rattle.std.proofs.Common.{ap, sym, ◌∙◌, arith}
use Rattle.drm_turns.specs.Rule.{Sat}
use Rattle.drm_turns.proofs.Moves.{looks_moves}
use Rattle.drm_turns.proofs.shared.SharedDevice.wait_turn.Goals as goal

pub load-now-requires : goal.load-now-requires
load-now-requires g c = let kept = c.loop.invariant in (
  kept.2 ∙ (c.requires.own ∙ sym c.self.view_is),
  (let w = c.self.invariant.0 in omega arith),
  looks_moves _ _ c.loop.place.me (ap (λ (m : Sat). m.0.stage) kept.4 ∙ c.requires.waiting.0),
)
