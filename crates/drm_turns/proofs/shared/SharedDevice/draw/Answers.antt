use Rattle.std.proofs.Common.{ap, sym, ◌∙◌, arith}
use Rattle.drm_turns.specs.Rule.{Sat}
use Rattle.drm_turns.proofs.Moves.{finds_moves, draws_moves}
use Rattle.drm_turns.proofs.shared.SharedDevice.draw.Goals as goal

pub load-found-requires : goal.load-found-requires
load-found-requires g c = let kept = c.loop.invariant in (
  kept.2 ∙ (c.requires.own ∙ sym c.self.view_is),
  (let w = c.self.invariant.0 in omega arith),
  finds_moves _ _ c.loop.place.me (ap (λ (m : Sat). m.0.stage) kept.4),
)

pub compare_exchange-requires : goal.compare_exchange-requires
compare_exchange-requires g c = let kept = c.loop.invariant in let found = c.load-found.ensures in (
  found.0 ∙ (kept.2 ∙ (c.requires.own ∙ sym c.self.view_is)),
  (let w = c.self.invariant.0 in omega arith),
  draws_moves _ _ c.load-found.new.seat.me c.load-found.result (ap (λ (m : Sat). m.0.stage) found.2.0)
      (let other = c.if-found.false in let fits = c.load-found.type_inv in omega arith),
)
