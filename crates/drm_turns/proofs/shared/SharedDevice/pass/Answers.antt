use Rattle.std.proofs.Common.{sym, ◌∙◌, arith, []}
use Rattle.drm_turns.proofs.Moves.{passes_moves}
use Rattle.drm_turns.proofs.shared.SharedDevice.pass.Goals as goal

pub fetch_add-served-requires : goal.fetch_add-served-requires
fetch_add-served-requires c = (
  c.requires.own ∙ sym c.self.view_is,
  (let w = c.self.invariant.0 in omega arith),
  passes_moves _ _ c.args.place.now.me [] (let w = c.self.invariant.1 in omega arith) c.requires.serving
      c.requires.device,
)
