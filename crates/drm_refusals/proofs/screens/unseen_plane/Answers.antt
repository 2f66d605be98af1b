use Rattle.std.proofs.Common.{◌≡◌, ◌==◌, false, Some, arith}
use Rattle.std.proofs.lemmas.Bool.Decides.{nat_tests}
use Rattle.drm_modes.specs.declared.kinds.Kind.TheVariants.{Crtc, Plane}
use Rattle.drm_refusals.specs.Kinds as kinds
use Rattle.drm_refusals.proofs.LoopLemmas.{both_ok, found_unless}
use Rattle.drm_refusals.proofs.screens.unseen_plane.Goals as goal

pub returns-clause-has : goal.returns-clause-has
returns-clause-has c =
    let sees = kinds.sees_in c.args.context.topology.now c.args.context.ledger.now c.args.client in
    let named : (c.args.framebuffer == 0) ≡ false = grind (arith, nat_tests) in
    both_ok c.unseen-2.result
    (λ more kept has. found_unless (sees (Some Plane) c.args.plane) (c.args.framebuffer == 0) (sees (Some Crtc) c.args.crtc)
    (kinds.Shows c.in_ok-found.found.items kinds.is_mode_object) (kinds.Shows more.items kinds.is_mode_object) named
    c.in_ok-found.ensures.has (kept kinds.is_mode_object) has)
    c.unseen-2.ensures.kept c.unseen-2.ensures.has
