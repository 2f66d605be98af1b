use Rattle.std.proofs.Common.{◌+◌, ap, sym, ◌∙◌, arith}
use Rattle.drm_index_array.proofs.Chains.{depth_none, depth_some, depth_low}
use Rattle.drm_masters.specs.Masters.{lessor_of}
use Rattle.drm_masters.proofs.MasterChains.{falls}
use Rattle.drm_masters.proofs.searches.+depth_of.Goals as goal

pub depth_of-requires : goal.depth_of-requires
depth_of-requires t c =
    let lt =
    falls c.args.masters.now.items c.requires.older c.args.step_number c.in-Some.lessor
    (sym c.lessor_of.ensures ∙ c.in-Some.is) in
    (omega (arith, lt, c.decreases), c.requires.older)

pub overflow_add-result : goal.overflow_add-result
overflow_add-result t c =
    let lt =
    falls c.args.masters.now.items c.requires.older c.args.step_number c.in-Some.lessor
    (sym c.lessor_of.ensures ∙ c.in-Some.is) in
    let low = depth_low (lessor_of c.args.masters.now.items) c.in-Some.lessor in
    omega (arith, lt, low, c.depth_of.ensures)

pub returns-in-Some : goal.returns-in-Some
returns-in-Some t c =
    ap (λ n. n + 1) c.depth_of.ensures
    ∙ sym
    (depth_some (lessor_of c.args.masters.now.items) (falls c.args.masters.now.items c.requires.older) c.args.step_number c.in-Some.lessor (sym c.lessor_of.ensures ∙ c.in-Some.is))

pub returns-in-None : goal.returns-in-None
returns-in-None t c =
    sym (depth_none (lessor_of c.args.masters.now.items) c.args.step_number (sym c.lessor_of.ensures ∙ c.in-None.is))
