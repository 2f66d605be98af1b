use Rattle.std.proofs.Common.{sym, ◌∙◌, arith}
use Rattle.drm_index_array.proofs.Chains.{top_none, top_some}
use Rattle.drm_masters.specs.Masters.{lessor_of}
use Rattle.drm_masters.proofs.MasterChains.{falls}
use Rattle.drm_masters.proofs.searches.+owner_of.Goals as goal

pub owner_of-requires : goal.owner_of-requires
owner_of-requires t c =
    let lt =
    falls c.args.masters.now.items c.requires.older c.args.step_number c.in-Some.lessor
    (sym c.lessor_of.ensures ∙ c.in-Some.is) in
    (omega (arith, lt, c.decreases), c.requires.older)

pub returns-in-Some : goal.returns-in-Some
returns-in-Some t c =
    c.owner_of.ensures
    ∙ top_some (lessor_of c.args.masters.now.items) (falls c.args.masters.now.items c.requires.older) c.args.step_number
    c.in-Some.lessor (sym c.lessor_of.ensures ∙ c.in-Some.is)

pub returns-in-None : goal.returns-in-None
returns-in-None t c =
    top_none (lessor_of c.args.masters.now.items) c.args.step_number (sym c.lessor_of.ensures ∙ c.in-None.is)
