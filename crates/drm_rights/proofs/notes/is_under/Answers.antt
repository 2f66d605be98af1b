use Rattle.std.proofs.Common.{◌≡◌, ◌==◌, ◌||◌, false, sym, ◌∙◌, ap, arith}
use Rattle.std.proofs.lemmas.Bool.Decides.{nat_tests}
use Rattle.drm_index_array.specs.Chains as chains
use Rattle.drm_index_array.proofs.Chains.{itself, under_none, under_some}
use Rattle.drm_rights.specs.Leases.{lessor_noted}
use Rattle.drm_rights.proofs.LeaseLemmas.{noted_falls}
use Rattle.drm_rights.proofs.notes.is_under.Goals as goal

pub returns-then-at-top : goal.returns-then-at-top
returns-then-at-top c =
    let above = lessor_noted c.args.leases.now in
    sym (itself above c.lessors.at c.lessors.at) ∙ ap (λ top. chains.is_under above top c.lessors.at) c.if-at-top.true
    ∙ sym c.lessors.invariant

pub returns-in-None : goal.returns-in-None
returns-in-None c =
    let above = lessor_noted c.args.leases.now in
    let other : (c.lessors.at == c.args.top) ≡ false = (let differ = c.if-at-top.false in grind (arith, nat_tests)) in
    sym (under_none above c.args.top c.lessors.at (sym c.lessor_of.ensures.lessor ∙ c.in-None.is) ∙ other)
    ∙ sym c.lessors.invariant

pub lessors-preserved : goal.lessors-preserved
lessors-preserved c =
    let above = lessor_noted c.args.leases.now in
    let other : (c.lessors.at == c.args.top) ≡ false = (let differ = c.if-at-top.false in grind (arith, nat_tests)) in
    c.lessors.invariant
    ∙ under_some above (noted_falls c.args.leases.now) c.args.top c.lessors.at c.in-Some.lessor
    (sym c.lessor_of.ensures.lessor ∙ c.in-Some.is)
    ∙ ap (λ b. b || chains.is_under above c.args.top c.in-Some.lessor) other
