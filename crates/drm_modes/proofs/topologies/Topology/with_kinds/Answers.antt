use Rattle.std.proofs.Common.{refl, sym, ◌∙◌}
use Rattle.std.proofs.lemmas.Bool.{false≢true}
use Rattle.drm_modes.proofs.PlanesAre.{topology_made, objects_named}
use Rattle.drm_modes.proofs.topologies.Topology.with_kinds.Goals as goal

pub returns-then-not-are_objects-clause-made : goal.returns-then-not-are_objects-clause-made
returns-then-not-are_objects-clause-made c =
    (λ made. absurd (false≢true made), λ is. sym (sym c.are_objects.ensures.value ∙ c.if-not-are_objects.true) ∙ objects_named c.args.crtcs c.args.planes.now c.args.kinds.now c.args.encoders.now c.args.connectors.now is)

pub invariant_of-result : goal.invariant_of-result
invariant_of-result c =
    rw (c.list_of.ensures, c.list_of-2.ensures, c.list_of-3.ensures, c.list_of-4.ensures)
    (topology_made c.args.crtcs c.args.planes.now c.args.kinds.now c.args.encoders.now c.args.connectors.now (sym c.are_objects.ensures.value ∙ c.if-not-are_objects.false) (sym c.are_kinds.ensures.test ∙ c.if-not-are_kinds.false))

pub returns-clause-made : goal.returns-clause-made
returns-clause-made c =
    let is =
    topology_made c.args.crtcs c.args.planes.now c.args.kinds.now c.args.encoders.now c.args.connectors.now
    (sym c.are_objects.ensures.value ∙ c.if-not-are_objects.false)
    (sym c.are_kinds.ensures.test ∙ c.if-not-are_kinds.false) in
    (λ made. is, λ is. refl)
