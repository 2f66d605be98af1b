use Rattle.std.proofs.Common.{refl, sym, ◌∙◌}
use Rattle.drm_modes.proofs.PlanesAre.{overlays_are, topology_made}
use Rattle.drm_modes.proofs.topologies.Topology.new.Goals as goal

pub invariant_of-result : goal.invariant_of-result
invariant_of-result c =
    rw (c.list_of.ensures, c.overlays.ensures, c.list_of-2.ensures, c.list_of-3.ensures)
    (topology_made c.args.crtcs c.args.planes.now _ c.args.encoders.now c.args.connectors.now (sym c.are_objects.ensures.value ∙ c.if-not-are_objects.false) (overlays_are c.args.crtcs c.args.planes.now))

pub returns-clause-made : goal.returns-clause-made
returns-clause-made c =
    let is =
    topology_made c.args.crtcs c.args.planes.now _ c.args.encoders.now c.args.connectors.now
    (sym c.are_objects.ensures.value ∙ c.if-not-are_objects.false) (overlays_are c.args.crtcs c.args.planes.now) in
    (λ made. is, λ is. refl)
