use Rattle.std.proofs.Common.{◌≡◌, ◌+◌, Bool, true, ◌&&◌, length, refl, sym, ◌∙◌}
use Rattle.drm_modes.specs.Topology.{are_objects}
use Rattle.drm_modes.proofs.Ids.{list_all-numbers_from}
use Rattle.drm_modes.proofs.topologies.are_objects.Goals as goal
use Rattle.drm_modes.proofs.topologies.are_objects.Goals.{then-are_masks, else-are_masks}

-- four tests, of which all but the last pass
last_of_four : (counts planes encoders connectors : Bool) → counts ≡ true → planes ≡ true → encoders ≡ true
    → connectors ≡ (counts && planes && encoders && connectors)
last_of_four counts planes encoders connectors c p e = rw (c, p, e) refl

pub returns-then-are_masks-2-clause-value : goal.returns-then-are_masks-2-clause-value
unfolding are_objects
returns-then-are_masks-2-clause-value c =
    elim c.if-are_masks.branch [
      | then-are_masks w ↦
          c.are_encoders.ensures
          ∙ sym
          (list_all-numbers_from (c.args.crtcs + 1 + length c.args.planes.now) (length c.args.encoders.now) c.args.connectors.now)
          ∙ last_of_four _ _ _ _ (sym c.are_counts.ensures ∙ c.if-not-are_counts.false)
          (sym c.are_masks.ensures ∙ w.if-are_masks.true)
          (sym w.are_masks-then-are_masks.ensures ∙ sym w.value-is ∙ c.if-are_masks-2.true)
      | else-are_masks w ↦ absurd (cc)
    ]
