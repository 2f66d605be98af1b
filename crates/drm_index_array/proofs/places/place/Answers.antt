use Rattle.std.proofs.Common.{◌/◌, ◌∙◌}
use Rattle.std.proofs.lemmas.Nat.{and_mask}
use Rattle.drm_index_array.specs.Tree.{width}
use Rattle.drm_index_array.proofs.SlotLemmas.{place_in_node}
use Rattle.drm_index_array.proofs.places.place.Goals as goal

pub returns : goal.returns
returns c = and_mask (c.args.index / width c.args.height) 6 ∙ place_in_node c.args.height c.args.index
