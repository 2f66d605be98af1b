use Rattle.std.proofs.Common.{◌∙◌}
use Rattle.drm_keys.proofs.KeyLemmas.{rise}
use Rattle.drm_masters.specs.Ids.{id_at}
use Rattle.drm_masters.specs.Records.{items_of}
use Rattle.drm_masters.specs.Tables.{nothing}
use Rattle.drm_masters.proofs.MasterSlab.{key_of, step_number_of}
use Rattle.drm_masters.proofs.Owned.{free_by}
use Rattle.drm_masters.proofs.table.MasterTable.free_id.Goals as goal

pub returns : goal.returns
returns c =
    let up = rise key_of step_number_of nothing c.self.inside.keys.items c.self.inside.kept c.self.invariant.keyed in
    rw (← c.self.view_is)
    (c.free.ensures ∙ free_by (items_of c.self.inside) up (id_at c.self.inside.ids) c.self.invariant.ids c.args.owner 1 c.args.last)
