use Rattle.std.proofs.Common.{ap, ◌∙◌}
use Rattle.std.specs.List.{list_any}
use Rattle.drm_keys.proofs.KeyLemmas.{rise}
use Rattle.drm_masters.specs.Masters.{is_option}
use Rattle.drm_masters.specs.Records.{items_of}
use Rattle.drm_masters.specs.Tables.{MasterRows, nothing}
use Rattle.drm_masters.proofs.MasterSlab.{key_of, step_number_of}
use Rattle.drm_masters.proofs.LesseesOfMasters.{any_lessee}
use Rattle.drm_masters.proofs.table.MasterTable.has_lessee.Goals as goal

pub returns : goal.returns
returns c =
    let up = rise key_of step_number_of nothing c.self.inside.keys.items c.self.inside.kept c.self.invariant.keyed in
    c.is_some.ensures
    ∙ any_lessee (items_of c.self.inside) up c.self.inside.lessees c.self.invariant.lessees c.args.lessor c.next.result
    c.next.ensures.least c.next.ensures.none_above
    ∙ ap (λ (v : MasterRows). list_any (λ x. is_option c.args.lessor x.lessor) v.items) c.self.view_is
