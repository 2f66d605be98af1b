use Rattle.std.proofs.Common.{ap, ◌∙◌}
use Rattle.std.specs.Prelude.{slice_get}
use Rattle.drm_keys.proofs.KeyLemmas.{rise}
use Rattle.drm_masters.specs.Masters.{lessees_of}
use Rattle.drm_masters.specs.Records.{items_of}
use Rattle.drm_masters.specs.Tables.{MasterRows, nothing}
use Rattle.drm_masters.proofs.MasterSlab.{key_of, step_number_of}
use Rattle.drm_masters.proofs.LesseesOfMasters.{numbers_are}
use Rattle.drm_masters.proofs.table.MasterTable.nth_lessee.Goals as goal

pub returns : goal.returns
returns c =
    let up = rise key_of step_number_of nothing c.self.inside.keys.items c.self.inside.kept c.self.invariant.keyed in
    c.nth.ensures
    ∙ ap (λ l. slice_get l c.args.position)
    (numbers_are (items_of c.self.inside) up c.self.inside.lessees c.self.invariant.lessees c.args.lessor)
    ∙ ap (λ (v : MasterRows). slice_get (lessees_of v.items c.args.lessor) c.args.position) c.self.view_is
