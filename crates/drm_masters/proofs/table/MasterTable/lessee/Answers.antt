use Rattle.std.proofs.Common.{option_and_then, ap, sym, ◌∙◌}
use Rattle.drm_keys.proofs.KeyLemmas.{rise}
use Rattle.drm_masters.specs.Masters.{master_at}
use Rattle.drm_masters.specs.Ids.{id_at}
use Rattle.drm_masters.specs.Records.{items_of}
use Rattle.drm_masters.specs.Tables.{MasterRows, nothing}
use Rattle.drm_masters.proofs.MasterSlab.{key_of, step_number_of}
use Rattle.drm_masters.proofs.Owned.{found_by}
use Rattle.drm_masters.proofs.table.MasterTable.lessee.Goals as goal

pub returns-in_err-step_number : goal.returns-in_err-step_number
returns-in_err-step_number c =
    let ms = items_of c.self.inside in
    let up = rise key_of step_number_of nothing c.self.inside.keys.items c.self.inside.kept c.self.invariant.keyed in
    rw (← c.self.view_is)
    (c.from_residual.ensures ∙ ap (option_and_then (master_at ms)) c.in_err-step_number.ensures ∙ found_by ms up (id_at c.self.inside.ids) c.self.invariant.ids c.args.owner c.args.id)

pub returns : goal.returns
returns c =
    let ms = items_of c.self.inside in
    let up = rise key_of step_number_of nothing c.self.inside.keys.items c.self.inside.kept c.self.invariant.keyed in
    rw (← c.self.view_is)
    (c.at-2.ensures ∙ ap (λ (v : MasterRows). master_at v.items c.in_ok-step_number.step_number) (sym c.self.view_is) ∙ ap (option_and_then (master_at ms)) c.in_ok-step_number.ensures ∙ found_by ms up (id_at c.self.inside.ids) c.self.invariant.ids c.args.owner c.args.id)
