use Rattle.std.proofs.Common.{option_and_then, slice_get, ap, sym, ◌∙◌}
use Rattle.std.specs.FinMap as fin
use Rattle.slab.specs.Slab.{get}
use Rattle.drm_keys.proofs.KeyLemmas.{by_step_number, at_position}
use Rattle.drm_masters.specs.Masters.{master_at}
use Rattle.drm_masters.specs.Tables.{MasterRows, nothing}
use Rattle.drm_masters.proofs.MasterSlab.{key_of, step_number_of}
use Rattle.drm_masters.proofs.table.MasterTable.nth.Goals as goal

pub returns-in_err-step_number : goal.returns-in_err-step_number
returns-in_err-step_number c =
    let keys = c.self.inside.keys.items in
    let kept = c.self.inside.kept in
    c.from_residual.ensures
    ∙ ap (option_and_then (λ b. option_and_then (get kept) (fin.get keys b))) c.in_err-step_number.ensures.nth
    ∙ at_position key_of step_number_of nothing keys kept c.self.invariant.keyed c.args.position
    ∙ ap (λ (v : MasterRows). slice_get v.items c.args.position) c.self.view_is

pub returns : goal.returns
returns c =
    let keys = c.self.inside.keys.items in
    let kept = c.self.inside.kept in
    c.at.ensures
    ∙ ap (λ (v : MasterRows). master_at v.items c.in_ok-step_number.step_number) (sym c.self.view_is)
    ∙ by_step_number key_of step_number_of nothing keys kept c.self.invariant.keyed c.in_ok-step_number.step_number
    ∙ ap (option_and_then (λ b. option_and_then (get kept) (fin.get keys b))) c.in_ok-step_number.ensures.nth
    ∙ at_position key_of step_number_of nothing keys kept c.self.invariant.keyed c.args.position
    ∙ ap (λ (v : MasterRows). slice_get v.items c.args.position) c.self.view_is
