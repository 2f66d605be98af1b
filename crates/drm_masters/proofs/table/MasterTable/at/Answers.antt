use Rattle.std.proofs.Common.{option_and_then, ap, sym, ◌∙◌}
use Rattle.slab.specs.Slab.{get}
use Rattle.drm_keys.proofs.KeyLemmas.{by_step_number}
use Rattle.drm_masters.specs.Masters.{master_at}
use Rattle.drm_masters.specs.Tables.{MasterRows, nothing}
use Rattle.drm_masters.proofs.MasterSlab.{key_of, step_number_of}
use Rattle.drm_masters.proofs.table.MasterTable.at.Goals as goal

pub returns-in_err-key : goal.returns-in_err-key
returns-in_err-key c =
    c.from_residual.ensures
    ∙ ap (option_and_then (get c.self.inside.kept)) c.in_err-key.ensures.value
    ∙ sym
    (by_step_number key_of step_number_of nothing c.self.inside.keys.items c.self.inside.kept c.self.invariant.keyed c.args.step_number)
    ∙ ap (λ (v : MasterRows). master_at v.items c.args.step_number) c.self.view_is

pub returns-in_err-master : goal.returns-in_err-master
returns-in_err-master c =
    c.from_residual-in_err-master.ensures
    ∙ c.in_err-master.ensures
    ∙ ap (option_and_then (get c.self.inside.kept)) c.in_ok-key.ensures.value
    ∙ sym
    (by_step_number key_of step_number_of nothing c.self.inside.keys.items c.self.inside.kept c.self.invariant.keyed c.args.step_number)
    ∙ ap (λ (v : MasterRows). master_at v.items c.args.step_number) c.self.view_is

pub returns : goal.returns
returns c =
    c.in_ok-master.ensures
    ∙ ap (option_and_then (get c.self.inside.kept)) c.in_ok-key.ensures.value
    ∙ sym
    (by_step_number key_of step_number_of nothing c.self.inside.keys.items c.self.inside.kept c.self.invariant.keyed c.args.step_number)
    ∙ ap (λ (v : MasterRows). master_at v.items c.args.step_number) c.self.view_is
