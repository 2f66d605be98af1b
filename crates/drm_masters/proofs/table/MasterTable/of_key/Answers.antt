use Rattle.std.proofs.Common.{find, ap, sym, ◌∙◌}
use Rattle.drm_keys.proofs.KeyLemmas.{by_key}
use Rattle.drm_masters.specs.Masters.{is_key}
use Rattle.drm_masters.specs.Tables.{MasterRows, nothing}
use Rattle.drm_masters.proofs.MasterSlab.{key_of, step_number_of}
use Rattle.drm_masters.proofs.table.MasterTable.of_key.Goals as goal

pub returns-in_err-master : goal.returns-in_err-master
returns-in_err-master c =
    c.from_residual.ensures
    ∙ c.in_err-master.ensures
    ∙ sym
    (by_key key_of step_number_of nothing c.self.inside.keys.items c.self.inside.kept c.self.invariant.keyed c.number.result)
    ∙ ap (λ (v : MasterRows). find (is_key c.number.result) v.items) c.self.view_is
    ∙ ap (λ k. find (is_key k) c.args.self.now.items) c.number.ensures

pub returns : goal.returns
returns c =
    c.in_ok-master.ensures
    ∙ sym
    (by_key key_of step_number_of nothing c.self.inside.keys.items c.self.inside.kept c.self.invariant.keyed c.number.result)
    ∙ ap (λ (v : MasterRows). find (is_key c.number.result) v.items) c.self.view_is
    ∙ ap (λ k. find (is_key k) c.args.self.now.items) c.number.ensures
