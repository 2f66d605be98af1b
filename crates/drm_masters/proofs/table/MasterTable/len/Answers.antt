use Rattle.std.proofs.Common.{length, ap, sym, ◌∙◌}
use Rattle.drm_keys.proofs.KeyLemmas.{many}
use Rattle.drm_masters.specs.Tables.{MasterRows, nothing}
use Rattle.drm_masters.proofs.MasterSlab.{key_of, step_number_of}
use Rattle.drm_masters.proofs.table.MasterTable.len.Goals as goal

pub returns : goal.returns
returns c =
    c.len.ensures.len
    ∙ sym (many key_of step_number_of nothing c.self.inside.keys.items c.self.inside.kept c.self.invariant.keyed)
    ∙ ap (λ (v : MasterRows). length v.items) c.self.view_is
