use Rattle.std.proofs.Common.{◌∙◌, ap, is_some}
use Rattle.drm_index_array.proofs.NodeLemmas.{node_any}
use Rattle.drm_index_array.proofs.RootLemmas.{view_past}
use Rattle.drm_index_array.proofs.tree.Node.any.Goals as goal

pub returns-clause-any : goal.returns-clause-any
returns-clause-any g c =
    c.is_some.ensures ∙ ap is_some c.first_one.ensures
    ∙ node_any _ _ _ _ c.self.invariant.sound c.self.view_is c.args.sought _ c.word.ensures

pub returns-clause-past : goal.returns-clause-past
returns-clause-past g c = view_past _ _ _ c.self.view_is
