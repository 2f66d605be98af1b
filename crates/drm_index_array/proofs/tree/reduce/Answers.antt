use Rattle.drm_index_array.proofs.CutLemmas.{reduced_tells}
use Rattle.drm_index_array.proofs.tree.reduce.Goals as goal

pub returns-clause-tells : goal.returns-clause-tells
returns-clause-tells g c =
    reduced_tells c.args.height c.args.slot.now c.args.at c.requires.slot _ _ c.requires.vacant c.requires.unmarked
    (c.has_marks.ensures c.if-has_marks.false) _ c.any_below-is_used.ensures c.remove.ensures.taken
    c.remove.ensures.vacant c.remove.ensures.marked
