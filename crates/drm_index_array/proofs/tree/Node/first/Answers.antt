use Rattle.drm_index_array.proofs.RootLemmas.{beyond, first_beyond}
use Rattle.drm_index_array.proofs.tree.Node.first.Goals as goal

pub returns-then-not-covers-clause-first : goal.returns-then-not-covers-clause-first
returns-then-not-covers-clause-first g c =
    first_beyond c.args.self.now _ c.args.from (beyond _ _ c.if-not-covers.ensures.covers.1)
