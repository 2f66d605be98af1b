use Rattle.std.proofs.Common.{ap}
use Rattle.drm_trails.specs.Steps.{followed_by, history_of}
use Rattle.drm_rights.proofs.LedgerLemmas.{no_ledger}
use Rattle.drm_rights.proofs.ledger.Ledger.new.Goals as goal

pub invariant_of-result : goal.invariant_of-result
unfolding followed_by
invariant_of-result c =
    rw
    (c.new.ensures, c.new-2.ensures.items, c.new-3.ensures.items, c.new-4.ensures.items, c.new-5.ensures.items, c.new-6.ensures.items, c.new-7.ensures.items, c.new-8.ensures.items)
    no_ledger

pub returns : goal.returns
unfolding followed_by
returns c = ap history_of c.new.ensures
