use Rattle.std.proofs.Common.{◌≤◌, ◌==◌, ◌&&◌, ◌||◌, length, sym, ◌∙◌, ap, subst}
use Rattle.std.proofs.lemmas.List.{take_all}
use Rattle.std.proofs.lemmas.List.Sorted.{IsNonDecreasingBy-from_sort, list_any-IsPermutation}
use Rattle.drm_index_array.specs.Numbers.{is_among}
use Rattle.drm_modes.specs.Topology.{planes_of}
use Rattle.drm_rights.specs.Leases.{lent_in, listed_in}
use Rattle.drm_rights.proofs.LendingLemmas.{all_lent}
use Rattle.drm_rights.proofs.ledger.Ledger.leased.Goals as goal

pub returns-clause-lent : goal.returns-clause-lent
returns-clause-lent c = λ x.
    let past = c.args.self.now in
    let listed = listed_in past c.args.master in
    let lent = lent_in c.args.topology.now past c.args.master x in
    let planes =
    c.ids-plane-items.ensures.ids ∙ c.planes_of-planes.ensures
    ∙ ap (planes_of c.args.topology.now) c.listed-listed.ensures in
    sym
    (list_any-IsPermutation (λ y. y == x) c.loop-plane.ids.items c.sort_unstable.new.self.items c.sort_unstable.ensures.permutation)
    ∙ c.loop-plane.invariant x
    ∙ ap (λ ps. is_among listed x || (is_among ps x && lent))
    (take_all c.loop-plane.plane-index (planes_of c.args.topology.now listed) (subst (λ ps. length ps ≤ c.loop-plane.plane-index) planes c.loop-plane-test.false))
    ∙ all_lent c.args.topology.now past c.args.master x

pub returns-clause-rising : goal.returns-clause-rising
returns-clause-rising c =
    IsNonDecreasingBy-from_sort (λ x. x) c.sort_unstable.new.self.items c.sort_unstable.ensures.sorted
