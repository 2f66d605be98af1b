use Rattle.std.proofs.Common.{◌<◌, ◌≤◌, ltb, ltb-false, arith, rules}
use Rattle.std.proofs.lemmas.List.Sorted.{IsPartitionPoint-from_clause, IsPartitionedBy-ltb}
use Rattle.drm_index_array.proofs.Orders.{in_order_weaker}
use Rattle.drm_trails.specs.declared.searches.Touch.{Touch}
use Rattle.drm_trails.proofs.RisingLemmas.{up}
use Rattle.drm_trails.proofs.searches.older_touches.Goals as goal

pub returns-clause-others : goal.returns-clause-others
returns-clause-others c =
    let rise =
    in_order_weaker (λ (x y : Touch). x.past < y.past) (λ (x y : Touch). x.past ≤ y.past)
    (λ x y lt. omega (arith, lt)) c.args.touches.now c.requires in
    let parted =
    IsPartitionedBy-ltb (λ (t : Touch). t.past) _ c.args.moment (up (λ (t : Touch). t.past) c.args.touches.now rise)
    in
    let point =
    IsPartitionPoint-from_clause (λ (t : Touch). ltb t.past c.args.moment) _ _ c.partition_point.ensures.partitioned
    parted (λ a r q k. search rules) in
    λ k d low lt. let no = ltb-false _ _ (point.1 k d low lt) in omega (arith, no)
