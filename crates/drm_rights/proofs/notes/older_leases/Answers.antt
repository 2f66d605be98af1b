use Rattle.std.proofs.Common.{◌<◌, ◌≤◌, ltb, ltb-true, ltb-false, arith, rules}
use Rattle.std.proofs.lemmas.List.Sorted.{IsPartitionPoint-from_clause, IsPartitionedBy-ltb}
use Rattle.drm_index_array.proofs.Orders.{in_order_weaker}
use Rattle.drm_rights.specs.declared.notes.Lease.{Lease}
use Rattle.drm_trails.proofs.RisingLemmas.{up}
use Rattle.drm_rights.proofs.notes.older_leases.Goals as goal

pub returns-clause-older : goal.returns-clause-older
returns-clause-older c =
    let rise =
    in_order_weaker (λ (x y : Lease). x.master < y.master) (λ (x y : Lease). x.master ≤ y.master)
    (λ x y lt. omega (arith, lt)) c.args.leases.now c.requires in
    let parted =
    IsPartitionedBy-ltb (λ (l : Lease). l.master) _ c.args.master
    (up (λ (l : Lease). l.master) c.args.leases.now rise) in
    let point =
    IsPartitionPoint-from_clause (λ (l : Lease). ltb l.master c.args.master) _ _
    c.partition_point.ensures.partitioned parted (λ a r q k. search rules) in
    λ k d low lt. ltb-true _ _ (point.0 k d low lt)

pub returns-clause-others : goal.returns-clause-others
returns-clause-others c =
    let rise =
    in_order_weaker (λ (x y : Lease). x.master < y.master) (λ (x y : Lease). x.master ≤ y.master)
    (λ x y lt. omega (arith, lt)) c.args.leases.now c.requires in
    let parted =
    IsPartitionedBy-ltb (λ (l : Lease). l.master) _ c.args.master
    (up (λ (l : Lease). l.master) c.args.leases.now rise) in
    let point =
    IsPartitionPoint-from_clause (λ (l : Lease). ltb l.master c.args.master) _ _
    c.partition_point.ensures.partitioned parted (λ a r q k. search rules) in
    λ k d low lt. let no = ltb-false _ _ (point.1 k d low lt) in omega (arith, no)
