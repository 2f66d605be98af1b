use Rattle.std.proofs.Common.{◌<◌, ◌≤◌, leb, leb-true, arith, rules}
use Rattle.std.proofs.lemmas.List.Sorted.{IsPartitionPoint-from_clause, IsPartitionedBy-leb}
use Rattle.drm_index_array.proofs.Orders.{in_order_weaker}
use Rattle.drm_rights.specs.declared.notes.End.{End}
use Rattle.drm_trails.proofs.RisingLemmas.{up}
use Rattle.drm_rights.proofs.notes.older_ends.Goals as goal

pub returns-clause-older : goal.returns-clause-older
returns-clause-older c =
    let rise =
    in_order_weaker (λ (x y : End). x.step < y.step) (λ (x y : End). x.step ≤ y.step) (λ x y lt. omega (arith, lt))
    c.args.ends.now c.requires in
    let parted =
    IsPartitionedBy-leb (λ (e : End). e.step) _ c.args.step (up (λ (e : End). e.step) c.args.ends.now rise) in
    let point =
    IsPartitionPoint-from_clause (λ (e : End). leb e.step c.args.step) _ _ c.partition_point.ensures.partitioned
    parted (λ a r q k. search rules) in
    λ k d low lt. leb-true _ _ (point.0 k d low lt)
