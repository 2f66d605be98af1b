use Rattle.std.proofs.Common.{◌≡◌, ℕ, ◌-◌, Bool, not, List, filter, length, take}
use Rattle.std.specs.List.{list_any}
use Rattle.drm_index_array.specs.Chains.{is_under}
use Rattle.drm_masters.specs.Masters.{lessor_of, lessees_of}
use Rattle.drm_masters.specs.declared.rows.Master.{Master}
use Rattle.drm_leases.specs.declared.rows.Lease.{Lease}
use Rattle.drm_leases.proofs.endings.+end_leases_below.Given as goal

abbrev pub decreases-end_leases_below : goal.decreases-end_leases_below
decreases-end_leases_below l = 4294967296 - l.top

-- whether it is one of the lessees that were looked at, or below one
abbrev is_looked : (ms : List Master) (top position n : ℕ) → Bool
is_looked ms top position n = list_any (λ y. is_under (lessor_of ms) y n) (take position (lessees_of ms top))

-- their leases are removed
abbrev pub invariant-loop-lessee : goal.invariant-loop-lessee
invariant-loop-lessee l =
    l.granted.rows ≡ filter (λ (x : Lease). not (is_looked l.masters.masters l.top l.position x.lessee))
    l.fn.granted.rows

abbrev pub decreases-loop-lessee : goal.decreases-loop-lessee
decreases-loop-lessee l = length (lessees_of l.masters.masters l.top) - l.position
