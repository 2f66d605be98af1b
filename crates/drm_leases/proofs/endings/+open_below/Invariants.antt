use Rattle.std.proofs.Common.{◌≡◌, ℕ, ◌-◌, true, false, length, take}
use Rattle.std.specs.List.{list_any}
use Rattle.drm_index_array.specs.Chains.{is_under}
use Rattle.drm_masters.specs.Masters.{lessor_of, lessees_of}
use Rattle.drm_leases.specs.Leases.{has_token}
use Rattle.drm_leases.proofs.endings.+open_below.Given as goal

abbrev pub decreases-open_below : goal.decreases-open_below
decreases-open_below l = 4294967296 - l.top

-- neither the lessees that were looked at nor those below them have a token
abbrev pub invariant-loop-lessee : goal.invariant-loop-lessee
invariant-loop-lessee l =
    (n : ℕ) → list_any (λ y. is_under (lessor_of l.masters.masters) y n)
    (take l.position (lessees_of l.masters.masters l.top)) ≡ true → has_token l.tokens.rows n ≡ false

abbrev pub decreases-loop-lessee : goal.decreases-loop-lessee
decreases-loop-lessee l = length (lessees_of l.masters.masters l.top) - l.position
