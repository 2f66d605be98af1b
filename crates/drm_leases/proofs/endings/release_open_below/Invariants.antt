use Rattle.std.proofs.Common.{◌≡◌, length}
use Rattle.drm_leases.specs.Tokens.{TokenRows}
use Rattle.drm_leases.proofs.Releasing.{Releasing}
use Rattle.drm_leases.proofs.endings.release_open_below.Given as goal

-- those whose tokens were taken are released
abbrev pub invariant-loop-lessee : goal.invariant-loop-lessee
invariant-loop-lessee l =
    Releasing l.fn.masters l.fn.tokens.rows l.top l.masters l.tokens.rows
    × (l.tokens ≡ (let now : TokenRows = record l.fn.tokens { rows = l.tokens.rows } in now))

abbrev pub decreases-loop-lessee : goal.decreases-loop-lessee
decreases-loop-lessee l = length l.tokens.rows
