use Rattle.std.proofs.Common.{◌≡◌, ℕ, ◌&&◌, ◌||◌, take}
use Rattle.drm_index_array.specs.Numbers.{is_among}
use Rattle.drm_modes.specs.Topology.{planes_of}
use Rattle.drm_rights.specs.Leases.{lent_in, listed_in}
use Rattle.drm_rights.proofs.ledger.Ledger.leased.Given as goal

-- what was listed, and the planes so far that the step lent
abbrev pub invariant-loop-plane : goal.invariant-loop-plane
invariant-loop-plane l =
    (x : ℕ)
    → is_among l.ids.items x ≡ (is_among (listed_in l.self l.master) x || (is_among (take l.plane-index (planes_of l.topology (listed_in l.self l.master))) x && lent_in l.topology l.self l.master x))
