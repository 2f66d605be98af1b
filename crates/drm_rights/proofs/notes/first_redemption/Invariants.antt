use Rattle.std.proofs.Common.{◌≡◌, drop, find}
use Rattle.drm_rights.specs.Ledgers.{is_redemption}
use Rattle.drm_rights.proofs.notes.first_redemption.Given as goal

abbrev pub invariant-loop-master_state : goal.invariant-loop-master_state
invariant-loop-master_state l =
    find (is_redemption l.lessee) l.standings ≡ find (is_redemption l.lessee) (drop l.master_state-index l.standings)
