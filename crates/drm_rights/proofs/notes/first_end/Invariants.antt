use Rattle.std.proofs.Common.{◌≡◌, drop, find}
use Rattle.drm_rights.specs.Leases.{is_ended_by}
use Rattle.drm_rights.proofs.notes.first_end.Given as goal

abbrev pub invariant-loop-end : goal.invariant-loop-end
invariant-loop-end l =
    find (is_ended_by l.leases l.master) l.ends ≡ find (is_ended_by l.leases l.master) (drop l.end-index l.later)
