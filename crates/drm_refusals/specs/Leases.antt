-- The lease that a lessee id names (own).
use Rattle.std.specs.Prelude.{ℕ, List, Option, option_and_then}
use Rattle.drm_history.specs.History.{AnsweredEvent}
use Rattle.drm_history.specs.Lessees.{top_in}
use Rattle.drm_history.specs.MasterState.{master_in}
use Rattle.drm_rights.specs.Leases.{lease_of_id, leases_in}
use Rattle.drm_rights.specs.declared.notes.Lease.{Lease}

-- the last lease with the id under the owner of the client's master
abbrev pub lease_meant : List AnsweredEvent → ℕ → ℕ → Option Lease
lease_meant history c id =
    option_and_then (λ m. lease_of_id (leases_in history) (top_in history m) id) (master_in history c)
