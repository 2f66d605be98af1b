-- That a state may cross threads.
use denote.Struct.Declared.{shape}
use denote.Param.Send.{IsSend, struct_send}
use Rattle.drm_files.proofs.Crossing.{files_send}
use Rattle.drm_gem.proofs.Crossing.{objects_send}
use Rattle.drm_leases.proofs.Crossing.{leases_send}
use Rattle.drm_masters.proofs.Crossing.{masters_send}
use Rattle.drm_modes.proofs.Crossing.{modes_send}
use Rattle.drm_share.proofs.Crossing.{names_send, tokens_send}
use Rattle.drm_state.specs.contracts.state.State as state

-- A state may be sent to another thread.
pub state_send : IsSend state.the_field.row
state_send =
    struct_send (shape state.the_type)
    (files_send, (masters_send, (leases_send, (objects_send, (names_send, (tokens_send, (modes_send, tt)))))))
