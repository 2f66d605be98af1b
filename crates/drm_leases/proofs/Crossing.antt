-- That leases may cross threads.
use denote.Struct.Declared.{shape}
use denote.Param.Send.{IsSend, sendable, view_send, recorded_send, struct_send}
use Rattle.drm_index_array.proofs.Crossing.{array_send}
use Rattle.drm_id_alloc.proofs.Crossing.{table_send}
use Rattle.drm_leases.specs.contracts.tokens.LeaseTokens as tokens
use Rattle.drm_leases.specs.contracts.tokens.LeaseTokens.TheInside as tokens_inside
use Rattle.drm_leases.specs.contracts.rows.LeaseRecord as kept
use Rattle.drm_leases.specs.contracts.lent.Lent as lent
use Rattle.drm_leases.specs.contracts.granted.Granted as granted
use Rattle.drm_leases.specs.contracts.granted.Granted.TheInside as granted_inside
use Rattle.drm_leases.specs.contracts.leases.Leases as leases
use Rattle.drm_leases.specs.contracts.leases.Leases.TheInside as inside

tokens_inside_send : IsSend tokens_inside.the_row
tokens_inside_send =
    recorded_send tokens_inside.the_field.row _ _ tokens_inside.the_type.to_one
    (struct_send (shape tokens_inside.the_type) (search (table_send, sendable) depth 20, (search (array_send, sendable) depth 20, tt)))

tokens_send : IsSend tokens.the_row
tokens_send = view_send tokens_inside.the_row _ _ _ _ tokens_inside_send

kept_send : IsSend kept.the_row
kept_send =
    recorded_send kept.the_field.row _ _ kept.the_type.to_one
    (struct_send (shape kept.the_type) (search sendable depth 20, (search sendable depth 20, (search sendable depth 20, tt))))

lent_send : IsSend lent.the_field.row
lent_send = struct_send (shape lent.the_type) (search (array_send, sendable) depth 20, tt)

granted_inside_send : IsSend granted_inside.the_row
granted_inside_send =
    recorded_send granted_inside.the_field.row _ _ granted_inside.the_type.to_one
    (struct_send (shape granted_inside.the_type) (search (array_send, kept_send, sendable) depth 20, (search (array_send, sendable) depth 20, (lent_send, tt))))

granted_send : IsSend granted.the_row
granted_send = view_send granted_inside.the_row _ _ _ _ granted_inside_send

inside_send : IsSend inside.the_row
inside_send =
    recorded_send
    inside.the_field.row
    _
    _
    inside.the_type.to_one
    (struct_send (shape inside.the_type) (granted_send, (tokens_send, tt)))

-- A set of leases may cross threads.
pub leases_send : IsSend leases.the_row
leases_send = view_send inside.the_row _ _ _ _ inside_send
