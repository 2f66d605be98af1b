-- That names and tokens may cross threads.
use denote.Struct.Declared.{shape}
use denote.Param.Send.{IsSend, sendable, view_send, recorded_send, struct_send}
use Rattle.drm_index_array.proofs.Crossing.{array_send}
use Rattle.drm_id_alloc.proofs.Crossing.{groups_send, table_send}
use Rattle.drm_share.specs.contracts.names.Names as names
use Rattle.drm_share.specs.contracts.names.Names.TheInside as names_inside
use Rattle.drm_share.specs.contracts.tokens.Export as export
use Rattle.drm_share.specs.contracts.tokens.Tokens as tokens
use Rattle.drm_share.specs.contracts.tokens.Tokens.TheInside as tokens_inside

names_inside_send : IsSend names_inside.the_row
names_inside_send =
    recorded_send names_inside.the_field.row _ _ names_inside.the_type.to_one (struct_send (shape names_inside.the_type) (search (table_send, sendable) depth 20, (search (array_send, sendable) depth 20, tt)))

-- Names may cross threads.
pub names_send : IsSend names.the_row
names_send = view_send names_inside.the_row _ _ _ _ names_inside_send

export_send : IsSend export.the_row
export_send =
    recorded_send export.the_field.row _ _ export.the_type.to_one
    (struct_send (shape export.the_type) (search sendable depth 20, (search sendable depth 20, tt)))

tokens_inside_send : IsSend tokens_inside.the_row
tokens_inside_send =
    recorded_send tokens_inside.the_field.row _ _ tokens_inside.the_type.to_one (struct_send (shape tokens_inside.the_type) (search (table_send, export_send, sendable) depth 20, (groups_send, tt)))

-- Tokens may cross threads.
pub tokens_send : IsSend tokens.the_row
tokens_send = view_send tokens_inside.the_row _ _ _ _ tokens_inside_send
