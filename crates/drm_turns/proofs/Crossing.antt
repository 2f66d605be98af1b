-- That threads may share a device, and take participants of it along.
use mir.Syntax.{Sym}
use denote.RattleType.{RattleType}
use denote.Struct.Declared.{shape}
use denote.Struct.Field.{row_field}
use denote.Struct.Tuple.{TupleAt, parts, type_at}
use denote.Param.Send.{IsSend, IsSync, recorded_send, recorded_sync, sendable, struct_send, struct_sync, view_send, view_sync}
use denote.Param.SendFields.{FieldsHave, as_row_send, declared_send}
use Rattle.std.proofs.Common.{List, [], ◌∷◌}
use Rattle.std.proofs.Crossing.{crosses, frees, send}
use Rattle.atomic_table.proofs.send_lease.SendLease.TheSendSync as lease
use Rattle.atomic_table.proofs.shared.Shared.TheSendSync as steps
use Rattle.atomic_table.proofs.shared.Seat.TheSendSync as place
use Rattle.drm_device.proofs.Crossing.{device_send}
use Rattle.drm_turns.specs.contracts.seat.Seat as participant
use Rattle.drm_turns.specs.contracts.seat.Seat.TheInside as participant_inside
use Rattle.drm_turns.specs.contracts.shared.SharedDevice as shared
use Rattle.drm_turns.specs.contracts.shared.SharedDevice.TheInside as inside

inside_sync : IsSync inside.the_row
inside_sync =
    recorded_sync inside.the_field.row _ _ inside.the_type.to_one
    (struct_sync (shape inside.the_type) (search (lease.the_sync, steps.the_sync, send, frees, device_send, crosses, sendable) depth 20, (search (crosses, sendable) depth 20, tt)))

-- Threads may share a shared device.
pub shared_sync : IsSync shared.the_row
shared_sync = view_sync inside.the_row _ _ _ _ inside_sync

participant_inside_send : IsSend participant_inside.the_row
participant_inside_send =
    recorded_send participant_inside.the_field.row _ _ participant_inside.the_type.to_one
    (struct_send (shape participant_inside.the_type) (search (place.the_send, device_send, crosses, sendable) depth 20, tt))

-- A participant may be sent to another thread.
pub participant_send : IsSend participant.the_row
participant_send = view_send participant_inside.the_row _ _ _ _ participant_inside_send

-- ---- closures, by what they take along

abbrev pub AllCross : List RattleType → Type 0
AllCross [] = Unit {0}
AllCross (T ∷ Ts) = IsSend T × AllCross Ts

parts_send : (Ts : List RattleType) → AllCross Ts → FieldsHave IsSend (parts Ts)
parts_send [] s = tt
parts_send (T ∷ Ts) s = (as_row_send (row_field T) s.0, parts_send Ts s.1)

-- A closure may be sent to another thread if all that it takes along may.
pub closure_send : (name : Sym) (Ts : List RattleType) → AllCross Ts → IsSend (TupleAt name Ts)
closure_send name Ts s = declared_send (type_at name Ts) (parts_send Ts s)
