use Rattle.std.proofs.Common.{sym, ◌∙◌, ap, find}
use Rattle.std.specs.Option.{is_some}
use Rattle.drm_index_array.proofs.FoundInLists.{is_some-map}
use Rattle.drm_files.specs.Files.{is_client}
use Rattle.drm_model.specs.Run.{rows_of}
use Rattle.drm_device.proofs.Devices.{room_to_open, room_to_ask, room_to_close_open, room_to_close}
use Rattle.drm_device.proofs.device.Device.has_room.Goals as goal

pub returns-in-Open : goal.returns-in-Open
returns-in-Open c =
    rw (c.in-Open.is, ← ap rows_of c.self.view_is, c.len.ensures, c.len-clients.ensures)
    (room_to_open c.self.inside c.self.invariant c.in-Open.field-0)

pub returns-in-Ask : goal.returns-in-Ask
returns-in-Ask c =
    rw (c.in-Ask.is, ← ap rows_of c.self.view_is, c.len.ensures, c.len-clients.ensures)
    (room_to_ask c.self.inside c.self.invariant c.in-Ask.field-0 c.in-Ask.field-1)

pub returns-then-is_some : goal.returns-then-is_some
returns-then-is_some c =
    rw (c.if-is_some.true, c.in-Close.is, ← ap rows_of c.self.view_is)
    (room_to_close_open c.self.inside c.self.invariant c.in-Close.client (sym (is_some-map _ (find (is_client c.in-Close.client) c.self.inside.state.files.clients)) ∙ ap is_some (sym c.flags_of.ensures.flags) ∙ sym c.is_some.ensures ∙ c.if-is_some.true))

pub returns-else-is_some : goal.returns-else-is_some
returns-else-is_some c =
    rw (c.in-Close.is, ← ap rows_of c.self.view_is, c.len.ensures, c.len-clients.ensures)
    (room_to_close c.self.inside c.self.invariant c.in-Close.client (sym (is_some-map _ (find (is_client c.in-Close.client) c.self.inside.state.files.clients)) ∙ ap is_some (sym c.flags_of.ensures.flags) ∙ sym c.is_some.ensures ∙ c.if-is_some.false))
