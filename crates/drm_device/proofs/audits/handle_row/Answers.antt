use Rattle.drm_index_array.proofs.Numbers.{among-left}
use Rattle.drm_state.specs.Parts.{keys_of, referring_keys}
use Rattle.drm_state.proofs.Represented.{objects_counted}
use Rattle.drm_device.proofs.AuditRows.{hold_row}
use Rattle.drm_device.proofs.audits.handle_row.Goals as goal

pub birth-requires : goal.birth-requires
birth-requires c =
    (objects_counted c.args.state.now c.requires.invariants).there c.args.hold.object
    (among-left (keys_of c.args.state.now.files.holds) (referring_keys c.args.state.now) c.args.hold.object c.requires.held)

pub returns : goal.returns
returns c =
    hold_row c.args.state.now.objects.objects c.args.hold c.birth.result c.or_zero.result c.birth.ensures
    c.or_zero.ensures
