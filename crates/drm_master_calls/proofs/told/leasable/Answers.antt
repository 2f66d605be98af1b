use Rattle.std.proofs.Common.{◌+◌, length, ap, ◌∙◌, arith, length-append}
use Rattle.drm_modes.specs.Topology.{first_plane, first_connector, crtc_ids, plane_ids}
use Rattle.drm_modes.proofs.Ids.{length-numbers_from}
use Rattle.drm_master_calls.proofs.told.leasable.Goals as goal

pub append_ids-requires : goal.append_ids-requires
append_ids-requires c =
    let t = c.args.modes.now.topology in
    let none = ap length c.new-list.ensures in
    record { room = omega (arith, c.laws.ensures.topology.few, none, length-numbers_from 1 t.crtcs) }

pub append_ids-requires-2 : goal.append_ids-requires-2
append_ids-requires-2 c =
    let t = c.args.modes.now.topology in
    let none = ap length c.new-list.ensures in
    let crtcs = ap length c.append_ids.ensures ∙ length-append c.new-list.result (crtc_ids t) in
    record {
      room =
          omega
          (arith, c.laws.ensures.topology.few, none, crtcs, length-numbers_from 1 t.crtcs, length-numbers_from (first_plane t) (length t.planes));
    }

pub append_ids-requires-3 : goal.append_ids-requires-3
append_ids-requires-3 c =
    let t = c.args.modes.now.topology in
    let none = ap length c.new-list.ensures in
    let crtcs = ap length c.append_ids.ensures ∙ length-append c.new-list.result (crtc_ids t) in
    let planes = ap length c.append_ids-2.ensures ∙ length-append c.append_ids.new.list (plane_ids t) in
    record {
      room =
          omega
          (arith, c.laws.ensures.topology.few, none, crtcs, planes, length-numbers_from 1 t.crtcs, length-numbers_from (first_plane t) (length t.planes), length-numbers_from (first_connector t) (length t.connectors));
    }
