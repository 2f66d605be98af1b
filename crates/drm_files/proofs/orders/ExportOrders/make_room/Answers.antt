use Rattle.std.proofs.Common.{◌≤◌, is_some, sym, ap, ◌∙◌, arith}
use Rattle.std.specs.FinMap as fin
use Rattle.std.proofs.lemmas.Result.{on_ok_weaker}
use Rattle.drm_files.specs.ExportOrders.{AreKept}
use Rattle.drm_files.proofs.InOrder.{HasRoomNow, copied_there, first_room, own_room, on_err, roomier, room_made}
use Rattle.drm_files.proofs.orders.ExportOrders.make_room.Goals.{then-is_none+in_default, else-is_none}
use Rattle.drm_files.proofs.orders.ExportOrders.make_room.Goals as goal

has_room_now : (c : goal.After-make_place) → HasRoomNow c.args.self.now c.if-is_none.self c.number-number.result
has_room_now c = elim c.if-is_none.branch [
  | then-is_none+in_default w ↦ first_room c.args.self.now _ c.number-number.result w.insert.new.self w.self-is (ap (λ e. e.items) w.in_default.ensures.ok) w.in_default.ensures.absent
  | else-is_none w ↦ own_room c.args.self.now _ c.number-number.result w.self-is (sym (ap is_some c.get.ensures.value) ∙ copied_there c.get.result ∙ w.if-is_none.ensures)
]

pub returns-clause-err : goal.returns-clause-err
returns-clause-err c =
    let old = c.args.self.now in
    let room = has_room_now c in
    let kept : AreKept old.links.items c.make_place.new.links.items = rw (← room.links) c.make_place.ensures.kept in
    on_err c.make_place.result (λ slots order. roomier slots old _ order room.ends kept)

pub returns-clause-ok : goal.returns-clause-ok
returns-clause-ok c =
    let old = c.args.self.now in
    let room = has_room_now c in
    let kept : AreKept old.links.items c.make_place.new.links.items = rw (← room.links) c.make_place.ensures.kept in
    let fits : c.args.handle ≤ 4294967295 = omega (arith, c.ranges.handle.fits) in
    let ended = ap (λ o. fin.contains_key c.if-is_none.self.ends.items o) (sym c.number-number.ensures) ∙ room.mine in
    on_ok_weaker c.make_place.result
    (λ linked slots order absent. room_made slots old _ order room.ends kept c.args.object c.args.handle absent fits linked ended)
    c.make_place.ensures.ok
