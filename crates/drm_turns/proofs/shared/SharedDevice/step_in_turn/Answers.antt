use Rattle.std.proofs.Common.{◌≡◌, ℕ, ◌+◌, List, ap, sym, ◌∙◌, arith, subst, Some, [], ◌∷◌, length, length-append, false, refl, None}
use Rattle.atomic_table.specs.Table.{rest}
use Rattle.atomic_table.specs.declared.shared.Seat.{Seat}
use Rattle.drm_turns.specs.declared.history.View.{View}
use Rattle.drm_model.specs.Rows.{Rows}
use Rattle.drm_model.specs.Reply.{reply}
use Rattle.drm_model.specs.Run.{DeviceValue, no_room, journaled_in, rows_of}
use Rattle.drm_turns.specs.Rule.{Slot, Sat}
use Rattle.drm_turns.specs.Views.{counted}
use Rattle.drm_turns.specs.Turns.{Turn}
use Rattle.drm_turns.specs.History.{device_at, entry, rows_after}
use Rattle.drm_turns.proofs.HeldDevice.{after_put, events-length, grows_by, grows_not, held_is, noting_at, refuses, step_ok, turn_of}
use Rattle.drm_turns.proofs.shared.SharedDevice.step_in_turn.Goals as goal
use Rattle.drm_turns.proofs.shared.SharedDevice.step_in_turn.Goals.{in-Ok, in-Err}

pub exchange-requires : goal.exchange-requires
exchange-requires c = let v = c.args.place.now.me.0 in (
  c.requires.own ∙ sym c.self.view_is,
  (Some (device_at v.origin v.seen), c.requires.device ∙ ap (λ l. (0, Some (device_at v.origin v.seen)) ∷ rest l) (sym c.requires.device)),
)

pub count-requires-clause-serving : goal.count-requires-clause-serving
count-requires-clause-serving c =
    let v = c.args.place.now.me.0 in
    let e = c.exchange.ensures.3 in
    let found =
    held_is c.args.place.now.me.1 c.exchange.result (Some (device_at v.origin v.seen)) c.exchange.ensures.2
    c.requires.device in
    let full = sym c.unwrap.ensures ∙ found in
    let opened = c.into_box-device.ensures in
    let lies = c.deref_mut.ensures.value in
    let device : c.deref_mut.result.now ≡ device_at v.origin v.seen = cc in
    let same : length c.deref_mut.result.now.journal ≡ length v.seen =
    ap (λ (d : DeviceValue). length d.journal) device ∙ events-length v.seen in
    let is = rw c.in-Ok.is at c.step_short_at.ensures.ok in
    let journaled : length c.step_short_at.new.self.journal ≡ length c.deref_mut.result.now.journal + 1 =
    ap (λ (d : DeviceValue). length d.journal) is
    ∙ length-append c.deref_mut.result.now.journal (c.args.event.now ∷ []) in
    let within = c.step_short_at.ensures.within in
    let bounded = c.step_short_at.ensures.bounded in
    let seen : length c.exchange.new.seat.me.0.seen ≡ length v.seen = ap (λ (m : Sat). length m.0.seen) e in (
      ap (λ (m : Sat). m.0.stage) e ∙ c.requires.serving.0,
      (λ z. c.requires.serving.1 (sym (ap (λ (m : Sat). m.0.number) e) ∙ z)),
      omega arith,
    )

pub count-requires-clause-legal : goal.count-requires-clause-legal
count-requires-clause-legal c =
    let v = c.args.place.now.me.0 in
    let e = c.exchange.ensures.3 in
    let found =
    held_is c.args.place.now.me.1 c.exchange.result (Some (device_at v.origin v.seen)) c.exchange.ensures.2
    c.requires.device in
    let full = sym c.unwrap.ensures ∙ found in
    let opened = c.into_box-device.ensures in
    let lies = c.deref_mut.ensures.value in
    let device : c.deref_mut.result.now ≡ device_at v.origin v.seen = cc in
    let rows : rows_of c.deref_mut.result.now ≡ rows_after c.exchange.new.seat.me.0.origin c.exchange.new.seat.me.0.seen =
    ap rows_of device ∙ ap (λ (m : Sat). rows_after m.0.origin m.0.seen) (sym e) in
    let answer = step_ok _ _ _ _ (rw c.in-Ok.is at c.step_short_at.ensures.step) in (
      subst (λ (z : Rows). no_room z c.args.event.now ≡ false) rows answer.0,
      answer.1 ∙ ap (λ (z : Rows). reply z c.args.event.now) rows,
    )

placed : {p q : Seat Slot View} → p ≡ q → p.me ≡ q.me
placed e = λ i. (e i).me

named : {p q : Seat Slot View} → p ≡ q → p.table_id ≡ q.table_id
named e = λ i. (e i).table_id

is_held : (held more : List (ℕ × Slot)) (slot : Slot) → held ≡ (0, slot) ∷ more → held ≡ (0, slot) ∷ rest held
is_held held more slot is = is ∙ ap (λ l. (0, slot) ∷ rest l) (sym is)

-- the slot is still held, empty, whether the event was counted or not
pub exchange-requires-2 : goal.exchange-requires-2
exchange-requires-2 c =
    let more = rest c.args.place.now.me.1 in
    let empty : c.exchange.new.seat.me.1 ≡ (0, None) ∷ more = ap (λ (m : Sat). m.1) c.exchange.ensures.3 in
    elim c.match-outcome.branch [
      | in-Ok w ↦ (
        named w.place-is ∙ (w.count.ensures.own.0 ∙ (c.exchange.ensures.0 ∙ (c.requires.own ∙ sym c.self.view_is))),
        (None, is_held c.match-outcome.place.me.1 more None (ap (λ (m : Sat). m.1) (placed w.place-is ∙ w.count.ensures.counted) ∙ empty)),
      )
      | in-Err w ↦ (
        named w.place-is ∙ (c.exchange.ensures.0 ∙ (c.requires.own ∙ sym c.self.view_is)),
        (None, is_held c.match-outcome.place.me.1 more None (ap (λ (m : Sat). m.1) (placed w.place-is) ∙ empty)),
      )
    ]

pub returns-clause-device : goal.returns-clause-device
returns-clause-device c =
    let v = c.args.place.now.me.0 in
    let e = c.exchange.ensures.3 in
    let found =
    held_is c.args.place.now.me.1 c.exchange.result (Some (device_at v.origin v.seen)) c.exchange.ensures.2
    c.requires.device in
    let full = sym c.unwrap.ensures ∙ found in
    let opened = c.into_box-device.ensures in
    let lies = c.deref_mut.ensures.value in
    let device : c.deref_mut.result.now ≡ device_at v.origin v.seen = cc in
    let none_more : rest c.exchange.new.seat.me.1 ≡ [] = ap (λ (m : Sat). rest m.1) e ∙ ap rest c.requires.device in
    elim c.match-outcome.branch [
      | in-Ok w ↦
          let is = rw w.in-Ok.is at c.step_short_at.ensures.ok in
          let counts = w.count.ensures.counted in
          let me : c.match-outcome.place.me ≡ (counted v (entry v.number c.args.event.now w.in-Ok.answer), c.exchange.new.seat.me.1) =
          placed w.place-is ∙ (counts ∙ (λ i. let u : View = (e i).0 in (counted u (entry u.number c.args.event.now w.in-Ok.answer), c.exchange.new.seat.me.1))) in
          after_put c.match-outcome.place.me c.exchange-2.new.seat.me c.step_short_at.new.self c.exchange-2.ensures.3
          (ap (λ (m : Sat). rest m.1) me ∙ none_more)
          (is ∙ (ap (λ d. journaled_in d c.args.event.now) device ∙ (noting_at v.origin v.seen (entry v.number c.args.event.now w.in-Ok.answer) ∙ ap (λ (m : Sat). device_at m.0.origin m.0.seen) (sym me))))
      | in-Err w ↦
          let is = rw w.in-Err.is at c.step_short_at.ensures.err in
          let me : c.match-outcome.place.me ≡ c.exchange.new.seat.me = placed w.place-is in
          after_put c.match-outcome.place.me c.exchange-2.new.seat.me c.step_short_at.new.self c.exchange-2.ensures.3
          (ap (λ (m : Sat). rest m.1) me ∙ none_more)
          (is ∙ (device ∙ ap (λ (m : Sat). device_at m.0.origin m.0.seen) (sym (me ∙ e))))
    ]

pub returns-clause-grows : goal.returns-clause-grows
returns-clause-grows c =
    let v = c.args.place.now.me.0 in
    let e = c.exchange.ensures.3 in
    let found =
    held_is c.args.place.now.me.1 c.exchange.result (Some (device_at v.origin v.seen)) c.exchange.ensures.2
    c.requires.device in
    let full = sym c.unwrap.ensures ∙ found in
    let opened = c.into_box-device.ensures in
    let lies = c.deref_mut.ensures.value in
    let device : c.deref_mut.result.now ≡ device_at v.origin v.seen = cc in
    let put : c.exchange-2.new.seat.me.0 ≡ c.match-outcome.place.me.0 = ap (λ (m : Sat). m.0) c.exchange-2.ensures.3 in
    elim c.match-outcome.branch [
      | in-Ok w ↦
          let answer = step_ok _ _ _ _ (rw w.in-Ok.is at c.step_short_at.ensures.step) in
          let counts = w.count.ensures.counted in
          let me : c.match-outcome.place.me ≡ (counted v (entry v.number c.args.event.now w.in-Ok.answer), c.exchange.new.seat.me.1) =
          placed w.place-is ∙ (counts ∙ (λ i. let u : View = (e i).0 in (counted u (entry u.number c.args.event.now w.in-Ok.answer), c.exchange.new.seat.me.1))) in
          grows_by v (entry v.number c.args.event.now w.in-Ok.answer) c.exchange-2.new.seat.me.0
          (put ∙ ap (λ (m : Sat). m.0) me) c.requires.seen refl
          (subst (λ (d : DeviceValue). no_room (rows_of d) c.args.event.now ≡ false) device answer.0)
          (subst (λ (d : DeviceValue). w.in-Ok.answer ≡ reply (rows_of d) c.args.event.now) device answer.1)
      | in-Err w ↦
          grows_not v c.exchange-2.new.seat.me.0
          (put ∙ (ap (λ (m : Sat). m.0) (placed w.place-is) ∙ ap (λ (m : Sat). m.0) e)) c.requires.seen
    ]

pub returns-clause-turn : goal.returns-clause-turn
returns-clause-turn c =
    let v = c.args.place.now.me.0 in
    let e = c.exchange.ensures.3 in
    let found =
    held_is c.args.place.now.me.1 c.exchange.result (Some (device_at v.origin v.seen)) c.exchange.ensures.2
    c.requires.device in
    let full = sym c.unwrap.ensures ∙ found in
    let opened = c.into_box-device.ensures in
    let lies = c.deref_mut.ensures.value in
    let device : c.deref_mut.result.now ≡ device_at v.origin v.seen = cc in
    let put : c.exchange-2.new.seat.me.0 ≡ c.match-outcome.place.me.0 = ap (λ (m : Sat). m.0) c.exchange-2.ensures.3 in
    let left : c.step_short_at.new.self ≡ device_at c.exchange-2.new.seat.me.0.origin c.exchange-2.new.seat.me.0.seen =
    elim c.match-outcome.branch [
      | in-Ok w ↦
          let is = rw w.in-Ok.is at c.step_short_at.ensures.ok in
          let counts = w.count.ensures.counted in
          let me : c.match-outcome.place.me ≡ (counted v (entry v.number c.args.event.now w.in-Ok.answer), c.exchange.new.seat.me.1) =
          placed w.place-is ∙ (counts ∙ (λ i. let u : View = (e i).0 in (counted u (entry u.number c.args.event.now w.in-Ok.answer), c.exchange.new.seat.me.1))) in
          is
          ∙
          (ap (λ d. journaled_in d c.args.event.now) device ∙ (noting_at v.origin v.seen (entry v.number c.args.event.now w.in-Ok.answer) ∙ ap (λ (u : View). device_at u.origin u.seen) (sym (put ∙ ap (λ (m : Sat). m.0) me))))
      | in-Err w ↦
          let is = rw w.in-Err.is at c.step_short_at.ensures.err in
          let me : c.match-outcome.place.me ≡ c.exchange.new.seat.me = placed w.place-is in
          is ∙ (device ∙ ap (λ (u : View). device_at u.origin u.seen) (sym (put ∙ ap (λ (m : Sat). m.0) (me ∙ e))))
    ] in
    let turn =
    turn_of c.deref_mut.result.now c.step_short_at.new.self c.args.event.now c.step_short_at.new.outcome c.step_short_at.ensures.step c.step_short_at.ensures.ok c.step_short_at.ensures.err c.step_short_at.ensures.in_range c.step_short_at.ensures.found_room in
    subst (λ (d : DeviceValue). Turn d c.args.event.now c.step_short_at.new.outcome) left turn

pub returns-clause-err : goal.returns-clause-err
returns-clause-err c =
    let v = c.args.place.now.me.0 in
    let e = c.exchange.ensures.3 in
    let found =
    held_is c.args.place.now.me.1 c.exchange.result (Some (device_at v.origin v.seen)) c.exchange.ensures.2
    c.requires.device in
    let full = sym c.unwrap.ensures ∙ found in
    let opened = c.into_box-device.ensures in
    let lies = c.deref_mut.ensures.value in
    let device : c.deref_mut.result.now ≡ device_at v.origin v.seen = cc in
    let put : c.exchange-2.new.seat.me.0 ≡ c.match-outcome.place.me.0 = ap (λ (m : Sat). m.0) c.exchange-2.ensures.3 in
    elim c.match-outcome.branch [
      | in-Ok w ↦ rw w.in-Ok.is tt
      | in-Err w ↦
          refuses c.deref_mut.result.now c.step_short_at.new.self c.args.event.now c.step_short_at.new.outcome v
          c.exchange-2.new.seat.me.0 device c.step_short_at.ensures.step c.step_short_at.ensures.err
          (rw w.in-Err.is (put ∙ (ap (λ (m : Sat). m.0) (placed w.place-is) ∙ ap (λ (m : Sat). m.0) e)))
    ]
