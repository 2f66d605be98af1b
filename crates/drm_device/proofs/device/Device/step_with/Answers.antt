use Rattle.std.proofs.Common.{◌<◌, [], ◌∷◌, ◌++◌, length, refl, sym, ap, ◌∙◌, subst, Ok, arith}
use Rattle.std.proofs.lemmas.List.{length-append}
use Rattle.std.proofs.lemmas.Bool.{not-false, not-true}
use Rattle.drm_table.specs.declared.answers.Answer.{Answer}
use Rattle.drm_table.specs.declared.events.Event.{Event}
use Rattle.drm_table.specs.Results.{FitsOneFrame}
use Rattle.drm_model.specs.Run.{Step, rows_of, journaled_in}
use Rattle.drm_device.specs.Device.{value_of}
use Rattle.drm_device.specs.Journals.{JournalValue}
use Rattle.drm_state.specs.Refinement.{Refines}
use Rattle.drm_device.proofs.Devices.{stands, precondition, has_room_for, next_history, next_rows, same_history, topology_same, topology_after, few_answer, next_device, same_device, taken_back, within_after}
use Rattle.drm_device.proofs.Places.{opened}
use Rattle.drm_device.proofs.device.Device.step_with.Goals as goal

pub returns-then-not-has_room-clause-step : goal.returns-then-not-has_room-clause-step
unfolding Step
returns-then-not-has_room-clause-step c =
    rw c.replace.ensures.replaced ((not-false _ (sym c.has_room.ensures ∙ c.if-not-has_room.true), refl))

pub advance_at-requires : goal.advance_at-requires
advance_at-requires c = precondition c.self.inside c.len.result c.self.invariant c.len.ensures

pub record-requires : goal.record-requires
record-requires c =
    let room = not-true _ (sym c.has_room.ensures ∙ c.if-not-has_room.false) in
    subst (λ (j : JournalValue). length j.events < j.room) (sym c.provide.ensures)
    (has_room_for c.self.inside c.args.event.now c.self.invariant (rw (ap rows_of c.self.view_is) room))

pub take_back-requires : goal.take_back-requires
take_back-requires c =
    omega (arith, ap length c.record.ensures.events, length-append c.provide.new.self.events (c.args.event.now ∷ []))

pub invariant_of-self-in_default : goal.invariant_of-self-in_default
unfolding Refines
invariant_of-self-in_default c =
    let room = not-true _ (sym c.has_room.ensures ∙ c.if-not-has_room.false) in
    let made = opened c.advance_at.new.outcome c.in_default.ensures.answered c.in_default.ensures.ok in
    let out =
    made.2 (rows_of (value_of c.self.inside)) (stands c.self.inside c.len.result c.self.invariant c.len.ensures) in
    let items =
    c.record.ensures.events ∙ ap (λ (j : JournalValue). j.events ++ c.args.event.now ∷ []) c.provide.ensures in
    next_device c.self.inside c.args.event.now c.record.new.self c.advance_at.new.state c.self.invariant
    (rw (ap rows_of c.self.view_is) room)
    items (c.record.ensures.room ∙ ap (λ (j : JournalValue). j.room) c.provide.ensures)
    c.in_default.ensures.invariants out.1

pub invariant_of-self : goal.invariant_of-self
unfolding Refines
invariant_of-self c =
    let out =
    c.in-Err.ensures.err (rows_of (value_of c.self.inside))
    (stands c.self.inside c.len.result c.self.invariant c.len.ensures) in
    same_device c.self.inside c.take_back.new.self c.advance_at.new.state c.self.invariant
    (taken_back c.self.inside c.record.new.self c.take_back.new.self c.args.event.now (c.record.ensures.events ∙ ap (λ (j : JournalValue). j.events ++ c.args.event.now ∷ []) c.provide.ensures) c.take_back.ensures.events)
    (c.take_back.ensures.room ∙ c.record.ensures.room ∙ ap (λ (j : JournalValue). j.room) c.provide.ensures) c.in-Err.ensures.invariants out.1

pub returns-in_default-clause-step : goal.returns-in_default-clause-step
unfolding Step Refines
returns-in_default-clause-step c =
    let room = not-true _ (sym c.has_room.ensures ∙ c.if-not-has_room.false) in
    let made = opened c.advance_at.new.outcome c.in_default.ensures.answered c.in_default.ensures.ok in
    let out =
    made.2 (rows_of (value_of c.self.inside)) (stands c.self.inside c.len.result c.self.invariant c.len.ensures) in
    let items =
    c.record.ensures.events ∙ ap (λ (j : JournalValue). j.events ++ c.args.event.now ∷ []) c.provide.ensures in
    rw made.1
    (room, rw (← ap rows_of c.self.view_is) out.0, rw (← ap rows_of c.self.view_is) (next_rows c.self.inside c.args.event.now c.record.new.self c.advance_at.new.state items (topology_after c.self.inside c.args.event.now c.advance_at.new.state out.1)))

pub returns-in-Err-clause-step : goal.returns-in-Err-clause-step
unfolding Step Refines
returns-in-Err-clause-step c = rw c.replace-in-Err.ensures.replaced (
    let room = not-true _ (sym c.has_room.ensures ∙ c.if-not-has_room.false) in
    let out =
    c.in-Err.ensures.err (rows_of (value_of c.self.inside))
    (stands c.self.inside c.len.result c.self.invariant c.len.ensures) in
    let fixed = topology_same c.self.inside c.advance_at.new.state (rows_of (value_of c.self.inside)) out.1 refl in (
      room,
      rw (← ap rows_of c.self.view_is) out.0,
      ap rows_of (same_history c.self.inside c.take_back.new.self c.advance_at.new.state
          (taken_back c.self.inside c.record.new.self c.take_back.new.self c.args.event.now (c.record.ensures.events ∙ ap (λ (j : JournalValue). j.events ++ c.args.event.now ∷ []) c.provide.ensures) c.take_back.ensures.events)
          fixed ∙ c.self.view_is),
    ))

pub returns-in_default-clause-few : goal.returns-in_default-clause-few
unfolding Refines
returns-in_default-clause-few c =
    let made = opened c.advance_at.new.outcome c.in_default.ensures.answered c.in_default.ensures.ok in
    let out =
    made.2 (rows_of (value_of c.self.inside)) (stands c.self.inside c.len.result c.self.invariant c.len.ensures) in
    rw made.1
    (subst (λ (a : Answer). FitsOneFrame (Ok a)) (sym out.0) (few_answer c.self.inside c.args.event.now c.self.invariant))

pub returns-in_default-clause-ok : goal.returns-in_default-clause-ok
unfolding Refines
returns-in_default-clause-ok c =
    let made = opened c.advance_at.new.outcome c.in_default.ensures.answered c.in_default.ensures.ok in
    let out =
    made.2 (rows_of (value_of c.self.inside)) (stands c.self.inside c.len.result c.self.invariant c.len.ensures) in
    let items =
    c.record.ensures.events ∙ ap (λ (j : JournalValue). j.events ++ c.args.event.now ∷ []) c.provide.ensures in
    rw made.1
    (next_history c.self.inside c.args.event.now c.record.new.self c.advance_at.new.state items (topology_after c.self.inside c.args.event.now c.advance_at.new.state out.1) ∙ ap (λ h. journaled_in h c.args.event.now) c.self.view_is)

pub returns-in_default-clause-err : goal.returns-in_default-clause-err
returns-in_default-clause-err c = rw (opened c.advance_at.new.outcome c.in_default.ensures.answered c.in_default.ensures.ok).1 tt

pub returns-in-Err-clause-err : goal.returns-in-Err-clause-err
unfolding Refines
returns-in-Err-clause-err c = rw c.replace-in-Err.ensures.replaced (
    let out =
    c.in-Err.ensures.err (rows_of (value_of c.self.inside))
    (stands c.self.inside c.len.result c.self.invariant c.len.ensures) in
    same_history c.self.inside c.take_back.new.self c.advance_at.new.state
    (taken_back c.self.inside c.record.new.self c.take_back.new.self c.args.event.now (c.record.ensures.events ∙ ap (λ (j : JournalValue). j.events ++ c.args.event.now ∷ []) c.provide.ensures) c.take_back.ensures.events)
    (topology_same c.self.inside c.advance_at.new.state (rows_of (value_of c.self.inside)) out.1 refl) ∙ c.self.view_is)

pub returns-in-Err-clause-found_room : goal.returns-in-Err-clause-found_room
returns-in-Err-clause-found_room c = (invariant_of-self c).found_room

pub returns-in_default-clause-within : goal.returns-in_default-clause-within
returns-in_default-clause-within c =
    let room = not-true _ (sym c.has_room.ensures ∙ c.if-not-has_room.false) in
    within_after c.self.inside c.args.event.now c.record.new.self c.self.invariant
    (rw (ap rows_of c.self.view_is) room)
    (c.record.ensures.events ∙ ap (λ (j : JournalValue). j.events ++ c.args.event.now ∷ []) c.provide.ensures)

pub returns-in_default-clause-found_room : goal.returns-in_default-clause-found_room
returns-in_default-clause-found_room c = (invariant_of-self-in_default c).found_room
