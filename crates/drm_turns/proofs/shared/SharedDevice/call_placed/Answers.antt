use Rattle.std.proofs.Common.{◌≡◌, ◌+◌, ◌-◌, ◌<◌, ◌^◌, ℕ, List, ◌∷◌, ◌++◌, sym, ◌∙◌, ap, subst}
use Rattle.drm_turns.specs.declared.history.Entry.{Entry}
use Rattle.drm_turns.specs.declared.history.View.{View}
use Rattle.drm_model.specs.Run.{DeviceValue}
use Rattle.drm_turns.specs.History.{AllDiffer, IsLegal, StartsWith, calls_by, device_at}
use Rattle.drm_turns.specs.Rule.{Sat}
use Rattle.drm_turns.specs.Views.{Grows, IsOwn, serving, waiting}
use Rattle.drm_turns.specs.Plays.{Reads}
use Rattle.drm_turns.specs.Turns.{Turn}
use Rattle.drm_turns.specs.Participants.{ParticipantView, entries_of}
use Rattle.drm_turns.specs.ParticipantFields.{participant_view_of}
use Rattle.drm_turns.proofs.HeldDevice.{commits, answered, aborts, not_worn, placed_after, turn_entries, turn_tickets, turned}
use Rattle.drm_turns.proofs.shared.SharedDevice.call_placed.Given.{Over}
use Rattle.drm_turns.proofs.shared.SharedDevice.call_placed.Goals as goal
use Rattle.drm_turns.proofs.shared.SharedDevice.call_placed.Goals.{After-pass}

-- the participant's view one after the other
its_turn : (g : Over) (c : After-pass g) → let v = c.participant.inside.place.me.0 in
    (seen : List Entry) × Reads v seen × (c.wait_turn.new.place.me.0 ≡ serving (waiting v c.in-Some.ticket) seen)
its_turn g c =
    let v = c.participant.inside.place.me.0 in
    let drawn = c.in-Some.ensures.some.1 in
    let served = c.wait_turn.ensures.served in
    let seen : List Entry = served.0 in (
      seen,
      subst (λ (m : Sat). Reads m.0 seen) drawn served.2,
      ap (λ (m : Sat). m.0) served.1 ∙ ap (λ (m : Sat). serving m.0 seen) drawn,
    )

-- what a whole turn does to the view
whole : (g : Over) (c : After-pass g) → let v = c.participant.inside.place.me.0 in let w = c.step_in_turn-counted.new.place.me.0 in
    (w.number ≡ v.number) × (w.origin ≡ v.origin) × (w.told ≡ v.told) × StartsWith w.seen v.seen × IsOwn w ×
    (w.kept ≡ v.kept) × (w.ticket ≡ c.in-Some.ticket) × (w.parent ≡ v.parent) × (w.outstanding ≡ v.outstanding) ×
    (w.drawn ≡ v.drawn + 1)
whole g c =
    let t = its_turn g c in
    turned c.participant.inside.place.me.0 c.in-Some.ticket t.0 c.step_in_turn-counted.new.place.me.0 t.1
    (subst (λ (u : View). Grows u c.step_in_turn-counted.new.place.me.0) t.2 c.step_in_turn-counted.ensures.grows)

abbrev after : (g : Over) → After-pass g → ParticipantView
after g c = participant_view_of record { place = c.pass.new.place }

found : (g : Over) (c : After-pass g) → c.pass.new.place.me.0.ticket < 2 ^ 64 - 1
found g c =
    subst (λ (n : ℕ). n < 2 ^ 64 - 1) (sym (ap (λ (m : Sat). m.0.ticket) c.pass.ensures.passed ∙ (whole g c).6))
    c.in-Some.ensures.some.0

pub invariant_of-participant-2 : goal.invariant_of-participant-2
invariant_of-participant-2 g c = let t = whole g c in let p = c.pass.ensures.passed in record {
  empty = ap (λ (m : Sat). m.1) p;
  idle = ap (λ (m : Sat). m.0.stage) p;
  untold = ap (λ (m : Sat). m.0.told) p ∙ (t.2 ∙ c.participant.invariant.untold);
  numbered = λ z. c.participant.invariant.numbered (sym t.0 ∙ (sym (ap (λ (m : Sat). m.0.number) p) ∙ z));
  legal = subst (λ (m : Sat). IsLegal m.0.origin m.0.seen) (sym p) t.4.0;
  apart =
      subst (λ (m : Sat). AllDiffer (m.0.number ∷ m.0.kept)) (sym p)
      (subst (λ (z : ℕ × List ℕ). AllDiffer (z.0 ∷ z.1)) (λ i. (sym t.0 i, sym t.5 i)) c.participant.invariant.apart);
  own = subst (λ (m : Sat). calls_by m.0.number m.0.seen ≡ m.0.mine) (sym p) t.4.1;
}

pub returns-clause-extends : goal.returns-clause-extends
returns-clause-extends g c = let t = whole g c in let p = c.pass.ensures.passed in let r : List Entry = t.3.0 in (
  (
    c.pass.ensures.own.0
        ∙
        (c.step_in_turn-counted.ensures.own.0 ∙ (c.wait_turn.ensures.own.0 ∙ (c.in-Some.ensures.own.0 ∙ ap (λ (s : ParticipantView). s.table) c.participant.view_is))),
    ap (λ (m : Sat). m.0.number) p ∙ (t.0 ∙ ap (λ (s : ParticipantView). s.number) c.participant.view_is),
    ap (λ (m : Sat). m.0.origin) p ∙ (t.1 ∙ ap (λ (s : ParticipantView). s.origin) c.participant.view_is),
  ),
  (r, ap (λ (m : Sat). m.0.seen) p ∙ (t.3.1 ∙ ap (λ (s : ParticipantView). s.seen ++ r) c.participant.view_is)),
  subst (λ (m : Sat). IsLegal m.0.origin m.0.seen) (sym p) t.4.0,
  subst (λ (m : Sat). calls_by m.0.number m.0.seen ≡ m.0.mine) (sym p) t.4.1,
)

pub returns-clause-merged : goal.returns-clause-merged
returns-clause-merged g c =
    ap (λ (m : Sat). m.0.kept) c.pass.ensures.passed
    ∙ ((whole g c).5 ∙ ap (λ (s : ParticipantView). s.merged) c.participant.view_is)

pub returns-clause-unchanged : goal.returns-clause-unchanged
returns-clause-unchanged g c = let t = whole g c in let p = c.pass.ensures.passed in (
  ap (λ (m : Sat). m.0.parent) p ∙ (t.7 ∙ ap (λ (s : ParticipantView). s.parent) c.participant.view_is),
  ap (λ (m : Sat). m.0.outstanding) p ∙ (t.8 ∙ ap (λ (s : ParticipantView). s.outstanding) c.participant.view_is),
)

pub returns-clause-ok : goal.returns-clause-ok
returns-clause-ok g c =
    let t = its_turn g c in
    let p = c.pass.ensures.passed in
    let between : List Entry = t.1.0.0 in
    commits c.step_in_turn-counted.new.outcome c.args.event.now c.args.participant.now (after g c) c.wait_turn.new.place.me.0
    c.step_in_turn-counted.new.place.me.0 between c.step_in_turn-counted.ensures.ok
    (ap (λ (m : Sat). m.0.seen) p)
    (ap (λ (m : Sat). m.0.mine) p)
    (ap (λ (u : View). u.number) t.2 ∙ ap (λ (s : ParticipantView). s.number) c.participant.view_is)
    (ap (λ (u : View). u.seen) t.2 ∙ (t.1.0.1 ∙ ap (λ (s : ParticipantView). s.seen ++ between) c.participant.view_is))
    (ap (λ (u : View). u.mine) t.2 ∙ ap (λ (s : ParticipantView). s.mine) c.participant.view_is)
    (found g c)

pub returns-clause-err : goal.returns-clause-err
returns-clause-err g c =
    let t = its_turn g c in
    let p = c.pass.ensures.passed in
    aborts c.step_in_turn-counted.new.outcome c.args.event.now c.args.participant.now (after g c) c.wait_turn.new.place.me.0
    c.step_in_turn-counted.new.place.me.0 c.step_in_turn-counted.ensures.err
    (ap (λ (m : Sat). m.0.origin) p)
    (ap (λ (m : Sat). m.0.seen) p)
    (ap (λ (m : Sat). m.0.mine) p)
    (ap (λ (u : View). u.mine) t.2 ∙ ap (λ (s : ParticipantView). s.mine) c.participant.view_is)
    (found g c)

pub returns-clause-turn : goal.returns-clause-turn
returns-clause-turn g c =
    let p = c.pass.ensures.passed in
    let origin = ap (λ (m : Sat). m.0.origin) p in
    let seen = ap (λ (m : Sat). m.0.seen) p in
    let turn =
    subst (λ (z : DeviceValue × List Entry). Turn (device_at z.0 z.1) c.args.event.now c.step_in_turn-counted.new.outcome) (λ i. (sym origin i, sym seen i)) c.step_in_turn-counted.ensures.turn in
    answered (device_at (after g c).origin (after g c).seen) c.args.event.now c.step_in_turn-counted.new.outcome turn

pub returns-clause-counts : goal.returns-clause-counts
returns-clause-counts g c =
    let v = c.participant.inside.place.me.0 in
    let t = whole g c in
    let p = c.pass.ensures.passed in
    let one = turn_tickets _ c.args.event.now c.step_in_turn-counted.new.outcome c.step_in_turn-counted.ensures.turn in
    let drew =
    ap (λ (m : Sat). m.0.drawn) p ∙ (t.9 ∙ ap (λ (s : ParticipantView). s.drawn + 1) c.participant.view_is) in
    let more =
    turn_entries c.step_in_turn-counted.new.outcome c.args.event.now c.wait_turn.new.place.me.0 c.step_in_turn-counted.new.place.me.0
    c.step_in_turn-counted.ensures.ok c.step_in_turn-counted.ensures.err in
    let had = ap (λ (u : View). u.journaled) (its_turn g c).2 ∙ ap (λ (s : ParticipantView). s.journaled) c.participant.view_is in (
      drew ∙ ap (λ (n : ℕ). c.args.participant.now.drawn + n) (sym one),
      ap (λ (m : Sat). m.0.journaled) p ∙ (more ∙ ap (λ (n : ℕ). n + entries_of c.step_in_turn-counted.new.outcome) had),
    )

pub returns-clause-worn : goal.returns-clause-worn
returns-clause-worn g c worn =
    absurd (not_worn _ c.args.event.now c.step_in_turn-counted.new.outcome c.step_in_turn-counted.ensures.turn worn)

pub returns-clause-place : goal.returns-clause-place
returns-clause-place g c =
    let t = its_turn g c in
    placed_after c.step_in_turn-counted.new.outcome c.step_in_turn-counted.result c.args.event.now c.args.participant.now (after g c)
    c.wait_turn.new.place.me.0 c.step_in_turn-counted.new.place.me.0 c.step_in_turn-counted.ensures.next c.step_in_turn-counted.ensures.ok
    (ap (λ (m : Sat). m.0.seen) c.pass.ensures.passed)
    (ap (λ (u : View). u.number) t.2 ∙ ap (λ (s : ParticipantView). s.number) c.participant.view_is)
