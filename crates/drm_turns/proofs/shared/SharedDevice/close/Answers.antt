use Rattle.std.proofs.Common.{◌≡◌, ◌+◌, length, ap, ◌∙◌, subst}
use Rattle.drm_turns.specs.History.{device_at}
use Rattle.drm_turns.specs.Participants.{Closes, ParticipantView}
use Rattle.drm_model.specs.Run.{DeviceValue}
use Rattle.drm_turns.proofs.Ends.{closes, closes_counted, comes_home, turn_is_out}
use Rattle.drm_turns.proofs.HeldDevice.{events-length}
use Rattle.drm_turns.proofs.shared.SharedDevice.close.Goals as goal

-- the words are equal, where none is out of the first participant
pub returns-then-not-is_quiet-clause-home : goal.returns-then-not-is_quiet-clause-home
returns-then-not-is_quiet-clause-home c first none_outstanding =
    let v = c.participant.inside.place.me.0 in
    let home =
    comes_home c.participant.inside.place.id v _ _ c.word.result c.word-2.result c.take-slot.result
    c.participant.invariant.idle (ap (λ (s : ParticipantView). s.number) c.participant.view_is ∙ first)
    (ap (λ (s : ParticipantView). s.outstanding) c.participant.view_is ∙ none_outstanding)
    c.close_with-closed.ensures.values.2 c.word.ensures c.word-2.ensures c.take-slot.ensures.value in
    absurd (c.if-not-is_quiet.true home.0)

pub returns-then-not-is_quiet-clause-turn_out : goal.returns-then-not-is_quiet-clause-turn_out
returns-then-not-is_quiet-clause-turn_out c =
    let v = c.participant.inside.place.me.0 in
    let found = turn_is_out c.participant.inside.place.id v _ _ c.word.result c.word-2.result c.close_with-closed.ensures.values.2 c.word.ensures c.word-2.ensures c.if-not-is_quiet.true in (
      found.0,
      found.1,
      (
        c.participant.inside.place.id,
        v,
        found.2,
        c.participant.invariant.idle,
        ap (λ (s : ParticipantView). s.number) c.participant.view_is,
        ap (λ (s : ParticipantView). s.outstanding) c.participant.view_is,
        ap (λ (s : ParticipantView). s.seen) c.participant.view_is,
      ),
      found.3,
    )

pub returns-clause-closes : goal.returns-clause-closes
returns-clause-closes c =
    let v = c.participant.inside.place.me.0 in
    let quiet = c.if-not-is_quiet.false in
    let found =
    closes c.participant.inside.place.id v _ _ c.word.result c.word-2.result c.take-slot.result
    c.participant.invariant.idle c.close_with-closed.ensures.values.2 c.word.ensures c.word-2.ensures quiet
    c.take-slot.ensures.value in
    let there = found.1 in
    let is = c.in-Some.is in
    let device : c.into_device.result ≡ device_at v.origin found.0 = c.into_device.ensures ∙ cc in
    subst (λ (s : ParticipantView). Closes s c.into_device.result) c.participant.view_is
    (found.0, device, found.2.2, found.2.0, found.2.3 c.participant.invariant.numbered)

pub returns-clause-counted : goal.returns-clause-counted
returns-clause-counted c first none_outstanding =
    let v = c.participant.inside.place.me.0 in
    let quiet = c.if-not-is_quiet.false in
    let found = closes_counted c.participant.inside.place.id v _ _ c.word.result c.word-2.result c.take-slot.result c.participant.invariant.idle c.close_with-closed.ensures.values.2 c.word.ensures c.word-2.ensures quiet c.take-slot.ensures.value
    (ap (λ (s : ParticipantView). s.number) c.participant.view_is ∙ first) (ap (λ (s : ParticipantView). s.outstanding) c.participant.view_is ∙ none_outstanding) in
    let there = found.1 in
    let is = c.in-Some.is in
    let device : c.into_device.result ≡ device_at v.origin found.0 = c.into_device.ensures ∙ cc in
    ap (λ (d : DeviceValue). length d.journal) device
    ∙
    (events-length found.0 ∙ (found.2 ∙ ap (λ (s : ParticipantView). length s.origin.journal + s.journaled) c.participant.view_is))
