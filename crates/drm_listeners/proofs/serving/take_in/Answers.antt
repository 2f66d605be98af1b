use Rattle.std.proofs.Common.{sym, ◌∙◌, arith}
use Rattle.drm_turns.specs.Participants.{ParticipantView}
use Rattle.drm_turns.proofs.ParticipantsIn.{given_back}
use Rattle.drm_listeners.proofs.serving.take_in.Goals as goal

pub returns-clause-outstanding : goal.returns-clause-outstanding
returns-clause-outstanding c =
    let children = c.requires.children in
    let card = c.args.participants.card in
    let render = c.args.participants.render in
    let root = c.args.participants.root in
    let one : ParticipantView = c.join.new.participant in
    let two : ParticipantView = c.join-2.new.participant in
    let same = c.join.ensures.extends.0.1 in
    let same' = c.join-2.ensures.extends.0.1 in
    let first =
    c.join.ensures.outstanding
    ∙ given_back c.args.participant.now.number c.args.participant.now.outstanding card.parent card.outstanding
    children.card.parent children.card.outstanding in
    let second =
    c.join-2.ensures.outstanding
    ∙ given_back one.number one.outstanding render.parent render.outstanding (children.render.parent ∙ sym same)
    children.render.outstanding in
    let third =
    c.join-3.ensures.outstanding
    ∙ given_back two.number two.outstanding root.parent root.outstanding
    (children.root.parent ∙ sym same ∙ sym same') children.root.outstanding in
    omega arith

pub returns-clause-journaled : goal.returns-clause-journaled
returns-clause-journaled c =
    let first = c.join.ensures.counts.1 in
    let second = c.join-2.ensures.counts.1 in
    let third = c.join-3.ensures.counts.1 in
    omega (arith, first, second, third)
