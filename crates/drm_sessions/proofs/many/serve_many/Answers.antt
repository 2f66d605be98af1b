use Rattle.std.proofs.Common.{rules, ◌≡◌, [], ◌∷◌, ◌++◌, List, ap, ◌∙◌, ℕ, ◌+◌, ◌<◌, arith}
use Rattle.std.specs.Prelude.{Err, IfOk, OnErr, OnOk}
use Rattle.drm_turns.specs.Participants.{HasTakenIn, ParticipantView}
use Rattle.drm_turns.proofs.ParticipantsIn.{all-seen-more}
use Rattle.drm_sessions.specs.declared.many.ManyFault.TheVariants.{NoMemory, NoThread}
use Rattle.drm_sessions.specs.Serving.{all_steps}
use Rattle.drm_sessions.specs.Jobs.{IsServedBeside, participants_of, sessions_of}
use Rattle.drm_sessions.specs.Matched.{Matched}
use Rattle.drm_sessions.proofs.Joining.{as_many_outstanding, one_more_outstanding, if_ok, on_err, on_ok, served-beside-again}
use Rattle.drm_sessions.proofs.Matching.{Matched-map}
use Rattle.drm_sessions.proofs.many.serve_many.Goals as goal

pub returns-clause-served : goal.returns-clause-served
returns-clause-served g c =
    let own : ParticipantView = c.split-own.result in
    let served : IfOk c.scoped-own.result.1 (λ sessions. Matched (λ job finished. IsServedBeside g.G.Gate.passes g.S.Source.trace g.K.Sink.trace own job finished) c.args.jobs.items sessions.items) =
    search rules in
    if_ok c.scoped-own.result.1
    (λ sessions h. Matched-map _ _ (served-beside-again _ _ _ c.args.participant.now own c.split-own.ensures.own.0 c.split-own.ensures.own.1) _ _ h)
    served

pub returns-clause-seen : goal.returns-clause-seen
returns-clause-seen g c =
    let taken : IfOk c.scoped-own.result.1 (λ sessions. HasTakenIn c.scoped-own.result.0 (participants_of sessions.items)) =
    search rules in
    if_ok c.scoped-own.result.1 (λ sessions h. all-seen-more _ _ c.join.ensures.seen _ h.seen) taken

pub returns-clause-merged : goal.returns-clause-merged
returns-clause-merged g c =
    let own : ParticipantView = c.scoped-own.result.0 in
    let taken : IfOk c.scoped-own.result.1 (λ sessions. HasTakenIn own (participants_of sessions.items)) =
    search rules in
    let none : OnErr c.scoped-own.result.1 (own.merged ≡ []) = search rules in
    let merged : c.join.new.participant.merged ≡ c.args.participant.now.merged ++ own.number ∷ own.merged =
    c.join.ensures.merged ∙ ap (λ (s : ParticipantView). s.merged ++ own.number ∷ own.merged) c.split-own.ensures.same in
    let with : (l : List ℕ) → own.merged ≡ l → c.join.new.participant.merged ≡ c.args.participant.now.merged ++ own.number ∷ l =
    λ l is. merged ∙ ap (λ (k : List ℕ). c.args.participant.now.merged ++ own.number ∷ k) is in (
      own.number,
      if_ok c.scoped-own.result.1 (λ sessions h. with _ h.merged) taken,
      on_err c.scoped-own.result.1 (with []) none,
    )

pub returns-clause-outstanding : goal.returns-clause-outstanding
returns-clause-outstanding g c =
    let own : ParticipantView = c.scoped-own.result.0 in
    let split = c.split-own.ensures in
    let parent : own.parent ≡ c.split-own.result.parent = search rules in
    let whole : OnOk c.scoped-own.result.1 (own.outstanding ≡ c.split-own.result.outstanding) = search rules in
    on_ok c.scoped-own.result.1
    (as_many_outstanding c.args.participant.now c.split-own.new.participant c.split-own.result own _ split.same split.parent split.none_outstanding parent c.join.ensures.outstanding)
    whole

pub returns-clause-unstarted : goal.returns-clause-unstarted
returns-clause-unstarted g c none =
    let own : ParticipantView = c.scoped-own.result.0 in
    let split = c.split-own.ensures in
    let parent : own.parent ≡ c.split-own.result.parent = search rules in
    let whole : c.scoped-own.result.1 ≡ Err NoMemory → own.outstanding ≡ c.split-own.result.outstanding =
    search rules in
    as_many_outstanding c.args.participant.now c.split-own.new.participant c.split-own.result own _ split.same
    split.parent split.none_outstanding parent c.join.ensures.outstanding (whole none)

pub returns-clause-started : goal.returns-clause-started
returns-clause-started g c lacked =
    let own : ParticipantView = c.scoped-own.result.0 in
    let some : c.scoped-own.result.1 ≡ Err NoThread → c.split-own.result.outstanding < own.outstanding = search rules in
    one_more_outstanding c.args.participant.now c.split-own.new.participant own _ c.split-own.result.outstanding
    c.split-own.ensures.same c.join.ensures.outstanding (some lacked)

pub returns-clause-journaled : goal.returns-clause-journaled
returns-clause-journaled g c =
    let own : ParticipantView = c.scoped-own.result.0 in
    let none = c.split-own.ensures.counts.1 in
    let same = ap (λ (s : ParticipantView). s.journaled) c.split-own.ensures.same in
    let now = c.join.ensures.counts.1 in
    let more : IfOk c.scoped-own.result.1 (λ sessions. own.journaled ≡ c.split-own.result.journaled + all_steps (sessions_of sessions.items)) =
    search rules in
    if_ok c.scoped-own.result.1 (λ sessions h. omega (arith, none, same, now, h)) more

pub returns-clause-unjournaled : goal.returns-clause-unjournaled
returns-clause-unjournaled g c =
    let own : ParticipantView = c.scoped-own.result.0 in
    let none = c.split-own.ensures.counts.1 in
    let same = ap (λ (s : ParticipantView). s.journaled) c.split-own.ensures.same in
    let now = c.join.ensures.counts.1 in
    let kept : OnErr c.scoped-own.result.1 (own.journaled ≡ c.split-own.result.journaled) = search rules in
    on_err c.scoped-own.result.1 (λ h. omega (arith, none, same, now, h)) kept
