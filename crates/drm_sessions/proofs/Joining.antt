-- Jobs that were served through participants of a participant that was itself split off.
use Rattle.std.proofs.Common.{◌≡◌, ◌+◌, ◌-◌, ◌<◌, ℕ, Bool, true, false, cond, eqb, ◌&&◌, List, [], ◌∷◌, ◌++◌, Result, Ok, Err, refl, ap, sym, ◌∙◌, arith}
use Rattle.std.proofs.lemmas.Bool.Decides.{nat_tests}
use Rattle.std.specs.Prelude.{IfOk, OnErr, OnOk}
use Rattle.drm_turns.specs.Participants.{ParticipantView, with_outstanding}
use Rattle.drm_turns.specs.Views.{outstanding_after}
use Rattle.drm_turns.proofs.ParticipantsIn.{given_back, split-off-again}
use Rattle.drm_frames.specs.Streams.{SourceTrace, SinkTrace}
use Rattle.drm_sessions.specs.declared.jobs.Finished.{Finished}
use Rattle.drm_sessions.specs.declared.jobs.Job.{Job}
use Rattle.drm_sessions.specs.declared.end.Session.{Session}
use Rattle.drm_sessions.specs.Serving.{all_steps}
use Rattle.drm_sessions.specs.Jobs.{IsServedBeside, sessions_of}

-- A job that was served through a participant split off a participant was served through one split off the first.
pub served-beside-again : {G S K : Type 0} (passes : G → ℕ → G → Type 0) (source_trace : S → SourceTrace) (sink_trace : K → SinkTrace) (participant own : ParticipantView)
    → own.table ≡ participant.table → own.origin ≡ participant.origin
    → (job : Job G S K) (finished : Finished S K) → IsServedBeside passes source_trace sink_trace own job finished
    → IsServedBeside passes source_trace sink_trace participant job finished
served-beside-again passes source_trace sink_trace participant own table origin job finished h =
    record { own = h.own; split = split-off-again participant own h.own table origin h.split; served = h.served }

-- The steps of one more session are the old ones and its own.
pub all_steps-push : (sessions : List Session) (session : Session)
    → all_steps (sessions ++ session ∷ []) ≡ all_steps sessions + session.steps
all_steps-push [] session = omega arith
all_steps-push (first ∷ sessions) session = let more = all_steps-push sessions session in omega arith

-- One more job that is done adds the steps of its session.
pub all_steps-done : {S K : Type 0} (done : List (Finished S K)) (finished : Finished S K)
    → all_steps (sessions_of (done ++ finished ∷ [])) ≡ all_steps (sessions_of done) + finished.session.steps
all_steps-done [] finished = omega arith
all_steps-done (first ∷ done) finished = let more = all_steps-done done finished in omega arith

-- If the value of a result has a property, it has each that follows from it.
pub if_ok : {D E : Type 0} {P Q : D → Type 0} (r : Result D E) → ((d : D) → P d → Q d) → IfOk r P → IfOk r Q
if_ok (Ok d) step h = step d h
if_ok (Err e) step h = tt

-- What holds if a result is an error implies what follows from it.
pub on_err : {D E : Type 0} {P Q : Type 0} (r : Result D E) → (P → Q) → OnErr r P → OnErr r Q
on_err (Ok d) step h = tt
on_err (Err e) step h = step h

-- What holds if a result is no error implies what follows from it.
pub on_ok : {D E : Type 0} {P Q : Type 0} (r : Result D E) → (P → Q) → OnOk r P → OnOk r Q
on_ok (Ok d) step h = step h
on_ok (Err e) step h = tt

kept_case : (b none : Bool) (outstanding : ℕ) → none ≡ false
    → cond (b && none) (outstanding - 1) outstanding ≡ outstanding
kept_case true true outstanding e = absurd (cc)
kept_case true false outstanding e = refl
kept_case false none outstanding e = refl

-- If a participant that was split off is returned with some participants out, one more is out of its parent.
pub one_more_outstanding : (participant lent own : ParticipantView) (outstanding few : ℕ)
    → lent ≡ with_outstanding participant (participant.outstanding + 1)
    → outstanding ≡ outstanding_after lent.number lent.outstanding own.parent own.outstanding → few < own.outstanding
    → outstanding ≡ participant.outstanding + 1
one_more_outstanding participant lent own outstanding few same now some =
    let others : eqb own.outstanding 0 ≡ false = grind (arith, nat_tests) in
    now
    ∙
    (kept_case (eqb own.parent lent.number) (eqb own.outstanding 0) lent.outstanding others ∙ ap (λ (s : ParticipantView). s.outstanding) same)

-- If a participant that was split off is returned with none out, as many are out of its parent as before.
pub as_many_outstanding : (participant lent child own : ParticipantView) (outstanding : ℕ)
    → lent ≡ with_outstanding participant (participant.outstanding + 1) → child.parent ≡ participant.number
    → child.outstanding ≡ 0 → own.parent ≡ child.parent
    → outstanding ≡ outstanding_after lent.number lent.outstanding own.parent own.outstanding
    → own.outstanding ≡ child.outstanding → outstanding ≡ participant.outstanding
as_many_outstanding participant lent child own outstanding same parent none kept now whole =
    let number = ap (λ (s : ParticipantView). s.number) same in
    let more = ap (λ (s : ParticipantView). s.outstanding) same in
    let fewer =
    given_back lent.number lent.outstanding own.parent own.outstanding (kept ∙ (parent ∙ sym number)) (whole ∙ none)
    in
    omega arith
