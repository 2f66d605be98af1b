-- What holds of a device's rows and its history at all times: it holds of the empty ones, and each step keeps it.
use Rattle.std.proofs.Common.{◌≡◌, List, [], ◌∷◌, length, Option, None, Some, refl, arith}
use Rattle.drm_table.specs.declared.answers.Answer.TheVariants.{Denied}
use Rattle.drm_table.specs.declared.events.Event.{Event}
use Rattle.drm_table.specs.declared.rules.Rule.{Rule}
use Rattle.drm_model.specs.Rows.{Rows}
use Rattle.drm_model.specs.StepNumbers.{StepNumbersRise, WereMade}
use Rattle.drm_model.specs.Verdict.{verdict}
use Rattle.drm_model.specs.Change.{after, after_verdict, changed, swept, journaled}
use Rattle.drm_model.specs.Reply.{reply, reply_by, answer_of}
use Rattle.drm_model.specs.Run.{DeviceValue, run, rows_of, start_of}
use Rattle.drm_model.proofs.Journals.{after-steps}
use Rattle.drm_model.proofs.StepNumbers.{after-step_numbers}
use Rattle.drm_model.proofs.OlderLessors.{after-made}
use Rattle.drm_history.specs.History.{AnsweredEvent, recorded, history_of}
use Rattle.drm_history.specs.Effects.{AllSteps}

-- the rows have as many steps as the history, which made their clients and masters
pub record IsReached (past : List AnsweredEvent) (w : Rows) : Type 0 where
  pub steps : w.steps ≡ length past
  pub step_numbers : StepNumbersRise w.steps w
  pub made : WereMade w.steps w

-- what a step of these rows adds to the history
abbrev pub replied : Rows → Event → AnsweredEvent
replied w event = record { event = event; answer = reply w event }

-- the step of a denial, and of an event that is carried out
abbrev pub denied : Event → Rule → AnsweredEvent
denied event rule = record { event = event; answer = Denied rule }

abbrev pub carried : Rows → Event → AnsweredEvent
carried w event = record { event = event; answer = answer_of w event }

reached_after : (past : List AnsweredEvent) (w : Rows) (event : Event) → IsReached past w
    → IsReached (replied w event ∷ past) (after w event)
reached_after past w event r = record {
  steps = let more = after-steps w event in let same = r.steps in omega (arith, more, same);
  step_numbers = after-step_numbers w event r.step_numbers;
  made = after-made w event r.made;
}

reached_start : (h : DeviceValue) → IsReached [] (start_of h)
reached_start h = record { steps = refl; step_numbers = ((tt, tt), (tt, tt), (tt, tt)); made = (tt, tt, tt, tt) }

-- a step keeps it: from rows that were reached, whatever the event
abbrev pub Keeps : (List AnsweredEvent → Rows → Type 0) → Type 0
Keeps P =
    (past : List AnsweredEvent) (w : Rows) (event : Event) → IsReached past w → P past w → P (replied w event ∷ past)
    (after w event)

-- What each denial and each accepted event keeps, each step keeps.
pub by_verdict : (P : List AnsweredEvent → Rows → Type 0)
    → ((past : List AnsweredEvent) (w : Rows) (event : Event) (rule : Rule) → IsReached past w → P past w → P (denied event rule ∷ past) (journaled w))
    → ((past : List AnsweredEvent) (w : Rows) (event : Event) → IsReached past w → verdict w event ≡ None → P past w → P (carried w event ∷ past) (journaled (swept (changed w event))))
    → Keeps P
unfolding after reply
by_verdict P of_denial of_change past w event r p = split (verdict w event) refl
  where
    split : (v : Option Rule) → verdict w event ≡ v
        → P (record { event = event; answer = reply_by v w event } ∷ past) (after_verdict v w event)
    split (Some rule) e = of_denial past w event rule r p
    split None e = of_change past w event r e p

module _ (P : List AnsweredEvent → Rows → Type 0) (keeps : Keeps P) where
  run_keeps : (events : List Event) (w : Rows) (past : List AnsweredEvent) → IsReached past w → P past w
      → P (recorded w past events) (run w events)
  unfolding recorded run
  run_keeps [] w past r p = p
  run_keeps (event ∷ events) w past r p =
      run_keeps events (after w event) (replied w event ∷ past) (reached_after past w event r) (keeps past w event r p)

  -- What holds of the first rows and is kept by each step holds of the rows of any history.
  pub at_all_times : (h : DeviceValue) → P [] (start_of h) → P (history_of h) (rows_of h)
  unfolding history_of rows_of
  at_all_times h p = run_keeps h.journal (start_of h) [] (reached_start h) p

  module _ (Q : AnsweredEvent → List AnsweredEvent → Type 0) (tells : (past : List AnsweredEvent) (w : Rows) (event : Event) → IsReached past w → P past w → Q (replied w event) past) where
    run_steps : (events : List Event) (w : Rows) (past : List AnsweredEvent) → IsReached past w → P past w
        → AllSteps Q past → AllSteps Q (recorded w past events)
    unfolding recorded run AllSteps
    run_steps [] w past r p q = q
    run_steps (event ∷ events) w past r p q =
        run_steps events (after w event) (replied w event ∷ past) (reached_after past w event r)
        (keeps past w event r p) (tells past w event r p, q)

    -- What each step guarantees of its event and answer holds of each step of any history.
    pub at_each_step : (h : DeviceValue) → P [] (start_of h) → AllSteps Q (history_of h)
    unfolding history_of AllSteps
    at_each_step h p = run_steps h.journal (start_of h) [] (reached_start h) p tt
