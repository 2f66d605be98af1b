-- What is reported of the newest step.
use Rattle.std.proofs.Common.{◌≡◌, ℕ, ◌+◌, ◌-◌, true, false, ◌&&◌, List, [], ◌∷◌, length, get_or, take, Option, None, Some, refl, sym, ◌∙◌, ap, subst, arith}
use Rattle.std.specs.Prelude.{IfSome, nat_le, slice_get}
use Rattle.std.specs.Option.{is_some, option_map}
use Rattle.std.proofs.lemmas.List.{take_all}
use Rattle.std.proofs.lemmas.Option.{get_or_from_slice_get, slice_get-get_or, slice_get_within}
use Rattle.drm_table.specs.Rules.{rule_number}
use Rattle.drm_table.specs.declared.events.Event.{Event}
use Rattle.drm_table.specs.declared.rules.Rule.{Rule}
use Rattle.drm_modes.specs.Topology.{Topology}
use Rattle.drm_model.specs.Reply.{reply, reply_by}
use Rattle.drm_model.specs.Run.{DeviceValue, journaled_in, rows_of}
use Rattle.drm_model.specs.Verdict.{verdict}
use Rattle.drm_history.specs.History as past
use Rattle.drm_history.specs.History.{AnsweredEvent}
use Rattle.drm_history.proofs.AnsweredJournals.{history_grows}
use Rattle.drm_history.proofs.HistoryFunctions.{none_some}
use Rattle.drm_trails.specs.Steps.{entry_of, followed_by, history_of}
use Rattle.drm_trails.specs.declared.steps.Step.{Step}
use Rattle.drm_trails.proofs.PassingLemmas.{history-more}
use Rattle.drm_explanations.specs.declared.rows.At.{At}
use Rattle.drm_explanations.proofs.WithinLemmas.{step_reported, steps_of}
use Rattle.drm_refusals.specs.Kinds.{Has, HasFor}
use Rattle.drm_refusals.specs.declared.facts.Fact.{Fact}
use Rattle.drm_refusals.specs.Reports.{denied_by, last_number, last_rule}

none_at : (found : Option At) (count : ℕ) → count ≡ 0 → is_some found ≡ (nat_le 1 count && nat_le count count)
    → option_map (λ (told : At). told.step) found ≡ None
none_at None count zero numbers = refl
none_at (Some told) count zero numbers =
    absurd (let e : true ≡ false = numbers ∙ ap (λ n. nat_le 1 n && nat_le n n) zero in cc)

-- The number of the step that is reported is that of the history's last step.
pub last_reported : (steps : List Step) (history : List AnsweredEvent) (found : Option At) → history_of steps ≡ history
    → IfSome found (λ (told : At). told.step ≡ length steps)
    → is_some found ≡ (nat_le 1 (length steps) && nat_le (length steps) (length steps))
    → option_map (λ (told : At). told.step) found ≡ last_number history
last_reported steps [] found e is numbers = none_at found (length steps) (steps_of steps [] e) numbers
last_reported steps (step ∷ older) found e is numbers =
    let size : length steps ≡ length (step ∷ older) = steps_of steps (step ∷ older) e in
    step_reported steps (step ∷ older) (length steps) found e ((omega (arith, size)), (omega (arith, size))) is numbers
    ∙ ap Some (let n : length steps ≡ length older + 1 = omega (arith, size) in n)

-- the newest step is the last of these
newest : (steps : List Step) (step : Step) → slice_get steps (length steps - 1) ≡ Some step
    → history_of steps ≡ entry_of step ∷ history_of (take (length steps - 1) steps)
newest steps step e =
    let within = slice_get_within steps (length steps - 1) step e in
    let all : length steps - 1 + 1 ≡ length steps = omega (arith, within) in
    ap history_of (sym (take_all (length steps) steps (omega arith)) ∙ ap (λ n. take n steps) (sym all))
    ∙ history-more steps (length steps - 1) step within
    (sym (get_or_from_slice_get steps (length steps - 1) step step e))

-- The rule of the newest step's denial is that of the history's last step.
pub rule_of_newest : (steps : List Step) (history : List AnsweredEvent) (step : Step) → history_of steps ≡ history
    → slice_get steps (length steps - 1) ≡ Some step
    → option_map rule_number (denied_by step.answer) ≡ last_rule history
rule_of_newest steps history step e there = ap last_rule (sym (newest steps step there) ∙ e)

-- The facts of the newest step are those of the history's last step.
pub kinds_of_newest : (t : Topology) (steps : List Step) (history : List AnsweredEvent) (step : Step) (found : List Fact)
    → history_of steps ≡ history → slice_get steps (length steps - 1) ≡ Some step
    → HasFor t history step.event step.answer found → Has t history found
kinds_of_newest t steps history step found e there has =
    let is : entry_of step ∷ history_of (take (length steps - 1) steps) ≡ history = sym (newest steps step there) ∙ e in
    subst (λ (h : List AnsweredEvent). Has t h found) is
    (subst (λ (h : List AnsweredEvent). HasFor t h step.event step.answer found) (sym is) has)

-- An event that the model denies is reported with the rule of its verdict.
pub denial_reported : (h : DeviceValue) (event : Event) (rule : Rule) (history : List AnsweredEvent)
    → history ≡ past.history_of (journaled_in h event) → verdict (rows_of h) event ≡ Some rule
    → last_rule history ≡ Some (rule_number rule)
unfolding reply
denial_reported h event rule history is fails =
    ap last_rule (is ∙ history_grows h event)
    ∙ ap (λ v. option_map rule_number (denied_by (reply_by v (rows_of h) event))) fails

-- A history without a newest step is empty.
pub none_newest : (steps : List Step) (history : List AnsweredEvent) → history_of steps ≡ history
    → None ≡ slice_get steps (length steps - 1) → [] ≡ history
unfolding followed_by
none_newest [] history e none = e
none_newest (step ∷ steps) history e none =
    absurd
    (let some : slice_get (step ∷ steps) (length (step ∷ steps) - 1) ≡ Some (get_or (step ∷ steps) (length (step ∷ steps) - 1) step) = slice_get-get_or (step ∷ steps) (length (step ∷ steps) - 1) step (omega arith) in none_some (get_or (step ∷ steps) (length (step ∷ steps) - 1) step) (none ∙ some))
