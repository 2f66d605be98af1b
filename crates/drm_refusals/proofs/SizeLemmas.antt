-- The buffer of a client's handle, and the answer of the step that created it.
use Rattle.std.proofs.Common.{◌≡◌, ℕ, zero, suc, ◌+◌, ◌-◌, ◌<◌, ◌≤◌, ◌==◌, Bool, true, false, if◌then◌else◌, ◌&&◌, List, [], ◌∷◌, length, get_or, take, Option, None, Some, refl, sym, ◌∙◌, ap, subst, arith}
use Rattle.std.specs.Prelude.{slice_get, nat_le}
use Rattle.std.specs.Option.{option_and_then}
use Rattle.std.proofs.lemmas.Bool.{eqb-true, false≢true}
use Rattle.std.proofs.lemmas.Bool.Decides.{nat_tests}
use Rattle.std.proofs.lemmas.List.{take_all}
use Rattle.std.proofs.lemmas.Option.{get_or_from_slice_get, same_Some, slice_get-get_or, slice_get_within}
use Rattle.drm_table.specs.declared.answers.Answer.{Answer}
use Rattle.drm_history.specs.History.{AnsweredEvent, next_number}
use Rattle.drm_history.specs.Holds.{Has}
use Rattle.drm_history.proofs.HistoryFunctions.{Held, Kept, has_is_told, none_some}
use Rattle.drm_history.proofs.RunsAgree.{agrees}
use Rattle.drm_trails.specs.Chains.{HasNone, IsOfDevice}
use Rattle.drm_trails.specs.Steps.{entry_of, history_of}
use Rattle.drm_trails.specs.declared.steps.Step.{Step}
use Rattle.drm_trails.proofs.HistoryLemmas.{length-history_of, next_number-take}
use Rattle.drm_trails.proofs.PassingLemmas.{history-more}
use Rattle.drm_explanations.proofs.WithinLemmas.{in_range}
use Rattle.drm_refusals.specs.Kinds.{answer_at, bytes_created, bytes_of}

-- A handle has one object in a device's history.
pub one_object : (history : List AnsweredEvent) (c h o p : ℕ) → IsOfDevice history → Has history c h o
    → Has history c h p → o ≡ p
one_object history c h o p of_device one other =
    let kept : Kept history = subst Kept (sym of_device.1) (agrees of_device.0).facts.held.kept in
    same_Some o p (sym (has_is_told o history c h kept one) ∙ has_is_told p history c h kept other)

newest_or : (steps : List Step) (n count : ℕ) (step : Step) (older : Option Answer) → step ≡ get_or steps (n - 1) step
    → n ≤ suc count → (n ≤ count → older ≡ Some step.answer) → (b : Bool) → (count + 1 == n) ≡ b
    → (if b then Some (get_or steps count step).answer else older) ≡ Some step.answer
newest_or steps n count step older is low before true same =
    let place : count ≡ n - 1 = grind (arith, nat_tests) in
    ap (λ k. Some (get_or steps k step).answer) place ∙ ap (λ (s : Step). Some s.answer) (sym is)
newest_or steps n count step older is low before false other =
    let within : n ≤ count = grind (arith, nat_tests) in
    before within

answer_within : (steps : List Step) (n : ℕ) (step : Step) → 0 < n → step ≡ get_or steps (n - 1) step
    → (count : ℕ) → n ≤ count → count ≤ length steps → answer_at (history_of (take count steps)) n ≡ Some step.answer
unfolding answer_at
answer_within steps n step some is zero low high = absurd (omega (arith, some, low))
answer_within steps n step some is (suc count) low high =
    let other = get_or steps count step in
    let past = history_of (take count steps) in
    let here : other ≡ get_or steps count other =
    sym (get_or_from_slice_get steps count other other (slice_get-get_or steps count step (omega (arith, high)))) in
    let next : suc count ≡ count + 1 = omega arith in
    let newest : history_of (take (suc count) steps) ≡ entry_of other ∷ past =
    ap (λ k. history_of (take k steps)) next ∙ history-more steps count other (omega (arith, high)) here in
    ap (λ h. answer_at h n) newest
    ∙ ap (λ (k : ℕ). if k == n then Some other.answer else answer_at past n) (next_number-take steps count (omega (arith, high)))
    ∙ newest_or steps n count step (answer_at past n) is low
    (λ within. answer_within steps n step some is count within (omega (arith, high))) (count + 1 == n) refl

-- The answer of a step is the history's.
pub answer_of_step : (steps : List Step) (n : ℕ) (step : Step) → 0 < n → slice_get steps (n - 1) ≡ Some step
    → answer_at (history_of steps) n ≡ Some step.answer
answer_of_step steps n step some is =
    let within = slice_get_within steps (n - 1) step is in
    let here = sym (get_or_from_slice_get steps (n - 1) step step is) in
    ap (λ all. answer_at (history_of all) n) (sym (take_all (length steps) steps (omega arith)))
    ∙ answer_within steps n step some here (length steps) (omega (arith, within, some)) (omega arith)

-- ---- the bytes of a handle's buffer

-- A step that has an answer is one of the history.
answered_within : (history : List AnsweredEvent) (n : ℕ) (answer : Answer) → answer_at history n ≡ Some answer
    → (1 ≤ n) × (n ≤ length history)
unfolding answer_at
answered_within [] n answer e = none_some answer e
answered_within (step ∷ past) n answer e =
    elim (next_number past == n) as (λ b. (next_number past == n) ≡ b → (if b then Some step.answer else answer_at past n) ≡ Some answer → (1 ≤ n) × (n ≤ length (step ∷ past))) [
      | true ↦ λ same found. let is : next_number past ≡ n = eqb-true (next_number past) n same in (omega (arith, is), omega (arith, is))
      | false ↦ λ other found. let older = answered_within past n answer found in (older.0, (let within = older.1 in omega (arith, within)))
    ] refl e

created_within : (history : List AnsweredEvent) (n bytes : ℕ) (found : Option Answer) → answer_at history n ≡ found
    → option_and_then bytes_created found ≡ Some bytes → (1 ≤ n) × (n ≤ length history)
created_within history n bytes None is e = none_some bytes e
created_within history n bytes (Some answer) is e = answered_within history n answer is

module _ (history : List AnsweredEvent) (steps : List Step) (c h : ℕ) (is : history_of steps ≡ history) where
  abbrev whole : List AnsweredEvent
  whole = history_of (take (length steps) steps)

  all : whole ≡ history
  all = ap history_of (take_all (length steps) steps (omega arith)) ∙ is

  -- A handle has an object.
  pub has_object : (IsOfDevice whole → HasNone whole c h) → IsOfDevice history → (object : ℕ) → Has history c h object → ⊥
  has_object none of_device object has =
      subst (λ past. IsOfDevice past → HasNone past c h) all none of_device object has

  same_object : (found object : ℕ) → Has whole c h found → IsOfDevice history → Has history c h object → found ≡ object
  same_object found object one of_device has =
      one_object history c h found object of_device (subst (λ past. Has past c h found) all one) has

  -- The step that created a handle's object is one of the history.
  pub has_step : (found object bytes : ℕ) → Has whole c h found → IsOfDevice history → Has history c h object
      → bytes_of history object ≡ Some bytes → false ≡ (nat_le 1 found && nat_le found (length steps)) → ⊥
  has_step found object bytes one of_device has made lost =
      let same = same_object found object one of_device has in
      let within = created_within history object bytes (answer_at history object) refl made in
      let low = within.0 in
      let high = within.1 in
      let count = length-history_of steps in
      let size = ap (λ (past : List AnsweredEvent). length past) is in
      let here : (nat_le 1 found && nat_le found (length steps)) ≡ true =
      in_range (length steps) found ((omega (arith, same, low)), (omega (arith, same, high, count, size))) in
      false≢true (lost ∙ here)

  -- The bytes of a handle's buffer are those that its step was answered.
  pub bytes_are : (found object bytes : ℕ) (step : Step) → Has whole c h found → IsOfDevice history
      → Has history c h object → bytes_of history object ≡ Some bytes → slice_get steps (found - 1) ≡ Some step
      → bytes_created step.answer ≡ Some bytes
  bytes_are found object bytes step one of_device has made at =
      let same = same_object found object one of_device has in
      let within = created_within history object bytes (answer_at history object) refl made in
      let low = within.0 in
      let answer : answer_at history object ≡ Some step.answer =
      ap (answer_at history) (sym same) ∙ ap (λ past. answer_at past found) (sym is)
      ∙ answer_of_step steps found step (omega (arith, same, low)) at in
      sym (ap (option_and_then bytes_created) answer) ∙ made
