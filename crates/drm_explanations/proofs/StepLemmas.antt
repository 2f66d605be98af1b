-- The step of a number in a history.
use Rattle.std.proofs.Common.{◌≡◌, ℕ, ◌+◌, ◌-◌, ◌<◌, ◌≤◌, ◌==◌, true, false, cond, ◌&&◌, List, [], ◌∷◌, length, Option, None, Some, refl, ◌∙◌, ap, subst, arith, zero, suc}
use Rattle.std.specs.Prelude.{nat_le}
use Rattle.std.specs.List.{slice_get}
use Rattle.std.specs.Str.{is_utf8, chars}
use Rattle.std.proofs.lemmas.Bool.Decides.{nat_tests}
use Rattle.drm_history.specs.History.{AnsweredEvent, next_number}
use Rattle.drm_table.specs.Table.{kind_row, kind_word}
use Rattle.drm_table.specs.declared.calls.CallKind.{CallKind}
use Rattle.drm_table.specs.declared.calls.CallKind.TheVariants as kinds
use Rattle.drm_trails.specs.Steps.{entry_of, followed_by, history_of}
use Rattle.drm_trails.specs.declared.steps.Step.{Step}
use Rattle.drm_explanations.specs.Steps.{TellsStep, step_in}
use Rattle.drm_explanations.specs.declared.rows.At.{At}

newest_is : (n : ℕ) (step : AnsweredEvent) (older : Option AnsweredEvent) → cond (n == n) (Some step) older ≡ Some step
newest_is n step older = ap (λ b. cond b (Some step) older) (let e : (n == n) ≡ true = grind (arith, nat_tests) in e)

older_is : (n k : ℕ) (step : AnsweredEvent) (older : Option AnsweredEvent) → n < k
    → cond (n == k) (Some step) older ≡ older
older_is n k step older less = ap (λ b. cond b (Some step) older) (let e : (n == k) ≡ false = grind (arith, nat_tests) in e)

-- the steps of a history stay when others follow
still_there : (past : List AnsweredEvent) (steps : List Step) (n : ℕ) → n ≤ length past
    → step_in (followed_by past steps) n ≡ step_in past n
unfolding followed_by step_in
still_there past [] n within = refl
still_there past (step ∷ steps) n within =
    still_there (entry_of step ∷ past) steps n (omega (arith, within))
    ∙ older_is n (next_number past) (entry_of step) (step_in past n) (omega (arith, within))

newest_there : (past : List AnsweredEvent) (step : AnsweredEvent)
    → step_in (step ∷ past) (next_number past) ≡ Some step
unfolding step_in
newest_there past step = newest_is (next_number past) step (step_in past (next_number past))

there : (past : List AnsweredEvent) (steps : List Step) (i : ℕ) (step : Step) → slice_get steps i ≡ Some step
    → step_in (followed_by past steps) (length past + 1 + i) ≡ Some (entry_of step)
unfolding followed_by
there past [] i step found = absurd (let e : None ≡ Some step = found in cc)
there past (first ∷ steps) zero step found =
    let same : first ≡ step = (let e : Some first ≡ Some step = found in cc) in
    ap (step_in (followed_by (entry_of first ∷ past) steps)) (omega arith)
    ∙ still_there (entry_of first ∷ past) steps (next_number past) (omega arith)
    ∙ newest_there past (entry_of first)
    ∙ ap (λ (s : Step). Some (entry_of s)) same
there past (first ∷ steps) (suc i) step found =
    ap (step_in (followed_by (entry_of first ∷ past) steps)) (omega arith)
    ∙ there (entry_of first ∷ past) steps i step found

-- The step of a number is the one at that place in the list, which begins with step 1.
pub step_of_number : (steps : List Step) (number : ℕ) (step : Step)
    → true ≡ (nat_le 1 number && nat_le number (length steps)) → slice_get steps (number - 1) ≡ Some step
    → step_in (history_of steps) number ≡ Some (entry_of step)
step_of_number steps number step within found =
    let some : 1 ≤ number = grind (arith, nat_tests) in
    ap (step_in (history_of steps)) (let e : number ≡ 0 + 1 + (number - 1) = omega (arith, some) in e)
    ∙ there [] steps (number - 1) step found

-- What is reported of a step in the list is so of the history that it is of.
pub tells_in : (steps : List Step) (history : List AnsweredEvent) (told : At) → history_of steps ≡ history
    → TellsStep (history_of steps) told → TellsStep history told
tells_in steps history told is tells = subst (λ (h : List AnsweredEvent). TellsStep h told) is tells

-- The words of calls are text.
pub words_are_text : (kind : CallKind) → is_utf8 (kind_word kind) ≡ true
unfolding is_utf8 chars kind_row lib.Utf8.encode
words_are_text kinds.Version = refl
words_are_text _ = refl
