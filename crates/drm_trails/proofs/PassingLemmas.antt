-- The first and the last step that pass a test, step by step.
use Rattle.std.proofs.Common.{◌≡◌, ℕ, ◌+◌, ◌<◌, ◌≤◌, Bool, true, false, cond, ◌&&◌, List, [], ◌∷◌, ◌++◌, length, get_or, take, drop, Option, None, Some, refl, sym, ◌∙◌, ap, arith}
use Rattle.std.specs.Prelude.{nat_lt}
use Rattle.std.specs.Option.{option_or}
use Rattle.std.proofs.lemmas.Bool.Decides.{nat_tests}
use Rattle.std.proofs.lemmas.List.{take_more, take-append-drop}
use Rattle.drm_history.specs.History.{AnsweredEvent, next_number}
use Rattle.drm_trails.specs.Passing.{first_step_after, last_step}
use Rattle.drm_trails.specs.Steps.{entry_of, followed_by, history_of}
use Rattle.drm_trails.specs.declared.steps.Step.{Step}
use Rattle.drm_trails.proofs.HistoryLemmas.{followed_by-append, next_number-take}

-- The first steps of a list with one more are the history with that step as the newest.
pub history-more : (steps : List Step) (n : ℕ) (step : Step) → n < length steps → step ≡ get_or steps n step
    → history_of (take (n + 1) steps) ≡ entry_of step ∷ history_of (take n steps)
history-more steps n step within is =
    ap history_of (take_more steps n step within) ∙ followed_by-append [] (take n steps) (get_or steps n step)
    ∙ ap (λ x. entry_of x ∷ history_of (take n steps)) (sym is)

followed_by-both : (past : List AnsweredEvent) (front back : List Step)
    → followed_by past (front ++ back) ≡ followed_by (followed_by past front) back
unfolding followed_by
followed_by-both past [] back = refl
followed_by-both past (x ∷ front) back = followed_by-both (entry_of x ∷ past) front back

module _ (passes : AnsweredEvent → Bool) where
  -- ---- the last

  -- Without steps, no step passes.
  pub last_step-none : last_step passes (history_of []) ≡ None
  unfolding last_step followed_by
  last_step-none = refl

  -- The last step that passes is the newest one if it passes, and else the one before.
  pub last_step-more : (steps : List Step) (n : ℕ) (step : Step) → n < length steps → step ≡ get_or steps n step →
      last_step passes (history_of (take (n + 1) steps)) ≡ cond (passes (entry_of step)) (Some (n + 1))
      (last_step passes (history_of (take n steps)))
  unfolding last_step
  last_step-more steps n step within is =
      ap (last_step passes) (history-more steps n step within is)
      ∙ ap (λ k. cond (passes (entry_of step)) (Some k) (last_step passes (history_of (take n steps))))
      (next_number-take steps n (omega (arith, within)))

  -- ---- the first after a step

  module _ (number : ℕ) where
    abbrev here : ℕ → Bool → Option ℕ
    here n b = cond (nat_lt number n && b) (Some n) None

    -- The first step that passes after a number is the one before, or else the newest one.
    pub first_step-more : (steps : List Step) (n : ℕ) (step : Step) → n < length steps → step ≡ get_or steps n step →
        first_step_after number passes (history_of (take (n + 1) steps)) ≡ option_or
        (first_step_after number passes (history_of (take n steps))) (here (n + 1) (passes (entry_of step)))
    unfolding first_step_after
    first_step-more steps n step within is =
        ap (first_step_after number passes) (history-more steps n step within is)
        ∙ ap
        (λ k. option_or (first_step_after number passes (history_of (take n steps))) (here k (passes (entry_of step))))
        (next_number-take steps n (omega (arith, within)))

    early : (past : List AnsweredEvent) → length past ≤ number → first_step_after number passes past ≡ None
    unfolding first_step_after
    early [] h = refl
    early (step ∷ past) h =
        let older = early past (omega (arith, h)) in
        let not_after : nat_lt number (length past + 1) ≡ false =
        (let le : length past + 1 ≤ number = omega (arith, h) in grind (arith, nat_tests)) in
        (λ i. option_or (older i) (cond (not_after i && passes step) (Some (next_number past)) None))

    -- No step passes among the first steps up to that number.
    pub first_step-early : (steps : List Step) (n : ℕ) → n ≤ number → n ≤ length steps
        → first_step_after number passes (history_of (take n steps)) ≡ None
    first_step-early steps n le within =
        early (history_of (take n steps)) (let next = next_number-take steps n within in omega (arith, next, le))

    stays : (past : List AnsweredEvent) (others : List Step) (k : ℕ) → first_step_after number passes past ≡ Some k
        → first_step_after number passes (followed_by past others) ≡ Some k
    unfolding first_step_after followed_by
    stays past [] k e = e
    stays past (x ∷ xs) k e =
        stays (entry_of x ∷ past) xs k (ap (λ o. option_or o (here (next_number past) (passes (entry_of x)))) e)

    -- A step that passes is the first one, if none before it passes.
    pub first_step-found : (steps : List Step) (n : ℕ) (step : Step) → n < length steps → step ≡ get_or steps n step
        → number ≤ n → passes (entry_of step) ≡ true
        → first_step_after number passes (history_of (take n steps)) ≡ None →
        first_step_after number passes (history_of steps) ≡ Some (n + 1)
    first_step-found steps n step within is le h none =
        ap (λ l. first_step_after number passes (history_of l)) (sym (take-append-drop (n + 1) steps))
        ∙ ap (first_step_after number passes) (followed_by-both [] (take (n + 1) steps) (drop (n + 1) steps))
        ∙ stays (history_of (take (n + 1) steps)) (drop (n + 1) steps) (n + 1) now
      where
        later : nat_lt number (n + 1) ≡ true
        later = grind (arith, nat_tests)

        now : first_step_after number passes (history_of (take (n + 1) steps)) ≡ Some (n + 1)
        now =
            first_step-more steps n step within is
            ∙ (λ i. option_or (none i) (cond (later i && h i) (Some (n + 1)) None))

    -- A step that does not pass is not the first one.
    pub first_step-passed : (steps : List Step) (n : ℕ) (step : Step) → n < length steps → step ≡ get_or steps n step
        → passes (entry_of step) ≡ false → first_step_after number passes (history_of (take n steps)) ≡ None →
        first_step_after number passes (history_of (take (n + 1) steps)) ≡ None
    first_step-passed steps n step within is h none =
        first_step-more steps n step within is
        ∙ (λ i. option_or (none i) (cond (nat_lt number (n + 1) && h i) (Some (n + 1)) None))
        ∙ nothing (nat_lt number (n + 1))
      where
        nothing : (b : Bool) → cond (b && false) (Some (n + 1)) None ≡ None
        nothing true = refl
        nothing false = refl
