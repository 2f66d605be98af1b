-- A history of one step more, and what its last steps say.
use Rattle.std.proofs.Common.{◌≡◌, ℕ, ◌+◌, ◌-◌, ◌<◌, ◌≤◌, List, [], ◌∷◌, ◌++◌, Option, None, length, get_or, take, refl, sym, ◌∙◌, ap, arith, add-zero}
use Rattle.std.specs.Option.{option_map}
use Rattle.std.proofs.lemmas.List.{take_more, length-take-le}
use Rattle.drm_history.specs.History.{AnsweredEvent, next_number}
use Rattle.drm_history.specs.Steps.{Key, Publishing, given, published}
use Rattle.drm_trails.specs.Steps.{entry_of, followed_by, givings_of, history_of, source_of}
use Rattle.drm_trails.specs.Searches.{source_for, sharing_or, last_sharing}
use Rattle.drm_trails.specs.declared.steps.Step.{Step}
use Rattle.drm_trails.specs.declared.steps.Giving.{Giving as GivenHandle}
use Rattle.drm_trails.specs.declared.steps.Source.{Source as HandleSource}

-- One more step is the newest of the history.
pub followed_by-append : (past : List AnsweredEvent) (front : List Step) (step : Step)
    → followed_by past (front ++ step ∷ []) ≡ entry_of step ∷ followed_by past front
unfolding followed_by
followed_by-append past [] step = refl
followed_by-append past (x ∷ front) step = followed_by-append (entry_of x ∷ past) front step

-- The first steps of a list are the history with the last of them as the newest.
pub history_of-take : (steps : List Step) (n : ℕ) (step : Step) → 0 < n → n ≤ length steps
    → step ≡ get_or steps (n - 1) step → history_of (take n steps) ≡ entry_of step ∷ history_of (take (n - 1) steps)
history_of-take steps n step some within is =
    let next : n ≡ n - 1 + 1 = omega (arith, some) in
    let before : n - 1 < length steps = omega (arith, some, within) in
    ap (λ k. history_of (take k steps)) next
    ∙ ap (followed_by []) (take_more steps (n - 1) step before)
    ∙ followed_by-append [] (take (n - 1) steps) (get_or steps (n - 1) step)
    ∙ ap (λ x. entry_of x ∷ history_of (take (n - 1) steps)) (sym is)

-- The last publishing under a key is the newest step's, if that publishes under it, and else the one before.
pub last_sharing-take : (steps : List Step) (n : ℕ) (step : Step) (key : Key) (p : Option Publishing) → 0 < n
    → n ≤ length steps → step ≡ get_or steps (n - 1) step → published (entry_of step) ≡ p →
    last_sharing (history_of (take n steps)) key ≡ sharing_or key p (history_of (take (n - 1) steps))
    (last_sharing (history_of (take (n - 1) steps)) key)
unfolding last_sharing
last_sharing-take steps n step key p some within is its_publishing =
    ap (λ history. last_sharing history key) (history_of-take steps n step some within is)
    ∙ ap (λ q. sharing_or key q (history_of (take (n - 1) steps)) (last_sharing (history_of (take (n - 1) steps)) key))
    its_publishing

-- Without steps nothing was published.
pub last_sharing-none : (steps : List Step) (n : ℕ) (key : Key) → n ≤ 0
    → last_sharing (history_of (take n steps)) key ≡ None
unfolding last_sharing followed_by
last_sharing-none steps n key none = let zero : n ≡ 0 = omega (arith, none) in ap (λ k. last_sharing (history_of (take k steps)) key) zero

-- The source of a handle that was found in a step is that of the step's assignment.
pub source_of_step : (c h : ℕ) (step : Step) (found : Option GivenHandle) (source answer : Option HandleSource)
    → givings_of found ≡ given (entry_of step) → option_map source_of source ≡ source_for c h (givings_of found)
    → source ≡ answer →
    source_for c h (given (entry_of step)) ≡ option_map source_of answer
source_of_step c h step found source answer its_giving its_source same =
    ap (source_for c h) (sym its_giving) ∙ sym its_source ∙ ap (option_map source_of) same

followed_by-length : (past : List AnsweredEvent) (steps : List Step)
    → length (followed_by past steps) ≡ length past + length steps
unfolding followed_by
followed_by-length past [] = sym (add-zero (length past))
followed_by-length past (step ∷ steps) = let rest = followed_by-length (entry_of step ∷ past) steps in omega (arith, rest)

-- After the first steps of a list the next number is one more than their count.
pub next_number-take : (steps : List Step) (n : ℕ) → n ≤ length steps → next_number (history_of (take n steps)) ≡ n + 1
next_number-take steps n within = let all = followed_by-length [] (take n steps) in let front = length-take-le n steps within in omega (arith, all, front)

-- A history has as many steps as the list that it is of.
pub length-history_of : (steps : List Step) → length (history_of steps) ≡ length steps
length-history_of steps = let all = followed_by-length [] steps in omega (arith, all)
