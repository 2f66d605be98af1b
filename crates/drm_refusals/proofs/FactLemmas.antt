-- What is published under a key.
use Rattle.std.proofs.Common.{◌≡◌, ℕ, ◌+◌, ◌<◌, Bool, true, false, ◌&&◌, cond, List, [], ◌∷◌, length, take, Option, None, Some, sym, ◌∙◌, ap, subst, arith}
use Rattle.std.specs.Prelude.{IfSome, nat_lt}
use Rattle.std.specs.Option.{option_or}
use Rattle.drm_history.specs.History.{AnsweredEvent, next_number}
use Rattle.drm_trails.specs.Passing.{first_step_after}
use Rattle.drm_explanations.proofs.WithinLemmas.{IsStep}
use Rattle.drm_history.specs.Holds.{Has}
use Rattle.drm_history.specs.Steps.{Key}
use Rattle.drm_trails.specs.Searches.{last_sharing, sharings_at}
use Rattle.drm_trails.specs.Steps.{history_of}
use Rattle.drm_trails.specs.declared.searches.LastPublishing.{LastPublishing}
use Rattle.drm_trails.specs.declared.steps.Step.{Step}
use Rattle.drm_trails.proofs.HistoryLemmas.{next_number-take}
use Rattle.drm_refusals.specs.Facts.{WasNamed, publisher}

first_or : (past : List AnsweredEvent) (older : Option ℕ) (b : Bool) → IfSome older (IsStep (length past))
    → IfSome (option_or older (cond b (Some (next_number past)) None)) (IsStep (length past + 1))
first_or past (Some n) b h = (h.0, (let within = h.1 in omega (arith, within)))
first_or past None true h = (omega arith, omega arith)
first_or past None false h = tt

-- The first step that passes is one of the history.
pub passing_within : (number : ℕ) (passes : AnsweredEvent → Bool) (history : List AnsweredEvent)
    → IfSome (first_step_after number passes history) (IsStep (length history))
unfolding first_step_after
passing_within number passes [] = tt
passing_within number passes (step ∷ past) =
    let b = nat_lt number (next_number past) && passes step in
    subst
    (λ k. IfSome (option_or (first_step_after number passes past) (cond b (Some (next_number past)) None)) (IsStep k))
    (omega arith) (first_or past (first_step_after number passes past) b (passing_within number passes past))

-- The client and the step of the last publishing under a key are those that were found.
pub published_by : (steps : List Step) (history : List AnsweredEvent) (key : Key) (found : LastPublishing)
    → history_of steps ≡ history → found.past < length steps
    → sharings_at steps (Some found) ≡ last_sharing (history_of steps) key
    → publisher (last_sharing history key) ≡ Some (found.client, found.past + 1)
published_by steps history key found is within last =
    ap (λ h. publisher (last_sharing h key)) (sym is) ∙ ap publisher (sym last)
    ∙ ap (λ (n : ℕ). Some (found.client, n)) (next_number-take steps found.past (omega (arith, within)))

-- If the client had a handle of this buffer, the last publishing under the key was of the buffer.
pub named_of : (steps : List Step) (history : List AnsweredEvent) (key : Key) (found : LastPublishing) (buffer : ℕ)
    → history_of steps ≡ history → sharings_at steps (Some found) ≡ last_sharing (history_of steps) key
    → Has (history_of (take found.past steps)) found.client found.handle buffer
    → WasNamed (last_sharing history key) buffer
named_of steps history key found buffer is last has =
    subst (λ s. WasNamed s buffer) (last ∙ ap (λ h. last_sharing h key) is) has
