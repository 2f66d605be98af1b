-- A step of a history that is a client's closing.
use Rattle.std.proofs.Common.{◌≡◌, ℕ, ◌+◌, ◌<◌, List, [], ◌∷◌, length, get_or, drop, refl, sym, ◌∙◌, arith, Bool, true, false, ◌||◌, zero, suc}
use Rattle.std.proofs.lemmas.List.{get_or-drop}
use Rattle.drm_history.specs.History.{AnsweredEvent}
use Rattle.drm_history.specs.Closings.{closes, has_closed}
use Rattle.drm_history.specs.Effects.{effect}
use Rattle.drm_trails.specs.Steps.{entry_of, followed_by, history_of}
use Rattle.drm_trails.specs.declared.steps.Step.{Step}

or_right : (b c : Bool) → c ≡ true → (b || c) ≡ true
or_right true c h = refl
or_right false c h = h

closed_before : (past : List AnsweredEvent) (steps : List Step) (c : ℕ) → has_closed past c ≡ true
    → has_closed (followed_by past steps) c ≡ true
unfolding followed_by has_closed
closed_before past [] c h = h
closed_before past (step ∷ steps) c h =
    closed_before (entry_of step ∷ past) steps c (or_right (closes (effect (entry_of step)) c) (has_closed past c) h)

closed_first : (past : List AnsweredEvent) (first step : Step) (c : ℕ) → step ≡ first
    → closes (effect (entry_of step)) c ≡ true → has_closed (entry_of first ∷ past) c ≡ true
unfolding has_closed
closed_first past first step c is h = rw (sym is) (rw h refl)

closed_there : (past : List AnsweredEvent) (steps : List Step) (n c : ℕ) (step : Step) → n < length steps
    → step ≡ get_or steps n step → closes (effect (entry_of step)) c ≡ true
    → has_closed (followed_by past steps) c ≡ true
unfolding followed_by
closed_there past [] n c step within is h = absurd (omega arith)
closed_there past (first ∷ steps) zero c step within is h =
    closed_before (entry_of first ∷ past) steps c (closed_first past first step c is h)
closed_there past (first ∷ steps) (suc n) c step within is h =
    closed_there (entry_of first ∷ past) steps n c step (omega arith) is h

-- If a step after an opening closes the client, the history has a closing of it.
pub closed_behind : (steps : List Step) (opened n c : ℕ) (step : Step) → opened + n < length steps
    → step ≡ get_or (drop opened steps) n step → closes (effect (entry_of step)) c ≡ true
    → has_closed (history_of steps) c ≡ true
closed_behind steps opened n c step within is h =
    closed_there [] steps (opened + n) c step within (is ∙ get_or-drop opened steps n step) h
