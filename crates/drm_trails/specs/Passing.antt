-- The first and the last step of a history that pass a test, by their numbers (own).
use Rattle.std.specs.Prelude.{ℕ, nat_lt, Bool, ◌&&◌, List, [], ◌∷◌, Option, None, Some, if◌then◌else◌}
use Rattle.std.specs.Option.{option_or}
use Rattle.drm_history.specs.History.{AnsweredEvent, next_number}

-- the last step that passes
unfoldable pub last_step : (AnsweredEvent → Bool) → List AnsweredEvent → Option ℕ
last_step passes [] = None
last_step passes (step ∷ past) = if passes step then Some (next_number past) else last_step passes past

-- the first step that passes, of those after step `number`
unfoldable pub first_step_after : ℕ → (AnsweredEvent → Bool) → List AnsweredEvent → Option ℕ
first_step_after number passes [] = None
first_step_after number passes (step ∷ past) =
    option_or (first_step_after number passes past)
    (if nat_lt number (next_number past) && passes step then Some (next_number past) else None)
