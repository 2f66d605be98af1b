-- The handles of a client, each with the step that assigned it (own).
use Rattle.std.specs.Prelude.{ℕ, ◌==◌, Bool, true, false, ◌&&◌, List, Option, None, Some, if◌then◌else◌}
use Rattle.std.specs.List.{list_any}
use Rattle.std.specs.Option.{is_some, option_map}
use Rattle.drm_history.specs.History.{AnsweredEvent, next_number}
use Rattle.drm_history.specs.Steps.{given, takes}
use Rattle.drm_trails.specs.Searches.{Gift, source_for}
use Rattle.drm_trails.specs.declared.handles.Held.{Held}
use Rattle.drm_trails.specs.declared.steps.Taken.{Taken}
use Rattle.drm_trails.specs.declared.steps.Taken.TheVariants.{Nothing, One, All}

-- whether the handle is among these, as assigned by the step of this number
abbrev pub is_held_since : List Held → ℕ → ℕ → Bool
is_held_since held h step = list_any (λ (one : Held). (one.handle == h) && (one.step == step)) held

-- a handle and the step that assigned it, as code has them
abbrev pub held_of : ℕ × ℕ → Held
held_of entry = record { handle = entry.0; step = entry.1 }

-- the number of the step of a gift
abbrev pub step_of_gift : Option Gift → Option ℕ
step_of_gift gift = option_map (λ (g : Gift). next_number g.past) gift

-- whether the step of this number assigned the handle
abbrev pub is_given_at : Option Gift → ℕ → Bool
is_given_at None step = false
is_given_at (Some g) step = next_number g.past == step

-- whether a handle is among those that a step takes
abbrev pub is_taken : ℕ → Taken → Bool
is_taken h Nothing = false
is_taken h (One handle) = handle == h
is_taken h All = true

-- the step that assigned the client's handle, after the step of this number, by that before it
abbrev pub since_after : AnsweredEvent → ℕ → ℕ → ℕ → Option ℕ → Option ℕ
since_after step number c h before =
    if is_some (source_for c h (given step)) then Some number else (if takes step c h then None else before)
