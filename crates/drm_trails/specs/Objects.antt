-- The object of a handle, and of what was published under a key, by a history (own).
use Rattle.std.specs.Prelude.{◌≡◌, ℕ, zero, suc, List, Option, None, Some, length, slice_get, take}
use Rattle.std.specs.Option.{option_and_then}
use Rattle.drm_history.specs.History.{AnsweredEvent, next_number}
use Rattle.drm_history.specs.Steps.{Giving, Key, Source, Creation, Transfer, given}
use Rattle.drm_history.proofs.HistoryFunctions.{told, Held, Published}
use Rattle.drm_trails.specs.Searches.{Gift, last_gift}
use Rattle.drm_trails.specs.Steps.{entry_of, history_of}
use Rattle.drm_trails.specs.declared.steps.Step.{Step}

-- the object of a client's handle; none if it has no such handle
abbrev pub object_held : List AnsweredEvent → ℕ → ℕ → Option ℕ
object_held history c h = told history (Held c h)

-- the object that was last published under a key
abbrev pub object_under : List AnsweredEvent → Key → Option ℕ
object_under history key = told history (Published key)

-- the object of the handle that the next step assigns, by its source
abbrev pub object_given : List AnsweredEvent → Source → Option ℕ
object_given past Creation = Some (next_number past)
object_given past (Transfer key) = object_under past key

-- the object of the handle that the next step assigns; none if it assigns none
abbrev pub object_by : List AnsweredEvent → Option Giving → Option ℕ
object_by past None = None
object_by past (Some giving) = object_given past giving.source

-- the object of the handle that the step of this number assigned, from 1; none if it assigned none or there is no such step
abbrev pub object_assigned : List Step → ℕ → Option ℕ
object_assigned steps zero = None
object_assigned steps (suc past) =
    option_and_then (λ (step : Step). object_by (history_of (take past steps)) (given (entry_of step))) (slice_get steps past)

-- the object in the place of the step of this number, from 1; none if there is no such place
abbrev pub object_in : List (Option ℕ) → ℕ → Option ℕ
object_in objects zero = None
object_in objects (suc past) = option_and_then (λ (object : Option ℕ). object) (slice_get objects past)

-- these are the objects of the steps that assigned a handle
pub record AreObjects (steps : List Step) (objects : List (Option ℕ)) : Type 0 where
  pub told : (moment c h : ℕ) (g : Gift) → last_gift (history_of (take moment steps)) c h ≡ Some g
      → slice_get objects (length g.past) ≡ Some (object_given g.past g.source)
  pub each : (past : ℕ) (step : Step) → slice_get steps past ≡ Some step
      → slice_get objects past ≡ Some (object_by (history_of (take past steps)) (given (entry_of step)))
  pub count : length objects ≡ length steps
