-- Which handles a history grants (drm-gem(7), drm-mm; what follows from the history alone is this project's own).
use Rattle.std.specs.Prelude.{◌≡◌, ℕ, false, List, ◌∷◌, ◌++◌, Some}
use Rattle.std.specs.List.{AllByRecursion}
use Rattle.drm_history.specs.History.{AnsweredEvent, next_number}
use Rattle.drm_history.specs.Steps.{Key, Source, Creation, Transfer, given, takes, published, publishes}

-- some step granted the client the handle, from this source, and no later one took it; `past` is before that step
pub record WasGiven (history : List AnsweredEvent) (c h : ℕ) (source : Source) (past : List AnsweredEvent) : Type 0 where
  pub later : List AnsweredEvent
  pub step : AnsweredEvent
  pub steps : history ≡ later ++ step ∷ past
  pub gives : given step ≡ Some (record { client = c; handle = h; source = source })
  pub kept : AllByRecursion (λ (other : AnsweredEvent). takes other c h ≡ false) later

-- the last step that published under the key published the object of this handle of the client; `past` is before that
-- step
pub record WasPublished (history : List AnsweredEvent) (key : Key) (c h : ℕ) (past : List AnsweredEvent) : Type 0 where
  pub later : List AnsweredEvent
  pub step : AnsweredEvent
  pub steps : history ≡ later ++ step ∷ past
  pub under_key : published step ≡ Some (record { key = key; client = c; handle = h })
  pub last : AllByRecursion (λ (other : AnsweredEvent). publishes other key ≡ false) later

-- The client has the handle of the object. If the step created the object, its number names it. The object of any other
-- handle is that of the last step before that published under the key.
pub data Has : List AnsweredEvent → ℕ → ℕ → ℕ → Type 0 where
  made : {history past : List AnsweredEvent} {c h o : ℕ} → WasGiven history c h Creation past → o ≡ next_number past
      → Has history c h o
  passed : {history past before : List AnsweredEvent} {c h o d k : ℕ} {key : Key} → WasGiven history c h (Transfer key) past → WasPublished past key d k before → Has before d k o → Has history c h o

-- the last step that published under the key was the client's, and had the object
pub record LastHad (history : List AnsweredEvent) (key : Key) (c o : ℕ) : Type 0 where
  pub handle : ℕ
  pub past : List AnsweredEvent
  pub published : WasPublished history key c handle past
  pub had : Has past c handle o
