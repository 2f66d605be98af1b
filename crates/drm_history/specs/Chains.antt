-- The way of an object to a client: transfers, each granted by a step, from the step that created it (own).
use Rattle.std.specs.Prelude.{◌≡◌, ℕ, ◌<◌, List, [], ◌∷◌}
use Rattle.drm_history.specs.History.{AnsweredEvent, next_number}
use Rattle.drm_history.specs.Steps.{Key, Creation, Transfer}
use Rattle.drm_history.specs.Holds.{WasGiven, WasPublished}

-- the step of this number granted the client the handle
pub record Link : Type 0 where
  pub step : ℕ
  pub client : ℕ
  pub handle : ℕ

-- The last link is first. The first of all created the object, which is named by its number. Before each other link,
-- and after the one before it, is the step that published the object for it. Its client was that of the link before,
-- with the handle that it was assigned there and that no step between took.
unfoldable pub IsChain : List AnsweredEvent → ℕ → List Link → Type 0
IsChain history o [] = ⊥
IsChain history o (link ∷ []) =
    (past : List AnsweredEvent) × WasGiven history link.client link.handle Creation past ×
    (link.step ≡ next_number past) × (link.step ≡ o)
IsChain history o (link ∷ before ∷ links) =
    (past older : List AnsweredEvent) × (key : Key) × WasGiven history link.client link.handle (Transfer key) past ×
    (link.step ≡ next_number past)
    × WasPublished past key before.client before.handle older × (before.step < link.step) × IsChain older o (before ∷ links)

-- a chain leads to the client's handle
abbrev pub Chain : List AnsweredEvent → ℕ → ℕ → ℕ → Type 0
Chain history c h o =
    (i : ℕ) × (links : List Link) × IsChain history o (record { step = i; client = c; handle = h } ∷ links)
