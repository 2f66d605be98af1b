-- The steps of a history as code has them: the oldest first, with own types for the values of the definitions (own).
use Rattle.std.specs.Prelude.{List, [], ◌∷◌, Option}
use Rattle.std.specs.Option.{option_map}
use Rattle.drm_history.specs.History.{AnsweredEvent}
use Rattle.drm_history.specs.Steps as told
use Rattle.drm_trails.specs.declared.steps.Step.{Step}
use Rattle.drm_trails.specs.declared.steps.Key.{Key}
use Rattle.drm_trails.specs.declared.steps.Key.TheVariants as keys
use Rattle.drm_trails.specs.declared.steps.Source.{Source}
use Rattle.drm_trails.specs.declared.steps.Source.TheVariants as sources
use Rattle.drm_trails.specs.declared.steps.Giving.{Giving}
use Rattle.drm_trails.specs.declared.steps.Publishing.{Publishing}

-- the entry of a history for a step
abbrev pub entry_of : Step → AnsweredEvent
entry_of step = record { event = step.event; answer = step.answer }

-- the history `past`, and then these steps
unfoldable pub followed_by : List AnsweredEvent → List Step → List AnsweredEvent
followed_by past [] = past
followed_by past (step ∷ steps) = followed_by (entry_of step ∷ past) steps

-- the history of these steps, which has the newest first
abbrev pub history_of : List Step → List AnsweredEvent
history_of steps = followed_by [] steps

-- the key of the definitions
abbrev pub key_of : Key → told.Key
key_of (keys.Name number) = told.Name number
key_of (keys.Token number) = told.Token number
key_of (keys.Framebuffer number) = told.Framebuffer number

-- the source of the definitions
abbrev pub source_of : Source → told.Source
source_of sources.Creation = told.Creation
source_of (sources.Transfer key) = told.Transfer (key_of key)

-- the assigned handle of the definitions
abbrev pub giving_of : Giving → told.Giving
giving_of g = record { client = g.client; handle = g.handle; source = source_of g.source }

-- the publication of the definitions
abbrev pub publishing_of : Publishing → told.Publishing
publishing_of p = record { key = key_of p.key; client = p.client; handle = p.handle }

-- the assigned handle of the definitions, if there is one
abbrev pub givings_of : Option Giving → Option told.Giving
givings_of given = option_map giving_of given

-- the publication of the definitions, if there is one
abbrev pub publishings_of : Option Publishing → Option told.Publishing
publishings_of published = option_map publishing_of published
