-- The steps that assign a handle, take it or open a client (own).
use Rattle.std.specs.Prelude.{ℕ, ◌==◌, Bool}
use Rattle.std.specs.Option.{is_some}
use Rattle.drm_history.specs.History.{AnsweredEvent}
use Rattle.drm_history.specs.Steps.{given, takes}
use Rattle.drm_model.specs.Rows.{is_option}
use Rattle.drm_trails.specs.Searches.{source_for}
use Rattle.drm_explanations.specs.Rows as rows
use Rattle.drm_refusals.specs.declared.searching.Search.{Search}
use Rattle.drm_refusals.specs.declared.searching.Search.TheVariants.{Gives, Takes, Opens}

-- whether a step assigns the handle to the client
abbrev pub gives : ℕ → ℕ → AnsweredEvent → Bool
gives c h step = is_some (source_for c h (given step))

-- whether a step opens the client
abbrev pub opens : ℕ → AnsweredEvent → Bool
opens c step = is_option c (rows.opens step)

-- whether a step is one that is searched for
abbrev pub passes : Search → AnsweredEvent → Bool
passes (Gives c h) step = gives c h step
passes (Takes c h) step = takes step c h
passes (Opens c) step = opens c step
