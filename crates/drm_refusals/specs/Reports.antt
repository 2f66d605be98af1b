-- The report of a line's answer (own).
use Rattle.std.specs.Prelude.{ℕ, List, [], ◌∷◌, ◌+◌, Option, None, Some, length}
use Rattle.std.specs.Option.{option_map}
use Rattle.drm_table.specs.Rules.{apart_number, rule_number}
use Rattle.drm_table.specs.declared.answers.Answer.{Answer}
use Rattle.drm_table.specs.declared.answers.Answer.TheVariants.{Denied}
use Rattle.drm_table.specs.declared.apart.Apart.{Apart}
use Rattle.drm_table.specs.declared.apart.Apart.TheVariants.{NoMemory}
use Rattle.drm_table.specs.declared.rules.Rule.{Rule}
use Rattle.drm_history.specs.History.{AnsweredEvent}

-- the rule that an answer names
abbrev pub denied_by : Answer → Option Rule
denied_by (Denied rule) = Some rule
denied_by _ = None

-- the rule of the newest step; memory was refused for a line without a step
abbrev pub last_rule : List AnsweredEvent → Option ℕ
last_rule [] = Some (apart_number NoMemory)
last_rule (step ∷ past) = option_map rule_number (denied_by step.answer)

-- the number of the fault, or of the rule in the answer of the newest step; none if the step was carried out
abbrev pub rule_reported : Option Apart → List AnsweredEvent → Option ℕ
rule_reported (Some apart) history = Some (apart_number apart)
rule_reported None history = last_rule history

-- the number of the step that a line is
abbrev pub last_number : List AnsweredEvent → Option ℕ
last_number [] = None
last_number (step ∷ past) = Some (length past + 1)

-- the step that is reported for a line; a fault has none
abbrev pub step_reported : Option Apart → List AnsweredEvent → Option ℕ
step_reported (Some apart) history = None
step_reported None history = last_number history
