-- The meaning of a call: its own rules, in order, and the rows after it and its answer if none fails (drm-uapi).
use Rattle.std.specs.Prelude.{List, []}
use Rattle.drm_table.specs.declared.answers.Answer.{Answer}
use Rattle.drm_table.specs.declared.answers.Answer.TheVariants.{Done}
use Rattle.drm_table.specs.Permit.{Check}
use Rattle.drm_model.specs.Rows.{Rows}

-- the rules of a call, the rows after it, and its answer
pub record Meaning : Type 0 where
  pub checks : List Check
  pub rows : Rows
  pub answer : Answer

-- a call that has no rules, changes no row and says nothing
abbrev pub nothing : Rows → Meaning
nothing w = record { checks = []; rows = w; answer = Done }
