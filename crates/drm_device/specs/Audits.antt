-- The contracts of the functions of an audit (own).
use Rattle.std.specs.Prelude.{◌≡◌, ℕ, List, Option, slice_get}
use Rattle.drm_table.specs.declared.audits.AuditKind.{AuditKind}
use Rattle.drm_table.specs.declared.audits.AuditRow.{AuditRow}
use Rattle.drm_model.specs.Rows.{Rows}
use Rattle.drm_model.specs.StepNumbers.{StepNumbersRise}
use Rattle.drm_model.specs.Audit.{audit_rows, rising_rows, audit_page}
use Rattle.drm_state.specs.declared.state.State.{State}
use Rattle.drm_state.specs.Refinement.{Represents}

-- the state represents rows of this many steps
pub record RepresentsAfter (s : State) (steps : ℕ) (w : Rows) : Type 0 where
  pub rows : Represents s w
  pub step_numbers : StepNumbersRise w.steps w
  pub steps_are : w.steps ≡ steps

-- the row of a kind at a place, in the order of the rows' numbers, whichever rows the state represents
unfoldable pub IsRowAt : State → ℕ → AuditKind → ℕ → Option AuditRow → Type 0
IsRowAt s steps kind position row =
    (w : Rows) → RepresentsAfter s steps w → row ≡ slice_get (rising_rows (audit_rows w kind)) position

-- the page of a kind after the first rows, whichever rows the state represents
unfoldable pub IsPage : State → ℕ → AuditKind → ℕ → List AuditRow → Type 0
IsPage s steps kind from page = (w : Rows) → RepresentsAfter s steps w → page ≡ audit_page w kind from
