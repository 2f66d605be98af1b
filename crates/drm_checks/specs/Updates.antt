-- The text of a file whose expectations are updated: the lines that are unchanged, and the text in place of the others
-- (own).
use Rattle.std.specs.Prelude.{◌≡◌, ℕ, ◌+◌, ◌<◌, ◌≤◌, List, [], ◌∷◌, ◌++◌, ◌⊎◌, Bool, true, nat_le, if◌then◌else◌, Option, None, Some, Result, Ok, Err, codes, length, All}
use Rattle.drm_table.specs.declared.answers.Answer.{Answer}
use Rattle.drm_table.specs.declared.apart.Apart.{Apart}
use Rattle.drm_script.specs.Lines.{answer_words, lines_of}
use Rattle.drm_runs.specs.Lines.{IsBare, ended}
use Rattle.drm_runs.specs.Script.{Setting, Place, Uses, IsMisplaced, IsNowhere, unbound}
use Rattle.drm_runs.specs.Script.Place.{Planned}
use Rattle.drm_runs.specs.Interpreter.{InterpreterState}
use Rattle.drm_checks.specs.Expectations.{script_part, expected_part, is_met}
use Rattle.drm_checks.specs.Checker.{results_of}
use Rattle.drm_checks.specs.Checks.{Checked}
use Rattle.drm_checks.specs.declared.update.UpdateFault.{UpdateFault}
use Rattle.drm_checks.specs.declared.update.UpdateFault.TheVariants as faults

-- the line of a script that expects this answer
abbrev pub answered_line : List ℕ → Result Answer Apart → List ℕ
answered_line script answer = script ++ (codes " -> " ++ answer_words answer)

-- the line of a script with the answer, if there is one and both fit into 255 bytes; else without it
abbrev pub with_answer : List ℕ → Option (Result Answer Apart) → List ℕ
with_answer script None = script
with_answer script (Some answer) =
    if nat_le (length (answered_line script answer)) 255 then answered_line script answer else script

-- a line is unchanged if it expects nothing, or its expectation is met
abbrev pub stays : Option (List ℕ) → Option (Result Answer Apart) → Bool
stays None came = true
stays (Some expected) came = is_met expected came

-- the line in place of a line with this answer
abbrev pub updated_line : List ℕ → Option (Result Answer Apart) → List ℕ
updated_line line came = if stays (expected_part line) came then line else with_answer (script_part line) came

-- The lines of a text, one after the other, none too long and each used as a line of a script. The indices are the new
-- text, in which each line has its end, and the device and the labels.
pub data Updated (setting : Setting) : List (List ℕ) → List ℕ → Place → List ℕ → Type 0 where
  start : Updated setting [] [] (Planned setting) unbound
  line : {lines : List (List ℕ)} {updated : List ℕ} {device device' : Place} {labels labels' : List ℕ} (next : List ℕ) (came : Option (Result Answer Apart))
      → Updated setting lines updated device labels → IsBare next → length next ≤ 255
      → Uses device labels (script_part next) (results_of came) device' labels'
      → Updated setting (lines ++ next ∷ []) (updated ++ ended (updated_line next came)) device' labels'

-- All lines of the text were used, and this is the new text.
abbrev pub Updates : Setting → List ℕ → List ℕ → Type 0
Updates setting text updated =
    (device : Place) × (labels : List ℕ) × Updated setting (lines_of text) updated device labels

-- a line that can't be used: it is too long, or its script part can't be used there
abbrev pub IsUnfit : Place → List ℕ → Type 0
IsUnfit device next = (255 < length next) ⊎ IsMisplaced device (script_part next)

-- The line with this number, from 1, can't be used. Those before it were used.
pub record HasUnfitLine (setting : Setting) (text : List ℕ) (number : ℕ) : Type 0 where
  pub before : List (List ℕ)
  pub unfit : List ℕ
  pub others : List (List ℕ)
  pub updated : List ℕ
  pub device : Place
  pub labels : List ℕ
  pub lines : lines_of text ≡ before ++ unfit ∷ others
  pub number_is : number ≡ length before + 1
  pub used : Updated setting before updated device labels
  pub cause : IsUnfit device unfit

-- the reason a text can't be updated; memory may be refused at any line
abbrev pub HasFault : Setting → List ℕ → UpdateFault → Type 0
HasFault setting text (faults.Malformed number cause) = HasUnfitLine setting text number
HasFault setting text faults.NoMemory = Unit {0}

-- The result of the line with this number. A line that can't be used changes nothing. Without memory for the device there
-- is none, before and after.
abbrev pub UsesLine : InterpreterState → InterpreterState → ℕ → List ℕ
    → Result (Option (Result Answer Apart)) UpdateFault → Type 0
UsesLine old new number next (Ok came) =
    (length next ≤ 255) × Uses old.device old.labels (script_part next) (results_of came) new.device new.labels
UsesLine old new number next (Err (faults.Malformed told cause)) =
    (told ≡ number) × IsUnfit old.device next × (new ≡ old)
UsesLine old new number next (Err faults.NoMemory) =
    IsNowhere old.device × IsNowhere new.device × (new.labels ≡ old.labels)

-- An updated text passes its check. None of its lines is too long, and all can be used, up to the same device and
-- labels. All expectations are met.
abbrev pub UpdatedFilesPass : Type 0
UpdatedFilesPass = (setting : Setting) (lines : List (List ℕ)) (updated : List ℕ) (device : Place) (labels : List ℕ)
    → Updated setting lines updated device labels
    → (passed : ℕ) × Checked setting (lines_of updated) passed [] device labels × All (λ (l : List ℕ). length l ≤ 255) (lines_of updated)
