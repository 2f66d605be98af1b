-- The results of the checks of several files (own).
use Rattle.std.specs.Prelude.{ℕ, ◌+◌, ◌-◌, ◌^◌, ◌==◌, ◌&&◌, Bool, true, false, if◌then◌else◌, min, List, [], ◌∷◌, ◌++◌, codes, decimal}
use Rattle.drm_runs.specs.declared.stops.ScriptEnd.{ScriptEnd}
use Rattle.drm_runs.specs.declared.stops.ScriptEnd.TheVariants as ends
use Rattle.drm_checks.specs.declared.check.Report.{Report}
use Rattle.drm_checks.specs.declared.totals.Totals.{Totals}

-- the totals of no files
abbrev pub no_files : Totals
no_files = record { passed = 0; failed = 0; malformed = 0 }

-- 1 if the file was malformed
abbrev pub malformed_by : ScriptEnd → ℕ
malformed_by (ends.Malformed number) = 1
malformed_by ends.Done = 0
malformed_by ends.ReadFault = 0
malformed_by ends.WriteFault = 0
malformed_by ends.TurnsUsed = 0
malformed_by ends.NoMemory = 0

-- Whether the input ended after the last line.
abbrev pub is_done : ScriptEnd → Bool
is_done ends.Done = true
is_done (ends.Malformed number) = false
is_done ends.ReadFault = false
is_done ends.WriteFault = false
is_done ends.TurnsUsed = false
is_done ends.NoMemory = false

-- Whether the whole file was checked, and none of its lines expects an answer.
abbrev pub expects_nothing : Report → Bool
expects_nothing report = is_done report.end && (report.passed == 0 && report.failed == 0)

-- The failures of a file: its expectations that are not met, or one failure if it has no expectation.
abbrev pub failures_of : Report → ℕ
failures_of report = if expects_nothing report then 1 else report.failed

-- a sum that stays within 64 bits
abbrev pub sum_within : ℕ → ℕ → ℕ
sum_within a b = min (a + b) (2 ^ 64 - 1)

-- the totals with one more file
abbrev pub added : Totals → Report → Totals
added totals report = record {
  passed = sum_within totals.passed report.passed;
  failed = sum_within totals.failed (failures_of report);
  malformed = sum_within totals.malformed (malformed_by report.end);
}

-- the number of expectations that passed, and of failures
abbrev pub totals_text : Totals → List ℕ
totals_text totals = decimal totals.passed ++ (codes " passed, " ++ (decimal totals.failed ++ (codes " failed" ++ 10 ∷ [])))

-- the name of a file that expects nothing
abbrev pub silent_text : List ℕ → List ℕ
silent_text name = name ++ (codes ": no expected answers" ++ 10 ∷ [])

-- the file's name and the line's number
abbrev pub malformed_text : List ℕ → ℕ → List ℕ
malformed_text name number = name ++ (codes ":" ++ (decimal number ++ (codes ": malformed" ++ 10 ∷ [])))
