-- The check of a file: which of its expectations are met by the answers of its script, and how it ends (own).
use Rattle.std.specs.Prelude.{◌≡◌, ℕ, ◌+◌, ◌<◌, ◌≤◌, List, [], ◌∷◌, ◌++◌, ◌⊎◌, Option, Result, length, map}
use Rattle.drm_table.specs.declared.answers.Answer.{Answer}
use Rattle.drm_table.specs.declared.apart.Apart.{Apart}
use Rattle.drm_frames.specs.Streams.{SourceTrace, SinkTrace}
use Rattle.drm_frames.specs.Turns.{Gave, Took}
use Rattle.drm_runs.specs.Lines.{IsBare}
use Rattle.drm_runs.specs.Script.{Setting, Place, Script, Uses, IsMisplaced, IsNowhere, WantsDevice, unbound}
use Rattle.drm_runs.specs.Script.Place.{Planned}
use Rattle.drm_runs.specs.LineSteps.{IsPart}
use Rattle.drm_runs.specs.Runs.{Covers, EndsLine}
use Rattle.drm_runs.specs.declared.stops.ScriptEnd.{ScriptEnd}
use Rattle.drm_runs.specs.declared.stops.ScriptEnd.TheVariants as ends
use Rattle.drm_checks.specs.Expectations.{script_part, expected_part}
use Rattle.drm_checks.specs.Differences.{Difference, File, differences_text, met, text_of, unmet}
use Rattle.drm_checks.specs.Checker.{results_of}
use Rattle.drm_checks.specs.declared.check.Report.{Report}

-- The lines of a file, one after the other, each used as a line of a script. The indices are the number of met
-- expectations, the others, and the device and the labels.
pub data Checked (setting : Setting) : List (List ℕ) → ℕ → List Difference → Place → List ℕ → Type 0 where
  start : Checked setting [] 0 [] (Planned setting) unbound
  line : {lines : List (List ℕ)} {passed : ℕ} {differences : List Difference} {device device' : Place} {labels labels' : List ℕ} (next : List ℕ) (came : Option (Result Answer Apart))
      → Checked setting lines passed differences device labels → IsBare next
      → Uses device labels (script_part next) (results_of came) device' labels'
      → Checked setting (lines ++ next ∷ []) (passed + met (expected_part next) came) (differences ++ unmet (length lines + 1) (expected_part next) came) device' labels'

-- A line that can't be used. Either the input or the line ended after it and its script part can't be used, or its
-- first 256 bytes show that it is too long. At most the bytes of one read were read after it.
pub record IsUnusable (ended : Type 0) (device : Place) (rest : List ℕ) : Type 0 where
  pub bad : List ℕ
  pub behind : List ℕ
  pub parts : rest ≡ bad ++ behind
  pub bare : IsBare bad
  pub end_condition : (IsMisplaced device (script_part bad) × EndsLine ended behind) ⊎ (length bad ≡ 256)
  pub short : length behind ≤ 256

-- A line needs a device, and memory for it was refused.
pub record IsUnmade (ended : Type 0) (device : Place) (rest : List ℕ) : Type 0 where
  pub next : List ℕ
  pub behind : List ℕ
  pub parts : rest ≡ next ++ behind
  pub bare : IsBare next
  pub until : EndsLine ended behind
  pub none : IsNowhere device
  pub wants : WantsDevice (script_part next)
  pub short : length behind ≤ 256

-- Writing stopped in the difference of the last line that was used. All differences before it were written, and of it a
-- front without at least one byte. So no line is used after a failed write.
pub record IsCutInLast (file : File) (n : ℕ) (differences : List Difference) (written : List ℕ) : Type 0 where
  pub before : List Difference
  pub last : Difference
  pub sent : List ℕ
  pub unsent : List ℕ
  pub whole : differences ≡ before ++ last ∷ []
  pub number : last.number ≡ n
  pub parts : text_of file last ≡ sent ++ unsent
  pub more : 0 < length unsent
  pub text : written ≡ differences_text file before ++ sent

-- Each end with its cause. The arguments include the number of lines that were checked, the text read after them, and
-- the differences.
abbrev pub Ends : ScriptEnd → Type 0 → SourceTrace → SourceTrace → SinkTrace → SinkTrace → ℕ → ℕ → Place → List ℕ
    → List ℕ → File → List Difference → Type 0
Ends ends.Done ended source source' sink sink' turns n device rest written file differences =
    (rest ≡ []) × ended × (written ≡ differences_text file differences)
Ends (ends.Malformed number) ended source source' sink sink' turns n device rest written file differences =
    (number ≡ n + 1) × IsUnusable ended device rest × (written ≡ differences_text file differences)
Ends ends.ReadFault ended source source' sink sink' turns n device rest written file differences =
    IsPart rest × (source.counts.faults < source'.counts.faults) × (written ≡ differences_text file differences)
Ends ends.WriteFault ended source source' sink sink' turns n device rest written file differences =
    (sink.counts.faults < sink'.counts.faults) × IsCutInLast file n differences written × (length rest ≤ 256)
Ends ends.TurnsUsed ended source source' sink sink' turns n device rest written file differences =
    (source'.counts.calls + sink'.counts.calls ≡ source.counts.calls + sink.counts.calls + turns)
    ×
    ((IsPart rest × (written ≡ differences_text file differences)) ⊎ (IsCutInLast file n differences written × (length rest ≤ 256)))
Ends ends.NoMemory ended source source' sink sink' turns n device rest written file differences =
    IsUnmade ended device rest × (written ≡ differences_text file differences)

-- A check on a device that begins so: what it read and wrote, its cost, the lines that it used with their expectations,
-- and the cause of its end.
pub record ChecksOn (setting : Setting) (file : File) (source source' : SourceTrace) (sink sink' : SinkTrace) (turns : ℕ) (report : Report) : Type 0 where
  pub read : List ℕ
  pub written : List ℕ
  pub lines : List (List ℕ)
  pub rest : List ℕ
  pub differences : List Difference
  pub device : Place
  pub labels : List ℕ
  pub gave : Gave source source' read
  pub took : Took sink sink' written
  pub turns_at_most : source'.counts.calls + sink'.counts.calls ≤ source.counts.calls + sink.counts.calls + turns
  pub checked : Checked setting lines report.passed differences device labels
  pub failed : report.failed ≡ length differences
  pub covers : Covers (source.counts.ends < source'.counts.ends) read lines rest
  pub ends : Ends report.end (source.counts.ends < source'.counts.ends) source source' sink sink' turns (length lines) device rest written file differences

-- A checked file gets the answers that the script of its lines without expectations gets.
abbrev pub CheckedFilesAreScripts : Type 0
CheckedFilesAreScripts =
    (setting : Setting) (lines : List (List ℕ)) (passed : ℕ) (differences : List Difference) (device : Place)
    (labels : List ℕ)
    → Checked setting lines passed differences device labels
    → (results : List (Result Answer Apart)) × Script setting (map script_part lines) results device labels
