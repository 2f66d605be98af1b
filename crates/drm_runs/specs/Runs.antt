-- The end of a run of a script, and what was then read and written (own).
use Rattle.std.specs.Prelude.{◌≡◌, ℕ, ◌+◌, ◌*◌, ◌<◌, ◌≤◌, List, [], ◌∷◌, ◌++◌, ◌⊎◌, Bool, true, false, Result, length}
use Rattle.drm_table.specs.declared.answers.Answer.{Answer}
use Rattle.drm_table.specs.declared.apart.Apart.{Apart}
use Rattle.drm_frames.specs.Streams.{SourceTrace, SinkTrace}
use Rattle.drm_frames.specs.Turns.{Gave, Took}
use Rattle.drm_script.specs.Lines.{answer_line}
use Rattle.drm_runs.specs.Lines.{IsBare, joined}
use Rattle.drm_runs.specs.Script.{Setting, Place, Script, usual, script_text, IsMisplaced, IsNowhere, WantsDevice}
use Rattle.drm_runs.specs.Script.Place.{Planned}
use Rattle.drm_runs.specs.declared.stops.ScriptEnd.{ScriptEnd}
use Rattle.drm_runs.specs.declared.stops.ScriptEnd.TheVariants as ends

-- the results of a script
abbrev pub Results : Type 0
Results = List (Result Answer Apart)

-- The lines are the front of what was read. If the input has ended, the last one may have no end.
abbrev pub Covers : Type 0 → List ℕ → List (List ℕ) → List ℕ → Type 0
Covers ended read lines rest =
    (read ≡ joined lines ++ rest) ⊎
    ((front : List (List ℕ)) × (last : List ℕ) × (lines ≡ front ++ last ∷ []) × (read ≡ joined front ++ last) × (rest ≡ []) × ended)

-- Every line that was read was used, and the lines of all results were written.
pub record IsDone (setting : Setting) (ended : Type 0) (read written : List ℕ) (device : Place) (labels : List ℕ) : Type 0 where
  pub lines : List (List ℕ)
  pub results : Results
  pub script : Script setting lines results device labels
  pub covers : Covers ended read lines []
  pub text : written ≡ script_text results

-- a line is followed by its end, or by nothing if the input has ended
abbrev pub EndsLine : Type 0 → List ℕ → Type 0
EndsLine ended rest = ((rest ≡ []) × ended) ⊎ ((more : List ℕ) × (rest ≡ 10 ∷ more))

-- The lines before the bad one were used. The bad one can't be used: its end was read, or the input ended, or its first
-- 256 bytes show that it is too long. At most the bytes of one read were read after it.
pub record IsMalformed (setting : Setting) (ended : Type 0) (number : ℕ) (read written : List ℕ) (device : Place) (labels : List ℕ) : Type 0 where
  pub lines : List (List ℕ)
  pub results : Results
  pub bad : List ℕ
  pub rest : List ℕ
  pub script : Script setting lines results device labels
  pub whole : read ≡ joined lines ++ (bad ++ rest)
  pub misplaced : IsMisplaced device bad
  pub bare : IsBare bad
  pub until : EndsLine ended rest ⊎ (length bad ≡ 256)
  pub short : length bad ≤ 256
  pub behind : length rest ≤ 256
  pub counted : number ≡ length lines + 1
  pub text : written ≡ script_text results

-- Every whole line that was read was used. The rest is shorter than a line that is too long.
pub record IsCutShort (setting : Setting) (read written : List ℕ) (device : Place) (labels : List ℕ) : Type 0 where
  pub lines : List (List ℕ)
  pub results : Results
  pub rest : List ℕ
  pub script : Script setting lines results device labels
  pub whole : read ≡ joined lines ++ rest
  pub bare : IsBare rest
  pub short : length rest ≤ 255
  pub text : written ≡ script_text results

-- Writing stopped in the line of the last answer. All lines before it were written, and of it a front without at least
-- one byte.
pub record IsCutInLast (results : Results) (written : List ℕ) : Type 0 where
  pub before : Results
  pub last : Result Answer Apart
  pub sent : List ℕ
  pub unsent : List ℕ
  pub whole : results ≡ before ++ last ∷ []
  pub parts : answer_line last ≡ sent ++ unsent
  pub more : 0 < length unsent
  pub text : written ≡ script_text before ++ sent

-- Some lines were used, and writing stopped in the answer of the last one. So no line is used after a failed write. At
-- most the bytes of one read were read after it.
pub record IsStopped (setting : Setting) (ended : Type 0) (read written : List ℕ) (device : Place) (labels : List ℕ) : Type 0 where
  pub lines : List (List ℕ)
  pub results : Results
  pub rest : List ℕ
  pub script : Script setting lines results device labels
  pub covers : Covers ended read lines rest
  pub behind : length rest ≤ 256
  pub cut : IsCutInLast results written

-- The lines before were all skipped. The next one needs a device, and memory for it was refused. Nothing was written.
-- At most the bytes of one read were read after that line.
pub record IsUnmade (setting : Setting) (ended : Type 0) (read written : List ℕ) (device : Place) (labels : List ℕ) : Type 0 where
  pub lines : List (List ℕ)
  pub next : List ℕ
  pub rest : List ℕ
  pub script : Script setting lines [] (Planned setting) labels
  pub whole : read ≡ joined lines ++ (next ++ rest)
  pub bare : IsBare next
  pub until : EndsLine ended rest
  pub behind : length rest ≤ 256
  pub wants : WantsDevice next
  pub none : IsNowhere device
  pub nothing : written ≡ []

-- a line can't be used
abbrev pub is_malformed : ScriptEnd → Bool
is_malformed ends.Done = false
is_malformed (ends.Malformed number) = true
is_malformed ends.ReadFault = false
is_malformed ends.WriteFault = false
is_malformed ends.TurnsUsed = false
is_malformed ends.NoMemory = false

-- each end with its cause, and the device and the labels at it
abbrev pub Ends : Setting → ScriptEnd → SourceTrace → SourceTrace → SinkTrace → SinkTrace → ℕ → List ℕ → List ℕ → Place
    → List ℕ → Type 0
Ends setting ends.Done source source' sink sink' turns read written device labels =
    IsDone setting (source.counts.ends < source'.counts.ends) read written device labels ×
    (source.counts.ends < source'.counts.ends)
Ends setting (ends.Malformed number) source source' sink sink' turns read written device labels =
    IsMalformed setting (source.counts.ends < source'.counts.ends) number read written device labels
Ends setting ends.ReadFault source source' sink sink' turns read written device labels =
    IsCutShort setting read written device labels × (source.counts.faults < source'.counts.faults)
Ends setting ends.WriteFault source source' sink sink' turns read written device labels =
    IsStopped setting (source.counts.ends < source'.counts.ends) read written device labels ×
    (sink.counts.faults < sink'.counts.faults)
Ends setting ends.TurnsUsed source source' sink sink' turns read written device labels =
    (IsCutShort setting read written device labels ⊎ IsStopped setting (source.counts.ends < source'.counts.ends) read written device labels)
    × (source'.counts.calls + sink'.counts.calls ≡ source.counts.calls + sink.counts.calls + turns)
Ends setting ends.NoMemory source source' sink sink' turns read written device labels =
    IsUnmade setting (source.counts.ends < source'.counts.ends) read written device labels

-- A run on a device that begins so: what it read and wrote, its cost, the cause of its end, and the device and the
-- labels then. Each take requests at most 256 bytes.
pub record RunsOn (setting : Setting) (source source' : SourceTrace) (sink sink' : SinkTrace) (turns : ℕ) (end : ScriptEnd) (device : Place) (labels : List ℕ) : Type 0 where
  pub read : List ℕ
  pub written : List ℕ
  pub gave : Gave source source' read
  pub took : Took sink sink' written
  pub chunks : length read + 256 * source.counts.calls ≤ 256 * source'.counts.calls
  pub turns_at_most : source'.counts.calls + sink'.counts.calls ≤ source.counts.calls + sink.counts.calls + turns
  pub ends : Ends setting end source source' sink sink' turns read written device labels

-- a run on a device of the test topology, with the program's limits by default
abbrev pub Runs : SourceTrace → SourceTrace → SinkTrace → SinkTrace → ℕ → ScriptEnd → Type 0
Runs source source' sink sink' turns end =
    (device : Place) × (labels : List ℕ) × RunsOn usual source source' sink sink' turns end device labels
