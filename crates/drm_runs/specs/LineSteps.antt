-- The lines of a script, read one after the other, and the ends of reading them (own).
use Rattle.std.specs.Prelude.{◌≡◌, ℕ, ◌+◌, ◌*◌, ◌<◌, ◌≤◌, List, [], ◌∷◌, ◌++◌, Bool, true, false, Option, None, Some, if◌then◌else◌, length}
use Rattle.drm_frames.specs.Streams.{SourceTrace}
use Rattle.drm_frames.specs.Turns.{Gave}
use Rattle.drm_runs.specs.Lines.{IsBare, joined}
use Rattle.drm_runs.specs.Reader.{Buffered, IsTooLong}
use Rattle.drm_runs.specs.Runs.{Covers, EndsLine}
use Rattle.drm_runs.specs.declared.stops.ScriptEnd.{ScriptEnd}
use Rattle.drm_runs.specs.declared.stops.ScriptEnd.TheVariants as ends

-- the line that is held, the bytes taken after it, the number of lines that were read, and whether the input has ended
-- after the last one
pub record LinesState : Type 0 where
  pub held : List ℕ
  pub pending : List ℕ
  pub number : ℕ
  pub is_last : Bool

-- the bytes that a reader holds, and the rest
abbrev pub lines_state : Buffered → ℕ → Bool → LinesState
lines_state reader number is_last =
    record { held = reader.held; pending = reader.pending; number = number; is_last = is_last }

-- the state before the first line
abbrev pub no_lines : LinesState
no_lines = record { held = []; pending = []; number = 0; is_last = false }

-- a bound on what is left to be read
abbrev pub fuel_of : LinesState → ℕ → ℕ
fuel_of state turns = 256 * turns + length state.pending + (if state.is_last then 0 else 1)

-- The source returned these bytes, at most 256 by each call.
pub record IsGiven (source source' : SourceTrace) (read : List ℕ) : Type 0 where
  pub gave : Gave source source' read
  pub chunks : length read + 256 * source.counts.calls ≤ 256 * source'.counts.calls

-- The lines are the front of what was read, each with its end. If the input has ended after the last one, that one has
-- no end.
abbrev pub AreLines : (is_last : Bool) (ended : Type 0) (read : List ℕ) (lines : List (List ℕ)) (rest : List ℕ) → Type 0
AreLines false ended read lines rest = read ≡ joined lines ++ rest
AreLines true ended read lines rest =
    (front : List (List ℕ)) × (last : List ℕ) × (lines ≡ front ++ last ∷ []) × (read ≡ joined front ++ last) ×
    (rest ≡ []) × ended

-- These lines were read so far.
pub record LinesRead (source source' : SourceTrace) (state : LinesState) (read : List ℕ) (lines : List (List ℕ)) : Type 0 where
  pub given : IsGiven source source' read
  pub are_lines : AreLines state.is_last (source.counts.ends < source'.counts.ends) read lines state.pending
  pub number : state.number ≡ length lines

-- One more line was read and is held. Its end was read, or the input has ended after it.
pub record HoldsNext (source source' : SourceTrace) (state : LinesState) (read : List ℕ) (lines : List (List ℕ)) : Type 0 where
  pub so_far : LinesRead source source' state read (lines ++ state.held ∷ [])
  pub behind : List ℕ
  pub whole : read ≡ joined lines ++ (state.held ++ behind)
  pub until : EndsLine (source.counts.ends < source'.counts.ends) behind
  pub bare : IsBare state.held
  pub short : length state.held ≤ 255
  pub short_behind : length behind ≤ 256
  pub short_pending : length state.pending ≤ 256

-- what is left of a line whose end wasn't read, shorter than a line that is too long
abbrev pub IsPart : List ℕ → Type 0
IsPart rest = IsBare rest × (length rest ≤ 255)

-- the reason no line follows these
abbrev pub IsEndOfLines : ScriptEnd → SourceTrace → SourceTrace → (turns : ℕ) (read : List ℕ) (lines : List (List ℕ))
    → Type 0
IsEndOfLines ends.Done source source' turns read lines =
    Covers (source.counts.ends < source'.counts.ends) read lines [] × (source.counts.ends < source'.counts.ends)
IsEndOfLines (ends.Malformed number) source source' turns read lines =
    (number ≡ length lines + 1) × (rest : List ℕ) × (read ≡ joined lines ++ rest) × (front : List ℕ) × (more : List ℕ) ×
    IsTooLong rest front more
IsEndOfLines ends.ReadFault source source' turns read lines =
    (rest : List ℕ) × (read ≡ joined lines ++ rest) × IsPart rest × (source.counts.faults < source'.counts.faults)
IsEndOfLines ends.TurnsUsed source source' turns read lines =
    (rest : List ℕ) × (read ≡ joined lines ++ rest) × IsPart rest × (turns ≡ 0)
IsEndOfLines ends.WriteFault source source' turns read lines = ⊥
IsEndOfLines ends.NoMemory source source' turns read lines = ⊥

-- No line follows these.
pub record EndsLines (end : ScriptEnd) (source source' : SourceTrace) (turns : ℕ) (read : List ℕ) (lines : List (List ℕ)) : Type 0 where
  pub given : IsGiven source source' read
  pub why : IsEndOfLines end source source' turns read lines

-- what was read by then, with one line more, or with none
abbrev pub Reaches : Option ScriptEnd → SourceTrace → SourceTrace → LinesState
    → (turns : ℕ) (read : List ℕ) (lines : List (List ℕ)) → Type 0
Reaches None source source' state turns read lines = HoldsNext source source' state read lines
Reaches (Some end) source source' state turns read lines = EndsLines end source source' turns read lines

-- The next line was read, after any lines before it, or there is none.
pub record ReadsNext (old new : LinesState) (source source' : SourceTrace) (had has : ℕ) (end : Option ScriptEnd) : Type 0 where
  pub cost : source'.counts.calls + has ≡ source.counts.calls + had
  pub at_most : has ≤ had
  pub onward : end ≡ None → (new.number ≡ old.number + 1) × (fuel_of new has < fuel_of old had)
  pub reaches : (start : SourceTrace) (read : List ℕ) (lines : List (List ℕ)) → LinesRead start source old read lines
      → (all : List ℕ) × Reaches end start source' new has all lines

-- the text after the last line end: nothing, or a line
abbrev pub HoldsLast : LinesState → LinesState → Option ScriptEnd → Type 0
HoldsLast old new None = new ≡ record old { number = old.number + 1; is_last = true }
HoldsLast old new (Some end) = (end ≡ ends.Done) × (old.held ≡ []) × (new ≡ old)
