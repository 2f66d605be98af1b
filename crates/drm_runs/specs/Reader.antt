-- The bytes and lines that a reader has read (own).
use Rattle.std.specs.Prelude.{◌≡◌, ℕ, ◌+◌, ◌*◌, ◌<◌, ◌≤◌, List, [], ◌∷◌, ◌++◌, length, Option, None, Some}
use Rattle.drm_frames.specs.Streams.{SourceTrace}
use Rattle.drm_frames.specs.Turns.{ReadCost}
use Rattle.drm_frames.specs.declared.turns.Refill.{Refill}
use Rattle.drm_frames.specs.declared.turns.Refill.TheVariants as refill
use Rattle.drm_runs.specs.Lines.{IsBare}
use Rattle.drm_runs.specs.declared.reader.Scan.{Scan}
use Rattle.drm_runs.specs.declared.reader.Scan.TheVariants as scan
use Rattle.drm_runs.specs.declared.reader.NextLine.{NextLine}
use Rattle.drm_runs.specs.declared.reader.NextLine.TheVariants as next_line

-- the line so far, and the bytes that were taken and not used
pub record Buffered : Type 0 where
  pub held : List ℕ
  pub pending : List ℕ

-- the first 256 bytes of a line that is too long, and fewer that were read after them
pub record IsTooLong (bytes front rest : List ℕ) : Type 0 where
  pub whole : bytes ≡ front ++ rest
  pub bare : IsBare front
  pub long : length front ≡ 256
  pub behind : length rest ≤ 255

-- The bytes that a scan moved to the line, which has at most 255.
abbrev pub Scans : Buffered → Buffered → Scan → Type 0
Scans old new scan.Line =
    (old.held ++ old.pending ≡ new.held ++ 10 ∷ new.pending) × (IsBare old.held → IsBare new.held) ×
    (length new.held ≤ 255) × (length new.pending ≤ 255)
Scans old new scan.Wanting =
    (old.held ++ old.pending ≡ new.held) × (new.pending ≡ []) × (IsBare old.held → IsBare new.held) ×
    (length new.held ≤ 255)
Scans old new scan.TooLong = IsBare old.held → (front rest : List ℕ) × IsTooLong (old.held ++ old.pending) front rest

-- The result of taking more bytes, at most 256. The line is unchanged.
abbrev pub Refilled : Refill → Buffered → Buffered → SourceTrace → SourceTrace → ℕ → ℕ → Type 0
Refilled (refill.Got n) old new before after had has =
    ReadCost before after new.pending had has × (new.held ≡ old.held) × (length new.pending ≤ 256) × (has < had)
Refilled refill.End old new before after had has =
    ReadCost before after [] had has × (new ≡ old) × (before.counts.ends < after.counts.ends)
Refilled refill.Fault old new before after had has =
    ReadCost before after [] had has × (new ≡ old) × (before.counts.faults < after.counts.faults)
Refilled refill.TurnsUsed old new before after had has = ReadCost before after [] had has × (new ≡ old) × (has ≡ 0)

-- The parts that one line takes of the pending bytes and the bytes read.
abbrev pub Splits : List ℕ → Buffered → SourceTrace → SourceTrace → ℕ → ℕ → NextLine → Type 0
Splits bytes new before after had has next_line.Line =
    (bytes ≡ new.held ++ 10 ∷ new.pending) × IsBare new.held × (length new.held ≤ 255) × (length new.pending ≤ 255)
Splits bytes new before after had has next_line.End =
    (bytes ≡ new.held) × (new.pending ≡ []) × IsBare new.held × (length new.held ≤ 255) ×
    (before.counts.ends < after.counts.ends)
Splits bytes new before after had has next_line.TooLong = (front rest : List ℕ) × IsTooLong bytes front rest
Splits bytes new before after had has next_line.ReadFault =
    (bytes ≡ new.held) × (new.pending ≡ []) × IsBare new.held × (length new.held ≤ 255) ×
    (before.counts.faults < after.counts.faults)
Splits bytes new before after had has next_line.TurnsUsed =
    (bytes ≡ new.held) × (new.pending ≡ []) × IsBare new.held × (length new.held ≤ 255) × (has ≡ 0)

-- One line was read. These bytes were read for it, at most 256 by each take.
pub record Reads (old new : Buffered) (before after : SourceTrace) (had has : ℕ) (answer : NextLine) (given : List ℕ) : Type 0 where
  pub spent : ReadCost before after given had has
  pub splits : Splits (old.pending ++ given) new before after had has answer
  pub chunks : length given + 256 * before.counts.calls ≤ 256 * after.counts.calls
  pub fuel : answer ≡ next_line.Line → 256 * has + length new.pending < 256 * had + length old.pending

-- A line is being read. These bytes were read for it so far.
pub record ReadsSoFar (old new : Buffered) (before after : SourceTrace) (had has : ℕ) (given : List ℕ) : Type 0 where
  pub spent : ReadCost before after given had has
  pub whole : old.pending ++ given ≡ new.held ++ new.pending
  pub bare : IsBare new.held
  pub chunks : length given + 256 * before.counts.calls ≤ 256 * after.counts.calls
  pub fuel : 256 * has + length new.held + length new.pending ≤ 256 * had + length old.pending

-- One more piece: a line that is being read is continued with fewer turns left, or it was read.
abbrev pub ReadsOn : Buffered → Buffered → SourceTrace → SourceTrace → ℕ → ℕ → Option NextLine → Type 0
ReadsOn mid new between after left has None =
    ((old : Buffered) (before : SourceTrace) (had : ℕ) (given : List ℕ) → ReadsSoFar old mid before between had left given
    → (more : List ℕ) × ReadsSoFar old new before after had has more) × (has < left) × (after.counts.calls + has ≡ between.counts.calls + left)
ReadsOn mid new between after left has (Some answer) =
    (old : Buffered) (before : SourceTrace) (had : ℕ) (given : List ℕ)
    → ReadsSoFar old mid before between had left given
    → (more : List ℕ) × Reads old new before after had has answer more
