-- The bytes that a source returned and a sink took over several calls, and the turns that this used (own).
use Rattle.std.specs.Prelude.{◌≡◌, ℕ, ◌+◌, ◌*◌, ◌<◌, ◌≤◌, ◌⊎◌, List, [], ◌∷◌, ◌++◌, length, take, ⊤}
use Rattle.std.specs.List.{AllByRecursion}
use Rattle.std.specs.Io.KnownBytes.{Appends, Consumes, IsAtEnd}
use Rattle.drm_frames.specs.Streams.{Counts, one_call, one_end, one_failure, SourceTrace, SinkTrace}
use Rattle.drm_frames.specs.declared.turns.Refill.{Refill}
use Rattle.drm_frames.specs.declared.turns.Refill.TheVariants as refill
use Rattle.drm_frames.specs.declared.turns.Written.{Written}
use Rattle.drm_frames.specs.declared.turns.Written.TheVariants as written

-- No count fell.
pub record NeverFall (old new : Counts) : Type 0 where
  pub calls : old.calls ≤ new.calls
  pub ends : old.ends ≤ new.ends
  pub faults : old.faults ≤ new.faults

-- Over any number of calls, the source returned these bytes.
pub record Gave (old new : SourceTrace) (bytes : List ℕ) : Type 0 where
  pub given : Consumes old.left new.left bytes
  pub counts : NeverFall old.counts new.counts

-- Over any number of calls, the sink took these bytes.
pub record Took (old new : SinkTrace) (bytes : List ℕ) : Type 0 where
  pub taken : Appends old.written new.written bytes
  pub counts : NeverFall old.counts new.counts

-- The source returned these bytes, and each call used a turn: `had` before, `has` after.
pub record ReadCost (old new : SourceTrace) (bytes : List ℕ) (had has : ℕ) : Type 0 where
  pub gave : Gave old new bytes
  pub cost : new.counts.calls + has ≡ old.counts.calls + had

-- The sink took these bytes, and each call cost a turn.
pub record WriteCost (old new : SinkTrace) (bytes : List ℕ) (had has : ℕ) : Type 0 where
  pub took : Took old new bytes
  pub cost : new.counts.calls + has ≡ old.counts.calls + had

-- The sink took a front of the text, and not the whole; each call cost a turn.
pub record PartialWriteCost (old new : SinkTrace) (text : List ℕ) (had has : ℕ) : Type 0 where
  pub front : List ℕ
  pub rest : List ℕ
  pub parts : text ≡ front ++ rest
  pub more : 0 < length rest
  pub pays : WriteCost old new front had has

-- At most `most` calls were no fault, and at most 1,000 times as many were one.
pub record Tries (old new : Counts) (most : ℕ) : Type 0 where
  pub calls : new.calls + old.faults ≤ old.calls + new.faults + most
  pub faults : new.faults ≤ old.faults + 1000 * most

-- The result of a refill. The 1,000th interruption in a row is a fault. A call without a turn isn't made.
abbrev pub Refills : Refill → SourceTrace → SourceTrace → List ℕ → ℕ → ℕ → Type 0
Refills (refill.Got n) old new buffer had has =
    ReadCost old new (take n buffer) had has × (0 < n) × (n ≤ length buffer) × (has < had)
Refills refill.End old new buffer had has =
    ReadCost old new [] had has × IsAtEnd new.left × (old.counts.ends < new.counts.ends)
Refills refill.Fault old new buffer had has = ReadCost old new [] had has × (old.counts.faults < new.counts.faults)
Refills refill.TurnsUsed old new buffer had has = ReadCost old new [] had has × (has ≡ 0)

-- The result of putting a text. A text that isn't empty uses at least one turn.
abbrev pub Writes : Written → SinkTrace → SinkTrace → List ℕ → ℕ → ℕ → Type 0
Writes written.Whole old new text had has = WriteCost old new text had has × (0 < length text → has < had)
Writes written.Fault old new text had has =
    PartialWriteCost old new text had has × (old.counts.faults < new.counts.faults)
Writes written.TurnsUsed old new text had has = PartialWriteCost old new text had has × (has ≡ 0)

-- ---- each call of a loop

-- n interruptions, one after the other
abbrev pub interrupted : ℕ → Counts → Counts
interrupted row c = record c { calls = c.calls + row; faults = c.faults + row }

-- The calls of a refill: fewer than 1,000 interruptions and then the call of the result, or 1,000 interruptions. If the
-- turns are used up, each call was interrupted, and one more was needed.
abbrev pub TakeCalls : Refill → Counts → Counts → ℕ → Type 0
TakeCalls (refill.Got n) old new had = (row : ℕ) × (row < 1000) × (new ≡ one_call (interrupted row old))
TakeCalls refill.End old new had = (row : ℕ) × (row < 1000) × (new ≡ one_end (interrupted row old))
TakeCalls refill.Fault old new had =
    ((row : ℕ) × (row < 1000) × (new ≡ one_failure (interrupted row old))) ⊎ (new ≡ interrupted 1000 old)
TakeCalls refill.TurnsUsed old new had = (had < 1000) × (new ≡ interrupted had old)

-- the number of bytes of the last call that returned some
abbrev pub gave_by : Refill → ℕ → ℕ
gave_by (refill.Got n) gave = n
gave_by refill.End gave = gave
gave_by refill.Fault gave = gave
gave_by refill.TurnsUsed gave = gave

-- the counts after the sink took some pieces, each after a number of interruptions
abbrev pub pieces_put : List ℕ → Counts → Counts
pieces_put [] c = c
pieces_put (row ∷ rows) c = pieces_put rows (one_call (interrupted row c))

-- The sink took some pieces, each after fewer than 1,000 interruptions, and then there were `row` interruptions in a
-- row.
pub record PutPieces (old new : Counts) (row : ℕ) : Type 0 where
  pub rows : List ℕ
  pub patient : AllByRecursion (λ k. k < 1000) rows
  pub counts : new ≡ interrupted row (pieces_put rows old)

-- The calls that put a text: the last is a failure or the 1,000th interruption in a row only if they fault. If the
-- turns are used up, one more was needed.
abbrev pub PutCalls : Written → Counts → Counts → Type 0
PutCalls written.Whole old new = PutPieces old new 0
PutCalls written.Fault old new =
    ((row : ℕ) × (mid : Counts) × (row < 1000) × PutPieces old mid row × (new ≡ one_failure mid)) ⊎ PutPieces old new
    1000
PutCalls written.TurnsUsed old new = (row : ℕ) × (row < 1000) × PutPieces old new row

-- A call that faults was handed all that the sink hasn't taken.
abbrev pub HandsRest : Written → SinkTrace → SinkTrace → List ℕ → Type 0
HandsRest written.Fault old new text =
    (front : List ℕ) × (rest : List ℕ) × (text ≡ front ++ rest) × Appends old.written new.written front ×
    (new.handed ≡ length rest) × (0 < length rest)
HandsRest written.Whole old new text = ⊤
HandsRest written.TurnsUsed old new text = ⊤
