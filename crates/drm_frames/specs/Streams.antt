-- The traces of a source and a sink: their bytes and the counts of their calls, and the effect of one call (own).
use Rattle.std.specs.Prelude.{ℕ, ◌+◌, ◌<◌, ◌≤◌, List, [], ◌∷◌, length, take, Option, zero, suc}
use Rattle.std.specs.Io.KnownBytes.{Keeps, Appends, Consumes, IsAtEnd}
use Rattle.drm_frames.specs.declared.source.Taken.{Taken}
use Rattle.drm_frames.specs.declared.source.Taken.TheVariants as taken
use Rattle.drm_frames.specs.declared.sink.Put.{Put}
use Rattle.drm_frames.specs.declared.sink.Put.TheVariants as put

-- how many calls were made, how many of them answered an end or a fault, and how many of the faults were no interruption
pub record Counts : Type 0 where
  pub calls : ℕ
  pub ends : ℕ
  pub faults : ℕ
  pub failures : ℕ

-- the trace of a source: the bytes that are left, if it knows them, its counts, and the number of bytes of the last call that
-- returned some. A socket does not know its bytes.
pub record SourceTrace : Type 0 where
  pub left : Option (List ℕ)
  pub counts : Counts
  pub gave : ℕ

-- the trace of a sink: the bytes that it has taken, if it knows them (a socket doesn't), its counts, and the number of
-- bytes that the last call received
pub record SinkTrace : Type 0 where
  pub written : Option (List ℕ)
  pub counts : Counts
  pub handed : ℕ

-- ---- the counts after one call

-- no call was made
abbrev pub no_calls : Counts
no_calls = record { calls = 0; ends = 0; faults = 0; failures = 0 }

-- one more call
abbrev pub one_call : Counts → Counts
one_call c = record c { calls = c.calls + 1 }

-- one more call, at which no byte is left
abbrev pub one_end : Counts → Counts
one_end c = record c { calls = c.calls + 1; ends = c.ends + 1 }

-- one more call, which is interrupted
abbrev pub one_interruption : Counts → Counts
one_interruption c = record c { calls = c.calls + 1; faults = c.faults + 1 }

-- one more call, which fails
abbrev pub one_failure : Counts → Counts
one_failure c = record c { calls = c.calls + 1; faults = c.faults + 1; failures = c.failures + 1 }

-- An interruption counts as a fault, but as no failure.
abbrev pub counts_taken : Taken → Counts → Counts
counts_taken (taken.Got n) c = one_call c
counts_taken taken.End c = one_end c
counts_taken taken.Interrupted c = one_interruption c
counts_taken taken.Fault c = one_failure c

-- the number of bytes of the last call that returned some
abbrev pub gave_after : Taken → ℕ → ℕ
gave_after (taken.Got n) gave = n
gave_after taken.End gave = gave
gave_after taken.Interrupted gave = gave
gave_after taken.Fault gave = gave

-- An interruption counts as a fault, but as no failure; taking no byte of a text that has some counts as a failure.
abbrev pub counts_put : Put → List ℕ → Counts → Counts
counts_put (put.Took n) [] c = one_call c
counts_put (put.Took zero) (b ∷ text) c = one_failure c
counts_put (put.Took (suc n)) (b ∷ text) c = one_call c
counts_put put.Interrupted text c = one_interruption c
counts_put put.Fault text c = one_failure c

-- ---- the bytes of one call

-- The result of a `take`: `old` and `new` are the bytes that were and are left, and the buffer is as the call left it.
abbrev pub TakeGives : Taken → Option (List ℕ) → Option (List ℕ) → List ℕ → Type 0
TakeGives (taken.Got n) old new buffer = (0 < n) × (n ≤ length buffer) × Consumes old new (take n buffer)
TakeGives taken.End old new buffer = Keeps old new × IsAtEnd new
TakeGives taken.Interrupted old new buffer = Keeps old new
TakeGives taken.Fault old new buffer = Keeps old new

-- What a `put` did: `old` and `new` are the bytes given to the sink so far.
abbrev pub PutGives : Put → Option (List ℕ) → Option (List ℕ) → List ℕ → Type 0
PutGives (put.Took n) old new text = (n ≤ length text) × Appends old new (take n text)
PutGives put.Interrupted old new text = Keeps old new
PutGives put.Fault old new text = Keeps old new
