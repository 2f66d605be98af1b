-- How far putting a text has progressed.
use Rattle.std.proofs.Common.{◌≡◌, ℕ, ◌+◌, ◌-◌, ◌*◌, ◌<◌, ◌≤◌, zero, suc, List, [], ◌∷◌, ◌++◌, length, take, drop, refl, sym, ap, ◌∙◌, arith, append_assoc, length-append, length-take-le, take-append-drop}
use Rattle.drm_frames.specs.Streams.{Counts, SinkTrace, PutGives, counts_put}
use Rattle.drm_frames.specs.Turns.{WriteCost, Tries}
use Rattle.drm_frames.specs.declared.sink.Put.TheVariants as put
use Rattle.drm_frames.proofs.Traces.{WriteCost-one, WriteCost-then}

-- The sink took the front of the text, and the rest is left. There were `interruptions` interruptions since the last
-- byte.
pub record PutSoFar (old new : SinkTrace) (text rest : List ℕ) (had has interruptions : ℕ) : Type 0 where
  pub front : List ℕ
  pub parts : text ≡ front ++ rest
  pub pays : WriteCost old new front had has
  pub spent : 0 < length front → has < had
  pub patient : interruptions < 1000
  pub pending : interruptions ≤ 1000 * length rest
  pub calls : new.counts.calls + old.counts.faults ≤ old.counts.calls + new.counts.faults + length front
  pub faults : new.counts.faults ≤ old.counts.faults + 999 * length front + interruptions

-- a `put` that took bytes is no fault
counts_put-faults : (n : ℕ) (text : List ℕ) (c : Counts) → 0 < n → n ≤ length text
    → (counts_put (put.Took n) text c).faults ≡ c.faults
counts_put-faults zero text c some within = absurd (omega arith)
counts_put-faults (suc n) [] c some within = absurd (omega arith)
counts_put-faults (suc n) (b ∷ text) c some within = refl

-- a `put` is a call
counts_put-calls : (n : ℕ) (text : List ℕ) (c : Counts) → (counts_put (put.Took n) text c).calls ≡ c.calls + 1
counts_put-calls n [] c = refl
counts_put-calls zero (b ∷ text) c = refl
counts_put-calls (suc n) (b ∷ text) c = refl

-- After a call that took some bytes of the rest, the put has progressed by them.
pub PutSoFar-took : (a b c : SinkTrace) (text rest later : List ℕ) (s t i n : ℕ) → PutSoFar a b text rest s t i → 0 < t
    → 0 < n
    → PutGives (put.Took n) b.written c.written rest → c.counts ≡ counts_put (put.Took n) rest b.counts
    → later ≡ drop n rest → PutSoFar a c text later s (t - 1) 0
PutSoFar-took a b c text rest later s t i n so some_turn some gives counts e =
    let faults : c.counts.faults ≡ b.counts.faults =
    ap (λ (x : Counts). x.faults) counts ∙ counts_put-faults n rest b.counts some gives.0 in
    let called : c.counts.calls ≡ b.counts.calls + 1 =
    ap (λ (x : Counts). x.calls) counts ∙ counts_put-calls n rest b.counts in
    let len : length (so.front ++ take n rest) ≡ length so.front + n =
    length-append so.front (take n rest) ∙ ap (λ m. length so.front + m) (length-take-le n rest gives.0) in
    record {
      front = so.front ++ take n rest;
      parts =
          so.parts ∙ ap (λ l. so.front ++ l) (sym (take-append-drop n rest))
          ∙ sym (append_assoc so.front (take n rest) (drop n rest))
          ∙ ap (λ l. (so.front ++ take n rest) ++ l) (sym e);
      pays = WriteCost-then so.pays (WriteCost-one b c (put.Took n) rest t some_turn gives counts);
      spent = λ _. omega arith;
      patient = omega arith;
      pending = omega arith;
      calls = rw len (omega arith);
      faults = rw len (omega arith);
    }

-- For each byte at most one call was no fault and at most 1,000 calls were one.
pub PutSoFar-Tries : (a b : SinkTrace) (text rest : List ℕ) (s t i : ℕ) → PutSoFar a b text rest s t i
    → Tries a.counts b.counts (length text)
PutSoFar-Tries a b text rest s t i so =
    let len : length text ≡ length so.front + length rest = ap length so.parts ∙ length-append so.front rest in
    record { calls = omega arith; faults = omega arith }
