-- How traces of several calls compose: what no call, two runs one after the other, and one call make of them.
use Rattle.std.proofs.Common.{◌≡◌, ℕ, ◌+◌, ◌-◌, ◌<◌, zero, suc, List, [], ◌∷◌, ◌++◌, take, Option, refl, sym, subst, arith}
use Rattle.std.specs.Io.KnownBytes.{Appends}
use Rattle.std.proofs.KnownBytes.{Consumes-nil, Consumes-trans, Appends-nil, Appends-trans, Appends-kept}
use Rattle.drm_frames.specs.Streams.{Counts, one_call, one_interruption, one_failure, SourceTrace, SinkTrace, PutGives, counts_put}
use Rattle.drm_frames.specs.Turns.{NeverFall, Gave, Took, ReadCost, WriteCost}
use Rattle.drm_frames.specs.declared.sink.Put.{Put}
use Rattle.drm_frames.specs.declared.sink.Put.TheVariants as put

-- ---- counts

-- Without a call no count falls.
pub NeverFall-none : (c : Counts) → NeverFall c c
NeverFall-none c = record { calls = omega arith; ends = omega arith; faults = omega arith }

-- If no count falls in each of two runs, none falls in both together.
pub NeverFall-then : {c d e : Counts} → NeverFall c d → NeverFall d e → NeverFall c e
NeverFall-then p q = record { calls = omega arith; ends = omega arith; faults = omega arith }

-- one call more, and no count fell
record IsNext (old new : Counts) : Type 0 where
  calls : new.calls ≡ old.calls + 1
  counts : NeverFall old new

IsNext-one_call : (c : Counts) → IsNext c (one_call c)
IsNext-one_call c =
    record { calls = refl; counts = record { calls = omega arith; ends = omega arith; faults = omega arith } }

IsNext-one_interruption : (c : Counts) → IsNext c (one_interruption c)
IsNext-one_interruption c =
    record { calls = refl; counts = record { calls = omega arith; ends = omega arith; faults = omega arith } }

IsNext-one_failure : (c : Counts) → IsNext c (one_failure c)
IsNext-one_failure c =
    record { calls = refl; counts = record { calls = omega arith; ends = omega arith; faults = omega arith } }

IsNext-counts_put : (r : Put) (text : List ℕ) (c : Counts) → IsNext c (counts_put r text c)
IsNext-counts_put (put.Took n) [] c = IsNext-one_call c
IsNext-counts_put (put.Took zero) (b ∷ text) c = IsNext-one_failure c
IsNext-counts_put (put.Took (suc n)) (b ∷ text) c = IsNext-one_call c
IsNext-counts_put put.Interrupted text c = IsNext-one_interruption c
IsNext-counts_put put.Fault text c = IsNext-one_failure c

-- ---- the bytes that a source returned

-- Without a call the source returns no bytes.
pub Gave-none : (a : SourceTrace) → Gave a a []
Gave-none a = record { given = Consumes-nil a.left; counts = NeverFall-none a.counts }

-- Two runs return the bytes of the first and then those of the second.
pub Gave-then : {a b c : SourceTrace} {x y : List ℕ} → Gave a b x → Gave b c y → Gave a c (x ++ y)
Gave-then {a} {b} {c} {x} {y} p q =
    record { given = Consumes-trans a.left b.left c.left x y p.given q.given; counts = NeverFall-then p.counts q.counts }

-- ---- what a sink took

-- Without a call the sink takes no bytes.
pub Took-none : (a : SinkTrace) → Took a a []
Took-none a = record { taken = Appends-nil a.written; counts = NeverFall-none a.counts }

-- In two runs the sink takes the bytes of the first and then those of the second.
pub Took-then : {a b c : SinkTrace} {x y : List ℕ} → Took a b x → Took b c y → Took a c (x ++ y)
Took-then {a} {b} {c} {x} {y} p q =
    record { taken = Appends-trans a.written b.written c.written x y p.taken q.taken; counts = NeverFall-then p.counts q.counts }

-- the bytes that one `put` took
abbrev pub bytes_put : Put → List ℕ → List ℕ
bytes_put (put.Took n) text = take n text
bytes_put put.Interrupted text = []
bytes_put put.Fault text = []

PutGives-Appends : (r : Put) (old new : Option (List ℕ)) (text : List ℕ) → PutGives r old new text
    → Appends old new (bytes_put r text)
PutGives-Appends (put.Took n) old new text h = h.1
PutGives-Appends put.Interrupted old new text h = Appends-kept old old new [] (Appends-nil old) h
PutGives-Appends put.Fault old new text h = Appends-kept old old new [] (Appends-nil old) h

-- In one call the sink takes the bytes that its result counts.
pub Took-one : (a b : SinkTrace) (r : Put) (text : List ℕ) → PutGives r a.written b.written text
    → b.counts ≡ counts_put r text a.counts
    → Took a b (bytes_put r text)
Took-one a b r text h e = record {
  taken = PutGives-Appends r a.written b.written text h;
  counts = subst (NeverFall a.counts) (sym e) (IsNext-counts_put r text a.counts).counts;
}

-- ---- the bytes that a source returned, with its turns

-- Two runs return the bytes of both and cost the turns of both.
pub ReadCost-then : {a b c : SourceTrace} {x y : List ℕ} {s t u : ℕ} → ReadCost a b x s t → ReadCost b c y t u
    → ReadCost a c (x ++ y) s u
ReadCost-then p q = record { gave = Gave-then p.gave q.gave; cost = omega arith }

-- ---- what a sink took, with its turns

-- Without a call the sink takes no bytes and no turn is used.
pub WriteCost-none : (a : SinkTrace) (turns : ℕ) → WriteCost a a [] turns turns
WriteCost-none a turns = record { took = Took-none a; cost = refl }

-- In two runs the sink takes the bytes of both, at the cost of the turns of both.
pub WriteCost-then : {a b c : SinkTrace} {x y : List ℕ} {s t u : ℕ} → WriteCost a b x s t → WriteCost b c y t u
    → WriteCost a c (x ++ y) s u
WriteCost-then p q = record { took = Took-then p.took q.took; cost = omega arith }

-- In one call the sink takes the bytes that its result counts, at the cost of one turn.
pub WriteCost-one : (a b : SinkTrace) (r : Put) (text : List ℕ) (turns : ℕ) → 0 < turns
    → PutGives r a.written b.written text
    → b.counts ≡ counts_put r text a.counts → WriteCost a b (bytes_put r text) turns (turns - 1)
WriteCost-one a b r text turns some h e =
    let called =
    subst (λ (c : Counts). c.calls ≡ a.counts.calls + 1) (sym e) (IsNext-counts_put r text a.counts).calls in
    record { took = Took-one a b r text h e; cost = omega arith }
