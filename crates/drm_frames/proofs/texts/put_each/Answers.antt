use Rattle.std.proofs.Common.{subst, take, drop, arith, suc, List, ℕ}
use Rattle.std.specs.Borrow.{Bor}
use Rattle.drm_frames.specs.Turns.{WriteCost}
use Rattle.drm_frames.specs.Texts.{joined_texts}
use Rattle.drm_frames.proofs.Traces.{WriteCost-none, WriteCost-then}
use Rattle.drm_frames.proofs.TextLemmas.{stops, writes_out, next-text, whole-text, all-taken}
use Rattle.drm_frames.proofs.texts.put_each.Goals as goal

pub loop-text-init : goal.loop-text-init
loop-text-init g c = WriteCost-none (g.K.Sink.trace c.args.sink.now) c.args.turns.now

pub put_all-requires : goal.put_all-requires
put_all-requires g c = let paid = c.loop-text.invariant.cost in record { countable = omega (arith, paid, c.requires) }

pub returns-in_default : goal.returns-in_default
returns-in_default g c =
    stops c.put_all.result c.in_default.not-Whole _ _ _ (joined_texts (take c.loop-text.text-index c.args.texts.now)) _
    (joined_texts (drop (suc c.loop-text.text-index) c.args.texts.now)) _ _ _ _
    (whole-text (λ (t : Bor (List ℕ)). t.now) c.args.texts.now c.loop-text.text-index _ c.loop-text-test.true)
    c.loop-text.invariant
    (writes_out c.put_all.result _ _ _ _ _ c.put_all.ensures.writes)

pub loop-text-preserved : goal.loop-text-preserved
loop-text-preserved g c =
    subst
    (λ all. WriteCost (g.K.Sink.trace c.args.sink.now) (g.K.Sink.trace c.put_all.new.sink) all c.args.turns.now c.put_all.new.turns)
    (next-text (λ (t : Bor (List ℕ)). t.now) c.args.texts.now c.loop-text.text-index _ c.loop-text-test.true)
    (WriteCost-then c.loop-text.invariant c.in-Whole.ensures.writes.0)

pub returns : goal.returns
returns g c =
    subst
    (λ (texts : List (Bor (List ℕ))). WriteCost (g.K.Sink.trace c.args.sink.now) (g.K.Sink.trace c.loop-text.sink) (joined_texts texts) c.args.turns.now c.loop-text.turns)
    (all-taken (λ (t : Bor (List ℕ)). t.now) c.args.texts.now c.loop-text.text-index (omega arith))
    c.loop-text.invariant
