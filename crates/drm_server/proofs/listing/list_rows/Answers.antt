use Rattle.std.proofs.Common.{◌∙◌, subst, take, drop, arith, suc}
use Rattle.std.specs.List.{flat_map}
use Rattle.drm_frames.specs.Turns.{WriteCost, Writes}
use Rattle.drm_script.specs.Lines as lines
use Rattle.drm_frames.proofs.Traces.{WriteCost-none, WriteCost-then}
use Rattle.drm_frames.proofs.TextLemmas.{stops, writes_out, next-text, whole-text, all-taken}
use Rattle.drm_server.proofs.listing.list_rows.Goals as goal

pub loop-row-init : goal.loop-row-init
loop-row-init g c = WriteCost-none (g.K.Sink.trace c.args.sink.now) c.args.turns.now

pub put_all-requires : goal.put_all-requires
put_all-requires g c = let paid = c.loop-row.invariant.cost in record { countable = omega (arith, paid, c.requires) }

pub returns-in_default : goal.returns-in_default
returns-in_default g c =
    let line = lines.audit_line c.args.kind in
    let text =
    subst
    (λ bytes. Writes c.put_all.result (g.K.Sink.trace c.loop-row.sink) (g.K.Sink.trace c.put_all.new.sink) bytes c.loop-row.turns c.put_all.new.turns)
    (c.as_bytes.ensures.bytes ∙ c.audit_line.ensures.line) c.put_all.ensures.writes in
    stops c.put_all.result c.in_default.not-Whole _ _ _ (flat_map line (take c.loop-row.row-index c.args.rows.now)) _
    (flat_map line (drop (suc c.loop-row.row-index) c.args.rows.now)) _ _ _ _
    (whole-text line c.args.rows.now c.loop-row.row-index _ c.loop-row-test.true) c.loop-row.invariant
    (writes_out c.put_all.result _ _ _ _ _ text)

pub loop-row-preserved : goal.loop-row-preserved
loop-row-preserved g c =
    let line = lines.audit_line c.args.kind in
    let text =
    subst
    (λ bytes. WriteCost (g.K.Sink.trace c.loop-row.sink) (g.K.Sink.trace c.put_all.new.sink) bytes c.loop-row.turns c.put_all.new.turns)
    (c.as_bytes.ensures.bytes ∙ c.audit_line.ensures.line) c.in-Whole.ensures.writes.0 in
    subst
    (λ all. WriteCost (g.K.Sink.trace c.args.sink.now) (g.K.Sink.trace c.put_all.new.sink) all c.args.turns.now c.put_all.new.turns)
    (next-text line c.args.rows.now c.loop-row.row-index _ c.loop-row-test.true)
    (WriteCost-then c.loop-row.invariant text)

pub returns : goal.returns
returns g c =
    subst
    (λ rows. WriteCost (g.K.Sink.trace c.args.sink.now) (g.K.Sink.trace c.loop-row.sink) (flat_map (lines.audit_line c.args.kind) rows) c.args.turns.now c.loop-row.turns)
    (all-taken (lines.audit_line c.args.kind) c.args.rows.now c.loop-row.row-index (omega arith)) c.loop-row.invariant
