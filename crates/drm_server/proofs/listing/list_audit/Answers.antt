use Rattle.std.proofs.Common.{refl, subst, take, drop, suc, arith}
use Rattle.std.specs.List.{flat_map}
use Rattle.drm_table.specs.Audits.{kinds}
use Rattle.drm_model.specs.Run.{rows_of}
use Rattle.drm_frames.specs.Turns.{WriteCost}
use Rattle.drm_frames.specs.declared.turns.Written.TheVariants as written
use Rattle.drm_server.specs.Listing.{kind_text, audit_text}
use Rattle.drm_frames.proofs.Traces.{WriteCost-none, WriteCost-then}
use Rattle.drm_frames.proofs.TextLemmas.{stops, next-text, whole-text, all-taken}
use Rattle.drm_server.proofs.ListingLemmas.{listed, listed-fault, listed-turns}
use Rattle.drm_server.proofs.listing.list_audit.Goals as goal

pub loop-kind-init : goal.loop-kind-init
loop-kind-init g c = record { all = refl; pays = WriteCost-none (g.K.Sink.trace c.args.sink.now) c.args.turns }

pub list_kind-requires : goal.list_kind-requires
list_kind-requires g c = let paid = c.loop-kind.invariant.pays.cost in omega (arith, paid, c.requires)

pub returns-in-Fault : goal.returns-in-Fault
unfolding audit_text
returns-in-Fault g c =
    let text = kind_text (rows_of c.args.device.now) in
    let all = stops written.Fault (λ e. cc) _ _ _ (flat_map text (take c.loop-kind.kind-index kinds)) _ (flat_map text (drop (suc c.loop-kind.kind-index) kinds)) (flat_map text kinds) _ _ _
    (whole-text text kinds c.loop-kind.kind-index _ c.loop-kind-test.true) c.loop-kind.invariant.pays c.in-Fault.ensures in
    listed-fault (rows_of c.args.device.now) _ _ _ _ all.0 all.1

pub returns-in-TurnsUsed : goal.returns-in-TurnsUsed
unfolding audit_text
returns-in-TurnsUsed g c =
    let text = kind_text (rows_of c.args.device.now) in
    let all = stops written.TurnsUsed (λ e. cc) _ _ _ (flat_map text (take c.loop-kind.kind-index kinds)) _ (flat_map text (drop (suc c.loop-kind.kind-index) kinds)) (flat_map text kinds) _ _ _
    (whole-text text kinds c.loop-kind.kind-index _ c.loop-kind-test.true) c.loop-kind.invariant.pays c.in-TurnsUsed.ensures in
    listed-turns (rows_of c.args.device.now) _ _ _ _ all.0 all.1

pub loop-kind-preserved : goal.loop-kind-preserved
loop-kind-preserved g c =
    let text = kind_text (rows_of c.args.device.now) in
    record {
      all = refl;
      pays =
          subst
          (λ all. WriteCost (g.K.Sink.trace c.args.sink.now) (g.K.Sink.trace c.list_kind.new.sink) all c.args.turns c.list_kind.new.turns)
          (next-text text kinds c.loop-kind.kind-index _ c.loop-kind-test.true)
          (WriteCost-then c.loop-kind.invariant.pays c.in-Whole.ensures);
    }

pub returns : goal.returns
unfolding audit_text
returns g c =
    let text = kind_text (rows_of c.args.device.now) in
    listed (rows_of c.args.device.now) _ _ _ _ (subst (λ xs. WriteCost (g.K.Sink.trace c.args.sink.now) (g.K.Sink.trace c.loop-kind.sink) (flat_map text xs) c.args.turns c.loop-kind.left)
    (all-taken text kinds c.loop-kind.kind-index (omega arith)) c.loop-kind.invariant.pays)
