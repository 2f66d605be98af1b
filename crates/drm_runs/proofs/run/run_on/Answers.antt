use Rattle.std.proofs.Common.{arith, ap}
use Rattle.drm_runs.proofs.StepLemmas.{first_so_far}
use Rattle.drm_runs.specs.LineSteps.{fuel_of}
use Rattle.drm_runs.specs.declared.run.Run.{Run}
use Rattle.drm_runs.proofs.run.run_on.Goals as goal

pub lines-init : goal.lines-init
lines-init g c =
    let turns = ap (λ (r : Run). r.turns) c.new-run.ensures in
    let number = ap (λ (r : Run). r.lines.number) c.new-run.ensures in
    let fuel = ap (λ (r : Run). fuel_of r.lines r.turns) c.new-run.ensures in
    record {
      so_far = first_so_far _ _ _ _ _ c.new-run.ensures;
      source_calls = omega (arith, turns);
      sink_calls = omega (arith, turns);
      fuel = omega (arith, number, fuel);
    }

pub returns-in-Some-clause-runs : goal.returns-in-Some-clause-runs
returns-in-Some-clause-runs g c = rw c.end.ensures (c.in-Some.ensures _ _ _ _ c.lines.invariant.so_far)

pub lines-preserved : goal.lines-preserved
lines-preserved g c =
    let i = c.lines.invariant in
    let on = c.in_default.ensures in
    record {
      so_far = on.so_far _ _ _ _ i.so_far;
      source_calls = omega (arith, i.source_calls, on.source_calls);
      sink_calls = omega (arith, i.sink_calls, on.sink_calls);
      fuel = omega (arith, i.fuel, on.fuel, on.number);
    }
