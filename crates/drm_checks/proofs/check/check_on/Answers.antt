use Rattle.std.proofs.Common.{◌≡◌, ◌∙◌, ℕ, List, arith, ap, sym, subst}
use Rattle.drm_checks.specs.Differences.{File, file_of}
use Rattle.drm_runs.specs.LineSteps.{fuel_of}
use Rattle.drm_checks.specs.Steps.{SoFar}
use Rattle.drm_checks.specs.declared.check.Check.{Check}
use Rattle.drm_checks.proofs.StepLemmas.{first_so_far, ends_as}
use Rattle.drm_checks.proofs.check.check_on.Goals as goal

pub lines-init : goal.lines-init
lines-init g c =
    let turns = ap (λ (k : Check). k.checker.turns) c.new-check.ensures in
    let number = ap (λ (k : Check). k.lines.number) c.new-check.ensures in
    let passed = ap (λ (k : Check). k.checker.passed) c.new-check.ensures in
    let failed = ap (λ (k : Check). k.checker.failed) c.new-check.ensures in
    let fuel = ap (λ (k : Check). fuel_of k.lines k.checker.turns) c.new-check.ensures in
    record {
      so_far = first_so_far _ _ _ _ _ _ c.new-check.ensures;
      passed = omega (arith, passed);
      failed = omega (arith, failed);
      source_calls = omega (arith, turns);
      sink_calls = omega (arith, turns);
      fuel = omega (arith, number, fuel);
    }

pub returns-in-Some-clause-checks : goal.returns-in-Some-clause-checks
returns-in-Some-clause-checks g c =
    let source = g.S.Source.trace in
    let sink = g.K.Sink.trace in
    let name = c.as_bytes-name.result.now in
    let command = c.as_bytes-command.result.now in
    let named : file_of name command ≡ file_of c.args.name.now c.args.command.now =
    ap (λ (n : List ℕ). file_of n command) c.as_bytes-name.ensures.value ∙ ap (file_of c.args.name.now) c.as_bytes-command.ensures.value in
    let P : File → Type 0 =
    λ f. SoFar c.args.setup f (source c.args.source.now) (source c.lines.source) (sink c.args.sink.now)
    (sink c.lines.sink) c.args.turns c.lines.check in
    ends_as c.end.ensures named (c.in-Some.ensures _ _ _ _ (subst P (sym named) c.lines.invariant.so_far))
