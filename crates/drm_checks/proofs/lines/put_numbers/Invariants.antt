use Rattle.std.proofs.Common.{◌≡◌, ◌++◌, drop}
use Rattle.std.specs.List.{flat_map}
use Rattle.drm_checks.specs.Lines.{spaced}
use Rattle.drm_checks.proofs.lines.put_numbers.Given as goal

abbrev pub invariant-loop-number : goal.invariant-loop-number
invariant-loop-number l =
    l.text.items ++ flat_map spaced (drop l.number-index l.numbers) ≡ l.fn.text.items ++ flat_map spaced l.numbers
