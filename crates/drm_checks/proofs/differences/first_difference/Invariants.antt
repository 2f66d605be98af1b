use Rattle.std.proofs.Common.{◌≡◌, ◌+◌, ◌≤◌, length, take}
use Rattle.drm_checks.specs.FirstDifference.{line_ends}
use Rattle.drm_checks.proofs.differences.first_difference.Given as goal

-- the texts begin alike up to here, and the line is that of the next byte
abbrev pub invariant-loop-at : goal.invariant-loop-at
invariant-loop-at l = record {
  within : l.at ≤ length l.text;
  within_other : l.at ≤ length l.other;
  same : take l.at l.text ≡ take l.at l.other;
  line : l.line ≡ 1 + line_ends (take l.at l.text);
  few : l.line ≤ l.at + 1;
}
