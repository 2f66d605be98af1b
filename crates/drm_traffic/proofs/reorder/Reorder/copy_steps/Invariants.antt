use Rattle.std.proofs.Common.{◌≡◌, ◌+◌, length}
use Rattle.drm_traffic.specs.Reports.{HasCopied}
use Rattle.drm_traffic.proofs.reorder.Reorder.copy_steps.Given as goal

-- the steps up to here were appended
abbrev pub invariant-loop-at : goal.invariant-loop-at
invariant-loop-at l = record {
  copied : HasCopied l.self.steps.items l.place l.initial.steps.items l.steps.items;
  count : l.at + length l.initial.steps.items ≡ l.place + length l.steps.items;
}
