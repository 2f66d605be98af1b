use Rattle.std.proofs.Common.{◌≡◌}
use Rattle.drm_device.specs.Replay.{history_before}
use Rattle.drm_device.proofs.replays.step_each.Given as goal

abbrev pub invariant-loop-place : goal.invariant-loop-place
invariant-loop-place l = l.device ≡ history_before l.fn.device l.events l.place
