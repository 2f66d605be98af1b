use Rattle.std.proofs.Common.{◌≡◌, ◌+◌, length}
use Rattle.drm_traffic.specs.Reports.{HasMoved}
use Rattle.drm_traffic.proofs.inbox.Inbox.move_faults.Given as goal

-- the faults so far were moved, and each other waits
abbrev pub invariant-loop : goal.invariant-loop
invariant-loop l = record {
  moved : HasMoved l.initial.self.faults.items l.initial.batch.faults.items l.self.faults.items l.batch.faults.items;
  count : l.self.left_out ≡ l.initial.self.left_out;
  none : l.batch.left_out ≡ 0;
  steps : l.batch.steps ≡ l.initial.batch.steps;
  waiting : length l.self.faults.items + l.counter ≡ l.end;
}
