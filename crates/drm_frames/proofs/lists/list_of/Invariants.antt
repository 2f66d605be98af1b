use Rattle.std.proofs.Common.{◌≡◌, ◌≤◌, ◌-◌, ◌*◌, ◌++◌, length}
use Rattle.drm_frames.specs.Lists.{ids_in}
use Rattle.drm_frames.proofs.lists.list_of.Given as goal

abbrev pub invariant-loop : goal.invariant-loop
invariant-loop l = record {
  ids : l.list ++ ids_in (l.count - l.counter) l.rest ≡ ids_in l.count l.bytes;
  rest : 4 * (l.count - l.counter) ≤ length l.rest;
  list : length l.list ≡ l.counter;
}
