use Rattle.std.proofs.Common.{◌≡◌, ◌≤◌, ◌-◌, ◌++◌, take, length}
use Rattle.drm_index_array.specs.Keys.{keys_from}
use Rattle.drm_files.proofs.lists.shown_handles.Given as goal

-- what is listed and what is still needed
abbrev pub invariant-loop-turn : goal.invariant-loop-turn
invariant-loop-turn l = record {
  told : l.list ++ take (64 - l._turn) (keys_from l.table.slots l.at) ≡ take 64 (keys_from l.table.slots l.from);
  short : length l.list ≤ l._turn;
}
