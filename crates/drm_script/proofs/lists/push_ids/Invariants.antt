use Rattle.std.proofs.Common.{◌≡◌, ◌≤◌, ◌+◌, ◌*◌, ◌++◌, length, drop}
use Rattle.std.specs.List.{flat_map}
use Rattle.drm_script.specs.Lines.{id_behind}
use Rattle.drm_script.proofs.lists.push_ids.Given as goal

abbrev pub invariant-loop-id : goal.invariant-loop-id
invariant-loop-id l = record {
  bytes : l.text.bytes ++ flat_map id_behind (drop l.id-index l.ids) ≡ l.fn.text.bytes ++ flat_map id_behind l.ids;
  len : length l.text.bytes ≤ length l.fn.text.bytes + 11 * l.id-index;
}
