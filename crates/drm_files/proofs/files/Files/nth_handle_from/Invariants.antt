use Rattle.std.proofs.Common.{◌≡◌, ◌≤◌, ◌+◌, length, slice_get}
use Rattle.std.specs.FinMap as fin
use Rattle.drm_files.specs.Records.{holds_in}
use Rattle.drm_files.proofs.Walks.{entries_from}
use Rattle.drm_files.proofs.files.Files.nth_handle_from.Given as goal

-- the place from the next client on, and that enough turns are left
abbrev pub invariant-loop-turn : goal.invariant-loop-turn
invariant-loop-turn l = record {
  at_position : slice_get (holds_in (entries_from l.self-inside.clients.items l.at)) l.left ≡ slice_get (holds_in (entries_from l.self-inside.clients.items l.from)) l.position;
  count : length (entries_from l.self-inside.clients.items l.at) + l._turn ≤ fin.len l.self-inside.clients.items;
}
