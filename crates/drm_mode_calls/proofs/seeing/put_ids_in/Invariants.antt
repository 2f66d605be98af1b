use Rattle.std.proofs.Common.{◌≡◌, ◌≤◌, ◌++◌, filter, drop, length}
use Rattle.drm_leases.specs.Views.{is_in_view}
use Rattle.drm_mode_calls.proofs.seeing.put_ids_in.Given as goal

-- those so far, and those to come
abbrev pub invariant-loop-id : goal.invariant-loop-id
invariant-loop-id l =
    record {
      told : l.seen ++ filter (is_in_view l.modes.topology l.view) (drop l.id-index l.id-items) ≡ filter (is_in_view l.modes.topology l.view) l.id-items;
      short : length l.seen ≤ l.id-index;
    }
