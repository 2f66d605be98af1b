use Rattle.std.proofs.Common.{◌≡◌, ◌+◌, ◌-◌, ◌++◌, length}
use Rattle.drm_modes.specs.Numbers.{numbers_from}
use Rattle.drm_modes.proofs.topologies.append_numbers.Given as goal

-- the ids so far, and those to come
abbrev pub invariant-loop-id : goal.invariant-loop-id
invariant-loop-id l =
    record {
      told : l.ids ++ numbers_from l.id (l.first + l.count - l.id) ≡ l.fn.ids ++ numbers_from l.first l.count;
      short : l.first + length l.ids ≡ length l.fn.ids + l.id;
    }
