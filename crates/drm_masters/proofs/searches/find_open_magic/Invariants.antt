use Rattle.std.proofs.Common.{◌≡◌, find, drop}
use Rattle.drm_masters.specs.Masters.{has_open_magic}
use Rattle.drm_masters.proofs.searches.find_open_magic.Given as goal

abbrev pub invariant-loop-position : goal.invariant-loop-position
invariant-loop-position l =
    find (has_open_magic l.master l.number) l.members.items ≡ find (has_open_magic l.master l.number)
    (drop l.position l.members.items)
