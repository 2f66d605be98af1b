use Rattle.std.proofs.Common.{◌≡◌, drop}
use Rattle.std.specs.List.{list_any}
use Rattle.drm_masters.specs.Masters.{has_magic}
use Rattle.drm_masters.proofs.searches.is_magic.Given as goal

abbrev pub invariant-loop-position : goal.invariant-loop-position
invariant-loop-position l =
    list_any (has_magic l.master l.number) l.members.items ≡ list_any (has_magic l.master l.number)
    (drop l.position l.members.items)
