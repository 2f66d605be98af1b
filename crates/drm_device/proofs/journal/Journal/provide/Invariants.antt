use Rattle.std.proofs.Common.{◌≡◌, ◌-◌, ◌≤◌, length, take}
use Rattle.std.specs.Vec.{vec_len, vec_capacity}
use Rattle.drm_device.proofs.journal.Journal.provide.Given as goal

abbrev pub invariant-places : goal.invariant-places
invariant-places l =
    (take l.self-inside.recorded l.self-inside.places.items ≡ l.fn.self.events)
    × (vec_capacity l.self-inside.places ≡ l.fn.self.room)
    × (l.end ≤ vec_capacity l.self-inside.places)
    × (l.self-inside.recorded ≤ length l.self-inside.places.items)

abbrev pub decreases-places : goal.decreases-places
decreases-places l = l.end - vec_len l.self-inside.places
