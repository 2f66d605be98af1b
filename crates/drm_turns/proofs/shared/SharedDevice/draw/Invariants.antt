use Rattle.std.proofs.Common.{◌≡◌}
use Rattle.drm_turns.specs.Views.{found_at}
use Rattle.drm_turns.proofs.shared.SharedDevice.draw.Given as goal

abbrev pub invariant-loop : goal.invariant-loop
invariant-loop g l = (goal.iterator-loop g).can_next l.iterator' × (goal.iterator-loop g).is_finite l.iterator'
    × (l.place.table_id ≡ l.initial.place.table_id) × (l.place.id ≡ l.initial.place.id)
    × (l.place.me ≡ (found_at l.initial.place.me.0 l.place.me.0.ticket, l.initial.place.me.1))
