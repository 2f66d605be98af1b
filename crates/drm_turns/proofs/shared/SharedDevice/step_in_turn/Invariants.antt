use Rattle.drm_turns.specs.History.{entry}
use Rattle.drm_turns.proofs.shared.SharedDevice.step_in_turn.Given as goal

-- the entry of this call
abbrev pub ghosts-count : goal.ghosts-count
ghosts-count a = record { entry = entry a.place.now.me.0.number a.event.now a.answer.now }
