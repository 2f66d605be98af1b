use Rattle.std.proofs.Common.{◌≡◌, ◌≤◌, ◌-◌, ◌++◌, map, filter, drop, length}
use Rattle.drm_modes.specs.declared.rows.Framebuffer.{Framebuffer}
use Rattle.drm_modes.specs.Modes.{is_made_by, framebuffers_of}
use Rattle.drm_modes.proofs.modes.Modes.framebuffers_of.Given as goal

-- the ids so far, and those to come
abbrev pub invariant-loop-row : goal.invariant-loop-row
invariant-loop-row l =
    record {
      told : l.list ++ map (λ (row : Framebuffer). row.framebuffer) (filter (is_made_by l.client) (drop l.position l.self.framebuffers)) ≡ framebuffers_of l.self l.client;
      short : length l.list ≤ l.position;
      within : l.position ≤ length l.self.framebuffers;
    }

abbrev pub decreases-loop-row : goal.decreases-loop-row
decreases-loop-row l = length l.self.framebuffers - l.position
