use Rattle.std.proofs.Common.{◌≡◌, ◌+◌, length, map, take, drop, slice_get}
use Rattle.drm_model.specs.Audit.{handle_audit}
use Rattle.drm_state.specs.Parts.{holds_of}
use Rattle.drm_device.proofs.audits.handles_page.Given as goal

-- the page so far, and the handle at the next place
abbrev pub invariant-loop-turn : goal.invariant-loop-turn
invariant-loop-turn l = record {
  rows : l.page ≡ take l._turn (drop l.from (map handle_audit (holds_of l.state)));
  length : length l.page ≡ l._turn;
  next_is : l.next ≡ slice_get l.state.files.holds (l.from + l._turn);
}
