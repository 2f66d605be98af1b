use Rattle.std.proofs.Common.{◌≡◌, ℕ, List, ◌++◌, filter, length, not}
use Rattle.drm_modes.specs.declared.rows.Framebuffer.{Framebuffer}
use Rattle.drm_modes.specs.declared.rows.Shown.{Shown}
use Rattle.drm_modes.specs.Modes.{AreModes, shown_rows, has_framebuffer, is_made_by}
use Rattle.drm_state.specs.Parts.{framebuffer_keys}
use Rattle.drm_state.specs.Invariants.{AreCounted}
use Rattle.drm_state.proofs.Counting.{IsStep}
use Rattle.drm_client_calls.proofs.closings.close_framebuffers.Given as goal

abbrev pub invariant-loop-taken : goal.invariant-loop-taken
invariant-loop-taken l = record {
  are : AreModes l.modes;
  topology : l.modes.topology ≡ l.fn.modes.topology;
  last : l.modes.last ≡ l.fn.modes.last;
  others : filter (λ (x : Framebuffer). not (is_made_by l.client x)) l.modes.framebuffers ≡ filter (λ (x : Framebuffer). not (is_made_by l.client x)) l.fn.modes.framebuffers;
  shown : shown_rows l.modes ≡ filter (λ (x : Shown). has_framebuffer l.modes x.framebuffer) (shown_rows l.fn.modes);
  left : (keys more : List ℕ) → AreCounted keys (more ++ framebuffer_keys l.fn.modes.framebuffers) l.fn.objects.objects
      → IsStep l.fn.objects.objects keys (more ++ framebuffer_keys l.modes.framebuffers) l.objects;
  limit : l.objects.limit ≡ l.fn.objects.limit;
}

abbrev pub decreases-loop-taken : goal.decreases-loop-taken
decreases-loop-taken l = length l.modes.framebuffers
