use Rattle.std.proofs.Common.{◌≡◌, ◌*◌, nat_le}
use Rattle.drm_model.specs.Buffers.{bytes_per_pixel, is_dumb_shape}
use Rattle.drm_refusals.specs.Kinds as kinds
use Rattle.drm_refusals.proofs.LoopLemmas.{both_ok, found_of, shown_unless}
use Rattle.drm_refusals.proofs.sizes.bad_size.Goals as goal

pub returns-in_ok-found-in-AddFb-2-clause-has : goal.returns-in_ok-found-in-AddFb-2-clause-has
returns-in_ok-found-in-AddFb-2-clause-has c =
    let w = c.in-AddFb in
    let first = c.in_ok-found-in-AddFb in
    let second = c.in_ok-found-in-AddFb-2 in
    let is_pitch = nat_le (w.width * bytes_per_pixel w.bpp) w.pitch in
    rw w.is
    (both_ok c.with-in-AddFb.result
    (λ more kept has. (
      λ fails. kept kinds.is_size
          (found_of (is_dumb_shape w.width w.height w.bpp) is_pitch (kinds.Shows first.found.items kinds.is_size)
          (kinds.Shows second.found.items kinds.is_size) first.ensures.has (second.ensures.kept kinds.is_size)
          (shown_unless c.short_pitch.result kinds.is_size second.found.items is_pitch c.short_pitch.ensures.is second.ensures.has c.short_pitch.ensures.none (λ fits. fits))
          fails),
      λ of_device object bytes had made.
          shown_unless c.short_buffer-buffer.result kinds.is_size more.items (nat_le (w.pitch * w.height) bytes) c.short_buffer-buffer.ensures.is has c.short_buffer-buffer.ensures.none (λ fits. fits of_device object bytes had made),
    ))
    c.with-in-AddFb.ensures.kept c.with-in-AddFb.ensures.has)
