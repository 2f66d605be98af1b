use Rattle.std.proofs.Common.{true, not, ◌||◌, refl}
use Rattle.std.proofs.lemmas.Bool.{or_right}
use Rattle.drm_modes.specs.Topology.{is_encoder, is_primary_or_cursor}
use Rattle.drm_mode_calls.proofs.seeing.has_all.Goals as goal

pub returns-in-All : goal.returns-in-All
returns-in-All c = λ universal t x.
    rw (c.in-All.is, universal)
    (or_right (is_encoder t x) (not (is_primary_or_cursor t x) || true) (or_right (not (is_primary_or_cursor t x)) true refl))
