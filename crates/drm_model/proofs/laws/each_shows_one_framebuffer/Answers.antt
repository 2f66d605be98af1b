use Rattle.drm_model.proofs.ShownRows.{each_shows_one}
use Rattle.drm_model.proofs.laws.each_shows_one_framebuffer.Goals as goal

pub returns : goal.returns
returns c = each_shows_one
