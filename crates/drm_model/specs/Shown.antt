-- What is in the list of what CRTCs and planes show (drm-uapi, kernel mode setting).
use Rattle.std.specs.Prelude.{◌≡◌, ◌==◌, true, false}
use Rattle.std.specs.List.{AllByRecursion}
use Rattle.drm_index_array.specs.Orders.{InOrder}
use Rattle.drm_model.specs.Rows.{Rows, ShownRow, is_framebuffer}

-- the rows are of two CRTCs or planes
abbrev pub IsOtherEngine : ShownRow → ShownRow → Type 0
IsOtherEngine x y = (x.engine == y.engine) ≡ false

-- no CRTC and no plane has two rows, and each shows a framebuffer that exists
pub record EachShowsOne (w : Rows) : Type 0 where
  pub one : InOrder IsOtherEngine w.shown
  pub there : AllByRecursion (λ (row : ShownRow). is_framebuffer w row.framebuffer ≡ true) w.shown
