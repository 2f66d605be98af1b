-- The results that fit a frame (own).
use Rattle.std.specs.Prelude.{◌+◌, ◌≤◌, length, Result, Ok}
use Rattle.drm_table.specs.declared.answers.Answer.{Answer}
use Rattle.drm_table.specs.declared.answers.Answer.TheVariants as answers
use Rattle.drm_table.specs.declared.apart.Apart.{Apart}

-- the four lists of an answer have so few ids together that its frame holds them (the bound is own)
abbrev pub FitsOneFrame : Result Answer Apart → Type 0
FitsOneFrame (Ok (answers.Resources crtcs connectors encoders framebuffers)) =
    length crtcs + length connectors + length encoders + length framebuffers ≤ 251
FitsOneFrame _ = Unit {0}
