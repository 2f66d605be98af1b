-- The four lists of resources in an answer are few.
use Rattle.std.proofs.Common.{◌≡◌, ◌+◌, ◌≤◌, List, ℕ, length, Ok, sym, subst}
use Rattle.drm_table.specs.declared.answers.Answer.{Answer}
use Rattle.drm_table.specs.Answers.{told, TellsBack}
use Rattle.drm_table.specs.Answers.Told.{resources}
use Rattle.drm_table.proofs.AnswerRows.{tells-back}
use Rattle.drm_table.specs.Results.{FitsOneFrame}

-- The four lists of an answer that fits one frame have at most 251 ids together.
pub few_told : (answer : Answer) (crtcs connectors encoders framebuffers : List ℕ) → FitsOneFrame (Ok answer)
    → resources crtcs connectors encoders framebuffers ≡ told answer
    → length crtcs + length connectors + length encoders + length framebuffers ≤ 251
few_told answer crtcs connectors encoders framebuffers few is =
    subst (λ (a : Answer). FitsOneFrame (Ok a)) (subst (TellsBack answer) (sym is) (tells-back answer)) few
