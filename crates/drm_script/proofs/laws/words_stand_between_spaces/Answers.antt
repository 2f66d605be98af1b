use Rattle.std.proofs.Common.{List, ℕ, subst}
use Rattle.drm_script.specs.Words.{AreWords}
use Rattle.drm_script.proofs.SpacingLaws.{words_of-stand, words_of-are}
use Rattle.drm_script.proofs.laws.words_stand_between_spaces.Goals as goal

pub returns : goal.returns
returns c line words =
    (λ e. let P : List (List ℕ) → Type 0 = λ ws. AreWords line ws in subst P e (words_of-stand line), λ h. words_of-are h)
