use Rattle.std.proofs.Common.{◌≡◌, length}
use Rattle.drm_script.specs.Words.{trimmed}
use Rattle.drm_script.proofs.words.trim_spaces.Given as goal

abbrev pub invariant-loop-text : goal.invariant-loop-text
invariant-loop-text l = trimmed l.text ≡ trimmed l.fn.text

abbrev pub decreases-loop-text : goal.decreases-loop-text
decreases-loop-text l = length l.text
