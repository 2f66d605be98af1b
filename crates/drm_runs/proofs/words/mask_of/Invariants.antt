use Rattle.std.proofs.Common.{◌≡◌, length, bit_or}
use Rattle.drm_script.specs.Words.{words_of}
use Rattle.drm_runs.specs.TopologyLines.{mask_of}
use Rattle.drm_runs.proofs.MaskLemmas.{name_crtcs}
use Rattle.drm_runs.proofs.words.mask_of.Given as goal

-- the words so far name CRTCs, and their mask with that of the words to come is the whole mask
abbrev pub invariant-names : goal.invariant-names
invariant-names l = record {
  named : name_crtcs l.count (words_of l.rest) ≡ name_crtcs l.count (words_of l.text);
  mask : bit_or l.mask (mask_of (words_of l.rest)) ≡ mask_of (words_of l.text);
}

abbrev pub decreases-names : goal.decreases-names
decreases-names l = length (words_of l.rest)
