use Rattle.std.proofs.Common.{bit_or, ap, sym, ◌∙◌}
use Rattle.drm_script.specs.Words.{words_of}
use Rattle.drm_runs.specs.TopologyLines.{mask_of}
use Rattle.drm_runs.proofs.MaskLemmas.{name_crtcs, named_more_words, mask_more, whole_mask}
use Rattle.drm_runs.proofs.words.mask_of.Goals as goal

pub names-preserved : goal.names-preserved
names-preserved c =
    let word = c.in-Some.word.now in
    let words = words_of c.in-Some.behind.now in
    let rest = words_of c.names.rest.now in
    let whole = words_of c.args.text.now in
    let crtc = c.in-Some-crtc_of.crtc in
    let named = sym c.in-Some-crtc_of.ensures.crtc in
    record {
      named =
          named_more_words word words rest c.args.count crtc (name_crtcs c.args.count whole) c.in-Some.ensures.words
          named c.names.invariant.named;
      mask =
          ap (λ m. bit_or (bit_or c.names.mask m) (mask_of words)) c.bit_of-mask.ensures
          ∙ mask_more c.names.mask crtc (mask_of whole) word words rest c.args.count c.requires c.in-Some.ensures.words
          named c.names.invariant.mask;
    }

pub returns-clause-mask : goal.returns-clause-mask
returns-clause-mask c =
    whole_mask c.names.mask (mask_of (words_of c.args.text.now)) (words_of c.names.rest.now) c.in_default.ensures.words
    c.names.invariant.mask
