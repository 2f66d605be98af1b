use Rattle.std.proofs.Common.{◌≡◌, ◌+◌, ◌≤◌, suc, arith, sym, ◌∙◌}
use Rattle.drm_script.specs.Words.{words_of}
use Rattle.drm_script.proofs.EndLemmas.{end_of-end, drop_next, drop_past}
use Rattle.drm_script.proofs.words.skip_words.Goals as goal

pub returns-in_default-clause-words : goal.returns-in_default-clause-words
returns-in_default-clause-words c =
    let before : c.loop.counter ≤ c.args.skipped = omega (arith, c.loop-test.true) in
    c.in_default.ensures.words
    ∙ sym
    (drop_past c.loop.counter c.args.skipped (words_of c.args.text.now) before (sym c.loop.invariant.words ∙ c.in_default.ensures.words))

pub loop-preserved : goal.loop-preserved
loop-preserved c =
    let next : c.loop.counter + 1 ≡ suc c.loop.counter = omega arith in
    record {
      words =
          rw next
          (sym (drop_next c.loop.counter (words_of c.args.text.now) c.in-Some.field-0-0.now (words_of c.in-Some.behind.now) (sym c.loop.invariant.words ∙ c.in-Some.ensures.words)));
      behind = end_of-end c.loop.invariant.behind c.in-Some.ensures.behind;
    }
