use Rattle.std.proofs.Common.{arith}
use Rattle.drm_script.proofs.EndLemmas.{words_few}
use Rattle.drm_script.proofs.words.word_count.Goals as goal

pub returns : goal.returns
returns c = omega (arith, words_few c.args.text.now)
