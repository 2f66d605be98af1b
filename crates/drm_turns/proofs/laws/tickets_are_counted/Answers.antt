use Rattle.std.proofs.Common.{sym, ◌∙◌}
use Rattle.drm_turns.proofs.Rule.{word_is}
use Rattle.drm_turns.proofs.laws.tickets_are_counted.Goals as goal

pub returns : goal.returns
returns c s r = (word_is s r).1 ∙ sym r.drawn
