use Rattle.drm_history.proofs.RunsAgree.{holds_have_chains}
use Rattle.drm_history.proofs.laws.each_hold_has_a_chain.Goals as goal

pub returns : goal.returns
returns c = holds_have_chains
