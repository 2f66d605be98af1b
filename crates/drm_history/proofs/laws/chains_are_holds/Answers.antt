use Rattle.drm_history.proofs.Chained.{chain_has, has_chain}
use Rattle.drm_history.proofs.laws.chains_are_holds.Goals as goal

pub returns : goal.returns
returns c = λ history d handle o. (chain_has history d handle o, has_chain o history d handle)
