use Rattle.std.proofs.Common.{ℕ, IfNone, IfOk, IfSome, List, take, ◌∙◌, subst}
use Rattle.drm_trails.specs.Chains.{Explains}
use Rattle.drm_trails.specs.Steps.{history_of}
use Rattle.drm_trails.specs.declared.steps.Step.{Step}
use Rattle.drm_trails.proofs.ChainLemmas.{lead_to}
use Rattle.drm_trails.proofs.trail.Trail.chain_end_of.Goals as goal

pub returns-clause-whole : goal.returns-clause-whole
returns-clause-whole c =
    subst
    (λ (steps : List Step). IfOk c.chain_end_in.result (λ found. IfSome found (λ end. IfNone end.left ((o : ℕ) × Explains (history_of (take c.args.count steps)) c.args.client c.args.handle o end.links.items))))
    (c.deref.ensures.value ∙ c.self.view_is) c.chain_end_in.ensures.whole

pub returns-clause-chain : goal.returns-clause-chain
returns-clause-chain c = lead_to _ _ _ _ (returns-clause-whole c)
