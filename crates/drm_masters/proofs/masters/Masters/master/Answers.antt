use Rattle.std.proofs.Common.{ap, subst, ◌∙◌}
use Rattle.drm_masters.specs.Masters.{MasterSet, master_at}
use Rattle.drm_masters.proofs.MastersStaySound.{Keyed, keyed_at}
use Rattle.drm_masters.proofs.masters.Masters.master.Goals as goal

pub returns-clause-keyed : goal.returns-clause-keyed
returns-clause-keyed c =
    let keyed : Keyed c.args.self.now.masters =
    subst (λ (w : MasterSet). Keyed w.masters) c.self.view_is c.self.invariant.keyed in
    keyed_at c.args.self.now.masters c.args.step_number keyed c.at.result
    (c.at.ensures ∙ ap (λ (w : MasterSet). master_at w.masters c.args.step_number) c.self.view_is)
