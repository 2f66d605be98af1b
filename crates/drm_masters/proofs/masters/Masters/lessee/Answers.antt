use Rattle.std.proofs.Common.{find, refl, subst}
use Rattle.drm_masters.specs.Masters.{MasterSet, is_lessee_of, owner_of, step_number_at}
use Rattle.drm_masters.proofs.MastersStaySound.{Keyed, keyed_each}
use Rattle.drm_masters.proofs.masters.Masters.lessee.Goals as goal

pub returns-clause-keyed : goal.returns-clause-keyed
returns-clause-keyed c =
    let ms = c.args.self.now.masters in
    let keyed : Keyed ms = subst (λ (w : MasterSet). Keyed w.masters) c.self.view_is c.self.invariant.keyed in
    let is = is_lessee_of ms (owner_of ms (step_number_at ms c.args.master)) c.args.id in
    keyed_each ms keyed is (find is ms) refl
