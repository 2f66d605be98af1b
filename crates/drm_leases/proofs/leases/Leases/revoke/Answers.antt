use Rattle.std.proofs.Common.{ap, sym, subst, ◌∙◌}
use Rattle.drm_index_array.specs.Chains.{is_under}
use Rattle.drm_masters.specs.Masters.{lessor_of, step_number_at, swept}
use Rattle.drm_masters.specs.Calls.{released}
use Rattle.drm_leases.specs.Leases.{LeaseSet, AreLeases}
use Rattle.drm_leases.specs.Agreed.{AreHeld}
use Rattle.drm_leases.specs.Calls.{ended, is_opened_under}
use Rattle.drm_leases.proofs.Agreeing.{tokens_held}
use Rattle.drm_leases.proofs.Denied.{some_none}
use Rattle.drm_leases.proofs.EndedLeases.{left, left_agree}
use Rattle.drm_leases.proofs.MasterKeys.{number_found}
use Rattle.drm_leases.proofs.LeasesStaySound.{without_are, still}
use Rattle.drm_leases.proofs.leases.Leases.revoke.Goals as goal

pub unreachable-requires : goal.unreachable-requires
unreachable-requires c = some_none _ c.requires.there (sym c.of_key.ensures ∙ c.in_default.is)

pub release_open-requires : goal.release_open-requires
release_open-requires c =
    record
    { held = subst (λ (a : LeaseSet). AreHeld c.args.masters.now a.tokens) (sym c.self.view_is) (tokens_held c.args.self.now c.args.masters.now (subst AreLeases c.self.view_is c.self.invariant) c.requires.agreed) }

pub returns-clause-leases : goal.returns-clause-leases
returns-clause-leases c =
    let masters = c.args.masters.now.masters in
    let number = number_found masters c.args.master c.in-Some.top (sym c.of_key.ensures ∙ c.in-Some.is) in
    left (is_under (lessor_of masters) c.in-Some.top.step_number) c.self.inside _ _ c.release_open.ensures.tokens
    c.end_leases.ensures
    ∙ ap (ended masters c.in-Some.top.step_number) c.self.view_is
    ∙ ap (λ n. ended masters n c.args.self.now) (sym number)

pub returns-clause-masters : goal.returns-clause-masters
returns-clause-masters c =
    let v = c.args.masters.now in
    let number = number_found v.masters c.args.master c.in-Some.top (sym c.of_key.ensures ∙ c.in-Some.is) in
    c.release_open.ensures.masters
    ∙ ap (λ (a : LeaseSet). swept (released (is_opened_under a.tokens v.masters c.in-Some.top.step_number) v))
    c.self.view_is
    ∙ ap (λ n. swept (released (is_opened_under c.args.self.now.tokens v.masters n) v)) (sym number)

pub invariant_of-self : goal.invariant_of-self
invariant_of-self c =
    let masters = c.args.masters.now.masters in
    let l = c.args.self.now in
    let are : AreLeases l = subst AreLeases c.self.view_is c.self.invariant in
    still _ (ended masters (step_number_at masters c.args.master) l) (returns-clause-leases c)
    (without_are l are (is_under (lessor_of masters) (step_number_at masters c.args.master)))

pub returns-clause-agreed : goal.returns-clause-agreed
returns-clause-agreed c =
    let v = c.args.masters.now in
    left_agree (is_under (lessor_of v.masters) (step_number_at v.masters c.args.master)) v c.release_open.new.masters
    c.args.self.now _ (returns-clause-leases c) (returns-clause-masters c) c.requires.agreed
