use Rattle.std.proofs.Common.{not, ap, sym, subst, ◌∙◌}
use Rattle.std.specs.Option.{is_some}
use Rattle.drm_leases.specs.Tokens.{LeaseToken}
use Rattle.drm_leases.specs.Fields.{set_of}
use Rattle.drm_leases.specs.Leases.{LeaseSet, AreLeases, is_token, token_master, key_at}
use Rattle.drm_leases.specs.Calls.{without_token}
use Rattle.drm_leases.proofs.MasterKeys.{lent_key, token_lent}
use Rattle.drm_leases.proofs.LeasesStaySound.{fewer_tokens, none_spent, some_spent, still}
use Rattle.drm_leases.proofs.leases.Leases.redeem.Goals as goal

pub invariant_of-self : goal.invariant_of-self
invariant_of-self c =
    let spent = c.spend.ensures.spent in
    let are : AreLeases c.args.self.now = subst AreLeases c.self.view_is c.self.invariant in
    still _ (without_token c.args.token c.args.self.now)
    ((λ i. record (set_of c.self.inside) { last = (spent i).last; last_given = (spent i).last_given; tokens = (spent i).rows }) ∙ ap (without_token c.args.token) c.self.view_is)
    (fewer_tokens c.args.self.now are (λ (row : LeaseToken). not (is_token c.args.token row)))

pub returns-in_err-lessee-clause-spent : goal.returns-in_err-lessee-clause-spent
returns-in_err-lessee-clause-spent c =
    let spent = c.spend.ensures.spent in
    (λ i. record (set_of c.self.inside) { last = (spent i).last; last_given = (spent i).last_given; tokens = (spent i).rows })
    ∙ ap (without_token c.args.token) c.self.view_is

pub returns-in_err-lessee-clause-none : goal.returns-in_err-lessee-clause-none
returns-in_err-lessee-clause-none c =
    none_spent c.args.self.now _ c.args.token c.from_residual.result (returns-in_err-lessee-clause-spent c)
    (c.from_residual.ensures ∙ c.in_err-lessee.ensures.lessee ∙ ap (λ (l : LeaseSet). token_master l.tokens c.args.token) c.self.view_is)

pub invariant_of-self-2 : goal.invariant_of-self-2
invariant_of-self-2 c =
    let spent = c.spend.ensures.spent in
    let are : AreLeases c.args.self.now = subst AreLeases c.self.view_is c.self.invariant in
    still _ (without_token c.args.token c.args.self.now)
    ((λ i. record (set_of c.self.inside) { last = (spent i).last; last_given = (spent i).last_given; tokens = (spent i).rows }) ∙ ap (without_token c.args.token) c.self.view_is)
    (fewer_tokens c.args.self.now are (λ (row : LeaseToken). not (is_token c.args.token row)))

pub returns-clause-none : goal.returns-clause-none
returns-clause-none c =
    let l = c.args.self.now in
    let are : AreLeases l = subst AreLeases c.self.view_is c.self.invariant in
    let lessee =
    sym (ap (λ (a : LeaseSet). token_master a.tokens c.args.token) c.self.view_is)
    ∙ sym c.in_ok-lessee.ensures.lessee in
    some_spent c.key.result _
    (ap is_some (c.key.ensures ∙ ap (λ (a : LeaseSet). key_at a.lendings c.in_ok-lessee.lessee) c.self.view_is) ∙ lent_key l.lendings c.in_ok-lessee.lessee ∙ token_lent l are c.args.token c.in_ok-lessee.lessee lessee)
