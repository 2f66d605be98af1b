use Rattle.std.proofs.Common.{◌≡◌, ◌<◌, ◌==◌, true, not, map, filter, Some, ap, sym, subst, ◌∙◌}
use Rattle.std.specs.List.{AllByRecursion}
use Rattle.std.specs.Option.{is_some}
use Rattle.drm_index_array.specs.Rows.{placed}
use Rattle.drm_index_array.proofs.Orders.{in_order_filter}
use Rattle.drm_modes.specs.Numbers.{numbers_from}
use Rattle.drm_masters.specs.Masters.{MasterSet, master_at, step_number_at}
use Rattle.drm_leases.specs.declared.rows.Grant.{Grant}
use Rattle.drm_leases.specs.declared.rows.Lease.{Lease}
use Rattle.drm_leases.specs.Fields.{set_of}
use Rattle.drm_leases.specs.Leases.{LeaseSet, AreLeases, has_some_lease, is_leased_out, next_token}
use Rattle.drm_leases.specs.Masks.{has_object, objects_in, is_lent, lease, grants_in, lendings_in}
use Rattle.drm_leases.specs.Calls.{put_in, grant, lending, lending_before, with_lease}
use Rattle.drm_leases.specs.Agreed.{IsAgreed, AreAgreed}
use Rattle.drm_leases.proofs.Agreeing.{agreed_lent, leased_out_is, none_leased}
use Rattle.drm_leases.proofs.Bits.{few_objects}
use Rattle.drm_leases.proofs.Denied.{some_none}
use Rattle.drm_leases.proofs.Granting.{all_others, grants_put, lendings_put}
use Rattle.drm_leases.proofs.MasterKeys.{number_found, number_there}
use Rattle.drm_leases.proofs.Lending.{lessee_there, lessee_back}
use Rattle.drm_leases.proofs.ObjectsRise.{numbers_rise}
use Rattle.drm_leases.proofs.LeasesStaySound.{still, lease_are, taken_back}
use Rattle.drm_leases.proofs.leases.Leases.lend.Goals as goal

pub unreachable-requires : goal.unreachable-requires
unreachable-requires c = some_none _ c.requires.there (sym c.of_key.ensures ∙ c.in_default.is)

-- rule 34
pub add-requires-clause-unlent : goal.add-requires-clause-unlent
add-requires-clause-unlent c =
    let v = c.args.masters.now in
    let l = c.args.self.now in
    let m = step_number_at v.masters c.args.lessor in
    let row = sym c.of_key.ensures ∙ c.in-Some.is in
    let number : m ≡ c.in-Some.above.step_number = number_found v.masters c.args.lessor c.in-Some.above row in
    let there : is_some (master_at v.masters m) ≡ true =
    ap (λ n. is_some (master_at v.masters n)) number ∙ number_there v.masters c.args.lessor c.in-Some.above row in
    let rows = c.self.inside.granted.rows in
    let agreed =
    subst (λ (a : LeaseSet). AllByRecursion (IsAgreed v.members v.masters) a.lendings) (sym c.self.view_is)
    c.requires.agreed in
    λ x has. ap (λ n. is_lent rows n x) (sym number) ∙ sym (leased_out_is v.members v.masters rows agreed m x)
    ∙ ap (λ (a : LeaseSet). is_leased_out a.grants v.masters m x) c.self.view_is ∙ c.requires.unlent x has

pub release-requires : goal.release-requires
release-requires c =
    let v = c.args.masters.now in
    let l = c.args.self.now in
    let m = step_number_at v.masters c.args.lessor in
    let row = sym c.of_key.ensures ∙ c.in-Some.is in
    let number : m ≡ c.in-Some.above.step_number = number_found v.masters c.args.lessor c.in-Some.above row in
    let there : is_some (master_at v.masters m) ≡ true =
    ap (λ n. is_some (master_at v.masters n)) number ∙ number_there v.masters c.args.lessor c.in-Some.above row in
    lessee_there v c.laws.ensures m c.args.birth c.in_ok-made.made c.make_lessee.new.self c.in_ok-made.ensures.made
    c.requires.new_step_number there c.requires.later

pub release-requires-in_default-give : goal.release-requires-in_default-give
release-requires-in_default-give c =
    let v = c.args.masters.now in
    let l = c.args.self.now in
    let m = step_number_at v.masters c.args.lessor in
    let row = sym c.of_key.ensures ∙ c.in-Some.is in
    let number : m ≡ c.in-Some.above.step_number = number_found v.masters c.args.lessor c.in-Some.above row in
    let there : is_some (master_at v.masters m) ≡ true =
    ap (λ n. is_some (master_at v.masters n)) number ∙ number_there v.masters c.args.lessor c.in-Some.above row in
    lessee_there v c.laws.ensures m c.args.birth c.in_ok-made.made c.make_lessee.new.self c.in_ok-made.ensures.made
    c.requires.new_step_number there c.requires.later

pub returns-in-Err : goal.returns-in-Err
returns-in-Err c =
    let v = c.args.masters.now in
    let l = c.args.self.now in
    let m = step_number_at v.masters c.args.lessor in
    let row = sym c.of_key.ensures ∙ c.in-Some.is in
    let number : m ≡ c.in-Some.above.step_number = number_found v.masters c.args.lessor c.in-Some.above row in
    let there : is_some (master_at v.masters m) ≡ true =
    ap (λ n. is_some (master_at v.masters n)) number ∙ number_there v.masters c.args.lessor c.in-Some.above row in
    let masters =
    lessee_back v c.laws.ensures m c.args.birth c.in_ok-made.made c.make_lessee.new.self c.in_ok-made.ensures.made
    c.requires.new_step_number there c.requires.later c.release.new.self c.release.ensures in
    let leases =
    (λ i. record (set_of c.self.inside) { grants = grants_in (c.in-Err.ensures.err i).rows; lendings = lendings_in (c.in-Err.ensures.err i).rows })
    ∙ c.self.view_is in
    record {
      lent = (ap is_some c.in_ok-made.ensures.made.1, leases, masters);
      err = (leases, masters);
      agreed =
          subst (λ (a : LeaseSet). AreAgreed a c.release.new.self) (sym leases)
          (subst (λ (w : MasterSet). AreAgreed l w) (sym masters) c.requires.agreed);
    }

pub returns-in_default-give : goal.returns-in_default-give
returns-in_default-give c =
    let v = c.args.masters.now in
    let l = c.args.self.now in
    let m = step_number_at v.masters c.args.lessor in
    let row = sym c.of_key.ensures ∙ c.in-Some.is in
    let number : m ≡ c.in-Some.above.step_number = number_found v.masters c.args.lessor c.in-Some.above row in
    let there : is_some (master_at v.masters m) ≡ true =
    ap (λ n. is_some (master_at v.masters n)) number ∙ number_there v.masters c.args.lessor c.in-Some.above row in
    let masters =
    lessee_back v c.laws.ensures m c.args.birth c.in_ok-made.made c.make_lessee.new.self c.in_ok-made.ensures.made
    c.requires.new_step_number there c.requires.later c.release-in_default-give.new.self
    c.release-in_default-give.ensures in
    let unlent = none_leased v.members v.masters l.lendings c.requires.agreed c.args.birth c.requires.new_step_number in
    let old = c.self.inside.granted.rows in
    let back : c.remove.new.self.rows ≡ old =
    c.remove.ensures ∙ ap (filter (λ (x : Lease). not (x.lessee == c.args.birth))) c.in_default-add.ensures.ok
    ∙ taken_back old (lease c.args.birth c.in-Some.above.step_number c.in_ok-made.made.0 c.args.objects) c.laws-2.ensures.rise (all_others c.args.birth old (ap (λ (a : LeaseSet). has_some_lease a.lendings c.args.birth) c.self.view_is ∙ unlent)) in
    let token = c.in_default-give.ensures.err in
    let leases =
    (λ i. let now : LeaseSet = record { last = (token i).last; last_given = (token i).last_given; tokens = (token i).rows; grants = grants_in (back i); lendings = lendings_in (back i) } in now)
    ∙ c.self.view_is in
    record {
      lent = (ap is_some c.in_ok-made.ensures.made.1, leases, masters);
      err = (leases, masters);
      agreed =
          subst (λ (a : LeaseSet). AreAgreed a c.release-in_default-give.new.self) (sym leases)
          (subst (λ (w : MasterSet). AreAgreed l w) (sym masters) c.requires.agreed);
    }

pub invariant_of-self-in_default-give : goal.invariant_of-self-in_default-give
invariant_of-self-in_default-give c =
    let v = c.args.masters.now in
    let l = c.args.self.now in
    let unlent = none_leased v.members v.masters l.lendings c.requires.agreed c.args.birth c.requires.new_step_number in
    let old = c.self.inside.granted.rows in
    let back : c.remove.new.self.rows ≡ old =
    c.remove.ensures ∙ ap (filter (λ (x : Lease). not (x.lessee == c.args.birth))) c.in_default-add.ensures.ok
    ∙ taken_back old (lease c.args.birth c.in-Some.above.step_number c.in_ok-made.made.0 c.args.objects) c.laws-2.ensures.rise (all_others c.args.birth old (ap (λ (a : LeaseSet). has_some_lease a.lendings c.args.birth) c.self.view_is ∙ unlent)) in
    let token = c.in_default-give.ensures.err in
    let leases =
    (λ i. let now : LeaseSet = record { last = (token i).last; last_given = (token i).last_given; tokens = (token i).rows; grants = grants_in (back i); lendings = lendings_in (back i) } in now)
    ∙ c.self.view_is in
    still _ l leases (subst AreLeases c.self.view_is c.self.invariant)

pub invariant_of-self-in-Ok-give : goal.invariant_of-self-in-Ok-give
invariant_of-self-in-Ok-give c =
    let v = c.args.masters.now in
    let l = c.args.self.now in
    let m = step_number_at v.masters c.args.lessor in
    let row = sym c.of_key.ensures ∙ c.in-Some.is in
    let number : m ≡ c.in-Some.above.step_number = number_found v.masters c.args.lessor c.in-Some.above row in
    let there : is_some (master_at v.masters m) ≡ true =
    ap (λ n. is_some (master_at v.masters n)) number ∙ number_there v.masters c.args.lessor c.in-Some.above row in
    let unlent = none_leased v.members v.masters l.lendings c.requires.agreed c.args.birth c.requires.new_step_number in
    let old = c.self.inside.granted.rows in
    let new = lease c.args.birth c.in-Some.above.step_number c.in_ok-made.made.0 c.args.objects in
    let objects = objects_in c.args.objects in
    let given = c.in-Ok.ensures.ok in
    let next : next_token l ≡ Some c.in-Ok.token = sym (ap next_token c.self.view_is) ∙ c.in-Ok.ensures.given in
    let grants : grants_in c.add.new.self.rows ≡ put_in (λ (g : Grant). g.master) c.args.birth (map (grant c.args.birth) objects) (grants_in old) =
    ap grants_in c.in_default-add.ensures.ok ∙ grants_put new old in
    let lendings : lendings_in c.add.new.self.rows ≡ placed lending_before (lending c.args.birth c.in-Some.above.step_number c.in_ok-made.made.0) (lendings_in old) =
    ap lendings_in c.in_default-add.ensures.ok ∙ lendings_put new old in
    let leases =
    (λ i. let now : LeaseSet = record { last = (given i).last; last_given = (given i).last_given; tokens = (given i).rows; grants = grants i; lendings = lendings i } in now)
    ∙ ap (with_lease c.in-Ok.token c.in_ok-made.made.0 c.args.birth c.in-Some.above.step_number objects)
    c.self.view_is
    ∙ ap (λ n. with_lease c.in-Ok.token c.in_ok-made.made.0 c.args.birth n objects l) (sym number) in
    still _ (with_lease c.in-Ok.token c.in_ok-made.made.0 c.args.birth m objects l) leases
    (lease_are l (subst AreLeases c.self.view_is c.self.invariant) c.in-Ok.token c.in_ok-made.made.0 c.args.birth m objects unlent next (in_order_filter (λ x y. x < y) (has_object c.args.objects) (numbers_from 1 64) (numbers_rise 1 64)) (few_objects c.args.objects))

pub returns : goal.returns
returns c =
    let v = c.args.masters.now in
    let l = c.args.self.now in
    let m = step_number_at v.masters c.args.lessor in
    let row = sym c.of_key.ensures ∙ c.in-Some.is in
    let number : m ≡ c.in-Some.above.step_number = number_found v.masters c.args.lessor c.in-Some.above row in
    let there : is_some (master_at v.masters m) ≡ true =
    ap (λ n. is_some (master_at v.masters n)) number ∙ number_there v.masters c.args.lessor c.in-Some.above row in
    let unlent = none_leased v.members v.masters l.lendings c.requires.agreed c.args.birth c.requires.new_step_number in
    let old = c.self.inside.granted.rows in
    let new = lease c.args.birth c.in-Some.above.step_number c.in_ok-made.made.0 c.args.objects in
    let objects = objects_in c.args.objects in
    let given = c.in-Ok.ensures.ok in
    let next : next_token l ≡ Some c.in-Ok.token = sym (ap next_token c.self.view_is) ∙ c.in-Ok.ensures.given in
    let grants : grants_in c.add.new.self.rows ≡ put_in (λ (g : Grant). g.master) c.args.birth (map (grant c.args.birth) objects) (grants_in old) =
    ap grants_in c.in_default-add.ensures.ok ∙ grants_put new old in
    let lendings : lendings_in c.add.new.self.rows ≡ placed lending_before (lending c.args.birth c.in-Some.above.step_number c.in_ok-made.made.0) (lendings_in old) =
    ap lendings_in c.in_default-add.ensures.ok ∙ lendings_put new old in
    let leases =
    (λ i. let now : LeaseSet = record { last = (given i).last; last_given = (given i).last_given; tokens = (given i).rows; grants = grants i; lendings = lendings i } in now)
    ∙ ap (with_lease c.in-Ok.token c.in_ok-made.made.0 c.args.birth c.in-Some.above.step_number objects)
    c.self.view_is
    ∙ ap (λ n. with_lease c.in-Ok.token c.in_ok-made.made.0 c.args.birth n objects l) (sym number) in
    record {
      lent = (c.in_ok-made.ensures.made.1, next, leases, c.in_ok-made.ensures.made.0, c.in_ok-made.ensures.made.2);
      agreed =
          subst (λ (a : LeaseSet). AreAgreed a c.make_lessee.new.self) (sym leases)
          (subst (λ (w : MasterSet). AreAgreed (with_lease c.in-Ok.token c.in_ok-made.made.0 c.args.birth m objects l) w) (sym c.in_ok-made.ensures.made.2)
          (agreed_lent v.members v.masters c.in_ok-made.made.0 c.args.birth m c.in_ok-made.made.1 (c.laws.ensures.masters_rise, c.requires.new_step_number) c.in_ok-made.ensures.made.0 l.lendings c.requires.agreed));
      err = tt;
    }
