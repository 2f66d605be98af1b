use Rattle.std.proofs.Common.{◌≡◌, ℕ, ◌==◌, Bool, not, ◌&&◌, filter, Some, None, ap, sym, subst, ◌∙◌}
use Rattle.std.specs.FinMap as fin
use Rattle.std.specs.List.{AllByRecursion}
use Rattle.drm_index_array.specs.Indexed.{Indexed}
use Rattle.drm_index_array.specs.Orders.{InOrder}
use Rattle.drm_index_array.proofs.Lists.{all_filter}
use Rattle.drm_leases.specs.declared.rows.LeaseRecord.{LeaseRecord}
use Rattle.drm_leases.specs.declared.rows.Lease.{Lease}
use Rattle.drm_leases.specs.Masks.{LeaseRows, has_object, lease_row, leases_in, is_lent, IsFull, AreApart}
use Rattle.drm_leases.proofs.ByKey.{Lessees, Keyed, Named, keyed_less, named_less}
use Rattle.drm_leases.proofs.Granting.{leases_rise, lease_of, lease_removed}
use Rattle.drm_leases.proofs.LentMasks.{lent_removed, apart_filter, removed_none}
use Rattle.drm_leases.proofs.granted.Granted.remove.Goals as goal

pub returns-in_default : goal.returns-in_default
returns-in_default c =
    let kept = c.self.inside.leases.items in
    let go = filter (λ (x : Lease). not (x.lessee == c.args.lessee)) in
    ap (λ (a : Indexed LeaseRecord). leases_in a.items) c.in_default.ensures.absent
    ∙ removed_none c.args.lessee (leases_in kept) (lease_of kept c.args.lessee None (sym c.in_default.ensures.value))
    ∙ ap (λ (a : LeaseRows). go a.rows) c.self.view_is

pub invariant_of-self-2 : goal.invariant_of-self-2
invariant_of-self-2 c =
    let kept = c.self.inside.leases.items in
    let rows = leases_in kept in
    let p : Lease → Bool = λ x. not (x.lessee == c.args.lessee) in
    let now : leases_in c.remove.new.self.items ≡ filter p rows =
    ap (λ (a : Indexed LeaseRecord). leases_in a.items) c.in-Some.ensures.after
    ∙ lease_removed kept c.args.lessee in
    let taken : c.remove-lessee.new.self.items ≡ fin.remove c.self.inside.lessees.items c.in-Some.kept.key =
    ap (λ (a : Indexed ℕ). a.items) c.remove-lessee.ensures.after
    ∙ ap (fin.remove c.self.inside.lessees.items) c.number.ensures in
    let gone = lease_row (c.args.lessee, c.in-Some.kept) in
    let at = lease_of kept c.args.lessee (Some c.in-Some.kept) (sym c.in-Some.ensures.value) in
    record {
      full = subst (AllByRecursion IsFull) (sym now) (all_filter IsFull p rows c.self.invariant.full);
      apart = subst (InOrder AreApart) (sym now) (apart_filter p rows c.self.invariant.apart);
      keyed =
          subst (λ (l : Lessees). Keyed c.remove.new.self.items l) (sym taken)
          (subst (λ (l : Indexed LeaseRecord). Keyed l.items (fin.remove c.self.inside.lessees.items c.in-Some.kept.key)) (sym c.in-Some.ensures.after) (keyed_less kept c.self.inside.lessees.items c.self.invariant.keyed c.self.invariant.named c.args.lessee c.in-Some.kept (sym c.in-Some.ensures.value)));
      named =
          subst (λ (l : Lessees). Named c.remove.new.self.items l) (sym taken)
          (subst (λ (l : Indexed LeaseRecord). Named l.items (fin.remove c.self.inside.lessees.items c.in-Some.kept.key)) (sym c.in-Some.ensures.after) (named_less kept c.self.inside.lessees.items c.self.invariant.keyed c.self.invariant.named c.args.lessee c.in-Some.kept (sym c.in-Some.ensures.value)));
      lent =
          λ m x. c.give_back.ensures m x
          ∙ ap (λ b. b && not ((gone.lessor == m) && has_object gone.objects x)) (c.self.invariant.lent m x)
          ∙ sym
          (ap (λ l. is_lent l m x) now ∙ lent_removed c.args.lessee gone m x rows (leases_rise kept) c.self.invariant.apart at);
    }

pub returns : goal.returns
returns c =
    let kept = c.self.inside.leases.items in
    let go = filter (λ (x : Lease). not (x.lessee == c.args.lessee)) in
    ap (λ (a : Indexed LeaseRecord). leases_in a.items) c.in-Some.ensures.after ∙ lease_removed kept c.args.lessee
    ∙ ap (λ (a : LeaseRows). go a.rows) c.self.view_is
