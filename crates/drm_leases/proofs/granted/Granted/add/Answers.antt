use Rattle.std.proofs.Common.{◌≡◌, ℕ, ◌==◌, true, false, not, ◌&&◌, ◌||◌, None, ap, sym, subst, ◌∙◌}
use Rattle.std.specs.FinMap as fin
use Rattle.std.specs.List.{AllByRecursion}
use Rattle.drm_id_alloc.proofs.TableLemmas.{taken_back}
use Rattle.drm_index_array.specs.Indexed.{Indexed}
use Rattle.drm_index_array.specs.Rows.{placed}
use Rattle.drm_index_array.specs.Orders.{InOrder}
use Rattle.drm_index_array.proofs.Placed.{all_placed}
use Rattle.drm_leases.specs.declared.rows.LeaseRecord.{LeaseRecord}
use Rattle.drm_leases.specs.declared.rows.Lease.{Lease}
use Rattle.drm_leases.specs.Masks.{LeaseRows, has_object, lease, lease_before, leases_in, is_lent, IsFull, AreApart}
use Rattle.drm_leases.proofs.ByKey.{Leases, Keyed, Named, keyed_more, named_more}
use Rattle.drm_leases.proofs.Granting.{leases_rise, lease_added}
use Rattle.drm_leases.proofs.LentMasks.{lent_added, apart_added, lent_back}
use Rattle.drm_leases.proofs.granted.Granted.add.Goals as goal

-- a lease that there is no memory for is lent no more, and not found by its key
pub invariant_of-self-in-Err-insert-2 : goal.invariant_of-self-in-Err-insert-2
invariant_of-self-in-Err-insert-2 c =
    let rows = leases_in c.self.inside.leases.items in
    let lessees = c.self.inside.lessees.items in
    let leases : c.insert-2.new.self.items ≡ c.self.inside.leases.items =
    ap (λ (a : Indexed LeaseRecord). a.items) c.in-Err-insert-2.ensures.err in
    let same : leases_in c.insert-2.new.self.items ≡ rows = ap leases_in leases in
    let back : c.remove-lessee.new.self.items ≡ lessees =
    ap (λ (a : Indexed ℕ). a.items) c.remove-lessee.ensures.after
    ∙ ap (λ (a : Indexed ℕ). fin.remove a.items c.number-in-Err-insert-2.result) c.in_default-insert.ensures.ok
    ∙ ap (fin.remove (fin.insert lessees c.number.result c.args.lessee))
    (c.number-in-Err-insert-2.ensures ∙ sym c.number.ensures)
    ∙ ap (λ u. u.slots) (taken_back (record { slots = lessees; first = 0; last = 0; last_given = None }) c.number.result c.args.lessee c.in_default-insert.ensures.absent) in
    let unlent =
    subst (λ (a : LeaseRows). (x : ℕ) → has_object c.args.objects x ≡ true → is_lent a.rows c.args.lessor x ≡ false)
    (sym c.self.view_is) c.requires.unlent in
    record {
      full = subst (AllByRecursion IsFull) (sym same) c.self.invariant.full;
      apart = subst (InOrder AreApart) (sym same) c.self.invariant.apart;
      lent =
          λ m x. c.give_back-in-Err-insert-2.ensures m x
          ∙ ap (λ b. b && not ((c.args.lessor == m) && has_object c.args.objects x))
          (c.in_default.ensures.ok m x ∙ ap (λ b. b || ((c.args.lessor == m) && has_object c.args.objects x)) (c.self.invariant.lent m x))
          ∙ lent_back rows c.args.lessor c.args.objects unlent m x ∙ sym (ap (λ l. is_lent l m x) same);
      keyed =
          subst (Keyed c.insert-2.new.self.items) (sym back)
          (subst (λ (l : Leases). Keyed l lessees) (sym leases) c.self.invariant.keyed);
      named =
          subst (Named c.insert-2.new.self.items) (sym back)
          (subst (λ (l : Leases). Named l lessees) (sym leases) c.self.invariant.named);
    }

pub invariant_of-self-in_default-insert-2 : goal.invariant_of-self-in_default-insert-2
invariant_of-self-in_default-insert-2 c =
    let kept = c.self.inside.leases.items in
    let lessees = c.self.inside.lessees.items in
    let rows = leases_in kept in
    let it : LeaseRecord = record { lessor = c.args.lessor; key = c.args.key; objects = c.args.objects } in
    let new = lease c.args.lessee c.args.lessor c.args.key c.args.objects in
    let unlent =
    subst (λ (a : LeaseRows). (x : ℕ) → has_object c.args.objects x ≡ true → is_lent a.rows c.args.lessor x ≡ false)
    (sym c.self.view_is) c.requires.unlent in
    let leases : c.insert-2.new.self.items ≡ fin.insert kept c.args.lessee it =
    ap (λ (a : Indexed LeaseRecord). a.items) c.in_default-insert-2.ensures.ok in
    let found : c.insert.new.self.items ≡ fin.insert lessees c.args.key c.args.lessee =
    ap (λ (a : Indexed ℕ). a.items) c.in_default-insert.ensures.ok
    ∙ ap (λ k. fin.insert lessees k c.args.lessee) c.number.ensures in
    let free : fin.get lessees c.args.key ≡ None =
    ap (fin.get lessees) (sym c.number.ensures) ∙ c.in_default-insert.ensures.absent in
    let now : leases_in c.insert-2.new.self.items ≡ placed lease_before new rows =
    ap leases_in leases ∙ lease_added kept c.args.lessee it c.in_default-insert-2.ensures.absent in
    record {
      full =
          subst (AllByRecursion IsFull) (sym now)
          (all_placed IsFull (λ (x : Lease). lease_before x new) new rows c.requires.some c.self.invariant.full);
      apart =
          subst (InOrder AreApart) (sym now) (apart_added rows new (leases_rise kept) c.self.invariant.apart unlent);
      lent =
          λ m x. c.in_default.ensures.ok m x
          ∙ ap (λ b. b || ((c.args.lessor == m) && has_object c.args.objects x)) (c.self.invariant.lent m x)
          ∙ sym (ap (λ l. is_lent l m x) now ∙ lent_added rows new m x);
      keyed =
          subst (Keyed c.insert-2.new.self.items) (sym found)
          (subst (λ (l : Leases). Keyed l (fin.insert lessees c.args.key c.args.lessee)) (sym leases) (keyed_more kept lessees c.self.invariant.keyed c.self.invariant.named c.args.lessee it c.in_default-insert-2.ensures.absent free));
      named =
          subst (Named c.insert-2.new.self.items) (sym found)
          (subst (λ (l : Leases). Named l (fin.insert lessees c.args.key c.args.lessee)) (sym leases) (named_more kept lessees c.self.invariant.keyed c.self.invariant.named c.args.lessee it c.in_default-insert-2.ensures.absent free));
    }

pub returns-clause-ok : goal.returns-clause-ok
returns-clause-ok c =
    ap (λ (a : Indexed LeaseRecord). leases_in a.items) c.in_default-insert-2.ensures.ok
    ∙ lease_added c.self.inside.leases.items c.args.lessee _ c.in_default-insert-2.ensures.absent
    ∙ ap (λ (a : LeaseRows). placed lease_before (lease c.args.lessee c.args.lessor c.args.key c.args.objects) a.rows)
    c.self.view_is
