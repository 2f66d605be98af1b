use Rattle.std.proofs.Common.{ℕ, ap, sym, subst, ◌∙◌}
use Rattle.std.specs.List.{AllByRecursion}
use Rattle.drm_index_array.specs.Indexed.{Indexed}
use Rattle.drm_index_array.specs.Orders.{InOrder}
use Rattle.drm_leases.specs.declared.rows.LeaseRecord.{LeaseRecord}
use Rattle.drm_leases.specs.Masks.{LeaseRows, leases_in, IsFull, AreApart, is_lent}
use Rattle.drm_leases.proofs.ByKey.{none_keyed}
use Rattle.drm_leases.proofs.Granting.{no_leases}
use Rattle.drm_leases.proofs.granted.Granted.new.Goals as goal

pub invariant_of-result : goal.invariant_of-result
invariant_of-result c =
    let none = ap (λ (a : Indexed LeaseRecord). leases_in a.items) c.new.ensures ∙ no_leases in
    let ways =
    none_keyed c.new.result.items c.new-2.result.items (ap (λ (a : Indexed LeaseRecord). a.items) c.new.ensures)
    (ap (λ (a : Indexed ℕ). a.items) c.new-2.ensures) in
    record { keyed = ways.0; named = ways.1; full = subst (AllByRecursion IsFull) (sym none) tt; apart = subst (InOrder AreApart) (sym none) tt; lent = λ m x. c.new-3.ensures m x ∙ sym (ap (λ l. is_lent l m x) none) }

pub returns : goal.returns
returns c =
    ap (λ l. let rows : LeaseRows = record { rows = l } in rows)
    (ap (λ (a : Indexed LeaseRecord). leases_in a.items) c.new.ensures ∙ no_leases)
