use Rattle.std.proofs.Common.{◌≡◌, ◌<◌, ◌≤◌, ◌==◌, length, Some, sym, ap, ◌∙◌, eq-eqb, arith}
use Rattle.std.specs.Prelude.{slice_get}
use Rattle.std.proofs.lemmas.Bool.{ne_eqb}
use Rattle.std.proofs.lemmas.Option.{slice_get-get_or, get_or_from_slice_get}
use Rattle.drm_index_array.proofs.Orders.{in_order_weaker}
use Rattle.drm_rights.specs.declared.notes.Lease.{Lease}
use Rattle.drm_trails.proofs.RisingLemmas.{up, find_from, find_there, find_no_more, one_newest, not_less}
use Rattle.drm_rights.proofs.notes.lease_at.Goals as goal

pub returns-in_default : goal.returns-in_default
returns-in_default c =
    let xs = c.args.leases.now in
    let i = c.older_leases-place.result in
    let past : length xs ≤ i = not_less i (length xs) c.in_default.ensures.lookup.0 in
    sym
    (one_newest (λ (l : Lease). l.master) c.args.master xs c.requires
    ∙ find_from (λ (l : Lease). c.args.master == l.master) xs i
    (λ k d lt within. ne_eqb c.args.master _ (λ same. let less = c.older_leases-place.ensures.older k d (omega arith) lt in omega (arith, less, same)))
    ∙ find_no_more (λ (l : Lease). c.args.master == l.master) xs i (λ k d le within. absurd (omega (arith, past, le, within))))

pub returns-then-lease-master : goal.returns-then-lease-master
returns-then-lease-master c =
    let xs = c.args.leases.now in
    let i = c.older_leases-place.result in
    let l = c.in-Some.lease.now in
    let here : slice_get xs i ≡ Some l =
    slice_get-get_or xs i l c.in-Some.ensures.lookup.3.0 ∙ ap Some (sym c.in-Some.ensures.lookup.1) in
    sym
    (one_newest (λ (l : Lease). l.master) c.args.master xs c.requires
    ∙ find_from (λ (l : Lease). c.args.master == l.master) xs i
    (λ k d lt within. ne_eqb c.args.master _ (λ same. let less = c.older_leases-place.ensures.older k d (omega arith) lt in omega (arith, less, same)))
    ∙ find_there (λ (l : Lease). c.args.master == l.master) xs i l here (eq-eqb c.args.master l.master (sym c.if-lease-master.true)))

pub returns : goal.returns
returns c =
    let xs = c.args.leases.now in
    let i = c.older_leases-place.result in
    let l = c.in-Some.lease.now in
    let within_xs : i < length xs = c.in-Some.ensures.lookup.3.0 in
    let here : slice_get xs i ≡ Some l = slice_get-get_or xs i l within_xs ∙ ap Some (sym c.in-Some.ensures.lookup.1) in
    let rise =
    in_order_weaker (λ (x y : Lease). x.master < y.master) (λ (x y : Lease). x.master ≤ y.master)
    (λ x y lt. omega (arith, lt)) xs c.requires in
    sym
    (one_newest (λ (l : Lease). l.master) c.args.master xs c.requires
    ∙ find_from (λ (l : Lease). c.args.master == l.master) xs i
    (λ k d lt within. ne_eqb c.args.master _ (λ same. let less = c.older_leases-place.ensures.older k d (omega arith) lt in omega (arith, less, same)))
    ∙ find_no_more (λ (l : Lease). c.args.master == l.master) xs i
    (λ k d le within. ne_eqb c.args.master _ (λ same.
    let its = ap (λ (x : Lease). x.master) (get_or_from_slice_get xs i l d here) in
    let low = c.older_leases-place.ensures.others i d (omega arith) within_xs in
    let high = up (λ (x : Lease). x.master) xs rise i k d le within in
    c.if-lease-master.false (omega (arith, its, low, high, same)))))
