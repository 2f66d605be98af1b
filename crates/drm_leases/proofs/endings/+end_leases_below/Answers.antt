use Rattle.std.proofs.Common.{◌≡◌, true, refl, sym, ◌∙◌, arith}
use Rattle.drm_index_array.proofs.Lists.{all_each, filter_all}
use Rattle.drm_masters.specs.Masters.{lessees_of}
use Rattle.drm_leases.specs.declared.rows.Lease.{Lease}
use Rattle.drm_leases.proofs.Below.{its_lessee, one_ended, all_taken, position_within}
use Rattle.drm_leases.proofs.endings.+end_leases_below.Goals as goal

pub loop-lessee-init : goal.loop-lessee-init
loop-lessee-init t c =
    sym
    (filter_all (λ (x : Lease). true) c.args.granted.now.rows (all_each (λ (x : Lease). true ≡ true) (λ x. refl) c.args.granted.now.rows))

pub end_leases_below-requires : goal.end_leases_below-requires
end_leases_below-requires t c =
    let younger =
    (its_lessee c.args.masters.now c.laws.ensures c.args.top c.loop-lessee.position c.in-Some.lessee (sym c.nth_lessee.ensures ∙ c.in-Some.is)).0
    in
    omega (arith, younger, c.ranges.top.fits, c.decreases)

pub overflow_add-position : goal.overflow_add-position
overflow_add-position t c =
    let low =
    (its_lessee c.args.masters.now c.laws.ensures c.args.top c.loop-lessee.position c.in-Some.lessee (sym c.nth_lessee.ensures ∙ c.in-Some.is)).1
    in
    omega (arith, low)

pub loop-lessee-smaller : goal.loop-lessee-smaller
loop-lessee-smaller t c =
    let lt =
    position_within (lessees_of c.args.masters.now.masters c.args.top) c.loop-lessee.position c.in-Some.lessee
    (sym c.nth_lessee.ensures ∙ c.in-Some.is) in
    omega (arith, lt)

pub loop-lessee-preserved : goal.loop-lessee-preserved
loop-lessee-preserved t c =
    let at = sym c.nth_lessee.ensures ∙ c.in-Some.is in
    c.end_leases_below.ensures
    ∙ one_ended (λ (x : Lease). x.lessee) c.args.masters.now c.args.top c.loop-lessee.position c.in-Some.lessee at
    c.args.granted.now.rows c.loop-lessee.granted.rows c.remove.new.self.rows c.loop-lessee.invariant c.remove.ensures

pub returns : goal.returns
returns t c =
    all_taken c.args.masters.now c.laws.ensures (λ (x : Lease). x.lessee) c.args.top c.loop-lessee.position
    (sym c.nth_lessee.ensures ∙ c.in_default.is) c.args.granted.now.rows c.loop-lessee.granted.rows
    c.loop-lessee.invariant
