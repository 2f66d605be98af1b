use Rattle.std.proofs.Common.{◌≡◌, true, false, Some, None, not, ◌&&◌, ◌||◌, refl, sym, ◌∙◌, ap}
use Rattle.std.specs.Option.{is_some}
use Rattle.drm_history.specs.Lessees.{lessor_in}
use Rattle.drm_history.proofs.Falls.{lessor_falls}
use Rattle.drm_rights.specs.Leases.{lent_in, lent_by, comes_along, is_ended_before}
use Rattle.drm_rights.proofs.LendingLemmas.{lends_by, lent_told, none_of}
use Rattle.drm_rights.proofs.ledger.Ledger.lends.Goals as goal
use Rattle.drm_trails.proofs.HandleLemmas.{and_true}

pub returns-in_default : goal.returns-in_default
returns-in_default c =
    let t = c.args.topology.now in
    let x = c.args.mode_object in
    sym
    (c.lessors.invariant ∙ lent_told t c.args.self.now c.lessors.master x ∙ ap (lent_by t c.args.self.now c.lessors.master x) (sym c.lease_of.ensures ∙ c.in_default.is))

pub returns-then-is_among : goal.returns-then-is_among
returns-then-is_among c =
    let t = c.args.topology.now in
    let listed = c.listed-listed.result.now in
    lends_by t c.args.self.now c.lessors.master c.args.mode_object c.in-Some.lease listed true
    (comes_along t c.in-Some.lease.universal listed c.args.mode_object) (lessor_in c.args.self.now c.lessors.master)
    (sym c.lease_of.ensures ∙ c.in-Some.is) c.listed-listed.ensures (sym c.if-is_among.true ∙ c.is_among.ensures) refl
    refl
    ∙ sym c.lessors.invariant

pub returns-then-not-comes_along : goal.returns-then-not-comes_along
returns-then-not-comes_along c =
    lends_by c.args.topology.now c.args.self.now c.lessors.master c.args.mode_object c.in-Some.lease
    c.listed-listed.result.now false false (lessor_in c.args.self.now c.lessors.master)
    (sym c.lease_of.ensures ∙ c.in-Some.is) c.listed-listed.ensures (sym c.if-is_among.false ∙ c.is_among.ensures)
    (sym c.if-not-comes_along.true ∙ c.comes_along.ensures) refl
    ∙ sym c.lessors.invariant

pub returns-in_default-lessor_of : goal.returns-in_default-lessor_of
returns-in_default-lessor_of c =
    lends_by c.args.topology.now c.args.self.now c.lessors.master c.args.mode_object c.in-Some.lease
    c.listed-listed.result.now false true None
    (sym c.lease_of.ensures ∙ c.in-Some.is) c.listed-listed.ensures (sym c.if-is_among.false ∙ c.is_among.ensures)
    (sym c.if-not-comes_along.false ∙ c.comes_along.ensures) (sym c.in_default-lessor_of.is ∙ c.lessor_of.ensures)
    ∙ sym c.lessors.invariant

pub returns-then-is_none : goal.returns-then-is_none
returns-then-is_none c =
    let t = c.args.topology.now in
    let past = c.args.self.now in
    let x = c.args.mode_object in
    let lessor = c.in-Some-lessor_of.lessor in
    let none : is_some (lessor_in past lessor) ≡ false =
    ap is_some (sym c.lessor_of-in-lessors.ensures) ∙ c.is_none.ensures ∙ ap not c.if-is_none.true in
    ap (λ b. not b || (lent_in t past lessor x && not (is_ended_before past lessor c.lessors.master))) (sym none)
    ∙ lends_by t past c.lessors.master x c.in-Some.lease c.listed-listed.result.now false true (Some lessor)
    (sym c.lease_of.ensures ∙ c.in-Some.is) c.listed-listed.ensures (sym c.if-is_among.false ∙ c.is_among.ensures)
    (sym c.if-not-comes_along.false ∙ c.comes_along.ensures) (sym c.in-Some-lessor_of.is ∙ c.lessor_of.ensures)
    ∙ sym c.lessors.invariant

pub returns-then-is_ended_before : goal.returns-then-is_ended_before
returns-then-is_ended_before c =
    let t = c.args.topology.now in
    let past = c.args.self.now in
    let x = c.args.mode_object in
    let lessor = c.in-Some-lessor_of.lessor in
    let some : is_some (lessor_in past lessor) ≡ true =
    ap is_some (sym c.lessor_of-in-lessors.ensures) ∙ c.is_none.ensures ∙ ap not c.if-is_none.false in
    let ended : is_ended_before past lessor c.lessors.master ≡ true =
    sym c.is_ended_before.ensures ∙ c.if-is_ended_before.true in
    none_of (lent_in t past lessor x) ∙ (λ i. not (sym some i) || (lent_in t past lessor x && not (sym ended i)))
    ∙ lends_by t past c.lessors.master x c.in-Some.lease c.listed-listed.result.now false true (Some lessor)
    (sym c.lease_of.ensures ∙ c.in-Some.is) c.listed-listed.ensures (sym c.if-is_among.false ∙ c.is_among.ensures)
    (sym c.if-not-comes_along.false ∙ c.comes_along.ensures) (sym c.in-Some-lessor_of.is ∙ c.lessor_of.ensures)
    ∙ sym c.lessors.invariant

pub lessors-smaller : goal.lessors-smaller
lessors-smaller c =
    lessor_falls c.args.self.now c.lessors.master c.in-Some-lessor_of.lessor
    (sym c.lessor_of.ensures ∙ c.in-Some-lessor_of.is)

pub lessors-preserved : goal.lessors-preserved
lessors-preserved c =
    let t = c.args.topology.now in
    let past = c.args.self.now in
    let x = c.args.mode_object in
    let lessor = c.in-Some-lessor_of.lessor in
    let some : is_some (lessor_in past lessor) ≡ true =
    ap is_some (sym c.lessor_of-in-lessors.ensures) ∙ c.is_none.ensures ∙ ap not c.if-is_none.false in
    let lasts : is_ended_before past lessor c.lessors.master ≡ false =
    sym c.is_ended_before.ensures ∙ c.if-is_ended_before.false in
    c.lessors.invariant
    ∙ sym (lends_by t past c.lessors.master x c.in-Some.lease c.listed-listed.result.now false true (Some lessor)
    (sym c.lease_of.ensures ∙ c.in-Some.is) c.listed-listed.ensures (sym c.if-is_among.false ∙ c.is_among.ensures) (sym c.if-not-comes_along.false ∙ c.comes_along.ensures) (sym c.in-Some-lessor_of.is ∙ c.lessor_of.ensures))
    ∙ (λ i. not (some i) || (lent_in t past lessor x && not (lasts i)))
    ∙ sym (and_true (lent_in t past lessor x))
