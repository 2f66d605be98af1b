-- The order of the rows of an audit.
use Rattle.std.proofs.Common.{◌≡◌, ◌==◌, Bool, true, false, ◌&&◌, ◌∙◌, ap, refl, arith, eq-eqb}
use Rattle.std.proofs.lemmas.Bool.{eqb-true, and_parts}
use Rattle.std.proofs.lemmas.Bool.Decides.{nat_tests}
use Rattle.drm_table.specs.declared.audits.AuditRow.{AuditRow}
use Rattle.drm_index_array.proofs.Orders.{IsOrder}
use Rattle.drm_model.specs.Audit.{is_before}

abbrev pub is_row : AuditRow → AuditRow → Bool
is_row x y = (x.a == y.a) && (x.b == y.b) && (x.c == y.c) && (x.d == y.d)

is_row-same : (x y : AuditRow) → is_row x y ≡ true → x ≡ y
is_row-same x y h =
    let abc = and_parts _ (x.d == y.d) h in
    let ab = and_parts _ (x.c == y.c) abc.0 in
    let only = and_parts _ (x.b == y.b) ab.0 in
    let a = eqb-true x.a y.a only.0 in
    let b = eqb-true x.b y.b only.1 in
    let c = eqb-true x.c y.c ab.1 in
    let d = eqb-true x.d y.d abc.1 in
    ap (λ n. record { a = n; b = x.b; c = x.c; d = x.d }) a
    ∙ ap (λ n. record { a = y.a; b = n; c = x.c; d = x.d }) b
    ∙ ap (λ n. record { a = y.a; b = y.b; c = n; d = x.d }) c
    ∙ ap (λ n. record { a = y.a; b = y.b; c = y.c; d = n }) d

before-total : (x y : AuditRow) → is_before x y ≡ false → is_before y x ≡ true
before-total x y h = grind (arith, nat_tests)

before-trans : (x y z : AuditRow) → is_before x y ≡ true → is_before y z ≡ true → is_before x z ≡ true
before-trans x y z h k = grind (arith, nat_tests)

-- An audit has a total order of its rows: by the first number, then by the second.
pub order_of_rows : IsOrder is_before is_row
order_of_rows = record {
  total = before-total;
  trans = before-trans;
  itself = λ x. rw (eq-eqb x.a x.a refl, eq-eqb x.b x.b refl, eq-eqb x.c x.c refl, eq-eqb x.d x.d refl) refl;
  same = is_row-same;
}
