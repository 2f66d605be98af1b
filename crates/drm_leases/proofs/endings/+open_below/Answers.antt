use Rattle.std.proofs.Common.{◌≡◌, ℕ, ◌==◌, Bool, true, false, not, ◌||◌, take, List, Option, Some, refl, sym, ap, ◌∙◌, arith}
use Rattle.std.specs.Prelude.{slice_get}
use Rattle.std.specs.List.{list_any}
use Rattle.std.proofs.lemmas.Bool.{eqb-true, false≢true, and_parts, and_from}
use Rattle.drm_index_array.specs.Chains.{is_under}
use Rattle.drm_index_array.proofs.Chains.{itself}
use Rattle.drm_masters.specs.Masters.{lessor_of, lessees_of, is_below}
use Rattle.drm_masters.proofs.Looked.{any_pushed}
use Rattle.drm_leases.specs.Leases.{has_token}
use Rattle.drm_leases.proofs.Below.{its_lessee, under_lessee, none_below, position_within}
use Rattle.drm_leases.proofs.endings.+open_below.Goals as goal

pub loop-lessee-init : goal.loop-lessee-init
loop-lessee-init t c = λ n h. absurd (false≢true h)

pub returns-then-is_open-clause-some : goal.returns-then-is_open-clause-some
returns-then-is_open-clause-some t c =
    let v = c.args.masters.now in
    let n = c.in-Some.lessee in
    let at = sym c.nth_lessee.ensures ∙ c.in-Some.is in
    and_from (is_below v.masters c.args.top n) (has_token c.args.tokens.now.rows n)
    (under_lessee v c.laws.ensures c.args.top c.loop-lessee.position n n at (itself (lessor_of v.masters) n n))
    (sym c.is_open.ensures ∙ c.if-is_open.true)

pub open_below-requires : goal.open_below-requires
open_below-requires t c =
    let younger =
    (its_lessee c.args.masters.now c.laws.ensures c.args.top c.loop-lessee.position c.in-Some.lessee (sym c.nth_lessee.ensures ∙ c.in-Some.is)).0
    in
    (omega (arith, younger, c.ranges.top.fits, c.decreases), tt)

pub returns-in-Some-open_below-clause-some : goal.returns-in-Some-open_below-clause-some
returns-in-Some-open_below-clause-some t c =
    let v = c.args.masters.now in
    let n = c.in-Some.lessee in
    let k = c.in-Some-open_below.open in
    let at = sym c.nth_lessee.ensures ∙ c.in-Some.is in
    let w = and_parts (is_below v.masters n k) (has_token c.args.tokens.now.rows k) c.in-Some-open_below.ensures.some in
    let under = (and_parts (is_under (lessor_of v.masters) n k) (not (k == n)) w.0).0 in
    and_from (is_below v.masters c.args.top k) (has_token c.args.tokens.now.rows k)
    (under_lessee v c.laws.ensures c.args.top c.loop-lessee.position n k at under) w.1

pub overflow_add-position : goal.overflow_add-position
overflow_add-position t c =
    let low =
    (its_lessee c.args.masters.now c.laws.ensures c.args.top c.loop-lessee.position c.in-Some.lessee (sym c.nth_lessee.ensures ∙ c.in-Some.is)).1
    in
    omega (arith, low)

pub loop-lessee-smaller : goal.loop-lessee-smaller
loop-lessee-smaller t c =
    let lt =
    position_within (lessees_of c.args.masters.now.masters c.args.top) c.loop-lessee.position c.in-Some.lessee
    (sym c.nth_lessee.ensures ∙ c.in-Some.is) in
    omega (arith, lt)

pub loop-lessee-preserved : goal.loop-lessee-preserved
loop-lessee-preserved t c =
    λ n h. by_lessee n (is_under above l n) refl
    (sym (any_pushed xs c.loop-lessee.position l at (λ y. is_under above y n)) ∙ h)
  where
    above : ℕ → Option ℕ
    above = lessor_of c.args.masters.now.masters

    l : ℕ
    l = c.in-Some.lessee

    xs : List ℕ
    xs = lessees_of c.args.masters.now.masters c.args.top

    at : slice_get (lessees_of c.args.masters.now.masters c.args.top) c.loop-lessee.position ≡ Some c.in-Some.lessee
    at = sym c.nth_lessee.ensures ∙ c.in-Some.is

    by_lessee : (n : ℕ) (b : Bool) → is_under above l n ≡ b
        → (b || list_any (λ y. is_under above y n) (take c.loop-lessee.position xs)) ≡ true
        → has_token c.args.tokens.now.rows n ≡ false
    by_lessee n false e k = c.loop-lessee.invariant n k
    by_lessee n true e k = by_number (n == l) refl
      where
        by_number : (b : Bool) → (n == l) ≡ b → has_token c.args.tokens.now.rows n ≡ false
        by_number true same =
            ap (has_token c.args.tokens.now.rows) (eqb-true n l same) ∙ sym c.is_open.ensures ∙ c.if-is_open.false
        by_number false other =
            c.in_default-open_below.ensures.none n (and_from (is_under above l n) (not (n == l)) e (ap not other))

pub returns-clause-none : goal.returns-clause-none
returns-clause-none t c =
    λ n h. c.loop-lessee.invariant n
    (none_below c.args.masters.now c.laws.ensures c.args.top c.loop-lessee.position n (sym c.nth_lessee.ensures ∙ c.in_default.is) h)
