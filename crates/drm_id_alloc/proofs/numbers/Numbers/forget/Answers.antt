use Rattle.std.proofs.Common.{◌≡◌, sym, ap, ◌∙◌}
use Rattle.drm_index_array.specs.Indexed.{empty_array}
use Rattle.drm_id_alloc.specs.Kept.{array_of}
use Rattle.drm_id_alloc.proofs.NumberLemmas.{single, single_gone, single_stays, one_left, one_less, forgotten_as}
use Rattle.drm_id_alloc.proofs.numbers.Numbers.forget.Goals as goal
use Rattle.drm_id_alloc.proofs.numbers.Numbers.forget.Goals.{in-Many-1, in-One-1, in-Many-2, in-One-2}

pub returns-then-number-only : goal.returns-then-number-only
returns-then-number-only c =
    let is : single c.in-One.only ≡ c.args.self.now = ap array_of (sym c.in-One.is) ∙ c.self.view_is in
    let as_new =
    λ (e : c.match-self-2.self ≡ empty_array). forgotten_as (single c.in-One.only) c.args.self.now empty_array
    c.match-self-2.self c.args.number is e (single_gone c.in-One.only c.args.number (sym c.if-number-only.true)) in
    elim c.match-self-2.branch [
      | in-Many-1 w ↦ as_new (w.self-is ∙ c.new.ensures)
      | in-One-1 w ↦ as_new (w.self-is ∙ c.new.ensures)
    ]

pub returns-else-number-only : goal.returns-else-number-only
returns-else-number-only c =
    let is : single c.in-One.only ≡ c.args.self.now = ap array_of (sym c.in-One.is) ∙ c.self.view_is in
    rw (← is) (single_stays c.in-One.only c.args.number (λ same. c.if-number-only.false (sym same)))

pub returns-in-Some : goal.returns-in-Some
returns-in-Some c =
    let is : c.in-Many.numbers ≡ c.args.self.now = ap array_of (sym c.in-Many.is) ∙ c.self.view_is in
    let left =
    one_left c.in-Many.numbers c.remove-number.new.self c.in-Some.only c.args.number c.remove-number.ensures.after
    c.in-Some.ensures in
    let as_new =
    λ (e : c.match-self-4.self ≡ single c.in-Some.only). forgotten_as c.in-Many.numbers c.args.self.now
    (single c.in-Some.only) c.match-self-4.self c.args.number is e left in
    elim c.match-self-4.branch [
      | in-Many-2 w ↦ as_new w.self-is
      | in-One-2 w ↦ as_new w.self-is
    ]

pub returns-in_default : goal.returns-in_default
returns-in_default c =
    let is : c.in-Many.numbers ≡ c.args.self.now = ap array_of (sym c.in-Many.is) ∙ c.self.view_is in
    rw (← is) (one_less c.in-Many.numbers c.remove-number.new.self c.args.number c.remove-number.ensures.after)
