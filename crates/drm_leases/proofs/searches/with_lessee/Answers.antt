use Rattle.std.proofs.Common.{◌==◌, ◌&&◌, ◌||◌, false, ap, sym, ◌∙◌}
use Rattle.std.proofs.Math.Bool.{or-false}
use Rattle.std.specs.Option.{option_map_or}
use Rattle.drm_leases.specs.Leases.{is_direct_lessee}
use Rattle.drm_leases.specs.Masks.{has_object}
use Rattle.drm_leases.proofs.searches.with_lessee.Goals as goal

pub returns-in_default : goal.returns-in_default
returns-in_default c = λ id ge le.
    let there = sym c.master.ensures.master ∙ c.in_default.is in
    sym
    (ap (λ o. has_object c.args.mask id || option_map_or (is_direct_lessee c.args.master id) o false) there ∙ or-false (has_object c.args.mask id))

pub returns-then-not-is_option : goal.returns-then-not-is_option
returns-then-not-is_option c = λ id ge le.
    let there = sym c.master.ensures.master ∙ c.in-Some.is in
    sym
    (ap (λ o. has_object c.args.mask id || option_map_or (is_direct_lessee c.args.master id) o false) there ∙ ap (λ b. has_object c.args.mask id || (b && (c.in-Some.row.lessee_id == id))) (sym c.is_option.ensures ∙ c.if-not-is_option.true) ∙ or-false (has_object c.args.mask id))

pub returns : goal.returns
returns c = λ id ge le.
    let there = sym c.master.ensures.master ∙ c.in-Some.is in
    c.with_number.ensures id ge le
    ∙ sym
    (ap (λ o. has_object c.args.mask id || option_map_or (is_direct_lessee c.args.master id) o false) there ∙ ap (λ b. has_object c.args.mask id || (b && (c.in-Some.row.lessee_id == id))) (sym c.is_option.ensures ∙ c.if-not-is_option.false))
