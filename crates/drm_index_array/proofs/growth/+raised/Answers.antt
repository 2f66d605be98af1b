use Rattle.std.proofs.Common.{◌+◌, ◌<◌, ◌≤◌, ◌∙◌, ◌-◌, ap, refl, arith, rules}
use Rattle.drm_index_array.specs.Tree.{width}
use Rattle.drm_index_array.proofs.RootLemmas.{span_low, hung_alone}
use Rattle.drm_index_array.proofs.growth.+raised.Goals as goal

pub raised-requires : goal.raised-requires
raised-requires g t c κs within =
    let lower : c.args.root.value.height + 1 ≤ c.args.height =
    omega (arith, c.requires.high, c.if-height.false, c.height.ensures.height, ap (λ t. t.height) c.deref.ensures)
    in
    let falls : c.args.height - 1 < c.args.height = omega (arith, lower) in
    (search rules, (search rules, (omega (arith, c.requires.low), (omega (arith, lower), (c.requires.past, c.requires.used)))))

pub returns-clause-items : goal.returns-clause-items
returns-clause-items g t c =
    let lower : c.args.root.value.height + 1 ≤ c.args.height =
    omega (arith, c.requires.high, c.if-height.false, c.height.ensures.height, ap (λ t. t.height) c.deref.ensures)
    in
    let low = span_low _ _ lower in
    let made = c.deref_mut.ensures.value ∙ c.in-Ok-new.ensures.ok ∙ c.in-Ok.ensures in
    let gets = rw made at c.hang.ensures.items in
    hung_alone (width c.args.height) _ _ c.args.root.value.items _ c.in_ok-child.ensures.items
    (λ k le. c.requires.past k (omega (arith, low, le))) gets refl
