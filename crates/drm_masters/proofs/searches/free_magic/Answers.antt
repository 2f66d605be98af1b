use Rattle.std.proofs.Common.{◌≡◌, ◌≤◌, false, not, ap, sym, ◌∙◌, below_more, arith}
use Rattle.std.specs.List.{list_any}
use Rattle.drm_index_array.proofs.Least.{least_is, least_is_none}
use Rattle.drm_masters.specs.Masters.{has_magic}
use Rattle.drm_masters.proofs.searches.free_magic.Goals as goal

pub returns-then-not-is_magic : goal.returns-then-not-is_magic
returns-then-not-is_magic c =
    sym
    (least_is _ _ _ _ (record { at_least = c.loop-number.auto.number; at_most = c.loop-number-test.true; passes = ap not (sym c.is_magic.ensures ∙ c.if-not-is_magic.true); none_below = λ k low lt. c.loop-number.invariant k lt low }))

pub loop-number-preserved : goal.loop-number-preserved
loop-number-preserved c =
    below_more (λ k. 1 ≤ k → not (list_any (has_magic c.args.master k) c.args.members.now.items) ≡ false) _
    c.loop-number.invariant (λ _. ap not (sym c.is_magic.ensures ∙ c.if-not-is_magic.false))

pub returns : goal.returns
returns c = sym (least_is_none _ _ _ (λ k low high. c.loop-number.invariant k (omega arith) low))

pub returns-else-not-is_magic : goal.returns-else-not-is_magic
returns-else-not-is_magic c =
    let all =
    below_more (λ k. 1 ≤ k → not (list_any (has_magic c.args.master k) c.args.members.now.items) ≡ false) _
    c.loop-number.invariant (λ _. ap not (sym c.is_magic.ensures ∙ c.if-not-is_magic.false)) in
    sym (least_is_none _ _ _ (λ k low high. all k (omega arith) low))
