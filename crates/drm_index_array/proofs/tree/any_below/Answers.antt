use Rattle.std.proofs.Common.{◌∙◌, ◌-◌, ap, sym, is_some, true, false}
use Rattle.drm_index_array.specs.Least.{least}
use Rattle.drm_index_array.specs.Tree.{width}
use Rattle.drm_index_array.proofs.NodeLemmas.{any_alike, not_free}
use Rattle.drm_index_array.proofs.tree.any_below.Goals as goal

pub returns-in-Vacant-matches : goal.returns-in-Vacant-matches
returns-in-Vacant-matches g c = rw (c.in-Vacant.is, c.in-Vacant-matches.is) (sym (any_alike c.args.height true))

pub returns-in_default : goal.returns-in_default
returns-in_default g c =
    let fails = not_free _ c.args.sought c.in_default.not-Vacant in
    rw c.in-Vacant.is
    (sym (ap (λ b. is_some (least (λ _. b) 0 (width c.args.height - 1))) fails ∙ any_alike c.args.height false))

pub returns-in-Value : goal.returns-in-Value
returns-in-Value g c = rw c.in-Value.is (c.is_sought.ensures ∙ sym (any_alike c.args.height _))
