use Rattle.std.proofs.Common.{◌≡◌, ◌==◌, ℕ, Option, Some, None, IfSome, slice_get, sym, ◌∙◌}
use Rattle.std.specs.FinMap as fin
use Rattle.drm_id_alloc.specs.Groups.{has_number}
use Rattle.drm_id_alloc.proofs.NumberLemmas.{alone}
use Rattle.drm_id_alloc.proofs.numbers.only_of.Goals as goal

pub returns : goal.returns
returns c = of_first c.nth.result c.nth.ensures.nth
  where
    of_first : (first : Option ℕ) → first ≡ slice_get (fin.keys c.args.numbers.now.items) 0
        → IfSome first (λ only. (n : ℕ) → has_number c.args.numbers.now n ≡ (n == only))
    of_first None is = tt
    of_first (Some only) is = alone c.args.numbers.now only (sym c.len.ensures.len ∙ c.if-len-ne1.false) is
