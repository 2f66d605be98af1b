use Rattle.std.proofs.Common.{ℕ, List, None, get_or, ap, ◌∙◌}
use Rattle.std.specs.FinMap as fin
use Rattle.drm_index_array.specs.Indexed.{Indexed}
use Rattle.drm_keys.specs.Keys.{rows_in}
use Rattle.drm_keys.proofs.KeyLemmas.{none_in_empty, keyed_empty}
use Rattle.drm_gem.specs.declared.object.Object.{Object}
use Rattle.drm_gem.specs.Fields.{nothing, key_of, step_number_of}
use Rattle.drm_gem.proofs.objects.Objects.new.Goals as goal

pub invariant_of-result : goal.invariant_of-result
invariant_of-result c =
    rw c.new.ensures
    (keyed_empty key_of step_number_of nothing c.new-2.result (λ k. ap (λ slots. get_or slots k None) c.new-2.ensures.empty))

pub returns : goal.returns
returns c =
    ap
    (λ (a : Indexed ℕ). record { limit = c.args.limit; objects = rows_in nothing c.new-2.result (fin.entries a.items) })
    c.new.ensures
    ∙ ap (λ (os : List Object). record { limit = c.args.limit; objects = os })
    (none_in_empty key_of step_number_of nothing c.new-2.result)
