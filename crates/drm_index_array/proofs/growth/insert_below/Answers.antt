use Rattle.std.proofs.Common.{◌≡◌, ◌∙◌, ap, Some}
use Rattle.std.specs.Box.{with_value}
use Rattle.drm_index_array.proofs.growth.insert_below.Goals as goal

pub returns-in-Err-insert-clause-err : goal.returns-in-Err-insert-clause-err
returns-in-Err-insert-clause-err g c =
    let old : c.deref_mut.result.now ≡ c.in-Some.root.value = c.deref_mut.ensures.value in
    rw c.in-Some.is (ap (λ t. Some (with_value c.in-Some.root t)) (c.in-Err-insert.ensures.err ∙ old))
