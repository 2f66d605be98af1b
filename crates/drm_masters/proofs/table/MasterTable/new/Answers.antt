use Rattle.std.proofs.Common.{◌≤◌, ℕ, List, None, get_or, ap, sym, subst, ◌∙◌}
use Rattle.std.specs.List.{AllByRecursion}
use Rattle.std.specs.FinMap as fin
use Rattle.drm_index_array.specs.Indexed.{Indexed}
use Rattle.drm_id_alloc.specs.Groups.{has}
use Rattle.drm_keys.specs.Keys.{rows_in}
use Rattle.drm_keys.proofs.KeyLemmas.{none_in_empty, keyed_empty}
use Rattle.drm_masters.specs.declared.rows.Master.{Master}
use Rattle.drm_masters.specs.Masters.{is_option}
use Rattle.drm_masters.specs.Ids.{id_at, AreIdsOf}
use Rattle.drm_masters.specs.Tables.{nothing, AreLesseesOf}
use Rattle.drm_masters.proofs.MasterSlab.{key_of, step_number_of, rows}
use Rattle.drm_masters.proofs.table.MasterTable.new.Goals as goal

pub invariant_of-result : goal.invariant_of-result
invariant_of-result c =
    let none = none_in_empty key_of step_number_of nothing c.new-2.result in
    rw c.new.ensures (record {
      keyed =
          keyed_empty key_of step_number_of nothing c.new-2.result
          (λ k. ap (λ slots. get_or slots k None) c.new-2.ensures.empty);
      fits = subst (λ (l : List Master). AllByRecursion (λ (y : Master). y.step_number ≤ 4294967295) l) (sym none) tt;
      lessees = subst (λ (l : List Master). AreLesseesOf l (has c.new-3.result)) (sym none) c.new-3.ensures;
      ids =
          subst (λ (l : List Master). AreIdsOf l (id_at c.new-4.result)) (sym none)
          (λ p q b. ap (is_option b) (c.new-4.ensures p q));
    })

pub returns : goal.returns
returns c =
    ap (λ (a : Indexed ℕ). rows (rows_in nothing c.new-2.result (fin.entries a.items))) c.new.ensures
    ∙ ap rows (none_in_empty key_of step_number_of nothing c.new-2.result)
