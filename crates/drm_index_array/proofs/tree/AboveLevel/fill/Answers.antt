use Rattle.std.proofs.Common.{◌≡◌, ◌+◌, ◌-◌, ◌∙◌, ap, subst, Some, cond, eqb, not, is_some, arith}
use Rattle.std.specs.Prelude.{IfOk}
use Rattle.drm_index_array.specs.Least.{least}
use Rattle.drm_index_array.specs.Tree.{is_sought}
use Rattle.drm_index_array.specs.declared.words.Sought.TheVariants.{Vacant as Free}
use Rattle.drm_index_array.proofs.SlotLemmas.{child_span}
use Rattle.std.specs.Box.{with_value}
use Rattle.std.specs.Ordering.{nat_cmp}
use Rattle.std.specs.FinMap as map
use Rattle.drm_index_array.specs.Marked.{unmarked}
use Rattle.drm_index_array.specs.declared.tree.Slot.TheVariants.{Child}
use Rattle.drm_index_array.proofs.MarkedLemmas.{get-insert}
use Rattle.drm_index_array.proofs.EditLemmas.{used_more, on_err_map}
use Rattle.drm_index_array.proofs.FillLemmas.{on_ok_map}
use Rattle.drm_index_array.proofs.tree.AboveLevel.fill.Goals as goal

pub returns-in-Child-clause-used : goal.returns-in-Child-clause-used
returns-in-Child-clause-used g c =
    on_ok_map c.fill.result (λ is. used_more _ _ c.args.rest c.args.value is) c.fill.ensures.ok

pub returns-in-Child-clause-below : goal.returns-in-Child-clause-below
returns-in-Child-clause-below g c =
    let old : c.deref_mut.result.now ≡ c.in-Child.child.value = c.deref_mut.ensures.value in
    rw c.in-Child.is
    (on_ok_map c.fill.result (λ is r lt. ap (λ m. map.get m r) is ∙ get-insert _ c.args.rest (unmarked c.args.value) r ∙ ap (λ t. cond (eqb r c.args.rest) (Some (unmarked c.args.value)) (map.get t.items r)) old) c.fill.ensures.ok)

pub returns-in-Child-clause-err : goal.returns-in-Child-clause-err
returns-in-Child-clause-err g c =
    let old : c.deref_mut.result.now ≡ c.in-Child.child.value = c.deref_mut.ensures.value in
    rw c.in-Child.is
    (on_err_map c.fill.result (λ same. ap (λ t. Child (with_value c.in-Child.child t)) (same ∙ old)) c.fill.ensures.err)

pub returns-in-Ok-clause-used : goal.returns-in-Ok-clause-used
returns-in-Ok-clause-used g c = used_more _ _ c.args.rest c.args.value c.in-Ok.ensures.items

pub returns-in-Ok-clause-below : goal.returns-in-Ok-clause-below
returns-in-Ok-clause-below g c =
    rw c.in-Vacant.is
    (λ r lt. ap (λ m. map.get m r) c.in-Ok.ensures.items ∙ get-insert map.empty c.args.rest (unmarked c.args.value) r ∙ ap (λ o. cond (eqb r c.args.rest) (Some (unmarked c.args.value)) o) (map.get-empty nat_cmp r))

pub returns-in-Child-clause-full : goal.returns-in-Child-clause-full
returns-in-Child-clause-full g c =
    let old : c.deref_mut.result.now ≡ c.in-Child.child.value = c.deref_mut.ensures.value in
    let fits : c.in-Child.child.value.height + 1 ≡ g.L.Level.height + 1 = rw c.in-Child.is at c.requires.fits in
    let wide =
    child_span c.fill.new.self.height (g.L.Level.height + 1)
    (omega (arith, fits, c.fill.ensures.height, ap (λ t. t.height) old)) in
    subst
    (λ n. IfOk c.fill.result (λ is_full. is_full ≡ not (is_some (least (λ r. is_sought Free (map.get c.fill.new.self.items r)) 0 (n - 1)))))
    wide c.fill.ensures.full
