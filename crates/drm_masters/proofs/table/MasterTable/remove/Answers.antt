use Rattle.std.proofs.Common.{◌≡◌, ◌≤◌, false, not, List, filter, Some, option_and_then, sym, ap, subst, ◌∙◌}
use Rattle.std.specs.List.{list_any, AllByRecursion}
use Rattle.std.specs.FinMap as fin
use Rattle.slab.specs.Slab.{get}
use Rattle.drm_id_alloc.specs.Groups.{has}
use Rattle.drm_keys.specs.Keys.{rows_in}
use Rattle.drm_keys.proofs.KeyLemmas.{by_step_number, removed, removed_keyed}
use Rattle.drm_index_array.proofs.Lists.{all_filter}
use Rattle.drm_masters.specs.declared.rows.Master.{Master}
use Rattle.drm_masters.specs.Masters.{is_step_number, is_option, owner_of, master_at}
use Rattle.drm_masters.specs.Ids.{id_at, AreIdsOf, IsUnnamed}
use Rattle.drm_masters.specs.Records.{items_of}
use Rattle.drm_masters.specs.Tables.{MasterRows, nothing, AreLesseesOf, IsUnlisted}
use Rattle.drm_masters.proofs.MasterSlab.{key_of, step_number_of, none_gone, key_there, at_key}
use Rattle.drm_masters.proofs.LesseesOfMasters.{unlisted}
use Rattle.drm_masters.proofs.Owned.{gone}
use Rattle.drm_masters.proofs.table.MasterTable.remove.Goals as goal

pub returns-in_default : goal.returns-in_default
returns-in_default c =
    rw (← c.self.view_is, c.in_default.ensures.absent)
    (none_gone c.self.inside.keys.items c.self.inside.kept c.self.invariant.keyed c.args.step_number (sym c.in_default.ensures.value))

pub unreachable-requires : goal.unreachable-requires
unreachable-requires c =
    key_there c.self.inside.keys.items c.self.inside.kept c.self.invariant.keyed c.args.step_number c.in-Some.key
    (sym c.in-Some.ensures.value) (sym c.in_default-try_remove.ensures.value)

pub invariant_of-self-2 : goal.invariant_of-self-2
invariant_of-self-2 c =
    let keys = c.self.inside.keys.items in
    let slab = c.self.inside.kept in
    let keyed = c.self.invariant.keyed in
    let k = c.in-Some.key in
    let x = c.in-Some-try_remove.master in
    let there : get slab k ≡ Some x = sym c.in-Some-try_remove.ensures.value in
    let is : x.step_number ≡ c.args.step_number =
    at_key keys slab keyed c.args.step_number k x (sym c.in-Some.ensures.value) there in
    let here : master_at (items_of c.self.inside) x.step_number ≡ Some x =
    by_step_number key_of step_number_of nothing keys slab keyed x.step_number
    ∙ ap (option_and_then (get slab)) (keyed.key_of k x there).1 ∙ there in
    let left : rows_in nothing c.try_remove.new.self (fin.entries (fin.remove keys x.step_number)) ≡ filter (λ (y : Master). not (is_step_number x.step_number y)) (items_of c.self.inside) =
    removed key_of step_number_of nothing keys slab keyed k x c.try_remove.new.self there
    c.try_remove.ensures.updates in
    let taken : IsUnlisted (has c.self.inside.lessees) x.lessor x.step_number (has c.unlist.new.lessees) =
    subst (λ b. IsUnlisted (has c.self.inside.lessees) x.lessor b (has c.unlist.new.lessees)) (sym is)
    c.unlist.ensures in
    let alone : list_any (λ (y : Master). is_option x.step_number y.lessor) (items_of c.self.inside) ≡ false =
    subst (λ b. list_any (λ (y : Master). is_option b y.lessor) (items_of c.self.inside) ≡ false) (sym is)
    (rw (← c.self.view_is) at c.requires.no_lessee) in
    let owner : c.owner_of-owner.result ≡ owner_of (items_of c.self.inside) x.step_number =
    c.owner_of-owner.ensures ∙ ap (λ (v : MasterRows). owner_of v.items c.args.step_number) (sym c.self.view_is)
    ∙ ap (owner_of (items_of c.self.inside)) (sym is) in
    let unnamed : IsUnnamed (id_at c.self.inside.ids) (owner_of (items_of c.self.inside) x.step_number) x.lessor x.lessee_id (id_at c.unname.new.ids) =
    subst (λ o. IsUnnamed (id_at c.self.inside.ids) o x.lessor x.lessee_id (id_at c.unname.new.ids)) owner
    c.unname.ensures in
    rw (c.in-Some.ensures.after, ← is)
    (record {
      keyed =
          removed_keyed key_of step_number_of nothing keys slab keyed k x c.try_remove.new.self there
          c.try_remove.ensures.updates;
      fits =
          subst (λ (l : List Master). AllByRecursion (λ (y : Master). y.step_number ≤ 4294967295) l) (sym left)
          (all_filter (λ (y : Master). y.step_number ≤ 4294967295) (λ (y : Master). not (is_step_number x.step_number y)) (items_of c.self.inside) c.self.invariant.fits);
      lessees =
          subst (λ (l : List Master). AreLesseesOf l (has c.unlist.new.lessees)) (sym left)
          (unlisted (items_of c.self.inside) x here (has c.self.inside.lessees) (has c.unlist.new.lessees) c.self.invariant.lessees taken);
      ids =
          subst (λ (l : List Master). AreIdsOf l (id_at c.unname.new.ids)) (sym left)
          (gone (items_of c.self.inside) x here alone (id_at c.self.inside.ids) (id_at c.unname.new.ids) c.self.invariant.ids unnamed);
    })

pub returns : goal.returns
returns c =
    let keys = c.self.inside.keys.items in
    let slab = c.self.inside.kept in
    let keyed = c.self.invariant.keyed in
    let x = c.in-Some-try_remove.master in
    let there : get slab c.in-Some.key ≡ Some x = sym c.in-Some-try_remove.ensures.value in
    let is : x.step_number ≡ c.args.step_number =
    at_key keys slab keyed c.args.step_number c.in-Some.key x (sym c.in-Some.ensures.value) there in
    rw (← c.self.view_is, c.in-Some.ensures.after, ← is)
    (removed key_of step_number_of nothing keys slab keyed c.in-Some.key x c.try_remove.new.self there c.try_remove.ensures.updates)
