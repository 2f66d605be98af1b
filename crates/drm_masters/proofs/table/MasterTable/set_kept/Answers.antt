use Rattle.std.proofs.Common.{◌≡◌, ◌≤◌, ◌==◌, List, map, Some, refl, ap, sym, subst, ◌∙◌}
use Rattle.std.specs.Prelude.{if◌then◌else◌, IsSome}
use Rattle.std.specs.FinMap as fin
use Rattle.slab.specs.Slab.{get, with_value}
use Rattle.slab.proofs.SlabLemmas.{Updates-with_value}
use Rattle.drm_keys.specs.Keys.{rows_in}
use Rattle.drm_keys.proofs.KeyLemmas.{replaced, replaced_keyed}
use Rattle.drm_masters.specs.declared.rows.Master.{Master}
use Rattle.drm_masters.specs.Calls.{kept_as}
use Rattle.drm_id_alloc.specs.Groups.{has}
use Rattle.drm_index_array.proofs.Lists.{all_weaker, all_mapped}
use Rattle.std.specs.List.{AllByRecursion}
use Rattle.drm_masters.specs.Records.{items_of}
use Rattle.drm_masters.specs.Tables.{nothing, AreLesseesOf}
use Rattle.drm_masters.proofs.Pushed.{kept_at, step_number_stays, lessor_stays, lessee_id_stays, kept_lessors}
use Rattle.drm_masters.proofs.LesseesOfMasters.{same_lessees}
use Rattle.drm_masters.proofs.Owned.{same_ids}
use Rattle.drm_masters.specs.Ids.{id_at, AreIdsOf}
use Rattle.drm_masters.proofs.MasterSlab.{key_of, step_number_of, key_there, none_changed, at_key}
use Rattle.drm_masters.proofs.table.MasterTable.set_kept.Goals as goal

pub unreachable-requires : goal.unreachable-requires
unreachable-requires c =
    key_there c.self.inside.keys.items c.self.inside.kept c.self.invariant.keyed c.args.step_number c.in-Some.key.now
    (sym c.in-Some.ensures.value) (sym c.in_default-get_mut.ensures.value)

pub returns-in_default : goal.returns-in_default
returns-in_default c =
    rw (← c.self.view_is)
    (none_changed c.self.inside.keys.items c.self.inside.kept c.self.invariant.keyed c.args.step_number (sym c.in_default.ensures.value) (kept_as c.args.kept))

pub invariant_of-self : goal.invariant_of-self
invariant_of-self c =
    let x = c.in-Some-get_mut.master.now in
    let k = c.in-Some.key.now in
    let there : get c.self.inside.kept k ≡ Some x = sym c.in-Some-get_mut.ensures.value in
    let open_client : IsSome (get c.self.inside.kept k) = subst IsSome c.in-Some-get_mut.ensures.value refl in
    let slab = with_value c.self.inside.kept k (kept_as c.args.kept x) in
    let updates = Updates-with_value c.self.inside.kept k (kept_as c.args.kept x) open_client in
    let all : rows_in nothing slab (fin.entries c.self.inside.keys.items) ≡ map (kept_at x.step_number c.args.kept) (items_of c.self.inside) =
    replaced key_of step_number_of nothing c.self.inside.keys.items c.self.inside.kept c.self.invariant.keyed k x
    (kept_as c.args.kept) slab there refl refl updates in
    record {
      keyed =
          replaced_keyed key_of step_number_of nothing c.self.inside.keys.items c.self.inside.kept
          c.self.invariant.keyed k x (kept_as c.args.kept) slab there refl refl updates;
      fits =
          subst (λ (l : List Master). AllByRecursion (λ (y : Master). y.step_number ≤ 4294967295) l) (sym all)
          (all_mapped (λ (y : Master). y.step_number ≤ 4294967295) (kept_at x.step_number c.args.kept) (items_of c.self.inside)
          (all_weaker (λ (y : Master). y.step_number ≤ 4294967295) (λ (y : Master). (kept_at x.step_number c.args.kept y).step_number ≤ 4294967295) (λ y le. subst (λ b. b ≤ 4294967295) (sym (step_number_stays x.step_number c.args.kept y)) le) (items_of c.self.inside) c.self.invariant.fits));
      lessees =
          subst (λ (l : List Master). AreLesseesOf l (has c.self.inside.lessees)) (sym all)
          (same_lessees (items_of c.self.inside) (map (kept_at x.step_number c.args.kept) (items_of c.self.inside)) (kept_lessors x.step_number c.args.kept (items_of c.self.inside)) (has c.self.inside.lessees) c.self.invariant.lessees);
      ids =
          subst (λ (l : List Master). AreIdsOf l (id_at c.self.inside.ids)) (sym all)
          (same_ids (kept_at x.step_number c.args.kept) (step_number_stays x.step_number c.args.kept) (lessor_stays x.step_number c.args.kept) (lessee_id_stays x.step_number c.args.kept) (items_of c.self.inside) (id_at c.self.inside.ids) c.self.invariant.ids);
    }

pub returns : goal.returns
returns c =
    let x = c.in-Some-get_mut.master.now in
    let k = c.in-Some.key.now in
    let there : get c.self.inside.kept k ≡ Some x = sym c.in-Some-get_mut.ensures.value in
    let open_client : IsSome (get c.self.inside.kept k) = subst IsSome c.in-Some-get_mut.ensures.value refl in
    let is : x.step_number ≡ c.args.step_number =
    at_key c.self.inside.keys.items c.self.inside.kept c.self.invariant.keyed c.args.step_number k x
    (sym c.in-Some.ensures.value) there in
    rw (← c.self.view_is)
    (replaced key_of step_number_of nothing c.self.inside.keys.items c.self.inside.kept c.self.invariant.keyed k x (kept_as c.args.kept) (with_value c.self.inside.kept k (kept_as c.args.kept x)) there refl refl
    (Updates-with_value c.self.inside.kept k (kept_as c.args.kept x) open_client)
    ∙ ap (λ b. map (λ (z : Master). if z.step_number == b then kept_as c.args.kept z else z) (rows_in nothing c.self.inside.kept (fin.entries c.self.inside.keys.items))) is)
