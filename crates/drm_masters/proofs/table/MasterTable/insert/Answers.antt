use Rattle.std.proofs.Common.{◌≡◌, ◌≤◌, List, None, refl, ap, sym, subst, ◌∙◌}
use Rattle.std.specs.List.{AllByRecursion}
use Rattle.std.specs.FinMap as fin
use Rattle.slab.specs.Slab.{Slab}
use Rattle.drm_id_alloc.specs.Groups.{GroupMap, has}
use Rattle.drm_keys.specs.Keys.{rows_in}
use Rattle.drm_keys.proofs.KeyLemmas.{rise, vacant, created, created_keyed, by_key, grown}
use Rattle.drm_index_array.specs.Rows.{placed}
use Rattle.drm_index_array.proofs.Placed.{all_placed}
use Rattle.drm_masters.specs.declared.rows.Master.{Master}
use Rattle.drm_masters.specs.declared.table.MasterTable.TheInside.{Inside}
use Rattle.drm_masters.specs.Calls.{keyed_as}
use Rattle.drm_masters.specs.Masters.{master_before}
use Rattle.drm_masters.specs.Records.{IsTable, items_of}
use Rattle.drm_masters.specs.Tables.{MasterRows, nothing, AreLesseesOf}
use Rattle.drm_masters.proofs.MasterSlab.{key_of, step_number_of, more_room}
use Rattle.drm_masters.proofs.LesseesOfMasters.{listed, back}
use Rattle.drm_masters.proofs.Owned.{free_id, vacant_id, come, come_back}
use Rattle.drm_masters.specs.Ids.{IdMap, id_at, IsNamed, IsUnnamed, AreIdsOf, owner_to_be}
use Rattle.drm_masters.proofs.MasterChains.{IsFresh, others_apart, Older}
use Rattle.drm_masters.proofs.table.MasterTable.insert.Goals as goal

-- with more room, and other groups of the same lessees
roomy : (a : Inside) → IsTable a → (slab : Slab Master) (capacity : _) → slab ≡ record a.kept { capacity = capacity }
    → (groups : GroupMap) → AreLesseesOf (items_of a) (has groups) → (ids : IdMap) → AreIdsOf (items_of a) (id_at ids)
    → IsTable (record a { kept = slab; lessees = groups; ids = ids })
roomy a t slab capacity is groups are ids named =
    subst (λ (s : Slab Master). IsTable (record a { kept = s; lessees = groups; ids = ids })) (sym is)
    (record { keyed = more_room a.keys.items a.kept t.keyed capacity; fits = t.fits; lessees = are; ids = named })

pub invariant_of-self : goal.invariant_of-self
invariant_of-self c =
    roomy c.self.inside c.self.invariant c.reserve.new.self c.reserve.new.self.capacity c.in-Err.ensures.rest_kept
    c.self.inside.lessees c.self.invariant.lessees c.self.inside.ids c.self.invariant.ids

pub name-requires : goal.name-requires
name-requires c =
    let ms = items_of c.self.inside in
    let other_id = rw (← c.self.view_is) at c.requires.other_id in
    let up = rise key_of step_number_of nothing c.self.inside.keys.items c.self.inside.kept c.self.invariant.keyed in
    let owner : c.owner_to_be-owner.result ≡ owner_to_be ms c.args.master =
    c.owner_to_be-owner.ensures ∙ ap (λ (v : MasterRows). owner_to_be v.items c.args.master) (sym c.self.view_is) in
    λ l e. subst (λ o. id_at c.self.inside.ids o c.args.master.lessee_id ≡ None) (sym owner)
    (vacant_id ms up c.args.master (id_at c.self.inside.ids) c.self.invariant.ids other_id l e)

pub invariant_of-self-in-Err-name : goal.invariant_of-self-in-Err-name
invariant_of-self-in-Err-name c =
    roomy c.self.inside c.self.invariant c.reserve.new.self c.reserve.new.self.capacity c.in_default.ensures.rest_kept
    c.self.inside.lessees c.self.invariant.lessees c.name.new.ids
    (subst (λ (m : IdMap). AreIdsOf (items_of c.self.inside) (id_at m)) (sym c.in-Err-name.ensures.err) c.self.invariant.ids)

pub invariant_of-self-in-Err-list : goal.invariant_of-self-in-Err-list
invariant_of-self-in-Err-list c =
    let ms = items_of c.self.inside in
    let up = rise key_of step_number_of nothing c.self.inside.keys.items c.self.inside.kept c.self.invariant.keyed in
    let unused = rw (← c.self.view_is) at c.requires.absent in
    let fresh : IsFresh (items_of c.self.inside) c.args.master.step_number = (up, unused) in
    let older : Older ms = rw (← c.self.view_is) at c.requires.older in
    let there = rw (← c.self.view_is) at c.requires.there in
    let other_id = rw (← c.self.view_is) at c.requires.other_id in
    let free = free_id ms up c.args.master (id_at c.self.inside.ids) c.self.invariant.ids other_id in
    let owner : c.owner_to_be-owner.result ≡ owner_to_be ms c.args.master =
    c.owner_to_be-owner.ensures ∙ ap (λ (v : MasterRows). owner_to_be v.items c.args.master) (sym c.self.view_is) in
    let named : IsNamed (id_at c.self.inside.ids) (owner_to_be ms c.args.master) c.args.master.lessor c.args.master.lessee_id c.args.master.step_number (id_at c.name.new.ids) =
    subst
    (λ o. IsNamed (id_at c.self.inside.ids) o c.args.master.lessor c.args.master.lessee_id c.args.master.step_number (id_at c.name.new.ids))
    owner c.in_default-name.ensures.ok in
    let unnamed : IsUnnamed (id_at c.name.new.ids) (owner_to_be ms c.args.master) c.args.master.lessor c.args.master.lessee_id (id_at c.unname.new.ids) =
    subst
    (λ o. IsUnnamed (id_at c.name.new.ids) o c.args.master.lessor c.args.master.lessee_id (id_at c.unname.new.ids))
    owner c.unname.ensures in
    let taken_back =
    come_back ms c.args.master fresh older there (id_at c.self.inside.ids) c.self.invariant.ids free
    (id_at c.name.new.ids) (id_at c.unname.new.ids) named unnamed in
    roomy c.self.inside c.self.invariant c.reserve.new.self c.reserve.new.self.capacity c.in_default.ensures.rest_kept
    c.list.new.lessees
    (subst (λ (l : GroupMap). AreLesseesOf ms (has l)) (sym c.in-Err-list.ensures.err) c.self.invariant.lessees)
    c.unname.new.ids taken_back

pub put_new-requires : goal.put_new-requires
put_new-requires c =
    let up = rise key_of step_number_of nothing c.self.inside.keys.items c.self.inside.kept c.self.invariant.keyed in
    let unused = rw (← c.self.view_is) at c.requires.absent in
    let fresh : IsFresh (items_of c.self.inside) c.args.master.step_number = (up, unused) in
    record { vacant = vacant key_of step_number_of nothing c.self.inside.keys.items c.self.inside.kept c.self.invariant.keyed c.args.master.step_number (others_apart (items_of c.self.inside) c.args.master.step_number fresh) }

pub invariant_of-self-in-Err-put_new : goal.invariant_of-self-in-Err-put_new
invariant_of-self-in-Err-put_new c =
    let ms = items_of c.self.inside in
    let up = rise key_of step_number_of nothing c.self.inside.keys.items c.self.inside.kept c.self.invariant.keyed in
    let unused = rw (← c.self.view_is) at c.requires.absent in
    let fresh : IsFresh (items_of c.self.inside) c.args.master.step_number = (up, unused) in
    let older : Older ms = rw (← c.self.view_is) at c.requires.older in
    let there = rw (← c.self.view_is) at c.requires.there in
    let other_id = rw (← c.self.view_is) at c.requires.other_id in
    let free = free_id ms up c.args.master (id_at c.self.inside.ids) c.self.invariant.ids other_id in
    let owner : c.owner_to_be-owner.result ≡ owner_to_be ms c.args.master =
    c.owner_to_be-owner.ensures ∙ ap (λ (v : MasterRows). owner_to_be v.items c.args.master) (sym c.self.view_is) in
    let named : IsNamed (id_at c.self.inside.ids) (owner_to_be ms c.args.master) c.args.master.lessor c.args.master.lessee_id c.args.master.step_number (id_at c.name.new.ids) =
    subst
    (λ o. IsNamed (id_at c.self.inside.ids) o c.args.master.lessor c.args.master.lessee_id c.args.master.step_number (id_at c.name.new.ids))
    owner c.in_default-name.ensures.ok in
    let unnamed : IsUnnamed (id_at c.name.new.ids) (owner_to_be ms c.args.master) c.args.master.lessor c.args.master.lessee_id (id_at c.unname-in-Err-put_new.new.ids) =
    subst
    (λ o. IsUnnamed (id_at c.name.new.ids) o c.args.master.lessor c.args.master.lessee_id (id_at c.unname-in-Err-put_new.new.ids))
    owner c.unname-in-Err-put_new.ensures in
    let taken_back =
    come_back ms c.args.master fresh older there (id_at c.self.inside.ids) c.self.invariant.ids free
    (id_at c.name.new.ids) (id_at c.unname-in-Err-put_new.new.ids) named unnamed in
    rw c.in-Err-put_new.ensures.err
    (roomy c.self.inside c.self.invariant c.reserve.new.self c.reserve.new.self.capacity c.in_default.ensures.rest_kept c.unlist.new.lessees
    (back ms c.args.master fresh (has c.self.inside.lessees) (has c.list.new.lessees) (has c.unlist.new.lessees) c.self.invariant.lessees c.in_default-list.ensures.ok c.unlist.ensures) c.unname-in-Err-put_new.new.ids taken_back)

pub invariant_of-self-2 : goal.invariant_of-self-2
invariant_of-self-2 c =
    let ms = items_of c.self.inside in
    let up = rise key_of step_number_of nothing c.self.inside.keys.items c.self.inside.kept c.self.invariant.keyed in
    let unused = rw (← c.self.view_is) at c.requires.absent in
    let fresh : IsFresh (items_of c.self.inside) c.args.master.step_number = (up, unused) in
    let older : Older ms = rw (← c.self.view_is) at c.requires.older in
    let there = rw (← c.self.view_is) at c.requires.there in
    let other_id = rw (← c.self.view_is) at c.requires.other_id in
    let free = free_id ms up c.args.master (id_at c.self.inside.ids) c.self.invariant.ids other_id in
    let owner : c.owner_to_be-owner.result ≡ owner_to_be ms c.args.master =
    c.owner_to_be-owner.ensures ∙ ap (λ (v : MasterRows). owner_to_be v.items c.args.master) (sym c.self.view_is) in
    let named : IsNamed (id_at c.self.inside.ids) (owner_to_be ms c.args.master) c.args.master.lessor c.args.master.lessee_id c.args.master.step_number (id_at c.name.new.ids) =
    subst
    (λ o. IsNamed (id_at c.self.inside.ids) o c.args.master.lessor c.args.master.lessee_id c.args.master.step_number (id_at c.name.new.ids))
    owner c.in_default-name.ensures.ok in
    let x : Master = keyed_as c.from_number-key.result c.args.master in
    let number : c.insert_reserved-number.result ≡ c.vacant_key-number.result =
    c.insert_reserved-number.ensures.key ∙ ap (λ s. s.vacant_key) c.in_default.ensures.rest_kept
    ∙ sym c.vacant_key-number.ensures.value in
    let more =
    grown key_of step_number_of nothing c.self.inside.kept c.reserve.new.self c.insert_reserved-number.new.self
    c.reserve.new.self.capacity c.vacant_key-number.result c.insert_reserved-number.result x
    c.in_default.ensures.rest_kept number c.insert_reserved-number.ensures.updates in
    let keys = fin.insert c.self.inside.keys.items c.args.master.step_number c.vacant_key-number.result in
    let slab = c.insert_reserved-number.new.self in
    let all : rows_in nothing slab (fin.entries keys) ≡ placed master_before x (items_of c.self.inside) =
    created key_of step_number_of nothing c.self.inside.keys.items c.self.inside.kept c.self.invariant.keyed
    c.args.master.step_number c.vacant_key-number.result x slab refl c.from_number-key.ensures
    c.vacant_key-number.ensures.vacant more (others_apart (items_of c.self.inside) c.args.master.step_number fresh)
    in
    rw c.in_default-put_new.ensures.ok
    (record {
      keyed =
          created_keyed key_of step_number_of nothing c.self.inside.keys.items c.self.inside.kept c.self.invariant.keyed
          c.args.master.step_number c.vacant_key-number.result x slab refl c.from_number-key.ensures
          c.vacant_key-number.ensures.vacant more
          (others_apart (items_of c.self.inside) c.args.master.step_number fresh);
      fits =
          subst (λ (l : List Master). AllByRecursion (λ (y : Master). y.step_number ≤ 4294967295) l) (sym all)
          (all_placed (λ (y : Master). y.step_number ≤ 4294967295) (λ (y : Master). master_before y x) x (items_of c.self.inside) c.put_new.ensures.fits c.self.invariant.fits);
      lessees =
          subst (λ (l : List Master). AreLesseesOf l (has c.list.new.lessees)) (sym all)
          (listed (items_of c.self.inside) x fresh (has c.self.inside.lessees) (has c.list.new.lessees) c.self.invariant.lessees c.in_default-list.ensures.ok);
      ids =
          subst (λ (l : List Master). AreIdsOf l (id_at c.name.new.ids)) (sym all)
          (come ms x fresh older there (id_at c.self.inside.ids) c.self.invariant.ids free (id_at c.name.new.ids) named);
    })

pub returns-clause-ok : goal.returns-clause-ok
returns-clause-ok c =
    let up = rise key_of step_number_of nothing c.self.inside.keys.items c.self.inside.kept c.self.invariant.keyed in
    let unused = rw (← c.self.view_is) at c.requires.absent in
    let fresh : IsFresh (items_of c.self.inside) c.args.master.step_number = (up, unused) in
    let x : Master = keyed_as c.from_number-key.result c.args.master in
    let number : c.insert_reserved-number.result ≡ c.vacant_key-number.result =
    c.insert_reserved-number.ensures.key ∙ ap (λ s. s.vacant_key) c.in_default.ensures.rest_kept
    ∙ sym c.vacant_key-number.ensures.value in
    rw (← c.self.view_is, c.in_default-put_new.ensures.ok)
    (created key_of step_number_of nothing c.self.inside.keys.items c.self.inside.kept c.self.invariant.keyed c.args.master.step_number c.vacant_key-number.result x c.insert_reserved-number.new.self refl c.from_number-key.ensures c.vacant_key-number.ensures.vacant
    (grown key_of step_number_of nothing c.self.inside.kept c.reserve.new.self c.insert_reserved-number.new.self c.reserve.new.self.capacity c.vacant_key-number.result c.insert_reserved-number.result x c.in_default.ensures.rest_kept number c.insert_reserved-number.ensures.updates)
    (others_apart (items_of c.self.inside) c.args.master.step_number fresh))

pub returns-clause-free : goal.returns-clause-free
returns-clause-free c =
    rw (← c.self.view_is, c.from_number-key.ensures)
    (by_key key_of step_number_of nothing c.self.inside.keys.items c.self.inside.kept c.self.invariant.keyed c.vacant_key-number.result ∙ c.vacant_key-number.ensures.vacant)
