use Rattle.std.proofs.Common.{◌∙◌, ap, sym, refl, arith}
use Rattle.drm_index_array.specs.Slots.{Fits}
use Rattle.drm_index_array.specs.declared.tree.Slot.TheVariants.{Child}
use Rattle.drm_index_array.proofs.SlotLemmas.{slot_is}
use Rattle.drm_index_array.proofs.EditLemmas.{used_set, first_spot, edited_sound, read_set, hang_gets}
use Rattle.drm_index_array.proofs.CountLemmas.{part_of_count, new_count, new_count_fits}
use Rattle.drm_index_array.proofs.tree.Node.hang.Goals as goal

pub overflow_sub-others : goal.overflow_sub-others
overflow_sub-others g c =
    let here = first_spot c.self.inside.height c.self.inside.slots.items _ _ c.self.invariant.sound c.self.view_is in
    let was = slot_is here _ c.index.result.now c.index.ensures refl in
    part_of_count _ _ c.self.invariant (omega arith) _ was c.count_below.result c.count_below.ensures

pub overflow_add-self : goal.overflow_add-self
overflow_add-self g c =
    let here = first_spot c.self.inside.height c.self.inside.slots.items _ _ c.self.invariant.sound c.self.view_is in
    let was = slot_is here _ c.index.result.now c.index.ensures refl in
    let now =
    read_set c.self.inside.slots.items 0 (Child c.args.child) c.index-2.result.now here.in_range c.index-2.ensures
    in
    let count = rw now at c.count_below-2.ensures in
    let fits : Fits c.self.inside.height (Child c.args.child) =
    c.requires.lower ∙ sym (ap (λ t. t.height) c.self.view_is) in
    omega
    (arith, new_count_fits _ _ c.self.invariant (omega arith) _ was c.count_below.result c.count_below.ensures (Child c.args.child) fits c.count_below-2.result count)

pub invariant_of-self : goal.invariant_of-self
invariant_of-self g c =
    let here = first_spot c.self.inside.height c.self.inside.slots.items _ _ c.self.invariant.sound c.self.view_is in
    let was = slot_is here _ c.index.result.now c.index.ensures refl in
    let now =
    read_set c.self.inside.slots.items 0 (Child c.args.child) c.index-2.result.now here.in_range c.index-2.ensures
    in
    let count = rw now at c.count_below-2.ensures in
    let fits : Fits c.self.inside.height (Child c.args.child) =
    c.requires.lower ∙ sym (ap (λ t. t.height) c.self.view_is) in
    let written =
    read_set c.self.inside.slots.items 0 (Child c.args.child) c.index-3.result.now here.in_range c.index-3.ensures
    in
    record {
      sound =
          edited_sound here _ _ _ c.self.invariant.sound fits c.refreshed-self-inside.ensures.words
          (rw written at c.refreshed-self-inside.ensures.tells);
      counted =
          new_count _ _ c.self.invariant (omega arith) _ was c.count_below.result c.count_below.ensures
          (Child c.args.child) fits c.count_below-2.result count;
      used =
          used_set c.self.inside.slots.items 0 (Child c.args.child) here.in_range c.self.invariant.used c.requires.used;
    }

pub returns-clause-items : goal.returns-clause-items
returns-clause-items g c = hang_gets _ c.self.invariant.sound c.self.view_is c.args.child
