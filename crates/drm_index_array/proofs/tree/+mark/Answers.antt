use Rattle.std.proofs.Common.{subst, ◌<◌, ◌∙◌, ap, sym, arith, length, rules, set, option_map}
use Rattle.std.proofs.lemmas.List.{length-set, set-set}
use Rattle.std.specs.FinMap as map
use Rattle.drm_index_array.specs.Marked.{with_mark, write_mark}
use Rattle.drm_index_array.specs.Slots.{IsUsed}
use Rattle.drm_index_array.specs.Tree.{Tree}
use Rattle.drm_index_array.proofs.MarkedLemmas.{written_by, entry_written, len-write_mark}
use Rattle.drm_index_array.proofs.SlotLemmas.{spot, slot_is}
use Rattle.drm_index_array.proofs.EditLemmas.{used_set, edited_sound, edit_gets, was_fits, rest_in_slot, read_set}
use Rattle.drm_index_array.proofs.tree.+mark.Goals as goal

pub Node::write_mark-index_mut-requires : goal.Node::write_mark-index_mut-requires
Node::write_mark-index_mut-requires g t c = let lt = (spot _ c.self.invariant.sound c.parts-at.ensures.slot c.parts-at.ensures.rest c.self.view_is c.requires).in_range in search rules

pub Node::write_mark-marked_slot-slot-requires : goal.Node::write_mark-marked_slot-slot-requires
Node::write_mark-marked_slot-slot-requires g t c κs within =
    let here =
    spot _ c.self.invariant.sound c.parts-at.ensures.slot c.parts-at.ensures.rest c.self.view_is c.requires in
    let was = slot_is here _ c.replace-slot.result c.index_mut.ensures.value (sym c.replace-slot.ensures.value) in
    let same = ap (λ t. t.height) c.self.view_is in
    (search rules, (search rules, (was_fits here _ was, (subst IsUsed was (c.self.invariant.used c.parts-at.result.0), rest_in_slot here))))

pub Node::write_mark-index_mut-requires-2 : goal.Node::write_mark-index_mut-requires-2
Node::write_mark-index_mut-requires-2 g t c = let lt = (spot _ c.self.invariant.sound c.parts-at.ensures.slot c.parts-at.ensures.rest c.self.view_is c.requires).in_range in search (rules, length-set)

pub Node::write_mark-index-requires : goal.Node::write_mark-index-requires
Node::write_mark-index-requires g t c = let lt = (spot _ c.self.invariant.sound c.parts-at.ensures.slot c.parts-at.ensures.rest c.self.view_is c.requires).in_range in search (rules, length-set)

pub Node::write_mark-refreshed-self-inside-requires-clause-slot : goal.Node::write_mark-refreshed-self-inside-requires-clause-slot
Node::write_mark-refreshed-self-inside-requires-clause-slot g t c =
    omega
    (arith, (spot _ c.self.invariant.sound c.parts-at.ensures.slot c.parts-at.ensures.rest c.self.view_is c.requires).in_range, c.self.invariant.sound.wide)

pub Node::write_mark-refreshed-self-inside-requires-clause-fits : goal.Node::write_mark-refreshed-self-inside-requires-clause-fits
Node::write_mark-refreshed-self-inside-requires-clause-fits g t c =
    let here =
    spot _ c.self.invariant.sound c.parts-at.ensures.slot c.parts-at.ensures.rest c.self.view_is c.requires in
    let before = set c.self.inside.slots.items c.parts-at.result.0 c.replace-slot.new.dest in
    let lt : c.parts-at.result.0 < length before =
    omega (arith, here.in_range, length-set c.self.inside.slots.items c.parts-at.result.0 c.replace-slot.new.dest)
    in
    rw (read_set before c.parts-at.result.0 _ _ lt c.index.ensures) c.marked_slot-slot.ensures.fits

pub Node::write_mark-invariant_of-self : goal.Node::write_mark-invariant_of-self
Node::write_mark-invariant_of-self g t c =
    let here =
    spot _ c.self.invariant.sound c.parts-at.ensures.slot c.parts-at.ensures.rest c.self.view_is c.requires in
    let was = slot_is here _ c.replace-slot.result c.index_mut.ensures.value (sym c.replace-slot.ensures.value) in
    let before = set c.self.inside.slots.items c.parts-at.result.0 c.replace-slot.new.dest in
    let lt : c.parts-at.result.0 < length before =
    omega (arith, here.in_range, length-set c.self.inside.slots.items c.parts-at.result.0 c.replace-slot.new.dest)
    in
    let now = read_set before c.parts-at.result.0 _ _ lt c.index.ensures in
    let gets =
    edit_gets here _ was _ (option_map (λ s. with_mark s c.args.mark c.args.on)) c.marked_slot-slot.ensures.below in
    let written = written_by _ _ _ c.args.mark c.args.on gets in
    let kept = ap map.len written ∙ len-write_mark c.args.self.now.items c.args.index c.args.mark c.args.on in
    record {
      sound =
          rw (set-set c.self.inside.slots.items c.parts-at.result.0 _ _)
          (edited_sound here _ _ _ c.self.invariant.sound c.marked_slot-slot.ensures.fits c.refreshed-self-inside.ensures.words (rw now at c.refreshed-self-inside.ensures.tells));
      counted =
          rw (set-set c.self.inside.slots.items c.parts-at.result.0 _ _)
          (c.self.invariant.counted ∙ ap (λ (t : Tree g.row.T.Denot). map.len t.items) c.self.view_is ∙ sym kept);
      used =
          rw (set-set c.self.inside.slots.items c.parts-at.result.0 _ _)
          (used_set c.self.inside.slots.items c.parts-at.result.0 _ here.in_range c.self.invariant.used c.marked_slot-slot.ensures.used);
    }

pub Node::write_mark-returns-clause-items : goal.Node::write_mark-returns-clause-items
Node::write_mark-returns-clause-items g t c =
    let here =
    spot _ c.self.invariant.sound c.parts-at.ensures.slot c.parts-at.ensures.rest c.self.view_is c.requires in
    let was = slot_is here _ c.replace-slot.result c.index_mut.ensures.value (sym c.replace-slot.ensures.value) in
    rw (set-set c.self.inside.slots.items c.parts-at.result.0 _ _)
    (written_by _ _ _ c.args.mark c.args.on (edit_gets here _ was _ (option_map (λ s. with_mark s c.args.mark c.args.on)) c.marked_slot-slot.ensures.below))

pub marked_slot-returns-in-Child-clause-used : goal.marked_slot-returns-in-Child-clause-used
marked_slot-returns-in-Child-clause-used g t c =
    let used : 0 < map.len c.in-Child.child.value.items = subst IsUsed c.in-Child.is c.requires.used in
    let kept =
    ap map.len c.write_mark-in-Child.ensures.items
    ∙ ap (λ (t : Tree g.row.T.Denot). map.len (write_mark t.items c.args.rest c.args.mark c.args.on)) c.deref_mut.ensures.value
    ∙ len-write_mark c.in-Child.child.value.items c.args.rest c.args.mark c.args.on in
    omega (arith, used, kept)

pub marked_slot-returns-in-Child-clause-below : goal.marked_slot-returns-in-Child-clause-below
marked_slot-returns-in-Child-clause-below g t c =
    let items = rw c.deref_mut.ensures.value at c.write_mark-in-Child.ensures.items in
    rw c.in-Child.is
    (λ r lt. ap (λ m. map.get m r) items ∙ entry_written c.in-Child.child.value.items c.args.rest c.args.mark c.args.on r)
