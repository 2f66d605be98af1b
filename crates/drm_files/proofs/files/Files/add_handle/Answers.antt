use Rattle.std.proofs.Common.{Some, None, refl, ap, sym, ◌∙◌}
use Rattle.std.proofs.lemmas.Option.{none-some}
use Rattle.drm_id_alloc.specs.Table.{with_entry}
use Rattle.drm_files.specs.declared.files.Held.{Held}
use Rattle.drm_files.specs.ExportOrders.{AreInOrder}
use Rattle.drm_files.specs.Files.{FileLists, hold, with_handle_row}
use Rattle.drm_files.specs.Records.{lists_of}
use Rattle.drm_files.proofs.ListsAfterCalls.{added, rewritten}
use Rattle.drm_files.proofs.Removal.{taken_back}
use Rattle.drm_files.proofs.RecordFacts.{nobody, free_is, unchanged, are-unchanged, are-kept, are-put, entry_twice, entry_there, with_both}
use Rattle.drm_files.proofs.files.Files.add_handle.Goals.{in-Some-export_order, in_default-export_order}
use Rattle.drm_files.proofs.files.Files.add_handle.Goals as goal

pub unreachable-requires : goal.unreachable-requires
unreachable-requires c =
    let inside = c.self.inside in
    let open_client = rw (← c.self.view_is) at c.requires.open_client in
    nobody inside.open_limit inside.last_handle inside.clients.items c.args.client open_client
    c.in_default.ensures.value

pub invariant_of-self : goal.invariant_of-self
invariant_of-self c =
    let inside = c.self.inside in
    are-unchanged inside.open_limit inside.last_handle inside.clients.items c.args.client c.in-Some.record.now
    c.add.new.self (sym c.in-Some.ensures.value) c.self.invariant c.in-Err-Full.ensures.err

pub returns-in-Err-Full-clause-err : goal.returns-in-Err-Full-clause-err
returns-in-Err-Full-clause-err c =
    let inside = c.self.inside in
    ap (lists_of inside.open_limit inside.last_handle)
    (unchanged inside.open_limit inside.last_handle inside.clients.items c.args.client c.in-Some.record.now c.add.new.self (sym c.in-Some.ensures.value) c.in-Err-Full.ensures.err)
    ∙ c.self.view_is

pub returns-in-Err-Full-clause-full : goal.returns-in-Err-Full-clause-full
returns-in-Err-Full-clause-full c =
    let inside = c.self.inside in
    let found = sym c.in-Some.ensures.value in
    let free =
    free_is inside.open_limit inside.last_handle inside.clients.items c.args.client c.in-Some.record.now found
    (c.self.invariant.tables c.args.client c.in-Some.record.now found) in
    let full = rw c.in-Err-Full.field-0-is at c.in-Err-Full.ensures.full in
    rw (← c.self.view_is) ((λ _. free ∙ full.0 tt), λ _. tt)

pub invariant_of-self-in-Err-NoMemory : goal.invariant_of-self-in-Err-NoMemory
invariant_of-self-in-Err-NoMemory c =
    let inside = c.self.inside in
    are-unchanged inside.open_limit inside.last_handle inside.clients.items c.args.client c.in-Some.record.now
    c.add.new.self (sym c.in-Some.ensures.value) c.self.invariant c.in-Err-NoMemory.ensures.err

pub returns-in-Err-NoMemory-clause-err : goal.returns-in-Err-NoMemory-clause-err
returns-in-Err-NoMemory-clause-err c =
    let inside = c.self.inside in
    ap (lists_of inside.open_limit inside.last_handle)
    (unchanged inside.open_limit inside.last_handle inside.clients.items c.args.client c.in-Some.record.now c.add.new.self (sym c.in-Some.ensures.value) c.in-Err-NoMemory.ensures.err)
    ∙ c.self.view_is

pub returns-in-Err-NoMemory-clause-full : goal.returns-in-Err-NoMemory-clause-full
returns-in-Err-NoMemory-clause-full c =
    let inside = c.self.inside in
    let found = sym c.in-Some.ensures.value in
    let free =
    free_is inside.open_limit inside.last_handle inside.clients.items c.args.client c.in-Some.record.now found
    (c.self.invariant.tables c.args.client c.in-Some.record.now found) in
    let full = rw c.in-Err-NoMemory.field-0-is at c.in-Err-NoMemory.ensures.full in
    rw (← c.self.view_is) ((λ none. absurd none), λ none. full.1 (sym free ∙ none))

pub returns-clause-given : goal.returns-clause-given
returns-clause-given c =
    let inside = c.self.inside in
    let found = sym c.in-Some.ensures.value in
    let free =
    free_is inside.open_limit inside.last_handle inside.clients.items c.args.client c.in-Some.record.now found
    (c.self.invariant.tables c.args.client c.in-Some.record.now found) in
    rw (← c.self.view_is) (free ∙ c.in-Ok.ensures.given)

-- the handle that was assigned is taken back

pub invariant_of-self-in-Err : goal.invariant_of-self-in-Err
invariant_of-self-in-Err c =
    let inside = c.self.inside in
    let r = c.in-Some.record.now in
    let found = sym c.in-Some.ensures.value in
    let back =
    taken_back r.handles c.add.new.self c.remove-held.new.self c.in-Ok.handle
    (record { object = c.args.object; export_order = None }) c.in-Ok.ensures.fresh c.in-Ok.ensures.ok
    c.remove-held.ensures.after in
    let order : AreInOrder c.remove-held.new.self.slots c.make_room.new.self =
    rw back (c.in-Err.ensures.err r.handles.slots (c.self.invariant.in_order c.args.client r found)) in
    are-kept inside.open_limit inside.last_handle inside.clients.items c.args.client r c.remove-held.new.self found
    c.self.invariant c.make_room.new.self order back

pub returns-in-Err-clause-err : goal.returns-in-Err-clause-err
returns-in-Err-clause-err c =
    let inside = c.self.inside in
    let back =
    taken_back c.in-Some.record.now.handles c.add.new.self c.remove-held.new.self c.in-Ok.handle
    (record { object = c.args.object; export_order = None }) c.in-Ok.ensures.fresh c.in-Ok.ensures.ok
    c.remove-held.ensures.after in
    rewritten inside.open_limit inside.last_handle inside.clients.items c.args.client c.in-Some.record.now
    (with_both c.in-Some.record.now c.remove-held.new.self c.make_room.new.self) (sym c.in-Some.ensures.value) refl
    (ap (λ t. t.slots) back)
    ∙ c.self.view_is

pub returns-in-Err-clause-full : goal.returns-in-Err-clause-full
returns-in-Err-clause-full c =
    let inside = c.self.inside in
    let found = sym c.in-Some.ensures.value in
    let free =
    free_is inside.open_limit inside.last_handle inside.clients.items c.args.client c.in-Some.record.now found
    (c.self.invariant.tables c.args.client c.in-Some.record.now found) in
    rw (← c.self.view_is)
    ((λ none. absurd none), λ none. none-some c.in-Ok.handle (sym none ∙ free ∙ c.in-Ok.ensures.given))

-- it has room, and its place where it is assigned an export order

pub give_order-requires-clause-in_order : goal.give_order-requires-clause-in_order
give_order-requires-clause-in_order c =
    let r = c.in-Some.record.now in
    rw (ap (λ t. t.slots) c.in-Ok.ensures.ok)
    (c.in_default-make_room.ensures.ok r.handles.slots (c.self.invariant.in_order c.args.client r (sym c.in-Some.ensures.value)) c.in-Ok.ensures.fresh)

pub give_order-requires-clause-unplaced : goal.give_order-requires-clause-unplaced
give_order-requires-clause-unplaced c =
    rw c.in-Ok.ensures.ok
    (entry_there c.in-Some.record.now.handles c.in-Ok.handle (record { object = c.args.object; export_order = None }))

pub invariant_of-self-2 : goal.invariant_of-self-2
invariant_of-self-2 c =
    let inside = c.self.inside in
    let r = c.in-Some.record.now in
    let found = sym c.in-Some.ensures.value in
    let h = c.in-Ok.handle in
    elim c.match-export_order.branch [
      | in-Some-export_order w ↦
          let placed : Held =
          record { object = c.args.object; export_order = Some w.in-Some-export_order.export_order } in
          let handles =
          w.give_order.ensures.handles ∙ ap (λ t. with_entry t h placed) c.in-Ok.ensures.ok
          ∙ entry_twice r.handles h (record { object = c.args.object; export_order = None }) placed in
          rw w.self-inside-is
          (are-put inside.open_limit inside.last_handle inside.clients.items c.args.client r r.handles found c.self.invariant w.give_order.new.self h placed c.in-Ok.ensures.low c.in-Ok.ensures.high handles w.give_order.ensures.in_order)
      | in_default-export_order w ↦
          let order : AreInOrder c.add.new.self.slots c.make_room.new.self =
          rw (ap (λ t. t.slots) c.in-Ok.ensures.ok)
          (c.in_default-make_room.ensures.ok r.handles.slots (c.self.invariant.in_order c.args.client r found) c.in-Ok.ensures.fresh)
          in
          rw w.self-inside-is
          (are-put inside.open_limit inside.last_handle inside.clients.items c.args.client r r.handles found c.self.invariant (with_both r c.add.new.self c.make_room.new.self) h (record { object = c.args.object; export_order = None }) c.in-Ok.ensures.low c.in-Ok.ensures.high c.in-Ok.ensures.ok order)
    ]

pub returns-clause-ok : goal.returns-clause-ok
returns-clause-ok c =
    let inside = c.self.inside in
    let r = c.in-Some.record.now in
    let found = sym c.in-Some.ensures.value in
    let h = c.in-Ok.handle in
    elim c.match-export_order.branch [
      | in-Some-export_order w ↦
          let placed : Held =
          record { object = c.args.object; export_order = Some w.in-Some-export_order.export_order } in
          let handles =
          w.give_order.ensures.handles ∙ ap (λ t. with_entry t h placed) c.in-Ok.ensures.ok
          ∙ entry_twice r.handles h (record { object = c.args.object; export_order = None }) placed in
          rw w.self-inside-is (
          added inside.open_limit inside.last_handle inside.clients.items c.args.client r w.give_order.new.self h placed
          found c.in-Ok.ensures.fresh w.give_order.ensures.flags (ap (λ t. t.slots) handles)
          ∙ ap
          (λ (l : FileLists). with_handle_row l (hold c.args.client h c.args.object (Some w.in-Some-export_order.export_order)))
          c.self.view_is
          ∙ ap (λ o. with_handle_row c.args.self.now (hold c.args.client h c.args.object o))
          (sym w.in-Some-export_order.is)
          )
      | in_default-export_order w ↦
          rw w.self-inside-is (
          added inside.open_limit inside.last_handle inside.clients.items c.args.client r
          (with_both r c.add.new.self c.make_room.new.self) h (record { object = c.args.object; export_order = None })
          found c.in-Ok.ensures.fresh refl (ap (λ t. t.slots) c.in-Ok.ensures.ok)
          ∙ ap (λ (l : FileLists). with_handle_row l (hold c.args.client h c.args.object None)) c.self.view_is
          ∙ ap (λ o. with_handle_row c.args.self.now (hold c.args.client h c.args.object o))
          (sym w.in_default-export_order.is)
          )
    ]
