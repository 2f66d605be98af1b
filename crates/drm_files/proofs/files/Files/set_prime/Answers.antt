use Rattle.std.proofs.Common.{◌≡◌, Some, refl, ap, sym, ◌∙◌}
use Rattle.std.specs.FinMap.{insert}
use Rattle.std.specs.Option.{option_or}
use Rattle.drm_index_array.proofs.FoundInLists.{is_some-false}
use Rattle.drm_index_array.proofs.MarkedLemmas.{insert_same}
use Rattle.drm_files.specs.Files.{FileLists, with_export_order}
use Rattle.drm_files.proofs.ListsAfterCalls.{given}
use Rattle.drm_files.proofs.InOrder.{some_of}
use Rattle.drm_files.proofs.RecordFacts.{nobody, has_none, are-unchanged, are-put}
use Rattle.drm_files.proofs.files.Files.set_prime.Goals as goal

pub unreachable-requires : goal.unreachable-requires
unreachable-requires c =
    let inside = c.self.inside in
    let open_client = rw (← c.self.view_is) at c.requires.open_client in
    nobody inside.open_limit inside.last_handle inside.clients.items c.args.client open_client
    c.in_default.ensures.value

pub unreachable-requires-in_default-get : goal.unreachable-requires-in_default-get
unreachable-requires-in_default-get c =
    let inside = c.self.inside in
    let has = rw (← c.self.view_is) at c.requires.held in
    has_none inside.open_limit inside.last_handle inside.clients.items c.args.client c.args.handle c.in-Some.record.now
    (sym c.in-Some.ensures.value) has c.in_default-get.ensures.value

pub give_order-requires-clause-in_order : goal.give_order-requires-clause-in_order
give_order-requires-clause-in_order c =
    c.self.invariant.in_order c.args.client c.in-Some.record.now (sym c.in-Some.ensures.value)

-- an export order that the handle has stays

pub invariant_of-self : goal.invariant_of-self
invariant_of-self c =
    let inside = c.self.inside in
    are-unchanged inside.open_limit inside.last_handle inside.clients.items c.args.client c.in-Some.record.now
    c.in-Some.record.now.handles (sym c.in-Some.ensures.value) c.self.invariant refl

pub returns-then-is_some : goal.returns-then-is_some
returns-then-is_some c =
    let inside = c.self.inside in
    let old = c.in-Some.record.now in
    let held = c.in-Some-get.held.now in
    let has = some_of held.export_order (sym c.if-is_some.ensures) in
    let slots : old.handles.slots ≡ insert old.handles.slots c.args.handle (record { object = held.object; export_order = option_or held.export_order (Some c.args.export_order) }) =
    sym (ap (λ p. insert old.handles.slots c.args.handle (record { object = held.object; export_order = option_or p (Some c.args.export_order) })) has.1 ∙ ap (λ p. insert old.handles.slots c.args.handle (record { object = held.object; export_order = p })) (sym has.1) ∙ insert_same old.handles.slots c.args.handle held (sym c.in-Some-get.ensures.value)) in
    given inside.open_limit inside.last_handle inside.clients.items c.args.client old old c.args.handle held
    c.args.export_order (sym c.in-Some.ensures.value) (sym c.in-Some-get.ensures.value) refl slots
    ∙ ap (λ (l : FileLists). with_export_order l c.args.client c.args.handle c.args.export_order) c.self.view_is

-- it is assigned one

pub invariant_of-self-2 : goal.invariant_of-self-2
invariant_of-self-2 c =
    let inside = c.self.inside in
    are-put inside.open_limit inside.last_handle inside.clients.items c.args.client c.in-Some.record.now
    c.in-Some.record.now.handles (sym c.in-Some.ensures.value) c.self.invariant c.give_order.new.self c.args.handle _
    c.in-Some-get.ensures.low c.in-Some-get.ensures.high c.give_order.ensures.handles c.give_order.ensures.in_order

pub returns : goal.returns
returns c =
    let inside = c.self.inside in
    let old = c.in-Some.record.now in
    let held = c.in-Some-get.held.now in
    let none = is_some-false held.export_order (sym c.if-is_some.ensures) in
    let slots : c.give_order.new.self.handles.slots ≡ insert old.handles.slots c.args.handle (record { object = held.object; export_order = option_or held.export_order (Some c.args.export_order) }) =
    ap (λ t. t.slots) c.give_order.ensures.handles ∙ sym (ap (λ p. insert old.handles.slots c.args.handle (record { object = held.object; export_order = option_or p (Some c.args.export_order) })) none) in
    given inside.open_limit inside.last_handle inside.clients.items c.args.client old c.give_order.new.self
    c.args.handle held c.args.export_order (sym c.in-Some.ensures.value) (sym c.in-Some-get.ensures.value)
    c.give_order.ensures.flags slots
    ∙ ap (λ (l : FileLists). with_export_order l c.args.client c.args.handle c.args.export_order) c.self.view_is
