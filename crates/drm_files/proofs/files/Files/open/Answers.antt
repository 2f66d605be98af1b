use Rattle.std.proofs.Common.{ap, ◌∙◌, arith}
use Rattle.drm_files.specs.Files.{FileLists, with_client, new_flags}
use Rattle.drm_files.specs.Records.{lists_of}
use Rattle.drm_files.proofs.ListsAfterCalls.{opened, length_clients}
use Rattle.drm_files.proofs.RecordFacts.{absent_none, AreRecords-insert, IsTable-empty}
use Rattle.drm_files.proofs.files.Files.open.Goals as goal

pub returns-then-len-self-clause-full : goal.returns-then-len-self-clause-full
returns-then-len-self-clause-full c =
    let inside = c.self.inside in
    let count = length_clients inside.open_limit inside.last_handle inside.clients.items c.args.client in
    rw (← c.self.view_is) ((λ _. omega (arith, c.if-len-self.true, c.len.ensures.len, count)), λ _. tt)

pub returns-in-Err-clause-full : goal.returns-in-Err-clause-full
returns-in-Err-clause-full c =
    let inside = c.self.inside in
    let count = length_clients inside.open_limit inside.last_handle inside.clients.items c.args.client in
    rw (← c.self.view_is)
    ((λ none. absurd none), λ full. omega (arith, full, c.if-len-self.false, c.len.ensures.len, count))

pub invariant_of-self-2 : goal.invariant_of-self-2
invariant_of-self-2 c =
    let inside = c.self.inside in
    rw c.in_default.ensures.ok (AreRecords-insert inside.open_limit inside.last_handle inside.clients.items c.self.invariant c.args.client _ (IsTable-empty inside.last_handle _ (ap (λ t. t.first) c.new.ensures) (ap (λ t. t.last) c.new.ensures) (ap (λ t. t.slots) c.new.ensures))
    (c.new-2.ensures c.new.result.slots (ap (λ t. t.slots) c.new.ensures)))

pub returns-clause-ok : goal.returns-clause-ok
returns-clause-ok c =
    let inside = c.self.inside in
    let absent = rw (← c.self.view_is) at c.requires.absent in
    let none = absent_none inside.open_limit inside.last_handle inside.clients.items c.args.client absent in
    ap (λ a. lists_of inside.open_limit inside.last_handle a.items) c.in_default.ensures.ok
    ∙ opened inside.open_limit inside.last_handle inside.clients.items c.args.client _ none
    (ap (λ t. t.slots) c.new.ensures)
    ∙ ap (λ (l : FileLists). with_client l c.args.client (new_flags c.args.render c.args.root c.args.universal))
    c.self.view_is

pub returns-clause-room : goal.returns-clause-room
returns-clause-room c =
    let inside = c.self.inside in
    let count = length_clients inside.open_limit inside.last_handle inside.clients.items c.args.client in
    rw (← c.self.view_is) (omega (arith, c.if-len-self.false, c.len.ensures.len, count))
