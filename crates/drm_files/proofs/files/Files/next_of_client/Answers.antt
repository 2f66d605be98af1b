use Rattle.std.proofs.Common.{◌≡◌, ◌+◌, ◌==◌, ◌&&◌, nat_le, nat_lt, find, slice_get, Some, ap, sym, ◌∙◌, arith}
use Rattle.std.specs.FinMap as fin
use Rattle.drm_files.specs.Files.{FileLists}
use Rattle.drm_files.specs.Records.{rows_in}
use Rattle.drm_files.specs.declared.rows.FileHandle.{FileHandle}
use Rattle.drm_files.proofs.RecordFacts.{holds_in_order}
use Rattle.drm_files.proofs.Walks.{from_past}
use Rattle.drm_files.proofs.After.{first_row, next_found, next_of_nobody, none_past}
use Rattle.drm_files.proofs.files.Files.next_of_client.Goals as goal

-- the client is not open

pub returns-in_err-record-clause-rise : goal.returns-in_err-record-clause-rise
returns-in_err-record-clause-rise c =
    let inside = c.self.inside in
    rw (← c.self.view_is) (holds_in_order inside.open_limit inside.last_handle inside.clients.items)

pub returns-in_err-record-clause-fit : goal.returns-in_err-record-clause-fit
returns-in_err-record-clause-fit c =
    rw (← c.self.view_is) (none_past c.self.inside.clients.items c.in_err-record.ensures.bound)

pub returns-in_err-record-clause-next : goal.returns-in_err-record-clause-next
returns-in_err-record-clause-next c =
    c.from_residual.ensures
    ∙ sym (next_of_nobody c.self.inside.clients.items c.args.client c.args.handle (sym c.in_err-record.ensures.value))
    ∙ ap (λ (l : FileLists). find (λ row. (row.client == c.args.client) && nat_lt c.args.handle row.handle) l.holds) c.self.view_is

-- the handle is the last that there can be

pub returns-in_err-above-clause-rise : goal.returns-in_err-above-clause-rise
returns-in_err-above-clause-rise c =
    let inside = c.self.inside in
    rw (← c.self.view_is) (holds_in_order inside.open_limit inside.last_handle inside.clients.items)

pub returns-in_err-above-clause-fit : goal.returns-in_err-above-clause-fit
returns-in_err-above-clause-fit c =
    rw (← c.self.view_is) (none_past c.self.inside.clients.items c.in_ok-record.ensures.bound)

pub returns-in_err-above-clause-next : goal.returns-in_err-above-clause-next
returns-in_err-above-clause-next c =
    let m = c.self.inside.clients.items in
    let r = c.in_ok-record.record.now in
    let found : fin.get m c.args.client ≡ Some r = sym c.in_ok-record.ensures.value in
    let table = c.self.invariant.tables c.args.client r found in
    let past =
    from_past r.handles.slots (c.args.handle + 1)
    (λ k there. omega (arith, table.high k there, c.self.invariant.last_high))
    (omega (arith, c.in_err-above.ensures)) in
    c.from_residual-in_err-above.ensures
    ∙ sym (next_found m c.args.client c.args.handle r found ∙ first_row c.args.client (c.args.handle + 1) (fin.entries r.handles.slots) ∙ ap (λ es. slice_get (rows_in c.args.client es) 0) past)
    ∙ ap (λ (l : FileLists). find (λ row. (row.client == c.args.client) && nat_lt c.args.handle row.handle) l.holds) c.self.view_is

-- the handles of the client from the next number on

pub returns-clause-rise : goal.returns-clause-rise
returns-clause-rise c =
    let inside = c.self.inside in
    rw (← c.self.view_is) (holds_in_order inside.open_limit inside.last_handle inside.clients.items)

pub returns-clause-fit : goal.returns-clause-fit
returns-clause-fit c = rw (← c.self.view_is) (none_past c.self.inside.clients.items c.in_ok-record.ensures.bound)

pub returns-clause-next : goal.returns-clause-next
returns-clause-next c =
    let m = c.self.inside.clients.items in
    let r = c.in_ok-record.record.now in
    let above : c.in_ok-above.above ≡ c.args.handle + 1 = c.in_ok-above.ensures.1 in
    c.first_held.ensures
    ∙ ap (λ n. find (λ (row : FileHandle). nat_le n row.handle) (rows_in c.args.client (fin.entries r.handles.slots))) above
    ∙ sym (next_found m c.args.client c.args.handle r (sym c.in_ok-record.ensures.value))
    ∙ ap (λ (l : FileLists). find (λ row. (row.client == c.args.client) && nat_lt c.args.handle row.handle) l.holds) c.self.view_is
