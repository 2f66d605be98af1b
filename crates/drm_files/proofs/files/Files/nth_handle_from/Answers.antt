use Rattle.std.proofs.Common.{◌≡◌, ◌+◌, length, filter, nat_le, ap, sym, refl, ◌∙◌, arith, slice_get}
use Rattle.std.specs.FinMap as fin
use Rattle.drm_index_array.proofs.Least.{least_some}
use Rattle.drm_files.specs.Files.{FileLists}
use Rattle.drm_files.specs.Records.{holds_in}
use Rattle.drm_files.proofs.Walks.{entries_from, from_none, from_least, from_past, least_there, no_length}
use Rattle.drm_files.proofs.After.{holds_from, fewer}
use Rattle.drm_files.proofs.files.Files.nth_handle_from.Goals as goal

pub loop-turn-init : goal.loop-turn-init
loop-turn-init c =
    let m = c.self.inside.clients.items in
    record { at_position = refl; count = omega (arith, fewer c.args.from (fin.entries m), fin.len-entries m) }

pub returns-in_err-client : goal.returns-in_err-client
returns-in_err-client c =
    let m = c.self.inside.clients.items in
    c.from_residual.ensures
    ∙ ap (λ es. slice_get (holds_in es) c.loop-turn.left)
    (sym (from_none c.self.inside.clients.items c.loop-turn.at c.in_err-client.ensures.none_above))
    ∙ c.loop-turn.invariant.at_position
    ∙ ap (λ l. slice_get l c.args.position) (sym (holds_from c.args.from (fin.entries m)))
    ∙ ap (λ (l : FileLists). slice_get (filter (λ row. nat_le c.args.from row.client) l.holds) c.args.position) c.self.view_is

pub unreachable-requires : goal.unreachable-requires
unreachable-requires c =
    let k = c.in_ok-client.client in
    least_there c.self.inside.clients.items c.loop-turn.at 4294967295 k
    (least_some _ c.loop-turn.at 4294967295 k (sym c.in_ok-client.ensures.least)) c.in_default.ensures.value

pub returns-in-Ok : goal.returns-in-Ok
returns-in-Ok c =
    let m = c.self.inside.clients.items in
    let k = c.in_ok-client.client in
    let first =
    from_least m c.loop-turn.at 4294967295 k c.in-Some.record.now
    (least_some _ c.loop-turn.at 4294967295 k (sym c.in_ok-client.ensures.least)) (sym c.in-Some.ensures.value) in
    sym (c.in-Ok.ensures.ok (holds_in (entries_from m (k + 1))))
    ∙ ap (λ es. slice_get (holds_in es) c.loop-turn.left) (sym first)
    ∙ c.loop-turn.invariant.at_position
    ∙ ap (λ l. slice_get l c.args.position) (sym (holds_from c.args.from (fin.entries m)))
    ∙ ap (λ (l : FileLists). slice_get (filter (λ row. nat_le c.args.from row.client) l.holds) c.args.position) c.self.view_is

pub returns-in_err-at : goal.returns-in_err-at
returns-in_err-at c =
    let m = c.self.inside.clients.items in
    let k = c.in_ok-client.client in
    let first =
    from_least m c.loop-turn.at 4294967295 k c.in-Some.record.now
    (least_some _ c.loop-turn.at 4294967295 k (sym c.in_ok-client.ensures.least)) (sym c.in-Some.ensures.value) in
    let past = from_past m (k + 1) c.in_ok-client.ensures.bound (omega (arith, c.in_err-at.ensures)) in
    c.from_residual-in_err-at.ensures
    ∙ ap (λ es. slice_get (holds_in es) c.in-Err.behind) (sym past)
    ∙ sym (c.in-Err.ensures.err (holds_in (entries_from m (k + 1))))
    ∙ ap (λ es. slice_get (holds_in es) c.loop-turn.left) (sym first)
    ∙ c.loop-turn.invariant.at_position
    ∙ ap (λ l. slice_get l c.args.position) (sym (holds_from c.args.from (fin.entries m)))
    ∙ ap (λ (l : FileLists). slice_get (filter (λ row. nat_le c.args.from row.client) l.holds) c.args.position) c.self.view_is

pub loop-turn-preserved : goal.loop-turn-preserved
loop-turn-preserved c =
    let m = c.self.inside.clients.items in
    let k = c.in_ok-client.client in
    let first =
    from_least m c.loop-turn.at 4294967295 k c.in-Some.record.now
    (least_some _ c.loop-turn.at 4294967295 k (sym c.in_ok-client.ensures.least)) (sym c.in-Some.ensures.value) in
    let above : c.in_ok-at.at ≡ k + 1 = c.in_ok-at.ensures.1 in
    record {
      at_position = rw above
          (sym (c.in-Err.ensures.err (holds_in (entries_from m (k + 1))))
          ∙ ap (λ es. slice_get (holds_in es) c.loop-turn.left) (sym first)
          ∙ c.loop-turn.invariant.at_position);
      count = rw above (omega (arith, ap (λ es. length es) first, c.loop-turn.invariant.count));
    }

pub returns : goal.returns
returns c =
    let m = c.self.inside.clients.items in
    let none =
    no_length (entries_from m c.loop-turn.at)
    (omega (arith, c.loop-turn.invariant.count, c.loop-turn-test.false, c.len-turn-end.ensures.len)) in
    ap (λ es. slice_get (holds_in es) c.loop-turn.left) (sym none)
    ∙ c.loop-turn.invariant.at_position
    ∙ ap (λ l. slice_get l c.args.position) (sym (holds_from c.args.from (fin.entries m)))
    ∙ ap (λ (l : FileLists). slice_get (filter (λ row. nat_le c.args.from row.client) l.holds) c.args.position) c.self.view_is
