use Rattle.std.proofs.Common.{◌≡◌, ◌-◌, ◌+◌, ◌++◌, [], ◌∷◌, take, sym, ap, ◌∙◌, append_assoc, append-nil, length-append, arith}
use Rattle.drm_index_array.specs.Keys.{keys_from}
use Rattle.drm_index_array.proofs.KeysLemmas.{take_next, take_none, take_past}
use Rattle.drm_files.proofs.lists.shown_handles.Goals as goal

-- no handle is left
pub returns-in_default : goal.returns-in_default
returns-in_default c =
    let none =
    take_none c.args.table.now.slots c.loop-turn.at (64 - c.loop-turn._turn) c.in_default.ensures.none_above in
    sym (append-nil c.loop-turn.list) ∙ ap (λ l. c.loop-turn.list ++ l) (sym none) ∙ c.loop-turn.invariant.told

-- the last handle that there can be
pub returns-in_default-checked_add : goal.returns-in_default-checked_add
returns-in_default-checked_add c =
    let m = c.args.table.now.slots in
    let step = take_next m 64 c.loop-turn.at c.in-Some.handle c.loop-turn._turn (omega arith) c.in-Some.ensures.least in
    let past =
    take_past m (c.in-Some.handle + 1) (64 - (c.loop-turn._turn + 1)) c.in-Some.ensures.bound
    (omega (arith, c.in_default-checked_add.ensures)) in
    c.push.ensures ∙ sym (ap (λ l. c.loop-turn.list ++ l) (step ∙ ap (λ l. c.in-Some.handle ∷ l) past))
    ∙ c.loop-turn.invariant.told

pub loop-turn-preserved : goal.loop-turn-preserved
loop-turn-preserved c =
    let m = c.args.table.now.slots in
    let step = take_next m 64 c.loop-turn.at c.in-Some.handle c.loop-turn._turn (omega arith) c.in-Some.ensures.least in
    let above : c.in-Some-checked_add.above ≡ c.in-Some.handle + 1 = c.in-Some-checked_add.ensures.1 in
    record {
      told =
          rw (c.push.ensures, above, append_assoc)
          (ap (λ l. c.loop-turn.list ++ l) (sym step) ∙ c.loop-turn.invariant.told);
      short =
          rw c.push.ensures
          (omega (arith, length-append c.loop-turn.list (c.in-Some.handle ∷ []), c.loop-turn.invariant.short));
    }

-- 64 turns are done
pub returns : goal.returns
returns c =
    let m = c.args.table.now.slots in
    let done : 64 - c.loop-turn._turn ≡ 0 = omega arith in
    sym (append-nil c.loop-turn.list) ∙ ap (λ n. c.loop-turn.list ++ take n (keys_from m c.loop-turn.at)) (sym done)
    ∙ c.loop-turn.invariant.told
