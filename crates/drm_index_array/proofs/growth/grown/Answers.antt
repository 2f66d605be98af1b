use Rattle.std.proofs.Common.{ap, arith}
use Rattle.std.specs.FinMap as map
use Rattle.drm_index_array.specs.Tree.{width}
use Rattle.drm_index_array.proofs.RootLemmas.{span_low, higher, hung_beside, lone_taken}
use Rattle.drm_index_array.proofs.growth.grown.Goals as goal
use Rattle.std.proofs.lemmas.Option.{same_Some, none-some}

pub overflow_sub-height : goal.overflow_sub-height
overflow_sub-height g c =
    let higher =
    higher c.args.root.value.height c.in-Ok.top.value.height c.args.index c.requires.beyond c.in-Ok.ensures.within
    in
    omega (arith, higher, c.height.ensures.height, ap (λ t. t.height) c.deref.ensures)

pub raised-requires-clause-high : goal.raised-requires-clause-high
raised-requires-clause-high g c =
    let higher =
    higher c.args.root.value.height c.in-Ok.top.value.height c.args.index c.requires.beyond c.in-Ok.ensures.within
    in
    omega (arith, higher, c.height.ensures.height, ap (λ t. t.height) c.deref.ensures)

pub hang-requires : goal.hang-requires
hang-requires g c =
    let higher =
    higher c.args.root.value.height c.in-Ok.top.value.height c.args.index c.requires.beyond c.in-Ok.ensures.within
    in
    omega
    (arith, higher, c.height.ensures.height, ap (λ t. t.height) c.deref.ensures, ap (λ t. t.height) c.deref_mut.ensures.value, c.in-Ok-raised.ensures.height, c.requires.used, ap map.len c.in-Ok-raised.ensures.items)

pub unreachable-requires : goal.unreachable-requires
unreachable-requires g c =
    none-some c.args.value
    (lone_taken c.args.index c.args.value _ _ _ c.in-None.ensures.value c.deref_mut-in-Err-raised.ensures.value c.in-Ok.ensures.items)

pub returns-in-Ok-raised-clause-items : goal.returns-in-Ok-raised-clause-items
returns-in-Ok-raised-clause-items g c =
    let higher =
    higher c.args.root.value.height c.in-Ok.top.value.height c.args.index c.requires.beyond c.in-Ok.ensures.within
    in
    let low = span_low _ _ higher in
    let gets = rw c.deref_mut.ensures.value at c.hang.ensures.items in
    hung_beside (width c.in-Ok.top.value.height) c.in-Ok.top.value.items _ c.args.root.value.items _
    c.in-Ok-raised.ensures.items (λ k le. c.requires.past k (omega (arith, low, le))) gets c.args.index _
    (c.in-Ok.ensures.least (omega (arith, higher))) c.in-Ok.ensures.items

pub returns-in-Some-clause-returned : goal.returns-in-Some-clause-returned
returns-in-Some-clause-returned g c =
    same_Some _ _
    (lone_taken c.args.index c.args.value _ _ _ c.in-Some.ensures.value c.deref_mut-in-Err-raised.ensures.value c.in-Ok.ensures.items)
