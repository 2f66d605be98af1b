use Rattle.std.proofs.Common.{◌≡◌, ◌+◌, ◌-◌, ◌≤◌, drop, length, Some, ap, sym, ◌∙◌, arith}
use Rattle.std.specs.Prelude.{slice_get}
use Rattle.std.proofs.lemmas.Option.{slice_get-get_or}
use Rattle.drm_masters.proofs.Looked.{is_there, next_is}
use Rattle.drm_leases.specs.Masks.{grants_in, objects_in}
use Rattle.drm_leases.proofs.Granting.{grant_here, grant_behind, not_less}
use Rattle.drm_leases.proofs.searches.nth_grant.Goals as goal

pub unreachable-requires : goal.unreachable-requires
unreachable-requires c =
    is_there c.args.granted.now.rows c.loop-at.at (omega (arith, c.loop-at-test.true, c.len-at-end.ensures))
    (sym c.nth.ensures ∙ c.in_default.is)

pub returns-in-Some-get : goal.returns-in-Some-get
returns-in-Some-get c =
    let rows = c.args.granted.now.rows in
    let l = c.loop-at in
    let x = c.in-Some.lease in
    let ids : c.ids.result.now ≡ objects_in x.objects = c.ids.ensures.ids ∙ c.objects_of-objects.ensures in
    let here : slice_get (objects_in x.objects) l.left ≡ Some c.in-Some-get.mode_object.now =
    ap (λ xs. slice_get xs l.left) (sym ids)
    ∙ slice_get-get_or c.ids.result.now l.left c.in-Some-get.mode_object.now c.in-Some-get.ensures.lookup.3.0
    ∙ ap Some (sym c.in-Some-get.ensures.lookup.1) in
    sym
    (l.invariant ∙ ap (λ xs. slice_get (grants_in xs) l.left) (next_is rows l.at x (sym c.nth.ensures ∙ c.in-Some.is)) ∙ grant_here x (grants_in (drop (l.at + 1) rows)) l.left c.in-Some-get.mode_object.now here)

pub loop-at-preserved : goal.loop-at-preserved
loop-at-preserved c =
    let rows = c.args.granted.now.rows in
    let l = c.loop-at in
    let x = c.in-Some.lease in
    let ids : c.ids.result.now ≡ objects_in x.objects = c.ids.ensures.ids ∙ c.objects_of-objects.ensures in
    let ids2 : c.ids-in-loop-at.result.now ≡ objects_in x.objects =
    c.ids-in-loop-at.ensures.ids ∙ c.objects_of-objects.ensures in
    let many : length c.ids-in-loop-at.result.now ≡ length (objects_in x.objects) = ap length ids2 in
    let past : length (objects_in x.objects) ≤ l.left = let le = not_less l.left (length c.ids.result.now) c.in_default-get.ensures.lookup.0 in omega (arith, le, ap length ids) in
    l.invariant ∙ ap (λ xs. slice_get (grants_in xs) l.left) (next_is rows l.at x (sym c.nth.ensures ∙ c.in-Some.is))
    ∙ grant_behind x (grants_in (drop (l.at + 1) rows)) l.left past
    ∙ ap (λ n. slice_get (grants_in (drop (l.at + 1) rows)) (l.left - n)) (sym many)
