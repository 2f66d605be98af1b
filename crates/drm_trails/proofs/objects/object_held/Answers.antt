use Rattle.std.proofs.Common.{◌≡◌, ◌<◌, length, Some, take, sym, ◌∙◌, ap, arith}
use Rattle.std.specs.Prelude.{slice_get}
use Rattle.std.proofs.lemmas.List.{length-take-le}
use Rattle.std.proofs.lemmas.Option.{get_or_from_slice_get}
use Rattle.drm_trails.specs.Objects.{object_given}
use Rattle.drm_trails.specs.Searches.{Gift, gift_at}
use Rattle.drm_trails.specs.Steps.{history_of}
use Rattle.drm_trails.proofs.HistoryLemmas.{length-history_of}
use Rattle.drm_trails.proofs.ObjectLemmas.{held_by_gift, held_by_none}
use Rattle.drm_trails.proofs.objects.object_held.Goals as goal

pub returns-in_err-giving : goal.returns-in_err-giving
returns-in_err-giving c =
    c.from_residual.ensures
    ∙ sym
    (held_by_none (history_of (take c.args.count c.args.steps.now)) c.args.client c.args.handle (sym c.in_err-giving.ensures.last))

pub returns : goal.returns
returns c =
    let steps = c.args.steps.now in
    let past = c.in_ok-giving.giving.past in
    let history = history_of (take c.args.count steps) in
    let g : Gift = gift_at steps c.in_ok-giving.giving in
    let last = sym c.in_ok-giving.ensures.last in
    let there : past < length steps = c.in_ok-giving.ensures.among in
    let place : length g.past ≡ past =
    length-history_of (take past steps) ∙ length-take-le past steps (omega (arith, there)) in
    let known : slice_get c.args.objects.now past ≡ Some (object_given g.past g.source) =
    ap (slice_get c.args.objects.now) (sym place)
    ∙ c.requires.known.told c.args.count c.args.client c.args.handle g last in
    c.in_ok-object.ensures.lookup.1
    ∙ get_or_from_slice_get c.args.objects.now past (object_given g.past g.source) c.in_ok-object.object.now known
    ∙ sym (held_by_gift history c.args.client c.args.handle g last)
