use Rattle.std.proofs.Common.{◌≡◌, ◌==◌, ◌&&◌, false, cond, Some, None, sym, ◌∙◌, ap, arith}
use Rattle.std.specs.Option.{is_some}
use Rattle.std.proofs.lemmas.Bool.Decides.{nat_tests}
use Rattle.drm_trails.specs.Searches.{source_for}
use Rattle.drm_trails.specs.Steps.{givings_of, source_of}
use Rattle.drm_trails.proofs.handles.handle_of.Goals as goal

pub returns : goal.returns
returns c = λ h.
    let giving = c.in_ok-giving.giving in
    let other : (giving.client == c.args.client) ≡ false =
    (let differ = c.if-giving-client.false in grind (arith, nat_tests)) in
    sym
    (ap (λ g. is_some (source_for c.args.client h (givings_of g))) c.in_ok-giving.was ∙ ap (λ b. is_some (cond (b && (giving.handle == h)) (Some (source_of giving.source)) None)) other)
