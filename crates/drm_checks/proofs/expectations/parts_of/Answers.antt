use Rattle.std.proofs.Common.{◌≡◌, ◌∙◌, Some, ap, drop, sym}
use Rattle.std.proofs.lemmas.List.{drop-drop}
use Rattle.drm_checks.specs.Expectations.{behind, arrow_place}
use Rattle.drm_checks.proofs.expectations.parts_of.Goals as goal

pub returns-in-Some-clause-expected : goal.returns-in-Some-clause-expected
returns-in-Some-clause-expected c =
    let line = c.args.line.now in
    let place : arrow_place line ≡ Some c.in-Some.at = sym c.arrow_place.ensures.place ∙ c.in-Some.is in
    ap Some (c.split_at-in-Some.ensures.back ∙ ap (drop 4) c.split_at.ensures.back ∙ drop-drop 4 c.in-Some.at line)
    ∙ sym (ap (λ p. behind p line) place)
