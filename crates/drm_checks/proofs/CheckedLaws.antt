-- A checked file is a script.
use Rattle.std.proofs.Common.{◌≡◌, ℕ, List, [], ◌∷◌, ◌++◌, map, refl, sym, ap, subst, Option, Result, None, Some}
use Rattle.drm_table.specs.declared.answers.Answer.{Answer}
use Rattle.drm_table.specs.declared.apart.Apart.{Apart}
use Rattle.drm_runs.specs.Lines.{IsBare}
use Rattle.drm_runs.specs.Script.{Setting, Place, Script}
use Rattle.drm_runs.specs.Script.Script.{start as script_start, line as script_line}
use Rattle.drm_runs.proofs.LineLemmas.{IsBare-take}
use Rattle.drm_checks.specs.Expectations.{script_part, before, arrow_place}
use Rattle.drm_checks.specs.Differences.{Difference}
use Rattle.drm_checks.specs.Checker.{results_of}
use Rattle.drm_checks.specs.Checks.{Checked}
use Rattle.drm_checks.specs.Checks.Checked.{start, line}

map-push : {X Y : Type 0} (f : X → Y) (xs : List X) (x : X) → map f (xs ++ x ∷ []) ≡ map f xs ++ f x ∷ []
map-push f [] x = refl
map-push f (y ∷ ys) x = ap (λ l. f y ∷ l) (map-push f ys x)

bare_before : (place : Option ℕ) (text : List ℕ) → IsBare text → IsBare (before place text)
bare_before None text bare = bare
bare_before (Some place) text bare = IsBare-take place text bare

-- The lines of a checked file, without their expectations, are a script with results.
pub script_of : {setting : Setting} {lines : List (List ℕ)} {passed : ℕ} {differences : List Difference} {device : Place} {labels : List ℕ}
    → Checked setting lines passed differences device labels
    → (results : List (Result Answer Apart)) × Script setting (map script_part lines) results device labels
script_of start = ([], script_start)
script_of {setting} (line {lines = lines} {device' = device} {labels' = labels} next came c bare uses) =
    let s = script_of c in
    let results : List (Result Answer Apart) = s.0 ++ results_of came in
    (results, subst (λ (ls : List (List ℕ)). Script setting ls results device labels) (sym (map-push script_part lines next)) (script_line s.1 (bare_before (arrow_place next) next bare) uses))
