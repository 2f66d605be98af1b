-- Where ` -> ` stands in a line.
use Rattle.std.proofs.Common.{◌≡◌, ℕ, ◌+◌, ◌<◌, ◌∙◌, List, [], ◌∷◌, length, drop, refl, ap, arith, Bool, true, false, if◌then◌else◌, Some, length-drop}
use Rattle.std.proofs.lemmas.List.{drop-drop}
use Rattle.drm_checks.specs.Expectations.{arrow_from, begins_with_arrow}

otherwise : {X : Type 0} (b : Bool) (x y : X) → b ≡ false → (if b then x else y) ≡ y
otherwise true x y h = absurd (cc)
otherwise false x y h = refl

arrow_behind : (text rest : List ℕ) (place : ℕ) → 0 < length text → drop 1 text ≡ rest → begins_with_arrow text ≡ false
    → arrow_from place text ≡ arrow_from (place + 1) rest
arrow_behind [] rest place some e h = absurd (omega (arith, some))
arrow_behind (b ∷ bs) rest place some e h =
    otherwise (begins_with_arrow (b ∷ bs)) (Some place) (arrow_from (place + 1) bs) h ∙ ap (arrow_from (place + 1)) e

-- A search for ` -> ` that does not find it at a place continues at the next place.
pub arrow_next : (line : List ℕ) (place : ℕ) → place < length line → begins_with_arrow (drop place line) ≡ false
    → arrow_from place (drop place line) ≡ arrow_from (place + 1) (drop (place + 1) line)
arrow_next line place below h =
    let some : 0 < length (drop place line) = rw length-drop (omega (arith, below)) in
    arrow_behind (drop place line) (drop (place + 1) line) place some (drop-drop 1 place line) h
