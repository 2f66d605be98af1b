-- Lists of rows that are in an order (own).
use Rattle.std.specs.Prelude.{◌≡◌, Bool, true, not, List, [], ◌∷◌, ◌++◌, filter}
use Rattle.std.specs.List.{AllByRecursion}

-- the list with one more row, after those that come before it
abbrev pub placed : {X : Type 0} → (X → X → Bool) → X → List X → List X
placed before x ys = filter (λ y. before y x) ys ++ x ∷ filter (λ y. not (before y x)) ys

-- each row is before all that follow it
abbrev pub InOrder : {X : Type 0} → (X → X → Bool) → List X → Type 0
InOrder before [] = Unit {0}
InOrder before (x ∷ xs) = AllByRecursion (λ y. before x y ≡ true) xs × InOrder before xs
