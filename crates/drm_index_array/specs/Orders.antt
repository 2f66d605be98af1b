-- Lists of rows up to their order, and in an order (own).
use Rattle.std.specs.Prelude.{◌≡◌, Bool, List, [], ◌∷◌, length, filter, ⊤, if◌then◌else◌}
use Rattle.std.specs.List.{AllByRecursion}

-- as many rows pass each test: they are the same rows, in any order
abbrev pub SameRows : {X : Type 0} → List X → List X → Type 0
SameRows {X} xs ys = (test : X → Bool) → length (filter test xs) ≡ length (filter test ys)

-- each row is before all that follow it
abbrev pub InOrder : {X : Type 0} → (X → X → Type 0) → List X → Type 0
InOrder before [] = ⊤
InOrder before (x ∷ xs) = AllByRecursion (before x) xs × InOrder before xs

-- put before the first that it may are before
abbrev pub inserted_by : {X : Type 0} → (X → X → Bool) → X → List X → List X
inserted_by before y [] = y ∷ []
inserted_by before y (x ∷ xs) = if before y x then y ∷ x ∷ xs else x ∷ inserted_by before y xs

-- the same rows, each of which may are before the next
unfoldable pub sorted_by : {X : Type 0} → (X → X → Bool) → List X → List X
sorted_by before [] = []
sorted_by before (x ∷ xs) = inserted_by before x (sorted_by before xs)
