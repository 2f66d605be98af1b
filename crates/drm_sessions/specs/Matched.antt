-- Two lists of one length, whose members at each place are related (own).
use Rattle.std.specs.Prelude.{List, [], ◌∷◌, ⊤}

-- the members at each place are related
abbrev pub Matched : {X Y : Type 0} → (X → Y → Type 0) → List X → List Y → Type 0
Matched R [] [] = ⊤
Matched R [] (y ∷ ys) = ⊥
Matched R (x ∷ xs) [] = ⊥
Matched R (x ∷ xs) (y ∷ ys) = R x y × Matched R xs ys
