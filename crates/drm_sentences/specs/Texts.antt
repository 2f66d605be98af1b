-- The text of an answer (own).
use Rattle.std.specs.Prelude.{◌≡◌, ℕ, List, [], ◌∷◌, ◌++◌, Option, None, Some, String, codes, flat_map}
use Rattle.std.specs.String.{string_bytes}

-- a text with a line end
abbrev pub line : List ℕ → List ℕ
line text = text ++ 10 ∷ []

-- a line for each sentence, in order
abbrev pub lines : {Z : Type 0} → List (String Z) → List ℕ
lines sentences = flat_map (λ sentence. line (string_bytes sentence)) sentences

-- the line of the condition under which the rule would pass, if there is one
abbrev pub condition_line : Option (List ℕ) → List ℕ
condition_line None = []
condition_line (Some condition) = line (codes "it would pass if " ++ condition)

-- the text ends with these bytes
abbrev pub EndsWith : List ℕ → List ℕ → Type 0
EndsWith back text = (front : List ℕ) × (text ≡ front ++ back)
