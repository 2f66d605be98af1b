-- The words of a line (own).
use Rattle.std.specs.Prelude.{◌≡◌, ◌≢◌, ◌<◌, ℕ, List, [], ◌∷◌, ◌++◌, length, Bool, true, false, ◌==◌, if◌then◌else◌}
use Rattle.std.specs.List.{AllByRecursion}

-- whether a byte is a space
abbrev pub is_space : ℕ → Bool
is_space b = b == 32

-- a byte is put on the front of the first word, if that word follows it without a space, or else is a word
abbrev pub with_byte : ℕ → Bool → List (List ℕ) → List (List ℕ)
with_byte b true (word ∷ words) = (b ∷ word) ∷ words
with_byte b true [] = (b ∷ []) ∷ []
with_byte b false words = (b ∷ []) ∷ words

-- the text begins with a word
abbrev pub begins_word : List ℕ → Bool
begins_word [] = false
begins_word (b ∷ bs) = if is_space b then false else true

-- What is between the spaces, in order: each word is a longest row of bytes that are no space. So any number of spaces
-- may be before, between and after the words, and a tab is a letter like any other.
abbrev pub words_of : List ℕ → List (List ℕ)
words_of [] = []
words_of (b ∷ bs) = if is_space b then words_of bs else with_byte b (begins_word bs) (words_of bs)

-- a text from its first byte on that is no space
abbrev pub trimmed : List ℕ → List ℕ
trimmed [] = []
trimmed (b ∷ bs) = if is_space b then trimmed bs else b ∷ bs

-- one byte or more, and none of them a space
abbrev pub IsWord : List ℕ → Type 0
IsWord w = (0 < length w) × AllByRecursion (λ b. b ≢ 32) w

-- the text is at its end, or a space follows
abbrev pub IsAtBreak : List ℕ → Type 0
IsAtBreak [] = Unit {0}
IsAtBreak (b ∷ bs) = b ≡ 32

-- A text and its words: no text has none, a space adds none, and a word ends at the next space or at the end.
pub data AreWords : List ℕ → List (List ℕ) → Type 0 where
  none : AreWords [] []
  space : {text : List ℕ} {words : List (List ℕ)} → AreWords text words → AreWords (32 ∷ text) words
  word : (w : List ℕ) {text : List ℕ} {words : List (List ℕ)} → IsWord w → IsAtBreak text → AreWords text words
      → AreWords (w ++ text) (w ∷ words)

-- The text ends with this.
abbrev pub IsEndOf : List ℕ → List ℕ → Type 0
IsEndOf text end = (front : List ℕ) × (text ≡ front ++ end)
