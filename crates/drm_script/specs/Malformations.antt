-- The report of a malformed line (own).
use Rattle.std.specs.Prelude.{◌≡◌, ℕ, ◌-◌, ◌⊎◌, List, [], ◌∷◌, if◌then◌else◌, drop, map, take}
use Rattle.std.specs.Char.{is_ascii_graphic}
use Rattle.drm_script.specs.declared.malformations.Malformed.{Malformed}
use Rattle.drm_script.specs.Words.{words_of}

-- a byte of a word as it is reported: a question mark if it is not printable
abbrev pub shown : ℕ → ℕ
shown b = if is_ascii_graphic b then b else 63

-- a word as it is reported, by its first 32 bytes
abbrev pub told : List ℕ → List ℕ
told word = map shown (take 32 word)

-- the first word, if there is one
abbrev pub first_told : List (List ℕ) → List ℕ
first_told [] = []
first_told (word ∷ words) = told word

-- No word is reported, or the one that begins at the column.
abbrev pub TellsTheWordThere : List ℕ → Malformed → Type 0
TellsTheWordThere line m = (m.word.bytes ≡ []) ⊎ (m.word.bytes ≡ first_told (words_of (drop (m.column - 1) line)))
