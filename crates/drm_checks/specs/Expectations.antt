-- The answer that a line of a file expects, and the answers that meet it (own).
use Rattle.std.specs.Prelude.{ℕ, ◌+◌, List, [], ◌∷◌, ◌++◌, take, drop, codes, decimal, Bool, true, false, if◌then◌else◌, Option, None, Some, Result, Ok, Err}
use Rattle.std.specs.Str.{bytes_eq}
use Rattle.drm_table.specs.declared.answers.Answer.{Answer}
use Rattle.drm_table.specs.declared.answers.Answer.TheVariants as answers
use Rattle.drm_table.specs.declared.apart.Apart.{Apart}
use Rattle.drm_table.specs.Rules.{rule_number, apart_number}
use Rattle.drm_script.specs.Reading.{is_comment}
use Rattle.drm_script.specs.Lines.{answer_words}

-- the text begins with ` -> `
abbrev pub begins_with_arrow : List ℕ → Bool
begins_with_arrow text = bytes_eq (take 4 text) (codes " -> ")

-- the place of the first ` -> `, in a text whose first byte has this place
abbrev pub arrow_from : ℕ → List ℕ → Option ℕ
arrow_from place [] = None
arrow_from place (b ∷ bs) = if begins_with_arrow (b ∷ bs) then Some place else arrow_from (place + 1) bs

-- the place of the first ` -> ` of a line; a comment expects nothing
abbrev pub arrow_place : List ℕ → Option ℕ
arrow_place line = if is_comment line then None else arrow_from 0 line

-- the text before the first ` -> `
abbrev pub before : Option ℕ → List ℕ → List ℕ
before None line = line
before (Some place) line = take place line

-- the script part of a line
abbrev pub script_part : List ℕ → List ℕ
script_part line = before (arrow_place line) line

-- the text after ` -> `
abbrev pub behind : Option ℕ → List ℕ → Option (List ℕ)
behind None line = None
behind (Some place) line = Some (drop (place + 4) line)

-- the answer that a line expects
abbrev pub expected_part : List ℕ → Option (List ℕ)
expected_part line = behind (arrow_place line) line

-- a word and a number
abbrev pub numbered : List ℕ → ℕ → List ℕ
numbered word number = word ++ decimal number

-- the words of the answer's line
abbrev pub is_whole : List ℕ → Result Answer Apart → Bool
is_whole expected answer = bytes_eq (answer_words answer) expected

-- the first two words of a denial or a fault
abbrev pub is_short : List ℕ → Result Answer Apart → Bool
is_short expected (Ok (answers.Denied rule)) = bytes_eq (numbered (codes "denied ") (rule_number rule)) expected
is_short expected (Ok answer) = false
is_short expected (Err apart) = bytes_eq (numbered (codes "apart ") (apart_number apart)) expected

-- whether the expectation is met by an answer
abbrev pub meets : List ℕ → Result Answer Apart → Bool
meets expected answer = if is_whole expected answer then true else is_short expected answer

-- without an answer, no expectation is met
abbrev pub is_met : List ℕ → Option (Result Answer Apart) → Bool
is_met expected None = false
is_met expected (Some answer) = meets expected answer
