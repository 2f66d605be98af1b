-- The text of an answer that differs from the expected one (own).
use Rattle.std.specs.Prelude.{ℕ, List, [], ◌∷◌, ◌++◌, codes, decimal, if◌then◌else◌, length, take, drop, ◌-◌, ◌==◌, Option, None, Some, Result}
use Rattle.std.specs.List.{flat_map}
use Rattle.drm_table.specs.declared.answers.Answer.{Answer}
use Rattle.drm_table.specs.declared.apart.Apart.{Apart}
use Rattle.drm_script.specs.Lines.{answer_line}
use Rattle.drm_checks.specs.Expectations.{is_met}

-- a file by its name, and the command that explains one of its lines, without the line's number; empty if there is none
pub record File : Type 0 where
  pub name : List ℕ
  pub command : List ℕ

-- the file with this name and this command
abbrev pub file_of : List ℕ → List ℕ → File
file_of name command = record { name = name; command = command }

-- a line, its expectation, and its answer, if there is one
pub record Difference : Type 0 where
  pub number : ℕ
  pub expected : List ℕ
  pub came : Option (Result Answer Apart)

-- the line of the answer
abbrev pub came_line : Option (Result Answer Apart) → List ℕ
came_line None = codes "nothing" ++ 10 ∷ []
came_line (Some answer) = answer_line answer

-- the expected text without its last byte
abbrev pub front_of : List ℕ → List ℕ
front_of expected = take (length expected - 1) expected

-- that byte as it is shown; a carriage return or a space has an escape
abbrev pub end_shown : List ℕ → List ℕ
end_shown [] = []
end_shown (byte ∷ others) = if byte == 13 then codes "\\r" else (if byte == 32 then codes "\\x20" else byte ∷ others)

-- the last byte of the expected text, as it is shown
abbrev pub end_of_expected : List ℕ → List ℕ
end_of_expected expected = end_shown (drop (length expected - 1) expected)

-- the file's name, the line's number, the expected text and the answer
abbrev pub line_text : (name : List ℕ) (number : ℕ) (expected : List ℕ) (came : Option (Result Answer Apart)) → List ℕ
line_text name number expected came = name ++ (codes ":" ++ (decimal number ++ (codes ": expected " ++ (front_of expected ++ (end_of_expected expected ++ (codes ", got " ++ came_line came))))))

-- a line with a command and the number that it ends with; empty if there is no command
abbrev pub command_text : (command : List ℕ) (number : ℕ) → List ℕ
command_text [] number = []
command_text (byte ∷ bytes) number = codes "    " ++ ((byte ∷ bytes) ++ (decimal number ++ 10 ∷ []))

-- the command that explains the answer of a line; empty if there is no answer
abbrev pub why_text : (command : List ℕ) (number : ℕ) (came : Option (Result Answer Apart)) → List ℕ
why_text command number None = []
why_text command number (Some answer) = command_text command number

-- the difference, and the command that explains it
abbrev pub difference_text : (file : File) (number : ℕ) (expected : List ℕ) (came : Option (Result Answer Apart))
    → List ℕ
difference_text file number expected came =
    line_text file.name number expected came ++ why_text file.command number came

-- the text of a difference in a file
abbrev pub text_of : File → Difference → List ℕ
text_of file d = difference_text file d.number d.expected d.came

-- the texts of all differences
abbrev pub differences_text : File → List Difference → List ℕ
differences_text file differences = flat_map (text_of file) differences

-- the number of met expectations of a line
abbrev pub met : Option (List ℕ) → Option (Result Answer Apart) → ℕ
met None came = 0
met (Some expected) came = if is_met expected came then 1 else 0

-- the expectations of a line that are not met
abbrev pub unmet : ℕ → Option (List ℕ) → Option (Result Answer Apart) → List Difference
unmet number None came = []
unmet number (Some expected) came =
    if is_met expected came then [] else record { number = number; expected = expected; came = came } ∷ []
