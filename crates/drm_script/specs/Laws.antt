-- The laws of scripts (own): what is read is what the grammar says, and an answer is one line.
use Rattle.std.specs.Prelude.{◌≡◌, ◌≢◌, ◌↔◌, ℕ, List, Some, None, Result, All}
use Rattle.drm_table.specs.declared.answers.Answer.{Answer}
use Rattle.drm_table.specs.declared.apart.Apart.{Apart}
use Rattle.drm_table.specs.declared.limits.Limits.{Limits}
use Rattle.drm_script.specs.declared.commands.Command.{Command}
use Rattle.drm_script.specs.declared.reading.Reading.TheVariants as readings
use Rattle.drm_script.specs.Grammar.{IsCommandLine, IsLimitsLine, IsSkippedLine, IsOtherLine}
use Rattle.drm_script.specs.Reading.{reading_of}
use Rattle.drm_script.specs.Lines.{answer_words}
use Rattle.drm_script.specs.Words.{words_of, AreWords}

-- The words of a line are what is between its spaces.
abbrev pub WordsStandBetweenSpaces : Type 0
WordsStandBetweenSpaces = (line : List ℕ) (words : List (List ℕ)) → (words_of line ≡ words) ↔ AreWords line words

-- A line is read as a command exactly if the grammar says so.
abbrev pub ReadsTheGrammar : Type 0
ReadsTheGrammar =
    (line : List ℕ) (command : Command) → (reading_of line ≡ Some (readings.Says command)) ↔ IsCommandLine line command

-- The same of the limits.
abbrev pub ReadsLimitsLines : Type 0
ReadsLimitsLines =
    (line : List ℕ) (limits : Limits) → (reading_of line ≡ Some (readings.Limits limits)) ↔ IsLimitsLine line limits

-- Comments and lines with no word are skipped, and nothing else.
abbrev pub SkipsCommentsAndBlankLines : Type 0
SkipsCommentsAndBlankLines = (line : List ℕ) → (reading_of line ≡ Some readings.Skipped) ↔ IsSkippedLine line

-- What is left is malformed.
abbrev pub RefusesAllOtherLines : Type 0
RefusesAllOtherLines = (line : List ℕ) → (reading_of line ≡ None) ↔ IsOtherLine line

-- No line end is within the words of an answer.
abbrev pub AnswersTakeOneLine : Type 0
AnswersTakeOneLine = (outcome : Result Answer Apart) → All (λ b. b ≢ 10) (answer_words outcome)
