-- The reading of a line (own).
use Rattle.std.specs.Prelude.{⊤, ℕ, List, [], ◌∷◌, Bool, true, false, ◌==◌, nat_lt, not, if◌then◌else◌, Option, Some, None, codes, find, length}
use Rattle.std.specs.List.{list_all}
use Rattle.std.specs.Str.{bytes_eq}
use Rattle.std.specs.Char.{is_ascii}
use Rattle.drm_table.specs.declared.limits.Limits.{Limits}
use Rattle.drm_script.specs.declared.commands.Command.{Command}
use Rattle.drm_script.specs.declared.commands.Command.TheVariants as commands
use Rattle.drm_script.specs.declared.reading.Reading.{Reading}
use Rattle.drm_script.specs.declared.reading.Reading.TheVariants as readings
use Rattle.drm_script.specs.declared.reading.LineWord.{LineWord}
use Rattle.drm_script.specs.declared.reading.LineWord.TheVariants as words
use Rattle.drm_script.specs.declared.reading.TheConstants.{LINE_WORDS}
use Rattle.drm_script.specs.Words.{words_of}
use Rattle.drm_script.specs.Fields.{Words}
use Rattle.drm_script.specs.LimitsLine.{limits_at}
use Rattle.drm_script.specs.Commands.{open_at, close_at, ask_at}

-- the first words of lines that begin with no label
abbrev pub line_text : LineWord → List ℕ
line_text words.Limits = codes "limits"
line_text words.Open = codes "open"
line_text words.Open2 = codes "open2"
line_text words.Close = codes "close"

-- what a first word that is no label begins
unfoldable pub line_word_of : List ℕ → Option LineWord
line_word_of w = find (λ name. bytes_eq (line_text name) w) LINE_WORDS

-- a command, or nothing where the line is malformed
abbrev pub command_said : Option Command → Option Reading
command_said None = None
command_said (Some command) = Some (readings.Says command)

-- the same of the limits
abbrev pub limits_said : Option Limits → Option Reading
limits_said None = None
limits_said (Some limits) = Some (readings.Limits limits)

-- by the first word, and apart from it the others
abbrev pub said_behind : Option LineWord → List ℕ → Words → Option Reading
said_behind (Some words.Limits) w ws = limits_said (limits_at ws)
said_behind (Some words.Open) w ws = command_said (open_at true ws)
said_behind (Some words.Open2) w ws = command_said (open_at false ws)
said_behind (Some words.Close) w ws = command_said (close_at ws)
said_behind None w ws = command_said (ask_at w ws)

-- what words say
abbrev pub words_said : Words → Option Reading
words_said [] = Some readings.Skipped
words_said (w ∷ ws) = said_behind (line_word_of w) w ws

-- the first byte is #
abbrev pub is_comment : List ℕ → Bool
is_comment [] = false
is_comment (b ∷ bs) = b == 35

-- the label of a command, by its place
abbrev pub command_label : Command → ℕ
command_label (commands.Open label opening) = label
command_label (commands.Close label) = label
command_label (commands.Ask label call) = label

-- the fact, if the line is a command
abbrev pub IfSays : Reading → (Command → Type 0) → Type 0
IfSays (readings.Says command) P = P command
IfSays _ P = ⊤

-- the fact, if the line sets limits
abbrev pub IfLimits : Reading → (Limits → Type 0) → Type 0
IfLimits (readings.Limits limits) P = P limits
IfLimits _ P = ⊤

-- what a line is read as, without its end; nothing where it is malformed
unfoldable pub reading_of : List ℕ → Option Reading
reading_of line =
    if nat_lt 255 (length line) then None
    else (if not (list_all is_ascii line) then None
    else (if is_comment line then Some readings.Skipped
    else words_said (words_of line)))
