-- The commands of lines, as words spell them (own).
use Rattle.std.specs.Prelude.{ℕ, Bool, List, Option, Some}
use Rattle.drm_script.specs.declared.commands.Command.{Command}
use Rattle.drm_script.specs.declared.commands.Command.TheVariants as commands
use Rattle.drm_script.specs.Fields.{Words, ◌>>=◌, word_at, end_at, label_of}
use Rattle.drm_script.specs.Openings.{opening_at}
use Rattle.drm_script.specs.Calls.{call_at}

-- a label and an opening, after the word, with universal planes on or off
unfoldable pub open_at : Bool → Words → Option Command
open_at universal ws = do
  first ← word_at ws
  label ← label_of first.0
  opening ← opening_at universal first.1
  Some (commands.Open label opening)

-- a label, after the word
unfoldable pub close_at : Words → Option Command
close_at ws = do
  first ← word_at ws
  label ← label_of first.0
  end ← end_at first.1
  Some (commands.Close label)

-- a label, separately from the words after it, and a call
unfoldable pub ask_at : List ℕ → Words → Option Command
ask_at w ws = do
  label ← label_of w
  call ← call_at ws
  Some (commands.Ask label call)
