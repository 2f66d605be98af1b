-- A command is read from just the words that spell it.
use Rattle.std.proofs.Common.{◌≡◌, ℕ, Bool, List, [], ◌∷◌, refl, Some, codes}
use Rattle.drm_table.specs.declared.calls.Call.{Call}
use Rattle.drm_table.specs.declared.events.Opening.{Opening}
use Rattle.drm_script.specs.declared.commands.Command.{Command}
use Rattle.drm_script.specs.declared.commands.Command.TheVariants as commands
use Rattle.drm_script.specs.Commands.{open_at, close_at, ask_at}
use Rattle.drm_script.specs.Fields.{Words, label_of}
use Rattle.drm_script.specs.Grammar.{Spells, SpellEach, open_text, Opens, opening_parts, SpellsCall, SpellsCommand}
use Rattle.drm_script.specs.Grammar.Part.{label}
use Rattle.drm_script.specs.Openings.{opening_at}
use Rattle.drm_script.specs.Calls.{call_at}
use Rattle.drm_script.proofs.FieldLaws.{some_same, bind_some, word_bind, words_behind, same_said, end_bind, label_spells, label_read}
use Rattle.drm_script.proofs.OpeningLaws.{opening_reads, opening_read}
use Rattle.drm_script.proofs.CallLaws.{call_reads, call_read}

-- Words that are read as an opening command spell it.
pub open_reads : (universal : Bool) (ws : Words) (command : Command) → open_at universal ws ≡ Some command
    → SpellsCommand command (open_text universal ∷ ws)
unfolding open_at
open_reads universal ws command e =
    let a = word_bind ws _ command e in
    let b = bind_some (label_of a.w) _ command a.goes_on in
    let d = bind_some (opening_at universal a.rest) _ command b.goes_on in
    let opens = opening_reads universal a.rest d.step d.made in
    same_said SpellsCommand (open_text universal) ws (a.w ∷ a.rest) command (commands.Open b.step d.step) a.words
    (some_same _ _ d.goes_on) (universal, opens.0, (refl, (label_spells a.w b.step b.made, opens.1)))

-- Words that spell a place and an opening are read as the command to open a client there.
pub open_read : (universal : Bool) (ws : Words) (place : ℕ) (opening : Opening) → Opens universal opening
    → SpellEach (label place ∷ opening_parts opening) ws → open_at universal ws ≡ Some (commands.Open place opening)
unfolding open_at
open_read universal [] place opening o s = absurd s
open_read universal (w ∷ ws) place opening o s =
    rw (label_read w place s.0) (rw (opening_read universal ws opening o s.1) refl)

-- Words that are read as a closing command spell it.
pub close_reads : (ws : Words) (command : Command) → close_at ws ≡ Some command → SpellsCommand command (codes "close" ∷ ws)
unfolding close_at
close_reads ws command e =
    let a = word_bind ws _ command e in
    let b = bind_some (label_of a.w) _ command a.goes_on in
    let z = end_bind a.rest _ command b.goes_on in
    same_said SpellsCommand (codes "close") ws (a.w ∷ []) command (commands.Close b.step) (words_behind a.words z.0) (some_same _ _ z.1) (refl, (label_spells a.w b.step b.made, tt))

-- A word that spells a place is read as the command to close the client there.
pub close_read : (ws : Words) (place : ℕ) → SpellEach (label place ∷ []) ws → close_at ws ≡ Some (commands.Close place)
unfolding close_at
close_read [] place s = absurd s
close_read (w ∷ []) place s = rw (label_read w place s.0) refl
close_read (w ∷ v ∷ ws) place s = absurd s.1

-- Words that are read as a client's call spell it.
pub ask_reads : (w : List ℕ) (ws : Words) (command : Command) → ask_at w ws ≡ Some command
    → SpellsCommand command (w ∷ ws)
unfolding ask_at
ask_reads w ws command e =
    let a = bind_some (label_of w) _ command e in
    let b = bind_some (call_at ws) _ command a.goes_on in
    same_said SpellsCommand w ws ws command (commands.Ask a.step b.step) refl (some_same _ _ b.goes_on)
    (label_spells w a.step a.made, call_reads ws b.step b.made)

-- Words that spell a place and a call are read as the call of the client there.
pub ask_read : (w : List ℕ) (ws : Words) (place : ℕ) (call : Call) → Spells (label place) w → SpellsCall call ws
    → ask_at w ws ≡ Some (commands.Ask place call)
unfolding ask_at
ask_read w ws place call l s = rw (label_read w place l) (rw (call_read ws call s) refl)
