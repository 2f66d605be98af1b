-- The spelling of a journal's events as lines of a script (own).
use Rattle.std.specs.Prelude.{ℕ, ◌+◌, true, false, nat_lt, if◌then◌else◌, List, [], ◌∷◌, ◌++◌, Option, Some, None, codes, decimal, length}
use Rattle.std.specs.List.{flat_map}
use Rattle.drm_table.specs.declared.calls.Call.{Call}
use Rattle.drm_table.specs.declared.calls.Call.TheVariants.{BadLayout}
use Rattle.drm_table.specs.declared.calls.CallKind.{CallKind}
use Rattle.drm_table.specs.declared.events.Event.{Event}
use Rattle.drm_table.specs.declared.events.Event.TheVariants as events
use Rattle.drm_table.specs.declared.events.Opening.{Opening}
use Rattle.drm_table.specs.declared.events.Opening.TheVariants as openings
use Rattle.drm_table.specs.declared.fields.Field.{Field}
use Rattle.drm_table.specs.declared.limits.Limits.{Limits}
use Rattle.drm_table.specs.Table.{call_number, call_row, kind_word}
use Rattle.drm_script.specs.declared.commands.Command.{Command}
use Rattle.drm_script.specs.declared.commands.Command.TheVariants as commands
use Rattle.drm_script.specs.Lines.{number_behind}

-- a space and a number
abbrev pub spaced : ℕ → List ℕ
spaced n = codes " " ++ decimal n

-- the letter of a label
abbrev pub label_text : ℕ → List ℕ
label_text place = (97 + place) ∷ []

-- the word of an opening after which universal planes are on or off; a render client has them on
abbrev pub open_text : Opening → List ℕ
open_text (openings.Primary root true) = codes "open "
open_text (openings.Primary root false) = codes "open2 "
open_text openings.Render = codes "open "
open_text (openings.Lease token root true) = codes "open "
open_text (openings.Lease token root false) = codes "open2 "

-- an opening, after its label
abbrev pub opening_text : Opening → List ℕ
opening_text (openings.Primary false universal) = codes " card"
opening_text (openings.Primary true universal) = codes " root"
opening_text openings.Render = codes " render"
opening_text (openings.Lease token false universal) = codes " lease" ++ spaced token
opening_text (openings.Lease token true universal) = codes " rootlease" ++ spaced token

-- the word of a row and its fields, or a bare number, after a label
abbrev pub row_text : Option (CallKind × List Field) → ℕ → List ℕ
row_text (Some row) number = codes " " ++ (kind_word row.0 ++ flat_map number_behind row.1)
row_text None number = codes " raw" ++ spaced number

-- the text of a call, after a label
abbrev pub call_text : Call → List ℕ
call_text call = row_text (call_row call) (call_number call)

-- the line of a command
abbrev pub command_text : Command → List ℕ
command_text (commands.Open place opening) = open_text opening ++ (label_text place ++ opening_text opening)
command_text (commands.Close place) = codes "close " ++ label_text place
command_text (commands.Ask place call) = label_text place ++ call_text call

-- the line that sets limits
abbrev pub limits_text : Limits → List ℕ
limits_text limits =
    codes "limits"
    ++ flat_map spaced
    (limits.clients ∷ limits.handles ∷ limits.names ∷ limits.tokens ∷ limits.objects ∷ limits.framebuffers ∷ limits.lessees ∷ limits.journal ∷ [])

-- A call whose line has more than 255 bytes is written as one with the wrong fields.
abbrev pub written_call : Call → Call
written_call call =
    if nat_lt 255 (length (command_text (commands.Ask 0 call))) then BadLayout (call_number call) else call

-- the event, with its call as a line writes it
abbrev pub written_event : Event → Event
written_event (events.Ask client call) = events.Ask client (written_call call)
written_event event = event

-- the command that makes an event by a label
abbrev pub command_at : ℕ → Event → Command
command_at place (events.Open opening) = commands.Open place opening
command_at place (events.Close client) = commands.Close place
command_at place (events.Ask client call) = commands.Ask place call

-- ---- comments

-- an event in the words of a line, with the client's number in place of its label; `?` is the label of a client without one
abbrev pub words_text : Event → List ℕ
words_text (events.Open opening) = open_text opening ++ (codes "?" ++ opening_text opening)
words_text (events.Close client) = codes "close client" ++ spaced client
words_text (events.Ask client call) = codes "client" ++ (spaced client ++ call_text call)

-- the comment in place of an event's line
abbrev pub comment_text : Event → List ℕ
comment_text event = codes "# " ++ words_text event

-- A call whose comment has more than 255 bytes is written as one with the wrong fields.
abbrev pub brief_call : ℕ → Call → Call
brief_call client call =
    if nat_lt 255 (length (comment_text (events.Ask client call))) then BadLayout (call_number call) else call

-- the event, with its call as a comment writes it
abbrev pub brief_event : Event → Event
brief_event (events.Ask client call) = events.Ask client (brief_call client call)
brief_event event = event
