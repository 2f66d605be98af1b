-- The events of a script's lines, and the text that a run writes (own).
use Rattle.std.specs.Prelude.{◌≡◌, ℕ, List, [], ◌∷◌, ◌++◌, Option, Some, None, Result, Ok, Err, slice_index, slice_set, replicate}
use Rattle.drm_table.specs.declared.answers.Answer.{Answer}
use Rattle.drm_table.specs.declared.answers.Answer.TheVariants as answers
use Rattle.drm_table.specs.declared.apart.Apart.{Apart}
use Rattle.drm_table.specs.declared.events.Event.{Event}
use Rattle.drm_table.specs.declared.events.Event.TheVariants as events
use Rattle.drm_table.specs.declared.limits.Limits.{Limits}
use Rattle.drm_modes.specs.declared.kinds.PlaneKind.TheVariants.{Overlay as OverlayPlane, Primary as PrimaryPlane}
use Rattle.drm_modes.specs.Topology.{Topology}
use Rattle.drm_model.specs.Rows.{empty_rows}
use Rattle.drm_model.specs.Run.{DeviceValue, Step, Answers, journaled_events, journaled_in, rows_of}
use Rattle.drm_script.specs.declared.commands.Command.{Command}
use Rattle.drm_script.specs.declared.commands.Command.TheVariants as commands
use Rattle.drm_script.specs.declared.reading.Reading.TheVariants as readings
use Rattle.drm_script.specs.Reading.{reading_of}
use Rattle.drm_script.specs.Lines.{answer_line}
use Rattle.drm_runs.specs.Lines.{IsBare}

-- two CRTCs, two planes, two encoders and two connectors
abbrev pub test_topology : Topology
test_topology =
    record
    { crtcs = 2; planes = 1 ∷ 2 ∷ []; kinds = PrimaryPlane 1 ∷ OverlayPlane ∷ []; encoders = 3 ∷ 2 ∷ []; connectors = 5 ∷ 6 ∷ [] }

-- the limits of a script without a line of them: the greatest, except 64 clients
abbrev pub program_limits : Limits
program_limits =
    record
    { clients = 64; handles = 65535; names = 65535; tokens = 65535; objects = 65535; framebuffers = 64; lessees = 64; journal = 100000 }

-- the topology of a script's device, and its default limits
pub record Setting : Type 0 where
  pub topology : Topology
  pub limits : Limits

-- the test topology and the program's limits
abbrev pub usual : Setting
usual = record { topology = test_topology; limits = program_limits }

-- the same topology with other limits
abbrev pub limited_to : Setting → Limits → Setting
limited_to setting limits = record { topology = setting.topology; limits = limits }

-- a device of this topology and these limits with an empty journal
abbrev pub empty_device : Setting → DeviceValue
empty_device setting = record { topology = setting.topology; limits = setting.limits; journal = [] }

-- the device of a script: planned with this setting, or created, or memory for it was refused
pub data Place : Type 0 where
  Planned : Setting → Place
  Made : DeviceValue → Place
  Refused : Place

-- the device, which is created when the first line needs it
abbrev pub IsAt : Place → DeviceValue → Type 0
IsAt (Planned setting) device = device ≡ empty_device setting
IsAt (Made made) device = device ≡ made
IsAt Refused device = ⊥

-- there is no device
abbrev pub IsNowhere : Place → Type 0
IsNowhere (Planned setting) = Unit {0}
IsNowhere (Made device) = ⊥
IsNowhere Refused = Unit {0}

-- the event of a command; a label that was never bound names client 0
abbrev pub event_of : List ℕ → Command → Event
event_of labels (commands.Open label opening) = events.Open opening
event_of labels (commands.Close label) = events.Close (slice_index labels label)
event_of labels (commands.Ask label call) = events.Ask (slice_index labels label) call

-- the device after an event: it is journaled, unless the answer is a fault
abbrev pub journaled_by : DeviceValue → Event → Result Answer Apart → DeviceValue
journaled_by device event (Ok answer) = journaled_in device event
journaled_by device event (Err apart) = device

-- The device answers the event with this result.
pub record StepsOn (before : DeviceValue) (event : Event) (result : Result Answer Apart) (after : DeviceValue) : Type 0 where
  pub answered : Step (rows_of before) event result (rows_of after)
  pub journaled : after ≡ journaled_by before event result

-- the label that a command would bind
abbrev pub label_bound : Command → Option ℕ
label_bound (commands.Open label opening) = Some label
label_bound (commands.Close label) = None
label_bound (commands.Ask label call) = None

-- the label of an accepted opening names the new client; no other answer binds a label
abbrev pub bound : List ℕ → Option ℕ → Result Answer Apart → List ℕ
bound labels (Some label) (Ok (answers.Opened client)) = slice_set labels label client
bound labels (Some label) result = labels
bound labels None result = labels

-- the result of one line: the results that it adds, and the device and the labels after it
pub data Uses (device : Place) (labels line : List ℕ) : List (Result Answer Apart) → Place → List ℕ → Type 0 where
  skipped : reading_of line ≡ Some readings.Skipped → Uses device labels line [] device labels
  limited : {setting : Setting} {limits : Limits} → device ≡ Planned setting
      → reading_of line ≡ Some (readings.Limits limits)
      → Uses device labels line [] (Made (empty_device (limited_to setting limits))) labels
  asked : {command : Command} {result : Result Answer Apart} {after : DeviceValue} (before : DeviceValue)
      → reading_of line ≡ Some (readings.Says command) → IsAt device before
      → StepsOn before (event_of labels command) result after
      → Uses device labels line (result ∷ []) (Made after) (bound labels (label_bound command) result)

-- no label is bound yet
abbrev pub unbound : List ℕ
unbound = replicate 26 0

-- the lines of a script, one after the other, with their results
pub data Script (setting : Setting) : List (List ℕ) → List (Result Answer Apart) → Place → List ℕ → Type 0 where
  start : Script setting [] [] (Planned setting) unbound
  line : {lines : List (List ℕ)} {results more : List (Result Answer Apart)} {device device' : Place} {labels labels' next : List ℕ}
      → Script setting lines results device labels → IsBare next → Uses device labels next more device' labels'
      → Script setting (lines ++ next ∷ []) (results ++ more) device' labels'

-- the text of the results, a line each
abbrev pub script_text : List (Result Answer Apart) → List ℕ
script_text [] = []
script_text (result ∷ results) = answer_line result ++ script_text results

-- a line that can't be used here: it is malformed, or it sets limits after the device exists
pub data IsMisplaced (device : Place) (line : List ℕ) : Type 0 where
  malformed : reading_of line ≡ None → IsMisplaced device line
  late : {limits : Limits} {made : DeviceValue} → device ≡ Made made → reading_of line ≡ Some (readings.Limits limits)
      → IsMisplaced device line

-- a line that needs a device when there is none yet
pub data WantsDevice (line : List ℕ) : Type 0 where
  limits : {limits : Limits} → reading_of line ≡ Some (readings.Limits limits) → WantsDevice line
  command : {command : Command} → reading_of line ≡ Some (readings.Says command) → WantsDevice line

-- The lines make these events, one for each command, in order, with these results. A label names the client of the last
-- accepted opening by it. The last list has the clients that the labels name after the lines.
pub data AskFor : List (List ℕ) → List (Result Answer Apart) → List Event → List ℕ → Type 0 where
  nothing : AskFor [] [] [] unbound
  skipped_line : {lines : List (List ℕ)} {results : List (Result Answer Apart)} {events : List Event} {labels : List ℕ} (next : List ℕ)
      → AskFor lines results events labels
      → reading_of next ≡ Some readings.Skipped → AskFor (lines ++ next ∷ []) results events labels
  limits_line : {lines : List (List ℕ)} {results : List (Result Answer Apart)} {events : List Event} {labels : List ℕ} (next : List ℕ) (limits : Limits)
      → AskFor lines results events labels
      → reading_of next ≡ Some (readings.Limits limits) → AskFor (lines ++ next ∷ []) results events labels
  command_line : {lines : List (List ℕ)} {results : List (Result Answer Apart)} {events : List Event} {labels : List ℕ} (next : List ℕ) (command : Command) (result : Result Answer Apart)
      → AskFor lines results events labels → reading_of next ≡ Some (readings.Says command)
      → AskFor (lines ++ next ∷ []) (results ++ result ∷ []) (events ++ event_of labels command ∷ []) (bound labels (label_bound command) result)

-- The results are the device's answers to the events of the lines. The device is empty at first, with this topology and
-- some limits. Its journal has these events, without those that were answered by a fault.
abbrev pub AnswersFromEmpty : Topology → List (List ℕ) → List (Result Answer Apart) → Place → List ℕ → Type 0
AnswersFromEmpty topology lines results device labels =
    (limits : Limits) × (events : List Event) × AskFor lines results events labels
    × (made : DeviceValue) × IsAt device made × Answers (empty_rows topology limits) events results (rows_of made)
    × (made ≡ record { topology = topology; limits = limits; journal = journaled_events events results })

-- the law of scripts: each script's results are the answers of a device that is empty at first
abbrev pub ScriptsAreAnswered : Type 0
ScriptsAreAnswered =
    (setting : Setting) (lines : List (List ℕ)) (results : List (Result Answer Apart)) (device : Place)
    (labels : List ℕ)
    → Script setting lines results device labels → AnswersFromEmpty setting.topology lines results device labels
