-- The script of a journal (own).
use Rattle.std.specs.Prelude.{◌≡◌, ℕ, ◌==◌, ◌<◌, Bool, true, false, List, [], ◌∷◌, ◌++◌, None, Some, Result, codes, map, position}
use Rattle.drm_table.specs.declared.answers.Answer.{Answer}
use Rattle.drm_table.specs.declared.apart.Apart.{Apart}
use Rattle.drm_table.specs.declared.events.Event.{Event}
use Rattle.drm_table.specs.declared.events.Event.TheVariants as events
use Rattle.drm_table.specs.declared.limits.Limits.{Limits}
use Rattle.drm_model.specs.Run.{DeviceValue}
use Rattle.drm_runs.specs.Lines.{ended}
use Rattle.drm_runs.specs.Script.{StepsOn, bound, event_of, label_bound, unbound}
use Rattle.drm_checks.specs.Updates.{with_answer}
use Rattle.drm_checks.specs.Lines.{brief_event, command_at, command_text, comment_text, limits_text, written_event}

-- The line of limits, and then a line for each event, in order. The line has a command that makes the event by a label,
-- and the device's answer, if both fit into 255 bytes. A label names the client of the last accepted opening by it. The
-- last two indices are the device and the labels after the lines.
pub data Lines (limits : Limits) (first : DeviceValue) : List Event → List ℕ → DeviceValue → List ℕ → Type 0 where
  limited : Lines limits first [] (ended (limits_text limits)) first unbound
  answered : {events : List Event} {text : List ℕ} {device after : DeviceValue} {labels : List ℕ} (next : Event) (place : ℕ) (result : Result Answer Apart)
      → Lines limits first events text device labels → place < 26 → event_of labels (command_at place next) ≡ next
      → StepsOn device next result after
      → Lines limits first (events ++ next ∷ []) (text ++ ended (with_answer (command_text (command_at place next)) (Some result))) after (bound labels (label_bound (command_at place next)) result)

-- whether a label names the client
abbrev pub finds : ℕ → ℕ → Bool
finds client label = label == client

-- No label is left for an event. All labels have been bound, and none names the client.
abbrev pub HasNoLabel : List ℕ → Event → Type 0
HasNoLabel labels (events.Open opening) = position (finds 0) labels ≡ None
HasNoLabel labels (events.Close client) = position (finds client) labels ≡ None
HasNoLabel labels (events.Ask client call) = position (finds client) labels ≡ None

-- the comment before the first event without a line
abbrev pub labels_used : List ℕ
labels_used = codes "# more clients are open here than there are labels: each further step is a comment"

-- A comment for each event, in order, after this text. It has the device's answer, if both fit into 255 bytes. The last
-- index is the device after the comments.
pub data Comments (front : List ℕ) (first : DeviceValue) : List Event → List ℕ → DeviceValue → Type 0 where
  none : Comments front first [] front first
  commented : {events : List Event} {text : List ℕ} {device after : DeviceValue} (next : Event) (result : Result Answer Apart)
      → Comments front first events text device → StepsOn device next result after
      → Comments front first (events ++ next ∷ []) (text ++ ended (with_answer (comment_text (brief_event next)) (Some result))) after

-- All events have their lines.
pub record IsWhole (limits : Limits) (first : DeviceValue) (events : List Event) (text : List ℕ) : Type 0 where
  pub device : DeviceValue
  pub labels : List ℕ
  pub lines : Lines limits first (map written_event events) text device labels

-- The events before one without a label have lines. That event and each later one has a comment.
pub record IsCut (limits : Limits) (first : DeviceValue) (events : List Event) (text : List ℕ) : Type 0 where
  pub front : List Event
  pub next : Event
  pub others : List Event
  pub lines_text : List ℕ
  pub device : DeviceValue
  pub after : DeviceValue
  pub labels : List ℕ
  pub parts : events ≡ front ++ next ∷ others
  pub lines : Lines limits first (map written_event front) lines_text device labels
  pub unnamed : HasNoLabel labels next
  pub comments : Comments (lines_text ++ ended labels_used) device (next ∷ others) text after

-- The text is the script of the events.
abbrev pub IsScriptOf : Limits → DeviceValue → List Event → List ℕ → Bool → Type 0
IsScriptOf limits first events text true = IsWhole limits first events text
IsScriptOf limits first events text false = IsCut limits first events text

-- What a writer of a journal keeps: the device after the events so far, the clients of the labels, and whether each event
-- has its line.
pub record WriterView : Type 0 where
  pub device : DeviceValue
  pub labels : List ℕ
  pub is_whole : Bool

-- The text is the script of the events so far, and the writer has their device, and their labels while each has its line.
abbrev pub IsWrittenAs : Limits → DeviceValue → List Event → List ℕ → DeviceValue → List ℕ → Bool → Type 0
IsWrittenAs limits first events text device labels true = Lines limits first (map written_event events) text device labels
IsWrittenAs limits first events text device labels false = (cut : IsCut limits first events text) × (cut.after ≡ device)

abbrev pub IsWritten : Limits → DeviceValue → List Event → List ℕ → WriterView → Type 0
IsWritten limits first events text writer =
    IsWrittenAs limits first events text writer.device writer.labels writer.is_whole

-- Adds one more line, after any lines before it.
abbrev pub AddsLine : Event → List ℕ → DeviceValue → List ℕ → List ℕ → DeviceValue → List ℕ → Type 0
AddsLine event text device labels text' device' labels' =
    (limits : Limits) (first : DeviceValue) (events : List Event) (front : List ℕ)
    → Lines limits first events (front ++ text) device labels
    → Lines limits first (events ++ event ∷ []) (front ++ text') device' labels'

-- Adds one more comment, after any comments before it.
abbrev pub AddsComment : Event → List ℕ → DeviceValue → List ℕ → DeviceValue → Type 0
AddsComment event text device text' device' =
    (start : List ℕ) (first : DeviceValue) (events : List Event) (front : List ℕ)
    → Comments start first events (front ++ text) device
    → Comments start first (events ++ event ∷ []) (front ++ text') device'

-- One more line, if there is a label for the event, or else the comment before the first event without a line.
abbrev pub Advances : Event → List ℕ → DeviceValue → List ℕ → List ℕ → DeviceValue → List ℕ → Bool → Type 0
Advances event text device labels text' device' labels' true =
    AddsLine (written_event event) text device labels text' device' labels'
Advances event text device labels text' device' labels' false =
    HasNoLabel labels event × (text' ≡ text ++ ended labels_used) × (device' ≡ device)
