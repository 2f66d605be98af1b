-- The calls that a rule counts, its kind, and the ranges of its numbers (own).
use Rattle.std.specs.Prelude.{◌≤◌, ⊤, ℕ, List, Option, Some, None, codes, if◌then◌else◌}
use Rattle.std.specs.Option.{option_map}
use Rattle.std.specs.Str.{bytes_eq}
use Rattle.drm_table.specs.declared.events.Event.{Event}
use Rattle.drm_table.specs.declared.events.Event.TheVariants as events
use Rattle.drm_table.specs.Table.{call_kind_of_word, call_row, kind_word}
use Rattle.drm_traffic.specs.declared.rules.Calls.{Calls}
use Rattle.drm_traffic.specs.declared.rules.Calls.TheVariants as calls
use Rattle.drm_traffic.specs.declared.commands.Control.{Control}
use Rattle.drm_traffic.specs.declared.commands.Control.TheVariants as controls
use Rattle.drm_traffic.specs.declared.rules.Rule.{Rule}
use Rattle.drm_traffic.specs.declared.rules.Rule.TheVariants as rules
use Rattle.drm_traffic.specs.declared.rules.RuleKind.{RuleKind}
use Rattle.drm_traffic.specs.declared.rules.RuleKind.TheVariants as kinds

-- the word of calls: that of a script, or that of openings
abbrev pub word_of : Calls → List ℕ
word_of calls.Openings = codes "open"
word_of (calls.OfKind kind) = kind_word kind

-- the calls of a word, if it has some
abbrev pub calls_of_word : List ℕ → Option Calls
calls_of_word word =
    if bytes_eq word (codes "open") then Some calls.Openings else option_map calls.OfKind (call_kind_of_word word)

-- the calls to which an event belongs: openings, or those of its row
abbrev pub calls_of_event : Event → Option Calls
calls_of_event (events.Open opening) = Some calls.Openings
calls_of_event (events.Ask client call) = option_map (λ row. calls.OfKind row.0) (call_row call)
calls_of_event (events.Close client) = None

-- the kind of a rule
abbrev pub kind_of : Rule → RuleKind
kind_of (rules.Fail fail) = kinds.Fail
kind_of (rules.Stall stall) = kinds.Stall
kind_of (rules.Break end) = kinds.Break

-- the numbers of a rule are in their ranges
abbrev pub IsInRange : Rule → Type 0
IsInRange (rules.Fail fail) = 1 ≤ fail.nth
IsInRange (rules.Stall stall) = (1 ≤ stall.nth) × (1 ≤ stall.millis) × (stall.millis ≤ 60000)
IsInRange (rules.Break end) = (1 ≤ end.client) × (1 ≤ end.nth)

-- a control line that makes a rule makes one whose numbers are in their ranges
abbrev pub HasRange : Control → Type 0
HasRange (controls.Add rule) = IsInRange rule
HasRange controls.Clear = ⊤
HasRange controls.List = ⊤
