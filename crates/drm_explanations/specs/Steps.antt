-- The steps of a history by their numbers (own).
use Rattle.std.specs.Prelude.{◌≡◌, ℕ, ◌==◌, List, [], ◌∷◌, Option, None, Some, codes, if◌then◌else◌}
use Rattle.std.specs.Option.{option_map, option_map_or}
use Rattle.drm_table.specs.Table.{call_kind_of, call_number, kind_word}
use Rattle.drm_table.specs.declared.events.Event.{Event}
use Rattle.drm_table.specs.declared.events.Event.TheVariants.{Open, Ask, Close}
use Rattle.drm_history.specs.History.{AnsweredEvent, next_number}
use Rattle.drm_explanations.specs.declared.rows.At.{At}

-- the step of a number
unfoldable pub step_in : List AnsweredEvent → ℕ → Option AnsweredEvent
step_in [] n = None
step_in (step ∷ past) n = if n == next_number past then Some step else step_in past n

-- the caller of a step, or the client that it opens or closes; an opening has the number of its client
abbrev pub client_of : ℕ → Event → ℕ
client_of number (Open opening) = number
client_of number (Ask c call) = c
client_of number (Close c) = c

-- the word of the call with a number; no word if no call has it
abbrev pub call_word : ℕ → List ℕ
call_word number = option_map_or kind_word (call_kind_of number) []

-- the word of an event in a script
abbrev pub word_of : Event → List ℕ
word_of (Open opening) = codes "open"
word_of (Ask c call) = call_word (call_number call)
word_of (Close c) = codes "close"

-- a reported step has the client and the word of the step with its number
abbrev pub TellsStep : List AnsweredEvent → At → Type 0
TellsStep history told =
    option_map {U = ℕ × List ℕ} (λ (step : AnsweredEvent). (client_of told.step step.event, word_of step.event)) (step_in history told.step)
    ≡ Some (told.client, told.call.now)
