-- The clients that closed, by the history alone (own).
use Rattle.std.specs.Prelude.{◌≡◌, ℕ, ◌==◌, Bool, true, false, ◌||◌, List, [], ◌∷◌}
use Rattle.drm_table.specs.declared.events.Event.{Event}
use Rattle.drm_table.specs.declared.events.Event.TheVariants.{Open, Ask, Close}
use Rattle.drm_history.specs.History.{AnsweredEvent}
use Rattle.drm_history.specs.Effects.{Effect, Closes, effect, is_accepted}

-- whether the step closes the client
abbrev pub closes : Effect → ℕ → Bool
closes (Closes client) c = client == c
closes _ c = false

-- whether the client's closing was carried out
unfoldable pub has_closed : List AnsweredEvent → ℕ → Bool
has_closed [] c = false
has_closed (step ∷ past) c = closes (effect step) c || has_closed past c

-- whether the event is of the client
abbrev pub is_of : ℕ → Event → Bool
is_of c (Open opening) = false
is_of c (Ask client call) = client == c
is_of c (Close client) = client == c

-- no step of a client that closed before is carried out
abbrev pub StaysClosed : AnsweredEvent → List AnsweredEvent → Type 0
StaysClosed step past = (c : ℕ) → has_closed past c ≡ true → is_of c step.event ≡ true → is_accepted step.answer ≡ false
