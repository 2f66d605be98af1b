-- The rules that count a call (own).
use Rattle.std.specs.Prelude.{◌≡◌, ◌≢◌, ◌-◌, ◌≤◌, ◌<◌, ◌⊎◌, ℕ, Bool, true, false, All, List, Option, None, Some, ◌++◌, ◌∷◌, []}
use Rattle.std.specs.List.{remove, slice_get, slice_set}
use Rattle.drm_traffic.specs.declared.rules.Break.{Break}
use Rattle.drm_table.specs.declared.events.Event.{Event}
use Rattle.drm_table.specs.declared.events.Event.TheVariants as events
use Rattle.drm_traffic.specs.declared.rules.Calls.{Calls}
use Rattle.drm_traffic.specs.declared.rules.Stall.{Stall}

-- A rule for these calls: the one at this place.
pub record IsStall (calls : Calls) (rules : List Stall) (at : ℕ) (rule : Stall) : Type 0 where
  pub there : slice_get rules at ≡ Some rule
  pub of_calls : rule.calls ≡ calls

-- the place of the rule for these calls, if there is one
abbrev pub FindsStall : Calls → List Stall → Option ℕ → Type 0
FindsStall calls rules (Some at) = (rule : Stall) × IsStall calls rules at rule
FindsStall calls rules None = All (λ rule. rule.calls ≢ calls) rules

-- No rule is for the calls, or one waits for more of them and counts one fewer. Or its last one delays the answer, and the
-- rule is removed.
abbrev pub CountsCall : Calls → List Stall → List Stall → Option ℕ → Type 0
CountsCall calls old new None =
    (All (λ rule. rule.calls ≢ calls) old × (new ≡ old))
    ⊎
    ((at : ℕ) × (rule : Stall) × IsStall calls old at rule × (1 < rule.nth) × (new ≡ slice_set old at (record rule { nth = rule.nth - 1 })))
CountsCall calls old new (Some millis) = (at : ℕ) × (rule : Stall) × IsStall calls old at rule × (rule.nth ≤ 1) × (rule.millis ≡ millis) × (new ≡ remove old at)

-- A rule for this client: the one at this place.
pub record IsBreak (client : ℕ) (rules : List Break) (at : ℕ) (rule : Break) : Type 0 where
  pub there : slice_get rules at ≡ Some rule
  pub of_client : rule.client ≡ client

-- the same of requests, the last of which breaks the connection
abbrev pub CountsRequest : ℕ → List Break → List Break → Bool → Type 0
CountsRequest client old new false =
    (All (λ rule. rule.client ≢ client) old × (new ≡ old))
    ⊎
    ((at : ℕ) × (rule : Break) × IsBreak client old at rule × (1 < rule.nth) × (new ≡ slice_set old at (record rule { nth = rule.nth - 1 })))
CountsRequest client old new true = (at : ℕ) × (rule : Break) × IsBreak client old at rule × (rule.nth ≤ 1) × (new ≡ remove old at)

-- A rule replaces the one for the same calls, or is the last. Without room nothing changes.
abbrev pub AddsStall : Stall → List Stall → List Stall → Bool → Type 0
AddsStall stall old new true =
    ((at : ℕ) × (rule : Stall) × IsStall stall.calls old at rule × (new ≡ slice_set old at stall))
    ⊎ (All (λ rule. rule.calls ≢ stall.calls) old × (new ≡ old ++ stall ∷ []))
AddsStall stall old new false = new ≡ old

-- the same of a rule for requests of a client
abbrev pub AddsBreak : Break → List Break → List Break → Bool → Type 0
AddsBreak end old new true =
    ((at : ℕ) × (rule : Break) × IsBreak end.client old at rule × (new ≡ slice_set old at end))
    ⊎ (All (λ rule. rule.client ≢ end.client) old × (new ≡ old ++ end ∷ []))
AddsBreak end old new false = new ≡ old

-- what an event counts for the rules of `stall`: if it belongs to calls, one of these
abbrev pub CountsStall : Option Calls → List Stall → List Stall → Option ℕ → Type 0
CountsStall None old new millis = (millis ≡ None) × (new ≡ old)
CountsStall (Some calls) old new millis = CountsCall calls old new millis

-- what it counts for the rules of `break`: a request is one of its client's
abbrev pub CountsBreak : Event → List Break → List Break → Bool → Type 0
CountsBreak (events.Ask client call) old new breaks = CountsRequest client old new breaks
CountsBreak (events.Open opening) old new breaks = (breaks ≡ false) × (new ≡ old)
CountsBreak (events.Close client) old new breaks = (breaks ≡ false) × (new ≡ old)
