-- The rows of a device, by its history (own).
use Rattle.std.specs.Prelude.{◌≡◌, ℕ, ◌==◌, Bool, true, false, ◌&&◌, ◌↔◌, List}
use Rattle.std.specs.List.{list_any, AllByRecursion}
use Rattle.drm_index_array.specs.Orders.{InOrder}
use Rattle.drm_model.specs.Rows.{Rows, HandleRow, NameRow, TokenRow, FramebufferRow, is_handle}
use Rattle.drm_model.specs.Run.{DeviceValue, rows_of}
use Rattle.drm_table.specs.declared.calls.Call.TheVariants.{AddFb}
use Rattle.drm_table.specs.declared.events.Event.TheVariants.{Ask}
use Rattle.drm_history.specs.History.{AnsweredEvent, history_of}
use Rattle.drm_history.specs.Steps.{Name, Token, Framebuffer}
use Rattle.drm_history.specs.Holds.{Has, LastHad}
use Rattle.drm_history.specs.Chains.{Chain}

-- no two handles of a client, and no two names, tokens or framebuffers, have the same number
pub record NumbersDiffer (w : Rows) : Type 0 where
  pub handles : InOrder (λ (x y : HandleRow). is_handle x.client x.handle y ≡ false) w.holds
  pub names : InOrder (λ (x y : NameRow). (x.name == y.name) ≡ false) w.names
  pub tokens : InOrder (λ (x y : TokenRow). (x.token == y.token) ≡ false) w.tokens
  pub framebuffers : InOrder (λ (x y : FramebufferRow). (x.framebuffer == y.framebuffer) ≡ false) w.framebuffers

-- the last step that published under its id added the framebuffer: for its client, over its object, and in its shape
abbrev pub IsLastAdded : List AnsweredEvent → FramebufferRow → Type 0
IsLastAdded history row =
    (last : LastHad history (Framebuffer row.framebuffer) row.client row.object) × (last.published.step.event ≡ Ask row.client (AddFb row.width row.height row.pitch row.bpp last.handle))

-- each name, token and framebuffer is that of the last step that published under its number, and a framebuffer has the shape that
-- this step asked for
pub record NumbersFollow (h : DeviceValue) : Type 0 where
  pub names : AllByRecursion (λ (row : NameRow). (c : ℕ) × LastHad (history_of h) (Name row.name) c row.object) (rows_of h).names
  pub tokens : AllByRecursion (λ (row : TokenRow). LastHad (history_of h) (Token row.token) row.client row.object) (rows_of h).tokens
  pub framebuffers : AllByRecursion (IsLastAdded (history_of h)) (rows_of h).framebuffers

-- there is a row of the client's handle, and it is of the object
abbrev pub holds_object : Rows → ℕ → ℕ → ℕ → Bool
holds_object w c handle o = list_any (λ (row : HandleRow). is_handle c handle row && (row.object == o)) w.holds

-- the handles of the rows are those that the history grants
abbrev pub HoldsFollow : Rows → List AnsweredEvent → Type 0
HoldsFollow w history = (c handle o : ℕ) → (holds_object w c handle o ≡ true) ↔ Has history c handle o

-- to each handle of the rows there leads a chain
abbrev pub HoldsHaveChains : DeviceValue → Type 0
HoldsHaveChains h = (c handle o : ℕ) → holds_object (rows_of h) c handle o ≡ true → Chain (history_of h) c handle o
