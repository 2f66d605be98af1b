-- The steps that withdraw what a client published under a key (own).
use Rattle.std.specs.Prelude.{ℕ, ◌==◌, Bool, false}
use Rattle.drm_table.specs.declared.answers.Answer.{Answer}
use Rattle.drm_table.specs.declared.answers.Answer.TheVariants.{Done, Closed}
use Rattle.drm_table.specs.declared.calls.Call.{Call}
use Rattle.drm_table.specs.declared.calls.Call.TheVariants.{TokenClose, RmFb}
use Rattle.drm_table.specs.declared.events.Event.{Event}
use Rattle.drm_table.specs.declared.events.Event.TheVariants.{Ask, Close}
use Rattle.drm_history.specs.History.{AnsweredEvent}
use Rattle.drm_history.specs.Steps.{Key, Token, Framebuffer}

-- whether a call is for the value under the key: it closes the token, or removes the framebuffer
abbrev pub is_for : Key → Call → Bool
is_for (Token token) (TokenClose closed) = closed == token
is_for (Framebuffer framebuffer) (RmFb removed) = removed == framebuffer
is_for key call = false

-- a call withdraws it if it is done, and so does the closing of the client
abbrev pub withdrawn_by : Key → ℕ → Event → Answer → Bool
withdrawn_by key c (Ask caller call) Done = is_for key call
withdrawn_by key c (Close client) Closed = client == c
withdrawn_by key c event answer = false

-- whether a step withdraws what this client published under the key
abbrev pub withdraws : Key → ℕ → AnsweredEvent → Bool
withdraws key c step = withdrawn_by key c step.event step.answer
