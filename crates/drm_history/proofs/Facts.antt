-- What a history describes rows, kept by every step.
use Rattle.std.proofs.Common.{◌≡◌, ℕ, Bool, false, List, ◌∷◌, length, filter, None}
use Rattle.std.specs.List.{AllByRecursion}
use Rattle.drm_index_array.proofs.Lists.{all_filter}
use Rattle.drm_model.specs.Rows.{Rows, HandleRow, NameRow, TokenRow, FramebufferRow}
use Rattle.drm_model.specs.Change.{swept, journaled}
use Rattle.drm_history.specs.History.{AnsweredEvent}
use Rattle.drm_history.specs.Steps.{Key, Name, Token, Framebuffer, takes}
use Rattle.drm_history.proofs.HistoryFunctions.{gift, holder_under}
use Rattle.drm_history.proofs.HoldSteps.{HoldFacts, holds_stay, holds_go, kept_by}
use Rattle.drm_history.proofs.NumberSteps.{WasAdded, added_still, Numbered, numbered_fewer, numbered_still, Owned, owned_fewer, owned_still}

abbrev pub name_number : NameRow → ℕ
name_number row = row.name

abbrev pub name_object : NameRow → ℕ
name_object row = row.object

abbrev pub token_number : TokenRow → ℕ
token_number row = row.token

abbrev pub token_object : TokenRow → ℕ
token_object row = row.object

abbrev pub token_client : TokenRow → ℕ
token_client row = row.client

abbrev pub framebuffer_number : FramebufferRow → ℕ
framebuffer_number row = row.framebuffer

abbrev pub framebuffer_object : FramebufferRow → ℕ
framebuffer_object row = row.object

abbrev pub framebuffer_client : FramebufferRow → ℕ
framebuffer_client row = row.client

pub record NumberFacts (past : List AnsweredEvent) (names : List NameRow) (tokens : List TokenRow) (framebuffers : List FramebufferRow) : Type 0 where
  pub named : Numbered past Name name_number name_object names
  pub exported : Owned past Token token_number token_object token_client tokens
  pub framed : Owned past Framebuffer framebuffer_number framebuffer_object framebuffer_client framebuffers
  pub added : AllByRecursion (WasAdded past) framebuffers

-- of these lists alone, so that what becomes of the others doesn't matter
pub record Facts (past : List AnsweredEvent) (holds : List HandleRow) (names : List NameRow) (tokens : List TokenRow) (framebuffers : List FramebufferRow) : Type 0 where
  pub held : HoldFacts past holds
  pub numbers : NumberFacts past names tokens framebuffers

abbrev pub FactsOf : List AnsweredEvent → Rows → Type 0
FactsOf past w = Facts past w.holds w.names w.tokens w.framebuffers

-- rows with their history
pub record Agrees (past : List AnsweredEvent) (w : Rows) : Type 0 where
  pub steps : w.steps ≡ length past
  pub facts : FactsOf past w

-- a step that says nothing of handles
pub record IsSilent (step : AnsweredEvent) : Type 0 where
  pub gives : (c h : ℕ) → gift step c h ≡ None
  pub takes_none : (c h : ℕ) → takes step c h ≡ false
  pub publishes : (key : Key) → holder_under step key ≡ None

module _ (past : List AnsweredEvent) (names : List NameRow) (tokens : List TokenRow) (framebuffers : List FramebufferRow) where
  -- Names, tokens and framebuffers still follow from the history after a step that publishes nothing.
  pub numbers_still : (step : AnsweredEvent) → ((key : Key) → holder_under step key ≡ None)
      → NumberFacts past names tokens framebuffers → NumberFacts (step ∷ past) names tokens framebuffers
  numbers_still step none f = record {
    named = numbered_still Name name_number name_object step past (λ n. none (Name n)) names f.named;
    exported =
        owned_still Token token_number token_object token_client step past (λ n. none (Token n)) tokens f.exported;
    framed =
        owned_still Framebuffer framebuffer_number framebuffer_object framebuffer_client step past
        (λ n. none (Framebuffer n)) framebuffers f.framed;
    added = added_still step past (λ n. none (Framebuffer n)) framebuffers f.added;
  }

  -- Names, tokens and framebuffers still follow from the history if some tokens and framebuffers are removed.
  pub numbers_fewer : (p : TokenRow → Bool) (q : FramebufferRow → Bool) → NumberFacts past names tokens framebuffers
      → NumberFacts past names (filter p tokens) (filter q framebuffers)
  numbers_fewer p q f = record {
    named = f.named;
    exported = owned_fewer Token token_number token_object token_client past p tokens f.exported;
    framed =
        owned_fewer Framebuffer framebuffer_number framebuffer_object framebuffer_client past q framebuffers f.framed;
    added = all_filter (WasAdded past) q framebuffers f.added;
  }

  -- Rows still follow from the history after a step that grants, takes and publishes no handle.
  pub silent : (step : AnsweredEvent) (holds : List HandleRow) → IsSilent step
      → Facts past holds names tokens framebuffers → Facts (step ∷ past) holds names tokens framebuffers
  silent step holds s f =
      record
      { held = holds_stay step past holds s.gives s.takes_none f.held; numbers = numbers_still step s.publishes f.numbers }

  -- Rows still follow from the history after a step that takes handles and publishes nothing.
  pub taking : (step : AnsweredEvent) (test : ℕ → ℕ → Bool) (holds : List HandleRow)
      → ((c h : ℕ) → gift step c h ≡ None) → ((c h : ℕ) → takes step c h ≡ test c h)
      → ((key : Key) → holder_under step key ≡ None) →
      Facts past holds names tokens framebuffers → Facts (step ∷ past) (filter (kept_by test) holds) names tokens
      framebuffers
  taking step test holds g t p f =
      record { held = holds_go step past test holds g t f.held; numbers = numbers_still step p f.numbers }

-- Rows still follow from the history after a sweep, which removes names alone of them.
pub swept_facts : (past : List AnsweredEvent) (w : Rows) → FactsOf past w → FactsOf past (journaled (swept w))
unfolding swept
swept_facts past w f = record {
  held = f.held;
  numbers =
      record
      { named = numbered_fewer Name name_number name_object past _ w.names f.numbers.named; exported = f.numbers.exported; framed = f.numbers.framed; added = f.numbers.added };
}
