use Rattle.std.proofs.Common.{◌≡◌, ℕ, List, ◌++◌, length}
use Rattle.drm_state.specs.Parts.{token_keys, without_tokens_of}
use Rattle.drm_state.specs.Invariants.{AreCounted}
use Rattle.drm_state.proofs.Counting.{IsStep}
use Rattle.drm_client_calls.proofs.closings.close_tokens.Given as goal

abbrev pub invariant-loop-taken : goal.invariant-loop-taken
invariant-loop-taken l = record {
  others : without_tokens_of l.client l.tokens ≡ without_tokens_of l.client l.fn.tokens;
  left : (keys more : List ℕ) → AreCounted keys (token_keys l.fn.tokens.tokens ++ more) l.fn.objects.objects
      → IsStep l.fn.objects.objects keys (token_keys l.tokens.tokens ++ more) l.objects;
  limit : l.objects.limit ≡ l.fn.objects.limit;
}

abbrev pub decreases-loop-taken : goal.decreases-loop-taken
decreases-loop-taken l = length l.tokens.tokens
