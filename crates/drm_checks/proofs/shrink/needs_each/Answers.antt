use Rattle.std.proofs.Common.{◌≡◌, ℕ, suc, ◌+◌, ◌<◌, ◌≤◌, ◌⊎◌, inl, inr, sym, subst, arith}
use Rattle.std.proofs.Math.Nat.{le-suc_iff}
use Rattle.drm_checks.proofs.shrink.needs_each.Goals as goal

-- what holds of all numbers below one, and of that one, holds of all up to it
up_to : {P : ℕ → Type 0} (n k : ℕ) → ((i : ℕ) → i < n → P i) → P n → k < n + 1 → P k
up_to {P} n k below here h = split (le-suc_iff.0 (omega (arith, h)))
  where
    split : (k + 1 ≤ n) ⊎ (k + 1 ≡ suc n) → P k
    split (inl less) = below k (omega (arith, less))
    split (inr same) = let is : n ≡ k = omega (arith, same) in subst P is here

pub loop-place-preserved : goal.loop-place-preserved
loop-place-preserved c = λ line. up_to c.loop-place.place line c.loop-place.invariant (c.in_ok-is_needed.ensures.needed c.if-not-branch.false)

pub returns-clause-needed : goal.returns-clause-needed
returns-clause-needed c = λ _ line h.
    let end = c.loop-place-test.false in c.loop-place.invariant line (omega (arith, h, end))
