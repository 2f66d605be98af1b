use Rattle.std.proofs.Common.{◌≡◌, ◌+◌, ◌-◌, ◌≤◌, ◌++◌, ℕ, Bool, filter, length}
use Rattle.drm_modes.specs.Numbers.{numbers_from}
use Rattle.drm_leases.proofs.lists.passing.Given as goal

-- the numbers that passed so far, and those that are still to come
abbrev pub invariant-loop-id : goal.invariant-loop-id
invariant-loop-id g l = record {
  callable : goal.F-IsAlwaysCallable g l.test;
  told : (p : ℕ → Bool) → ((n : ℕ) (b : Bool) → 1 ≤ n → n ≤ 64 → goal.F-post g l.test n b → b ≡ p n)
      → l.list ++ filter p (numbers_from l.id (l.last + 1 - l.id)) ≡ filter p (numbers_from 1 l.last);
  short : length l.list + 1 ≤ l.id;
}
