use Rattle.std.proofs.Common.{◌≡◌, suc, ◌∙◌, arith}
use Rattle.drm_turns.proofs.Rule.{number_is}
use Rattle.drm_turns.proofs.laws.numbers_differ.Goals as goal

pub returns : goal.returns
returns c s i j v w r at_i at_j live_i live_j some_number same =
    let first : v.number ≡ suc i = number_is s r i v at_i live_i some_number in
    let second : w.number ≡ suc j = number_is s r j w at_j live_j (λ z. some_number (same ∙ z)) in
    omega arith
