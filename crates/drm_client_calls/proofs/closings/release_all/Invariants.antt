use Rattle.std.proofs.Common.{ℕ, List, ◌++◌, length}
use Rattle.drm_state.specs.Parts.{keys_of}
use Rattle.drm_state.specs.Invariants.{AreCounted, Leaves}
use Rattle.drm_state.proofs.Contents.{rest_keys}
use Rattle.drm_client_calls.proofs.closings.release_all.Given as goal

abbrev pub invariant-loop-hold : goal.invariant-loop-hold
invariant-loop-hold l =
    (refs : List ℕ) → AreCounted (keys_of l.fn.files.holds) refs l.fn.objects.objects → Leaves l.fn.names l.fn.objects
    (rest_keys l.rest ++ keys_of l.files.holds) refs l.names l.objects

abbrev pub decreases-loop-hold : goal.decreases-loop-hold
decreases-loop-hold l = length l.rest
