use Rattle.std.proofs.Common.{◌≡◌, ◌+◌, map, take}
use Rattle.arrayvec.specs.ArrayVec.{array_vec_len}
use Rattle.drm_runs.proofs.lists.encoder_ids.Given as goal

abbrev pub invariant-loop-place : goal.invariant-loop-place
invariant-loop-place l =
    (l.ids.items ≡ map (λ place. l.before + place) (take l.place-index l.places)) ×
    (array_vec_len l.ids ≡ l.place-index)
