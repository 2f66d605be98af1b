use Rattle.std.proofs.Common.{◌≡◌, ◌+◌, drop}
use Rattle.drm_explanations.specs.Rows.{label_of, letter_of}
use Rattle.drm_explanations.proofs.names.label_of.Given as goal

abbrev pub invariant-loop-place : goal.invariant-loop-place
invariant-loop-place l = label_of l.labels l.client ≡ letter_of (97 + l.place) (drop l.place l.labels) l.client
