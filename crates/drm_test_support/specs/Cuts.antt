-- The bytes that are left before a cut of a source (own).
use Rattle.std.specs.Prelude.{ℕ, List, take}
use Rattle.drm_test_support.specs.declared.cuts.Cut.{Cut}
use Rattle.drm_test_support.specs.declared.cuts.Cut.TheVariants.{Never, End, Fault, Interrupted, Interruptions}

-- those before the place where it ends or fails; interruptions take none
abbrev pub left_by : Cut → List ℕ → List ℕ
left_by Never bytes = bytes
left_by (End at) bytes = take at bytes
left_by (Fault at) bytes = take at bytes
left_by (Interrupted times at) bytes = bytes
left_by (Interruptions times) bytes = bytes
