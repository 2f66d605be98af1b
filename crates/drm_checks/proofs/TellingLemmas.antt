-- A difference that is told in two parts.
use Rattle.std.proofs.Common.{◌≡◌, ℕ, List, [], ◌++◌, refl, sym, ap, append-nil}
use Rattle.drm_frames.specs.Streams.{SinkTrace}
use Rattle.drm_frames.specs.Turns.{WriteCost}
use Rattle.drm_frames.specs.Texts.{WritesOut}
use Rattle.drm_frames.specs.declared.turns.Written.{Written}
use Rattle.drm_frames.specs.declared.turns.Written.TheVariants as written
use Rattle.drm_frames.proofs.Traces.{WriteCost-none, WriteCost-then}
use Rattle.drm_frames.proofs.TextLemmas.{stops}

-- A text that was written, and then a second, are written together.
pub told_then : (end : Written) (a b c : SinkTrace) (xs ys : List ℕ) (s t u : ℕ) → WriteCost a b xs s t
    → WritesOut end b c ys t u → WritesOut end a c (xs ++ ys) s u
told_then written.Whole a b c xs ys s t u p w = WriteCost-then p w
told_then written.Fault a b c xs ys s t u p w =
    stops written.Fault (λ e. absurd (cc)) a b c xs ys [] (xs ++ ys) s t u (ap (λ z. xs ++ z) (sym (append-nil ys))) p w
told_then written.TurnsUsed a b c xs ys s t u p w =
    stops written.TurnsUsed (λ e. absurd (cc)) a b c xs ys [] (xs ++ ys) s t u (ap (λ z. xs ++ z) (sym (append-nil ys)))
    p w

-- If the first of two texts was not written whole, the two together were not.
pub told_part : (end : Written) (a c : SinkTrace) (xs ys : List ℕ) (s u : ℕ) → (end ≡ written.Whole → ⊥)
    → WritesOut end a c xs s u → WritesOut end a c (xs ++ ys) s u
told_part end a c xs ys s u other w = stops end other a a c [] xs ys (xs ++ ys) s s u refl (WriteCost-none a s) w
