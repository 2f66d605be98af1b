-- One that refers to objects fewer, step by step.
use Rattle.std.proofs.Common.{◌≡◌, ℕ, true, ◌==◌, ◌||◌, List, ◌∷◌, ◌++◌, sym, ap, ◌∙◌}
use Rattle.std.proofs.lemmas.Bool.{or_right}
use Rattle.drm_index_array.specs.Numbers.{is_among}
use Rattle.drm_index_array.specs.Orders.{SameRows}
use Rattle.drm_index_array.proofs.Numbers.{among-append}
use Rattle.drm_index_array.proofs.Orders.{same-any}
use Rattle.drm_gem.specs.declared.object.Object.{Object}
use Rattle.drm_gem.specs.Objects.{ObjectSet}
use Rattle.drm_state.proofs.Counting.{IsStep, named_trans, among-between}

one_more : (keys refs fewer : List ℕ) (k n : ℕ) → SameRows refs (k ∷ fewer) → is_among (keys ++ fewer) n ≡ true
    → is_among (keys ++ refs) n ≡ true
one_more keys refs fewer k n same e =
    among-append keys refs n ∙ ap (λ b. is_among keys n || b) (same-any (λ m. m == n) refs (k ∷ fewer) same)
    ∙ sym (among-append keys (k ∷ fewer) n) ∙ among-between keys fewer k n
    ∙ or_right (k == n) (is_among (keys ++ fewer) n) e

-- Two parts that leave fewer references, one after the other, leave fewer together.
pub further : (start : List Object) (set new : ObjectSet) (keys refs fewer : List ℕ) (k : ℕ) → SameRows refs (k ∷ fewer)
    → IsStep start keys refs set → IsStep set.objects keys fewer new → IsStep start keys fewer new
further start set new keys refs fewer k same h step =
    record
    { invariants = step.invariants; named = named_trans start set.objects new.objects (keys ++ refs) (keys ++ fewer) (λ n e. one_more keys refs fewer k n same e) h.named step.named }
