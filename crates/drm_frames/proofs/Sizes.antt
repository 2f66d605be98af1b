-- Fields of one size, and options of a test.
use Rattle.std.proofs.Common.{◌≡◌, ℕ, Bool, true, false, cond, List, length, Option, Some, None, refl, ap, ◌∙◌}
use Rattle.std.specs.Prelude.{◌&&◌, nat_eq}
use Rattle.std.proofs.lemmas.Bool.{eqb-true}
use Rattle.drm_frames.specs.Grammar.{FrameValue, frame_value, if_size}

-- If a value follows only if a test passes, and there is one, the test passes.
pub cond-some : {A : Type 0} (b : Bool) (x : Option A) (a : A) → cond b x None ≡ Some a → (b ≡ true) × (x ≡ Some a)
cond-some true x a e = (refl, e)
cond-some false x a e = absurd cc

-- Equal options have equal values.
pub some-is : {A : Type 0} (x a : A) → Some x ≡ Some a → x ≡ a
some-is x a e = cc

-- If a value is read from fields of one size, they have this size.
pub size-some : {A : Type 0} (n : ℕ) (fields : List ℕ) (said a : A) → if_size n fields said ≡ Some a
    → (length fields ≡ n) × (said ≡ a)
size-some n fields said a e =
    let t = cond-some (nat_eq (length fields) n) (Some said) a e in
    (eqb-true (length fields) n t.0, some-is said a t.1)

-- Two tests that pass together both pass.
pub both-true : (a b : Bool) → a && b ≡ true → (a ≡ true) × (b ≡ true)
both-true true b e = (refl, e)
both-true false b e = absurd cc

-- A frame with this number and these fields is the one made of them.
pub frame_value-is : (f : FrameValue) (n : ℕ) (xs : List ℕ) → f.number ≡ n → f.fields ≡ xs → f ≡ frame_value n xs
frame_value-is f n xs a b = ap (λ (k : ℕ). frame_value k f.fields) a ∙ ap (λ (y : List ℕ). frame_value n y) b
