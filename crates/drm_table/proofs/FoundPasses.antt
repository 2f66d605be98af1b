-- What is found passes the test.
use Rattle.std.proofs.Common.{◌≡◌, Bool, true, false, cond, List, [], ◌∷◌, find, Option, Some, refl, sym, ap, ◌∙◌}

found-by : {A : Type 0} (test : A → Bool) (y x : A) (rest : Option A) (b : Bool) → test y ≡ b
    → (rest ≡ Some x → test x ≡ true) → cond b (Some y) rest ≡ Some x → test x ≡ true
found-by test y x rest true t later e = let same : y ≡ x = cc in ap test (sym same) ∙ t
found-by test y x rest false t later e = later e

-- An element that is found passes the test.
pub found-passes : {A : Type 0} (test : A → Bool) (xs : List A) (x : A) → find test xs ≡ Some x → test x ≡ true
found-passes test [] x e = absurd cc
found-passes test (y ∷ xs) x e = found-by test y x (find test xs) (test y) refl (found-passes test xs x) e
