-- The text before the first byte that passes a test.
use Rattle.std.proofs.Common.{◌≡◌, ℕ, ◌+◌, List, [], ◌∷◌, take, refl, ap, arith, Bool, true, false, not, cond, suc}
use Rattle.std.specs.List.{position_or_len}

abbrev pub front : (ℕ → Bool) → List ℕ → List ℕ
front p [] = []
front p (b ∷ bs) = cond (p b) [] (b ∷ front p bs)

front_at : (p : ℕ → Bool) (b : ℕ) (bs : List ℕ) (t : Bool) → front p bs ≡ take (position_or_len p bs) bs
    → cond t [] (b ∷ front p bs) ≡ take (cond (not t) (1 + position_or_len p bs) 0) (b ∷ bs)
front_at p b bs true h = refl
front_at p b bs false h =
    let e : 1 + position_or_len p bs ≡ suc (position_or_len p bs) = omega arith in
    rw e (ap (λ l. b ∷ l) h)

-- The front of a text is what is before the first byte that passes, or all of it.
pub front-take : (p : ℕ → Bool) (text : List ℕ) → front p text ≡ take (position_or_len p text) text
front-take p [] = refl
front-take p (b ∷ bs) = front_at p b bs (p b) (front-take p bs)
