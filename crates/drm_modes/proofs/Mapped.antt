-- Lists of numbers, changed one after the other.
use Rattle.std.proofs.Common.{◌≡◌, ℕ, zero, suc, ◌+◌, ◌<◌, List, [], ◌∷◌, ◌++◌, map, take, drop, take_at, get_or, set, length, refl, ap, ◌∙◌, arith}
use Rattle.std.specs.List.{refill}
use Rattle.std.proofs.lemmas.List.{length-map}

one_more : (i : ℕ) → suc i ≡ i + 1
one_more i = omega arith

mapped_next : (g : ℕ → ℕ) (xs : List ℕ) (i : ℕ) → i < length xs
    → set (map g (take i xs) ++ drop i xs) i (g (get_or (map g (take i xs) ++ drop i xs) i 0)) ≡ map g (take (suc i) xs) ++ drop (suc i) xs
mapped_next g [] i lt = absurd (omega (arith, lt))
mapped_next g (x ∷ xs) zero lt = refl
mapped_next g (x ∷ xs) (suc i) lt = ap (λ ys. g x ∷ ys) (mapped_next g xs i (omega (arith, lt)))

-- After one more number is changed, one more of the list is mapped.
pub mapped_more : (g : ℕ → ℕ) (xs now : List ℕ) (i : ℕ) → i < length xs → now ≡ map g (take i xs) ++ drop i xs
    → set now i (g (get_or now i 0)) ≡ map g (take (i + 1) xs) ++ drop (i + 1) xs
mapped_more g xs now i lt is =
    ap (λ ys. set ys i (g (get_or ys i 0))) is ∙ mapped_next g xs i lt
    ∙ ap (λ n. map g (take n xs) ++ drop n xs) (one_more i)

-- A slice as long as the list, written back, is the whole list.
pub refilled : (n : ℕ) (xs ws : List ℕ) → length ws ≡ n → refill n xs ws ≡ ws
refilled n xs ws e = take_at ws (drop (length ws) xs) n e

-- A slice written back with each number changed is the mapped list.
pub refilled_map : (g : ℕ → ℕ) (xs slice now : List ℕ) → slice ≡ xs → now ≡ map g slice
    → refill (length xs) xs now ≡ map g xs
refilled_map g xs slice now same is =
    let changed = is ∙ ap (map g) same in
    refilled (length xs) xs now (ap length changed ∙ length-map xs g) ∙ changed
