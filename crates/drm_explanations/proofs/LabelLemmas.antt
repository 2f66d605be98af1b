-- The label of a client, one label after the other.
use Rattle.std.proofs.Common.{◌≡◌, ℕ, ◌+◌, ◌<◌, ◌≤◌, ◌==◌, true, false, cond, List, [], ◌∷◌, length, get_or, drop, None, Some, refl, sym, ◌∙◌, ap, arith, drop-cons, add-one, zero, suc}
use Rattle.drm_explanations.specs.Rows.{label_of, letter_of}

drop_past : (labels : List ℕ) (n : ℕ) → length labels ≤ n → drop n labels ≡ []
drop_past [] zero past = refl
drop_past [] (suc n) past = refl
drop_past (label ∷ labels) zero past = absurd (omega (arith, past))
drop_past (label ∷ labels) (suc n) past = drop_past labels n (omega (arith, past))

at_place : (labels : List ℕ) (c place d : ℕ) → place < length labels →
    letter_of (97 + place) (drop place labels) c
    ≡ cond (get_or labels place d == c) (Some (97 + place)) (letter_of (97 + place + 1) (drop (place + 1) labels) c)
at_place labels c place d within =
    ap (λ (l : List ℕ). letter_of (97 + place) l c) (drop-cons labels place d within)
    ∙ ap (λ (n : ℕ). cond (get_or labels place d == c) (Some (97 + place)) (letter_of (97 + place + 1) (drop n labels) c)) (sym (add-one place))

-- The label at this place names the client, and none before.
pub label_here : (labels : List ℕ) (c place d : ℕ) → place < length labels
    → label_of labels c ≡ letter_of (97 + place) (drop place labels) c
    → (get_or labels place d == c) ≡ true → label_of labels c ≡ Some (97 + place)
label_here labels c place d within so_far names =
    so_far ∙ at_place labels c place d within
    ∙ ap (λ b. cond b (Some (97 + place)) (letter_of (97 + place + 1) (drop (place + 1) labels) c)) names

-- The label at this place does not name the client, and none before.
pub label_later : (labels : List ℕ) (c place d : ℕ) → place < length labels
    → label_of labels c ≡ letter_of (97 + place) (drop place labels) c
    → (get_or labels place d == c) ≡ false → label_of labels c ≡ letter_of (97 + (place + 1)) (drop (place + 1) labels) c
label_later labels c place d within so_far other =
    so_far ∙ at_place labels c place d within
    ∙ ap (λ b. cond b (Some (97 + place)) (letter_of (97 + place + 1) (drop (place + 1) labels) c)) other
    ∙ ap (λ (n : ℕ). letter_of n (drop (place + 1) labels) c) (let e : 97 + place + 1 ≡ 97 + (place + 1) = omega arith in e)

-- No label names the client.
pub label_nowhere : (labels : List ℕ) (c place : ℕ) → length labels ≤ place
    → label_of labels c ≡ letter_of (97 + place) (drop place labels) c → label_of labels c ≡ None
label_nowhere labels c place past so_far =
    so_far ∙ ap (λ (l : List ℕ). letter_of (97 + place) l c) (drop_past labels place past)
