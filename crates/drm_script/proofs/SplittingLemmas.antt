-- The first line of a text, and the lines after it.
use Rattle.std.proofs.Common.{◌≡◌, ◌≢◌, ℕ, ◌+◌, ◌≤◌, List, [], ◌∷◌, length, take, drop, position, refl, sym, ap, ◌∙◌, arith, Bool, true, false, not, cond, nat_lt, suc, Some, None}
use Rattle.std.specs.List.{position_or_len}
use Rattle.std.proofs.lemmas.Option.{cond_some, none-some}
use Rattle.std.proofs.lemmas.List.{take_all, drop_all}
use Rattle.std.proofs.lemmas.Bool.Decides.{nat_tests}
use Rattle.drm_script.specs.Lines.{is_line_end, with_line_byte, lines_of}
use Rattle.drm_script.proofs.FrontLemmas.{front, front-take}

-- where the first line ends, which is the end of the text where no line does
abbrev pub end_of : List ℕ → ℕ
end_of text = position_or_len is_line_end text

-- the text after the end of the first line
abbrev pub behind : List ℕ → List ℕ
behind [] = []
behind (b ∷ bs) = cond (is_line_end b) bs (behind bs)

begins : (b : ℕ) (bs : List ℕ) (e : Bool) → is_line_end b ≡ e
    → (length bs ≢ 0 → lines_of bs ≡ front is_line_end bs ∷ lines_of (behind bs))
    → cond e ([] ∷ lines_of bs) (with_line_byte b (lines_of bs)) ≡ cond e [] (b ∷ front is_line_end bs) ∷ lines_of (cond e bs (behind bs))
begins b bs true is h = refl
begins b [] false is h = refl
begins b (c ∷ cs) false is h = rw (h (omega arith)) refl

lines-begin : (text : List ℕ) → length text ≢ 0 → lines_of text ≡ front is_line_end text ∷ lines_of (behind text)
lines-begin [] some = absurd (some refl)
lines-begin (b ∷ bs) some = begins b bs (is_line_end b) refl (lines-begin bs)

behind_at : (b : ℕ) (bs : List ℕ) (e : Bool) → behind bs ≡ drop (end_of bs + 1) bs
    → cond e bs (behind bs) ≡ drop (cond (not e) (1 + end_of bs) 0 + 1) (b ∷ bs)
behind_at b bs true h = refl
behind_at b bs false h =
    let e : 1 + end_of bs + 1 ≡ suc (end_of bs + 1) = omega arith in
    rw e h

behind-drop : (text : List ℕ) → behind text ≡ drop (end_of text + 1) text
behind-drop [] = refl
behind-drop (b ∷ bs) = behind_at b bs (is_line_end b) (behind-drop bs)

-- ---- the result of `first_line`

-- If a text has a line end, its first line is before it and the others follow it.
pub ended_line : (text : List ℕ) (at : ℕ) → position is_line_end text ≡ Some at → text ≢ []
    → lines_of text ≡ take at text ∷ lines_of (drop (at + 1) text)
ended_line [] at p some = absurd (some refl)
ended_line (b ∷ bs) at p some =
    let text : List ℕ = b ∷ bs in
    let place : end_of text ≡ at = (cond_some _ _ _ p).1 in
    lines-begin text (omega arith)
    ∙ ap (λ l. l ∷ lines_of (behind text)) (front-take is_line_end text ∙ ap (λ k. take k text) place)
    ∙ ap (λ r. take at text ∷ lines_of r) (behind-drop text ∙ ap (λ k. drop (k + 1) text) place)

no_end : (e : Bool) (m n : ℕ) → e ≡ nat_lt m n → cond e (Some m) None ≡ None → n ≤ m
no_end true m n is h = absurd (none-some m (sym h))
no_end false m n is h = grind (arith, nat_tests)

-- If a text has no line end, it is its only line.
pub last_line : (text : List ℕ) → position is_line_end text ≡ None → text ≢ [] → lines_of text ≡ text ∷ lines_of []
last_line [] p some = absurd (some refl)
last_line (b ∷ bs) p some =
    let text : List ℕ = b ∷ bs in
    let past : length text ≤ end_of text = no_end _ _ _ refl p in
    lines-begin text (omega arith)
    ∙ ap (λ l. l ∷ lines_of (behind text)) (front-take is_line_end text ∙ take_all _ text past)
    ∙ ap (λ r. text ∷ lines_of r) (behind-drop text ∙ drop_all _ text (omega arith))
