-- A line from its first word on.
use Rattle.std.proofs.Common.{◌≡◌, ℕ, ◌+◌, ◌≤◌, ◌<◌, List, [], ◌∷◌, length, take, drop, refl, sym, ap, ◌∙◌, arith, Bool, true, false, not, cond, nat_lt, suc, Some, None}
use Rattle.std.specs.List.{position, position_or_len}
use Rattle.std.proofs.lemmas.Option.{cond_some, none-some}
use Rattle.std.proofs.lemmas.List.{nil_from_length, take_all, drop_all}
use Rattle.std.proofs.lemmas.Bool.Decides.{nat_tests}
use Rattle.drm_script.specs.Words.{words_of, with_byte, begins_word, is_space, trimmed}
use Rattle.drm_script.proofs.FrontLemmas.{front, front-take}

-- the text from the first space on
abbrev pub behind : List ℕ → List ℕ
behind [] = []
behind (b ∷ bs) = cond (is_space b) (b ∷ bs) (behind bs)

trimmed_at : (x : ℕ) (xs : List ℕ) (b : Bool) → is_space x ≡ b → words_of (trimmed xs) ≡ words_of xs
    → words_of (cond b (trimmed xs) (x ∷ xs)) ≡ words_of (x ∷ xs)
trimmed_at x xs true e h = rw e h
trimmed_at x xs false e h = refl

-- The first spaces of a text do not change its words.
pub words-trimmed : (xs : List ℕ) → words_of (trimmed xs) ≡ words_of xs
words-trimmed [] = refl
words-trimmed (x ∷ xs) = trimmed_at x xs (is_space x) refl (words-trimmed xs)

-- the text begins with no space
abbrev pub BeginsWord : List ℕ → Type 0
BeginsWord [] = Unit {0}
BeginsWord (b ∷ bs) = is_space b ≡ false

trimmed_begins_at : (x : ℕ) (xs : List ℕ) (b : Bool) → is_space x ≡ b → BeginsWord (trimmed xs)
    → BeginsWord (cond b (trimmed xs) (x ∷ xs))
trimmed_begins_at x xs true e h = h
trimmed_begins_at x xs false e h = e

-- A text without its first spaces is empty or begins with a word.
pub trimmed_begins : (xs : List ℕ) → BeginsWord (trimmed xs)
trimmed_begins [] = tt
trimmed_begins (x ∷ xs) = trimmed_begins_at x xs (is_space x) refl (trimmed_begins xs)

first_word_at : (x y : ℕ) (ys : List ℕ) (b : Bool) → is_space y ≡ b
    → with_byte y (begins_word ys) (words_of ys) ≡ (y ∷ front is_space ys) ∷ words_of (behind ys)
    → with_byte x (cond b false true) (cond b (words_of ys) (with_byte y (begins_word ys) (words_of ys))) ≡ (x ∷ cond b [] (y ∷ front is_space ys)) ∷ words_of (cond b (y ∷ ys) (behind ys))
first_word_at x y ys true e h = rw e refl
first_word_at x y ys false e h = rw h refl

first_word : (x : ℕ) (xs : List ℕ)
    → with_byte x (begins_word xs) (words_of xs) ≡ (x ∷ front is_space xs) ∷ words_of (behind xs)
first_word x [] = refl
first_word x (y ∷ ys) = first_word_at x y ys (is_space y) refl (first_word y ys)

-- A text that begins with a word has this word first and the words after it.
pub words-begin : (xs : List ℕ) → 0 < length xs → BeginsWord xs → words_of xs ≡ front is_space xs ∷ words_of (behind xs)
words-begin [] h p = absurd (omega arith)
words-begin (x ∷ xs) h p = rw p (first_word x xs)

-- where the first space is
behind_at : (x : ℕ) (xs : List ℕ) (b : Bool) → behind xs ≡ drop (position_or_len is_space xs) xs
    → cond b (x ∷ xs) (behind xs) ≡ drop (cond (not b) (1 + position_or_len is_space xs) 0) (x ∷ xs)
behind_at x xs true h = refl
behind_at x xs false h =
    let e : 1 + position_or_len is_space xs ≡ suc (position_or_len is_space xs) = omega arith in
    rw e h

-- What is after the first word is what begins with the first space.
pub behind-drop : (xs : List ℕ) → behind xs ≡ drop (position_or_len is_space xs) xs
behind-drop [] = refl
behind-drop (x ∷ xs) = behind_at x xs (is_space x) (behind-drop xs)

-- ---- what `next_word` answers

-- If a space follows the first word, the words are this one and those of the rest.
pub next_found : (text word : List ℕ) (n : ℕ) → word ≡ trimmed text → 0 < length word → position is_space word ≡ Some n
    → words_of text ≡ take n word ∷ words_of (drop n word)
next_found text word n e h p =
    let begins : BeginsWord word = rw e (trimmed_begins text) in
    let place : position_or_len is_space word ≡ n = (cond_some _ _ _ p).1 in
    sym (words-trimmed text) ∙ sym (ap words_of e) ∙ words-begin word h begins
    ∙ ap (λ w. w ∷ words_of (behind word)) (front-take is_space word ∙ ap (λ k. take k word) place)
    ∙ ap (λ r. take n word ∷ words_of r) (behind-drop word ∙ ap (λ k. drop k word) place)

no_space : (b : Bool) (m n : ℕ) → b ≡ nat_lt m n → cond b (Some m) None ≡ None → n ≤ m
no_space true m n e h = absurd (none-some m (sym h))
no_space false m n e h = grind (arith, nat_tests)

-- If no space follows the first word, it is the only one.
pub next_last : (text word : List ℕ) → word ≡ trimmed text → 0 < length word → position is_space word ≡ None
    → words_of text ≡ word ∷ words_of []
next_last text word e h p =
    let begins : BeginsWord word = rw e (trimmed_begins text) in
    let past : length word ≤ position_or_len is_space word = no_space _ _ _ refl p in
    sym (words-trimmed text) ∙ sym (ap words_of e) ∙ words-begin word h begins
    ∙ ap (λ w. w ∷ words_of (behind word)) (front-take is_space word ∙ take_all _ word past)
    ∙ ap (λ r. word ∷ words_of r) (behind-drop word ∙ drop_all _ word past)

-- If nothing but spaces is left, there are no words.
pub next_none : (text word : List ℕ) → word ≡ trimmed text → length word ≡ 0 → words_of text ≡ []
next_none text word e h = sym (words-trimmed text) ∙ sym (ap words_of e) ∙ ap words_of (nil_from_length word h)
