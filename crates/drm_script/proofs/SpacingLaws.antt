-- The words of a line are what is between its spaces.
use Rattle.std.proofs.Common.{◌≡◌, ◌≢◌, ℕ, List, [], ◌∷◌, ◌++◌, refl, sym, ap, subst, ◌∙◌, arith, Bool, true, false, cond, lit<}
use Rattle.std.proofs.lemmas.Bool.Decides.{nat_tests}
use Rattle.drm_script.specs.Words.{is_space, with_byte, begins_word, words_of, IsWord, IsAtBreak, AreWords}
use Rattle.drm_script.specs.Words.AreWords.{none, space, word}

-- ---- the words of a text are in it

-- a byte that is no space, before a text that begins with a word
longer : {bs : List ℕ} {words : List (List ℕ)} (b : ℕ) → b ≢ 32 → begins_word bs ≡ true → AreWords bs words
    → AreWords (b ∷ bs) (with_byte b true words)
longer b n t none = absurd (cc)
longer b n t (space h) = absurd (cc)
longer b n t (word w is_word end h) = word (b ∷ w) (omega arith, (n, is_word.1)) end h

between : (bs : List ℕ) → begins_word bs ≡ false → IsAtBreak bs
between [] e = tt
between (b ∷ bs) e = between_at b (is_space b) refl e
  where
    between_at : (b : ℕ) (t : Bool) → t ≡ is_space b → cond t false true ≡ false → b ≡ 32
    between_at b true t e = grind (arith, nat_tests)
    between_at b false t e = absurd (cc)

with_letter : (b : ℕ) (bs : List ℕ) (t : Bool) → b ≢ 32 → begins_word bs ≡ t → AreWords bs (words_of bs)
    → AreWords (b ∷ bs) (with_byte b t (words_of bs))
with_letter b bs true n e h = longer b n e h
with_letter b bs false n e h = word (b ∷ []) (lit< tt, (n, tt)) (between bs e) h

with_first : (b : ℕ) (bs : List ℕ) (t : Bool) → t ≡ is_space b → AreWords bs (words_of bs)
    → AreWords (b ∷ bs) (cond t (words_of bs) (with_byte b (begins_word bs) (words_of bs)))
with_first b bs true t h =
    let blank : b ≡ 32 = grind (arith, nat_tests) in
    let P : ℕ → Type 0 = λ c. AreWords (c ∷ bs) (words_of bs) in
    subst P (sym blank) (space h)
with_first b bs false t h = with_letter b bs (begins_word bs) (grind (arith, nat_tests)) refl h

-- The words of a text are what is between its spaces.
pub words_of-stand : (text : List ℕ) → AreWords text (words_of text)
words_of-stand [] = none
words_of-stand (b ∷ bs) = with_first b bs (is_space b) refl (words_of-stand bs)

-- ---- what is between its spaces are the words of the text

no_space : (b : ℕ) → b ≢ 32 → is_space b ≡ false
no_space b n = grind (arith, nat_tests)

ended : (text : List ℕ) → IsAtBreak text → begins_word text ≡ false
ended [] h = refl
ended (b ∷ bs) h = rw h refl

words_of-word : (w text : List ℕ) → IsWord w → IsAtBreak text → words_of (w ++ text) ≡ w ∷ words_of text
words_of-word [] text h end = absurd (omega arith)
words_of-word (b ∷ []) text h end = rw (no_space b h.1.0) (rw (ended text end) refl)
words_of-word (b ∷ c ∷ w) text h end =
    let rest = words_of-word (c ∷ w) text (omega arith, h.1.1) end in
    let first = no_space b h.1.0 in
    let second = no_space c h.1.1.0 in
    rw first (rw rest (rw second refl))

-- What is between the spaces of a text are its words.
pub words_of-are : {text : List ℕ} {words : List (List ℕ)} → AreWords text words → words_of text ≡ words
words_of-are none = refl
words_of-are (space h) = words_of-are h
words_of-are (word w {text = text} is_word end h) =
    words_of-word w text is_word end ∙ ap (λ ws. w ∷ ws) (words_of-are h)
