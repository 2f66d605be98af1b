-- The end of a text.
use Rattle.std.proofs.Common.{◌≡◌, ℕ, ◌+◌, ◌-◌, ◌≤◌, List, [], ◌∷◌, ◌++◌, length, take, drop, refl, sym, ap, ◌∙◌, arith, Bool, true, false, cond, zero, suc}
use Rattle.std.proofs.lemmas.List.{append_assoc, append-nil, length-append, take-append-drop, length-drop, nil_from_length}
use Rattle.std.proofs.Math.Seq.{drop-append_seam}
use Rattle.drm_script.specs.Words.{words_of, with_byte, begins_word, is_space, trimmed, IsEndOf}

-- The end of an end of a text is an end of the text.
pub end_of-end : {text rest end : List ℕ} → IsEndOf text rest → IsEndOf rest end → IsEndOf text end
end_of-end h g = (h.0 ++ g.0, h.1 ∙ ap (λ x. h.0 ++ x) g.1 ∙ sym (append_assoc h.0 g.0 _))

trimmed_case : (x : ℕ) (xs : List ℕ) (b : Bool) → IsEndOf xs (trimmed xs)
    → IsEndOf (x ∷ xs) (cond b (trimmed xs) (x ∷ xs))
trimmed_case x xs true h = (x ∷ h.0, ap (λ y. x ∷ y) h.1)
trimmed_case x xs false h = ([], refl)

-- A text without its first spaces is an end of the text.
pub trimmed_end : (xs : List ℕ) → IsEndOf xs (trimmed xs)
trimmed_end [] = ([], refl)
trimmed_end (x ∷ xs) = trimmed_case x xs (is_space x) (trimmed_end xs)

-- A text without its first bytes is an end of the text.
pub drop_end : (n : ℕ) (xs : List ℕ) → IsEndOf xs (drop n xs)
drop_end n xs = (take n xs, sym (take-append-drop n xs))

-- The empty text is an end of each text.
pub nil_end : (xs : List ℕ) → IsEndOf xs []
nil_end xs = (xs, sym (append-nil xs))

-- An end of a text is not longer than the text.
pub end_short : {text end : List ℕ} → IsEndOf text end → length end ≤ length text
end_short {text} {end} h =
    let long : length text ≡ length h.0 + length end = ap length h.1 ∙ length-append h.0 end in
    omega arith

-- An end of a text is left if as many bytes as are in front of it are dropped.
pub dropped : {text end : List ℕ} → IsEndOf text end → drop (length text - length end) text ≡ end
dropped {text} {end} h =
    let long : length text ≡ length h.0 + length end = ap length h.1 ∙ length-append h.0 end in
    let front : length text - length end ≡ length h.0 = omega arith in
    rw front (rw h.1 (drop-append_seam h.0 end))

-- ---- the number of words

with_byte_few : (b : ℕ) (t : Bool) (words : List (List ℕ)) → length (with_byte b t words) ≤ 1 + length words
with_byte_few b true (w ∷ ws) = omega arith
with_byte_few b true [] = omega arith
with_byte_few b false ws = omega arith

few_case : (x : ℕ) (xs : List ℕ) (b : Bool) → length (words_of xs) ≤ length xs
    → length (cond b (words_of xs) (with_byte x (begins_word xs) (words_of xs))) ≤ length (x ∷ xs)
few_case x xs true h = omega (arith, h)
few_case x xs false h = omega (arith, h, with_byte_few x (begins_word xs) (words_of xs))

-- A text has at most as many words as bytes.
pub words_few : (xs : List ℕ) → length (words_of xs) ≤ length xs
words_few [] = omega arith
words_few (x ∷ xs) = few_case x xs (is_space x) (words_few xs)

-- ---- words that are left

-- If the words left begin with w, the words after it are left next.
pub drop_next : (n : ℕ) (ws : List (List ℕ)) (w : List ℕ) (rest : List (List ℕ)) → drop n ws ≡ w ∷ rest
    → drop (suc n) ws ≡ rest
drop_next zero [] w rest e = absurd (cc)
drop_next zero (v ∷ vs) w rest e = cc
drop_next (suc n) [] w rest e = absurd (cc)
drop_next (suc n) (v ∷ vs) w rest e = drop_next n vs w rest e

-- If no words are left at a place, none are left past it.
pub drop_past : (n m : ℕ) (ws : List (List ℕ)) → n ≤ m → drop n ws ≡ [] → drop m ws ≡ []
drop_past n m ws h e =
    let none : length ws - n ≡ 0 = sym (length-drop n ws) ∙ ap length e in
    let none_yet : length ws - m ≡ 0 = omega arith in
    nil_from_length (drop m ws) (length-drop m ws ∙ none_yet)
