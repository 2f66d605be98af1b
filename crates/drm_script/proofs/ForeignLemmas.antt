-- Whether a line has a byte above 127.
use Rattle.std.proofs.Common.{◌≡◌, ℕ, ◌+◌, List, [], ◌∷◌, length, refl, sym, ◌∙◌, arith, Bool, true, false, not, cond, nat_lt, Some, None, suc}
use Rattle.std.specs.Char.{is_ascii}
use Rattle.std.specs.List.{list_all, position, position_or_len}
use Rattle.std.specs.Option.{is_none}
use Rattle.std.proofs.lemmas.Bool.Decides.{nat_tests}

none_case : (b : Bool) (k : ℕ) → is_none (cond b (Some k) None) ≡ not b
none_case true k = refl
none_case false k = refl

ascii_case : (x : ℕ) (b : Bool) → nat_lt 127 x ≡ b → is_ascii x ≡ not b
ascii_case x true e = grind (arith, nat_tests)
ascii_case x false e = grind (arith, nat_tests)

lt_case : (m n : ℕ) (b c : Bool) → nat_lt (suc m) (suc n) ≡ b → nat_lt m n ≡ c → b ≡ c
lt_case m n true true h e = refl
lt_case m n true false h e = absurd (grind (arith, nat_tests))
lt_case m n false true h e = absurd (grind (arith, nat_tests))
lt_case m n false false h e = refl

next_lt : (m n : ℕ) → nat_lt (suc m) (suc n) ≡ nat_lt m n
next_lt m n = lt_case m n _ _ refl refl

some_place : (n : ℕ) → nat_lt 0 (suc n) ≡ true
some_place n = grind (arith, nat_tests)

place_case : (x : ℕ) (xs : List ℕ) (b : Bool) → nat_lt 127 x ≡ b
    → not (nat_lt (position_or_len (nat_lt 127) xs) (length xs)) ≡ list_all is_ascii xs
    → not (nat_lt (cond (not b) (1 + position_or_len (nat_lt 127) xs) 0) (length (x ∷ xs))) ≡ list_all is_ascii (x ∷ xs)
place_case x xs true e h = rw (ascii_case x true e, some_place (length xs)) refl
place_case x xs false e h =
    let next : 1 + position_or_len (nat_lt 127) xs ≡ suc (position_or_len (nat_lt 127) xs) = omega arith in
    rw (next, ascii_case x false e, next_lt (position_or_len (nat_lt 127) xs) (length xs)) h

places : (xs : List ℕ) → not (nat_lt (position_or_len (nat_lt 127) xs) (length xs)) ≡ list_all is_ascii xs
places [] = refl
places (x ∷ xs) = place_case x xs (nat_lt 127 x) refl (places xs)

-- All bytes are ASCII if and only if none is above 127.
pub all_ascii : (line : List ℕ) → list_all is_ascii line ≡ is_none (position (nat_lt 127) line)
all_ascii line = sym (none_case (nat_lt (position_or_len (nat_lt 127) line) (length line)) _ ∙ places line)
