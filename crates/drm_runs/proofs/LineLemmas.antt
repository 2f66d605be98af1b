-- Where a line ends.
use Rattle.std.proofs.Common.{◌≡◌, ℕ, ◌+◌, ◌-◌, ◌≤◌, ◌<◌, ◌*◌, min, List, [], ◌∷◌, ◌++◌, length, take, drop, refl, sym, ap, ◌∙◌, arith, Bool, true, false, not, cond, nat_lt, suc, Some, None, append_assoc, append-nil, take-append-drop, length-append, length-take}
use Rattle.std.proofs.lemmas.List.{length-drop, nil_from_length}
use Prim.Native.Nat.{zero}
use Rattle.std.specs.List.{position, position_or_len}
use Rattle.std.proofs.lemmas.Option.{cond_some, none-some}
use Rattle.std.proofs.lemmas.Bool.Decides.{nat_tests}
use Rattle.std.proofs.lemmas.Grind.{common_steps}
use Rattle.drm_runs.specs.Lines.{is_end, IsBare}
use Rattle.drm_runs.specs.Reader.{IsTooLong}

-- Two texts without line ends are together without one.
pub IsBare-append : (xs ys : List ℕ) → IsBare xs → IsBare ys → IsBare (xs ++ ys)
IsBare-append [] ys p q = q
IsBare-append (x ∷ xs) ys p q = (p.0, IsBare-append xs ys p.1 q)

-- The front of a text without line ends has none.
pub IsBare-take : (n : ℕ) (xs : List ℕ) → IsBare xs → IsBare (take n xs)
IsBare-take zero xs p = tt
IsBare-take (suc n) [] p = tt
IsBare-take (suc n) (x ∷ xs) p = (p.0, IsBare-take n xs p.1)

-- the front that has no line end, and what comes behind it
abbrev pub until : List ℕ → ℕ
until xs = position_or_len is_end xs

bare_at : (x : ℕ) (xs : List ℕ) (b : Bool) → is_end x ≡ b → IsBare (take (until xs) xs)
    → IsBare (take (cond (not b) (1 + until xs) 0) (x ∷ xs))
bare_at x xs true e h = tt
bare_at x xs false e h =
    let one : 1 + until xs ≡ suc (until xs) = omega arith in
    rw one (e, h)

bare_until : (xs : List ℕ) → IsBare (take (until xs) xs)
bare_until [] = tt
bare_until (x ∷ xs) = bare_at x xs (is_end x) refl (bare_until xs)

is_ten : (x : ℕ) → is_end x ≡ true → x ≡ 10
is_ten x e = grind (arith, nat_tests)

end_at : (x : ℕ) (xs : List ℕ) (b : Bool) → is_end x ≡ b
    → (until xs < length xs → drop (until xs) xs ≡ 10 ∷ drop (until xs + 1) xs)
    → cond (not b) (1 + until xs) 0 < length (x ∷ xs)
    → drop (cond (not b) (1 + until xs) 0) (x ∷ xs) ≡ 10 ∷ drop (cond (not b) (1 + until xs) 0 + 1) (x ∷ xs)
end_at x xs true e h l = ap (λ y. y ∷ xs) (is_ten x e)
end_at x xs false e h l =
    let one : 1 + until xs ≡ suc (until xs) = omega arith in
    let two : (1 + until xs) + 1 ≡ suc (until xs + 1) = omega arith in
    let below : until xs < length xs = omega arith in
    rw two (rw one (h below))

end_until : (xs : List ℕ) → until xs < length xs → drop (until xs) xs ≡ 10 ∷ drop (until xs + 1) xs
end_until [] l = absurd (omega arith)
end_until (x ∷ xs) l = end_at x xs (is_end x) refl (end_until xs) l

some_place : (xs : List ℕ) (n : ℕ) → position is_end xs ≡ Some n → (until xs ≡ n) × (n < length xs)
some_place xs n p =
    let c = cond_some _ _ _ p in
    let below : until xs < length xs = grind (arith, nat_tests, c.0) in
    (c.1, rw (← c.1) below)

-- The front of a text up to its first line end has none.
pub bare_front : (xs : List ℕ) (n : ℕ) → position is_end xs ≡ Some n → IsBare (take n xs)
bare_front xs n p = rw (← (some_place xs n p).0) (bare_until xs)

-- A text with a line end is the line, then the line end, then all that follows.
pub line_end : (xs : List ℕ) (n : ℕ) → position is_end xs ≡ Some n → xs ≡ take n xs ++ 10 ∷ drop (n + 1) xs
line_end xs n p =
    let s = some_place xs n p in
    let ending : drop n xs ≡ 10 ∷ drop (n + 1) xs = rw (← s.0) (end_until xs (rw s.0 s.1)) in
    sym (take-append-drop n xs) ∙ ap (λ l. take n xs ++ l) ending

none_place : (b : Bool) (m n : ℕ) → b ≡ nat_lt m n → cond b (Some m) None ≡ None → n ≤ m
none_place true m n e h = absurd (none-some m (sym h))
none_place false m n e h = grind (arith, nat_tests)

take_whole : (n : ℕ) (xs : List ℕ) → length xs ≤ n → take n xs ≡ xs
take_whole n xs h = grind (arith, common_steps)

-- A text in which no line end was found has none.
pub bare_all : (xs : List ℕ) → position is_end xs ≡ None → IsBare xs
bare_all xs p =
    let past : length xs ≤ until xs = none_place _ _ _ refl p in
    rw (take_whole (until xs) xs past) at (bare_until xs)

-- A text whose first 256 bytes have no line end, and that has at most 511 bytes, is a line that is too long.
pub too_long : (xs a b : List ℕ) → xs ≡ a ++ b → IsBare a → 256 ≤ length a → length xs ≤ 511
    → IsTooLong xs (take 256 a) (drop 256 a ++ b)
too_long xs a b e p l m = record {
  whole = e ∙ ap (λ z. z ++ b) (sym (take-append-drop 256 a)) ∙ append_assoc (take 256 a) (drop 256 a) b;
  bare = IsBare-take 256 a p;
  long = rw length-take (omega arith);
  behind = (let n = ap length e in let s = length-append a b in rw (length-append, length-drop) (omega arith));
}

-- ---- what one scan finds, with h held and p pending

-- A line that ends after more than 255 bytes is too long.
pub scan_long_line : (h p : List ℕ) (n : ℕ) → position is_end p ≡ Some n → length h ≤ 255 → length p ≤ 256
    → 255 < length h + n → IsBare h
    → (front rest : List ℕ) × IsTooLong (h ++ p) front rest
scan_long_line h p n e short l m bare =
    let place = some_place p n e in
    let below : n < length p = place.1 in
    let front = h ++ take n p in
    let whole : h ++ p ≡ front ++ drop n p =
    ap (λ z. h ++ z) (sym (take-append-drop n p)) ∙ sym (append_assoc h (take n p) (drop n p)) in
    let long : 256 ≤ length front = rw (length-append, length-take) (omega arith) in
    (take 256 front, drop 256 front ++ drop n p, too_long (h ++ p) front (drop n p) whole (IsBare-append h (take n p) bare (bare_front p n e)) long (rw length-append (omega arith)))

-- More than 255 bytes without a line end are a line that is too long.
pub scan_long_rest : (h p : List ℕ) → position is_end p ≡ None → length h ≤ 255 → length p ≤ 256
    → 255 < length h + length p → IsBare h
    → (front rest : List ℕ) × IsTooLong (h ++ p) front rest
scan_long_rest h p e short l m bare =
    let front = h ++ p in
    let long : 256 ≤ length front = rw length-append (omega arith) in
    (take 256 front, drop 256 front ++ [], too_long (h ++ p) front [] (sym (append-nil front)) (IsBare-append h p bare (bare_all p e)) long (rw length-append (omega arith)))

-- What is held and what is pending up to a line end are the line. The bytes after it are left.
pub scan_line : (h p : List ℕ) (n : ℕ) → position is_end p ≡ Some n → h ++ p ≡ (h ++ take n p) ++ 10 ∷ drop (n + 1) p
scan_line h p n e = ap (λ z. h ++ z) (line_end p n e) ∙ sym (append_assoc h (take n p) (10 ∷ drop (n + 1) p))

-- What was held, then all bytes that were read for it, are the line with the newest bytes at its end.
pub more_given : (old given h p line x : List ℕ) → old ++ given ≡ h ++ p → h ++ p ≡ line
    → old ++ (given ++ x) ≡ line ++ x
more_given old given h p line x e f = sym (append_assoc old given x) ∙ ap (λ z. z ++ x) (e ∙ f)

-- With fewer turns left, the bytes at hand and those that can still be read stay within the bound.
pub more_fuel : (turns less : ℕ) (h p line x : List ℕ) (most : ℕ) → 256 * turns + length h + length p ≤ most
    → h ++ p ≡ line → length x ≤ 256 → less < turns
    → 256 * less + length line + length x ≤ most
more_fuel turns less h p line x most f e l t =
    let same : length h + length p ≡ length line = sym (length-append h p) ∙ ap length e in
    omega arith

-- Each turn reads 256 bytes at most.
pub more_chunks : (given x : List ℕ) (start old new had has : ℕ) → length given + 256 * start ≤ 256 * old
    → length x ≤ 256 → new + has ≡ old + had → has < had
    → length (given ++ x) + 256 * start ≤ 256 * new
more_chunks given x start old new had has l m cost less =
    let both = length-append given x in
    omega arith

-- At most 256 bytes of a chunk are pending.
pub few_pending : (p chunk : List ℕ) (next end : ℕ) → p ≡ drop next (take end chunk) → end ≤ 256 → length p ≤ 256
few_pending p chunk next end e l = rw e (rw (length-drop, length-take) (omega arith))

-- At most 255 bytes of a chunk are left after a line end.
pub few_left : (chunk : List ℕ) (next n end : ℕ) → end ≤ 256 → length (drop (next + (n + 1)) (take end chunk)) ≤ 255
few_left chunk next n end l = rw (length-drop, length-take) (omega arith)

-- A chunk that is used up has nothing pending, whatever replaces its bytes.
pub nothing_pending : (chunk other : List ℕ) (next end : ℕ) → length chunk ≡ 256 → next ≤ end → end ≤ 256
    → drop next (take end chunk) ≡ []
    → length other ≡ length chunk → drop next (take end other) ≡ []
nothing_pending chunk other next end full n l e same =
    let none : length (drop next (take end chunk)) ≡ 0 = ap length e in
    let size : length (drop next (take end chunk)) ≡ min end (length chunk) - next =
    rw (length-drop, length-take) refl in
    let other_size : length (drop next (take end other)) ≡ min end (length other) - next =
    rw (length-drop, length-take) refl in
    nil_from_length _ (omega (arith, none, size, other_size, full, same))
