-- What is known of numbers as bytes.
use Rattle.std.proofs.Common.{◌≡◌, ℕ, ◌+◌, ◌^◌, ◌<◌, ◌≤◌, List, ◌++◌, length, take, drop, refl, sym, ap, ◌∙◌, arith, inl, inr}
use Rattle.std.proofs.lemmas.Bool.{cases_lt}
use Rattle.std.proofs.lemmas.List.{get_or-drop, get_or-take, get_or_past, length-take, length-take-le, take-append-drop}
use Rattle.std.proofs.lemmas.Nat.{le_bytes_2, le_bytes_4, le_bytes_8}
use Rattle.byteorder.specs.Numbers.{little_number-reads_back, little_from-append}
use Rattle.drm_frames.specs.Number.{u16, u32, u64, u16_in, u32_in, u64_in, AreBytes}

-- Bytes without the first ones are bytes.
pub AreBytes-drop : (n : ℕ) (bytes : List ℕ) → AreBytes bytes → AreBytes (drop n bytes)
AreBytes-drop n bytes h i = rw get_or-drop (h (n + i))

-- The first ones of bytes are bytes.
pub AreBytes-take : (n : ℕ) (bytes : List ℕ) → AreBytes bytes → AreBytes (take n bytes)
AreBytes-take n bytes h i =
    elim (cases_lt i n) [
      | inl lt ↦ rw (get_or-take n bytes i 0 lt) (h i)
      | inr le ↦ rw (get_or_past (take n bytes) i 0 (omega (arith, length-take n bytes))) (omega arith)
    ]

-- A `u16` takes 2 bytes.
pub length-u16 : (n : ℕ) → length (u16 n) ≡ 2
unfolding u16
length-u16 n = refl

-- A `u32` takes 4 bytes.
pub length-u32 : (n : ℕ) → length (u32 n) ≡ 4
unfolding u32
length-u32 n = refl

-- A `u64` takes 8 bytes.
pub length-u64 : (n : ℕ) → length (u64 n) ≡ 8
unfolding u64
length-u64 n = refl

-- 2 bytes are the `u16` that is read from them.
pub u16-again : (bytes : List ℕ) → length bytes ≡ 2 → AreBytes bytes → u16 (u16_in bytes) ≡ bytes
unfolding u16 u16_in
u16-again bytes len h = le_bytes_2 bytes _ len h (omega arith)

-- 4 bytes are the `u32` that is read from them.
pub u32-again : (bytes : List ℕ) → length bytes ≡ 4 → AreBytes bytes → u32 (u32_in bytes) ≡ bytes
unfolding u32 u32_in
u32-again bytes len h = le_bytes_4 bytes _ len h (omega arith)

-- 8 bytes are the `u64` that is read from them.
pub u64-again : (bytes : List ℕ) → length bytes ≡ 8 → AreBytes bytes → u64 (u64_in bytes) ≡ bytes
unfolding u64 u64_in
u64-again bytes len h = le_bytes_8 bytes _ len h (omega arith)

-- A `u16` that is written in front of bytes is read as the same number.
pub u16_in-u16 : (n : ℕ) (rest : List ℕ) → n < 2 ^ 16 → u16_in (u16 n ++ rest) ≡ n
unfolding u16 u16_in
u16_in-u16 n rest h = little_number-reads_back 2 n rest (omega arith)

-- A `u32` that is written in front of bytes is read as the same number.
pub u32_in-u32 : (n : ℕ) (rest : List ℕ) → n < 2 ^ 32 → u32_in (u32 n ++ rest) ≡ n
unfolding u32 u32_in
u32_in-u32 n rest h = little_number-reads_back 4 n rest (omega arith)

-- A `u64` that is written in front of bytes is read as the same number.
pub u64_in-u64 : (n : ℕ) (rest : List ℕ) → n < 2 ^ 64 → u64_in (u64 n ++ rest) ≡ n
unfolding u64 u64_in
u64_in-u64 n rest h = little_number-reads_back 8 n rest (omega arith)

-- A `u16` is read from the first 2 bytes.
pub u16_in-take : (bytes : List ℕ) → 2 ≤ length bytes → u16_in (take 2 bytes) ≡ u16_in bytes
unfolding u16_in
u16_in-take bytes h =
    sym (little_from-append 2 (take 2 bytes) (drop 2 bytes) (omega (arith, length-take 2 bytes)))
    ∙ ap u16_in (take-append-drop 2 bytes)

-- A `u32` is read from the first 4 bytes.
pub u32_in-take : (bytes : List ℕ) → 4 ≤ length bytes → u32_in (take 4 bytes) ≡ u32_in bytes
unfolding u32_in
u32_in-take bytes h =
    sym (little_from-append 4 (take 4 bytes) (drop 4 bytes) (omega (arith, length-take 4 bytes)))
    ∙ ap u32_in (take-append-drop 4 bytes)

-- A `u64` is read from the first 8 bytes.
pub u64_in-take : (bytes : List ℕ) → 8 ≤ length bytes → u64_in (take 8 bytes) ≡ u64_in bytes
unfolding u64_in
u64_in-take bytes h =
    sym (little_from-append 8 (take 8 bytes) (drop 8 bytes) (omega (arith, length-take 8 bytes)))
    ∙ ap u64_in (take-append-drop 8 bytes)

-- At least 2 bytes are the `u16` that is read from them, and the rest.
pub u16-front : (bytes : List ℕ) → 2 ≤ length bytes → AreBytes bytes → bytes ≡ u16 (u16_in bytes) ++ drop 2 bytes
u16-front bytes h b =
    let e = u16-again (take 2 bytes) (length-take-le 2 bytes h) (AreBytes-take 2 bytes b) in
    sym (take-append-drop 2 bytes) ∙ ap (λ (x : List ℕ). x ++ drop 2 bytes) (sym e ∙ ap u16 (u16_in-take bytes h))

-- At least 4 bytes are the `u32` that is read from them, and the rest.
pub u32-front : (bytes : List ℕ) → 4 ≤ length bytes → AreBytes bytes → bytes ≡ u32 (u32_in bytes) ++ drop 4 bytes
u32-front bytes h b =
    let e = u32-again (take 4 bytes) (length-take-le 4 bytes h) (AreBytes-take 4 bytes b) in
    sym (take-append-drop 4 bytes) ∙ ap (λ (x : List ℕ). x ++ drop 4 bytes) (sym e ∙ ap u32 (u32_in-take bytes h))

-- At least 8 bytes are the `u64` that is read from them, and the rest.
pub u64-front : (bytes : List ℕ) → 8 ≤ length bytes → AreBytes bytes → bytes ≡ u64 (u64_in bytes) ++ drop 8 bytes
u64-front bytes h b =
    let e = u64-again (take 8 bytes) (length-take-le 8 bytes h) (AreBytes-take 8 bytes b) in
    sym (take-append-drop 8 bytes) ∙ ap (λ (x : List ℕ). x ++ drop 8 bytes) (sym e ∙ ap u64 (u64_in-take bytes h))

-- the lengths, for the tactics
pub ruleset lengths = (length-u16, length-u32, length-u64)
