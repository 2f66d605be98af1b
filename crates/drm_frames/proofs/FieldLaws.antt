-- Fields of several numbers: what is read of what was written, and what was written of what is read.
use Rattle.std.proofs.Common.{◌≡◌, ℕ, zero, suc, ◌+◌, ◌-◌, ◌^◌, ◌<◌, ◌≤◌, ◌/◌, List, [], ◌++◌, length, get_or, drop, refl, sym, ap, ◌∙◌, arith, inl, inr}
use Rattle.std.specs.Int.{byte_at, bytes_low_first}
use Rattle.std.proofs.Math.Nat.{mod-lt}
use Rattle.std.proofs.lemmas.Bool.{cases_lt}
use Rattle.std.proofs.lemmas.List.{append_assoc, append-nil, length-append, drop_at, length-drop, drop-drop, get_or_append_left, get_or-append_right}
use Rattle.byteorder.specs.Numbers.{little_from-lt}
use Rattle.drm_frames.specs.Number.{u32, u64, u32_in, u64_in, AreBytes}
use Rattle.drm_frames.proofs.NumberBytes.{AreBytes-drop, u32-again, u32-front, length-u32, u32_in-u32}

-- ---- what is written is bytes

byte_at-below : (j n : ℕ) → byte_at j n < 256
byte_at-below zero n = mod-lt n (omega arith)
byte_at-below (suc j) n = mod-lt (n / 256 ^ suc j) (omega arith)

low_first-bytes : (j k n i : ℕ) → get_or (bytes_low_first j k n) i 0 < 256
low_first-bytes j zero n i = omega arith
low_first-bytes j (suc k) n zero = byte_at-below j n
low_first-bytes j (suc k) n (suc i) = low_first-bytes (suc j) k n i

-- No bytes are bytes.
pub AreBytes-nil : AreBytes []
AreBytes-nil i = omega arith

-- A `u32` is written as bytes.
pub AreBytes-u32 : (n : ℕ) → AreBytes (u32 n)
unfolding u32
AreBytes-u32 n i = low_first-bytes 0 4 n i

-- A `u64` is written as bytes.
pub AreBytes-u64 : (n : ℕ) → AreBytes (u64 n)
unfolding u64
AreBytes-u64 n i = low_first-bytes 0 8 n i

-- Bytes followed by bytes are bytes.
pub AreBytes-append : (xs ys : List ℕ) → AreBytes xs → AreBytes ys → AreBytes (xs ++ ys)
AreBytes-append xs ys a b i =
    elim (cases_lt i (length xs)) [
      | inl lt ↦ rw (get_or_append_left xs ys 0 i lt) (a i)
      | inr le ↦ rw (get_or-append_right xs ys (length xs) i 0 refl le) (b (i - length xs))
    ]

-- Two `u32` are written as bytes.
pub two-bytes : (a b : ℕ) → AreBytes (u32 a ++ u32 b)
two-bytes a b = AreBytes-append (u32 a) (u32 b) (AreBytes-u32 a) (AreBytes-u32 b)

-- Three `u32` are written as bytes.
pub three-bytes : (a b c : ℕ) → AreBytes (u32 a ++ u32 b ++ u32 c)
three-bytes a b c = AreBytes-append (u32 a ++ u32 b) (u32 c) (two-bytes a b) (AreBytes-u32 c)

-- ---- one number

-- A `u32` that is written is read as the same number.
pub u32_in-alone : (n : ℕ) → n < 2 ^ 32 → u32_in (u32 n) ≡ n
u32_in-alone n h = ap u32_in (sym (append-nil (u32 n))) ∙ u32_in-u32 n [] h

-- A `u32` that is read is below 2^32.
pub u32_in-below : (bytes : List ℕ) → AreBytes bytes → u32_in bytes < 2 ^ 32
unfolding u32_in
u32_in-below bytes h = let e = little_from-lt 0 4 bytes h in omega (arith, e)

-- A `u64` that is read is below 2^64.
pub u64_in-below : (bytes : List ℕ) → AreBytes bytes → u64_in bytes < 2 ^ 64
unfolding u64_in
u64_in-below bytes h = let e = little_from-lt 0 8 bytes h in omega (arith, e)

-- ---- two numbers, and the bytes after them

-- Two `u32` take 8 bytes.
pub length-two : (a b : ℕ) → length (u32 a ++ u32 b) ≡ 8
length-two a b = omega (arith, length-append (u32 a) (u32 b), length-u32 a, length-u32 b)

-- Two `u32` take 8 bytes more than what follows them.
pub length-behind : (a b : ℕ) (rest : List ℕ) → length (u32 a ++ u32 b ++ rest) ≡ 8 + length rest
length-behind a b rest = omega (arith, length-append (u32 a ++ u32 b) rest, length-two a b)

-- Three `u32` take 12 bytes.
pub length-three : (a b c : ℕ) → length (u32 a ++ u32 b ++ u32 c) ≡ 12
length-three a b c = omega (arith, length-behind a b (u32 c), length-u32 c)

-- After the first `u32` is dropped, the second one and the rest are left.
pub second-drop : (a b : ℕ) (rest : List ℕ) → drop 4 (u32 a ++ u32 b ++ rest) ≡ u32 b ++ rest
second-drop a b rest =
    ap (drop 4) (append_assoc (u32 a) (u32 b) rest) ∙ drop_at (u32 a) (u32 b ++ rest) 4 (length-u32 a)

-- The first of two `u32` is read at the front.
pub first-is : (a b : ℕ) (rest : List ℕ) → a < 2 ^ 32 → u32_in (u32 a ++ u32 b ++ rest) ≡ a
first-is a b rest h = ap u32_in (append_assoc (u32 a) (u32 b) rest) ∙ u32_in-u32 a (u32 b ++ rest) h

-- The second of two `u32` is read after the first.
pub second-is : (a b : ℕ) (rest : List ℕ) → b < 2 ^ 32 → u32_in (drop 4 (u32 a ++ u32 b ++ rest)) ≡ b
second-is a b rest h = ap u32_in (second-drop a b rest) ∙ u32_in-u32 b rest h

-- After two `u32` are dropped, the rest is left.
pub behind-is : (a b : ℕ) (rest : List ℕ) → drop 8 (u32 a ++ u32 b ++ rest) ≡ rest
behind-is a b rest = drop_at (u32 a ++ u32 b) rest 8 (length-two a b)

-- The second of two `u32` without a rest is read after the first.
pub last-of-two : (a b : ℕ) → b < 2 ^ 32 → u32_in (drop 4 (u32 a ++ u32 b)) ≡ b
last-of-two a b h = ap u32_in (drop_at (u32 a) (u32 b) 4 (length-u32 a)) ∙ u32_in-alone b h

-- At least 8 bytes are two `u32` that are read from them, and the rest.
pub two-front : (fields : List ℕ) → 8 ≤ length fields → AreBytes fields
    → fields ≡ u32 (u32_in fields) ++ u32 (u32_in (drop 4 fields)) ++ drop 8 fields
two-front fields long h =
    let first = u32-front fields (omega arith) h in
    let second : drop 4 fields ≡ u32 (u32_in (drop 4 fields)) ++ drop 4 (drop 4 fields) =
    u32-front (drop 4 fields) (omega (arith, length-drop 4 fields)) (AreBytes-drop 4 fields h) in
    let both : drop 4 (drop 4 fields) ≡ drop 8 fields = drop-drop 4 4 fields in
    first
    ∙ ap (λ (x : List ℕ). u32 (u32_in fields) ++ x)
    (second ∙ ap (λ (x : List ℕ). u32 (u32_in (drop 4 fields)) ++ x) both)
    ∙ sym (append_assoc (u32 (u32_in fields)) (u32 (u32_in (drop 4 fields))) (drop 8 fields))

-- 8 bytes are the two `u32` that are read from them.
pub two-again : (fields : List ℕ) → length fields ≡ 8 → AreBytes fields
    → fields ≡ u32 (u32_in fields) ++ u32 (u32_in (drop 4 fields))
two-again fields len h =
    u32-front fields (omega (arith, len)) h
    ∙ ap (λ (x : List ℕ). u32 (u32_in fields) ++ x)
    (sym (u32-again (drop 4 fields) (omega (arith, length-drop 4 fields, len)) (AreBytes-drop 4 fields h)))

-- 12 bytes are the three `u32` that are read from them.
pub three-again : (fields : List ℕ) → length fields ≡ 12 → AreBytes fields
    → fields ≡ u32 (u32_in fields) ++ u32 (u32_in (drop 4 fields)) ++ u32 (u32_in (drop 8 fields))
three-again fields len h =
    two-front fields (omega (arith, len)) h
    ∙ ap (λ (x : List ℕ). u32 (u32_in fields) ++ u32 (u32_in (drop 4 fields)) ++ x)
    (sym (u32-again (drop 8 fields) (omega (arith, length-drop 8 fields, len)) (AreBytes-drop 8 fields h)))
