-- Masks over the CRTCs that are seen, bit by bit.
use Rattle.std.proofs.Common.{◌≡◌, ℕ, zero, suc, ◌+◌, ◌-◌, ◌*◌, ◌/◌, ◌%◌, ◌^◌, ◌==◌, ◌&&◌, ◌<◌, ◌≤◌, Bool, true, false, cond, List, [], ◌∷◌, length, get_or, drop, refl, sym, ap, ◌∙◌, arith, add_assoc, mul-add, mul_assoc, mul-one, pow-suc, zero-add}
use Rattle.std.proofs.Math.Nat.{pow-le-pow_right}
use Rattle.std.proofs.lemmas.List.{at_drop_more}
use Rattle.std.specs.Prelude.{slice_get}
use Rattle.std.specs.Option.{option_map_or}
use Rattle.std.specs.Int.{bit_at}
use Rattle.std.proofs.Math.Bool.{and-false}
use Rattle.std.proofs.lemmas.Nat.Bits.{bit_at-zero, bit_at_lowest, bit_at-suc}
use Rattle.drm_modes.specs.Topology.{Topology, bits_of, is_crtc, is_plane, is_encoder, possible_crtcs, drives, mask_over}

-- The value of each of 8 bits is at most 128.
pub low_bit : (i n : ℕ) → n ≤ 8 → i < n → 2 ^ i ≤ 128
low_bit i n few lt = pow-le-pow_right {n = 2} (omega arith) {i = i} {j = 7} (omega (arith, few, lt))

-- Twice a power of two is the next power.
pub doubled : (i : ℕ) → 2 ^ i * 2 ≡ 2 ^ (i + 1)
doubled i = sym (pow-suc 2 i) ∙ ap (λ n. 2 ^ n) (sym (one_above i))
  where
    one_above : (i : ℕ) → i + 1 ≡ suc i
    one_above i = omega arith

module _ (p : ℕ → Bool) (xs : List ℕ) (i b m total : ℕ) (lt : i < length xs) (told : m + b * bits_of p (drop i xs) ≡ total) where
  abbrev rest : ℕ
  rest = bits_of p (drop (i + 1) xs)

  first : (passes : Bool) → p (get_or xs i 0) ≡ passes → m + b * (cond passes 1 0 + 2 * rest) ≡ total
  first passes is =
      ap (λ t. m + b * (cond t 1 0 + 2 * rest)) (sym is)
      ∙ ap (λ n. m + b * n) (sym (at_drop_more (bits_of p) xs i 0 lt)) ∙ told

  -- If the CRTC here passes, adding its bit keeps the total of the mask and the rest.
  pub bit_set : p (get_or xs i 0) ≡ true → m + b + b * 2 * rest ≡ total
  bit_set set =
      add_assoc m b (b * 2 * rest)
      ∙ ap (λ n. m + n) ((λ j. sym (mul-one b) j + mul_assoc b 2 rest j) ∙ sym (mul-add b 1 (2 * rest)))
      ∙ first true set

  -- If the CRTC here fails, the mask without its bit keeps the total with the rest.
  pub bit_clear : p (get_or xs i 0) ≡ false → m + b * 2 * rest ≡ total
  bit_clear clear =
      ap (λ n. m + n) (mul_assoc b 2 rest ∙ ap (λ n. b * n) (sym (zero-add (2 * rest)))) ∙ first false clear

lowest : (b : Bool) (r : ℕ) → ((cond b 1 0 + 2 * r) % 2 == 1) ≡ b
lowest true r = let e : (1 + 2 * r) % 2 ≡ 1 = omega arith in ap (λ n. n == 1) e
lowest false r = let e : (0 + 2 * r) % 2 ≡ 0 = omega arith in ap (λ n. n == 1) e

higher : (b : Bool) (r : ℕ) → (cond b 1 0 + 2 * r) / 2 ≡ r
higher true r = omega arith
higher false r = omega arith

-- A bit is set if and only if the element at its place passes.
pub bit_of : (p : ℕ → Bool) (xs : List ℕ) (i : ℕ)
    → (bit_at (bits_of p xs) i == 1) ≡ option_map_or p (slice_get xs i) false
bit_of p [] i = ap (λ n. n == 1) (bit_at-zero i)
bit_of p (x ∷ xs) zero = ap (λ n. n == 1) (bit_at_lowest (bits_of p (x ∷ xs))) ∙ lowest (p x) (bits_of p xs)
bit_of p (x ∷ xs) (suc i) =
    ap (λ n. n == 1) (bit_at-suc (bits_of p (x ∷ xs)) i ∙ ap (λ n. bit_at n i) (higher (p x) (bits_of p xs)))
    ∙ bit_of p xs i

no_bits : (p : ℕ → Bool) → ((x : ℕ) → p x ≡ false) → (xs : List ℕ) → bits_of p xs ≡ 0
no_bits p none [] = refl
no_bits p none (x ∷ xs) = λ i. cond (none x i) 1 0 + 2 * no_bits p none xs i

-- An object that is neither a plane nor an encoder has the mask 0.
pub no_mask : (t : Topology) (x : ℕ) → is_plane t x ≡ false → is_encoder t x ≡ false → (xs : List ℕ)
    → mask_over t x xs ≡ 0
no_mask t x plane encoder = no_bits (drives t x) (λ crtc.
    let possible : possible_crtcs t x ≡ 0 = rw (plane, encoder) refl in
    ap (λ n. is_crtc t crtc && (bit_at n (crtc - 1) == 1)) possible ∙ ap (λ n. is_crtc t crtc && (n == 1)) (bit_at-zero (crtc - 1)) ∙ and-false (is_crtc t crtc))
