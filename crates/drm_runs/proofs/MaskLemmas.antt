-- Masks of the CRTCs that words name.
use Rattle.std.proofs.Common.{◌≡◌, ◌≢◌, ℕ, zero, suc, ◌+◌, ◌-◌, ◌*◌, ◌/◌, ◌%◌, ◌^◌, ◌==◌, ◌<◌, ◌≤◌, max, Bool, true, false, ◌&&◌, ◌||◌, cond, nat_lt, List, [], ◌∷◌, None, Some, Option, refl, sym, ap, ◌∙◌, arith, pow-suc}
use Rattle.std.specs.Prelude.{nat_le, bit_or, is_some}
use Rattle.std.specs.Int.{bit_at}
use Rattle.std.specs.List.{list_all, filter_map, cons_option}
use Rattle.std.specs.Option.{option_and_then}
use Rattle.std.proofs.lemmas.Bool.{false≢true, eqb-true, eqb-false, eq-eqb, ne_eqb, and_parts, and_from, or_from, or_left, leb-true, le-leb, lt-ltb, le-ltb}
use Rattle.std.proofs.lemmas.Bool.Decides.{nat_tests}
use Rattle.std.proofs.lemmas.Option.{same_Some}
use Rattle.std.proofs.lemmas.Nat.{pow_pos}
use Rattle.std.proofs.lemmas.Nat.Bits.{bit_at-zero, bit_at_lowest, bit_at-suc, bit_at-lt, bit_at_or, bit_at-pow_same, bit_at-pow_other, same_from_bits}
use Rattle.drm_index_array.specs.Numbers.{is_among}
use Rattle.drm_modes.specs.Numbers.{numbers_from}
use Rattle.drm_modes.specs.Topology.{bits_of}
use Rattle.drm_modes.specs.PlaneKinds.{is_possible}
use Rattle.drm_modes.proofs.Ids.{is_among-numbers_from}
use Rattle.drm_script.specs.Fields.{Words}
use Rattle.drm_runs.specs.TopologyLines.{number_in, of_crtcs, crtc_in, first_number, mask_of}

-- ---- either of two masks

-- The union with the mask 0 changes nothing.
pub or-none : (m : ℕ) → bit_or m 0 ≡ m
or-none m = same_from_bits (bit_or m 0) m (λ i. omega (arith, bit_at_or m 0 i, bit_at-zero i))

-- The union of masks is associative.
pub or-or : (a b c : ℕ) → bit_or (bit_or a b) c ≡ bit_or a (bit_or b c)
or-or a b c = same_from_bits (bit_or (bit_or a b) c) (bit_or a (bit_or b c)) (λ i.
    omega (arith, bit_at_or (bit_or a b) c i, bit_at_or a b i, bit_at_or a (bit_or b c) i, bit_at_or b c i))

-- ---- bit by bit

lowest : (b : Bool) (r : ℕ) → ((cond b 1 0 + 2 * r) % 2 == 1) ≡ b
lowest true r = let e : (1 + 2 * r) % 2 ≡ 1 = omega arith in ap (λ n. n == 1) e
lowest false r = let e : (0 + 2 * r) % 2 ≡ 0 = omega arith in ap (λ n. n == 1) e

higher : (b : Bool) (r : ℕ) → (cond b 1 0 + 2 * r) / 2 ≡ r
higher true r = omega arith
higher false r = omega arith

shifted : (i count : ℕ) → nat_lt i count ≡ nat_lt (suc i) (suc count)
shifted i count = grind (arith, nat_tests)

-- a bit says whether the number at its place passes
bit_at_place : (p : ℕ → Bool) (first count i : ℕ)
    → (bit_at (bits_of p (numbers_from first count)) i == 1) ≡ (nat_lt i count && p (first + i))
unfolding numbers_from
bit_at_place p first zero i =
    ap (λ n. n == 1) (bit_at-zero i) ∙ sym (ap (λ b. b && p (first + i)) (le-ltb i 0 (omega arith)))
bit_at_place p first (suc count) zero =
    let same : first ≡ first + 0 = omega arith in
    ap (λ n. n == 1) (bit_at_lowest (bits_of p (first ∷ numbers_from (first + 1) count)))
    ∙ lowest (p first) (bits_of p (numbers_from (first + 1) count)) ∙ ap p same
    ∙ sym (ap (λ b. b && p (first + 0)) (lt-ltb 0 (suc count) (omega arith)))
bit_at_place p first (suc count) (suc i) =
    let same : first + 1 + i ≡ first + suc i = omega arith in
    let rest = bits_of p (numbers_from (first + 1) count) in
    ap (λ n. n == 1)
    (bit_at-suc (bits_of p (first ∷ numbers_from (first + 1) count)) i ∙ ap (λ n. bit_at n i) (higher (p first) rest))
    ∙ bit_at_place p (first + 1) count i
    ∙ ap (λ n. nat_lt i count && p n) same ∙ ap (λ b. b && p (first + suc i)) (shifted i count)

-- a bit, by whether it is set
is_one : (n : ℕ) (b : Bool) → n < 2 → (n == 1) ≡ b → n ≡ cond b 1 0
is_one n true low is = eqb-true n 1 is
is_one n false low is = let ne = eqb-false n 1 is in low_one n low ne
  where
    low_one : (n : ℕ) → n < 2 → n ≢ 1 → n ≡ 0
    low_one n low ne = omega (arith, low, ne)

either : (hit within q : Bool) → (hit ≡ true → within ≡ true)
    → cond (within && (hit || q)) 1 0 ≡ max (cond hit 1 0) (cond (within && q) 1 0)
either true true true inside = refl
either true true false inside = refl
either true false q inside = absurd (false≢true (inside refl))
either false true true inside = refl
either false true false inside = refl
either false false q inside = refl

one_set : (k i : ℕ) (hit : Bool) → (k == i) ≡ hit → bit_at (2 ^ k) i ≡ cond hit 1 0
one_set k i true is = ap (λ n. bit_at (2 ^ k) n) (sym (eqb-true k i is)) ∙ bit_at-pow_same k
one_set k i false is = bit_at-pow_other k i (λ same. eqb-false k i is (sym same))

same_place : (n i : ℕ) → 1 ≤ n → (n == 1 + i) ≡ (n - 1 == i)
same_place n i low = grind (arith, nat_tests)

within_all : (n i : ℕ) → n ≤ 8 → 1 ≤ n → (n - 1 == i) ≡ true → nat_lt i 8 ≡ true
within_all n i high low is = let same = eqb-true (n - 1) i is in lt-ltb i 8 (omega (arith, same, high, low))

-- One more CRTC is one more bit of the mask.
pub set_bit : (p : ℕ → Bool) (n : ℕ) → 1 ≤ n → n ≤ 8
    → bits_of (λ x. (n == x) || p x) (numbers_from 1 8) ≡ bit_or (2 ^ (n - 1)) (bits_of p (numbers_from 1 8))
set_bit p n low high = same_from_bits _ _ (λ i.
    let with_it : ℕ → Bool = λ x. (n == x) || p x in
    let without = bits_of p (numbers_from 1 8) in
    let hit = n - 1 == i in
    let new = is_one (bit_at (bits_of with_it (numbers_from 1 8)) i) (nat_lt i 8 && (hit || p (1 + i))) (bit_at-lt _ i)
    (bit_at_place with_it 1 8 i ∙ ap (λ b. nat_lt i 8 && (b || p (1 + i))) (same_place n i low)) in
    let old = is_one (bit_at without i) (nat_lt i 8 && p (1 + i)) (bit_at-lt without i) (bit_at_place p 1 8 i) in
    new ∙ either hit (nat_lt i 8) (p (1 + i)) (within_all n i high low)
    ∙ sym (bit_at_or (2 ^ (n - 1)) without i ∙ ap (λ m. max m (bit_at without i)) (one_set (n - 1) i hit refl) ∙ ap (λ m. max (cond hit 1 0) m) old))

no_bit : (first count : ℕ) → bits_of (λ x. false) (numbers_from first count) ≡ 0
unfolding numbers_from
no_bit first zero = refl
no_bit first (suc count) = let rest = no_bit (first + 1) count in rw rest refl

-- ---- the CRTC that a word names

of_crtcs_some : (count m n : ℕ) (b : Bool) → (nat_le 1 m && nat_le m count) ≡ b → cond b (Some m) None ≡ Some n
    → (m ≡ n) × (1 ≤ n) × (n ≤ count)
of_crtcs_some count m n true within is =
    let same : m ≡ n = let e = is in cc in
    let ends = and_parts (nat_le 1 m) (nat_le m count) within in
    (same, omega (arith, same, leb-true 1 m ends.0), omega (arith, same, leb-true m count ends.1))
of_crtcs_some count m n false within is = absurd (cc)

crtc_some_at : (count n : ℕ) (o : Option ℕ) → option_and_then (of_crtcs count) o ≡ Some n
    → (o ≡ Some n) × (1 ≤ n) × (n ≤ count)
crtc_some_at count n None is = absurd (cc)
crtc_some_at count n (Some m) is = let found = of_crtcs_some count m n (nat_le 1 m && nat_le m count) refl is in (ap Some found.0, found.1, found.2)

-- A word that names a CRTC is its number, from 1 up to the number of CRTCs.
pub crtc_some : (count n : ℕ) (w : List ℕ) → crtc_in count w ≡ Some n → (number_in w ≡ Some n) × (1 ≤ n) × (n ≤ count)
crtc_some count n w is = crtc_some_at count n (number_in w) is

-- ---- the masks of words

-- The mask of no words is 0.
pub mask-nil : mask_of [] ≡ 0
unfolding mask_of
mask-nil = no_bit 1 8

-- The mask of a CRTC's number and more words is its bit and the mask of these words.
pub mask-cons : (w : List ℕ) (ws : Words) (n : ℕ) → number_in w ≡ Some n → 1 ≤ n → n ≤ 8
    → mask_of (w ∷ ws) ≡ bit_or (2 ^ (n - 1)) (mask_of ws)
unfolding mask_of
mask-cons w ws n is low high =
    ap (λ o. bits_of (is_among (cons_option o (filter_map number_in ws))) (numbers_from 1 8)) is
    ∙ set_bit (is_among (filter_map number_in ws)) n low high

-- ---- masks below a number of CRTCs

double : (b : Bool) (r m : ℕ) → r < 2 ^ m → cond b 1 0 + 2 * r < 2 ^ suc m
double true r m less = omega (arith, less, pow-suc 2 m)
double false r m less = omega (arith, less, pow-suc 2 m)

-- If no number from `first + n` on passes, the bits of a run are below 2^n.
pub bits_below : (p : ℕ → Bool) (first count n : ℕ) → ((x : ℕ) → first + n ≤ x → p x ≡ false)
    → bits_of p (numbers_from first count) < 2 ^ n
unfolding numbers_from
bits_below p first zero n none = pow_pos n
bits_below p first (suc count) zero none =
    let rest : bits_of p (numbers_from (first + 1) count) < 2 ^ 0 =
    bits_below p (first + 1) count zero (λ x le. none x (omega arith)) in
    let off : p first ≡ false = none first (omega arith) in
    rw off (omega (arith, rest))
bits_below p first (suc count) (suc m) none =
    double (p first) (bits_of p (numbers_from (first + 1) count)) m
    (bits_below p (first + 1) count m (λ x le. none x (omega arith)))

named_some : (b : Bool) (n : ℕ) → is_some (cond b (Some n) None) ≡ true → b ≡ true
named_some true n some = refl
named_some false n some = some

-- a word that names a CRTC is its number
named_at : (count : ℕ) (o : Option ℕ) → is_some (option_and_then (of_crtcs count) o) ≡ true
    → (n : ℕ) × (o ≡ Some n) × (1 ≤ n) × (n ≤ count)
named_at count None some = absurd (false≢true some)
named_at count (Some n) some =
    let ends = and_parts (nat_le 1 n) (nat_le n count) (named_some (nat_le 1 n && nat_le n count) n some) in
    (n, refl, leb-true 1 n ends.0, leb-true n count ends.1)

named_more : (o : Option ℕ) (rest : List ℕ) (n x : ℕ) → o ≡ Some n → n < x → is_among rest x ≡ false
    → is_among (cons_option o rest) x ≡ false
named_more o rest n x is less none =
    rw is (or_from (n == x) (is_among rest x) (ne_eqb n x (λ same. omega (arith, same, less))) none)

-- each word is the number of a CRTC, out of `count`
abbrev pub name_crtcs : ℕ → Words → Bool
name_crtcs count ws = list_all (λ w. is_some (crtc_in count w)) ws

none_above : (count : ℕ) (ws : Words) → name_crtcs count ws ≡ true → (x : ℕ) → count < x
    → is_among (filter_map number_in ws) x ≡ false
none_above count [] all x less = refl
none_above count (w ∷ ws) all x less =
    let each = and_parts (is_some (crtc_in count w)) (name_crtcs count ws) all in
    let n = named_at count (number_in w) each.0 in
    named_more (number_in w) (filter_map number_in ws) n.0 x n.1 (omega (arith, n.3, less))
    (none_above count ws each.1 x less)

-- If all words name CRTCs, their mask is below 2 to the number of CRTCs.
pub mask_below : (count : ℕ) (ws : Words) → name_crtcs count ws ≡ true → mask_of ws < 2 ^ count
unfolding mask_of
mask_below count ws all =
    bits_below (is_among (filter_map number_in ws)) 1 8 count (λ x le. none_above count ws all x (omega (arith, le)))

first_bit : (n : ℕ) (rest : List ℕ) → 1 ≤ n → n ≤ 8 → (nat_lt (n - 1) 8 && is_among (n ∷ rest) (1 + (n - 1))) ≡ true
first_bit n rest low high =
    let within : nat_lt (n - 1) 8 ≡ true = lt-ltb (n - 1) 8 (omega (arith, low, high)) in
    let same : (n == 1 + (n - 1)) ≡ true = eq-eqb n (1 + (n - 1)) (omega (arith, low)) in
    and_from (nat_lt (n - 1) 8) (is_among (n ∷ rest) (1 + (n - 1))) within
    (or_left (n == 1 + (n - 1)) (is_among rest (1 + (n - 1))) same)

-- The first CRTC that the words name is one of their mask.
pub own_possible : (count : ℕ) (ws : Words) (n : ℕ) → count ≤ 8 → name_crtcs count ws ≡ true → first_number ws ≡ Some n
    → is_possible count (mask_of ws) n ≡ true
unfolding mask_of
own_possible count [] n few all first = absurd (cc)
own_possible count (w ∷ ws) n few all first =
    let each = and_parts (is_some (crtc_in count w)) (name_crtcs count ws) all in
    let own = named_at count (number_in w) each.0 in
    let same : own.0 ≡ n = same_Some own.0 n (sym own.1 ∙ first) in
    let low : 1 ≤ n = omega (arith, same, own.2) in
    let high : n ≤ count = omega (arith, same, own.3) in
    let there : is_among (numbers_from 1 count) n ≡ true =
    is_among-numbers_from 1 count n ∙ and_from (nat_le 1 n) (nat_lt n (1 + count)) (le-leb 1 n low) (lt-ltb n (1 + count) (omega (arith, high))) in
    let bit = bit_at_place (is_among (filter_map number_in (w ∷ ws))) 1 8 (n - 1) in
    and_from (is_among (numbers_from 1 count) n) (bit_at (mask_of (w ∷ ws)) (n - 1) == 1) there
    (bit ∙ ap (λ o. nat_lt (n - 1) 8 && is_among (cons_option o (filter_map number_in ws)) (1 + (n - 1))) first ∙ first_bit n (filter_map number_in ws) low (omega (arith, high, few)))

-- ---- the loop over the words

-- After one more word, the mask with its CRTC and the rest are still the whole mask.
pub mask_more : (mask n whole : ℕ) (w : List ℕ) (ws rest : Words) (count : ℕ) → count ≤ 8 → rest ≡ w ∷ ws
    → crtc_in count w ≡ Some n → bit_or mask (mask_of rest) ≡ whole
    → bit_or (bit_or mask (2 ^ (n - 1))) (mask_of ws) ≡ whole
mask_more mask n whole w ws rest count few is named so_far =
    let crtc = crtc_some count n w named in
    or-or mask (2 ^ (n - 1)) (mask_of ws)
    ∙ ap (bit_or mask) (sym (mask-cons w ws n crtc.0 crtc.1 (omega (arith, crtc.2, few))) ∙ sym (ap mask_of is))
    ∙ so_far

-- If the first word names a CRTC, all words do if and only if the others do.
pub named_more_words : (w : List ℕ) (ws rest : Words) (count n : ℕ) (all : Bool) → rest ≡ w ∷ ws
    → crtc_in count w ≡ Some n → name_crtcs count rest ≡ all → name_crtcs count ws ≡ all
named_more_words w ws rest count n all is named so_far =
    sym (ap (λ o. is_some o && name_crtcs count ws) named) ∙ sym (ap (name_crtcs count) is) ∙ so_far

-- If the first word names no CRTC, not all words do.
pub not_named : (w : List ℕ) (ws rest : Words) (count : ℕ) (all : Bool) → rest ≡ w ∷ ws → crtc_in count w ≡ None
    → name_crtcs count rest ≡ all → all ≡ false
not_named w ws rest count all is none so_far =
    sym so_far ∙ ap (name_crtcs count) is ∙ ap (λ o. is_some o && name_crtcs count ws) none

-- If no words are left, the mask so far is the whole mask.
pub whole_mask : (mask whole : ℕ) (rest : Words) → rest ≡ [] → bit_or mask (mask_of rest) ≡ whole → mask ≡ whole
whole_mask mask whole rest none so_far =
    sym (or-none mask) ∙ ap (bit_or mask) (sym (ap mask_of none ∙ mask-nil)) ∙ so_far
