-- Searches over ranges of slots.
use Rattle.std.proofs.Common.{◌≡◌, ℕ, ◌+◌, ◌-◌, ◌*◌, ◌/◌, ◌<◌, ◌≤◌, Bool, true, false, ◌⊎◌, Option, Some, None, is_some, option_map, MatchOption, refl, sym, ap, ◌∙◌, inl, inr, arith}
use Rattle.std.proofs.lemmas.Bool.{cases_lt, false≢true}
use Rattle.std.proofs.Math.Nat.{mod-lt, mul-le-mul_right, div-lt_iff_lt-mul, div-add-mod}
use Rattle.drm_index_array.specs.Least.{least, IsLeast, NonePasses}
use Rattle.drm_index_array.proofs.Least.{least_cases, least_some, least_none, least_is, least_is_none, least_by_cases}

-- A search in a part of a longer range is the search there, counted from the part's base.
pub least_moved : (p q : ℕ → Bool) (base from to : ℕ) → ((r : ℕ) → from ≤ r → r ≤ to → q r ≡ p (base + r))
    → option_map (λ n. base + n) (least q from to) ≡ least p (base + from) (base + to)
least_moved p q base from to same = least_by_cases p (base + from) (base + to) _ (elim (least q from to) as (λ r. MatchOption r (NonePasses q from to) (IsLeast q from to) → MatchOption (option_map (λ n. base + n) r) (NonePasses p (base + from) (base + to)) (IsLeast p (base + from) (base + to))) [
  | None ↦ λ none k ge le. moved k ge le (none (k - base) (omega arith) (omega arith))
  | Some n ↦ λ is. record {
    at_least = omega (arith, is.at_least);
    at_most = omega (arith, is.at_most);
    passes = sym (same n is.at_least is.at_most) ∙ is.passes;
    none_below =
        λ k ge lt. moved k ge (omega (arith, is.at_most)) (is.none_below (k - base) (omega arith) (omega arith));
  }
] (least_cases q from to))
  where
    moved : (k : ℕ) → base + from ≤ k → k ≤ base + to → q (k - base) ≡ false → p k ≡ false
    moved k ge le fails = let back : base + (k - base) ≡ k = omega arith in ap p (sym back) ∙ sym (same (k - base) (omega arith) (omega arith)) ∙ fails

-- A mapped option has a value if and only if the option has one.
pub is_some-option_map : {A B : Type 0} (f : A → B) (o : Option A) → is_some (option_map f o) ≡ is_some o
is_some-option_map f None = refl
is_some-option_map f (Some x) = refl

-- The lowest number of a part from the same start is the lowest of the whole range.
pub least_wider : (p : ℕ → Bool) (from mid to n : ℕ) → mid ≤ to → least p from mid ≡ Some n → least p from to ≡ Some n
least_wider p from mid to n le found =
    let is = least_some p from mid n found in
    least_is p from to n
    (record { at_least = is.at_least; at_most = omega (arith, is.at_most); passes = is.passes; none_below = is.none_below })

-- If `least` finds nothing in a range, no number of it passes.
pub none_of : (p : ℕ → Bool) (from to : ℕ) → is_some (least p from to) ≡ false → NonePasses p from to
none_of p from to e = elim (least p from to) as (λ r. least p from to ≡ r → is_some r ≡ false → NonePasses p from to) [
  | None ↦ λ is _. least_none p from to is
  | Some n ↦ λ _ bad. absurd (false≢true (sym bad))
] refl e

-- If a number of a range passes, `least` finds one in it.
pub some_in : (p : ℕ → Bool) (from to n : ℕ) → from ≤ n → n ≤ to → p n ≡ true → is_some (least p from to) ≡ true
some_in p from to n ge le passes =
    elim (least p from to) as (λ r. MatchOption r (NonePasses p from to) (IsLeast p from to) → is_some r ≡ true) [
      | None ↦ λ none. absurd (false≢true (sym (none n ge le) ∙ passes))
      | Some m ↦ λ _. refl
    ] (least_cases p from to)

-- slots of w numbers each, of which `tells` says where some number passes
module _ (p : ℕ → Bool) (w : ℕ) (pos : 0 < w) (tells : ℕ → Bool) (told : (i : ℕ) → i < 64 → tells i ≡ is_some (least p (i * w + 0) (i * w + (w - 1)))) where
  -- a number lies in its slot
  in_slot : (k : ℕ) → (k / w * w ≤ k) × (k ≤ k / w * w + (w - 1))
  in_slot k = omega (arith, div-add-mod k w, mod-lt k pos)

  slot_below : (k : ℕ) → k ≤ 64 * w - 1 → k / w < 64
  slot_below k le = (div-lt_iff_lt-mul {k = w} pos).1 (omega arith)

  -- no number passes in a slot for which `tells` is false
  not_told : (k : ℕ) → k ≤ 64 * w - 1 → tells (k / w) ≡ false → p k ≡ false
  not_told k le e =
      none_of p _ _ (sym (told (k / w) (slot_below k le)) ∙ e) k (omega (arith, (in_slot k).0)) (in_slot k).1

  -- Some slot has a number that passes if and only if some number of the node does.
  pub any_told : is_some (least tells 0 63) ≡ is_some (least p 0 (64 * w - 1))
  any_told = by_word (least tells 0 63) refl
    where
      in_slot_of : (t : ℕ) (r : Option ℕ) → t ≤ 63 → least p (t * w + 0) (t * w + (w - 1)) ≡ r → is_some r ≡ true
          → is_some (least p 0 (64 * w - 1)) ≡ true
      in_slot_of t None le e some = absurd (false≢true some)
      in_slot_of t (Some n) le e some =
          let is = least_some p _ _ n e in
          let high : t * w ≤ 63 * w = mul-le-mul_right w le in
          some_in p 0 (64 * w - 1) n (omega arith) (omega (arith, is.at_most)) is.passes

      by_word : (r : Option ℕ) → least tells 0 63 ≡ r → is_some r ≡ is_some (least p 0 (64 * w - 1))
      by_word None e =
          sym
          (ap is_some (least_is_none p 0 _ (λ k _ le. not_told k le (least_none tells 0 63 e (k / w) (omega arith) (omega (arith, slot_below k le))))))
      by_word (Some t) e =
          let word = least_some tells 0 63 t e in
          sym
          (in_slot_of t (least p (t * w + 0) (t * w + (w - 1))) word.at_most refl (sym (told t (omega (arith, word.at_most))) ∙ word.passes))

  module _ (at rest : ℕ) (rest_in : rest < w) (at_in : at < 64) (none : None ≡ least p (at * w + rest) (at * w + (w - 1))) where
    -- a number after the first slot's rest lies in a later slot
    later : (k : ℕ) → at * w + rest ≤ k → (p k ≡ false) ⊎ (at < k / w)
    later k ge =
        elim (cases_lt (at * w + (w - 1)) k) [
          | inl past ↦ inr (after k past)
          | inr here ↦ inl (least_none p _ _ (sym none) k ge here)
        ]
      where
        after : (k : ℕ) → at * w + (w - 1) < k → at < k / w
        after k past =
            elim (cases_lt at (k / w)) [
              | inl lt ↦ lt
              | inr le ↦ absurd (too_low k past le)
            ]
          where
            too_low : (k : ℕ) → at * w + (w - 1) < k → k / w ≤ at → ⊥
            too_low k past le = let m : k / w * w ≤ at * w = mul-le-mul_right w le in omega (arith, (in_slot k).1)

    past_end : (k : ℕ) → at ≡ 63 → at < k / w → k ≤ 64 * w - 1 → ⊥
    past_end k last after le = omega (arith, slot_below k le)

    -- If nothing is found in the last slot, nothing is found up to the end of the node.
    pub next_at_end : at ≡ 63 → None ≡ least p (at * w + rest) (64 * w - 1)
    next_at_end last = sym (least_is_none p _ _ (λ k ge le. elim (later k ge) as (λ _. p k ≡ false) [
      | inl fails ↦ fails
      | inr after ↦ absurd (past_end k last after le)
    ]))

    -- If no later slot has a number that passes, nothing is found up to the end of the node.
    pub next_none : None ≡ least tells (at + 1) 63 → None ≡ least p (at * w + rest) (64 * w - 1)
    next_none untold = sym (least_is_none p _ _ (λ k ge le. elim (later k ge) as (λ _. p k ≡ false) [
      | inl fails ↦ fails
      | inr after ↦ not_told k le (least_none tells (at + 1) 63 (sym untold) (k / w) (omega arith) (omega (arith, slot_below k le)))
    ]))

    next_found : (t n : ℕ) → IsLeast tells (at + 1) 63 t → IsLeast p (t * w + 0) (t * w + (w - 1)) n
        → IsLeast p (at * w + rest) (64 * w - 1) n
    next_found t n word is =
        let low : (at + 1) * w ≤ t * w = mul-le-mul_right w word.at_least in
        let high : t * w ≤ 63 * w = mul-le-mul_right w word.at_most in
        record {
          at_least = omega (arith, is.at_least);
          at_most = omega (arith, is.at_most);
          passes = is.passes;
          none_below = λ k ge lt. elim (later k ge) as (λ _. p k ≡ false) [
            | inl fails ↦ fails
            | inr after ↦ elim (cases_lt (k / w) t) as (λ _. p k ≡ false) [
              | inl before ↦ not_told k (omega (arith, is.at_most)) (word.none_below (k / w) (omega arith) before)
              | inr from ↦ let m : t * w ≤ k / w * w = mul-le-mul_right w from in is.none_below k (omega (arith, (in_slot k).0)) lt
            ]
          ];
        }

    -- What is found in the first later slot that has a passing number is the first in the rest of the node.
    pub next_some : (t : ℕ) (r : Option ℕ) → Some t ≡ least tells (at + 1) 63
        → r ≡ least p (t * w + 0) (t * w + (w - 1)) → r ≡ least p (at * w + rest) (64 * w - 1)
    next_some t None found next =
        let word = least_some tells (at + 1) 63 t (sym found) in
        absurd (false≢true (ap is_some next ∙ sym (told t (omega (arith, word.at_most))) ∙ word.passes))
    next_some t (Some n) found next =
        sym
        (least_is p _ _ n (next_found t n (least_some tells (at + 1) 63 t (sym found)) (least_some p _ _ n (sym next))))
