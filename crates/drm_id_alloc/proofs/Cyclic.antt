-- The number that follows in a table of the numbers from 1 on.
use Rattle.std.proofs.Common.{◌≡◌, ℕ, ◌+◌, ◌≤◌, Option, Some, None, unwrap_or, IfSome, ◌↔◌, refl, sym, ap, ◌∙◌, arith}
use Rattle.std.proofs.lemmas.Option.{none-some}
use Rattle.drm_index_array.specs.Least.{least}
use Rattle.drm_index_array.proofs.Least.{least_is_none, least_none}
use Rattle.drm_id_alloc.specs.Table.{Table, IsNumbered, is_free, least_free, next_after, next_cyclic, or_else}

module _ {T : Type 0} (t : Table T) where
  or_same : (x : Option ℕ) → or_else x x ≡ x
  or_same None = refl
  or_same (Some n) = refl

  -- The next number in rotation is the lowest free one above the last allocated one, else the lowest free one.
  pub next_is : t.first ≡ 1
      → or_else (least (is_free t) (unwrap_or t.last_given 0 + 1) t.last) (least (is_free t) 1 t.last) ≡ next_cyclic t
  next_is first = turn t.last_given
    where
      turn : (g : Option ℕ)
          → or_else (least (is_free t) (unwrap_or g 0 + 1) t.last) (least (is_free t) 1 t.last) ≡ next_after t g
      turn None = or_same (least (is_free t) 1 t.last) ∙ ap (λ n. least (is_free t) n t.last) (sym first)
      turn (Some g) = ap (λ n. or_else (least (is_free t) (g + 1) t.last) (least (is_free t) n t.last)) (sym first)

  -- No number is free if and only if there is no next one in rotation.
  pub full_is : IsNumbered t → (least_free t ≡ None) ↔ (next_cyclic t ≡ None)
  full_is is = ((λ none. none_next t.last_given is.within.given_low none), λ none. none_least t.last_given none)
    where
      none_next : (g : Option ℕ) → IfSome g (λ n. t.first ≤ n) → least_free t ≡ None → next_after t g ≡ None
      none_next None low none = none
      none_next (Some g) low none =
          let above : least (is_free t) (g + 1) t.last ≡ None =
          least_is_none (is_free t) (g + 1) t.last
          (λ k ge le. least_none (is_free t) t.first t.last none k (omega (arith, low, ge)) le) in
          ap (λ x. or_else x (least_free t)) above ∙ none

      second : (x y : Option ℕ) → or_else x y ≡ None → y ≡ None
      second None y none = none
      second (Some n) y none = absurd (none-some n (sym none))

      none_least : (g : Option ℕ) → next_after t g ≡ None → least_free t ≡ None
      none_least None none = none
      none_least (Some g) none = second (least (is_free t) (g + 1) t.last) (least_free t) none
