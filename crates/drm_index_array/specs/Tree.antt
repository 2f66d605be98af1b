-- A subtree: its height, and its map, by indices from 0 (own).
use Rattle.std.specs.Prelude.{ℕ, zero, suc, ◌+◌, ◌*◌, ◌^◌, Bool, not, Option, Some, None, is_some, refl}
use Rattle.std.specs.Option.{option_map_or}
use Rattle.std.specs.Ordering.{nat_cmp}
use Rattle.std.specs.FinMap as map
use Rattle.std.specs.Coded.{Coded, code_by, coded×, coded_ℕ}
use Rattle.drm_index_array.specs.Marked.{Marked, MarkedMap, marked_code, mark_of}
use Rattle.drm_index_array.specs.declared.words.Sought.{Sought}
use Rattle.drm_index_array.specs.declared.words.Sought.TheVariants.{Taken, Vacant, Marked as WithMark}

-- a subtree: its height and its map
pub record Tree (T : Type 0) : Type 0 where
  pub height : ℕ
  pub items : MarkedMap T

-- the code of a subtree
abbrev pub tree_code : {T : Type 0} → Coded T → Coded (Tree T)
tree_code {T} code =
    code_by (ℕ × MarkedMap T) (coded× coded_ℕ (map.code coded_ℕ (marked_code code))) (λ t. (t.height, t.items))
    (λ p. record { height = p.0; items = p.1 }) (λ _. refl)

-- how many indices one slot of a node of this height covers
abbrev pub width : ℕ → ℕ
width height = 2 ^ (6 * height)

-- how many indices a node of this height covers
abbrev pub span : ℕ → ℕ
span height = 2 ^ (6 * height + 6)

module _ {X : Type 0} where
  abbrev pub given_at : ℕ → Option X → map.FinMap nat_cmp X → map.FinMap nat_cmp X
  given_at i None m = m
  given_at i (Some x) m = map.insert m i x

  -- what a function returns at the numbers below a bound
  unfoldable pub table : ℕ → (ℕ → Option X) → map.FinMap nat_cmp X
  table zero f = map.empty
  table (suc n) f = given_at n (f n) (table n f)

  -- whether an index is sought, by what it has
  abbrev pub is_sought : Sought → Option (Marked X) → Bool
  is_sought Taken o = is_some o
  is_sought Vacant o = not (is_some o)
  is_sought (WithMark m) o = option_map_or (λ s. mark_of s m) o Bool.false
