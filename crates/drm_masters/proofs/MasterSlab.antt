-- The masters in their slab.
use Rattle.std.proofs.Common.{◌≡◌, ℕ, ◌==◌, true, false, not, cond, List, [], ◌∷◌, map, filter, find as find_row, Some, None, option_and_then, refl, sym, ap, ◌∙◌, nat_cmp}
use Rattle.std.specs.Prelude.{if◌then◌else◌}
use Rattle.std.specs.FinMap as fin
use Rattle.slab.specs.Slab.{Slab, get}
use Rattle.drm_keys.specs.Keys.{rows_in, IsKeyed}
use Rattle.drm_keys.proofs.KeyLemmas.{by_step_number}
use Rattle.drm_masters.specs.declared.rows.Master.{Master}
use Rattle.drm_masters.specs.Tables.{MasterRows, nothing}
use Rattle.std.proofs.lemmas.Option.{none-some}

abbrev pub key_of : Master → ℕ
key_of x = x.key

abbrev pub step_number_of : Master → ℕ
step_number_of x = x.step_number

abbrev pub rows : List Master → MasterRows
rows ms = record { items = ms }

module _ (keys : fin.FinMap nat_cmp ℕ) (slab : Slab Master) (keyed : IsKeyed key_of step_number_of keys slab) where
  abbrev all : List Master
  all = rows_in nothing slab (fin.entries keys)

  -- A larger capacity leaves the slab keyed.
  pub more_room : (capacity : ℕ) → IsKeyed key_of step_number_of keys (record slab { capacity = capacity })
  more_room capacity = record { record_of = keyed.record_of; key_of = keyed.key_of }

  -- The slab has a master at the key of each step number.
  pub key_there : (b k : ℕ) → fin.get keys b ≡ Some k → get slab k ≡ None → ⊥
  key_there b k at none = let w = keyed.record_of b k at in none-some w.0 (sym none ∙ w.1)

  -- The master at the key of a step number has this step number.
  pub at_key : (b k : ℕ) (x : Master) → fin.get keys b ≡ Some k → get slab k ≡ Some x → x.step_number ≡ b
  at_key b k x at there = let w = keyed.record_of b k at in (let one : Some x ≡ Some w.0 = sym there ∙ w.1 in let is : x ≡ w.0 = cc in ap step_number_of is ∙ w.2)

  -- for an unused step number nothing is changed or removed
  none_at : (b : ℕ) → fin.get keys b ≡ None → find_row (λ (x : Master). x.step_number == b) all ≡ None
  none_at b none = by_step_number key_of step_number_of nothing keys slab keyed b ∙ ap (option_and_then (get slab)) none

  -- A change of a master that does not exist leaves the list unchanged.
  pub none_changed : (b : ℕ) → fin.get keys b ≡ None → (g : Master → Master)
      → all ≡ map (λ (x : Master). if x.step_number == b then g x else x) all
  none_changed b none g = same all (none_at b none)
    where
      same : (xs : List Master) → find_row (λ (x : Master). x.step_number == b) xs ≡ None
          → xs ≡ map (λ (x : Master). if x.step_number == b then g x else x) xs
      same [] h = refl
      same (x ∷ xs) h =
          elim (x.step_number == b) as (λ t. cond t (Some x) (find_row (λ (y : Master). y.step_number == b) xs) ≡ None → x ∷ xs ≡ (if t then g x else x) ∷ map (λ (y : Master). if y.step_number == b then g y else y) xs) [
            | true ↦ λ n. absurd (none-some x (sym n))
            | false ↦ λ n. ap (λ l. x ∷ l) (same xs n)
          ] h

  -- The removal of a master that does not exist leaves the list unchanged.
  pub none_gone : (b : ℕ) → fin.get keys b ≡ None → all ≡ filter (λ (x : Master). not (x.step_number == b)) all
  none_gone b none = same all (none_at b none)
    where
      same : (xs : List Master) → find_row (λ (x : Master). x.step_number == b) xs ≡ None
          → xs ≡ filter (λ (x : Master). not (x.step_number == b)) xs
      same [] h = refl
      same (x ∷ xs) h =
          elim (x.step_number == b) as (λ t. cond t (Some x) (find_row (λ (y : Master). y.step_number == b) xs) ≡ None → x ∷ xs ≡ cond (not t) (x ∷ filter (λ (y : Master). not (y.step_number == b)) xs) (filter (λ (y : Master). not (y.step_number == b)) xs)) [
            | true ↦ λ n. absurd (none-some x (sym n))
            | false ↦ λ n. ap (λ l. x ∷ l) (same xs n)
          ] h
