-- How the ids of owners change as lessees are created and released.
use Rattle.std.proofs.Common.{◌≡◌, ℕ, ◌==◌, ◌&&◌, Bool, true, false, cond, length, List, [], ◌∷◌, Option, Some, None, refl, sym, ap, ◌∙◌, arith, nat_cmp}
use Rattle.std.specs.Prelude.{if◌then◌else◌}
use Rattle.std.specs.FinMap as fin
use Rattle.std.specs.FinMap.Entries.{find}
use Rattle.std.proofs.lemmas.Bool.{eqb-true}
use Rattle.drm_index_array.specs.Indexed.{Indexed, empty_array, with_item, without_item}
use Rattle.drm_index_array.proofs.MarkedLemmas.{get-insert, get-remove}
use Rattle.drm_masters.specs.Ids.{IdMap, id_in, id_at, IsSet}

as_if : {X : Type 0} (b : Bool) (x y : X) → cond b x y ≡ (if b then x else y)
as_if true x y = refl
as_if false x y = refl

-- An empty map of ids finds no lessee.
pub none_at : (o i : ℕ) → id_at fin.empty o i ≡ None
none_at o i = ap (λ r. id_in r i) (fin.get-empty nat_cmp o)

module _ (m : IdMap) (o : ℕ) where
  inserted : (y : Indexed ℕ) (p q : ℕ) → id_at (fin.insert m o y) p q ≡ cond (p == o) (fin.get y.items q) (id_at m p q)
  inserted y p q = ap (λ r. id_in r q) (get-insert m o y p) ∙ inside (p == o)
    where
      inside : (t : Bool) → id_in (cond t (Some y) (fin.get m p)) q ≡ cond t (fin.get y.items q) (id_at m p q)
      inside true = refl
      inside false = refl

  removed : (p q : ℕ) → id_at (fin.remove m o) p q ≡ cond (p == o) None (id_at m p q)
  removed p q = ap (λ r. id_in r q) (get-remove m o p) ∙ inside (p == o)
    where
      inside : (t : Bool) → id_in (cond t None (fin.get m p)) q ≡ cond t None (id_at m p q)
      inside true = refl
      inside false = refl

  here : (r : Option (Indexed ℕ)) → fin.get m o ≡ r → (p q : ℕ) → (p == o) ≡ true → id_at m p q ≡ id_in r q
  here r is p q same = ap (λ k. id_at m k q) (eqb-true p o same) ∙ ap (λ s. id_in s q) is

  -- Writing an owner's table with one id changed changes this id of this owner and no other.
  pub set_one : (r : Option (Indexed ℕ)) (y : Indexed ℕ) (i : ℕ) (step_number : Option ℕ) → fin.get m o ≡ r
      → ((q : ℕ) → fin.get y.items q ≡ cond (q == i) step_number (id_in r q))
      → IsSet (id_at m) o i step_number (id_at (fin.insert m o y))
  set_one r y i step_number is own p q =
      inserted y p q
      ∙ elim (p == o) as (λ s. (p == o) ≡ s → cond s (fin.get y.items q) (id_at m p q) ≡ (if s && (q == i) then step_number else id_at m p q)) [
        | true ↦ λ same. own q ∙ as_if (q == i) step_number (id_in r q) ∙ ap (λ n. if q == i then step_number else n) (sym (here r is p q same))
        | false ↦ λ apart. refl
      ] refl

  -- Removing an id of an owner without ids changes nothing.
  pub set_none : (i : ℕ) → fin.get m o ≡ None → IsSet (id_at m) o i None (id_at m)
  set_none i is p q =
      elim (p == o) as (λ s. (p == o) ≡ s → id_at m p q ≡ (if s && (q == i) then None else id_at m p q)) [
        | true ↦ λ same. here None is p q same ∙ same_none None (q == i) ∙ ap (λ n. if q == i then None else n) (sym (here None is p q same))
        | false ↦ λ apart. refl
      ] refl
    where
      same_none : (n : Option ℕ) (b : Bool) → n ≡ (if b then n else n)
      same_none n true = refl
      same_none n false = refl

-- Removing an owner with its last id removes this id and no other.
pub set_last : (m : IdMap) (o : ℕ) (a y : Indexed ℕ) (i : ℕ) → fin.get m o ≡ Some a
    → ((q : ℕ) → fin.get y.items q ≡ cond (q == i) None (fin.get a.items q)) → ((q : ℕ) → fin.get y.items q ≡ None)
    → IsSet (id_at m) o i None (id_at (fin.remove (fin.insert m o y) o))
set_last m o a y i is own none p q =
    removed (fin.insert m o y) o p q
    ∙ elim (p == o) as (λ s. (p == o) ≡ s → cond s None (id_at (fin.insert m o y) p q) ≡ (if s && (q == i) then None else id_at m p q)) [
      | true ↦ λ same. sym (none q) ∙ own q ∙ as_if (q == i) None (fin.get a.items q) ∙ ap (λ n. if q == i then None else n) (sym (here m o (Some a) is p q same))
      | false ↦ λ apart. inserted m o y p q ∙ ap (λ s. cond s (fin.get y.items q) (id_at m p q)) apart
    ] refl

-- ---- one owner's

-- Adding an id to an owner's table adds this id and changes no other.
pub item_more : (a b : Indexed ℕ) (i step_number : ℕ) → b ≡ with_item a i step_number → (q : ℕ)
    → fin.get b.items q ≡ cond (q == i) (Some step_number) (fin.get a.items q)
item_more a b i step_number new q = ap (λ (x : Indexed ℕ). fin.get x.items q) new ∙ get-insert a.items i step_number q

-- An id added to an empty table is the only one in it.
pub item_first : (a b : Indexed ℕ) (i step_number : ℕ) → a ≡ empty_array → b ≡ with_item a i step_number → (q : ℕ)
    → fin.get b.items q ≡ cond (q == i) (Some step_number) None
item_first a b i step_number none new q =
    item_more a b i step_number new q
    ∙ ap (cond (q == i) (Some step_number)) (ap (λ (x : Indexed ℕ). fin.get x.items q) none ∙ fin.get-empty nat_cmp q)

-- Removing an id from an owner's table removes this id and changes no other.
pub item_less : (a b : Indexed ℕ) (i : ℕ) → b ≡ without_item a i → (q : ℕ)
    → fin.get b.items q ≡ cond (q == i) None (fin.get a.items q)
item_less a b i new q = ap (λ (x : Indexed ℕ). fin.get x.items q) new ∙ get-remove a.items i q

-- A table of length 0 finds no lessee.
pub no_item : (a : Indexed ℕ) → fin.len a.items ≡ 0 → (q : ℕ) → fin.get a.items q ≡ None
no_item a last q = fin.get-entries a.items q ∙ none_in (fin.entries a.items) (sym (fin.len-entries a.items) ∙ last) q
  where
    none_in : (es : List (ℕ × ℕ)) → length es ≡ 0 → (u : ℕ) → find nat_cmp u es ≡ None
    none_in [] e u = refl
    none_in (x ∷ es) e u = absurd (omega (arith, e))
