-- Leases that are found by the keys of their lessees.
use Rattle.std.proofs.Common.{◌≡◌, ℕ, ◌==◌, eqb, Bool, true, false, cond, map, List, Option, Some, None, option_map, refl, sym, ap, ◌∙◌, arith, eq-eqb, nat_cmp}
use Rattle.std.specs.FinMap as fin
use Rattle.std.proofs.lemmas.Bool.{eqb-true, eqb-false, ne_eqb}
use Rattle.std.proofs.lemmas.Option.{none-some, same_Some}
use Rattle.drm_index_array.proofs.Lists.{map-map}
use Rattle.drm_index_array.proofs.MarkedLemmas.{get-insert, get-remove}
use Rattle.drm_id_alloc.proofs.NumberTable.{none_found, first_found, find_number}
use Rattle.drm_leases.specs.declared.rows.LeaseRecord.{LeaseRecord}
use Rattle.drm_leases.specs.Leases.{Lending, lessee_at, key_at}
use Rattle.drm_leases.specs.Masks.{lease_row, leases_in, lending_of, lendings_in}

abbrev pub Leases : Type 0
Leases = fin.FinMap nat_cmp LeaseRecord

abbrev pub Lessees : Type 0
Lessees = fin.FinMap nat_cmp ℕ

-- by its key each lessee is found
abbrev pub Keyed : Leases → Lessees → Type 0
Keyed leases lessees = (m : ℕ) (x : LeaseRecord) → fin.get leases m ≡ Some x → fin.get lessees x.key ≡ Some m

-- and by a key no other
abbrev pub Named : Leases → Lessees → Type 0
Named leases lessees =
    (key m : ℕ) → fin.get lessees key ≡ Some m → option_map (λ (x : LeaseRecord). x.key) (fin.get leases m) ≡ Some key

-- In two empty maps, leases and keys agree.
pub none_keyed : (leases : Leases) (lessees : Lessees) → leases ≡ fin.empty → lessees ≡ fin.empty
    → Keyed leases lessees × Named leases lessees
none_keyed leases lessees none nobody = (
  λ m x at. absurd (none-some x (sym (ap (λ l. fin.get l m) none ∙ fin.get-empty nat_cmp m) ∙ at)),
  λ key m at. absurd (none-some m (sym (ap (λ l. fin.get l key) nobody ∙ fin.get-empty nat_cmp key) ∙ at)),
)

module _ (leases : Leases) (lessees : Lessees) (keyed : Keyed leases lessees) (named : Named leases lessees) where
  -- a lease is added
  module _ (m : ℕ) (x : LeaseRecord) (absent : fin.get leases m ≡ None) (free : fin.get lessees x.key ≡ None) where
    -- After a lease is added with its free key, each lease is found by its key.
    pub keyed_more : Keyed (fin.insert leases m x) (fin.insert lessees x.key m)
    keyed_more n y at =
        get-insert lessees x.key m y.key
        ∙ is n y (eqb n m) (eqb y.key x.key) refl refl (sym (get-insert leases m x n) ∙ at)
      where
        is : (n : ℕ) (y : LeaseRecord) (p q : Bool) → eqb n m ≡ p → eqb y.key x.key ≡ q
            → cond p (Some x) (fin.get leases n) ≡ Some y → cond q (Some m) (fin.get lessees y.key) ≡ Some n
        is n y true true is_m is_key at = ap (λ k. Some k) (sym (eqb-true n m is_m))
        is n y true false is_m other at =
            absurd (eqb-false y.key x.key other (sym (ap (λ (z : LeaseRecord). z.key) (same_Some x y at))))
        is n y false true other is_key at =
            absurd (none-some n (sym free ∙ ap (fin.get lessees) (sym (eqb-true y.key x.key is_key)) ∙ keyed n y at))
        is n y false false other_m other_key at = keyed n y at

    -- After a lease is added with its free key, each key leads to a lease that has it.
    pub named_more : Named (fin.insert leases m x) (fin.insert lessees x.key m)
    named_more key n at =
        ap (option_map (λ (z : LeaseRecord). z.key)) (get-insert leases m x n)
        ∙ is key n (eqb n m) (eqb key x.key) refl refl (sym (get-insert lessees x.key m key) ∙ at)
      where
        is : (key n : ℕ) (p q : Bool) → eqb n m ≡ p → eqb key x.key ≡ q → cond q (Some m) (fin.get lessees key) ≡ Some n
            → option_map (λ (z : LeaseRecord). z.key) (cond p (Some x) (fin.get leases n)) ≡ Some key
        is key n true true is_m is_key at = ap (λ k. Some k) (sym (eqb-true key x.key is_key))
        is key n false true other is_key at = absurd (eqb-false n m other (sym (same_Some m n at)))
        is key n true false is_m other at =
            absurd
            (none-some key (sym (ap (option_map (λ (z : LeaseRecord). z.key)) absent) ∙ ap (λ k. option_map (λ (z : LeaseRecord). z.key) (fin.get leases k)) (sym (eqb-true n m is_m)) ∙ named key n at))
        is key n false false other_m other_key at = named key n at

  -- a lease is removed
  module _ (m : ℕ) (x : LeaseRecord) (here : fin.get leases m ≡ Some x) where
    -- After a lease is removed with its key, each other one is found by its key.
    pub keyed_less : Keyed (fin.remove leases m) (fin.remove lessees x.key)
    keyed_less n y at =
        get-remove lessees x.key y.key ∙ is n y (eqb n m) (eqb y.key x.key) refl refl (sym (get-remove leases m n) ∙ at)
      where
        is : (n : ℕ) (y : LeaseRecord) (p q : Bool) → eqb n m ≡ p → eqb y.key x.key ≡ q
            → cond p None (fin.get leases n) ≡ Some y → cond q None (fin.get lessees y.key) ≡ Some n
        is n y true q is_m r at = absurd (none-some y at)
        is n y false true other is_key at =
            absurd
            (eqb-false n m other (same_Some n m (sym (keyed n y at) ∙ ap (fin.get lessees) (eqb-true y.key x.key is_key) ∙ keyed m x here)))
        is n y false false other_m other_key at = keyed n y at

    -- After a lease is removed with its key, each key leads to a lease that has it.
    pub named_less : Named (fin.remove leases m) (fin.remove lessees x.key)
    named_less key n at =
        ap (option_map (λ (z : LeaseRecord). z.key)) (get-remove leases m n)
        ∙ is key n (eqb n m) (eqb key x.key) refl refl (sym (get-remove lessees x.key key) ∙ at)
      where
        is : (key n : ℕ) (p q : Bool) → eqb n m ≡ p → eqb key x.key ≡ q → cond q None (fin.get lessees key) ≡ Some n
            → option_map (λ (z : LeaseRecord). z.key) (cond p None (fin.get leases n)) ≡ Some key
        is key n p true r is_key at = absurd (none-some n at)
        is key n true false is_m other at =
            absurd
            (eqb-false key x.key other (same_Some key x.key (sym (named key n at) ∙ ap (λ k. option_map (λ (z : LeaseRecord). z.key) (fin.get leases k)) (eqb-true n m is_m) ∙ ap (option_map (λ (z : LeaseRecord). z.key)) here)))
        is key n false false other_m other_key at = named key n at

  abbrev lending_row : ℕ × LeaseRecord → Lending
  lending_row e = lending_of (lease_row e)

  -- The lessee found by a key is the one whose lease has it.
  pub lessee_is : (key : ℕ) → fin.get lessees key ≡ lessee_at (lendings_in (leases_in leases)) key
  lessee_is key =
      by_cases (fin.get lessees key) refl
      ∙ ap (λ (l : List Lending). lessee_at l key) (sym (map-map lending_of lease_row (fin.entries leases)))
    where
      here : (o : Option LeaseRecord) → option_map (λ (x : LeaseRecord). x.key) o ≡ Some key
          → (x : LeaseRecord) × (o ≡ Some x) × (x.key ≡ key)
      here None at = absurd (none-some key at)
      here (Some x) at = (x, refl, same_Some x.key key at)

      by_cases : (o : Option ℕ) → fin.get lessees key ≡ o → o ≡ lessee_at (map lending_row (fin.entries leases)) key
      by_cases None none =
          ap (option_map (λ (x : Lending). x.lessee))
          (sym (none_found lending_row leases (λ (x : Lending). x.key == key) (λ a v at. ne_eqb v.key key (λ same. none-some a (sym none ∙ ap (fin.get lessees) (sym same) ∙ keyed a v at)))))
      by_cases (Some m) is =
          let x = here (fin.get leases m) (named key m is) in
          ap (option_map (λ (y : Lending). y.lessee))
          (sym (first_found lending_row leases (λ (y : Lending). y.key == key) m x.0 x.1 (eq-eqb x.0.key key x.2) (λ a v less at. ne_eqb v.key key (λ same. omega (arith, less, same_Some a m (sym (keyed a v at) ∙ ap (fin.get lessees) same ∙ is))))))

-- The key of a lessee is that of its lease.
pub key_is : (leases : Leases) (m : ℕ)
    → option_map (λ (x : LeaseRecord). x.key) (fin.get leases m) ≡ key_at (lendings_in (leases_in leases)) m
key_is leases m =
    composed (fin.get leases m)
    ∙ ap (option_map (λ (x : Lending). x.key))
    (sym (find_number (λ e. lending_of (lease_row e)) (λ (x : Lending). x.lessee) (λ e. refl) leases m))
    ∙ ap (λ (l : List Lending). key_at l m) (sym (map-map lending_of lease_row (fin.entries leases)))
  where
    composed : (o : Option LeaseRecord)
        → option_map (λ (x : LeaseRecord). x.key) o ≡ option_map (λ (x : Lending). x.key) (option_map (λ v. lending_of (lease_row (m, v))) o)
    composed None = refl
    composed (Some x) = refl
