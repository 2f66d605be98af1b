-- How groups change as numbers are added and removed.
use Rattle.std.proofs.Common.{◌≡◌, ℕ, ◌==◌, ◌&&◌, ◌||◌, Bool, true, false, not, cond, Option, Some, None, refl, sym, ap, ◌∙◌, eq-eqb, nat_cmp}
use Rattle.std.specs.Option.{option_map_or}
use Rattle.std.specs.FinMap as fin
use Rattle.std.proofs.lemmas.Bool.{false≢true, eqb-true, ne_eqb}
use Rattle.drm_index_array.proofs.MarkedLemmas.{get-insert, get-remove}
use Rattle.drm_id_alloc.specs.Groups.{Groups, AreSame, IsAdded, IsTaken, groups_in, AreGroupsOf}
use Rattle.std.proofs.Math.Bool.{and-false}
use Rattle.drm_index_array.proofs.Numbers.{same_either}

-- "Or false" changes nothing.
pub nothing_or : (b : Bool) → b ≡ (b || false)
nothing_or true = refl
nothing_or false = refl

-- "And true" changes nothing.
pub all_and : (b : Bool) → b ≡ (b && true)
all_and true = refl
all_and false = refl

-- ---- by a map from each group to what has its numbers

module _ {Y : Type 0} (has : Y → ℕ → Bool) where
  -- In an empty map no group has a number.
  pub groups_empty : (g n : ℕ) → groups_in has fin.empty g n ≡ false
  groups_empty g n = ap (λ o. option_map_or (λ y. has y n) o false) (fin.get-empty nat_cmp g)

  module _ (m : fin.FinMap nat_cmp Y) (g : ℕ) where
    -- A new entry of a group changes the numbers of this group and of no other.
    pub groups_insert : (b : Y) (d u : ℕ)
        → groups_in has (fin.insert m g b) d u ≡ cond (d == g) (has b u) (groups_in has m d u)
    groups_insert b d u = ap (λ o. option_map_or (λ y. has y u) o false) (get-insert m g b d) ∙ inside (d == g)
      where
        inside : (t : Bool)
            → option_map_or (λ y. has y u) (cond t (Some b) (fin.get m d)) false ≡ cond t (has b u) (groups_in has m d u)
        inside true = refl
        inside false = refl

    groups_remove : (d u : ℕ) → groups_in has (fin.remove m g) d u ≡ cond (d == g) false (groups_in has m d u)
    groups_remove d u = ap (λ o. option_map_or (λ y. has y u) o false) (get-remove m g d) ∙ inside (d == g)
      where
        inside : (t : Bool)
            → option_map_or (λ y. has y u) (cond t None (fin.get m d)) false ≡ cond t false (groups_in has m d u)
        inside true = refl
        inside false = refl

    -- A group has the numbers of its entry in the map, or none without an entry.
    pub group_is : (o : Option Y) → fin.get m g ≡ o → (u : ℕ)
        → groups_in has m g u ≡ option_map_or (λ y. has y u) o false
    group_is o is u = ap (λ o. option_map_or (λ y. has y u) o false) is

    here : (o : Option Y) → fin.get m g ≡ o → (d u : ℕ) → (d == g) ≡ true
        → groups_in has m d u ≡ option_map_or (λ y. has y u) o false
    here o is d u same = ap (λ k. groups_in has m k u) (eqb-true d g same) ∙ group_is o is u

    -- An entry with one more number adds this number to its group and changes no other.
    pub group_more : (o : Option Y) (b : Y) (n : ℕ) → fin.get m g ≡ o
        → ((u : ℕ) → has b u ≡ (option_map_or (λ y. has y u) o false || (u == n)))
        → IsAdded (groups_in has m) g n (groups_in has (fin.insert m g b))
    group_more o b n is own d u =
        groups_insert b d u
        ∙ elim (d == g) as (λ s. (d == g) ≡ s → cond s (has b u) (groups_in has m d u) ≡ (groups_in has m d u || (s && (u == n)))) [
          | true ↦ λ same. own u ∙ ap (λ s. s || (u == n)) (sym (here o is d u same))
          | false ↦ λ apart. nothing_or (groups_in has m d u)
        ] refl

    -- An entry without one of its numbers removes this number from its group and changes no other.
    pub group_less : (a b : Y) (n : ℕ) → fin.get m g ≡ Some a → ((u : ℕ) → has b u ≡ (has a u && not (u == n)))
        → IsTaken (groups_in has m) g n (groups_in has (fin.insert m g b))
    group_less a b n is own d u =
        groups_insert b d u
        ∙ elim (d == g) as (λ s. (d == g) ≡ s → cond s (has b u) (groups_in has m d u) ≡ (groups_in has m d u && not (s && (u == n)))) [
          | true ↦ λ same. own u ∙ ap (λ s. s && not (u == n)) (sym (here (Some a) is d u same))
          | false ↦ λ apart. all_and (groups_in has m d u)
        ] refl

  -- Removing a group with its last number removes this number and no other.
  pub group_last : (m : fin.FinMap nat_cmp Y) (g : ℕ) (a b : Y) (n : ℕ) → fin.get m g ≡ Some a
      → ((u : ℕ) → has b u ≡ (has a u && not (u == n))) → ((u : ℕ) → has b u ≡ false)
      → IsTaken (groups_in has m) g n (groups_in has (fin.remove (fin.insert m g b) g))
  group_last m g a b n is own none d u =
      groups_remove (fin.insert m g b) g d u
      ∙ elim (d == g) as (λ s. (d == g) ≡ s → cond s false (groups_in has (fin.insert m g b) d u) ≡ (groups_in has m d u && not (s && (u == n)))) [
        | true ↦ λ same. sym (none u) ∙ own u ∙ ap (λ s. s && not (u == n)) (sym (here m g (Some a) is d u same))
        | false ↦ λ apart. groups_insert m g b d u ∙ ap (λ s. cond s (has b u) (groups_in has m d u)) apart ∙ all_and (groups_in has m d u)
      ] refl

-- ---- by the groups that the values of a map name

module _ {X : Type 0} (group : X → ℕ) where
  abbrev in_group : ℕ → Option X → Bool
  in_group g o = option_map_or (λ x. group x == g) o false

  -- An empty map has the groups without numbers.
  pub grouped_empty : (m : fin.FinMap nat_cmp X) (groups : Groups) → m ≡ fin.empty → ((g n : ℕ) → groups g n ≡ false)
      → AreGroupsOf group m groups
  grouped_empty m groups none nobody g n =
      nobody g n ∙ ap (in_group g) (sym (ap (λ s. fin.get s n) none ∙ fin.get-empty nat_cmp n))

  module _ (m : fin.FinMap nat_cmp X) (old new : Groups) (are : AreGroupsOf group m old) where
    -- If the groups are unchanged, they are still those of the map.
    pub grouped_same : AreSame old new → AreGroupsOf group m new
    grouped_same same g n = same g n ∙ are g n

    -- After a value and its number are added, the groups are those of the map with it.
    pub grouped_more : (n : ℕ) (x : X) (g : ℕ) → fin.get m n ≡ None → group x ≡ g → IsAdded old g n new
        → AreGroupsOf group (fin.insert m n x) new
    grouped_more n x g fresh is added d u =
        added d u
        ∙ ap (λ s. s || ((d == g) && (u == n))) (are d u)
        ∙ elim (u == n) as (λ s. (u == n) ≡ s → (in_group d (fin.get m u) || ((d == g) && s)) ≡ in_group d (cond s (Some x) (fin.get m u))) [
          | true ↦ λ same.
              ap (λ o. in_group d o || ((d == g) && true)) (ap (fin.get m) (eqb-true u n same) ∙ fresh)
              ∙ sym (all_and (d == g)) ∙ same_either d g ∙ ap (λ k. k == d) (sym is)
          | false ↦ λ apart. ap (λ s. in_group d (fin.get m u) || s) (and-false (d == g)) ∙ sym (nothing_or (in_group d (fin.get m u)))
        ] refl
        ∙ ap (in_group d) (sym (get-insert m n x u))

    -- After a value and its number are removed, the groups are those of the map without it.
    pub grouped_fewer : (n : ℕ) (x : X) (g : ℕ) → fin.get m n ≡ Some x → group x ≡ g → IsTaken old g n new
        → AreGroupsOf group (fin.remove m n) new
    grouped_fewer n x g there is taken d u =
        taken d u
        ∙ ap (λ s. s && not ((d == g) && (u == n))) (are d u)
        ∙ elim (u == n) as (λ s. (u == n) ≡ s → (in_group d (fin.get m u) && not ((d == g) && s)) ≡ in_group d (cond s None (fin.get m u))) [
          | true ↦ λ same.
              ap (λ o. in_group d o && not ((d == g) && true)) (ap (fin.get m) (eqb-true u n same) ∙ there)
              ∙ elim (d == g) as (λ s. (d == g) ≡ s → ((group x == d) && not (s && true)) ≡ false) [
                | true ↦ λ e. and-false (group x == d)
                | false ↦ λ e. ap (λ s. s && true) (ne_eqb (group x) d (λ same. false≢true (sym e ∙ eq-eqb d g (sym same ∙ is))))
              ] refl
          | false ↦ λ apart. ap (λ s. in_group d (fin.get m u) && not s) (and-false (d == g)) ∙ sym (all_and (in_group d (fin.get m u)))
        ] refl
        ∙ ap (in_group d) (sym (get-remove m n u))

    -- Another value of the same group at a number keeps the groups.
    pub grouped_kept : (n : ℕ) (x y : X) → fin.get m n ≡ Some x → group y ≡ group x
        → AreGroupsOf group (fin.insert m n y) old
    grouped_kept n x y there same g u =
        are g u
        ∙ elim (u == n) as (λ s. (u == n) ≡ s → in_group g (fin.get m u) ≡ in_group g (cond s (Some y) (fin.get m u))) [
          | true ↦ λ e. ap (in_group g) (ap (fin.get m) (eqb-true u n e) ∙ there) ∙ ap (λ k. k == g) (sym same)
          | false ↦ λ e. refl
        ] refl
        ∙ ap (in_group g) (sym (get-insert m n y u))

    -- A number added to a group and removed again leaves the groups unchanged.
    pub grouped_back : (again : Groups) (g n : ℕ) → fin.get m n ≡ None → IsAdded old g n new → IsTaken new g n again
        → AreSame old again
    grouped_back again g n fresh added taken d u =
        taken d u ∙ ap (λ s. s && not ((d == g) && (u == n))) (added d u)
        ∙ elim ((d == g) && (u == n)) as (λ s. ((d == g) && (u == n)) ≡ s → ((old d u || s) && not s) ≡ old d u) [
          | true ↦ λ both. and-false (old d u || true) ∙ sym (are d u ∙ ap (in_group d) (ap (fin.get m) (eqb-true u n (second (d == g) (u == n) both)) ∙ fresh))
          | false ↦ λ apart. sym (nothing_or (old d u) ∙ all_and (old d u || false))
        ] refl
      where
        second : (a b : Bool) → (a && b) ≡ true → b ≡ true
        second true b e = e
        second false b e = absurd (false≢true e)
