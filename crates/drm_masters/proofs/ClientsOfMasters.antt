-- The clients of each master.
use Rattle.std.proofs.Common.{◌≡◌, ℕ, ◌≤◌, ◌==◌, Bool, true, false, not, cond, ◌&&◌, ◌||◌, List, [], ◌∷◌, Option, None, Some, option_map, refl, sym, ap, ◌∙◌, eq-eqb, arith}
use Rattle.std.specs.Prelude.{IfNone}
use Rattle.std.specs.List.{list_any, AllByRecursion}
use Rattle.std.specs.Option.{is_some, option_map_or}
use Rattle.std.specs.FinMap as fin
use Rattle.std.proofs.lemmas.Bool.{false≢true, eqb-true}
use Rattle.drm_index_array.specs.Least.{least}
use Rattle.drm_index_array.proofs.Least.{least_some}
use Rattle.drm_id_alloc.specs.Groups.{Groups, GroupMap, has, AreGroupsOf, IsAdded, IsTaken}
use Rattle.drm_index_array.proofs.MarkedLemmas.{get-insert}
use Rattle.drm_index_array.proofs.Lists.{all_weaker}
use Rattle.drm_index_array.proofs.Numbers.{same_either}
use Rattle.drm_index_array.proofs.Rising.{any_found, all_found}
use Rattle.drm_masters.specs.declared.members.Membership.{Membership}
use Rattle.drm_masters.specs.declared.rows.Member.{Member}
use Rattle.drm_masters.specs.Masters.{is_client, member_of}
use Rattle.drm_masters.specs.Tables.{member_row, members_in}
use Rattle.drm_masters.proofs.ClientList.{Clients, client_is, clients_rise}

abbrev pub master_of : Membership → ℕ
master_of x = x.master

module _ (m : Clients) where
  -- A client that is not found has no record.
  pub new_absent : (c : ℕ) → is_some (member_of (members_in m) c) ≡ false → fin.get m c ≡ None
  new_absent c absent = by_row (fin.get m c) (ap is_some (sym (client_is m c)) ∙ absent)
    where
      by_row : (o : Option Membership) → is_some (option_map (λ v. member_row (c, v)) o) ≡ false → o ≡ None
      by_row None e = refl
      by_row (Some v) e = absurd (false≢true (sym e))

  -- A client that is found has a record with its master.
  pub kept_of : (c : ℕ) (x : Member) → member_of (members_in m) c ≡ Some x
      → (v : Membership) × (fin.get m c ≡ Some v) × (v.master ≡ x.master)
  kept_of c x e = by_row (fin.get m c) refl (sym (client_is m c) ∙ e)
    where
      by_row : (o : Option Membership) → fin.get m c ≡ o → option_map (λ v. member_row (c, v)) o ≡ Some x
          → (v : Membership) × (fin.get m c ≡ Some v) × (v.master ≡ x.master)
      by_row None at h = absurd (false≢true (ap is_some h))
      by_row (Some v) at h = (v, at, let one : member_row (c, v) ≡ x = cc in ap (λ (y : Member). y.master) one)

  module _ (groups : GroupMap) (are : AreGroupsOf master_of m (has groups)) (g : ℕ) where
    named_is : (c : ℕ)
        → has groups g c ≡ option_map_or (λ (x : Member). x.master == g) (member_of (members_in m) c) false
    named_is c =
        are g c ∙ by_row (fin.get m c)
        ∙ sym (ap (λ o. option_map_or (λ (x : Member). x.master == g) o false) (client_is m c))
      where
        by_row : (o : Option Membership)
            → option_map_or (λ (x : Membership). x.master == g) o false ≡ option_map_or (λ (x : Member). x.master == g) (option_map (λ v. member_row (c, v)) o) false
        by_row None = refl
        by_row (Some v) = refl

    row_is : AllByRecursion (λ (x : Member). (x.master == g) ≡ has groups g x.client) (members_in m)
    row_is =
        all_weaker (λ (x : Member). member_of (members_in m) x.client ≡ Some x)
        (λ (x : Member). (x.master == g) ≡ has groups g x.client)
        (λ x at. sym (named_is x.client ∙ ap (λ o. option_map_or (λ (y : Member). y.master == g) o false) at))
        (members_in m) (all_found (λ (x : Member). x.client) (members_in m) (clients_rise m))

    -- A master's group has a number if and only if some client names this master.
    pub any_named : (o : Option ℕ) → o ≡ least (has groups g) 0 4294967295
        → IfNone o ((n : ℕ) → 0 ≤ n → has groups g n ≡ false)
        → is_some o ≡ list_any (λ (x : Member). x.master == g) (members_in m)
    any_named None e none = sym (all (members_in m) row_is)
      where
        all : (xs : List Member) → AllByRecursion (λ (x : Member). (x.master == g) ≡ has groups g x.client) xs
            → list_any (λ (x : Member). x.master == g) xs ≡ false
        all [] h = refl
        all (x ∷ xs) h =
            ap (λ b. b || list_any (λ (y : Member). y.master == g) xs) (h.0 ∙ none x.client (omega arith)) ∙ all xs h.1
    any_named (Some n) e none =
        by_row (member_of (members_in m) n) refl
        (sym (named_is n) ∙ (least_some (has groups g) 0 4294967295 n (sym e)).passes)
      where
        by_row : (o : Option Member) → member_of (members_in m) n ≡ o
            → option_map_or (λ (x : Member). x.master == g) o false ≡ true
            → true ≡ list_any (λ (x : Member). x.master == g) (members_in m)
        by_row None at h = absurd (false≢true h)
        by_row (Some x) at h = sym (any_found (is_client n) (λ (y : Member). y.master == g) x (members_in m) at h)

-- If a client changes from one master to another, the groups are those of the changed records.
pub named_moved : (m : Clients) (old mid new : Groups) → AreGroupsOf master_of m old
    → (n : ℕ) (x y : Membership) (g h : ℕ) → fin.get m n ≡ Some x → x.master ≡ g → y.master ≡ h → (g == h) ≡ false
    → IsAdded old h n mid → IsTaken mid g n new →
    AreGroupsOf master_of (fin.insert m n y) new
named_moved m old mid new are n x y g h there gx hy apart added taken d u =
    taken d u ∙ ap (λ s. s && not ((d == g) && (u == n))) (added d u ∙ ap (λ s. s || ((d == h) && (u == n))) (are d u))
    ∙ elim (u == n) as (λ s. (u == n) ≡ s → ((in_group d (fin.get m u) || ((d == h) && s)) && not ((d == g) && s)) ≡ in_group d (cond s (Some y) (fin.get m u))) [
      | true ↦ λ e.
          ap (λ o. (in_group d o || ((d == h) && true)) && not ((d == g) && true))
          (ap (fin.get m) (eqb-true u n e) ∙ there)
          ∙ ap (λ k. ((k == d) || ((d == h) && true)) && not ((d == g) && true)) gx
          ∙ moved ∙ ap (λ k. k == d) (sym hy)
      | false ↦ λ e. same (in_group d (fin.get m u)) (d == h) (d == g)
    ] refl
    ∙ ap (in_group d) (sym (get-insert m n y u))
  where
    in_group : ℕ → Option Membership → Bool
    in_group k o = option_map_or (λ (z : Membership). z.master == k) o false

    same : (a b c : Bool) → ((a || (b && false)) && not (c && false)) ≡ a
    same true true true = refl
    same true true false = refl
    same true false true = refl
    same true false false = refl
    same false true c = refl
    same false false c = refl

    moved : (((g == d) || ((d == h) && true)) && not ((d == g) && true)) ≡ (h == d)
    moved =
        by_both (g == d) (d == h) (d == g) (h == d) (same_either g d) (same_either d h)
        (λ e k. false≢true (sym apart ∙ eq-eqb g h (eqb-true g d e ∙ sym (eqb-true h d k))))
      where
        by_both : (a b c f : Bool) → a ≡ c → b ≡ f → (a ≡ true → f ≡ true → ⊥)
            → ((a || (b && true)) && not (c && true)) ≡ f
        by_both true b true true e k never = absurd (never refl refl)
        by_both true b true false e k never = refl
        by_both true b false f e k never = absurd (false≢true (sym e))
        by_both false true true f e k never = absurd (false≢true e)
        by_both false true false f e k never = k
        by_both false false true f e k never = absurd (false≢true e)
        by_both false false false f e k never = k
