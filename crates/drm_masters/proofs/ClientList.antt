-- The clients as a list, and how it changes.
use Rattle.std.proofs.Common.{◌≡◌, ℕ, ◌<◌, true, false, not, cond, T, List, [], ◌∷◌, map, filter, find as find_row, length, slice_get, Option, Some, None, option_map, option_and_then, is_some, refl, sym, ap, ◌∙◌, arith, nat_cmp}
use Rattle.std.specs.Prelude.{if◌then◌else◌}
use Rattle.std.specs.List.{AllByRecursion}
use Rattle.std.specs.Ordering.{eq_by_cmp}
use Rattle.std.specs.Cmp.{nat_cmp_total}
use Rattle.std.specs.FinMap as fin
use Rattle.std.specs.FinMap.Entries.{is_sorted, below_all}
use Rattle.std.proofs.lemmas.Bool.{false≢true}
use Rattle.std.proofs.lemmas.Bool.Decides.{nat_tests}
use Rattle.drm_index_array.specs.Orders.{InOrder}
use Rattle.drm_index_array.specs.Rows.{placed}
use Rattle.drm_index_array.proofs.RowsByKey.{left, right, rows_put, rows_where, rows_put_found, find_rows, row_at, rows_length, entries_removed}
use Rattle.drm_masters.specs.declared.members.Membership.{Membership}
use Rattle.drm_masters.specs.declared.rows.Member.{Member}
use Rattle.drm_masters.specs.Masters.{is_client, member_before, member_of}
use Rattle.drm_masters.specs.Tables.{member_row, members_in}
use Rattle.drm_index_array.proofs.Entries.{same_test, before_test, less_of}

abbrev pub Clients : Type 0
Clients = fin.FinMap nat_cmp Membership

tied_test : (c k : ℕ) → eq_by_cmp nat_cmp c k ≡ true → k ≡ c
tied_test c k e = grind (arith, nat_tests)

module _ (m : Clients) where
  -- The row of a client is made of its record in the map.
  pub client_is : (c : ℕ) → member_of (members_in m) c ≡ option_map (λ v. member_row (c, v)) (fin.get m c)
  client_is c =
      find_rows nat_cmp nat_cmp_total member_row fin.nat_cmp-IsAntisymmetric c (is_client c) (λ e. same_test c e.0)
      (fin.entries m)
      ∙ ap (option_map (λ v. member_row (c, v))) (sym (fin.get-entries m c))

  -- The client at a place is the one of the key at this place.
  pub client_at : (i : ℕ)
      → option_and_then (λ c. member_of (members_in m) c) (slice_get (fin.keys m) i) ≡ slice_get (members_in m) i
  client_at i = each (slice_get (fin.keys m) i) ∙ row_at m 0 member_row i
    where
      each : (c : Option ℕ)
          → option_and_then (λ c. member_of (members_in m) c) c ≡ option_and_then (λ c. option_map (λ v. member_row (c, v)) (fin.get m c)) c
      each None = refl
      each (Some c) = client_is c

  -- The list has as many clients as the map has entries.
  pub clients_many : length (members_in m) ≡ fin.len m
  clients_many = rows_length m 0 member_row

  -- The clients' numbers rise.
  pub clients_rise : InOrder (λ (x y : Member). x.client < y.client) (members_in m)
  clients_rise = rise (fin.entries m) (fin.entries_sorted m)
    where
      above : (c : ℕ) (es : List (ℕ × Membership)) → T (below_all nat_cmp c es)
          → AllByRecursion (λ (y : Member). c < y.client) (map member_row es)
      above c [] h = tt
      above c (e ∷ es) h = (less_of c e.0 (left _ _ h), above c es (right _ _ h))

      rise : (es : List (ℕ × Membership)) → T (is_sorted nat_cmp es)
          → InOrder (λ (x y : Member). x.client < y.client) (map member_row es)
      rise [] h = tt
      rise (e ∷ es) h = (above e.0 es (left _ _ h), rise es (right _ _ h))

  -- A new client is put at its place in the list.
  pub client_added : (c : ℕ) (v : Membership) → fin.get m c ≡ None
      → members_in (fin.insert m c v) ≡ placed member_before (member_row (c, v)) (members_in m)
  client_added c v absent =
      ap (map member_row) (fin.entries-insert nat_cmp_total m c v)
      ∙ rows_put nat_cmp nat_cmp_total member_row member_before (λ e f. before_test e.0 f.0) c v (fin.entries m)
      (fin.entries_sorted m) (sym (fin.get-entries m c) ∙ absent)

  -- A changed record changes the row of its client and no other.
  pub client_changed : (c : ℕ) (v w : Membership) (y : Member) → member_row (c, w) ≡ y → fin.get m c ≡ Some v
      → members_in (fin.insert m c w) ≡ map (λ (x : Member). if is_client c x then y else x) (members_in m)
  client_changed c v w y is there =
      ap (map member_row) (fin.entries-insert nat_cmp_total m c w)
      ∙ rows_put_found nat_cmp nat_cmp_total member_row f c
      (λ e other. ap (λ t. if t then y else member_row e) (same_test c e.0 ∙ other)) v w
      (λ e tied value. (λ i. member_row (tied_test c e.0 tied i, w)) ∙ is ∙ sym (ap (λ t. if t then y else member_row e) (same_test c e.0 ∙ tied)))
      (fin.entries m) (fin.entries_sorted m) (sym (fin.get-entries m c) ∙ there)
    where
      f : Member → Member
      f x = if is_client c x then y else x

  -- Writing the row of a client that does not exist changes nothing.
  pub client_absent : (c : ℕ) (y : Member) → fin.get m c ≡ None
      → members_in m ≡ map (λ (x : Member). if is_client c x then y else x) (members_in m)
  client_absent c y none = others (members_in m) (client_is c ∙ ap (option_map (λ v. member_row (c, v))) none)
    where
      others : (xs : List Member) → find_row (is_client c) xs ≡ None
          → xs ≡ map (λ (x : Member). if is_client c x then y else x) xs
      others [] h = refl
      others (x ∷ xs) h =
          elim (is_client c x) as (λ b. is_client c x ≡ b → cond b (Some x) (find_row (is_client c) xs) ≡ None → x ∷ xs ≡ (if b then y else x) ∷ map (λ (x : Member). if is_client c x then y else x) xs) [
            | true ↦ λ e n. absurd (false≢true (sym (ap is_some n)))
            | false ↦ λ e n. ap (λ l. x ∷ l) (others xs n)
          ] refl h

  -- The list after a removal is the list without this client.
  pub client_removed : (c : ℕ)
      → members_in (fin.remove m c) ≡ filter (λ (x : Member). not (is_client c x)) (members_in m)
  client_removed c =
      ap (map member_row) (entries_removed m c)
      ∙ rows_where nat_cmp nat_cmp_total member_row (λ k. not (eq_by_cmp nat_cmp c k))
      (λ (x : Member). not (is_client c x)) (λ e. ap not (same_test c e.0)) (fin.entries m)

-- An empty map has no clients.
pub no_clients : members_in fin.empty ≡ []
no_clients = none (fin.entries fin.empty) (sym (fin.len-entries fin.empty) ∙ fin.len-empty nat_cmp Membership)
  where
    none : (es : List (ℕ × Membership)) → length es ≡ 0 → map member_row es ≡ []
    none [] e = refl
    none (x ∷ es) e = absurd (omega (arith, e))
