-- A client without a magic finds one that is free: each open client has one at most, and no more clients are open than magics
-- there are.
use Rattle.std.proofs.Common.{◌≡◌, ℕ, zero, suc, ◌+◌, ◌<◌, ◌≤◌, ◌==◌, Bool, true, false, not, ◌||◌, List, [], ◌∷◌, length, filter, map, Option, None, Some, refl, sym, ap, ◌∙◌, arith, eq-eqb}
use Rattle.std.specs.List.{list_any, AllByRecursion, IsDistinct}
use Rattle.std.specs.Option.{is_some}
use Rattle.std.specs.Cmp.{IsEquivalence}
use Rattle.std.specs.Set.{is_member}
use Rattle.std.proofs.lemmas.Bool.{eqb-true}
use Rattle.std.proofs.lemmas.List.{length-map}
use Rattle.std.proofs.lemmas.Map.Keys.{IsDistinct-cons}
use Rattle.std.proofs.lemmas.Map.Made.{length-le_from_is_member}
use Rattle.std.proofs.lemmas.Map.Steps.{le-length_from_below}
use Rattle.drm_index_array.specs.Numbers.{is_among}
use Rattle.drm_index_array.specs.Orders.{InOrder}
use Rattle.drm_index_array.proofs.Lists.{all_weaker, all_mapped, filter-shorter, some_passing, list_any-map, list_any_agree}
use Rattle.drm_index_array.proofs.FoundInLists.{is_some-find, none_found}
use Rattle.drm_index_array.proofs.Numbers.{flipped, same_either}
use Rattle.drm_index_array.proofs.Least.{least_none}
use Rattle.drm_model.specs.Rows.{Rows, ClientRow, MagicRow, is_client, is_open, magic_row}
use Rattle.drm_model.specs.Magics.{magics_under, free_magic}

numbers_equal : IsEquivalence ◌==◌
numbers_equal = record {
  refl = λ x. eq-eqb x x refl;
  symm = same_either;
  congr = λ x y z e. ap (λ n. n == z) (eqb-true x y e);
}

-- the client of the magic is open
abbrev pub ClientOpen : List ClientRow → MagicRow → Type 0
ClientOpen clients row = list_any (is_client row.client) clients ≡ true

-- two magics are of two clients
abbrev pub AreApart : MagicRow → MagicRow → Type 0
AreApart x y = (x.client == y.client) ≡ false

abbrev pub MagicsFit : Rows → Type 0
MagicsFit w =
    InOrder AreApart w.magics × AllByRecursion (ClientOpen w.clients) w.magics × (length w.clients ≤ w.limits.clients)

clients_distinct : (rows : List MagicRow) → InOrder AreApart rows
    → IsDistinct ◌==◌ (map (λ (row : MagicRow). row.client) rows)
unfolding IsDistinct
clients_distinct [] h = tt
clients_distinct (row ∷ rows) h =
    IsDistinct-cons ◌==◌ row.client (map (λ (row : MagicRow). row.client) rows)
    (all_mapped (λ y. (row.client == y) ≡ false) (λ (row : MagicRow). row.client) rows h.0) (clients_distinct rows h.1)

module _ (w : Rows) (fit : MagicsFit w) (c : ℕ) (opened : is_open w c ≡ true) (none : magic_row w c ≡ None) where
  other_clients : AllByRecursion (λ y. (c == y) ≡ false) (map (λ (row : MagicRow). row.client) w.magics)
  other_clients =
      all_mapped (λ y. (c == y) ≡ false) (λ (row : MagicRow). row.client) w.magics
      (all_weaker (λ (row : MagicRow). (row.client == c) ≡ false) (λ (row : MagicRow). (c == row.client) ≡ false) (λ row e. flipped row.client c e) w.magics (none_found (λ (row : MagicRow). row.client == c) w.magics none))

  -- a client that is open is among the clients
  client_among : (q d : ℕ) → (q == d) ≡ true → list_any (is_client d) w.clients ≡ true
      → is_member ◌==◌ (map (λ (row : ClientRow). row.client) w.clients) q ≡ true
  client_among q d e h =
      list_any-map (λ y. q == y) (λ (row : ClientRow). row.client) w.clients
      ∙ list_any_agree (λ (row : ClientRow). q == row.client) (is_client d)
      (λ row. same_either q row.client ∙ ap (λ n. row.client == n) (eqb-true q d e)) w.clients
      ∙ h

  each_among : (q : ℕ) → is_member ◌==◌ (c ∷ map (λ (row : MagicRow). row.client) w.magics) q ≡ true
      → is_member ◌==◌ (map (λ (row : ClientRow). row.client) w.clients) q ≡ true
  each_among q h =
      (elim (q == c) as (λ b. (q == c) ≡ b → (b || list_any (λ y. q == y) (map (λ (row : MagicRow). row.client) w.magics)) ≡ true → is_member ◌==◌ (map (λ (row : ClientRow). row.client) w.clients) q ≡ true) [
        | true ↦ λ e k. client_among q c e (sym (is_some-find (is_client c) w.clients) ∙ opened)
        | false ↦ λ e k.
            let it =
            some_passing (λ (row : MagicRow). q == row.client) (ClientOpen w.clients) w.magics fit.1
            (sym (list_any-map (λ y. q == y) (λ (row : MagicRow). row.client) w.magics) ∙ k) in
            client_among q it.0.client it.1 it.2
      ]) refl h

  few_magics : length w.magics + 1 ≤ length w.clients
  few_magics =
      let few =
      length-le_from_is_member numbers_equal (c ∷ map (λ (row : MagicRow). row.client) w.magics)
      (map (λ (row : ClientRow). row.client) w.clients)
      (IsDistinct-cons ◌==◌ c (map (λ (row : MagicRow). row.client) w.magics) other_clients (clients_distinct w.magics fit.0))
      each_among in
      let magics = length-map w.magics (λ (row : MagicRow). row.client) in
      let clients = length-map w.clients (λ (row : ClientRow). row.client) in
      omega (arith, few, magics, clients)

  under_few : (m : ℕ) → length (magics_under w m) + 1 ≤ w.limits.clients
  under_few m =
      let few = few_magics in
      let fits = fit.2 in
      let fewer = filter-shorter (λ (row : MagicRow). row.master == m) w.magics in
      let same = length-map (filter (λ (row : MagicRow). row.master == m) w.magics) (λ (row : MagicRow). row.number) in
      omega (arith, few, fits, fewer, same)

  -- If an open client has no magic, a magic of each master is free.
  pub magic_free : (m : ℕ) → is_some (free_magic w m) ≡ true
  magic_free m = by (free_magic w m) refl
    where
      taken : (k : ℕ) → not (is_among (magics_under w m) k) ≡ false → is_among (magics_under w m) k ≡ true
      taken k e = back (is_among (magics_under w m) k) e
        where
          back : (b : Bool) → not b ≡ false → b ≡ true
          back true j = refl
          back false j = absurd (let n : true ≡ false = j in cc)

      by : (o : Option ℕ) → free_magic w m ≡ o → is_some o ≡ true
      by (Some n) e = refl
      by None e =
          let all = least_none (λ number. not (is_among (magics_under w m) number)) 1 w.limits.clients e in
          let long =
          le-length_from_below (0 ∷ magics_under w m) (w.limits.clients + 1) (λ q lt. at q lt (q == 0) refl all) in
          let few = under_few m in
          absurd (omega (arith, long, few))
        where
          at : (q : ℕ) → q < w.limits.clients + 1 → (b : Bool) → (q == 0) ≡ b
              → ((k : ℕ) → 1 ≤ k → k ≤ w.limits.clients → not (is_among (magics_under w m) k) ≡ false)
              → (b || list_any (λ x. q == x) (magics_under w m)) ≡ true
          at q lt true e all = refl
          at q lt false e all =
              list_any_agree (λ x. q == x) (λ x. x == q) (λ x. same_either q x) (magics_under w m)
              ∙ taken q (all q (positive q e) (omega (arith, lt)))
            where
              positive : (q : ℕ) → (q == 0) ≡ false → 1 ≤ q
              positive zero e = absurd (let n : true ≡ false = e in cc)
              positive (suc q) e = omega arith
