-- A lease of a lessee with a greater number than all others.
use Rattle.std.proofs.Common.{◌≡◌, ℕ, ◌<◌, ◌==◌, nat_lt, true, false, not, List, ◌++◌, map, Some, ap, ◌∙◌, append-nil}
use Rattle.std.specs.List.{AllByRecursion}
use Rattle.std.proofs.lemmas.Bool.{lt-ltb}
use Rattle.drm_index_array.proofs.Each.{filter_none}
use Rattle.drm_index_array.proofs.Lists.{all_weaker, filter_all}
use Rattle.drm_index_array.specs.Orders.{InOrder}
use Rattle.drm_index_array.proofs.Numbers.{less-differ}
use Rattle.drm_index_array.proofs.Orders.{in_order_weaker}
use Rattle.drm_leases.specs.declared.rows.Grant.{Grant}
use Rattle.drm_index_array.specs.Rows.{placed}
use Rattle.drm_leases.specs.Tokens.{LeaseToken, token_before}
use Rattle.drm_leases.specs.Leases.{LeaseSet}
use Rattle.drm_leases.specs.Calls.{IsNewLessee, put_in, grant, lending, lending_before, lease_token, with_lease}

-- the place of its rows is the end
put_last : {X : Type 0} (lessee : X → ℕ) (m : ℕ) (rows all : List X) → AllByRecursion (λ x. lessee x < m) all
    → put_in lessee m rows all ≡ all ++ rows
put_last lessee m rows all newest =
    let before =
    all_weaker (λ x. lessee x < m) (λ x. nat_lt (lessee x) m ≡ true) (λ x less. lt-ltb (lessee x) m less) all newest
    in
    (λ i. filter_all (λ x. nat_lt (lessee x) m) all before i ++ (rows ++ filter_none (λ x. not (nat_lt (lessee x) m)) all (all_weaker (λ x. nat_lt (lessee x) m ≡ true) (λ x. not (nat_lt (lessee x) m) ≡ false) (λ x e. ap not e) all before) i))
    ∙ ap (λ l. all ++ l) (append-nil rows)

abbrev pub with_last_lease : ℕ → ℕ → ℕ → ℕ → List ℕ → LeaseSet → LeaseSet
with_last_lease t key m lessor objects l = record l {
  last_given = Some t;
  tokens = placed token_before (lease_token t m) l.tokens;
  grants = l.grants ++ map (grant m) objects;
  lendings = placed lending_before (lending m lessor key) l.lendings;
}

-- A lease of a lessee younger than all others puts its rows at the ends of the lists.
pub newest_last : (t key m lessor : ℕ) (objects : List ℕ) (l : LeaseSet) → IsNewLessee l m
    → with_lease t key m lessor objects l ≡ with_last_lease t key m lessor objects l
newest_last t key m lessor objects l newest = λ i. record l {
  last_given = Some t;
  tokens = placed token_before (lease_token t m) l.tokens;
  grants = put_last (λ (g : Grant). g.master) m (map (grant m) objects) l.grants newest.grants i;
  lendings = placed lending_before (lending m lessor key) l.lendings;
}

-- If the tokens rise, no token is open twice.
pub tokens_differ : (tokens : List LeaseToken) → InOrder (λ (x y : LeaseToken). x.token < y.token) tokens
    → InOrder (λ (x y : LeaseToken). (x.token == y.token) ≡ false) tokens
tokens_differ tokens rise =
    in_order_weaker (λ (x y : LeaseToken). x.token < y.token) (λ (x y : LeaseToken). (x.token == y.token) ≡ false)
    (λ x y less. less-differ x.token y.token less) tokens rise
