-- The key of a master that exists.
use Rattle.std.proofs.Common.{◌≡◌, ℕ, true, List, Option, None, Some, find, refl, ap, subst, ◌∙◌, eq-eqb}
use Rattle.std.specs.Option.{is_some, option_map, option_map_or}
use Rattle.std.proofs.lemmas.Option.{none-some, same_Some}
use Rattle.drm_index_array.proofs.FoundInLists.{is_some-find, is_some-map}
use Rattle.drm_index_array.proofs.Rising.{found, any_found}
use Rattle.drm_masters.specs.declared.rows.Master.{Master}
use Rattle.drm_masters.specs.Masters.{is_key, is_there, is_step_number, master_at, step_number_at, IsKeyOf}
use Rattle.drm_leases.specs.Tokens.{LeaseToken}
use Rattle.drm_leases.specs.Leases.{LeaseSet, Lending, AreLeases, is_lease_of, has_some_lease, key_at, is_token, token_master}

-- The step number at a master's key is the master's.
pub keyed_step_number : (ms : List Master) (m key : ℕ) → IsKeyOf ms m key → step_number_at ms key ≡ m
keyed_step_number ms m key h = of_row (find (is_key key) ms) h
  where
    of_row : (o : Option Master) → option_map (λ (x : Master). x.step_number) o ≡ Some m
        → option_map_or (λ (x : Master). x.step_number) o 0 ≡ m
    of_row None e = absurd (let n : None ≡ Some m = e in cc)
    of_row (Some x) e = let s : Some x.step_number ≡ Some m = e in cc

-- The key of a master is in use.
pub keyed_there : (ms : List Master) (m key : ℕ) → IsKeyOf ms m key → is_there ms key ≡ true
keyed_there ms m key h = of_row (find (is_key key) ms) h
  where
    of_row : (o : Option Master) → option_map (λ (x : Master). x.step_number) o ≡ Some m → is_some o ≡ true
    of_row None e = absurd (let n : None ≡ Some m = e in cc)
    of_row (Some x) e = refl

-- The step number at a key is that of the master found by it.
pub number_found : (ms : List Master) (key : ℕ) (x : Master) → find (is_key key) ms ≡ Some x
    → step_number_at ms key ≡ x.step_number
number_found ms key x e = ap (λ o. option_map_or (λ (y : Master). y.step_number) o 0) e

-- The master found by a key exists.
pub number_there : (ms : List Master) (key : ℕ) (x : Master) → find (is_key key) ms ≡ Some x
    → is_some (master_at ms x.step_number) ≡ true
number_there ms key x e =
    is_some-find (is_step_number x.step_number) ms
    ∙ any_found (is_key key) (is_step_number x.step_number) x ms e (eq-eqb x.step_number x.step_number refl)

-- A lessee has a key if and only if it has a lease.
pub lent_key : (lendings : List Lending) (m : ℕ) → is_some (key_at lendings m) ≡ has_some_lease lendings m
lent_key lendings m =
    is_some-map (λ (x : Lending). x.key) (find (is_lease_of m) lendings) ∙ is_some-find (is_lease_of m) lendings

-- The lessee that a token opens has a lease.
pub token_lent : (l : LeaseSet) → AreLeases l → (t m : ℕ) → token_master l.tokens t ≡ Some m
    → has_some_lease l.lendings m ≡ true
token_lent l are t m e = by_row (find (is_token t) l.tokens) refl e
  where
    by_row : (o : Option LeaseToken) → find (is_token t) l.tokens ≡ o
        → option_map (λ (row : LeaseToken). row.master) o ≡ Some m → has_some_lease l.lendings m ≡ true
    by_row None f k = absurd (none-some m k)
    by_row (Some row) f k =
        subst (λ n. has_some_lease l.lendings n ≡ true) (same_Some row.master m k)
        (found (is_token t) (λ (row : LeaseToken). has_some_lease l.lendings row.master ≡ true) row l.tokens are.tokens_lent f).1
