-- What ending leases leaves: of some masters, the lease tokens and grants go, and they are kept no more.
use Rattle.std.proofs.Common.{◌≡◌, ℕ, ◌<◌, ◌==◌, Bool, true, false, cond, not, ◌&&◌, ◌||◌, List, [], ◌∷◌, ◌++◌, map, filter, find, Option, None, Some, refl, sym, ap, ◌∙◌, subst}
use Rattle.std.specs.Prelude.{if◌then◌else◌}
use Rattle.std.specs.List.{list_any, AllByRecursion}
use Rattle.std.specs.Option.{is_some, option_map, option_and_then}
use Rattle.std.proofs.lemmas.Bool.{eqb-true}
use Rattle.drm_index_array.specs.Orders.{SameRows}
use Rattle.drm_index_array.specs.Chains as chains
use Rattle.drm_index_array.proofs.Chains.{itself}
use Rattle.drm_index_array.proofs.Lists.{all_each, all_weaker, all_both, all_append, all_filter, all_mapped, filter-map, filter_all}
use Rattle.drm_index_array.proofs.FoundInLists.{find-map, find_none, is_some-find, is_some-map}
use Rattle.drm_index_array.proofs.Numbers.{less-differ}
use Rattle.drm_index_array.proofs.Orders.{same-filter}
use Rattle.drm_index_array.proofs.Rising.{found, find_where, any_found, each_is_there}
use Rattle.drm_masters.specs.declared.rows.Master.{Master}
use Rattle.drm_masters.specs.declared.rows.Member.{Member}
use Rattle.drm_masters.specs.Masters as masters
use Rattle.drm_masters.specs.Masters.{is_step_number, is_lessee}
use Rattle.drm_masters.specs.Calls.{kept_as}
use Rattle.drm_leases.specs.declared.rows.Grant.{Grant}
use Rattle.drm_leases.specs.Tokens.{LeaseToken}
use Rattle.drm_leases.specs.Leases.{LeaseSet, Lending, is_token_of, has_token, token_of}
use Rattle.drm_model.specs.Rows.{MasterRow, GrantRow}
use Rattle.drm_state.specs.Parts.{master_row_of, grant_row_of, released, ended}
use Rattle.drm_state.specs.Invariants.{AreOfLessees, AreKeptBy}

-- ---- open lease tokens

-- A master that ends has no open lease token, and every other master keeps its own.
pub token_left : (below : ℕ → Bool) (tokens : List LeaseToken) (m : ℕ)
    → token_of (filter (λ (row : LeaseToken). not (below row.master)) tokens) m ≡ (if below m then None else token_of tokens m)
token_left below tokens m =
    ap (option_map (λ (row : LeaseToken). row.token))
    (find_where (λ (row : LeaseToken). row.master) (λ n. not (below n)) m tokens)
    ∙ by_test (below m)
  where
    by_test : (b : Bool)
        → option_map (λ (row : LeaseToken). row.token) (cond (not b) (find (is_token_of m) tokens) None) ≡ (if b then None else token_of tokens m)
    by_test true = refl
    by_test false = refl

-- A master newer than all that have tokens has none.
pub fresh_token : (m : ℕ) (tokens : List LeaseToken) → AllByRecursion (λ (row : LeaseToken). row.master < m) tokens
    → token_of tokens m ≡ None
fresh_token m tokens h =
    ap (option_map (λ (row : LeaseToken). row.token))
    (find_none (is_token_of m) tokens (all_weaker (λ (row : LeaseToken). row.master < m) (λ (row : LeaseToken). (row.master == m) ≡ false) (λ row lt. less-differ row.master m lt) tokens h))

-- ---- the rows of masters

-- A release leaves the rows of masters, which do not say what is kept.
pub rows_released : (tokens : List LeaseToken) (below : ℕ → Bool) → (ms : List Master)
    → map (master_row_of tokens) (released below ms) ≡ map (master_row_of tokens) ms
rows_released tokens below [] = refl
rows_released tokens below (x ∷ xs) =
    λ i.
    (elim (below x.step_number) as (λ b. master_row_of tokens (if b then kept_as false x else x) ≡ master_row_of tokens x) [ true ↦ refl | false ↦ refl ])
    i ∷ rows_released tokens below xs i

-- The rows of masters lose the tokens of those that end.
pub rows_ended : (below : ℕ → Bool) (tokens : List LeaseToken) → (ms : List Master)
    → map (λ (row : MasterRow). if below row.master then record row { lease_token = None } else row) (map (master_row_of tokens) ms) ≡ map (master_row_of (filter (λ (row : LeaseToken). not (below row.master)) tokens)) ms
rows_ended below tokens [] = refl
rows_ended below tokens (x ∷ xs) =
    λ i. (by_test (below x.step_number) ∙ ap row (sym (token_left below tokens x.step_number))) i ∷ rows_ended below
    tokens xs i
  where
    row : Option ℕ → MasterRow
    row token = record { master = x.step_number; lessor = x.lessor; lessee_id = x.lessee_id; lease_token = token }

    by_test : (b : Bool)
        → (if b then record (master_row_of tokens x) { lease_token = None } else master_row_of tokens x) ≡ row (if b then None else token_of tokens x.step_number)
    by_test true = refl
    by_test false = refl

-- The rows of grants lose those of masters that end.
pub grants_ended : (below : ℕ → Bool) (rows : List GrantRow) (grants : List Grant)
    → SameRows rows (map grant_row_of grants)
    → SameRows (filter (λ (row : GrantRow). not (below row.master)) rows) (map grant_row_of (filter (λ (g : Grant). not (below g.master)) grants))
grants_ended below rows grants h =
    subst (SameRows (filter (λ (row : GrantRow). not (below row.master)) rows))
    (filter-map (λ (row : GrantRow). not (below row.master)) grant_row_of grants)
    (same-filter (λ (row : GrantRow). not (below row.master)) rows (map grant_row_of grants) h)

-- ---- nothing ends

-- If no master ends, all stay as kept.
pub none_released : (ms : List Master) → released (λ _. false) ms ≡ ms
none_released [] = refl
none_released (x ∷ xs) = ap (λ l. x ∷ l) (none_released xs)

-- If no master ends, all leases stay.
pub none_ended : (l : LeaseSet) → ended (λ _. false) l ≡ l
none_ended l =
    λ i. record l {
      tokens =
          filter_all (λ (row : LeaseToken). true) l.tokens
          (all_each (λ (row : LeaseToken). true ≡ true) (λ _. refl) l.tokens) i;
      grants = filter_all (λ (g : Grant). true) l.grants (all_each (λ (g : Grant). true ≡ true) (λ _. refl) l.grants) i;
      lendings =
          filter_all (λ (x : Lending). true) l.lendings (all_each (λ (x : Lending). true ≡ true) (λ _. refl) l.lendings)
          i;
    }

-- ---- the invariants of masters and leases

-- Exactly the masters that have an open lease token are kept, also after some masters end.
pub kept_ended : (below : ℕ → Bool) (tokens : List LeaseToken) (ms : List Master) → AreKeptBy tokens ms
    → AreKeptBy (filter (λ (row : LeaseToken). not (below row.master)) tokens) (released below ms)
kept_ended below tokens ms h =
    let left = filter (λ (row : LeaseToken). not (below row.master)) tokens in
    all_mapped (λ (x : Master). x.kept ≡ is_some (token_of left x.step_number))
    (λ (x : Master). if below x.step_number then kept_as false x else x) ms
    (all_weaker (λ (x : Master). x.kept ≡ is_some (token_of tokens x.step_number)) (λ (x : Master). (if below x.step_number then kept_as false x else x).kept ≡ is_some (token_of left (if below x.step_number then kept_as false x else x).step_number)) (λ x e.
    (elim (below x.step_number) as (λ b. below x.step_number ≡ b → (if b then kept_as false x else x).kept ≡ is_some (token_of left (if b then kept_as false x else x).step_number)) [
      | true ↦ λ k. sym (ap is_some (token_left below tokens x.step_number) ∙ ap (λ b. is_some (if b then None else token_of tokens x.step_number)) k)
      | false ↦ λ k. e ∙ sym (ap is_some (token_left below tokens x.step_number) ∙ ap (λ b. is_some (if b then None else token_of tokens x.step_number)) k)
    ]) refl) ms h)

-- A release leaves the lessor of each master.
pub released_lessor : (below : ℕ → Bool) (ms : List Master) (m : ℕ)
    → masters.lessor_of (released below ms) m ≡ masters.lessor_of ms m
released_lessor below ms m =
    let change = λ (x : Master). if below x.step_number then kept_as false x else x in
    ap (option_and_then (λ (x : Master). x.lessor))
    (find-map (is_step_number m) change ms ∙ ap (λ (p : Master → Bool). option_map change (find p ms)) (λ i x. step_number x i == m))
    ∙ by_row (find (is_step_number m) ms)
  where
    step_number : (x : Master) → (if below x.step_number then kept_as false x else x).step_number ≡ x.step_number
    step_number x = elim (below x.step_number) as (λ b. (if b then kept_as false x else x).step_number ≡ x.step_number) [ true ↦ refl | false ↦ refl ]

    by_row : (o : Option Master)
        → option_and_then (λ (x : Master). x.lessor) (option_map (λ (x : Master). if below x.step_number then kept_as false x else x) o) ≡ option_and_then (λ (x : Master). x.lessor) o
    by_row None = refl
    by_row (Some x) = elim (below x.step_number) as (λ b. (if b then kept_as false x else x).lessor ≡ x.lessor) [ true ↦ refl | false ↦ refl ]

-- Each open lease token is that of a lessee, also after some masters end.
pub of_lessees_ended : (below : ℕ → Bool) (tokens : List LeaseToken) (ms : List Master) → AreOfLessees tokens ms
    → AreOfLessees (filter (λ (row : LeaseToken). not (below row.master)) tokens) (released below ms)
of_lessees_ended below tokens ms h =
    all_filter (λ (row : LeaseToken). is_lessee (released below ms) row.master ≡ true)
    (λ (row : LeaseToken). not (below row.master)) tokens
    (all_weaker (λ (row : LeaseToken). is_lessee ms row.master ≡ true) (λ (row : LeaseToken). is_lessee (released below ms) row.master ≡ true) (λ row e. ap is_some (released_lessor below ms row.master) ∙ e) tokens h)

-- Exactly the masters that have an open lease token are kept, also with one more master that has none.
pub kept_more : (tokens : List LeaseToken) (ms : List Master) (y : Master) → AreKeptBy tokens ms → y.kept ≡ false
    → AllByRecursion (λ (row : LeaseToken). row.master < y.step_number) tokens → AreKeptBy tokens (ms ++ y ∷ [])
kept_more tokens ms y h unkept new =
    all_append (λ (x : Master). x.kept ≡ is_some (token_of tokens x.step_number)) ms (y ∷ []) h
    (unkept ∙ sym (ap is_some (fresh_token y.step_number tokens new)), tt)

found_more : (p : Master → Bool) (y x : Master) → (ms : List Master) → find p ms ≡ Some x
    → find p (ms ++ y ∷ []) ≡ Some x
found_more p y x [] e = absurd (let n : None ≡ Some x = e in cc)
found_more p y x (z ∷ zs) e = elim (p z) as (λ b. (if b then Some z else find p zs) ≡ Some x → (if b then Some z else find p (zs ++ y ∷ [])) ≡ Some x) [ true ↦ λ k. k | false ↦ λ k. found_more p y x zs k ] e

lessee_more : (ms : List Master) (y : Master) (m : ℕ) → is_lessee ms m ≡ true → is_lessee (ms ++ y ∷ []) m ≡ true
lessee_more ms y m h = by_row (find (is_step_number m) ms) refl h
  where
    by_row : (o : Option Master) → find (is_step_number m) ms ≡ o
        → is_some (option_and_then (λ (x : Master). x.lessor) o) ≡ true → is_lessee (ms ++ y ∷ []) m ≡ true
    by_row None e k = absurd (let n : false ≡ true = k in cc)
    by_row (Some x) e k =
        ap (λ o. is_some (option_and_then (λ (x : Master). x.lessor) o)) (found_more (is_step_number m) y x ms e) ∙ k

-- Each open lease token is that of a lessee, also with one more master.
pub of_lessees_more : (tokens : List LeaseToken) (ms : List Master) (y : Master) → AreOfLessees tokens ms
    → AreOfLessees tokens (ms ++ y ∷ [])
of_lessees_more tokens ms y h =
    all_weaker (λ (row : LeaseToken). is_lessee ms row.master ≡ true)
    (λ (row : LeaseToken). is_lessee (ms ++ y ∷ []) row.master ≡ true) (λ row e. lessee_more ms y row.master e) tokens h

-- a sweep: a lessee with an open lease token stays
module _ (members : List Member) (tokens : List LeaseToken) (ms : List Master) (kept : AreKeptBy tokens ms) where
  abbrev lives : ℕ → Bool
  lives m = masters.is_living members ms m

  abbrev left : List Master
  left = filter (λ (x : Master). lives x.step_number) ms

  open_lives : (m : ℕ) → is_lessee ms m ≡ true → is_some (token_of tokens m) ≡ true → lives m ≡ true
  open_lives m h opens = by_row (find (is_step_number m) ms) refl h
    where
      by_row : (o : Option Master) → find (is_step_number m) ms ≡ o
          → is_some (option_and_then (λ (x : Master). x.lessor) o) ≡ true → lives m ≡ true
      by_row None e k = absurd (let n : false ≡ true = k in cc)
      by_row (Some x) e k =
          let it =
          found (is_step_number m) (λ (x : Master). x.kept ≡ is_some (token_of tokens x.step_number)) x ms kept e in
          let is : x.step_number ≡ m = eqb-true x.step_number m it.0 in
          let held : x.kept ≡ true = it.1 ∙ ap (λ n. is_some (token_of tokens n)) is ∙ opens in
          let top : chains.is_under (masters.lessor_of ms) m x.step_number ≡ true =
          ap (chains.is_under (masters.lessor_of ms) m) is ∙ itself (masters.lessor_of ms) m m in
          any_found (is_step_number m)
          (λ (y : Master). masters.is_held members y && chains.is_under (masters.lessor_of ms) m y.step_number) x ms e
          (λ i. (held i || list_any (λ (y : Member). y.master == x.step_number) members) && top i)

  -- Each open lease token is that of a lessee, also after a sweep.
  pub of_lessees_swept : AreOfLessees tokens ms → AreOfLessees tokens left
  of_lessees_swept h =
      all_both (λ (row : LeaseToken). is_lessee ms row.master ≡ true) (λ (row : LeaseToken). list_any (λ (y : LeaseToken). y.master == row.master) tokens ≡ true) (λ (row : LeaseToken). is_lessee left row.master ≡ true) (λ row e there.
      let opens : is_some (token_of tokens row.master) ≡ true =
      some_map (find (is_token_of row.master) tokens) (is_some-find (is_token_of row.master) tokens ∙ there) in
      let alive = open_lives row.master e opens in
      ap (λ o. is_some (option_and_then (λ (x : Master). x.lessor) o)) (find_where (λ (x : Master). x.step_number) lives row.master ms ∙ ap (λ b. cond b (find (is_step_number row.master) ms) None) alive) ∙ e) tokens h (each_is_there (λ (row : LeaseToken). row.master) tokens)
    where
      some_map : (o : Option LeaseToken) → is_some o ≡ true
          → is_some (option_map (λ (row : LeaseToken). row.token) o) ≡ true
      some_map None e = e
      some_map (Some row) e = refl

  -- Exactly the masters that have an open lease token are kept, also after a sweep.
  pub kept_swept : AreKeptBy tokens left
  kept_swept =
      all_filter (λ (x : Master). x.kept ≡ is_some (token_of tokens x.step_number))
      (λ (x : Master). lives x.step_number) ms kept

-- ---- a revocation releases those whose tokens it takes, and of the others none is kept

kept_is : (tokens : List LeaseToken) (m : ℕ) → is_some (token_of tokens m) ≡ has_token tokens m
kept_is tokens m =
    is_some-map (λ (row : LeaseToken). row.token) (find (is_token_of m) tokens) ∙ is_some-find (is_token_of m) tokens

unkept : (x : Master) → x.kept ≡ false → kept_as false x ≡ x
unkept x e = λ i. record x { kept = sym e i }

-- one with a token is released by both, one without is not kept
one_released : (tokens : List LeaseToken) (below f : ℕ → Bool) (x : Master)
    → x.kept ≡ is_some (token_of tokens x.step_number)
    → f x.step_number ≡ (below x.step_number && has_token tokens x.step_number)
    → (if f x.step_number then kept_as false x else x) ≡ (if below x.step_number then kept_as false x else x)
one_released tokens below f x kept is =
    ap (λ b. if b then kept_as false x else x) is ∙ by_token (has_token tokens x.step_number) refl
  where
    by_token : (b : Bool) → has_token tokens x.step_number ≡ b
        → (if below x.step_number && has_token tokens x.step_number then kept_as false x else x) ≡ (if below x.step_number then kept_as false x else x)
    by_token true e =
        ap (λ b. if below x.step_number && b then kept_as false x else x) e
        ∙
        (elim (below x.step_number) as (λ b. (if b && true then kept_as false x else x) ≡ (if b then kept_as false x else x)) [ true ↦ refl | false ↦ refl ])
    by_token false e =
        ap (λ b. if below x.step_number && b then kept_as false x else x) e
        ∙
        (elim (below x.step_number) as (λ b. (if b && false then kept_as false x else x) ≡ (if b then kept_as false x else x)) [ true ↦ sym (unkept x (kept ∙ kept_is tokens x.step_number ∙ e)) | false ↦ refl ])

-- To release the masters of open tokens releases all that end, since no other is kept.
pub opened_released : (tokens : List LeaseToken) (below : ℕ → Bool) → (ms : List Master) → AreKeptBy tokens ms
    → released (λ m. below m && has_token tokens m) ms ≡ released below ms
opened_released tokens below [] h = refl
opened_released tokens below (x ∷ xs) h =
    λ i. one_released tokens below (λ m. below m && has_token tokens m) x h.0 refl i ∷ opened_released tokens below xs
    h.1 i

-- A closing that keeps the client's own master at first releases it too in the end.
pub closed_released : (tokens : List LeaseToken) (below f : ℕ → Bool) (own : ℕ)
    → ((m : ℕ) → (m == own) ≡ false → f m ≡ (below m && has_token tokens m)) → f own ≡ true → below own ≡ true
    → (ms : List Master) → AreKeptBy tokens ms →
    released f (map (λ (x : Master). if is_step_number own x then kept_as true x else x) ms) ≡ released below
    (map (λ (x : Master). if is_step_number own x then kept_as true x else x) ms)
closed_released tokens below f own others its under [] h = refl
closed_released tokens below f own others its under (x ∷ xs) h =
    λ i. one i ∷ closed_released tokens below f own others its under xs h.1 i
  where
    change : (ℕ → Bool) → Master → Master
    change g y = if g y.step_number then kept_as false y else y

    one : change f (if is_step_number own x then kept_as true x else x) ≡ change below (if is_step_number own x then kept_as true x else x)
    one =
        (elim (x.step_number == own) as (λ b. (x.step_number == own) ≡ b → change f (if b then kept_as true x else x) ≡ change below (if b then kept_as true x else x)) [
          | true ↦ λ e. let same = eqb-true x.step_number own e in λ i. if (ap f same ∙ its ∙ sym (ap below same ∙ under)) i then kept_as false (kept_as true x) else kept_as true x
          | false ↦ λ e. one_released tokens below f x h.0 (others x.step_number e)
        ]) refl
