-- Leases agree with masters after each change of these.
use Rattle.std.proofs.Common.{◌≡◌, ℕ, ◌<◌, ◌==◌, Bool, true, false, cond, not, ◌&&◌, ◌||◌, List, [], ◌∷◌, ◌++◌, map, filter, find, Option, None, Some, refl, sym, ap, subst, ◌∙◌, eq-eqb}
use Rattle.std.proofs.Math.Bool.{and_comm}
use Rattle.std.specs.Prelude.{if◌then◌else◌}
use Rattle.std.specs.List.{list_any, AllByRecursion}
use Rattle.std.specs.Option.{is_some, option_map, option_map_or, option_and_then}
use Rattle.std.proofs.lemmas.Bool.{eqb-true, ne_eqb, false≢true, or_left, or_right}
use Rattle.std.proofs.lemmas.Option.{none-some, same_Some}
use Rattle.drm_index_array.specs.Rows.{placed}
use Rattle.drm_index_array.specs.Orders.{InOrder}
use Rattle.drm_index_array.specs.Chains.{is_under}
use Rattle.drm_index_array.proofs.Chains.{itself}
use Rattle.drm_index_array.proofs.Lists.{list_any_left, all_each, all_weaker, list_any-map, some_passing}
use Rattle.drm_index_array.proofs.Each.{none_passes}
use Rattle.drm_index_array.proofs.FoundInLists.{find-map, none_found}
use Rattle.drm_index_array.proofs.Placed.{any_placed, all_placed, find_placed, find_other}
use Rattle.drm_index_array.proofs.Rising.{found, find_where, any_found, any_left, all_found}
use Rattle.drm_masters.specs.declared.rows.Master.{Master}
use Rattle.drm_masters.specs.declared.rows.Member.{Member}
use Rattle.drm_masters.specs.Masters.{MasterSet, is_client, member_before, master_before, is_step_number, is_key, is_option, IsKeyOf, member_of, master_at, lessor_of, is_held, is_living}
use Rattle.drm_masters.specs.Calls.{lessee, lease_client, kept_as, closed_own, redeemed}
use Rattle.drm_leases.specs.declared.rows.Grant.{Grant}
use Rattle.drm_leases.specs.declared.rows.Lease.{Lease}
use Rattle.drm_leases.specs.Tokens.{LeaseToken}
use Rattle.drm_leases.specs.Leases.{LeaseSet, Lending, AreLeases, is_lease_of, has_some_lease, is_leased_out}
use Rattle.drm_leases.specs.Masks.{has_object, grants_in, lendings_in, is_lent}
use Rattle.drm_leases.proofs.Granting.{any_with}
use Rattle.drm_masters.proofs.MasterChains.{IsFresh}
use Rattle.drm_masters.proofs.Pushed.{there_apart, others_at, new_at}
use Rattle.drm_masters.proofs.Released.{marked, marked_step_number, marked_lessor, marked_key}
use Rattle.drm_leases.specs.Calls.{lending, lending_before}
use Rattle.drm_leases.specs.Agreed.{is_owned, IsAgreed, AreAgreed, AreHeld}

-- whether it is a client with that master as its own
abbrev pub owns : ℕ → Member → Bool
owns m y = y.is_master && (y.master == m)

module _ (members members2 : List Member) (ms ms2 : List Master) (x : Lending) where
  -- a lessee that exists yet, by the same lessor, and kept or a client's own
  abbrev Stays : Type 0
  Stays =
      (y : Master) → master_at ms x.lessee ≡ Some y → (y.step_number ≡ x.lessee) → is_owned members y ≡ true →
      (z : Master) × (master_at ms2 x.lessee ≡ Some z) × (z.lessor ≡ y.lessor) × (is_owned members2 z ≡ true)

  -- If the lessee keeps its lessor, its owner and its key, the lease still agrees with the masters.
  pub still_agreed : Stays → (IsKeyOf ms x.lessee x.key → IsKeyOf ms2 x.lessee x.key) → IsAgreed members ms x
      → IsAgreed members2 ms2 x
  still_agreed stays key h = by_row (master_at ms x.lessee) refl h.0 h.1
    where
      by_row : (o : Option Master) → master_at ms x.lessee ≡ o
          → option_and_then (λ (y : Master). y.lessor) o ≡ Some x.lessor
          → option_map_or (is_owned members) o false ≡ true → IsAgreed members2 ms2 x
      by_row None e l k = absurd (false≢true k)
      by_row (Some y) e l k =
          let is : y.step_number ≡ x.lessee =
          eqb-true y.step_number x.lessee
          (found (is_step_number x.lessee) (λ _. Unit {0}) y ms (all_each (λ _. Unit {0}) (λ _. tt) ms) e).0 in
          let w = stays y e is k in (ap (option_and_then (λ (y : Master). y.lessor)) w.1 ∙ w.2 ∙ l, ap (λ o. option_map_or (is_owned members2) o false) w.1 ∙ w.3, key h.2)

-- ---- of one lease

found_more : (p : Master → Bool) (y x : Master) → (ms : List Master) → find p ms ≡ Some x
    → find p (ms ++ y ∷ []) ≡ Some x
found_more p y x [] e = absurd (let n : None ≡ Some x = e in cc)
found_more p y x (z ∷ zs) e = elim (p z) as (λ b. cond b (Some z) (find p zs) ≡ Some x → cond b (Some z) (find p (zs ++ y ∷ [])) ≡ Some x) [ true ↦ λ k. k | false ↦ λ k. found_more p y x zs k ] e

-- what is found by a key is found among more, and among those that are left
key_more : (ms : List Master) (z : Master) (m key : ℕ) → IsKeyOf ms m key → IsKeyOf (ms ++ z ∷ []) m key
key_more ms z m key h = by_row (find (is_key key) ms) refl h
  where
    by_row : (o : Option Master) → find (is_key key) ms ≡ o → option_map (λ (y : Master). y.step_number) o ≡ Some m
        → IsKeyOf (ms ++ z ∷ []) m key
    by_row None e k = absurd (let n : None ≡ Some m = k in cc)
    by_row (Some y) e k = ap (option_map (λ (y : Master). y.step_number)) (found_more (is_key key) z y ms e) ∙ k

key_put : (ms : List Master) (z : Master) (m key : ℕ) → IsFresh ms z.step_number → find (is_key z.key) ms ≡ None
    → IsKeyOf ms m key → IsKeyOf (placed master_before z ms) m key
key_put ms z m key fresh free h =
    ap (option_map (λ (y : Master). y.step_number))
    (find_other (λ (y : Master). y.step_number) z ms fresh.0 (is_key key) (other (z.key == key) refl))
    ∙ h
  where
    other : (b : Bool) → (z.key == key) ≡ b → (z.key == key) ≡ false
    other true e =
        absurd
        (none-some m (sym (ap (option_map (λ (y : Master). y.step_number)) (ap (λ k. find (is_key k) ms) (sym (eqb-true z.key key e)) ∙ free)) ∙ h))
    other false e = e

key_left : (p : Master → Bool) (ms : List Master) (m key : ℕ) → ((y : Master) → (y.step_number ≡ m) → p y ≡ true)
    → IsKeyOf ms m key → IsKeyOf (filter p ms) m key
key_left p [] m key passes h = h
key_left p (y ∷ ms) m key passes h =
    elim (is_key key y) as (λ b. is_key key y ≡ b → option_map (λ (y : Master). y.step_number) (cond b (Some y) (find (is_key key) ms)) ≡ Some m → option_map (λ (y : Master). y.step_number) (find (is_key key) (cond (p y) (y ∷ filter p ms) (filter p ms))) ≡ Some m) [
      | true ↦ λ e k. ap (λ b. option_map (λ (y : Master). y.step_number) (find (is_key key) (cond b (y ∷ filter p ms) (filter p ms)))) (passes y (same_Some y.step_number m k)) ∙ ap (λ b. option_map (λ (y : Master). y.step_number) (cond b (Some y) (find (is_key key) (filter p ms)))) e ∙ k
      | false ↦ λ e k.
          elim (p y) as (λ b. option_map (λ (y : Master). y.step_number) (find (is_key key) (cond b (y ∷ filter p ms) (filter p ms))) ≡ Some m) [
            | true ↦ ap (λ b. option_map (λ (y : Master). y.step_number) (cond b (Some y) (find (is_key key) (filter p ms)))) e ∙ key_left p ms m key passes k
            | false ↦ key_left p ms m key passes k
          ]
    ] refl h

key_changed : (change : Master → Master) → ((y : Master) → (change y).step_number ≡ y.step_number)
    → ((y : Master) → (change y).key ≡ y.key) → (ms : List Master) (m key : ℕ) → IsKeyOf ms m key
    → IsKeyOf (map change ms) m key
key_changed change step_numbers keys ms m key h =
    ap (option_map (λ (y : Master). y.step_number))
    (find-map (is_key key) change ms ∙ ap (λ (p : Master → Bool). option_map change (find p ms)) (λ i z. keys z i == key))
    ∙ same (find (is_key key) ms) ∙ h
  where
    same : (o : Option Master)
        → option_map (λ (y : Master). y.step_number) (option_map change o) ≡ option_map (λ (y : Master). y.step_number) o
    same None = refl
    same (Some y) = ap Some (step_numbers y)

-- one more master, the newest
one_more : (members : List Member) (ms : List Master) (z : Master) (x : Lending) → IsAgreed members ms x
    → IsAgreed members (ms ++ z ∷ []) x
one_more members ms z x =
    still_agreed members members ms (ms ++ z ∷ []) x
    (λ y e is k. (y, found_more (is_step_number x.lessee) z y ms e, refl, k)) (key_more ms z x.lessee x.key)

-- one more master, at its place
one_put : (members : List Member) (ms : List Master) (z : Master) → IsFresh ms z.step_number
    → find (is_key z.key) ms ≡ None → (x : Lending) → IsAgreed members ms x
    → IsAgreed members (placed master_before z ms) x
one_put members ms z fresh free x =
    still_agreed members members ms (placed master_before z ms) x
    (λ y e is k. (y, others_at ms z fresh x.lessee (there_apart ms z fresh x.lessee (ap is_some e)) ∙ e, refl, k))
    (key_put ms z x.lessee x.key fresh free)

owned_yet : (members members2 : List Member) (y : Master)
    → (list_any (owns y.step_number) members ≡ true → list_any (owns y.step_number) members2 ≡ true)
    → is_owned members y ≡ true → is_owned members2 y ≡ true
owned_yet members members2 y own k =
    elim y.kept as (λ b. (b || list_any (owns y.step_number) members) ≡ true → (b || list_any (owns y.step_number) members2) ≡ true) [ true ↦ λ h. refl | false ↦ λ h. own h ] k

other_members : (members members2 : List Member) (ms : List Master) (x : Lending)
    → (list_any (owns x.lessee) members ≡ true → list_any (owns x.lessee) members2 ≡ true) → IsAgreed members ms x
    → IsAgreed members2 ms x
other_members members members2 ms x own =
    still_agreed members members2 ms ms x
    (λ y e is k. (y, e, refl, owned_yet members members2 y (subst (λ n. list_any (owns n) members ≡ true → list_any (owns n) members2 ≡ true) (sym is) own) k))
    (λ h. h)

-- A master that is kept or a client's own is held.
pub held_of : (members : List Member) (y : Master) → is_owned members y ≡ true → is_held members y ≡ true
held_of members y k = elim y.kept as (λ b. (b || list_any (owns y.step_number) members) ≡ true → (b || list_any (λ (z : Member). z.master == y.step_number) members) ≡ true) [ true ↦ λ h. refl | false ↦ λ h. named members h ] k
  where
    named : (zs : List Member) → list_any (owns y.step_number) zs ≡ true
        → list_any (λ (z : Member). z.master == y.step_number) zs ≡ true
    named [] h = absurd (false≢true h)
    named (z ∷ zs) h =
        elim z.is_master as (λ b. ((b && (z.master == y.step_number)) || list_any (owns y.step_number) zs) ≡ true → ((z.master == y.step_number) || list_any (λ (z : Member). z.master == y.step_number) zs) ≡ true) [
          | true ↦ elim (z.master == y.step_number) as (λ b. (b || list_any (owns y.step_number) zs) ≡ true → (b || list_any (λ (z : Member). z.master == y.step_number) zs) ≡ true) [ true ↦ λ k. refl | false ↦ λ k. named zs k ]
          | false ↦ λ k. or_right (z.master == y.step_number) (list_any (λ (z : Member). z.master == y.step_number) zs) (named zs k)
        ] h

-- those stay of a sweep
after_sweep : (members : List Member) (ms : List Master) (x : Lending) → IsAgreed members ms x
    → IsAgreed members (filter (λ (y : Master). is_living members ms y.step_number) ms) x
after_sweep members ms x h =
    still_agreed members members ms (filter (λ (y : Master). is_living members ms y.step_number) ms) x
    (λ y e is k. (y, find_where (λ (z : Master). z.step_number) (is_living members ms) x.lessee ms ∙ ap (λ b. cond b (master_at ms x.lessee) None) lives ∙ e, refl, k))
    (key_left (λ (y : Master). is_living members ms y.step_number) ms x.lessee x.key (λ y is. ap (is_living members ms) is ∙ lives))
    h
  where
    lives_by : (o : Option Master) → master_at ms x.lessee ≡ o → option_map_or (is_owned members) o false ≡ true
        → is_living members ms x.lessee ≡ true
    lives_by None e k = absurd (false≢true k)
    lives_by (Some y) e k =
        let is : y.step_number ≡ x.lessee =
        eqb-true y.step_number x.lessee
        (found (is_step_number x.lessee) (λ _. Unit {0}) y ms (all_each (λ _. Unit {0}) (λ _. tt) ms) e).0 in
        let top : is_under (lessor_of ms) x.lessee y.step_number ≡ true =
        ap (is_under (lessor_of ms) x.lessee) is ∙ itself (lessor_of ms) x.lessee x.lessee in
        any_found (is_step_number x.lessee)
        (λ (z : Master). is_held members z && is_under (lessor_of ms) x.lessee z.step_number) y ms e
        (λ i. held_of members y k i && top i)

    lives : is_living members ms x.lessee ≡ true
    lives = lives_by (master_at ms x.lessee) refl h.1

-- masters that are kept, or not any more
module _ (change : Master → Master) (step_numbers : (y : Master) → (change y).step_number ≡ y.step_number) (lessors : (y : Master) → (change y).lessor ≡ y.lessor) (keys : (y : Master) → (change y).key ≡ y.key) where
  at_changed : (ms : List Master) (n : ℕ) (y : Master) → master_at ms n ≡ Some y
      → master_at (map change ms) n ≡ Some (change y)
  at_changed ms n y e =
      find-map (is_step_number n) change ms
      ∙ ap (λ (p : Master → Bool). option_map change (find p ms)) (λ i z. step_numbers z i == n)
      ∙ ap (option_map change) e

  others_kept : (members members2 : List Member) (ms : List Master) (x : Lending)
      → ((y : Master) → y.step_number ≡ x.lessee → is_owned members y ≡ true → is_owned members2 (change y) ≡ true)
      → IsAgreed members ms x → IsAgreed members2 (map change ms) x
  others_kept members members2 ms x owned =
      still_agreed members members2 ms (map change ms) x
      (λ y e is k. (change y, at_changed ms x.lessee y e, lessors y, owned y is k))
      (key_changed change step_numbers keys ms x.lessee x.key)

-- those that aren't released
unreleased : (below : ℕ → Bool) (members : List Member) (ms : List Master) (x : Lending) → below x.lessee ≡ false
    → IsAgreed members ms x → IsAgreed members (map (marked below) ms) x
unreleased below members ms x out =
    others_kept (marked below) (marked_step_number below) (marked_lessor below) (marked_key below) members members ms x
    (λ y is k. ap (λ b. is_owned members (if b then kept_as false y else y)) (ap below is ∙ out) ∙ k)

-- ---- of all leases

each : {P Q : Lending → Type 0} (xs : List Lending) → ((x : Lending) → P x → Q x) → AllByRecursion P xs
    → AllByRecursion Q xs
each {P = P} {Q = Q} xs f h = all_weaker P Q f xs h

-- If only lessees of ending leases are released, the leases that do not end agree with the masters left.
pub agreed_released : (below chosen : ℕ → Bool) → ((n : ℕ) → below n ≡ false → chosen n ≡ false)
    → (members : List Member) (ms : List Master) (xs : List Lending) → AllByRecursion (IsAgreed members ms) xs →
    AllByRecursion
    (IsAgreed members (filter (λ (y : Master). is_living members (map (marked chosen) ms) y.step_number) (map (marked chosen) ms)))
    (filter (λ (x : Lending). not (below x.lessee)) xs)
agreed_released below chosen only members ms [] h = tt
agreed_released below chosen only members ms (x ∷ xs) h =
    let rest = filter (λ (x : Lending). not (below x.lessee)) xs in
    let now = map (marked chosen) ms in
    let more = agreed_released below chosen only members ms xs h.1 in
    elim (below x.lessee) as (λ b. below x.lessee ≡ b → AllByRecursion (IsAgreed members (filter (λ (y : Master). is_living members now y.step_number) now)) (cond (not b) (x ∷ rest) rest)) [
      | true ↦ λ e. more
      | false ↦ λ e. (after_sweep members now x (unreleased chosen members ms x (only x.lessee e) h.0), more)
    ] refl

-- All leases still agree with the masters after a newest master is created.
pub agreed_more : (members : List Member) (ms : List Master) (z : Master) (xs : List Lending)
    → AllByRecursion (IsAgreed members ms) xs → AllByRecursion (IsAgreed members (ms ++ z ∷ [])) xs
agreed_more members ms z xs h = each xs (one_more members ms z) h

-- All leases agree with the masters after a lessee and its lease are created.
pub agreed_lent : (members : List Member) (ms : List Master) (key step_number m id : ℕ) → IsFresh ms step_number
    → find (is_key key) ms ≡ None → (xs : List Lending) → AllByRecursion (IsAgreed members ms) xs
    → AllByRecursion (IsAgreed members (placed master_before (lessee key step_number m id) ms)) (placed lending_before (lending step_number m key) xs)
agreed_lent members ms key step_number m id fresh free xs h =
    let z = lessee key step_number m id in
    let at = new_at ms z fresh in
    let keyed =
    find_placed (is_key key) (λ (x : Master). master_before x z) z ms (eq-eqb key key refl)
    (none_found (is_key key) ms free) in
    all_placed (IsAgreed members (placed master_before z ms))
    (λ (x : Lending). lending_before x (lending step_number m key)) (lending step_number m key) xs
    (ap (option_and_then (λ (y : Master). y.lessor)) at, ap (λ o. option_map_or (is_owned members) o false) at, ap (option_map (λ (y : Master). y.step_number)) keyed)
    (each xs (one_put members ms z fresh free) h)

-- All leases still agree with the masters after a sweep.
pub agreed_swept : (members : List Member) (ms : List Master) (xs : List Lending)
    → AllByRecursion (IsAgreed members ms) xs
    → AllByRecursion (IsAgreed members (filter (λ (y : Master). is_living members ms y.step_number) ms)) xs
agreed_swept members ms xs h = each xs (after_sweep members ms) h

-- ---- clients come, go and change

-- All leases still agree with the masters after a client is added.
pub agreed_joined : (members : List Member) (c : Member) (ms : List Master) (xs : List Lending)
    → AllByRecursion (IsAgreed members ms) xs → AllByRecursion (IsAgreed (members ++ c ∷ []) ms) xs
agreed_joined members c ms xs h =
    each xs (λ x. other_members members (members ++ c ∷ []) ms x (list_any_left (owns x.lessee) members (c ∷ []))) h

-- All leases still agree with the masters after a client redeems a lessee.
pub agreed_redeemed : (c m : ℕ) (v : MasterSet) (xs : List Lending) → AllByRecursion (IsAgreed v.members v.masters) xs
    → AllByRecursion (IsAgreed (redeemed c m v).members (redeemed c m v).masters) xs
agreed_redeemed c m v xs h =
    each xs
    (λ x. others_kept (marked (λ n. n == m)) (marked_step_number (λ n. n == m)) (marked_lessor (λ n. n == m)) (marked_key (λ n. n == m)) v.members (placed member_before (lease_client c m) v.members) v.masters x (λ y is. owned y))
    h
  where
    one_more_owns : (n : ℕ)
        → list_any (owns n) (placed member_before (lease_client c m) v.members) ≡ (owns n (lease_client c m) || list_any (owns n) v.members)
    one_more_owns n =
        any_placed (owns n) (λ (x : Member). member_before x (lease_client c m)) (lease_client c m) v.members

    owned : (y : Master) → is_owned v.members y ≡ true
        → is_owned (placed member_before (lease_client c m) v.members) (marked (λ n. n == m) y) ≡ true
    owned y k =
        elim (y.step_number == m) as (λ b. (y.step_number == m) ≡ b → is_owned (placed member_before (lease_client c m) v.members) (if b then kept_as false y else y) ≡ true) [
          | true ↦ λ e. one_more_owns y.step_number ∙ or_left (owns y.step_number (lease_client c m)) (list_any (owns y.step_number) v.members) (eq-eqb m y.step_number (sym (eqb-true y.step_number m e)))
          | false ↦ λ e. owned_yet v.members (placed member_before (lease_client c m) v.members) y (λ h. one_more_owns y.step_number ∙ or_right (owns y.step_number (lease_client c m)) (list_any (owns y.step_number) v.members) h) k
        ] refl

-- a client owns nothing but its own
abbrev Rise : List Member → Type 0
Rise members = InOrder (λ (x y : Member). x.client < y.client) members

own_left : (members : List Member) (c n : ℕ) → Rise members
    → ((x : Member) → member_of members c ≡ Some x → owns n x ≡ false) → list_any (owns n) members ≡ true
    → list_any (owns n) (filter (λ (x : Member). not (is_client c x)) members) ≡ true
own_left members c n rise other =
    any_left (λ (x : Member). member_of members x.client ≡ Some x) (is_client c) (owns n)
    (λ x here is. other x (ap (member_of members) (sym (eqb-true x.client c is)) ∙ here)) members
    (all_found (λ (x : Member). x.client) members rise)

same_member : (members : List Member) (c : ℕ) (x z : Member) → member_of members c ≡ Some x
    → member_of members c ≡ Some z → z ≡ x
same_member members c x z here there = let e : Some z ≡ Some x = sym there ∙ here in cc

-- Without a client, all leases still agree if the lease of its master is removed.
pub agreed_left : (members : List Member) (c : ℕ) (ms : List Master) (below : ℕ → Bool) (xs : List Lending)
    → Rise members → ((x : Member) → member_of members c ≡ Some x → x.is_master ≡ true → below x.master ≡ true)
    → AllByRecursion (IsAgreed members ms) xs →
    AllByRecursion (IsAgreed (filter (λ (x : Member). not (is_client c x)) members) ms)
    (filter (λ (x : Lending). not (below x.lessee)) xs)
agreed_left members c ms below [] rise own h = tt
agreed_left members c ms below (x ∷ xs) rise own h =
    let rest = filter (λ (x : Lending). not (below x.lessee)) xs in
    let left = filter (λ (x : Member). not (is_client c x)) members in
    let more = agreed_left members c ms below xs rise own h.1 in
    elim (below x.lessee) as (λ b. below x.lessee ≡ b → AllByRecursion (IsAgreed left ms) (cond (not b) (x ∷ rest) rest)) [
      | true ↦ λ e. more
      | false ↦ λ e. (other_members members left ms x (own_left members c x.lessee rise (λ y here. none y e (own y here))) h.0, more)
    ] refl
  where
    none : (y : Member) → below x.lessee ≡ false → (y.is_master ≡ true → below y.master ≡ true)
        → owns x.lessee y ≡ false
    none y out ends =
        elim y.is_master as (λ b. (b ≡ true → below y.master ≡ true) → (b && (y.master == x.lessee)) ≡ false) [
          | true ↦ λ f.
              elim (y.master == x.lessee) as (λ b. (y.master == x.lessee) ≡ b → b ≡ false) [
                | true ↦ λ e. absurd (false≢true (sym out ∙ ap below (sym (eqb-true y.master x.lessee e)) ∙ f refl))
                | false ↦ λ e. refl
              ] refl
          | false ↦ λ f. refl
        ] ends

-- All leases still agree with the masters after a client closes whose own master is kept.
pub agreed_closed_own : (v : MasterSet) (c : ℕ) (x : Member) (xs : List Lending) → Rise v.members
    → member_of v.members c ≡ Some x → AllByRecursion (IsAgreed v.members v.masters) xs
    → AllByRecursion (IsAgreed (closed_own c x.master v).members (closed_own c x.master v).masters) xs
agreed_closed_own v c x xs rise look h =
    each xs (λ a. others_kept change step_numbers lessors keys v.members left v.masters a (λ y is. owned y)) h
  where
    left : List Member
    left = filter (λ (z : Member). not (is_client c z)) v.members

    change : Master → Master
    change y = if is_step_number x.master y then kept_as true y else y

    step_numbers : (y : Master) → (change y).step_number ≡ y.step_number
    step_numbers y = elim (is_step_number x.master y) as (λ b. (if b then kept_as true y else y).step_number ≡ y.step_number) [ true ↦ refl | false ↦ refl ]

    lessors : (y : Master) → (change y).lessor ≡ y.lessor
    lessors y = elim (is_step_number x.master y) as (λ b. (if b then kept_as true y else y).lessor ≡ y.lessor) [ true ↦ refl | false ↦ refl ]

    keys : (y : Master) → (change y).key ≡ y.key
    keys y = elim (is_step_number x.master y) as (λ b. (if b then kept_as true y else y).key ≡ y.key) [ true ↦ refl | false ↦ refl ]

    other : (y : Master) → is_step_number x.master y ≡ false → (z : Member) → member_of v.members c ≡ Some z
        → owns y.step_number z ≡ false
    other y e z here =
        elim z.is_master as (λ b. (b && (z.master == y.step_number)) ≡ false) [
          | true ↦
              elim (z.master == y.step_number) as (λ b. (z.master == y.step_number) ≡ b → b ≡ false) [
                | true ↦ λ k. absurd (false≢true (sym e ∙ eq-eqb y.step_number x.master (sym (eqb-true z.master y.step_number k) ∙ ap (λ (u : Member). u.master) (same_member v.members c x z look here))))
                | false ↦ λ k. refl
              ] refl
          | false ↦ refl
        ]

    owned : (y : Master) → is_owned v.members y ≡ true → is_owned left (change y) ≡ true
    owned y k =
        elim (is_step_number x.master y) as (λ b. is_step_number x.master y ≡ b → is_owned left (if b then kept_as true y else y) ≡ true) [
          | true ↦ λ e. refl
          | false ↦ λ e. owned_yet v.members left y (own_left v.members c y.step_number rise (other y e)) k
        ] refl

-- another row of a client, which owns what it owned
any_more : {X : Type 0} (P : X → Type 0) (p q : X → Bool) → ((x : X) → P x → p x ≡ true → q x ≡ true) → (xs : List X)
    → AllByRecursion P xs → list_any p xs ≡ true → list_any q xs ≡ true
any_more P p q f [] all h = h
any_more P p q f (x ∷ xs) all h =
    elim (p x) as (λ b. p x ≡ b → (b || list_any p xs) ≡ true → (q x || list_any q xs) ≡ true) [
      | true ↦ λ e k. or_left (q x) (list_any q xs) (f x all.0 e)
      | false ↦ λ e k. or_right (q x) (list_any q xs) (any_more P p q f xs all.1 k)
    ] refl h

-- A change of a client's row that keeps its own master keeps all leases in agreement.
pub agreed_changed : (members : List Member) (x y : Member) (ms : List Master) (xs : List Lending) → Rise members
    → member_of members y.client ≡ Some x → ((n : ℕ) → owns n x ≡ true → owns n y ≡ true)
    → AllByRecursion (IsAgreed members ms) xs
    → AllByRecursion (IsAgreed (map (λ (z : Member). if is_client y.client z then y else z) members) ms) xs
agreed_changed members x y ms xs rise look own h =
    each xs (λ a. other_members members (map put members) ms a (owned a.lessee)) h
  where
    put : Member → Member
    put z = if is_client y.client z then y else z

    owned : (n : ℕ) → list_any (owns n) members ≡ true → list_any (owns n) (map put members) ≡ true
    owned n k =
        list_any-map (owns n) put members
        ∙ any_more (λ (z : Member). member_of members z.client ≡ Some z) (owns n) (λ z. owns n (put z)) (λ z here its.
        elim (is_client y.client z) as (λ b. is_client y.client z ≡ b → owns n (if b then y else z) ≡ true) [
          | true ↦ λ e. own n (ap (owns n) (sym (same_member members y.client x z look (ap (member_of members) (sym (eqb-true z.client y.client e)) ∙ here))) ∙ its)
          | false ↦ λ e. its
        ] refl) members (all_found (λ (z : Member). z.client) members rise) k

-- ---- what is lent

-- A mode object is leased out by a master if and only if one of the leases that it lent has it.
pub leased_out_is : (members : List Member) (ms : List Master) (rows : List Lease)
    → AllByRecursion (IsAgreed members ms) (lendings_in rows) → (m x : ℕ)
    → is_leased_out (grants_in rows) ms m x ≡ is_lent rows m x
leased_out_is members ms rows h m x =
    any_with (λ (g : Grant). (g.mode_object == x) && is_option m (lessor_of ms g.master))
    (λ n. is_option m (lessor_of ms n)) x (λ g. refl) rows
    ∙ lent rows h
  where
    lent : (rows : List Lease) → AllByRecursion (IsAgreed members ms) (lendings_in rows)
        → list_any (λ (a : Lease). has_object a.objects x && is_option m (lessor_of ms a.lessee)) rows ≡ is_lent rows m x
    lent [] h = refl
    lent (a ∷ rows) h =
        λ i.
        (ap (λ o. has_object a.objects x && is_option m o) h.0.0 ∙ and_comm (has_object a.objects x) (a.lessor == m)) i
        || lent rows h.1 i

-- ---- tokens

-- The lessee of each token exists and is held.
pub tokens_held : (l : LeaseSet) (v : MasterSet) → AreLeases l → AreAgreed l v → AreHeld v l.tokens
tokens_held l v are agreed =
    all_weaker (λ (row : LeaseToken). has_some_lease l.lendings row.master ≡ true)
    (λ (row : LeaseToken). option_map_or (is_held v.members) (master_at v.masters row.master) false ≡ true)
    (λ row h. holds row.master h) l.tokens are.tokens_lent
  where
    held : (o : Option Master) → option_map_or (is_owned v.members) o false ≡ true
        → option_map_or (is_held v.members) o false ≡ true
    held None k = k
    held (Some y) k = held_of v.members y k

    holds : (m : ℕ) → has_some_lease l.lendings m ≡ true
        → option_map_or (is_held v.members) (master_at v.masters m) false ≡ true
    holds m h =
        let w = some_passing (is_lease_of m) (IsAgreed v.members v.masters) l.lendings agreed h in
        held (master_at v.masters m)
        (ap (λ n. option_map_or (is_owned v.members) (master_at v.masters n) false) (sym (eqb-true w.0.lessee m w.1)) ∙ w.2.1)

-- ---- births

-- A master that does not exist has no lease.
pub none_leased : (members : List Member) (ms : List Master) (xs : List Lending)
    → AllByRecursion (IsAgreed members ms) xs → (n : ℕ) → is_some (master_at ms n) ≡ false → has_some_lease xs n ≡ false
none_leased members ms xs h n absent =
    none_passes (is_lease_of n) xs
    (each xs (λ x agreed. ne_eqb x.lessee n (λ same. none (master_at ms n) absent (ap (λ k. option_map_or (is_owned members) (master_at ms k) false) (sym same) ∙ agreed.1))) h)
  where
    none : (o : Option Master) → is_some o ≡ false → option_map_or (is_owned members) o false ≡ true → ⊥
    none None e k = false≢true k
    none (Some y) e k = false≢true (sym e)
