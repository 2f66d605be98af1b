-- What is true if the rules of CREATE_LEASE deny nothing.
use Rattle.std.proofs.Common.{◌≡◌, ℕ, ◌+◌, ◌==◌, nat_lt, Bool, true, false, not, ◌&&◌, ◌||◌, List, [], ◌∷◌, ◌++◌, length, Option, None, Some, refl, sym, ap, ◌∙◌, eq-eqb, arith}
use Rattle.std.specs.Prelude.{if◌then◌else◌, nat_le}
use Rattle.std.specs.List.{list_any, list_all, AllByRecursion}
use Rattle.std.proofs.lemmas.Bool.{or_right, eqb-true, and_parts, not-true}
use Rattle.std.proofs.lemmas.Bool.Decides.{nat_tests}
use Rattle.drm_index_array.specs.Numbers.{is_among}
use Rattle.std.specs.Option.{is_some}
use Rattle.drm_table.specs.declared.rules.Rule.{Rule}
use Rattle.drm_table.specs.declared.rules.Rule.TheVariants.{SubLease, NoModeObject, NotLeasable, Repeated, LeaseShape, LeasedOut, Full}
use Rattle.drm_table.specs.Permit.{Check, check, first_failing}
use Rattle.drm_modes.specs.Modes.{ModeSet}
use Rattle.drm_modes.specs.Numbers.{numbers_from}
use Rattle.drm_modes.specs.Topology.{Topology, is_crtc, is_plane, is_connector, object_count}
use Rattle.drm_modes.proofs.Ids.{is_among-numbers_from}
use Rattle.drm_index_array.proofs.Numbers.{among-left}
use Rattle.drm_index_array.proofs.Rising.{found}
use Rattle.drm_masters.specs.declared.rows.Member.{Member}
use Rattle.drm_masters.specs.Masters.{MasterSet, AreMasters, is_client, member_of, master_at, free_lessee}
use Rattle.drm_leases.specs.Leases.{LeaseSet, is_leased_out, next_token}
use Rattle.drm_leases.specs.Calls.{listed_objects}
use Rattle.drm_leases.specs.Masks.{is_empty, has_object, objects_in}
use Rattle.drm_leases.specs.Rules.{lease_checks, lease_rules, leased, may_lease, is_seen, is_leasable, stands_once, is_lease}
use Rattle.drm_leases.proofs.Bits.{among_passing, among_objects}

-- An option that has a value is not `None`.
pub some_none : {X : Type 0} (o : Option X) → is_some o ≡ true → o ≡ None → ⊥
some_none None h e = let j : false ≡ true = h in cc
some_none (Some x) h e = let n : Some x ≡ None = e in cc

-- Each client's master exists.
pub master_there : (v : MasterSet) → AreMasters v → (c : ℕ) (x : Member) → member_of v.members c ≡ Some x
    → is_some (master_at v.masters x.master) ≡ true
master_there v are c x e =
    (found (is_client c) (λ (y : Member). is_some (master_at v.masters y.master) ≡ true) x v.members are.masters_there e).1

-- no rule fails
each_holds : (cs : List Check) → first_failing cs ≡ None → AllByRecursion (λ (c : Check). c.holds ≡ true) cs
each_holds [] h = tt
each_holds (c ∷ cs) h =
    (elim c.holds as (λ b. c.holds ≡ b → (if b then first_failing cs else Some c.rule) ≡ None → AllByRecursion (λ (d : Check). d.holds ≡ true) (c ∷ cs)) [
      | true ↦ λ e k. (e, each_holds cs k)
      | false ↦ λ e k. absurd (let n : Some c.rule ≡ None = k in cc)
    ]) refl h

-- whatever the last check is, the others decide first
last_check : (cs : List Check) (x y : Check) → first_failing (cs ++ x ∷ []) ≡ None
    → first_failing (cs ++ y ∷ []) ≡ first_failing (y ∷ [])
last_check [] x y h = refl
last_check (c ∷ cs) x y h =
    elim c.holds as (λ b. (if b then first_failing (cs ++ x ∷ []) else Some c.rule) ≡ None → (if b then first_failing (cs ++ y ∷ []) else Some c.rule) ≡ first_failing (y ∷ [])) [
      | true ↦ λ k. last_check cs x y k
      | false ↦ λ k. absurd (let n : Some c.rule ≡ None = k in cc)
    ] h

other_last : (cs : List Check) (x y : Check) (r : Rule)
    → (first_failing (x ∷ []) ≡ Some r → first_failing (y ∷ []) ≡ Some r) → first_failing (cs ++ x ∷ []) ≡ Some r
    → first_failing (cs ++ y ∷ []) ≡ Some r
other_last [] x y r f h = f h
other_last (c ∷ cs) x y r f h =
    elim c.holds as (λ b. (if b then first_failing (cs ++ x ∷ []) else Some c.rule) ≡ Some r → (if b then first_failing (cs ++ y ∷ []) else Some c.rule) ≡ Some r) [
      | true ↦ λ k. other_last cs x y r f k
      | false ↦ λ k. k
    ] h

module _ (l : LeaseSet) (v : MasterSet) (s : ModeSet) (m : ℕ) (universal : Bool) (ids : List ℕ) where
  abbrev rules_before : List Check
  rules_before =
      check SubLease (may_lease v.masters m)
      ∷ check NoModeObject (list_all (is_seen l.grants v.masters s m universal) ids)
      ∷ check NotLeasable (list_all (is_leasable s) ids)
      ∷ check Repeated (list_all (stands_once ids) ids)
      ∷ check LeaseShape (is_lease s.topology universal ids)
      ∷ check LeasedOut (not (list_any (is_leased_out l.grants v.masters m) (leased l v s m universal ids)))
      ∷ []

  module _ (passes : first_failing (lease_rules l v s m universal ids (is_some (next_token l))) ≡ None) where
    -- If no rule denies the lease, a token is free.
    pub token_free : is_some (next_token l) ≡ true
    token_free = (each_holds (lease_rules l v s m universal ids (is_some (next_token l))) passes).1.1.1.1.1.1.0

    -- If no rule denies the lease, the ids are a lease.
    pub shaped : is_lease s.topology universal ids ≡ true
    shaped = (each_holds (lease_rules l v s m universal ids (is_some (next_token l))) passes).1.1.1.1.0

    -- If every rule passes and a lessee id is free, no rule denies the lease.
    pub all_passed : is_some (free_lessee v m) ≡ true → first_failing (lease_checks l v s m universal ids) ≡ None
    unfolding lease_checks
    all_passed free =
        last_check rules_before (check Full (is_some (next_token l)))
        (check Full (is_some (free_lessee v m) && is_some (next_token l))) passes
        ∙ ap (λ b. if b then None else Some Full) (λ i. free i && token_free i)

    -- If every rule passes but no lessee id is free, the rule that fails is `Full`.
    pub lessees_full : free_lessee v m ≡ None → first_failing (lease_checks l v s m universal ids) ≡ Some Full
    unfolding lease_checks
    lessees_full none =
        last_check rules_before (check Full (is_some (next_token l)))
        (check Full (is_some (free_lessee v m) && is_some (next_token l))) passes
        ∙ ap (λ o. if is_some o && is_some (next_token l) then None else Some Full) none

  -- A rule that denies the lease denies it whether or not a lessee id is free.
  pub rule_denies : (r : Rule) → first_failing (lease_rules l v s m universal ids (is_some (next_token l))) ≡ Some r
      → first_failing (lease_checks l v s m universal ids) ≡ Some r
  unfolding lease_checks
  rule_denies r h =
      other_last rules_before (check Full (is_some (next_token l)))
      (check Full (is_some (free_lessee v m) && is_some (next_token l))) r
      (by_room (is_some (free_lessee v m)) (is_some (next_token l))) h
    where
      by_room : (a b : Bool) → (if b then None else Some Full) ≡ Some r → (if a && b then None else Some Full) ≡ Some r
      by_room true b e = e
      by_room false true e = absurd (let n : None ≡ Some r = e in cc)
      by_room false false e = e

none_among : (p : ℕ → Bool) → (ids : List ℕ) (x : ℕ) → list_any p ids ≡ false → is_among ids x ≡ true → p x ≡ false
none_among p [] x h k = absurd (let e : false ≡ true = k in cc)
none_among p (id ∷ ids) x h k =
    (elim (p id) as (λ b. p id ≡ b → (b || list_any p ids) ≡ false → p x ≡ false) [
      | true ↦ λ e n. absurd (let j : true ≡ false = n in cc)
      | false ↦ λ e n.
          (elim (id == x) as (λ b. (id == x) ≡ b → (b || is_among ids x) ≡ true → p x ≡ false) [
            | true ↦ λ same t. ap p (sym (eqb-true id x same)) ∙ e
            | false ↦ λ differs t. none_among p ids x n t
          ]) refl k
    ]) refl h

-- If no rule denies the lease, none of its objects is leased out already.
pub unlent : (l : LeaseSet) (v : MasterSet) (s : ModeSet) (m : ℕ) (universal : Bool) (ids : List ℕ)
    → first_failing (lease_rules l v s m universal ids (is_some (next_token l))) ≡ None → (mask : ℕ)
    → objects_in mask ≡ listed_objects s.topology (leased l v s m universal ids) → (x : ℕ) → has_object mask x ≡ true
    → is_leased_out l.grants v.masters m x ≡ false
unlent l v s m universal ids h mask listed x has =
    let all = leased l v s m universal ids in
    let among : (is_among all x && is_among (numbers_from 1 (object_count s.topology)) x) ≡ true =
    sym (among_passing (is_among all) x (numbers_from 1 (object_count s.topology)))
    ∙ ap (λ l. is_among l x) (sym listed) ∙ among_objects mask x ∙ has in
    none_among (is_leased_out l.grants v.masters m) all x
    (not-true (list_any (is_leased_out l.grants v.masters m) all) (each_holds (lease_rules l v s m universal ids (is_some (next_token l))) h).1.1.1.1.1.0)
    (and_parts (is_among all x) (is_among (numbers_from 1 (object_count s.topology)) x) among).0

-- one that passes, and is in the list
passing : (p : ℕ → Bool) → (ids : List ℕ) → list_any p ids ≡ true → (x : ℕ) × (p x ≡ true) × (is_among ids x ≡ true)
passing p [] h = absurd (let e : false ≡ true = h in cc)
passing p (id ∷ ids) h =
    (elim (p id) as (λ b. p id ≡ b → (b || list_any p ids) ≡ true → (x : ℕ) × (p x ≡ true) × (((id == x) || is_among ids x) ≡ true)) [
      | true ↦ λ e k. (id, e, ap (λ b. b || is_among ids id) (eq-eqb id id refl))
      | false ↦ λ e k. let w = passing p ids k in (w.0, w.1, or_right (id == w.0) (is_among ids w.0) w.2)
    ]) refl h

filled : (xs : List ℕ) (x : ℕ) → is_among xs x ≡ true → is_empty xs ≡ false
filled [] x h = absurd (let e : false ≡ true = h in cc)
filled (y ∷ ys) x h = refl

-- A lease has a mode object, with any planes added to it.
pub lease_filled : (t : Topology) (universal : Bool) (ids along : List ℕ) → is_lease t universal ids ≡ true
    → is_empty (listed_objects t (ids ++ along)) ≡ false
lease_filled t universal ids along h =
    let w =
    passing (is_crtc t) ids
    (and_parts (list_any (is_crtc t) ids) (list_any (is_connector t) ids) (and_parts (list_any (is_crtc t) ids && list_any (is_connector t) ids) (not universal || list_any (is_plane t) ids) h).0).0
    in
    filled (listed_objects t (ids ++ along)) w.0
    (among_passing (is_among (ids ++ along)) w.0 (numbers_from 1 (object_count t)) ∙ ap (λ b. b && is_among (numbers_from 1 (object_count t)) w.0) (among-left ids along w.0 w.2) ∙ is_among-numbers_from 1 (object_count t) w.0 ∙ low w.0 t.crtcs (length t.planes) (length t.encoders) (length t.connectors) (sym (is_among-numbers_from 1 t.crtcs w.0) ∙ w.1))
  where
    low : (x a b c d : ℕ) → (nat_le 1 x && nat_lt x (1 + a)) ≡ true
        → (nat_le 1 x && nat_lt x (1 + (a + b + c + d))) ≡ true
    low x a b c d e = grind (arith, nat_tests)
