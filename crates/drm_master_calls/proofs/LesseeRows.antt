-- Lessees and what their leases have, by rows and by what the device keeps.
use Rattle.std.proofs.Common.{◌≡◌, ℕ, ◌==◌, true, false, ◌&&◌, List, [], ◌∷◌, map, filter, find, length, Option, None, Some, refl, sym, ap, subst, ◌∙◌, arith, inl, inr, eq-eqb}
use Rattle.std.specs.Prelude.{nat_le, unwrap_or}
use Rattle.std.specs.List.{list_any, AllByRecursion}
use Rattle.std.specs.Option.{is_some, option_map, option_map_or}
use Rattle.std.proofs.lemmas.Bool.{eqb-true, ne_eqb, false≢true}
use Rattle.std.proofs.lemmas.Option.{none-some, same_Some}
use Rattle.std.proofs.lemmas.Bool.Decides.{nat_tests}
use Rattle.drm_index_array.specs.Chains.{top_of}
use Rattle.drm_index_array.specs.Orders.{InOrder}
use Rattle.drm_index_array.proofs.Each.{filter_none, none_passes}
use Rattle.drm_index_array.proofs.Rising.{found, all_found}
use Rattle.drm_index_array.proofs.Lists.{all_both, all_weaker, filter_true, filter-map, list_any-map, list_any_agree, map-map}
use Rattle.drm_index_array.proofs.FoundInLists.{find-map, none_found}
use Rattle.drm_index_array.proofs.Orders.{RisesTo, in_order_filter, in_order_map, same-any, same-filter, same-map, sorted-same, order_of_numbers}
use Rattle.drm_modes.specs.Numbers.{numbers_from}
use Rattle.drm_masters.specs.declared.rows.Master.{Master}
use Rattle.drm_masters.specs.declared.rows.Member.{Member}
use Rattle.drm_masters.specs.Masters as masters
use Rattle.drm_leases.specs.Agreed.{IsAgreed}
use Rattle.drm_leases.specs.declared.rows.Grant.{Grant}
use Rattle.drm_leases.specs.Leases as leases
use Rattle.drm_leases.specs.Leases.{grant_before, is_grant_of, granted_objects, is_direct_lessee}
use Rattle.drm_model.specs.Numbers.{rising}
use Rattle.drm_model.specs.Rows.{Rows, MasterRow, GrantRow}
use Rattle.drm_model.specs.Masters.{master_row, owner_of}
use Rattle.drm_model.specs.Leases as model
use Rattle.drm_model.specs.Magics.{caller_master}
use Rattle.drm_model.specs.Calls.{meaning}
use Rattle.drm_model.specs.Verdict.{admission_checks, verdict}
use Rattle.drm_table.specs.declared.calls.Call.TheVariants.{RevokeLease}
use Rattle.drm_table.specs.declared.events.Event.TheVariants.{Ask}
use Rattle.drm_table.specs.declared.rules.Rule.TheVariants.{NoLessee, NotYourLessee}
use Rattle.drm_table.specs.Permit.{check, first_failing}
use Rattle.drm_state.specs.declared.state.State.{State}
use Rattle.drm_state.specs.Parts.{master_row_of, masters_of, grant_row_of, grants_of}
use Rattle.drm_state.specs.Invariants.{MeetsInvariants}
use Rattle.drm_state.specs.Refinement.{Represents}
use Rattle.drm_state.proofs.Represented.{bounds_are, masters_are, masters_so, grants_are, leases_so, leases_agree}
use Rattle.drm_state.proofs.StayingMasters.{above_is}
use Rattle.drm_state.proofs.Refinements.{call_verdict}

module _ (s : State) (w : Rows) (h : Represents s w) where
  -- ---- the ids of lessees

  direct_is : (m id n : ℕ)
      → option_map_or (λ (row : MasterRow). masters.is_option m row.lessor && (row.lessee_id == id)) (master_row (masters_of s) n) false ≡ option_map_or (is_direct_lessee m id) (masters.master_at s.masters.masters n) false
  direct_is m id n =
      ap (λ o. option_map_or (λ (row : MasterRow). masters.is_option m row.lessor && (row.lessee_id == id)) o false)
      (find-map (λ (row : MasterRow). row.master == n) (master_row_of s.leases.tokens) s.masters.masters)
      ∙ by_row (masters.master_at s.masters.masters n)
    where
      by_row : (o : Option Master)
          → option_map_or (λ (row : MasterRow). masters.is_option m row.lessor && (row.lessee_id == id)) (option_map (master_row_of s.leases.tokens) o) false ≡ option_map_or (is_direct_lessee m id) o false
      by_row None = refl
      by_row (Some x) = refl

  lent_is : (m id : ℕ) → model.has_lessee w m id ≡ leases.has_lease s.leases.grants s.masters.masters m id
  lent_is m id =
      ap (λ rows. list_any (model.is_lessee_grant rows m id) w.grants) (masters_are s w h)
      ∙ same-any (model.is_lessee_grant (masters_of s) m id) w.grants (grants_of s) (grants_are s w h)
      ∙ list_any-map (model.is_lessee_grant (masters_of s) m id) grant_row_of s.leases.grants
      ∙ list_any_agree (λ (g : Grant). model.is_lessee_grant (masters_of s) m id (grant_row_of g))
      (λ (g : Grant). option_map_or (is_direct_lessee m id) (masters.master_at s.masters.masters g.master) false)
      (λ g. direct_is m id g.master) s.leases.grants

  -- The ids of a master's lessees are the same by rows as in the state.
  pub lessees_listed : (m : ℕ)
      → filter (model.has_lessee w m) (numbers_from 1 w.limits.lessees) ≡ leases.lessee_ids s.leases.grants s.masters.masters s.masters.last_lessee m
  lessees_listed m = λ i. filter (λ id. lent_is m id i) (numbers_from 1 (sym (bounds_are s w h).8 i))

  -- ---- what a lease has

  before_rises : (xs : List Grant) (m : ℕ) → AllByRecursion (λ (g : Grant). is_grant_of m g ≡ true) xs
      → InOrder grant_before xs → InOrder (λ (g k : Grant). RisesTo nat_le g.mode_object k.mode_object) xs
  before_rises [] m its rise = tt
  before_rises (g ∷ gs) m its rise =
      (each gs its.1 rise.0, before_rises gs m its.1 rise.1)
    where
      less : (k : Grant) → is_grant_of m k ≡ true → grant_before g k → RisesTo nat_le g.mode_object k.mode_object
      less k is (inl lt) = let a = eqb-true g.master m its.0 in let b = eqb-true k.master m is in absurd (omega (arith, a, b, lt))
      less k is (inr same) = let lt = same.1 in (grind (arith, nat_tests), grind (arith, nat_tests))

      each : (ks : List Grant) → AllByRecursion (λ (k : Grant). is_grant_of m k ≡ true) ks
          → AllByRecursion (grant_before g) ks
          → AllByRecursion (λ (k : Grant). RisesTo nat_le g.mode_object k.mode_object) ks
      each [] is all = tt
      each (k ∷ ks) is all = (less k is.0 all.0, each ks is.1 all.1)

  -- The objects of a lease are the same by rows as in the state, in the order of their ids.
  pub lease_listed : (t : MeetsInvariants s) (m : ℕ) → rising (model.granted_of w m) ≡ granted_objects s.leases.grants m
  lease_listed t m =
      let its = λ (row : GrantRow). row.master == m in
      let object = λ (row : GrantRow). row.mode_object in
      let own = filter (is_grant_of m) s.leases.grants in
      let theirs : map object (filter its (grants_of s)) ≡ granted_objects s.leases.grants m =
      ap (map object) (filter-map its grant_row_of s.leases.grants) ∙ map-map object grant_row_of own in
      let rise : InOrder (RisesTo nat_le) (granted_objects s.leases.grants m) =
      in_order_map (RisesTo nat_le) (λ (g : Grant). g.mode_object) own
      (before_rises own m (filter_true (is_grant_of m) s.leases.grants) (in_order_filter grant_before (is_grant_of m) s.leases.grants (leases_so s t).grants_rise)) in
      sorted-same nat_le (λ x y. x == y) order_of_numbers (map object (filter its w.grants))
      (granted_objects s.leases.grants m) rise
      (λ test. same-map object (filter its w.grants) (filter its (grants_of s)) (same-filter its w.grants (grants_of s) (grants_are s w h)) test ∙ ap (λ l. length (filter test l)) theirs)

  -- ---- the lessee of an id

  owner_is : (m : ℕ) → owner_of (masters_of s) m ≡ masters.owner_of s.masters.masters m
  owner_is m = λ i. top_of (above_is s.leases.tokens s.masters.masters i) m

  -- The row of the lessee of an id is that of the lessee in the state.
  pub lessee_found : (m id : ℕ)
      → model.lessee_row w m id ≡ option_map (master_row_of s.leases.tokens) (find (masters.is_lessee_of s.masters.masters (masters.owner_of s.masters.masters m) id) s.masters.masters)
  lessee_found m id =
      (λ i. find (model.is_lessee_of (masters_are s w h i) (owner_of (masters_are s w h i) m) id) (masters_are s w h i))
      ∙ find-map (model.is_lessee_of (masters_of s) (owner_of (masters_of s) m) id) (master_row_of s.leases.tokens)
      s.masters.masters
      ∙
      (λ i. option_map (master_row_of s.leases.tokens) (find (λ (x : Master). is_some x.lessor && (x.lessee_id == id) && (owner_is x.step_number i == owner_is m i)) s.masters.masters))

  -- The lessee of an id has the same step number by rows as in the state.
  pub lessee_step_number : (m id : ℕ) (x : Master)
      → find (masters.is_lessee_of s.masters.masters (masters.owner_of s.masters.masters m) id) s.masters.masters ≡ Some x
      → model.lessee_master w m id ≡ x.step_number
  lessee_step_number m id x e =
      ap (λ o. unwrap_or (option_map (λ (row : MasterRow). row.master) o) 0)
      (lessee_found m id ∙ ap (option_map (master_row_of s.leases.tokens)) e)

  -- REVOKE_LEASE is denied if the id has no lessee, or a lessee of another master.
  pub revoke_verdict : (c m id : ℕ) (o : Option Master) → caller_master w c ≡ m
      → first_failing (admission_checks w c (RevokeLease id)) ≡ None
      → find (masters.is_lessee_of s.masters.masters (masters.owner_of s.masters.masters m) id) s.masters.masters ≡ o →
      verdict w (Ask c (RevokeLease id)) ≡ first_failing
      (check NoLessee (is_some o) ∷ check NotYourLessee (option_map_or (λ (x : Master). masters.is_option m x.lessor) o false) ∷ [])
  unfolding meaning
  revoke_verdict c m id o own admitted e =
      call_verdict w c (RevokeLease id) admitted
      ∙ (λ i. first_failing (model.revoke_lease_of w (own i) id).checks)
      ∙ ap
      (λ (r : Option MasterRow). first_failing (check NoLessee (is_some r) ∷ check NotYourLessee (option_map_or (λ (row : MasterRow). masters.is_option m row.lessor) r false) ∷ []))
      (lessee_found m id ∙ ap (option_map (master_row_of s.leases.tokens)) e)
      ∙ by_row o
    where
      by_row : (o : Option Master)
          → first_failing (check NoLessee (is_some (option_map (master_row_of s.leases.tokens) o)) ∷ check NotYourLessee (option_map_or (λ (row : MasterRow). masters.is_option m row.lessor) (option_map (master_row_of s.leases.tokens) o) false) ∷ []) ≡
          first_failing
          (check NoLessee (is_some o) ∷ check NotYourLessee (option_map_or (λ (x : Master). masters.is_option m x.lessor) o false) ∷ [])
      by_row None = refl
      by_row (Some x) = refl

-- ---- what is looked up

-- An option that holds something is not empty.
pub none_there : {X : Type 0} (o : Option X) → is_some o ≡ true → o ≡ None → ⊥
none_there None h e = let j : false ≡ true = h in cc
none_there (Some x) h e = let n : Some x ≡ None = e in cc

module _ (s : State) (t : MeetsInvariants s) where
  -- The master that a client belongs to exists.
  pub caller_master_there : (c : ℕ) (x : Member) → masters.member_of s.masters.members c ≡ Some x
      → is_some (masters.master_at s.masters.masters x.master) ≡ true
  caller_master_there c x e =
      (found (masters.is_client c) (λ (y : Member). is_some (masters.master_at s.masters.masters y.master) ≡ true) x s.masters.members (masters_so s t).masters_there e).1

  -- what the lease of a master has is found by its key
  module _ (m key : ℕ) (keyed : masters.IsKeyOf s.masters.masters m key) where
    row_of : (n : ℕ) (o : Option Master) → find (masters.is_key n) s.masters.masters ≡ o
        → option_map (λ (y : Master). y.step_number) o ≡ Some m
        → (x : Master) × (masters.master_at s.masters.masters m ≡ Some x) × (x.key ≡ n)
    row_of n None e k = absurd (none-some m k)
    row_of n (Some x) e k =
        let w =
        found (masters.is_key n) (λ (y : Master). masters.master_at s.masters.masters y.step_number ≡ Some y) x
        s.masters.masters
        (all_found (λ (y : Master). y.step_number) s.masters.masters (masters_so s t).masters_rise) e in
        (x, ap (masters.master_at s.masters.masters) (sym (same_Some x.step_number m k)) ∙ w.1, eqb-true x.key n w.0)

    -- it has one key
    one_key : (n : ℕ) → masters.IsKeyOf s.masters.masters m n → n ≡ key
    one_key n h =
        let a = row_of n (find (masters.is_key n) s.masters.masters) refl h in
        let b = row_of key (find (masters.is_key key) s.masters.masters) refl keyed in
        sym a.2 ∙ ap (λ (x : Master). x.key) (same_Some a.0 b.0 (sym a.1 ∙ b.1)) ∙ b.2

    -- The objects of a master's lease are found by the master's key.
    pub objects_by_key : option_map_or (granted_objects s.leases.grants) (leases.lessee_at s.leases.lendings key) [] ≡ granted_objects s.leases.grants m
    objects_by_key = by_row (find (λ (x : leases.Lending). x.key == key) s.leases.lendings) refl
      where
        none : (xs : List Grant) → AllByRecursion (λ (g : Grant). is_grant_of m g ≡ false) xs
            → granted_objects xs m ≡ []
        none xs h = ap (map (λ (g : Grant). g.mode_object)) (filter_none (is_grant_of m) xs h)

        unlent : find (λ (x : leases.Lending). x.key == key) s.leases.lendings ≡ None
            → leases.has_some_lease s.leases.lendings m ≡ false
        unlent e =
            none_passes (leases.is_lease_of m) s.leases.lendings
            (all_both (IsAgreed s.masters.members s.masters.masters) (λ (x : leases.Lending). (x.key == key) ≡ false) (λ (x : leases.Lending). (x.lessee == m) ≡ false) (λ x agreed other. ne_eqb x.lessee m (λ same. false≢true (sym other ∙ eq-eqb x.key key (one_key x.key (subst (λ n. masters.IsKeyOf s.masters.masters n x.key) same agreed.2))))) s.leases.lendings (leases_agree s t) (none_found (λ (x : leases.Lending). x.key == key) s.leases.lendings e))

        by_row : (o : Option leases.Lending) → find (λ (x : leases.Lending). x.key == key) s.leases.lendings ≡ o
            → option_map_or (granted_objects s.leases.grants) (option_map (λ (x : leases.Lending). x.lessee) o) [] ≡ granted_objects s.leases.grants m
        by_row None e =
            sym
            (none s.leases.grants (all_weaker (λ (g : Grant). leases.has_some_lease s.leases.lendings g.master ≡ true) (λ (g : Grant). is_grant_of m g ≡ false) (λ g h. ne_eqb g.master m (λ same. false≢true (sym (unlent e) ∙ ap (leases.has_some_lease s.leases.lendings) (sym same) ∙ h))) s.leases.grants (leases_so s t).grants_lent))
        by_row (Some x) e =
            let w =
            found (λ (y : leases.Lending). y.key == key) (IsAgreed s.masters.members s.masters.masters) x
            s.leases.lendings (leases_agree s t) e in
            ap (granted_objects s.leases.grants)
            (same_Some x.lessee m (sym w.1.2 ∙ ap (λ n. option_map (λ (y : Master). y.step_number) (find (masters.is_key n) s.masters.masters)) (eqb-true x.key key w.0) ∙ keyed))
