-- The device with a lease more.
use Rattle.std.proofs.Common.{◌≡◌, ℕ, ◌+◌, ◌<◌, ◌==◌, true, false, List, [], ◌∷◌, ◌++◌, map, Some, refl, sym, ap, subst, ◌∙◌, eq-eqb}
use Rattle.std.specs.List.{AllByRecursion}
use Rattle.std.specs.Option.{is_some, option_map, option_and_then}
use Rattle.std.proofs.lemmas.List.{map-append}
use Rattle.drm_index_array.specs.Rows.{placed}
use Rattle.drm_index_array.specs.Orders.{SameRows, InOrder}
use Rattle.drm_index_array.proofs.FoundInLists.{find_last}
use Rattle.drm_index_array.proofs.Lists.{all_append, all_both, all_weaker, length-filter_append, map-map}
use Rattle.drm_index_array.proofs.Numbers.{less-differ, flipped}
use Rattle.drm_index_array.proofs.Orders.{same-map}
use Rattle.drm_index_array.proofs.Placed.{all_placed, find_placed, find_other}
use Rattle.drm_masters.specs.declared.rows.Master.{Master}
use Rattle.drm_masters.specs.Masters.{AreMasters, is_step_number, is_lessee}
use Rattle.drm_masters.specs.Calls.{IsNewStepNumber, lessee}
use Rattle.drm_masters.proofs.NewestMember.{with_last_master}
use Rattle.drm_leases.specs.Tokens.{LeaseToken, token_before}
use Rattle.drm_leases.specs.Leases.{AreLeases, is_token_of, token_of}
use Rattle.drm_leases.specs.Calls as leases
use Rattle.drm_leases.specs.Agreed.{AreAgreed}
use Rattle.drm_leases.specs.Calls.{IsNewLessee, lease_token}
use Rattle.drm_leases.proofs.NewestLease.{with_last_lease}
use Rattle.drm_model.specs.Rows.{Rows}
use Rattle.drm_model.specs.Leases as model
use Rattle.drm_model.specs.Parts.{Part, Masters, Grants, LastLeaseToken}
use Rattle.drm_state.specs.declared.state.State.{State}
use Rattle.drm_state.specs.Parts.{master_row_of, masters_of, grant_row_of, grants_of}
use Rattle.drm_state.specs.Invariants.{Invariant, MastersAre, LeasesAre, TokensOfLessees, KeptHaveTokens, LeasesAgree, meets_invariant, MeetsInvariants}
use Rattle.drm_state.specs.Refinement.{represents_part, Represents}
use Rattle.drm_state.proofs.Represented.{masters_are, grants_are, tokens_of_lessees, kept_have_tokens, leases_agree}
use Rattle.drm_state.proofs.Ended.{of_lessees_more}

-- the rows with a lease more: its lessee is the master b, with this lessor, id and token
abbrev pub leased_rows : Rows → ℕ → ℕ → ℕ → ℕ → List ℕ → Rows
leased_rows w m b id token ids = record w {
  masters = w.masters ++ record { master = b; lessor = Some m; lessee_id = id; lease_token = Some token } ∷ [];
  grants = w.grants ++ map (model.grant b) ids;
  last_lease_token = token;
}

same_append : {X : Type 0} (xs ys us vs : List X) → SameRows xs ys → SameRows us vs → SameRows (xs ++ us) (ys ++ vs)
same_append xs ys us vs h k =
    λ test. length-filter_append test xs us ∙ (λ i. h test i + k test i) ∙ sym (length-filter_append test ys vs)

module _ (s : State) (key b m id token : ℕ) (objects : List ℕ) (rise : InOrder (λ (x y : LeaseToken). x.token < y.token) s.leases.tokens) where
  abbrev pub leased : State
  leased =
      record s
      { masters = with_last_master (lessee key b m id) s.masters; leases = with_last_lease token key b m objects s.leases }

  abbrev tokens_now : List LeaseToken
  tokens_now = placed token_before (lease_token token b) s.leases.tokens

  -- the tokens of the others are unchanged
  token_yet : (n : ℕ) → (b == n) ≡ false → token_of tokens_now n ≡ token_of s.leases.tokens n
  token_yet n other =
      ap (option_map (λ (row : LeaseToken). row.token))
      (find_other (λ (row : LeaseToken). row.token) (lease_token token b) s.leases.tokens rise (is_token_of n) other)

  module _ (new : IsNewStepNumber s.masters b) (fresh : IsNewLessee s.leases b) where
    its_token : token_of tokens_now b ≡ Some token
    its_token =
        ap (option_map (λ (row : LeaseToken). row.token))
        (find_placed (is_token_of b) (λ (row : LeaseToken). token_before row (lease_token token b)) (lease_token token b) s.leases.tokens (eq-eqb b b refl) (all_weaker (λ (row : LeaseToken). row.master < b) (λ (row : LeaseToken). is_token_of b row ≡ false) (λ row lt. less-differ row.master b lt) s.leases.tokens fresh.tokens))

    its_lessor : is_lessee leased.masters.masters b ≡ true
    its_lessor =
        ap (λ o. is_some (option_and_then (λ (x : Master). x.lessor) o))
        (find_last (is_step_number b) (lessee key b m id) (eq-eqb b b refl) s.masters.masters (all_weaker (λ (x : Master). x.step_number < b) (λ (x : Master). is_step_number b x ≡ false) (λ x lt. less-differ x.step_number b lt) s.masters.masters new))

    -- One lease more keeps all invariants.
    pub leased_invariants : MeetsInvariants s → AreMasters leased.masters → AreLeases leased.leases
        → AreAgreed leased.leases leased.masters → (invariant : Invariant) → meets_invariant invariant leased
    unfolding meets_invariant
    leased_invariants t are leases_are agreed MastersAre = are
    leased_invariants t are leases_are agreed LeasesAre = leases_are
    leased_invariants t are leases_are agreed TokensOfLessees =
        all_placed (λ (row : LeaseToken). is_lessee leased.masters.masters row.master ≡ true)
        (λ (row : LeaseToken). token_before row (lease_token token b)) (lease_token token b) s.leases.tokens its_lessor
        (of_lessees_more s.leases.tokens s.masters.masters (lessee key b m id) (tokens_of_lessees s t))
    leased_invariants t are leases_are agreed KeptHaveTokens =
        all_append (λ (x : Master). x.kept ≡ is_some (token_of tokens_now x.step_number)) s.masters.masters
        (lessee key b m id ∷ [])
        (all_both (λ (x : Master). x.step_number < b) (λ (x : Master). x.kept ≡ is_some (token_of s.leases.tokens x.step_number)) (λ (x : Master). x.kept ≡ is_some (token_of tokens_now x.step_number))
        (λ x lt e. e ∙ sym (ap is_some (token_yet x.step_number (flipped x.step_number b (less-differ x.step_number b lt))))) s.masters.masters new (kept_have_tokens s t))
        (sym (ap is_some its_token), tt)
    leased_invariants t are leases_are agreed LeasesAgree = agreed
    leased_invariants t are leases_are agreed invariant = t invariant

    rows_yet : (ms : List Master) → AllByRecursion (λ (x : Master). x.step_number < b) ms
        → map (master_row_of s.leases.tokens) ms ≡ map (master_row_of tokens_now) ms
    rows_yet [] h = refl
    rows_yet (x ∷ xs) h =
        λ i. record
        { master = x.step_number; lessor = x.lessor; lessee_id = x.lessee_id; lease_token = sym (token_yet x.step_number (flipped x.step_number b (less-differ x.step_number b h.0))) i }
        ∷ rows_yet xs h.1 i

    module _ (w : Rows) (h : Represents s w) (ids : List ℕ) (same : SameRows ids objects) where
      masters_now : (leased_rows w m b id token ids).masters ≡ masters_of leased
      masters_now =
          (λ i. (masters_are s w h ∙ rows_yet s.masters.masters new) i ++ record { master = b; lessor = Some m; lessee_id = id; lease_token = sym its_token i } ∷ [])
          ∙ sym (map-append (master_row_of tokens_now) s.masters.masters (lessee key b m id ∷ []))

      grants_now : SameRows (leased_rows w m b id token ids).grants (grants_of leased)
      grants_now =
          subst (SameRows (w.grants ++ map (model.grant b) ids))
          (ap (λ l. grants_of s ++ l) (sym (map-map grant_row_of (leases.grant b) objects)) ∙ sym (map-append grant_row_of s.leases.grants (map (leases.grant b) objects)))
          (same_append w.grants (grants_of s) (map (model.grant b) ids) (map (model.grant b) objects) (grants_are s w h) (same-map (model.grant b) ids objects same))

      -- The state with one lease more represents the rows with it.
      pub leased_represents : (part : Part) → represents_part part leased (leased_rows w m b id token ids)
      unfolding represents_part
      leased_represents Masters = masters_now
      leased_represents Grants = grants_now
      leased_represents LastLeaseToken = refl
      leased_represents part = h part
