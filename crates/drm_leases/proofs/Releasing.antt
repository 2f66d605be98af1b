-- Lessees that are released one after the other, each as its open token is taken.
use Rattle.std.proofs.Common.{◌≡◌, ℕ, ◌==◌, Bool, true, false, not, ◌&&◌, ◌||◌, List, filter, Option, None, Some, refl, sym, ap, ◌∙◌, eq-eqb}
use Rattle.std.proofs.Math.Bool.{and-true, and-false, or-true}
use Rattle.drm_masters.proofs.MasterChains.{same_bool}
use Rattle.std.specs.Option.{is_some, option_map_or}
use Rattle.std.proofs.lemmas.Bool.{eqb-true, false≢true, and_parts, and_from, not-true}
use Rattle.drm_index_array.specs.Chains.{is_under}
use Rattle.drm_index_array.proofs.Each.{any_filter}
use Rattle.drm_index_array.proofs.Chains.{itself}
use Rattle.drm_index_array.proofs.Lists.{all_each, all_weaker, filter_all, filter-both, filter-same, filter_true, none_filtered, some_passing}
use Rattle.drm_index_array.proofs.Rising.{found, each_is_there}
use Rattle.drm_masters.specs.declared.rows.Master.{Master}
use Rattle.drm_masters.specs.Masters.{MasterSet, AreMasters, is_step_number, master_at, lessor_of, is_below, is_held, swept}
use Rattle.drm_masters.specs.Calls.{released, with_kept}
use Rattle.drm_masters.proofs.Released.{none_released, released_next, spared_here, spared_under}
use Rattle.drm_leases.specs.Tokens.{LeaseToken}
use Rattle.drm_leases.specs.Leases.{is_token_of, has_token}
use Rattle.drm_leases.specs.Agreed.{AreHeld}
use Rattle.drm_leases.specs.Calls.{is_opened_under, is_opened_below}

-- what holds so far: some below the master are released, and have no token any more
pub record Releasing (v : MasterSet) (rows : List LeaseToken) (top : ℕ) (v2 : MasterSet) (rows2 : List LeaseToken) : Type 0 where
  pub chosen : ℕ → Bool
  pub only : (n : ℕ) → chosen n ≡ true → is_opened_below rows v.masters top n ≡ true
  pub masters_are : v2 ≡ swept (released chosen v)
  pub tokens_are : rows2 ≡ filter (λ row. not (chosen row.master)) rows

-- a lessee that exists and held
abbrev pub Holder : MasterSet → ℕ → Type 0
Holder v n =
    (x : Master) × (master_at v.masters x.step_number ≡ Some x) × (is_held v.members x ≡ true) × (x.step_number ≡ n)

module _ (v : MasterSet) (are : AreMasters v) (rows : List LeaseToken) (held : AreHeld v rows) where
  -- The lessee of each open token exists and is held.
  pub holder : (n : ℕ) → has_token rows n ≡ true → Holder v n
  holder n h =
      let w =
      some_passing (is_token_of n)
      (λ (row : LeaseToken). option_map_or (is_held v.members) (master_at v.masters row.master) false ≡ true) rows
      held h in
      by_row w.0.master (eqb-true w.0.master n w.1) (master_at v.masters w.0.master) refl w.2
    where
      by_row : (m : ℕ) → m ≡ n → (o : Option Master) → master_at v.masters m ≡ o
          → option_map_or (is_held v.members) o false ≡ true → Holder v n
      by_row m same None e k = absurd (false≢true k)
      by_row m same (Some x) e k =
          let num : x.step_number ≡ m =
          eqb-true x.step_number m
          (found (is_step_number m) (λ _. Unit {0}) x v.masters (all_each (λ _. Unit {0}) (λ _. tt) v.masters) e).0
          in
          (x, ap (master_at v.masters) num ∙ e, k, num ∙ same)

  module _ (top : ℕ) where
    -- Before the first release, nothing is released and no token is taken.
    pub none_yet : Releasing v rows top v rows
    none_yet = record {
      chosen = λ n. false;
      only = λ n h. absurd (false≢true h);
      masters_are = none_released v are;
      tokens_are =
          sym
          (filter_all (λ (row : LeaseToken). true) rows (all_each (λ (row : LeaseToken). true ≡ true) (λ row. refl) rows));
    }

    module _ (v2 : MasterSet) (rows2 : List LeaseToken) (h : Releasing v rows top v2 rows2) where
      token_before : (n : ℕ) → has_token rows2 n ≡ true → has_token rows n ≡ true
      token_before n t = by_test (has_token rows n) refl
        where
          by_test : (b : Bool) → has_token rows n ≡ b → has_token rows n ≡ true
          by_test true e = e
          by_test false e =
              absurd
              (false≢true (sym (ap (λ (l : List LeaseToken). has_token l n) h.tokens_are ∙ none_filtered (is_token_of n) (λ (row : LeaseToken). not (h.chosen row.master)) rows e) ∙ t))

      spared : (n : ℕ) → has_token rows2 n ≡ true → h.chosen n ≡ false
      spared n t =
          let w =
          some_passing (is_token_of n) (λ (row : LeaseToken). not (h.chosen row.master) ≡ true)
          (filter (λ (row : LeaseToken). not (h.chosen row.master)) rows)
          (filter_true (λ (row : LeaseToken). not (h.chosen row.master)) rows)
          (ap (λ (l : List LeaseToken). has_token l n) (sym h.tokens_are) ∙ t) in
          not-true (h.chosen n) (ap (λ k. not (h.chosen k)) (sym (eqb-true w.0.master n w.1)) ∙ w.2)

      -- A lessee that still has an open token still exists.
      pub token_there : (n : ℕ) → has_token rows2 n ≡ true → is_some (master_at v2.masters n) ≡ true
      token_there n t =
          let x = holder n (token_before n t) in
          ap (λ (w : MasterSet). is_some (master_at w.masters n)) h.masters_are
          ∙ ap (λ k. is_some (master_at (swept (released h.chosen v)).masters k)) (sym x.3)
          ∙ ap is_some
          (spared_here v are.masters_rise are.lessors_older h.chosen x.0 x.1 x.2 (ap h.chosen x.3 ∙ spared n t))

      token_below : (n : ℕ) → has_token rows2 n ≡ true → is_below v2.masters top n ≡ is_below v.masters top n
      token_below n t =
          let x = holder n (token_before n t) in
          ap (λ (w : MasterSet). is_below w.masters top n) h.masters_are
          ∙ ap (λ b. b && not (n == top))
          (ap (is_under (lessor_of (swept (released h.chosen v)).masters) top) (sym x.3) ∙ spared_under v are.masters_rise are.lessors_older h.chosen x.0 x.1 x.2 (ap h.chosen x.3 ∙ spared n t) top ∙ ap (is_under (lessor_of v.masters) top) x.3)

      -- After one more lessee below the top is released and its token taken, the same is true so far.
      pub one_released : (n : ℕ) → is_opened_below rows2 v2.masters top n ≡ true
          → (v3 : MasterSet) (rows3 : List LeaseToken) → v3 ≡ swept (with_kept n false v2)
          → rows3 ≡ filter (λ row. not (is_token_of n row)) rows2 → Releasing v rows top v3 rows3
      one_released n opened v3 rows3 e f = record {
        chosen = λ k. h.chosen k || (k == n);
        only = λ k. by_chosen k (h.chosen k) refl;
        masters_are =
            e ∙ ap (λ (w : MasterSet). swept (with_kept n false w)) h.masters_are
            ∙ released_next v are.masters_rise are.lessors_older h.chosen n;
        tokens_are =
            f ∙ ap (filter (λ row. not (is_token_of n row))) h.tokens_are
            ∙ filter-both (λ row. not (is_token_of n row)) (λ row. not (h.chosen row.master)) rows
            ∙ filter-same (λ row. not (h.chosen row.master) && not (is_token_of n row))
            (λ row. not (h.chosen row.master || (row.master == n))) rows
            (all_each (λ (row : LeaseToken). (not (h.chosen row.master) && not (is_token_of n row)) ≡ not (h.chosen row.master || (row.master == n))) (λ row. neither (h.chosen row.master) (row.master == n)) rows);
      }
        where
          neither : (a b : Bool) → (not a && not b) ≡ not (a || b)
          neither true b = refl
          neither false b = refl

          parts : (is_below v2.masters top n ≡ true) × (has_token rows2 n ≡ true)
          parts = and_parts (is_below v2.masters top n) (has_token rows2 n) opened

          by_chosen : (k : ℕ) (b : Bool) → h.chosen k ≡ b → (b || (k == n)) ≡ true
              → is_opened_below rows v.masters top k ≡ true
          by_chosen k true c t = h.only k c
          by_chosen k false c t =
              ap (is_opened_below rows v.masters top) (eqb-true k n t)
              ∙ and_from (is_below v.masters top n) (has_token rows n) (sym (token_below n parts.1) ∙ parts.0)
              (token_before n parts.1)

      -- all
      module _ (last : (n : ℕ) → is_below v2.masters top n ≡ true → has_token rows2 n ≡ false) where
        all_chosen : (n : ℕ) → h.chosen n ≡ is_opened_below rows v.masters top n
        all_chosen n =
            same_bool (h.chosen n) (is_opened_below rows v.masters top n) (h.only n)
            (λ t. by_test (h.chosen n) refl (and_parts (is_below v.masters top n) (has_token rows n) t))
          where
            by_test : (b : Bool) → h.chosen n ≡ b → (is_below v.masters top n ≡ true) × (has_token rows n ≡ true)
                → h.chosen n ≡ true
            by_test true e t = e
            by_test false e t =
                let yet : has_token rows2 n ≡ true =
                ap (λ (l : List LeaseToken). has_token l n) h.tokens_are
                ∙ any_filter (λ _. Unit {0}) (is_token_of n) (λ (row : LeaseToken). not (h.chosen row.master)) (λ row u is. ap (λ k. not (h.chosen k)) (eqb-true row.master n is) ∙ ap not e) rows (all_each (λ _. Unit {0}) (λ _. tt) rows) t.1 in
                absurd (false≢true (sym (last n (token_below n yet ∙ t.0)) ∙ yet))

        -- If no lessee below the top has an open token left, all tokens below it are taken.
        pub all_taken_below : rows2 ≡ filter (λ row. not (is_below v.masters top row.master)) rows
        all_taken_below =
            h.tokens_are
            ∙ filter-same (λ row. not (h.chosen row.master)) (λ row. not (is_below v.masters top row.master)) rows
            (all_weaker (λ (row : LeaseToken). has_token rows row.master ≡ true) (λ (row : LeaseToken). not (h.chosen row.master) ≡ not (is_below v.masters top row.master)) (λ row t. ap not (all_chosen row.master ∙ ap (λ b. is_below v.masters top row.master && b) t ∙ and-true (is_below v.masters top row.master))) rows (each_is_there (λ (row : LeaseToken). row.master) rows))

        -- If no lessee below the top has an open token left, all that had one are released.
        pub all_released_below : v2 ≡ swept (released (is_opened_below rows v.masters top) v)
        all_released_below = h.masters_are ∙ ap (λ (f : ℕ → Bool). swept (released f v)) (λ i n. all_chosen n i)

    -- the master itself too
    module _ (v2 : MasterSet) (rows2 : List LeaseToken) (e : v2 ≡ swept (released (is_opened_below rows v.masters top) v)) (f : rows2 ≡ filter (λ row. not (is_below v.masters top row.master)) rows) where
      not_below : is_below v.masters top top ≡ false
      not_below =
          ap (λ b. is_under (lessor_of v.masters) top top && not b) (eq-eqb top top refl)
          ∙ and-false (is_under (lessor_of v.masters) top top)

      its_token : has_token rows2 top ≡ has_token rows top
      its_token =
          ap (λ (l : List LeaseToken). has_token l top) f
          ∙ same_bool (has_token (filter (λ row. not (is_below v.masters top row.master)) rows) top)
          (has_token rows top) back
          (any_filter (λ _. Unit {0}) (is_token_of top) (λ (row : LeaseToken). not (is_below v.masters top row.master)) (λ row u is. ap (λ k. not (is_below v.masters top k)) (eqb-true row.master top is) ∙ ap not not_below) rows (all_each (λ _. Unit {0}) (λ _. tt) rows))
        where
          back : has_token (filter (λ row. not (is_below v.masters top row.master)) rows) top ≡ true
              → has_token rows top ≡ true
          back t = by_test (has_token rows top) refl
            where
              by_test : (b : Bool) → has_token rows top ≡ b → has_token rows top ≡ true
              by_test true k = k
              by_test false k =
                  absurd
                  (false≢true (sym (none_filtered (is_token_of top) (λ row. not (is_below v.masters top row.master)) rows k) ∙ t))

      -- If the top master itself has an open token, it still exists after the releases below it.
      pub top_there : has_token rows2 top ≡ true → is_some (master_at v2.masters top) ≡ true
      top_there t =
          let x = holder top (sym its_token ∙ t) in
          ap (λ (w : MasterSet). is_some (master_at w.masters top)) e
          ∙ ap (λ k. is_some (master_at (swept (released (is_opened_below rows v.masters top) v)).masters k)) (sym x.3)
          ∙ ap is_some
          (spared_here v are.masters_rise are.lessors_older (is_opened_below rows v.masters top) x.0 x.1 x.2 (ap (is_opened_below rows v.masters top) x.3 ∙ ap (λ b. b && has_token rows top) not_below))

      -- under is below, or the master itself
      under_or : (n : ℕ) → is_under (lessor_of v.masters) top n ≡ (is_below v.masters top n || (n == top))
      under_or n =
          elim (n == top) as (λ b. (n == top) ≡ b → is_under (lessor_of v.masters) top n ≡ ((is_under (lessor_of v.masters) top n && not b) || b)) [
            | true ↦ λ k. ap (is_under (lessor_of v.masters) top) (eqb-true n top k) ∙ itself (lessor_of v.masters) top top ∙ sym (or-true (is_under (lessor_of v.masters) top n && false))
            | false ↦ λ k. plain (is_under (lessor_of v.masters) top n)
          ] refl
        where
          plain : (b : Bool) → b ≡ ((b && true) || false)
          plain true = refl
          plain false = refl

      -- If the top master has an open token, releasing it last releases all at or below it that had one.
      pub top_released : has_token rows2 top ≡ true → (v3 : MasterSet) (rows3 : List LeaseToken)
          → v3 ≡ swept (with_kept top false v2) → rows3 ≡ filter (λ row. not (is_token_of top row)) rows2 →
          (rows3 ≡ filter (λ row. not (is_under (lessor_of v.masters) top row.master)) rows) ×
          (v3 ≡ swept (released (is_opened_under rows v.masters top) v))
      top_released t v3 rows3 g k = (
        k ∙ ap (filter (λ row. not (is_token_of top row))) f
            ∙ filter-both (λ row. not (is_token_of top row)) (λ row. not (is_below v.masters top row.master)) rows
            ∙ filter-same (λ row. not (is_below v.masters top row.master) && not (is_token_of top row))
            (λ row. not (is_under (lessor_of v.masters) top row.master)) rows
            (all_each (λ (row : LeaseToken). (not (is_below v.masters top row.master) && not (is_token_of top row)) ≡ not (is_under (lessor_of v.masters) top row.master)) (λ row. neither (is_below v.masters top row.master) (row.master == top) ∙ ap not (sym (under_or row.master))) rows),
        g ∙ ap (λ (w : MasterSet). swept (with_kept top false w)) e
            ∙ released_next v are.masters_rise are.lessors_older (is_opened_below rows v.masters top) top
            ∙ ap (λ (f : ℕ → Bool). swept (released f v)) (λ i n. each n i),
      )
        where
          neither : (a b : Bool) → (not a && not b) ≡ not (a || b)
          neither true b = refl
          neither false b = refl

          each : (n : ℕ) → (is_opened_below rows v.masters top n || (n == top)) ≡ is_opened_under rows v.masters top n
          each n = by_test (n == top) refl ∙ ap (λ b. b && has_token rows n) (sym (under_or n))
            where
              by_test : (b : Bool) → (n == top) ≡ b
                  → ((is_below v.masters top n && has_token rows n) || b) ≡ ((is_below v.masters top n || b) && has_token rows n)
              by_test true same =
                  or-true (is_below v.masters top n && has_token rows n)
                  ∙ sym
                  (ap (λ b. (is_below v.masters top n || true) && b) (ap (has_token rows) (eqb-true n top same) ∙ sym its_token ∙ t) ∙ ap (λ b. b && true) (or-true (is_below v.masters top n)))
              by_test false other = off (is_below v.masters top n) (has_token rows n)
                where
                  off : (a b : Bool) → ((a && b) || false) ≡ ((a || false) && b)
                  off true true = refl
                  off true false = refl
                  off false b = refl

      -- If the top master has no open token, all at or below it that had one are released.
      pub top_spared : has_token rows2 top ≡ false →
          (rows2 ≡ filter (λ row. not (is_under (lessor_of v.masters) top row.master)) rows) ×
          (v2 ≡ swept (released (is_opened_under rows v.masters top) v))
      top_spared t = (
        f
            ∙ filter-same (λ row. not (is_below v.masters top row.master))
            (λ row. not (is_under (lessor_of v.masters) top row.master)) rows
            (all_weaker (λ (row : LeaseToken). has_token rows row.master ≡ true) (λ (row : LeaseToken). not (is_below v.masters top row.master) ≡ not (is_under (lessor_of v.masters) top row.master)) (λ row has. ap not (other row.master has (row.master == top) refl)) rows (each_is_there (λ (row : LeaseToken). row.master) rows)),
        e ∙ ap (λ (f : ℕ → Bool). swept (released f v)) (λ i n. each n (has_token rows n) refl i),
      )
        where
          other : (n : ℕ) → has_token rows n ≡ true → (b : Bool) → (n == top) ≡ b
              → is_below v.masters top n ≡ is_under (lessor_of v.masters) top n
          other n has true same =
              absurd (false≢true (sym t ∙ its_token ∙ ap (has_token rows) (sym (eqb-true n top same)) ∙ has))
          other n has false differs =
              ap (λ b. is_under (lessor_of v.masters) top n && not b) differs
              ∙ and-true (is_under (lessor_of v.masters) top n)

          each : (n : ℕ) (b : Bool) → has_token rows n ≡ b
              → (is_below v.masters top n && b) ≡ (is_under (lessor_of v.masters) top n && b)
          each n true has = ap (λ b. b && true) (other n has (n == top) refl)
          each n false has =
              and-false (is_below v.masters top n) ∙ sym (and-false (is_under (lessor_of v.masters) top n))
