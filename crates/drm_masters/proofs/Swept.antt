-- What a sweep leaves.
use Rattle.std.proofs.Common.{◌≡◌, ℕ, ◌==◌, true, false, cond, List, filter, Option, None, Some, refl, ap, subst, ◌∙◌}
use Rattle.std.specs.List.{list_any, AllByRecursion}
use Rattle.std.specs.Option.{is_some, option_and_then}
use Rattle.std.proofs.lemmas.Bool.{eqb-true, or_right}
use Rattle.drm_index_array.specs.Numbers.{is_among}
use Rattle.drm_index_array.specs.Chains.{is_under}
use Rattle.drm_index_array.proofs.Lists.{all_weaker, all_each, all_both, all_filter, filter_true}
use Rattle.drm_index_array.proofs.Chains.{itself, same_chain}
use Rattle.drm_index_array.proofs.Rising.{found, all_found, find_where}
use Rattle.drm_masters.specs.declared.rows.Member.{Member}
use Rattle.drm_masters.specs.declared.rows.Master.{Master}
use Rattle.drm_masters.specs.Masters.{is_step_number, master_at, lessor_of, is_held, is_living, HasOlderLessor}
use Rattle.drm_masters.proofs.MasterChains.{Rise, Older, living_by, held_below, lessor_lives}

module _ (members : List Member) (ms : List Master) (rise : Rise ms) (older : Older ms) where
  abbrev left : List Master
  left = filter (λ (x : Master). is_living members ms x.step_number) ms

  -- A living master is found after the sweep as before.
  pub at_is : (n : ℕ) → is_living members ms n ≡ true → master_at left n ≡ master_at ms n
  at_is n h =
      find_where (λ (x : Master). x.step_number) (is_living members ms) n ms ∙ ap (λ b. cond b (master_at ms n) None) h

  lessors_are : (n : ℕ) → is_living members ms n ≡ true → lessor_of left n ≡ lessor_of ms n
  lessors_are n h = ap (option_and_then (λ (x : Master). x.lessor)) (at_is n h)

  -- A master without a lessor has none after the sweep.
  pub none_left : (n : ℕ) → lessor_of ms n ≡ None → lessor_of left n ≡ None
  none_left n h =
      ap (option_and_then (λ (x : Master). x.lessor))
      (find_where (λ (x : Master). x.step_number) (is_living members ms) n ms)
      ∙ elim (is_living members ms n) as (λ b. option_and_then (λ (x : Master). x.lessor) (cond b (master_at ms n) None) ≡ None) [ true ↦ h | false ↦ refl ]

  -- A sweep keeps the chain of lessors of each living master.
  pub under_is : (b n : ℕ) → is_living members ms n ≡ true → is_under (lessor_of left) b n ≡ is_under (lessor_of ms) b n
  under_is b n h =
      ap (λ l. is_among l b)
      (same_chain (λ k. is_living members ms k ≡ true) (lessor_of ms) (lessor_of left) lessors_are (λ k l p e. lessor_lives ms members rise older k l p e) n n h)

  abbrev WithLessor : Master → Type 0
  WithLessor x = HasOlderLessor ms x × (master_at ms x.step_number ≡ Some x)

  with_lessors : AllByRecursion WithLessor ms
  with_lessors =
      all_both (HasOlderLessor ms) (λ (x : Master). master_at ms x.step_number ≡ Some x) WithLessor (λ x h e. (h, e)) ms
      older (all_found (λ (x : Master). x.step_number) ms rise)

  -- After a sweep each lessor still exists and is older.
  pub swept_older : Older left
  swept_older =
      all_both WithLessor (λ (x : Master). is_living members ms x.step_number ≡ true) (HasOlderLessor left) (λ x h lives l e.
      let k = h.0 l e in
      (ap is_some (at_is l (lessor_lives ms members rise older x.step_number l lives (ap (option_and_then (λ (z : Master). z.lessor)) h.1 ∙ e))) ∙ k.0, k.1)) left (all_filter WithLessor (λ (x : Master). is_living members ms x.step_number) ms with_lessors)
      (filter_true (λ (x : Master). is_living members ms x.step_number) ms)

  -- A master that a client names lives.
  pub named_lives : (y : Member) → is_some (master_at ms y.master) ≡ true
      → list_any (λ (z : Member). z.master == y.master) members ≡ true → is_living members ms y.master ≡ true
  named_lives y there named = lives (master_at ms y.master) refl there
    where
      lives : (o : Option Master) → master_at ms y.master ≡ o → is_some o ≡ true → is_living members ms y.master ≡ true
      lives None e h = absurd (let n : false ≡ true = h in cc)
      lives (Some x) e h =
          let num : x.step_number ≡ y.master =
          eqb-true x.step_number y.master
          (found (is_step_number y.master) (λ _. Unit {0}) x ms (all_each (λ _. Unit {0}) (λ _. tt) ms) e).0 in
          let here : master_at ms x.step_number ≡ Some x = ap (master_at ms) num ∙ e in
          let held : is_held members x ≡ true =
          or_right x.kept (list_any (λ (z : Member). z.master == x.step_number) members)
          (ap (λ n. list_any (λ (z : Member). z.master == n) members) num ∙ named) in
          subst (λ n. is_living members ms n ≡ true) num
          (living_by ms members x.step_number x here held (itself (lessor_of ms) x.step_number x.step_number))

  -- A sweep removes no master that a client names.
  pub named_there : (y : Member) → is_some (master_at ms y.master) ≡ true
      → list_any (λ (z : Member). z.master == y.master) members ≡ true → is_some (master_at left y.master) ≡ true
  named_there y there named = ap is_some (at_is y.master (named_lives y there named)) ∙ there

  -- After a sweep every master that is left lives.
  pub swept_used : AllByRecursion (λ (x : Master). is_living members left x.step_number ≡ true) left
  swept_used =
      all_weaker (λ (x : Master). is_living members ms x.step_number ≡ true)
      (λ (x : Master). is_living members left x.step_number ≡ true) (λ x e. stays x.step_number e) left
      (filter_true (λ (x : Master). is_living members ms x.step_number) ms)
    where
      stays : (b : ℕ) → is_living members ms b ≡ true → is_living members left b ≡ true
      stays b h =
          let w = held_below ms members rise b h in
          let lives : is_living members ms w.0.step_number ≡ true =
          living_by ms members w.0.step_number w.0 w.1 w.2 (itself (lessor_of ms) w.0.step_number w.0.step_number)
          in
          living_by left members b w.0 (at_is w.0.step_number lives ∙ w.1) w.2 (under_is b w.0.step_number lives ∙ w.3)
