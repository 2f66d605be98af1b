-- Making a lessee and then releasing it leaves the masters unchanged.
use Rattle.std.proofs.Common.{◌≡◌, ℕ, ◌<◌, ◌==◌, true, false, cond, not, ◌||◌, List, [], ◌∷◌, ◌++◌, map, filter, find, Option, None, Some, refl, sym, ap, subst, ◌∙◌, eq-eqb}
use Rattle.std.specs.List.{list_any, AllByRecursion}
use Rattle.std.specs.Option.{is_some, option_map_or}
use Rattle.std.proofs.lemmas.List.{map-append}
use Rattle.drm_index_array.specs.Rows.{placed}
use Rattle.drm_index_array.proofs.Each.{none_passes}
use Rattle.drm_index_array.proofs.Lists.{all_weaker, all_filter}
use Rattle.drm_index_array.proofs.FoundInLists.{none_found}
use Rattle.drm_index_array.proofs.Placed.{any_placed, find_placed}
use Rattle.drm_masters.specs.declared.rows.Member.{Member}
use Rattle.drm_masters.specs.declared.rows.Master.{Master}
use Rattle.drm_masters.specs.Masters.{MasterSet, AreMasters, HasOlderLessor, is_option, is_key, is_there, is_step_number, step_number_at, master_at, master_before, is_used, is_living, swept}
use Rattle.drm_masters.specs.Calls.{lessee, kept_as, with_master, with_kept}
use Rattle.drm_masters.proofs.MasterChains.{IsFresh, others_apart}
use Rattle.drm_masters.proofs.Pushed.{kept_at, there_apart, new_at, pushed_rise, pushed_older, taken_back}
use Rattle.drm_masters.proofs.Upward.{all_stay, all_living_used, same_left}

module _ (v : MasterSet) (are : AreMasters v) (key step_number m id : ℕ) (unused : is_some (master_at v.masters step_number) ≡ false) (there : is_some (master_at v.masters m) ≡ true) (later : m < step_number) where
  abbrev ms : List Master
  ms = v.masters

  abbrev kept : Master
  kept = lessee key step_number m id

  abbrev left : Master
  left = kept_as false kept

  abbrev more : List Master
  more = placed master_before left ms

  fresh : IsFresh ms step_number
  fresh = (are.masters_rise, unused)

  others_stay : AllByRecursion (λ (x : Master). kept_at step_number false x ≡ x) ms
  others_stay =
      all_weaker (λ (x : Master). is_step_number step_number x ≡ false)
      (λ (x : Master). kept_at step_number false x ≡ x) (λ x e. ap (λ b. cond b (kept_as false x) x) e) ms
      (others_apart ms step_number fresh)

  all_same : (xs : List Master) → AllByRecursion (λ (x : Master). kept_at step_number false x ≡ x) xs
      → map (kept_at step_number false) xs ≡ xs
  all_same [] h = refl
  all_same (x ∷ xs) h = λ i. h.0 i ∷ all_same xs h.1 i

  it_left : kept_at step_number false kept ≡ left
  it_left = ap (λ b. cond b left kept) (eq-eqb step_number step_number refl)

  released : map (kept_at step_number false) (placed master_before kept ms) ≡ more
  released =
      let fore = filter (λ (x : Master). master_before x kept) ms in
      let behind = filter (λ (x : Master). not (master_before x kept)) ms in
      map-append (kept_at step_number false) fore (kept ∷ behind)
      ∙ (λ i. all_same fore (all_filter (λ (x : Master). kept_at step_number false x ≡ x) (λ (x : Master). master_before x kept) ms others_stay) i
      ++ it_left i ∷ all_same behind (all_filter (λ (x : Master). kept_at step_number false x ≡ x) (λ (x : Master). not (master_before x kept)) ms others_stay) i)

  -- no client is of it
  not_named : list_any (λ (y : Member). y.master == step_number) v.members ≡ false
  not_named =
      none_passes (λ (y : Member). y.master == step_number) v.members
      (all_weaker (λ (y : Member). is_some (master_at ms y.master) ≡ true) (λ (y : Member). (y.master == step_number) ≡ false) (λ y e. there_apart ms left fresh y.master e) v.members are.masters_there)

  -- nor is it a lessor
  no_lessor : (o : Option ℕ) → ((l : ℕ) → o ≡ Some l → is_some (master_at ms l) ≡ true)
      → is_option step_number o ≡ false
  no_lessor None h = refl
  no_lessor (Some l) h = there_apart ms left fresh l (h l refl)

  not_used : is_used v.members more left ≡ false
  not_used =
      (λ i. not_named i || list_any (λ (y : Master). is_option step_number y.lessor) more)
      ∙ any_placed (λ (y : Master). is_option step_number y.lessor) (λ (x : Master). master_before x left) left ms
      ∙ (λ i. no_lessor (Some m) (λ l e. subst (λ n. is_some (master_at ms n) ≡ true) (let s : Some m ≡ Some l = e in cc) there) i
      || none_passes (λ (y : Master). is_option step_number y.lessor) ms (all_weaker (HasOlderLessor ms) (λ (y : Master). is_option step_number y.lessor ≡ false) (λ y h. no_lessor y.lessor (λ l e. (h l e).0)) ms are.lessors_older) i)

  unmade : swept (with_kept step_number false (with_master kept v)) ≡ v
  unmade =
      let rise = pushed_rise ms left fresh in
      let older =
      pushed_older ms left fresh
      (λ l e. subst (λ n. (is_some (master_at ms n) ≡ true) × (n < step_number)) (let s : Some m ≡ Some l = e in cc) (there, later))
      are.lessors_older in
      let sweep : List Master → List Master = λ xs. filter (λ (x : Master). is_living v.members xs x.step_number) xs in
      let all : sweep more ≡ ms =
      sym (same_left v.members more rise older left (new_at ms left fresh) not_used)
      ∙ ap sweep (taken_back ms left fresh)
      ∙ sym
      (all_stay v.members ms are.masters_rise are.lessors_older (all_living_used v.members ms are.masters_rise are.lessors_older are.used))
      in
      λ i. record v { masters = (ap sweep released ∙ all) i }

  -- by the key that it got
  module _ (free : find (is_key key) ms ≡ None) where
    it_found : find (is_key key) (placed master_before kept ms) ≡ Some kept
    it_found =
        find_placed (is_key key) (λ (x : Master). master_before x kept) kept ms (eq-eqb key key refl)
        (none_found (is_key key) ms free)

    -- The key of a new lessee is in use.
    pub made_there : is_there (with_master kept v).masters key ≡ true
    made_there = ap is_some it_found

    -- A new lessee released by its key leaves the masters unchanged.
    pub unmade_by_key : swept (with_kept (step_number_at (with_master kept v).masters key) false (with_master kept v)) ≡ v
    unmade_by_key =
        ap
        (λ (o : Option Master). swept (with_kept (option_map_or (λ (x : Master). x.step_number) o 0) false (with_master kept v)))
        it_found
        ∙ unmade
