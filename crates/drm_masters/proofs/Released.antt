-- Masters that are kept no more, one after the other, with a sweep after each.
use Rattle.std.proofs.Common.{◌≡◌, ℕ, ◌<◌, ◌==◌, Bool, true, false, ◌&&◌, ◌||◌, cond, List, [], ◌∷◌, map, filter, Option, None, Some, option_map, refl, sym, ap, subst, ◌∙◌}
use Rattle.std.specs.Prelude.{if◌then◌else◌}
use Rattle.std.specs.List.{list_any}
use Rattle.std.proofs.lemmas.Bool.{and_parts, and_from, or_right}
use Rattle.drm_index_array.specs.Chains.{is_under}
use Rattle.drm_index_array.proofs.Chains.{itself}
use Rattle.drm_index_array.proofs.Lists.{map-map, filter-map, filter-both, filter-same, all_each, filter_all}
use Rattle.drm_index_array.proofs.Orders.{in_order_filter}
use Rattle.drm_index_array.proofs.Rising.{find_where}
use Rattle.drm_masters.specs.declared.rows.Member.{Member}
use Rattle.drm_masters.specs.declared.rows.Master.{Master}
use Rattle.drm_masters.specs.Masters.{MasterSet, AreMasters, is_step_number, master_at, lessor_of, is_held, is_living, swept}
use Rattle.drm_masters.specs.Calls.{kept_as, with_kept, released}
use Rattle.drm_masters.proofs.MasterChains.{Rise, Older, living_by, held_below, same_bool}
use Rattle.drm_masters.proofs.Pushed.{kept_at, step_number_stays, lessor_stays, over_at, over_lessors, over_rise, over_older}
use Rattle.drm_masters.proofs.Swept.{at_is, under_is}

-- a chosen master is kept no more
abbrev pub marked : (ℕ → Bool) → Master → Master
marked chosen x = if chosen x.step_number then kept_as false x else x

-- A release keeps a master's step number.
pub marked_step_number : (chosen : ℕ → Bool) (x : Master) → (marked chosen x).step_number ≡ x.step_number
marked_step_number chosen x = elim (chosen x.step_number) as (λ b. (if b then kept_as false x else x).step_number ≡ x.step_number) [ true ↦ refl | false ↦ refl ]

-- A release keeps a master's lessor.
pub marked_lessor : (chosen : ℕ → Bool) (x : Master) → (marked chosen x).lessor ≡ x.lessor
marked_lessor chosen x = elim (chosen x.step_number) as (λ b. (if b then kept_as false x else x).lessor ≡ x.lessor) [ true ↦ refl | false ↦ refl ]

-- A release keeps a master's key.
pub marked_key : (chosen : ℕ → Bool) (x : Master) → (marked chosen x).key ≡ x.key
marked_key chosen x = elim (chosen x.step_number) as (λ b. (if b then kept_as false x else x).key ≡ x.key) [ true ↦ refl | false ↦ refl ]

map_each : {X : Type 0} (f g : X → X) → ((x : X) → f x ≡ g x) → (xs : List X) → map f xs ≡ map g xs
map_each f g same [] = refl
map_each f g same (x ∷ xs) = λ i. same x i ∷ map_each f g same xs i

-- A release of no master leaves everything unchanged.
pub none_released : (v : MasterSet) → AreMasters v → v ≡ swept (released (λ n. false) v)
none_released v are =
    λ i. record v
    { masters = (sym (filter_all (λ (x : Master). is_living v.members v.masters x.step_number) v.masters are.used) ∙ ap (λ (ms : List Master). filter (λ (x : Master). is_living v.members ms x.step_number) ms) (unmarked v.masters)) i }
  where
    unmarked : (ms : List Master) → ms ≡ map (marked (λ n. false)) ms
    unmarked [] = refl
    unmarked (x ∷ ms) = λ i. x ∷ unmarked ms i

-- what a sweep takes, the sweep after the next release takes too
module _ (members : List Member) (ms : List Master) (rise : Rise ms) (older : Older ms) (n : ℕ) where
  abbrev lives : ℕ → Bool
  lives = is_living members ms

  abbrev left : List Master
  left = filter (λ (x : Master). lives x.step_number) ms

  abbrev now : List Master
  now = map (kept_at n false) ms

  -- of those that are left, one is kept no more
  abbrev left_now : List Master
  left_now = map (kept_at n false) left

  same_left : left_now ≡ filter (λ (x : Master). lives x.step_number) now
  same_left =
      sym
      (filter-map (λ (x : Master). lives x.step_number) (kept_at n false) ms ∙ ap (map (kept_at n false)) (filter-same (λ x. lives (kept_at n false x).step_number) (λ (x : Master). lives x.step_number) ms (all_each (λ x. lives (kept_at n false x).step_number ≡ lives x.step_number) (λ x. ap lives (step_number_stays n false x)) ms)))

  now_rise : Rise now
  now_rise = over_rise (kept_at n false) (step_number_stays n false) (lessor_stays n false) ms rise

  now_lessors : (k : ℕ) → lessor_of now k ≡ lessor_of ms k
  now_lessors = over_lessors (kept_at n false) (step_number_stays n false) (lessor_stays n false) ms

  now_under : (b k : ℕ) → is_under (lessor_of now) b k ≡ is_under (lessor_of ms) b k
  now_under b k = ap (λ (above : ℕ → Option ℕ). is_under above b k) (λ i j. now_lessors j i)

  left_under : (b k : ℕ) → lives k ≡ true → is_under (lessor_of left_now) b k ≡ is_under (lessor_of ms) b k
  left_under b k h =
      ap (λ (above : ℕ → Option ℕ). is_under above b k)
      (λ i j. over_lessors (kept_at n false) (step_number_stays n false) (lessor_stays n false) left j i)
      ∙ under_is members ms rise older b k h

  left_at : (k : ℕ) → master_at left_now k ≡ cond (lives k) (master_at now k) None
  left_at k = ap (λ (l : List Master). master_at l k) same_left ∙ find_where (λ (x : Master). x.step_number) lives k now

  left_rise : Rise left_now
  left_rise =
      subst Rise (sym same_left)
      (in_order_filter (λ (x y : Master). x.step_number < y.step_number) (λ (x : Master). lives x.step_number) now now_rise)

  -- who is held yet was held
  held_before : (z : Master) → master_at now z.step_number ≡ Some z → is_held members z ≡ true
      → (x : Master) × (master_at ms x.step_number ≡ Some x) × (is_held members x ≡ true) × (x.step_number ≡ z.step_number)
  held_before z here held =
      by_row (master_at ms z.step_number) refl
      (sym (over_at (kept_at n false) (step_number_stays n false) (lessor_stays n false) ms z.step_number) ∙ here)
    where
      held_too : (x : Master) → is_held members (kept_at n false x) ≡ true → is_held members x ≡ true
      held_too x =
          elim (x.step_number == n) as (λ b. is_held members (if b then kept_as false x else x) ≡ true → is_held members x ≡ true) [
            | true ↦ or_right x.kept (list_any (λ (y : Member). y.master == x.step_number) members)
            | false ↦ λ k. k
          ]

      by_row : (o : Option Master) → master_at ms z.step_number ≡ o → option_map (kept_at n false) o ≡ Some z
          → (x : Master) × (master_at ms x.step_number ≡ Some x) × (is_held members x ≡ true) × (x.step_number ≡ z.step_number)
      by_row None e h = absurd (let none : None ≡ Some z = h in cc)
      by_row (Some x) e h =
          let is : kept_at n false x ≡ z = (let s : Some (kept_at n false x) ≡ Some z = h in cc) in
          let same : x.step_number ≡ z.step_number =
          sym (step_number_stays n false x) ∙ ap (λ (y : Master). y.step_number) is in
          (x, ap (master_at ms) same ∙ e, held_too x (ap (is_held members) is ∙ held), same)

  same_living : (b : ℕ) → (lives b && is_living members left_now b) ≡ is_living members now b
  same_living b = same_bool (lives b && is_living members left_now b) (is_living members now b) forth back
    where
      at_now : (k : ℕ) (z : Master) (t : Bool) → lives k ≡ t → cond t (master_at now k) None ≡ Some z
          → (lives k ≡ true) × (master_at now k ≡ Some z)
      at_now k z true e h = (e, h)
      at_now k z false e h = absurd (let none : None ≡ Some z = h in cc)

      forth : (lives b && is_living members left_now b) ≡ true → is_living members now b ≡ true
      forth h =
          let w = held_below left_now members left_rise b (and_parts (lives b) (is_living members left_now b) h).1 in
          let k = w.0.step_number in
          let there = at_now k w.0 (lives k) refl (sym (left_at k) ∙ w.1) in
          living_by now members b w.0 there.1 w.2 (now_under b k ∙ sym (left_under b k there.0) ∙ w.3)

      back : is_living members now b ≡ true → (lives b && is_living members left_now b) ≡ true
      back h =
          let w = held_below now members now_rise b h in
          let k = w.0.step_number in
          let x = held_before w.0 w.1 w.2 in
          let under : is_under (lessor_of ms) b k ≡ true = sym (now_under b k) ∙ w.3 in
          let lives_k : lives k ≡ true =
          living_by ms members k x.0 x.1 x.2 (ap (is_under (lessor_of ms) k) x.3 ∙ itself (lessor_of ms) k k) in
          let here : master_at left_now k ≡ Some w.0 =
          left_at k ∙ ap (λ t. cond t (master_at now k) None) lives_k ∙ w.1 in
          and_from (lives b) (is_living members left_now b)
          (living_by ms members b x.0 x.1 x.2 (ap (is_under (lessor_of ms) b) x.3 ∙ under))
          (living_by left_now members b w.0 here w.2 (left_under b k lives_k ∙ under))

  -- A sweep, a release and a sweep leave the same masters as the release and one sweep.
  pub sweep_again : filter (λ (x : Master). is_living members left_now x.step_number) left_now ≡ filter (λ (x : Master). is_living members now x.step_number) now
  sweep_again =
      ap (filter (λ (x : Master). is_living members left_now x.step_number)) same_left
      ∙ filter-both (λ (x : Master). is_living members left_now x.step_number) (λ (x : Master). lives x.step_number) now
      ∙ filter-same (λ (x : Master). lives x.step_number && is_living members left_now x.step_number)
      (λ (x : Master). is_living members now x.step_number) now
      (all_each (λ (x : Master). (lives x.step_number && is_living members left_now x.step_number) ≡ is_living members now x.step_number) (λ x. same_living x.step_number) now)

-- one more is released, and what nothing holds is swept again
module _ (v : MasterSet) (rise : Rise v.masters) (older : Older v.masters) (chosen : ℕ → Bool) where
  abbrev marks : List Master
  marks = map (marked chosen) v.masters

  marks_rise : Rise marks
  marks_rise = over_rise (marked chosen) (marked_step_number chosen) (marked_lessor chosen) v.masters rise

  marks_older : Older marks
  marks_older = over_older (marked chosen) (marked_step_number chosen) (marked_lessor chosen) v.masters older

  -- Releasing one more master after a sweep is the same as releasing all of them and sweeping once.
  pub released_next : (n : ℕ)
      → swept (with_kept n false (swept (released chosen v))) ≡ swept (released (λ k. chosen k || (k == n)) v)
  released_next n =
      λ i. record v
      { masters = (sweep_again v.members marks marks_rise marks_older n ∙ ap (λ (ms : List Master). filter (λ (x : Master). is_living v.members ms x.step_number) ms) both) i }
    where
      both : map (kept_at n false) marks ≡ map (marked (λ k. chosen k || (k == n))) v.masters
      both =
          map-map (kept_at n false) (marked chosen) v.masters
          ∙ map_each (λ x. kept_at n false (marked chosen x)) (marked (λ k. chosen k || (k == n))) each v.masters
        where
          each : (x : Master) → kept_at n false (marked chosen x) ≡ marked (λ k. chosen k || (k == n)) x
          each x =
              elim (chosen x.step_number) as (λ b. (if is_step_number n (if b then kept_as false x else x) then kept_as false (if b then kept_as false x else x) else (if b then kept_as false x else x)) ≡ (if (b || (x.step_number == n)) then kept_as false x else x)) [
                | true ↦ elim (x.step_number == n) as (λ b. (if b then kept_as false (kept_as false x) else kept_as false x) ≡ kept_as false x) [ true ↦ refl | false ↦ refl ]
                | false ↦ refl
              ]

  -- a master that is held and not chosen is unchanged, and so is what is above it
  module _ (x : Master) (here : master_at v.masters x.step_number ≡ Some x) (held : is_held v.members x ≡ true) (spared : chosen x.step_number ≡ false) where
    marked_here : master_at marks x.step_number ≡ Some x
    marked_here =
        over_at (marked chosen) (marked_step_number chosen) (marked_lessor chosen) v.masters x.step_number
        ∙ ap (option_map (marked chosen)) here ∙ ap (λ b. Some (if b then kept_as false x else x)) spared

    lives_yet : is_living v.members marks x.step_number ≡ true
    lives_yet =
        living_by marks v.members x.step_number x marked_here held
        (itself (lessor_of marks) x.step_number x.step_number)

    -- A held master that is not released is still there after the sweep.
    pub spared_here : master_at (swept (released chosen v)).masters x.step_number ≡ Some x
    spared_here = at_is v.members marks marks_rise marks_older x.step_number lives_yet ∙ marked_here

    -- The chain of lessors of a held master that is not released stays the same.
    pub spared_under : (top : ℕ)
        → is_under (lessor_of (swept (released chosen v)).masters) top x.step_number ≡ is_under (lessor_of v.masters) top x.step_number
    spared_under top =
        under_is v.members marks marks_rise marks_older top x.step_number lives_yet
        ∙ ap (λ (above : ℕ → Option ℕ). is_under above top x.step_number)
        (λ i k. over_lessors (marked chosen) (marked_step_number chosen) (marked_lessor chosen) v.masters k i)
