-- A sweep from the one master that may be unused up to the last lessor that becomes unused.
use Rattle.std.proofs.Common.{◌≡◌, ℕ, zero, suc, ◌+◌, ◌<◌, ◌≤◌, ◌==◌, Bool, true, false, not, cond, ◌&&◌, ◌||◌, List, [], ◌∷◌, filter, Option, None, Some, refl, sym, ap, ◌∙◌, arith}
use Rattle.std.specs.List.{list_any, AllByRecursion}
use Rattle.std.specs.Option.{is_some, option_and_then}
use Rattle.std.proofs.lemmas.Bool.{eqb-true, false≢true, and_parts, and_right, or_parts, not-true}
use Rattle.drm_index_array.specs.Numbers.{is_among}
use Rattle.drm_index_array.specs.Chains.{is_under}
use Rattle.drm_index_array.proofs.Lists.{all_each, all_weaker, all_both, all_filter, filter_all, filter-same, filter-both, filter_true, some_passing}
use Rattle.drm_index_array.proofs.Each.{each_fails, none_passes}
use Rattle.drm_index_array.proofs.Numbers.{flipped}
use Rattle.drm_index_array.proofs.Orders.{in_order_filter}
use Rattle.drm_index_array.proofs.Chains.{itself, same_chain}
use Rattle.drm_index_array.proofs.Rising.{found, any_more, all_found, find_where}
use Rattle.drm_masters.specs.declared.rows.Member.{Member}
use Rattle.drm_masters.specs.declared.rows.Master.{Master}
use Rattle.drm_masters.specs.Masters.{is_step_number, is_option, master_at, lessor_of, is_held, is_used, is_living, HasOlderLessor}
use Rattle.drm_masters.proofs.MasterChains.{Rise, Older, living_by, lessor_lives, living_is, is_this}

-- all but those of a step number are used
abbrev pub OthersUsed : List Member → List Master → ℕ → Type 0
OthersUsed members ms step_number =
    AllByRecursion (λ (x : Master). (x.step_number == step_number) ≡ false → is_used members ms x ≡ true) ms

-- no step number is more
bounded : (xs : List Master) → (last : ℕ) × AllByRecursion (λ (x : Master). x.step_number ≤ last) xs
bounded [] = (0, tt)
bounded (x ∷ xs) =
    let w = bounded xs in
    (x.step_number + w.0, (omega arith, all_weaker (λ (y : Master). y.step_number ≤ w.0) (λ (y : Master). y.step_number ≤ x.step_number + w.0) (λ y le. omega (arith, le)) xs w.1))

module _ (members : List Member) (ms : List Master) (rise : Rise ms) (older : Older ms) where
  -- what is so of each where each is used
  record Needed (last : ℕ) (x : Master) : Type 0 where
    at : master_at ms x.step_number ≡ Some x
    used : is_used members ms x ≡ true
    low : x.step_number ≤ last
    lessor : HasOlderLessor ms x

  -- from the youngest up
  lives : (last : ℕ) → AllByRecursion (Needed last) ms → (n : ℕ) (x : Master) → Needed last x → last < x.step_number + n
      → is_living members ms x.step_number ≡ true
  lives last needed zero x t lt = let le = t.low in absurd (omega (arith, lt, le))
  lives last needed (suc n) x t lt = by_held (λ y u. lives last needed n y u) (is_held members x) refl t.used
    where
      by_held : ((y : Master) → Needed last y → last < y.step_number + n → is_living members ms y.step_number ≡ true)
          → (b : Bool) → is_held members x ≡ b
          → (b || list_any (λ (y : Master). is_option x.step_number y.lessor) ms) ≡ true
          → is_living members ms x.step_number ≡ true
      by_held later true held h =
          living_by ms members x.step_number x t.at held (itself (lessor_of ms) x.step_number x.step_number)
      by_held later false held h =
          let w = some_passing (λ (y : Master). is_option x.step_number y.lessor) (Needed last) ms needed h in
          let up = is_this x.step_number w.0.lessor w.1 in
          let younger = (w.2.lessor x.step_number up).1 in
          lessor_lives ms members rise older w.0.step_number x.step_number (later w.0 w.2 (omega (arith, lt, younger)))
          (ap (option_and_then (λ (z : Master). z.lessor)) w.2.at ∙ up)

  -- If each master is used, a sweep removes none.
  pub all_stay : AllByRecursion (λ (x : Master). is_used members ms x ≡ true) ms
      → ms ≡ filter (λ (x : Master). is_living members ms x.step_number) ms
  all_stay used =
      let last = bounded ms in
      let here = all_found (λ (x : Master). x.step_number) ms rise in
      let both =
      all_both (λ (x : Master). is_used members ms x ≡ true) (HasOlderLessor ms)
      (λ (x : Master). (is_used members ms x ≡ true) × HasOlderLessor ms x) (λ x u h. (u, h)) ms used older in
      let low =
      all_both (λ (x : Master). master_at ms x.step_number ≡ Some x) (λ (x : Master). x.step_number ≤ last.0)
      (λ (x : Master). (master_at ms x.step_number ≡ Some x) × (x.step_number ≤ last.0)) (λ x a le. (a, le)) ms here
      last.1 in
      let needed =
      all_both (λ (x : Master). (is_used members ms x ≡ true) × HasOlderLessor ms x)
      (λ (x : Master). (master_at ms x.step_number ≡ Some x) × (x.step_number ≤ last.0)) (Needed last.0)
      (λ x u a. record { at = a.0; used = u.0; low = a.1; lessor = u.1 }) ms both low in
      sym
      (filter_all (λ (x : Master). is_living members ms x.step_number) ms (all_weaker (Needed last.0) (λ (x : Master). is_living members ms x.step_number ≡ true) (λ x t. lives last.0 needed (last.0 + 1) x t (omega arith)) ms needed))

  -- a master that is not used is removed, and nothing else changes
  module _ (x : Master) (here : master_at ms x.step_number ≡ Some x) (unused : is_used members ms x ≡ false) where
    not_held : is_held members x ≡ false
    not_held = (or_parts (is_held members x) (list_any (λ (z : Master). is_option x.step_number z.lessor) ms) unused).0

    no_lessee : AllByRecursion (λ (z : Master). is_option x.step_number z.lessor ≡ false) ms
    no_lessee =
        each_fails (λ (z : Master). is_option x.step_number z.lessor) ms
        (or_parts (is_held members x) (list_any (λ (z : Master). is_option x.step_number z.lessor) ms) unused).1

    abbrev pub gone : List Master
    gone = filter (λ (z : Master). not (is_step_number x.step_number z)) ms

    -- it is no client's lessor
    apart : (n l : ℕ) → lessor_of ms n ≡ Some l → (l == x.step_number) ≡ false
    apart n l e = by_row (master_at ms n) refl e
      where
        by_row : (o : Option Master) → master_at ms n ≡ o → option_and_then (λ (z : Master). z.lessor) o ≡ Some l
            → (l == x.step_number) ≡ false
        by_row None at k = absurd (false≢true (ap is_some k))
        by_row (Some z) at k =
            sym (ap (is_option x.step_number) k)
            ∙ (found (is_step_number n) (λ (y : Master). is_option x.step_number y.lessor ≡ false) z ms no_lessee at).1

    at_is : (n : ℕ) → (n == x.step_number) ≡ false → master_at gone n ≡ master_at ms n
    at_is n differs =
        find_where (λ (z : Master). z.step_number) (λ k. not (k == x.step_number)) n ms
        ∙ ap (λ b. cond (not b) (master_at ms n) None) differs

    lessors_are : (n : ℕ) → (n == x.step_number) ≡ false → lessor_of gone n ≡ lessor_of ms n
    lessors_are n differs = ap (option_and_then (λ (z : Master). z.lessor)) (at_is n differs)

    under_is : (b n : ℕ) → (n == x.step_number) ≡ false → is_under (lessor_of gone) b n ≡ is_under (lessor_of ms) b n
    under_is b n differs =
        ap (λ l. is_among l b)
        (same_chain (λ k. (k == x.step_number) ≡ false) (lessor_of ms) (lessor_of gone) lessors_are (λ k l p e. apart k l e) n n differs)

    -- The other masters are in the order of step numbers.
    pub gone_rise : Rise gone
    gone_rise =
        in_order_filter (λ (a b : Master). a.step_number < b.step_number)
        (λ (z : Master). not (is_step_number x.step_number z)) ms rise

    -- The lessors of the other masters exist and are older.
    pub gone_older : Older gone
    gone_older =
        all_filter (HasOlderLessor gone) (λ (z : Master). not (is_step_number x.step_number z)) ms
        (all_both (HasOlderLessor ms) (λ (z : Master). is_option x.step_number z.lessor ≡ false) (HasOlderLessor gone) (λ z h free l e.
        let k = h l e in
        (ap is_some (at_is l (sym (ap (is_option x.step_number) e) ∙ free)) ∙ k.0, k.1)) ms older no_lessee)

    -- each row with what is so of it
    record Told (z : Master) : Type 0 where
      at : master_at ms z.step_number ≡ Some z
      free : is_option x.step_number z.lessor ≡ false

    told : AllByRecursion Told ms
    told =
        all_both (λ (z : Master). master_at ms z.step_number ≡ Some z)
        (λ (z : Master). is_option x.step_number z.lessor ≡ false) Told (λ z a n. record { at = a; free = n }) ms
        (all_found (λ (z : Master). z.step_number) ms rise) no_lessee

    is_it : (z : Master) → Told z → (z.step_number == x.step_number) ≡ true → z ≡ x
    is_it z t e = let one : Some z ≡ Some x = sym t.at ∙ ap (master_at ms) (eqb-true z.step_number x.step_number e) ∙ here in cc

    any_where : (q r : Master → Bool) → (xs : List Master)
        → AllByRecursion (λ z. r z ≡ (not (is_step_number x.step_number z) && q z)) xs
        → list_any q (filter (λ (z : Master). not (is_step_number x.step_number z)) xs) ≡ list_any r xs
    any_where q r [] h = refl
    any_where q r (z ∷ zs) h =
        elim (is_step_number x.step_number z) as (λ b. r z ≡ (not b && q z) → list_any q (cond (not b) (z ∷ filter (λ (y : Master). not (is_step_number x.step_number y)) zs) (filter (λ (y : Master). not (is_step_number x.step_number y)) zs)) ≡ (r z || list_any r zs)) [
          | true ↦ λ e. any_where q r zs h.1 ∙ ap (λ b. b || list_any r zs) (sym e)
          | false ↦ λ e. λ i. sym e i || any_where q r zs h.1 i
        ] h.0

    living_as : (b : ℕ) → is_living members gone b ≡ is_living members ms b
    living_as b =
        any_where (λ (z : Master). is_held members z && is_under (lessor_of gone) b z.step_number)
        (λ (z : Master). is_held members z && is_under (lessor_of ms) b z.step_number) ms
        (all_weaker Told (λ z. (is_held members z && is_under (lessor_of ms) b z.step_number) ≡ (not (is_step_number x.step_number z) && (is_held members z && is_under (lessor_of gone) b z.step_number))) each ms told)
      where
        each : (z : Master) → Told z
            → (is_held members z && is_under (lessor_of ms) b z.step_number) ≡ (not (is_step_number x.step_number z) && (is_held members z && is_under (lessor_of gone) b z.step_number))
        each z t =
            elim (z.step_number == x.step_number) as (λ c. (z.step_number == x.step_number) ≡ c → (is_held members z && is_under (lessor_of ms) b z.step_number) ≡ (not c && (is_held members z && is_under (lessor_of gone) b z.step_number))) [
              | true ↦ λ e. ap (λ c. c && is_under (lessor_of ms) b z.step_number) (ap (is_held members) (is_it z t e) ∙ not_held)
              | false ↦ λ e. ap (λ c. is_held members z && c) (sym (under_is b z.step_number e))
            ] refl

    dies : is_living members ms x.step_number ≡ false
    dies =
        let q : Master → Bool = λ y. is_living members ms y.step_number && is_option x.step_number y.lessor in
        living_is ms members rise older x here ∙ ap (λ b. b || list_any q ms) not_held
        ∙ none_passes q ms
        (all_weaker (λ (z : Master). is_option x.step_number z.lessor ≡ false) (λ z. q z ≡ false) (λ z e. and_right (is_living members ms z.step_number) (is_option x.step_number z.lessor) e) ms no_lessee)

    -- A sweep of the masters without the unused one leaves the same as a sweep of all.
    pub same_left : filter (λ (z : Master). is_living members gone z.step_number) gone ≡ filter (λ (z : Master). is_living members ms z.step_number) ms
    same_left =
        filter-both (λ (z : Master). is_living members gone z.step_number)
        (λ (z : Master). not (is_step_number x.step_number z)) ms
        ∙ filter-same (λ z. not (is_step_number x.step_number z) && is_living members gone z.step_number)
        (λ (z : Master). is_living members ms z.step_number) ms
        (all_weaker Told (λ z. (not (is_step_number x.step_number z) && is_living members gone z.step_number) ≡ is_living members ms z.step_number) (λ z t.
        elim (z.step_number == x.step_number) as (λ c. (z.step_number == x.step_number) ≡ c → (not c && is_living members gone z.step_number) ≡ is_living members ms z.step_number) [
          | true ↦ λ e. sym (ap (is_living members ms) (eqb-true z.step_number x.step_number e) ∙ dies)
          | false ↦ λ e. living_as z.step_number
        ] refl) ms told)

    -- After the unused master is removed, all others but its lessor are still used.
    pub lessor_left : (b : ℕ) → ((l : ℕ) → x.lessor ≡ Some l → l ≡ b) → OthersUsed members ms x.step_number
        → OthersUsed members gone b
    lessor_left b up used =
        all_both (λ (z : Master). (z.step_number == x.step_number) ≡ false → is_used members ms z ≡ true)
        (λ (z : Master). not (is_step_number x.step_number z) ≡ true)
        (λ (z : Master). (z.step_number == b) ≡ false → is_used members gone z ≡ true)
        (λ z u differs other. still z (u (not-true (is_step_number x.step_number z) differs)) (not_named z other x.lessor refl))
        gone
        (all_filter (λ (z : Master). (z.step_number == x.step_number) ≡ false → is_used members ms z ≡ true) (λ (z : Master). not (is_step_number x.step_number z)) ms used)
        (filter_true (λ (z : Master). not (is_step_number x.step_number z)) ms)
      where
        not_named : (z : Master) → (z.step_number == b) ≡ false → (o : Option ℕ) → x.lessor ≡ o
            → is_option z.step_number o ≡ false
        not_named z other None e = refl
        not_named z other (Some l) e = ap (λ n. n == z.step_number) (up l e) ∙ flipped z.step_number b other

        still : (z : Master) → is_used members ms z ≡ true → is_option z.step_number x.lessor ≡ false
            → is_used members gone z ≡ true
        still z used other =
            ap (λ c. is_held members z || c)
            (any_where (λ (y : Master). is_option z.step_number y.lessor) (λ (y : Master). is_option z.step_number y.lessor) ms (all_weaker Told (λ y. is_option z.step_number y.lessor ≡ (not (is_step_number x.step_number y) && is_option z.step_number y.lessor)) each ms told))
            ∙ used
          where
            each : (y : Master) → Told y
                → is_option z.step_number y.lessor ≡ (not (is_step_number x.step_number y) && is_option z.step_number y.lessor)
            each y t =
                elim (y.step_number == x.step_number) as (λ c. (y.step_number == x.step_number) ≡ c → is_option z.step_number y.lessor ≡ (not c && is_option z.step_number y.lessor)) [
                  | true ↦ λ e. ap (λ (u : Master). is_option z.step_number u.lessor) (is_it y t e) ∙ other
                  | false ↦ λ e. refl
                ] refl

-- If all masters live, all are used.
pub all_living_used : (members : List Member) (ms : List Master) (rise : Rise ms) (older : Older ms)
    → AllByRecursion (λ (x : Master). is_living members ms x.step_number ≡ true) ms
    → AllByRecursion (λ (x : Master). is_used members ms x ≡ true) ms
all_living_used members ms rise older living =
    all_both (λ (x : Master). is_living members ms x.step_number ≡ true)
    (λ (x : Master). master_at ms x.step_number ≡ Some x) (λ (x : Master). is_used members ms x ≡ true)
    (λ x lives at. weaker x (is_held members x) (sym (living_is ms members rise older x at) ∙ lives)) ms living
    (all_found (λ (x : Master). x.step_number) ms rise)
  where
    weaker : (x : Master) (b : Bool)
        → (b || list_any (λ (y : Master). is_living members ms y.step_number && is_option x.step_number y.lessor) ms) ≡ true
        → (b || list_any (λ (y : Master). is_option x.step_number y.lessor) ms) ≡ true
    weaker x true h = refl
    weaker x false h =
        any_more (λ _. Unit {0})
        (λ (y : Master). is_living members ms y.step_number && is_option x.step_number y.lessor)
        (λ (y : Master). is_option x.step_number y.lessor)
        (λ y u t. (and_parts (is_living members ms y.step_number) (is_option x.step_number y.lessor) t).1) ms
        (all_each (λ _. Unit {0}) (λ _. tt) ms) h

-- If all masters but one are used, and this one is used or does not exist, all are used.
pub all_used : (members : List Member) (ms : List Master) (b : ℕ) → OthersUsed members ms b
    → ((x : Master) → master_at ms x.step_number ≡ Some x → (x.step_number == b) ≡ true → is_used members ms x ≡ true)
    → Rise ms → AllByRecursion (λ (x : Master). is_used members ms x ≡ true) ms
all_used members ms b others it rise =
    all_both (λ (x : Master). (x.step_number == b) ≡ false → is_used members ms x ≡ true)
    (λ (x : Master). master_at ms x.step_number ≡ Some x) (λ (x : Master). is_used members ms x ≡ true)
    (λ x u at. elim (x.step_number == b) as (λ c. (x.step_number == b) ≡ c → is_used members ms x ≡ true) [ true ↦ λ e. it x at e | false ↦ λ e. u e ] refl)
    ms others (all_found (λ (x : Master). x.step_number) ms rise)

-- If the unused master has no lessor, a sweep removes this master only.
pub top_left : (members : List Member) (ms : List Master) (rise : Rise ms) (older : Older ms) (x : Master) (here : master_at ms x.step_number ≡ Some x) (unused : is_used members ms x ≡ false)
    → x.lessor ≡ None → OthersUsed members ms x.step_number →
    filter (λ (z : Master). not (is_step_number x.step_number z)) ms ≡ filter
    (λ (z : Master). is_living members ms z.step_number) ms
top_left members ms rise older x here unused top used =
    let left = gone members ms rise older x here unused in
    let up = gone_rise members ms rise older x here unused in
    all_stay members left up (gone_older members ms rise older x here unused)
    (all_used members left x.step_number (lessor_left members ms rise older x here unused x.step_number (λ l e. absurd (false≢true (ap is_some (sym top ∙ e)))) used)
    (λ z at same. absurd (false≢true (sym (ap is_some (sym at ∙ find_where (λ (y : Master). y.step_number) (λ k. not (k == x.step_number)) z.step_number ms) ∙ ap (λ b. is_some (cond (not b) (master_at ms z.step_number) None)) same)))) up)
    ∙ same_left members ms rise older x here unused
