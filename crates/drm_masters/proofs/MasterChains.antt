-- Chains of masters, which masters stay, and what a sweep leaves.
use Rattle.std.proofs.Common.{◌≡◌, ℕ, ◌<◌, Bool, true, false, ◌&&◌, ◌||◌, inl, inr, List, Option, None, Some, refl, sym, ap, subst, ◌∙◌, eq-eqb, arith}
use Rattle.std.specs.List.{list_any, AllByRecursion}
use Rattle.std.specs.Option.{is_some, option_and_then}
use Rattle.std.proofs.lemmas.Bool.{eqb-true, or_left, or_right, and_parts, and_from}
use Rattle.drm_index_array.specs.Orders.{InOrder}
use Rattle.drm_index_array.specs.Chains.{is_under}
use Rattle.drm_index_array.proofs.Lists.{some_passing}
use Rattle.drm_index_array.proofs.Each.{each_fails}
use Rattle.drm_index_array.proofs.FoundInLists.{is_some-find}
use Rattle.drm_index_array.specs.Chains.{last_of}
use Rattle.drm_index_array.proofs.Chains.{IsFalling, itself, child, above_too, same_chain}
use Rattle.drm_index_array.proofs.Rising.{found, any_found, all_found}
use Rattle.drm_masters.specs.declared.rows.Member.{Member}
use Rattle.drm_masters.specs.declared.rows.Master.{Master}
use Rattle.drm_masters.specs.Masters.{is_option, is_step_number, master_at, lessor_of, owner_of, is_held, is_living, HasOlderLessor}

abbrev pub Rise : List Master → Type 0
Rise ms = InOrder (λ (x y : Master). x.step_number < y.step_number) ms

-- masters that rise, none of which has the birth
abbrev pub IsFresh : List Master → ℕ → Type 0
IsFresh ms birth = Rise ms × (is_some (master_at ms birth) ≡ false)

-- No master has an unused step number.
pub others_apart : (ms : List Master) (birth : ℕ) → IsFresh ms birth
    → AllByRecursion (λ (x : Master). is_step_number birth x ≡ false) ms
others_apart ms birth fresh =
    each_fails (is_step_number birth) ms (sym (is_some-find (is_step_number birth) ms) ∙ fresh.1)

abbrev pub Older : List Master → Type 0
Older ms = AllByRecursion (HasOlderLessor ms) ms

-- An option that tests as a number is `Some` of it.
pub is_this : (n : ℕ) (o : Option ℕ) → is_option n o ≡ true → o ≡ Some n
is_this n None e = absurd (let f : false ≡ true = e in cc)
is_this n (Some m) e = ap Some (eqb-true m n e)

-- Two tests that imply each other are equal.
pub same_bool : (a b : Bool) → (a ≡ true → b ≡ true) → (b ≡ true → a ≡ true) → a ≡ b
same_bool true b f g = sym (f refl)
same_bool false true f g = g refl
same_bool false false f g = refl

-- If a chain keeps its lessors, its masters keep their owner.
pub owner_stays : (P : ℕ → Type 0) (ms others : List Master) → ((n : ℕ) → P n → lessor_of others n ≡ lessor_of ms n)
    → ((n m : ℕ) → P n → lessor_of ms n ≡ Some m → P m) → (n : ℕ) → P n → owner_of others n ≡ owner_of ms n
owner_stays P ms others same up n p = ap (last_of n) (same_chain P (lessor_of ms) (lessor_of others) same up n n p)

-- what is found where a master has a lessor
lessor_found : (o : Option Master) (l : ℕ) → option_and_then (λ (x : Master). x.lessor) o ≡ Some l
    → (x : Master) × (o ≡ Some x) × (x.lessor ≡ Some l)
lessor_found None l e = absurd (let n : None ≡ Some l = e in cc)
lessor_found (Some x) l e = (x, refl, e)

module _ (ms : List Master) where
  -- A master with a lessor exists, and its row names the lessor.
  pub lessee_of : (n l : ℕ) → lessor_of ms n ≡ Some l → (x : Master) × (master_at ms n ≡ Some x) × (x.lessor ≡ Some l)
  lessee_of n l e = lessor_found (master_at ms n) l e

  module _ (older : Older ms) where
    -- Each lessor exists and is older than its lessee.
    pub lessor_there : (n l : ℕ) → lessor_of ms n ≡ Some l → (is_some (master_at ms l) ≡ true) × (l < n)
    lessor_there n l e =
        let w = lessee_of n l e in
        let is = found (is_step_number n) (HasOlderLessor ms) w.0 ms older w.1 in
        let known = is.1 l w.2 in
        (known.0, subst (λ m. l < m) (eqb-true w.0.step_number n is.0) known.1)

    -- Each lessor is older than its lessee.
    pub falls : IsFalling (lessor_of ms)
    falls n l e = (lessor_there n l e).1

  module _ (members : List Member) where
    -- A master lives if one at or below it is held.
    pub living_by : (b : ℕ) (z : Master) → master_at ms z.step_number ≡ Some z → is_held members z ≡ true
        → is_under (lessor_of ms) b z.step_number ≡ true → is_living members ms b ≡ true
    living_by b z here held under =
        any_found (is_step_number z.step_number)
        (λ (x : Master). is_held members x && is_under (lessor_of ms) b x.step_number) z ms here
        (and_from (is_held members z) (is_under (lessor_of ms) b z.step_number) held under)

    module _ (rise : Rise ms) where
      each_found : AllByRecursion (λ (x : Master). master_at ms x.step_number ≡ Some x) ms
      each_found = all_found (λ (x : Master). x.step_number) ms rise

      -- Each living master has a held master at or below it.
      pub held_below : (b : ℕ) → is_living members ms b ≡ true
          → (z : Master) × (master_at ms z.step_number ≡ Some z) × (is_held members z ≡ true) × (is_under (lessor_of ms) b z.step_number ≡ true)
      held_below b h =
          let w =
          some_passing (λ (x : Master). is_held members x && is_under (lessor_of ms) b x.step_number)
          (λ (x : Master). master_at ms x.step_number ≡ Some x) ms each_found h in
          let t = and_parts (is_held members w.0) (is_under (lessor_of ms) b w.0.step_number) w.1 in
          (w.0, w.2, t.0, t.1)

      module _ (older : Older ms) where
        -- The lessor of a living master lives.
        pub lessor_lives : (y l : ℕ) → is_living members ms y ≡ true → lessor_of ms y ≡ Some l
            → is_living members ms l ≡ true
        lessor_lives y l h e =
            let w = held_below y h in
            let n = w.0.step_number in
            living_by l w.0 w.1 w.2 (above_too (lessor_of ms) (falls older) n y n l (omega arith) e w.3)

        -- A master lives if and only if it is held or is the lessor of one that lives.
        pub living_is : (x : Master) → master_at ms x.step_number ≡ Some x
            → is_living members ms x.step_number ≡ (is_held members x || list_any (λ (y : Master). is_living members ms y.step_number && is_option x.step_number y.lessor) ms)
        living_is x here =
            same_bool (is_living members ms x.step_number) (is_held members x || list_any q ms) forth back
          where
            q : Master → Bool
            q y = is_living members ms y.step_number && is_option x.step_number y.lessor

            forth : is_living members ms x.step_number ≡ true → (is_held members x || list_any q ms) ≡ true
            forth h =
                let w = held_below x.step_number h in
                elim (child (lessor_of ms) w.0.step_number x.step_number w.0.step_number w.3) [
                  | inl same ↦
                      let s : Some x ≡ Some w.0 = sym here ∙ ap (master_at ms) same ∙ w.1 in
                      let t : x ≡ w.0 = cc in
                      or_left (is_held members x) (list_any q ms) (ap (is_held members) t ∙ w.2)
                  | inr up ↦
                      let y = lessee_of up.0 x.step_number up.1 in
                      let is =
                      found (is_step_number up.0) (λ (z : Master). master_at ms z.step_number ≡ Some z) y.0 ms
                      each_found y.1 in
                      let num : y.0.step_number ≡ up.0 = eqb-true y.0.step_number up.0 is.0 in
                      let lives : is_living members ms y.0.step_number ≡ true =
                      ap (is_living members ms) num ∙ living_by up.0 w.0 w.1 w.2 up.2 in
                      let names : is_option x.step_number y.0.lessor ≡ true =
                      ap (is_option x.step_number) y.2 ∙ eq-eqb x.step_number x.step_number refl in
                      or_right (is_held members x) (list_any q ms)
                      (any_found (is_step_number up.0) q y.0 ms y.1 (and_from (is_living members ms y.0.step_number) (is_option x.step_number y.0.lessor) lives names))
                ]

            by_lessee : list_any q ms ≡ true → is_living members ms x.step_number ≡ true
            by_lessee k =
                let y = some_passing q (λ (z : Master). master_at ms z.step_number ≡ Some z) ms each_found k in
                let t = and_parts (is_living members ms y.0.step_number) (is_option x.step_number y.0.lessor) y.1 in
                lessor_lives y.0.step_number x.step_number t.0
                (ap (option_and_then (λ (z : Master). z.lessor)) y.2 ∙ is_this x.step_number y.0.lessor t.1)

            back : (is_held members x || list_any q ms) ≡ true → is_living members ms x.step_number ≡ true
            back h =
                (elim (is_held members x) as (λ b. is_held members x ≡ b → (b || list_any q ms) ≡ true → is_living members ms x.step_number ≡ true) [
                  | true ↦ λ e k. living_by x.step_number x here e (itself (lessor_of ms) x.step_number x.step_number)
                  | false ↦ λ e k. by_lessee k
                ]) refl h
