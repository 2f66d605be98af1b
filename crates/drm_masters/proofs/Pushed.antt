-- What a new master, and a master that is kept or kept no more, leaves unchanged: lessors, and which masters live.
use Rattle.std.proofs.Common.{◌≡◌, ℕ, ◌<◌, ◌==◌, Bool, true, false, not, ◌&&◌, List, map, filter, find, Option, None, Some, refl, sym, ap, subst, ◌∙◌, eq-eqb, arith}
use Rattle.std.specs.Prelude.{if◌then◌else◌}
use Rattle.std.specs.List.{list_any, AllByRecursion}
use Rattle.std.specs.Option.{is_some, option_map, option_and_then}
use Rattle.drm_index_array.specs.Rows.{placed}
use Rattle.drm_index_array.specs.Orders.{InOrder}
use Rattle.std.proofs.lemmas.Bool.{ne_eqb, false≢true, or_left, or_right, and_parts, and_from}
use Rattle.drm_index_array.specs.Chains.{is_under}
use Rattle.drm_index_array.proofs.Lists.{all_weaker, all_each, all_mapped, list_any-map}
use Rattle.drm_index_array.proofs.FoundInLists.{is_some-find, is_some-map, find-map, find-same}
use Rattle.drm_index_array.proofs.Numbers.{flipped}
use Rattle.drm_index_array.proofs.Placed.{any_placed, all_placed, find_placed, find_other, placed_back, rise_placed}
use Rattle.drm_index_array.proofs.Chains.{itself, same_chain}
use Rattle.drm_index_array.proofs.Rising.{found, any_more, all_found_apart, in_order_kept}
use Rattle.drm_index_array.specs.Numbers.{is_among}
use Rattle.drm_masters.specs.declared.rows.Member.{Member}
use Rattle.drm_masters.specs.declared.rows.Master.{Master}
use Rattle.drm_masters.specs.Masters.{is_step_number, master_before, is_key, IsKeyOf, master_at, lessor_of, owner_of, is_held, is_living, HasOlderLessor}
use Rattle.drm_masters.specs.Calls.{kept_as}
use Rattle.drm_masters.proofs.MasterChains.{Rise, IsFresh, others_apart, Older, lessor_there, owner_stays}

-- the masters with those of a step number kept, or not
abbrev pub kept_at : ℕ → Bool → Master → Master
kept_at m kept x = if is_step_number m x then kept_as kept x else x

-- Keeping a master, or keeping it no more, keeps its step number.
pub step_number_stays : (m : ℕ) (kept : Bool) (x : Master) → (kept_at m kept x).step_number ≡ x.step_number
step_number_stays m kept x = elim (x.step_number == m) as (λ b. (if b then kept_as kept x else x).step_number ≡ x.step_number) [ true ↦ refl | false ↦ refl ]

-- Keeping a master, or keeping it no more, keeps its lessor.
pub lessor_stays : (m : ℕ) (kept : Bool) (x : Master) → (kept_at m kept x).lessor ≡ x.lessor
lessor_stays m kept x = elim (x.step_number == m) as (λ b. (if b then kept_as kept x else x).lessor ≡ x.lessor) [ true ↦ refl | false ↦ refl ]

-- Keeping a master, or keeping it no more, keeps its key.
pub key_stays : (m : ℕ) (kept : Bool) (x : Master) → (kept_at m kept x).key ≡ x.key
key_stays m kept x = elim (x.step_number == m) as (λ b. (if b then kept_as kept x else x).key ≡ x.key) [ true ↦ refl | false ↦ refl ]

-- Keeping a master, or keeping it no more, keeps its lessee id.
pub lessee_id_stays : (m : ℕ) (kept : Bool) (x : Master) → (kept_at m kept x).lessee_id ≡ x.lessee_id
lessee_id_stays m kept x = elim (x.step_number == m) as (λ b. (if b then kept_as kept x else x).lessee_id ≡ x.lessee_id) [ true ↦ refl | false ↦ refl ]

-- masters that are written over, of the same step numbers and lessors
module _ (g : Master → Master) (step_numbers : (x : Master) → (g x).step_number ≡ x.step_number) (lessors : (x : Master) → (g x).lessor ≡ x.lessor) (ms : List Master) where
  abbrev over : List Master
  over = map g ms

  -- The master at a step number is the one before the change, changed.
  pub over_at : (n : ℕ) → master_at over n ≡ option_map g (master_at ms n)
  over_at n =
      find-map (is_step_number n) g ms
      ∙ ap (option_map g)
      (find-same (λ x. is_step_number n (g x)) (is_step_number n) ms (all_each (λ x. is_step_number n (g x) ≡ is_step_number n x) (λ x. ap (λ b. b == n) (step_numbers x)) ms))

  -- The change keeps which step numbers exist.
  pub over_there : (n : ℕ) → is_some (master_at over n) ≡ is_some (master_at ms n)
  over_there n = ap is_some (over_at n) ∙ is_some-map g (master_at ms n)

  -- The change keeps every lessor.
  pub over_lessors : (n : ℕ) → lessor_of over n ≡ lessor_of ms n
  over_lessors n = ap (option_and_then (λ (x : Master). x.lessor)) (over_at n) ∙ same (master_at ms n)
    where
      same : (o : Option Master)
          → option_and_then (λ (x : Master). x.lessor) (option_map g o) ≡ option_and_then (λ (x : Master). x.lessor) o
      same None = refl
      same (Some x) = lessors x

  -- The change keeps the order of step numbers.
  pub over_rise : Rise ms → Rise over
  over_rise rise =
      in_order_kept (λ (x y : Master). x.step_number < y.step_number) g
      (λ x y lt. omega (arith, lt, step_numbers x, step_numbers y)) ms rise

  -- After the change each lessor still exists and is older.
  pub over_older : Older ms → Older over
  over_older older =
      all_mapped (HasOlderLessor over) g ms
      (all_weaker (HasOlderLessor ms) (λ x. HasOlderLessor over (g x)) (λ x h l e.
      let k = h l (sym (lessors x) ∙ e) in
      (over_there l ∙ k.0, subst (λ b. l < b) (sym (step_numbers x)) k.1)) ms older)

  -- If the change keeps keys, no two masters have the same key after it.
  pub over_keyed : ((x : Master) → (g x).key ≡ x.key) → InOrder (λ (x y : Master). (x.key == y.key) ≡ false) ms
      → InOrder (λ (x y : Master). (x.key == y.key) ≡ false) over
  over_keyed keys h =
      in_order_kept (λ (x y : Master). (x.key == y.key) ≡ false) g (λ x y differ. (λ i. keys x i == keys y i) ∙ differ)
      ms h

module _ (m : ℕ) (kept : Bool) (ms : List Master) where
  abbrev now : List Master
  now = map (kept_at m kept) ms

  -- Keeping a master, or keeping it no more, keeps which step numbers exist.
  pub kept_there : (n : ℕ) → is_some (master_at now n) ≡ is_some (master_at ms n)
  kept_there n = over_there (kept_at m kept) (step_number_stays m kept) (lessor_stays m kept) ms n

  -- Keeping a master, or keeping it no more, keeps every lessor.
  pub kept_lessors : (n : ℕ) → lessor_of now n ≡ lessor_of ms n
  kept_lessors n = over_lessors (kept_at m kept) (step_number_stays m kept) (lessor_stays m kept) ms n

  -- A master that is kept, or kept no more, still has its key.
  pub kept_key : InOrder (λ (x y : Master). (x.key == y.key) ≡ false) ms → (x : Master)
      → master_at ms x.step_number ≡ Some x → IsKeyOf now x.step_number x.key
  kept_key keyed x here =
      let own =
      (found (is_step_number x.step_number) (λ (y : Master). find (is_key y.key) ms ≡ Some y) x ms (all_found_apart (λ (y : Master). y.key) ms keyed) here).1
      in
      ap (λ o. option_map (λ (y : Master). y.step_number) o)
      (find-map (is_key x.key) (kept_at m kept) ms
      ∙ ap (option_map (kept_at m kept))
      (find-same (λ y. is_key x.key (kept_at m kept y)) (is_key x.key) ms (all_each (λ y. is_key x.key (kept_at m kept y) ≡ is_key x.key y) (λ y. ap (λ k. k == x.key) (key_stays m kept y)) ms) ∙ own)
      ) ∙ ap Some (step_number_stays m kept x)

  -- Keeping a master, or keeping it no more, keeps the order of step numbers.
  pub kept_rise : Rise ms → Rise now
  kept_rise rise = over_rise (kept_at m kept) (step_number_stays m kept) (lessor_stays m kept) ms rise

  -- After a master is kept, or no more, each lessor still exists and is older.
  pub kept_older : Older ms → Older now
  kept_older older = over_older (kept_at m kept) (step_number_stays m kept) (lessor_stays m kept) ms older

  -- After a master is kept, or no more, no two masters have the same key.
  pub kept_keyed : InOrder (λ (x y : Master). (x.key == y.key) ≡ false) ms
      → InOrder (λ (x y : Master). (x.key == y.key) ≡ false) now
  kept_keyed h = over_keyed (kept_at m kept) (step_number_stays m kept) (lessor_stays m kept) ms (key_stays m kept) h

  -- If each held master is still held after a master is kept, or no more, each living one still lives.
  pub kept_living : (members others : List Member)
      → ((x : Master) → is_held members x ≡ true → is_held others (kept_at m kept x) ≡ true) → (b : ℕ)
      → is_living members ms b ≡ true → is_living others now b ≡ true
  kept_living members others held b h =
      list_any-map (λ (x : Master). is_held others x && is_under (lessor_of now) b x.step_number) (kept_at m kept) ms
      ∙ any_more (λ _. Unit {0}) (λ (x : Master). is_held members x && is_under (lessor_of ms) b x.step_number) (λ (x : Master). is_held others (kept_at m kept x) && is_under (lessor_of now) b (kept_at m kept x).step_number) (λ x u t.
      let w = and_parts (is_held members x) (is_under (lessor_of ms) b x.step_number) t in
      and_from (is_held others (kept_at m kept x)) (is_under (lessor_of now) b (kept_at m kept x).step_number)
      (held x w.0)
      (ap (is_under (lessor_of now) b) (step_number_stays m kept x) ∙ ap (λ (above : ℕ → Option ℕ). is_under above b x.step_number) (λ i n. kept_lessors n i) ∙ w.1)) ms (all_each (λ _. Unit {0}) (λ _. tt) ms) h

  -- If each held master is still held after a master is kept, or no more, all masters still live.
  pub kept_used : (members others : List Member)
      → ((x : Master) → is_held members x ≡ true → is_held others (kept_at m kept x) ≡ true)
      → AllByRecursion (λ (x : Master). is_living members ms x.step_number ≡ true) ms
      → AllByRecursion (λ (x : Master). is_living others now x.step_number ≡ true) now
  kept_used members others held h =
      all_mapped (λ (x : Master). is_living others now x.step_number ≡ true) (kept_at m kept) ms
      (all_weaker (λ (x : Master). is_living members ms x.step_number ≡ true) (λ x. is_living others now (kept_at m kept x).step_number ≡ true) (λ x e. ap (is_living others now) (step_number_stays m kept x) ∙ kept_living members others held x.step_number e) ms h)

-- If each held master is still held with other clients, all masters still live.
pub same_used : (members others : List Member) (ms : List Master)
    → ((x : Master) → is_held members x ≡ true → is_held others x ≡ true)
    → AllByRecursion (λ (x : Master). is_living members ms x.step_number ≡ true) ms
    → AllByRecursion (λ (x : Master). is_living others ms x.step_number ≡ true) ms
same_used members others ms held h =
    all_weaker (λ (x : Master). is_living members ms x.step_number ≡ true)
    (λ (x : Master). is_living others ms x.step_number ≡ true) living ms h
  where
    living : (x : Master) → is_living members ms x.step_number ≡ true → is_living others ms x.step_number ≡ true
    living x e =
        any_more (λ _. Unit {0}) (λ (y : Master). is_held members y && is_under (lessor_of ms) x.step_number y.step_number) (λ (y : Master). is_held others y && is_under (lessor_of ms) x.step_number y.step_number) (λ y u t.
        let w = and_parts (is_held members y) (is_under (lessor_of ms) x.step_number y.step_number) t in
        and_from (is_held others y) (is_under (lessor_of ms) x.step_number y.step_number) (held y w.0) w.1) ms (all_each (λ _. Unit {0}) (λ _. tt) ms) e

module _ (ms : List Master) (y : Master) (fresh : IsFresh ms y.step_number) where
  -- A new master leaves all others in the list.
  pub there_too : (n : ℕ) → is_some (master_at ms n) ≡ true → is_some (master_at (placed master_before y ms) n) ≡ true
  there_too n h =
      is_some-find (is_step_number n) (placed master_before y ms)
      ∙ any_placed (is_step_number n) (λ x. master_before x y) y ms
      ∙ or_right (is_step_number n y) (list_any (is_step_number n) ms) (sym (is_some-find (is_step_number n) ms) ∙ h)

  -- A new master is in the list.
  pub new_there : is_some (master_at (placed master_before y ms) y.step_number) ≡ true
  new_there =
      is_some-find (is_step_number y.step_number) (placed master_before y ms)
      ∙ any_placed (is_step_number y.step_number) (λ x. master_before x y) y ms
      ∙ or_left (y.step_number == y.step_number) (list_any (is_step_number y.step_number) ms)
      (eq-eqb y.step_number y.step_number refl)

  -- A master that exists has another step number than the new one.
  pub there_apart : (n : ℕ) → is_some (master_at ms n) ≡ true → (n == y.step_number) ≡ false
  there_apart n h =
      ne_eqb n y.step_number (λ same. false≢true (sym fresh.1 ∙ ap (λ k. is_some (master_at ms k)) (sym same) ∙ h))

  -- A new master changes no other one.
  pub others_at : (n : ℕ) → (n == y.step_number) ≡ false → master_at (placed master_before y ms) n ≡ master_at ms n
  others_at n differs =
      find_other (λ (x : Master). x.step_number) y ms fresh.0 (is_step_number n) (flipped n y.step_number differs)

  -- A new master changes no lessor of another one.
  pub other_lessors : (n : ℕ) → (n == y.step_number) ≡ false → lessor_of (placed master_before y ms) n ≡ lessor_of ms n
  other_lessors n differs = ap (option_and_then (λ (x : Master). x.lessor)) (others_at n differs)

  -- The new master is found by its step number.
  pub new_at : master_at (placed master_before y ms) y.step_number ≡ Some y
  new_at =
      find_placed (is_step_number y.step_number) (λ x. master_before x y) y ms (eq-eqb y.step_number y.step_number refl)
      (others_apart ms y.step_number fresh)

  -- The lessor of the new master is the one it was created with.
  pub new_lessor : lessor_of (placed master_before y ms) y.step_number ≡ y.lessor
  new_lessor = ap (option_and_then (λ (x : Master). x.lessor)) new_at

  -- No lessor has the step number of the new master.
  pub lessors_apart : Older ms → (k l : ℕ) → (k == y.step_number) ≡ false → lessor_of ms k ≡ Some l
      → (l == y.step_number) ≡ false
  lessors_apart older k l p e = there_apart l (lessor_there ms older k l e).0

  -- A new master changes no owner of another one.
  pub pushed_owner : Older ms → (n : ℕ) → is_some (master_at ms n) ≡ true
      → owner_of (placed master_before y ms) n ≡ owner_of ms n
  pushed_owner older n there =
      owner_stays (λ k. (k == y.step_number) ≡ false) ms (placed master_before y ms) other_lessors (lessors_apart older)
      n (there_apart n there)

  -- A new master changes no lessor of one that exists.
  pub pushed_lessor : (n : ℕ) → is_some (master_at ms n) ≡ true
      → lessor_of (placed master_before y ms) n ≡ lessor_of ms n
  pushed_lessor n there = other_lessors n (there_apart n there)

  -- The step numbers rise with the new master.
  pub pushed_rise : Rise (placed master_before y ms)
  pushed_rise = rise_placed (λ (x : Master). x.step_number) y ms fresh.0 (others_apart ms y.step_number fresh)

  -- If the new master's lessor, if any, exists and is older, so does each lessor.
  pub pushed_older : HasOlderLessor ms y → Older ms → Older (placed master_before y ms)
  pushed_older new older =
      all_placed (HasOlderLessor (placed master_before y ms)) (λ x. master_before x y) y ms (still y new)
      (all_weaker (HasOlderLessor ms) (HasOlderLessor (placed master_before y ms)) still ms older)
    where
      still : (x : Master) → HasOlderLessor ms x → HasOlderLessor (placed master_before y ms) x
      still x h l e = let k = h l e in (there_too l k.0, k.1)

  -- If the new master is held and the others stay held, all masters live.
  pub pushed_used : (members others : List Member) → Older ms
      → ((x : Master) → is_held members x ≡ true → is_held others x ≡ true) → is_held others y ≡ true
      → AllByRecursion (λ (x : Master). is_living members ms x.step_number ≡ true) ms
      → AllByRecursion (λ (x : Master). is_living others (placed master_before y ms) x.step_number ≡ true) (placed master_before y ms)
  pushed_used members others older held new h =
      all_placed (λ (x : Master). is_living others (placed master_before y ms) x.step_number ≡ true)
      (λ x. master_before x y) y ms new_living
      (all_weaker (λ (x : Master). is_living members ms x.step_number ≡ true) (λ (x : Master). is_living others (placed master_before y ms) x.step_number ≡ true) (λ x e. old x.step_number e) ms h)
    where
      held_under : ℕ → Master → Bool
      held_under b x = is_held others x && is_under (lessor_of (placed master_before y ms)) b x.step_number

      new_living : is_living others (placed master_before y ms) y.step_number ≡ true
      new_living =
          any_placed (held_under y.step_number) (λ x. master_before x y) y ms
          ∙ or_left (held_under y.step_number y) (list_any (held_under y.step_number) ms)
          (and_from (is_held others y) (is_under (lessor_of (placed master_before y ms)) y.step_number y.step_number) new (itself (lessor_of (placed master_before y ms)) y.step_number y.step_number))

      same_under : (b n : ℕ) → (n == y.step_number) ≡ false
          → is_under (lessor_of (placed master_before y ms)) b n ≡ is_under (lessor_of ms) b n
      same_under b n differs =
          ap (λ l. is_among l b)
          (same_chain (λ k. (k == y.step_number) ≡ false) (lessor_of ms) (lessor_of (placed master_before y ms)) other_lessors (lessors_apart older) n n differs)

      old : (b : ℕ) → is_living members ms b ≡ true → is_living others (placed master_before y ms) b ≡ true
      old b e =
          any_placed (held_under b) (λ x. master_before x y) y ms
          ∙ or_right (held_under b y) (list_any (held_under b) ms)
          (any_more (λ (x : Master). is_step_number y.step_number x ≡ false) (λ (x : Master). is_held members x && is_under (lessor_of ms) b x.step_number) (held_under b) (λ x differs t.
          let w = and_parts (is_held members x) (is_under (lessor_of ms) b x.step_number) t in
          and_from (is_held others x) (is_under (lessor_of (placed master_before y ms)) b x.step_number) (held x w.0) (same_under b x.step_number differs ∙ w.1)) ms (others_apart ms y.step_number fresh) e)

  -- Removing the new master again leaves the list unchanged.
  pub taken_back : filter (λ (x : Master). not (is_step_number y.step_number x)) (placed master_before y ms) ≡ ms
  taken_back =
      placed_back (λ (x : Master). x.step_number) y ms fresh.0 (λ (x : Master). not (is_step_number y.step_number x))
      (ap not (eq-eqb y.step_number y.step_number refl))
      (all_weaker (λ (x : Master). is_step_number y.step_number x ≡ false) (λ (x : Master). not (is_step_number y.step_number x) ≡ true) (λ x e. ap not e) ms (others_apart ms y.step_number fresh))
