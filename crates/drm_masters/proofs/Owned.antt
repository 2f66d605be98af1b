-- The ids of each owner's lessees, as masters are created and freed.
use Rattle.std.proofs.Common.{◌≡◌, ℕ, ◌==◌, Bool, true, false, not, cond, ◌&&◌, List, map, filter, find, Option, None, Some, refl, sym, ap, ◌∙◌, eq-eqb}
use Rattle.std.proofs.Math.Bool.{and_comm}
use Rattle.std.specs.Prelude.{if◌then◌else◌}
use Rattle.std.specs.List.{list_any, AllByRecursion}
use Rattle.std.specs.Option.{is_some, option_map, option_map_or, option_and_then}
use Rattle.std.proofs.lemmas.Bool.{eqb-true, ne_eqb, false≢true, and_parts, or_parts}
use Rattle.drm_index_array.specs.Rows.{placed}
use Rattle.drm_index_array.specs.Least.{least}
use Rattle.drm_index_array.proofs.Least.{least-same}
use Rattle.drm_index_array.specs.Chains.{top_of}
use Rattle.drm_index_array.proofs.Chains.{top_some}
use Rattle.drm_index_array.proofs.Lists.{all_weaker, all_each}
use Rattle.drm_index_array.proofs.Each.{none_passes}
use Rattle.drm_index_array.proofs.FoundInLists.{is_some-false, is_some-find, find_none}
use Rattle.drm_index_array.proofs.Placed.{all_placed}
use Rattle.drm_index_array.proofs.Numbers.{flipped, same_either}
use Rattle.drm_index_array.proofs.Rising.{found, any_found, all_found, find_where}
use Rattle.drm_masters.specs.declared.rows.Master.{Master}
use Rattle.drm_masters.specs.declared.rows.Member.{Member}
use Rattle.drm_masters.specs.Masters.{is_step_number, master_before, is_option, master_at, lessor_of, owner_of, is_held, is_used, HasOlderLessor, is_lessee_of}
use Rattle.drm_masters.specs.Ids.{Ids, has_id, IsNamed, IsUnnamed, owner_to_be, AreIdsOf}
use Rattle.drm_masters.proofs.MasterChains.{Rise, IsFresh, others_apart, Older, falls, lessee_of, is_this, owner_stays}
use Rattle.drm_masters.proofs.Pushed.{over_at, over_lessors, pushed_older, pushed_owner, new_lessor, new_at, others_at, there_apart}

-- ---- what is found by an id

module _ (ms : List Master) (rise : Rise ms) (ids : Ids) (are : AreIdsOf ms ids) (o : ℕ) where
  at_step_number : AllByRecursion (λ (x : Master). master_at ms x.step_number ≡ Some x) ms
  at_step_number = all_found (λ (x : Master). x.step_number) ms rise

  named_row : (i b : ℕ) → ids o i ≡ Some b → option_map_or (is_lessee_of ms o i) (master_at ms b) false ≡ true
  named_row i b e = sym (are o i b) ∙ ap (is_option b) e ∙ eq-eqb b b refl

  -- The lessee found by an id is the first of the list with this id under the owner.
  pub found_by : (i : ℕ) → option_and_then (master_at ms) (ids o i) ≡ find (is_lessee_of ms o i) ms
  found_by i = by_id (ids o i) refl (find (is_lessee_of ms o i) ms) refl
    where
      by_row : (b : ℕ) (r : Option Master) → master_at ms b ≡ r → option_map_or (is_lessee_of ms o i) r false ≡ true
          → find (is_lessee_of ms o i) ms ≡ None → r ≡ None
      by_row b None at h none = refl
      by_row b (Some x) at h none =
          absurd
          (false≢true (sym (ap is_some none) ∙ is_some-find (is_lessee_of ms o i) ms ∙ any_found (is_step_number b) (is_lessee_of ms o i) x ms at h))

      by_id : (n : Option ℕ) → ids o i ≡ n → (r : Option Master) → find (is_lessee_of ms o i) ms ≡ r
          → option_and_then (master_at ms) n ≡ r
      by_id None e None f = refl
      by_id None e (Some x) f =
          let w =
          found (is_lessee_of ms o i) (λ (y : Master). master_at ms y.step_number ≡ Some y) x ms at_step_number f in
          absurd
          (false≢true (sym (ap (is_option x.step_number) e) ∙ are o i x.step_number ∙ ap (λ s. option_map_or (is_lessee_of ms o i) s false) w.1 ∙ w.0))
      by_id (Some b) e None f = by_row b (master_at ms b) refl (named_row i b e) f
      by_id (Some b) e (Some x) f =
          let w =
          found (is_lessee_of ms o i) (λ (y : Master). master_at ms y.step_number ≡ Some y) x ms at_step_number f in
          let same : b ≡ x.step_number =
          eqb-true b x.step_number
          (sym (ap (is_option x.step_number) e) ∙ are o i x.step_number ∙ ap (λ s. option_map_or (is_lessee_of ms o i) s false) w.1 ∙ w.0)
          in
          ap (master_at ms) same ∙ w.1

  -- An id is in use in the map if and only if some lessee has it under the owner.
  pub taken_by : (i : ℕ) → is_some (ids o i) ≡ list_any (is_lessee_of ms o i) ms
  taken_by i = by_id (ids o i) refl ∙ ap is_some (found_by i) ∙ is_some-find (is_lessee_of ms o i) ms
    where
      by_row : (r : Option Master) → option_map_or (is_lessee_of ms o i) r false ≡ true → true ≡ is_some r
      by_row None h = sym h
      by_row (Some x) h = refl

      by_id : (n : Option ℕ) → ids o i ≡ n → is_some n ≡ is_some (option_and_then (master_at ms) n)
      by_id None e = refl
      by_id (Some b) e = by_row (master_at ms b) (named_row i b e)

  -- The lowest free id of the map is the lowest that no lessee has under the owner.
  pub free_by : (from last : ℕ)
      → least (λ i. not (is_some (ids o i))) from last ≡ least (λ i. not (list_any (is_lessee_of ms o i) ms)) from last
  free_by from last =
      least-same (λ i. not (is_some (ids o i))) (λ i. not (list_any (is_lessee_of ms o i) ms)) from last
      (λ i low high. ap not (taken_by i))

-- ---- a master and its id

-- its row, by its id under its owner
its_id : (ms : List Master) (o p q : ℕ) (x : Master) → ((l : ℕ) → x.lessor ≡ Some l → owner_of ms x.step_number ≡ o)
    → has_id o x.lessor x.lessee_id p q ≡ is_lessee_of ms p q x
its_id ms o p q x owner = by_lessor x.lessor refl
  where
    by_lessor : (l : Option ℕ) → x.lessor ≡ l
        → (is_some l && ((p == o) && (q == x.lessee_id))) ≡ ((is_some l && (x.lessee_id == q)) && (owner_of ms x.step_number == p))
    by_lessor None e = refl
    by_lessor (Some l) e =
        and_comm (p == o) (q == x.lessee_id)
        ∙ (λ i. same_either q x.lessee_id i && (same_either p o ∙ ap (λ k. k == p) (sym (owner l e))) i)

-- a step number by itself
its_step_number : (n : ℕ) (b : Bool) (o : Option ℕ) → is_option n o ≡ false → is_option n (if b then Some n else o) ≡ b
its_step_number n true o none = eq-eqb n n refl
its_step_number n false o none = none

-- another's
other_step_number : (n b : ℕ) (t : Bool) (o : Option ℕ) → (n == b) ≡ false → (t ≡ true → is_option b o ≡ false)
    → is_option b (if t then Some n else o) ≡ is_option b o
other_step_number n b true o differs none = differs ∙ sym (none refl)
other_step_number n b false o differs none = refl

-- no client's
no_step_number : (b : ℕ) (t : Bool) (o : Option ℕ) → (t ≡ true → is_option b o ≡ false)
    → is_option b (if t then None else o) ≡ is_option b o
no_step_number b true o none = sym (none refl)
no_step_number b false o none = refl

-- ---- a new master

module _ (ms : List Master) (x : Master) (fresh : IsFresh ms x.step_number) where
  not_yet : master_at ms x.step_number ≡ None
  not_yet = find_none (is_step_number x.step_number) ms (others_apart ms x.step_number fresh)

  module _ (older : Older ms) (there : HasOlderLessor ms x) (old : Ids) (are : AreIdsOf ms old) (free : (p q : ℕ) → has_id (owner_to_be ms x) x.lessor x.lessee_id p q ≡ true → old p q ≡ None) where
    abbrev now : List Master
    now = placed master_before x ms

    new_owner : (l : ℕ) → x.lessor ≡ Some l → owner_of now x.step_number ≡ owner_to_be ms x
    new_owner l e =
        sym
        (top_some (lessor_of now) (falls now (pushed_older ms x fresh there older)) x.step_number l (new_lessor ms x fresh ∙ e))
        ∙ pushed_owner ms x fresh older l (there l e).0 ∙ sym (ap (λ r. option_map_or (owner_of ms) r x.step_number) e)

    -- the others have their ids yet
    same_row : (p q b : ℕ) (r : Option Master) → master_at ms b ≡ r
        → option_map_or (is_lessee_of now p q) r false ≡ option_map_or (is_lessee_of ms p q) r false
    same_row p q b None at = refl
    same_row p q b (Some y) at =
        let is : y.step_number ≡ b =
        eqb-true y.step_number b
        (found (is_step_number b) (λ _. Unit {0}) y ms (all_each (λ _. Unit {0}) (λ _. tt) ms) at).0 in
        ap (λ w. (is_some y.lessor && (y.lessee_id == q)) && (w == p))
        (pushed_owner ms x fresh older y.step_number (ap (λ n. is_some (master_at ms n)) is ∙ ap is_some at))

    -- After a new master's id is added, the ids are those of the list with this master.
    pub come : (new : Ids) → IsNamed old (owner_to_be ms x) x.lessor x.lessee_id x.step_number new → AreIdsOf now new
    come new named p q b =
        ap (is_option b) (named p q)
        ∙ elim (b == x.step_number) as (λ s. (b == x.step_number) ≡ s → is_option b (if has_id (owner_to_be ms x) x.lessor x.lessee_id p q then Some x.step_number else old p q) ≡ option_map_or (is_lessee_of now p q) (master_at now b) false) [
          | true ↦ λ e.
              let same : b ≡ x.step_number = eqb-true b x.step_number e in
              ap
              (λ n. is_option n (if has_id (owner_to_be ms x) x.lessor x.lessee_id p q then Some x.step_number else old p q))
              same
              ∙ its_step_number x.step_number (has_id (owner_to_be ms x) x.lessor x.lessee_id p q) (old p q)
              (are p q x.step_number ∙ ap (λ r. option_map_or (is_lessee_of ms p q) r false) not_yet)
              ∙ its_id now (owner_to_be ms x) p q x new_owner
              ∙ sym
              (ap (λ r. option_map_or (is_lessee_of now p q) r false) (ap (master_at now) same ∙ new_at ms x fresh))
          | false ↦ λ e.
              other_step_number x.step_number b (has_id (owner_to_be ms x) x.lessor x.lessee_id p q) (old p q)
              (flipped b x.step_number e) (λ t. ap (is_option b) (free p q t))
              ∙ are p q b ∙ sym (same_row p q b (master_at ms b) refl)
              ∙ sym (ap (λ r. option_map_or (is_lessee_of now p q) r false) (others_at ms x fresh b e))
        ] refl

    -- If a new master's id is added and removed again, the ids are those of the list before.
    pub come_back : (mid new : Ids) → IsNamed old (owner_to_be ms x) x.lessor x.lessee_id x.step_number mid
        → IsUnnamed mid (owner_to_be ms x) x.lessor x.lessee_id new → AreIdsOf ms new
    come_back mid new named unnamed p q b =
        ap (is_option b)
        (unnamed p q ∙ ap (λ n. if has_id (owner_to_be ms x) x.lessor x.lessee_id p q then None else n) (named p q) ∙ by_test (has_id (owner_to_be ms x) x.lessor x.lessee_id p q) refl)
        ∙ are p q b
      where
        by_test : (t : Bool) → has_id (owner_to_be ms x) x.lessor x.lessee_id p q ≡ t
            → (if t then None else (if t then Some x.step_number else old p q)) ≡ old p q
        by_test true e = sym (free p q e)
        by_test false e = refl

-- If no lessee under the owner has the new master's id, it is free in the map.
pub free_id : (ms : List Master) (rise : Rise ms) (x : Master) (ids : Ids) → AreIdsOf ms ids
    → ((l : ℕ) → x.lessor ≡ Some l → list_any (is_lessee_of ms (owner_of ms l) x.lessee_id) ms ≡ false) → (p q : ℕ)
    → has_id (owner_to_be ms x) x.lessor x.lessee_id p q ≡ true → ids p q ≡ None
free_id ms rise x ids are other p q h = by_lessor x.lessor refl h
  where
    by_lessor : (r : Option ℕ) → x.lessor ≡ r
        → (is_some r && ((p == option_map_or (owner_of ms) r x.step_number) && (q == x.lessee_id))) ≡ true
        → ids p q ≡ None
    by_lessor None e k = absurd (false≢true k)
    by_lessor (Some l) e k =
        let w = and_parts (p == owner_of ms l) (q == x.lessee_id) k in
        is_some-false (ids p q)
        ((λ i. is_some (ids (eqb-true p (owner_of ms l) w.0 i) (eqb-true q x.lessee_id w.1 i))) ∙ taken_by ms rise ids are (owner_of ms l) x.lessee_id ∙ other l e)

-- If no lessee under the owner has the new master's id, the map has none at it either.
pub vacant_id : (ms : List Master) (rise : Rise ms) (x : Master) (ids : Ids) → AreIdsOf ms ids
    → ((l : ℕ) → x.lessor ≡ Some l → list_any (is_lessee_of ms (owner_of ms l) x.lessee_id) ms ≡ false) → (l : ℕ)
    → x.lessor ≡ Some l → ids (owner_to_be ms x) x.lessee_id ≡ None
vacant_id ms rise x ids are other l e =
    free_id ms rise x ids are other (owner_to_be ms x) x.lessee_id
    (λ i. is_some (e i) && (eq-eqb (owner_to_be ms x) (owner_to_be ms x) refl i && eq-eqb x.lessee_id x.lessee_id refl i))

-- ---- a removed master

module _ (ms : List Master) (x : Master) (here : master_at ms x.step_number ≡ Some x) (no_lessee : list_any (λ (y : Master). is_option x.step_number y.lessor) ms ≡ false) where
  abbrev left : List Master
  left = filter (λ (y : Master). not (is_step_number x.step_number y)) ms

  left_at : (n : ℕ) → (n == x.step_number) ≡ false → master_at left n ≡ master_at ms n
  left_at n e =
      find_where (λ (y : Master). y.step_number) (λ k. not (k == x.step_number)) n ms
      ∙ ap (λ s. cond (not s) (master_at ms n) None) e

  nothing_left : master_at left x.step_number ≡ None
  nothing_left =
      find_where (λ (y : Master). y.step_number) (λ k. not (k == x.step_number)) x.step_number ms
      ∙ ap (λ s. cond (not s) (master_at ms x.step_number) None) (eq-eqb x.step_number x.step_number refl)

  owner_left : (n : ℕ) → (n == x.step_number) ≡ false → owner_of left n ≡ owner_of ms n
  owner_left n e =
      owner_stays (λ k. (k == x.step_number) ≡ false) ms left
      (λ k d. ap (option_and_then (λ (y : Master). y.lessor)) (left_at k d)) closed n e
    where
      closed : (k m : ℕ) → (k == x.step_number) ≡ false → lessor_of ms k ≡ Some m → (m == x.step_number) ≡ false
      closed k m d up = ne_eqb m x.step_number (λ same.
          let w = lessee_of ms k m up in
          false≢true (sym no_lessee ∙ any_found (is_step_number k) (λ (y : Master). is_option x.step_number y.lessor) w.0 ms w.1 (ap (is_option x.step_number) w.2 ∙ eq-eqb m x.step_number same)))

  left_row : (p q b : ℕ) → (b == x.step_number) ≡ false → (r : Option Master) → master_at ms b ≡ r
      → option_map_or (is_lessee_of left p q) r false ≡ option_map_or (is_lessee_of ms p q) r false
  left_row p q b e None at = refl
  left_row p q b e (Some y) at =
      let is : y.step_number ≡ b =
      eqb-true y.step_number b
      (found (is_step_number b) (λ _. Unit {0}) y ms (all_each (λ _. Unit {0}) (λ _. tt) ms) at).0 in
      ap (λ w. (is_some y.lessor && (y.lessee_id == q)) && (w == p))
      (owner_left y.step_number (ap (λ n. n == x.step_number) is ∙ e))

  -- After the id of a master without lessees is removed, the ids are those of the list without this master.
  pub gone : (old new : Ids) → AreIdsOf ms old → IsUnnamed old (owner_of ms x.step_number) x.lessor x.lessee_id new
      → AreIdsOf left new
  gone old new are unnamed p q b =
      ap (is_option b) (unnamed p q)
      ∙ elim (b == x.step_number) as (λ s. (b == x.step_number) ≡ s → is_option b (if has_id (owner_of ms x.step_number) x.lessor x.lessee_id p q then None else old p q) ≡ option_map_or (is_lessee_of left p q) (master_at left b) false) [
        | true ↦ λ e.
            let same : b ≡ x.step_number = eqb-true b x.step_number e in
            ap
            (λ n. is_option n (if has_id (owner_of ms x.step_number) x.lessor x.lessee_id p q then None else old p q))
            same
            ∙ its_own (has_id (owner_of ms x.step_number) x.lessor x.lessee_id p q) refl
            ∙ sym (ap (λ r. option_map_or (is_lessee_of left p q) r false) (ap (master_at left) same ∙ nothing_left))
        | false ↦ λ e.
            no_step_number b (has_id (owner_of ms x.step_number) x.lessor x.lessee_id p q) (old p q)
            (λ t. ap (is_option b) (is_this x.step_number (old p q) (row_is ∙ t)) ∙ flipped b x.step_number e)
            ∙ are p q b ∙ sym (left_row p q b e (master_at ms b) refl)
            ∙ sym (ap (λ r. option_map_or (is_lessee_of left p q) r false) (left_at b e))
      ] refl
    where
      row_is : is_option x.step_number (old p q) ≡ has_id (owner_of ms x.step_number) x.lessor x.lessee_id p q
      row_is =
          are p q x.step_number ∙ ap (λ r. option_map_or (is_lessee_of ms p q) r false) here
          ∙ sym (its_id ms (owner_of ms x.step_number) p q x (λ l e. refl))

      its_own : (t : Bool) → has_id (owner_of ms x.step_number) x.lessor x.lessee_id p q ≡ t
          → is_option x.step_number (if t then None else old p q) ≡ false
      its_own true e = refl
      its_own false e = row_is ∙ e

-- ---- masters are written over

module _ (g : Master → Master) (step_numbers : (x : Master) → (g x).step_number ≡ x.step_number) (lessors : (x : Master) → (g x).lessor ≡ x.lessor) (lessee_ids : (x : Master) → (g x).lessee_id ≡ x.lessee_id) (ms : List Master) where
  owners : (n : ℕ) → owner_of (map g ms) n ≡ owner_of ms n
  owners n = ap (λ (above : ℕ → Option ℕ). top_of above n) (λ i k. over_lessors g step_numbers lessors ms k i)

  -- Changes that keep step numbers, lessors and lessee ids keep the ids.
  pub same_ids : (ids : Ids) → AreIdsOf ms ids → AreIdsOf (map g ms) ids
  same_ids ids are p q b =
      are p q b
      ∙ sym
      (ap (λ r. option_map_or (is_lessee_of (map g ms) p q) r false) (over_at g step_numbers lessors ms b) ∙ row (master_at ms b))
    where
      row : (r : Option Master)
          → option_map_or (is_lessee_of (map g ms) p q) (option_map g r) false ≡ option_map_or (is_lessee_of ms p q) r false
      row None = refl
      row (Some y) =
          λ i. (is_some (lessors y i) && (lessee_ids y i == q)) &&
          ((ap (owner_of (map g ms)) (step_numbers y) ∙ owners y.step_number) i == p)

-- ---- masters that are no client's lessor

-- A master that is not used is no master's lessor.
pub unnamed : (members : List Member) (ms : List Master) (x : Master) → is_used members ms x ≡ false
    → list_any (λ (y : Master). is_option x.step_number y.lessor) ms ≡ false
unnamed members ms x e =
    (or_parts (is_held members x) (list_any (λ (y : Master). is_option x.step_number y.lessor) ms) e).1

-- A new master without a lessor is no master's lessor.
pub unnamed_yet : (ms : List Master) (z : Master) → IsFresh ms z.step_number → Older ms → z.lessor ≡ None
    → list_any (λ (y : Master). is_option z.step_number y.lessor) (placed master_before z ms) ≡ false
unnamed_yet ms z fresh older top =
    none_passes (λ (y : Master). is_option z.step_number y.lessor) (placed master_before z ms)
    (all_placed (λ (y : Master). is_option z.step_number y.lessor ≡ false) (λ (x : Master). master_before x z) z ms (ap (is_option z.step_number) top) (all_weaker (HasOlderLessor ms) (λ (y : Master). is_option z.step_number y.lessor ≡ false) (λ y h. by_lessor y h y.lessor refl) ms older))
  where
    by_lessor : (y : Master) → HasOlderLessor ms y → (r : Option ℕ) → y.lessor ≡ r → is_option z.step_number r ≡ false
    by_lessor y h None e = refl
    by_lessor y h (Some l) e = there_apart ms z fresh l (h l e).0
