-- Leases nest along a run: no master is deeper than the last depth, and what the lease of a lessee has, that of its lessor has too.
use Rattle.std.proofs.Common.{◌≡◌, ℕ, ◌+◌, ◌==◌, ◌<◌, ◌≤◌, Bool, true, false, cond, not, ◌&&◌, ◌||◌, List, [], ◌∷◌, ◌++◌, map, filter, find, length, drop, Option, None, Some, refl, sym, ap, subst, ◌∙◌, eq-eqb, arith}
use Rattle.std.specs.Prelude.{if◌then◌else◌, unwrap_or, IfSome}
use Rattle.std.specs.List.{list_any, list_all, AllByRecursion}
use Rattle.std.specs.Option.{is_some, option_map, option_and_then}
use Rattle.std.proofs.lemmas.Bool.{eqb-true, ltb-true, and_left, not-true, and_parts}
use Rattle.std.proofs.lemmas.List.Folds.{list_any-append}
use Rattle.drm_index_array.specs.Chains.{is_under}
use Rattle.drm_index_array.specs.Chains as chains
use Rattle.drm_index_array.proofs.Chains.{IsFalling, same_chain, depth_none, depth_some, depth_fewer, under_some}
use Rattle.drm_index_array.proofs.Lists.{all_append, all_both, all_weaker, all_each, filter_true, list_any-map, list_any_left, some_passing, none_each, none_filtered}
use Rattle.drm_index_array.proofs.FoundInLists.{all_found, find-map, find-same, find_last}
use Rattle.drm_index_array.proofs.Rising.{any_left, find_more, find_where}
use Rattle.drm_index_array.proofs.Numbers.{less-differ, flipped}
use Rattle.drm_table.specs.declared.calls.Call.{Call}
use Rattle.drm_table.specs.declared.calls.Call.TheVariants.{Version, SetMaster, CreateLease, RevokeLease}
use Rattle.drm_table.specs.declared.events.Event.{Event}
use Rattle.drm_table.specs.declared.events.Event.TheVariants.{Open, Ask, Close}
use Rattle.drm_table.specs.declared.events.Opening.TheVariants.{Primary, Render, Lease}
use Rattle.drm_modes.specs.Topology.{is_encoder, kind_of, is_primary_or_cursor, planes_of}
use Rattle.drm_model.specs.StepNumbers.{IsMadeMaster, WereMade, GrantsMade}
use Rattle.drm_model.specs.Rows.{Rows, ClientRow, MasterRow, GrantRow, step_number, empty_rows, client_row, is_option, is_framebuffer}
use Rattle.drm_model.specs.Masters.{new_master, master_of, lessor_of}
use Rattle.drm_model.specs.Sees.{is_granted, master_controls, controls, has_universal, sees}
use Rattle.drm_model.specs.Magics.{caller_master, is_current, is_master, mastered}
use Rattle.drm_model.specs.Buffers.{with_object}
use Rattle.drm_model.specs.Leases.{may_lease, ended, grant, lessee_master, is_seen, is_leasable, brought_along, leased, new_lessee_id, new_lease_token}
use Rattle.drm_modes.specs.LeaseRules.{last_depth}
use Rattle.drm_model.specs.Clients.{opened, opened_primary, closed, ended_own, ended_if}
use Rattle.drm_model.specs.Calls.{meaning}
use Rattle.drm_model.specs.Verdict.{verdict}
use Rattle.drm_model.specs.Change.{after, changed, swept, is_living, journaled}
use Rattle.drm_model.specs.Run.{rows_of, DeviceValue}
use Rattle.drm_model.specs.Nesting.{LeasesNest}
use Rattle.drm_model.proofs.FewLeased.{rules_hold, seen_named}
use Rattle.drm_model.proofs.OlderLessors.{lessor_older, own_master_made, after-made as made_after}
use Rattle.drm_model.proofs.GrantedMasters.{after-made as granted_after}
use Rattle.drm_model.proofs.EventChanges.{along, by_verdict}

abbrev has : List GrantRow → ℕ → ℕ → Bool
has grants m x = list_any (λ (row : GrantRow). (row.master == m) && (row.mode_object == x)) grants

-- by the lessor of each master, and by the grants
abbrev Nest : (ℕ → Option ℕ) → List GrantRow → Type 0
Nest above grants =
    ((m : ℕ) → chains.depth_of above m ≤ last_depth) ×
    ((m l x : ℕ) → above m ≡ Some l → is_some (above l) ≡ true → has grants m x ≡ true → has grants l x ≡ true)

abbrev NestIn : Rows → Type 0
NestIn w = Nest (lessor_of w.masters) w.grants

-- ---- tests

neither : (a b : Bool) → (a || b) ≡ false → b ≡ false
neither true b h = absurd (let e : true ≡ false = h in cc)
neither false b h = h

the_first : (a b : Bool) → b ≡ false → (a || b) ≡ true → a ≡ true
the_first true b e h = refl
the_first false b e h = sym e ∙ h

the_second : (a b : Bool) → a ≡ false → (a || b) ≡ true → b ≡ true
the_second true b e h = absurd (let n : true ≡ false = e in cc)
the_second false b e h = h

true_unless : (a b : Bool) → (a ≡ false → b ≡ false) → b ≡ true → a ≡ true
true_unless true b f h = refl
true_unless false b f h = sym (f refl) ∙ h

-- ---- masters that come, stay and go

-- nothing new is above any
fewer : (above other : ℕ → Option ℕ) (grants : List GrantRow) → ((n m : ℕ) → other n ≡ Some m → above n ≡ Some m)
    → Nest above grants → Nest other grants
fewer above other grants f h = (
  λ m. let deep = depth_fewer above other f m in let low = h.0 m in omega (arith, deep, low),
  λ m l x e lessee it. h.1 m l x (f m l e) (still l (other l) refl lessee) it,
)
  where
    still : (l : ℕ) (o : Option ℕ) → other l ≡ o → is_some o ≡ true → is_some (above l) ≡ true
    still l None e k = absurd (let n : false ≡ true = k in cc)
    still l (Some m) e k = ap is_some (f l m e)

abbrev untokened : Bool → MasterRow → MasterRow
untokened b row = if b then record row { lease_token = None } else row

untokened_master : (b : Bool) (row : MasterRow) → (untokened b row).master ≡ row.master
untokened_master true row = refl
untokened_master false row = refl

untokened_lessor : (b : Bool) (row : MasterRow) → (untokened b row).lessor ≡ row.lessor
untokened_lessor true row = refl
untokened_lessor false row = refl

-- lessors stay where tokens go
lessors_stay : (test : MasterRow → Bool) (rows : List MasterRow) (n : ℕ)
    → lessor_of (map (λ row. untokened (test row) row) rows) n ≡ lessor_of rows n
lessors_stay test rows n =
    let is = λ (row : MasterRow). row.master == n in
    let f = λ (row : MasterRow). untokened (test row) row in
    ap (option_and_then (λ (row : MasterRow). row.lessor))
    (find-map is f rows ∙ ap (option_map f) (find-same (λ row. is (f row)) is rows (all_each (λ row. is (f row) ≡ is row) (λ row. ap (λ k. k == n) (untokened_master (test row) row)) rows)))
    ∙ same (find is rows)
  where
    same : (o : Option MasterRow)
        → option_and_then (λ (row : MasterRow). row.lessor) (option_map (λ (row : MasterRow). untokened (test row) row) o) ≡ option_and_then (λ (row : MasterRow). row.lessor) o
    same None = refl
    same (Some row) = untokened_lessor (test row) row

-- a new master that no client lent has no client above it
lessors_yet : (b n : ℕ) (rows : List MasterRow) → lessor_of (rows ++ new_master b ∷ []) n ≡ lessor_of rows n
lessors_yet b n [] = elim (b == n) as (λ t. option_and_then (λ (row : MasterRow). row.lessor) (cond t (Some (new_master b)) None) ≡ None) [ true ↦ refl | false ↦ refl ]
lessors_yet b n (x ∷ xs) =
    let is = λ (row : MasterRow). row.master == n in
    let lessor = option_and_then (λ (row : MasterRow). row.lessor) in
    elim (x.master == n) as (λ t. lessor (cond t (Some x) (find is (xs ++ new_master b ∷ []))) ≡ lessor (cond t (Some x) (find is xs))) [ true ↦ refl | false ↦ lessors_yet b n xs ]

-- a lessor was one before the others went
lessors_left : (t : ℕ → Bool) (rows : List MasterRow) (n m : ℕ)
    → lessor_of (filter (λ row. t row.master) rows) n ≡ Some m → lessor_of rows n ≡ Some m
lessors_left t rows n m e =
    by_test (t n)
    (sym (ap (option_and_then (λ (row : MasterRow). row.lessor)) (find_where (λ (row : MasterRow). row.master) t n rows)) ∙ e)
  where
    by_test : (b : Bool)
        → option_and_then (λ (row : MasterRow). row.lessor) (cond b (find (λ (row : MasterRow). row.master == n) rows) None) ≡ Some m
        → lessor_of rows n ≡ Some m
    by_test true k = k
    by_test false k = absurd (let no : None ≡ Some m = k in cc)

-- ---- grants that go: those of a master and of all below it

module _ (above : ℕ → Option ℕ) (falls : IsFalling above) (top : ℕ) (grants : List GrantRow) where
  abbrev under : ℕ → Bool
  under m = is_under above top m

  abbrev left : List GrantRow
  left = filter (λ (row : GrantRow). not (under row.master)) grants

  has_left : (m x : ℕ) → has left m x ≡ true → (has grants m x ≡ true) × (under m ≡ false)
  has_left m x h =
      let it =
      some_passing (λ (row : GrantRow). (row.master == m) && (row.mode_object == x))
      (λ (row : GrantRow). not (under row.master) ≡ true) left
      (filter_true (λ (row : GrantRow). not (under row.master)) grants) h in
      let is = and_parts (it.0.master == m) (it.0.mode_object == x) it.1 in (
        true_unless (has grants m x) (has left m x)
            (none_filtered (λ (row : GrantRow). (row.master == m) && (row.mode_object == x)) (λ (row : GrantRow). not (under row.master)) grants)
            h,
        ap under (sym (eqb-true it.0.master m is.0)) ∙ not-true (under it.0.master) it.2,
      )

  apart : (n l : ℕ) → under n ≡ true → under l ≡ false → (n == l) ≡ false
  apart n l e k = elim (n == l) as (λ b. (n == l) ≡ b → b ≡ false) [ true ↦ λ is. sym e ∙ ap under (eqb-true n l is) ∙ k | false ↦ λ is. refl ] refl

  still_has : (l x : ℕ) → under l ≡ false → has grants l x ≡ true → has left l x ≡ true
  still_has l x e h =
      any_left (λ (row : GrantRow). Unit {0}) (λ (row : GrantRow). under row.master)
      (λ (row : GrantRow). (row.master == l) && (row.mode_object == x))
      (λ row u k. and_left (row.master == l) (row.mode_object == x) (apart row.master l k e)) grants
      (all_each (λ (row : GrantRow). Unit {0}) (λ row. tt) grants) h

  nest_left : Nest above grants → Nest above left
  nest_left h = (
    h.0,
    λ m l x e lessee it.
        let was = has_left m x it in
        still_has l x (neither (m == top) (under l) (sym (under_some above falls top m l e) ∙ was.1))
        (h.1 m l x e lessee was.0),
  )

-- ---- a new lessee

module _ (rows : List MasterRow) (grants : List GrantRow) (last m id : ℕ) (token : Option ℕ) (ids : List ℕ)
    (made : AllByRecursion (IsMadeMaster last) rows) (granted : AllByRecursion (λ (row : GrantRow). row.master ≤ last) grants) (old : m ≤ last) where
  abbrev lessee : MasterRow
  lessee = record { master = last + 1; lessor = Some m; lessee_id = id; lease_token = token }

  abbrev before : ℕ → Option ℕ
  before = lessor_of rows

  abbrev now : ℕ → Option ℕ
  now = lessor_of (rows ++ lessee ∷ [])

  abbrev grants_now : List GrantRow
  grants_now = grants ++ map (grant (last + 1)) ids

  yet : (n : ℕ) → (last + 1 == n) ≡ false → now n ≡ before n
  yet n e =
      ap (option_and_then (λ (row : MasterRow). row.lessor))
      (find_more (λ (row : MasterRow). row.master) lessee n e rows)

  its_lessor : now (last + 1) ≡ Some m
  its_lessor =
      ap (option_and_then (λ (row : MasterRow). row.lessor))
      (find_last (λ (row : MasterRow). row.master == last + 1) lessee (eq-eqb (last + 1) (last + 1) refl) rows
      (all_weaker (IsMadeMaster last) (λ (row : MasterRow). (row.master == last + 1) ≡ false) (λ row k. less-differ row.master (last + 1) (let low = k.1 in omega (arith, low))) rows made))

  not_new : (n : ℕ) → n ≤ last → (last + 1 == n) ≡ false
  not_new n low = flipped n (last + 1) (less-differ n (last + 1) (omega (arith, low)))

  falls_before : IsFalling before
  falls_before n l e = lessor_older last rows made n l e

  up_to : (n l : ℕ) → before n ≡ Some l → l ≤ last
  up_to n l e = by_row (find (λ (row : MasterRow). row.master == n) rows) (all_rows n) e
    where
      all_rows : (n : ℕ) → IfSome (find (λ (row : MasterRow). row.master == n) rows) (IsMadeMaster last)
      all_rows n = all_found (IsMadeMaster last) (λ row. row.master == n) rows made

      by_row : (o : Option MasterRow) → IfSome o (IsMadeMaster last)
          → option_and_then (λ (row : MasterRow). row.lessor) o ≡ Some l → l ≤ last
      by_row None k is = absurd (let no : None ≡ Some l = is in cc)
      by_row (Some row) k is = let older : l < row.master = subst (λ (o : Option ℕ). IfSome o (λ lessor. lessor < row.master)) is k.2 in let low = k.1 in omega (arith, older, low)

  falls_now : IsFalling now
  falls_now n l e =
      (elim (last + 1 == n) as (λ b. (last + 1 == n) ≡ b → l < n) [
        | true ↦ λ is.
            let same : last + 1 ≡ n = eqb-true (last + 1) n is in
            let up : Some l ≡ Some m = sym e ∙ ap now (sym same) ∙ its_lessor in
            let its : l ≡ m = cc in
            omega (arith, same, its, old)
        | false ↦ λ is. falls_before n l (sym (yet n is) ∙ e)
      ]) refl

  depth_yet : (n : ℕ) → (last + 1 == n) ≡ false → chains.depth_of now n ≡ chains.depth_of before n
  depth_yet n e =
      ap (λ chain. length (drop 1 chain))
      (same_chain (λ k. (last + 1 == k) ≡ false) before now yet (λ k l other up. not_new l (up_to k l up)) n n e)

  depths_now : may_lease rows m ≡ true → ((n : ℕ) → chains.depth_of before n ≤ last_depth) → (n : ℕ)
      → chains.depth_of now n ≤ last_depth
  depths_now may deep n =
      (elim (last + 1 == n) as (λ b. (last + 1 == n) ≡ b → chains.depth_of now n ≤ last_depth) [
        | true ↦ λ is.
            let same : chains.depth_of now (last + 1) ≡ chains.depth_of now n =
            ap (chains.depth_of now) (eqb-true (last + 1) n is) in
            let one_more = depth_some now falls_now (last + 1) m its_lessor in
            let yet_so = depth_yet m (not_new m old) in
            let less = ltb-true (chains.depth_of before m) last_depth may in
            omega (arith, same, one_more, yet_so, less)
        | false ↦ λ is. let same = depth_yet n is in let low = deep n in omega (arith, same, low)
      ]) refl

  -- what the others have is as before
  has_yet : (n x : ℕ) → (last + 1 == n) ≡ false → has grants_now n x ≡ true → has grants n x ≡ true
  has_yet n x e h =
      let is = λ (row : GrantRow). (row.master == n) && (row.mode_object == x) in
      the_first (has grants n x) (has (map (grant (last + 1)) ids) n x)
      (list_any-map is (grant (last + 1)) ids ∙ none_each (λ k. (last + 1 == n) && (k == x)) (λ k. and_left (last + 1 == n) (k == x) e) ids)
      (sym (list_any-append is grants (map (grant (last + 1)) ids)) ∙ h)

  -- what the new lessee has is what was listed
  has_listed : (x : ℕ) → has grants_now (last + 1) x ≡ true → AllByRecursion (λ k. has grants m k ≡ true) ids
      → has grants m x ≡ true
  has_listed x h each =
      let is = λ (row : GrantRow). (row.master == last + 1) && (row.mode_object == x) in
      let listed : list_any is (map (grant (last + 1)) ids) ≡ true =
      the_second (has grants (last + 1) x) (has (map (grant (last + 1)) ids) (last + 1) x) (no_grant x) (sym (list_any-append is grants (map (grant (last + 1)) ids)) ∙ h) in
      let it =
      some_passing (λ k. is (grant (last + 1) k)) (λ k. has grants m k ≡ true) ids each
      (sym (list_any-map is (grant (last + 1)) ids) ∙ listed) in
      let same : it.0 ≡ x = eqb-true it.0 x (and_parts (last + 1 == last + 1) (it.0 == x) it.1).1 in
      subst (λ k. has grants m k ≡ true) same it.2
    where
      no_grant : (x : ℕ) → has grants (last + 1) x ≡ false
      no_grant x = elim (has grants (last + 1) x) as (λ b. has grants (last + 1) x ≡ b → b ≡ false) [
        | true ↦ λ e.
            let it =
            some_passing (λ (row : GrantRow). (row.master == last + 1) && (row.mode_object == x))
            (λ (row : GrantRow). row.master ≤ last) grants granted e in
            let same : it.0.master ≡ last + 1 =
            eqb-true it.0.master (last + 1) (and_parts (it.0.master == last + 1) (it.0.mode_object == x) it.1).0 in
            let low = it.2 in
            absurd (omega (arith, same, low))
        | false ↦ λ e. refl
      ] refl

  nest_more : may_lease rows m ≡ true → (is_some (before m) ≡ true → AllByRecursion (λ k. has grants m k ≡ true) ids)
      → Nest before grants → Nest now grants_now
  nest_more may each h = (
    depths_now may h.0,
    λ n l x e lessee it.
        (elim (last + 1 == n) as (λ b. (last + 1 == n) ≡ b → has grants_now l x ≡ true) [
          | true ↦ λ is.
              let same : last + 1 ≡ n = eqb-true (last + 1) n is in
              let up : Some l ≡ Some m = sym e ∙ ap now (sym same) ∙ its_lessor in
              let its : l ≡ m = cc in
              let lessor : is_some (before m) ≡ true =
              ap is_some (sym (yet m (not_new m old))) ∙ ap (λ k. is_some (now k)) (sym its) ∙ lessee in
              ap (λ k. has grants_now k x) its
              ∙ list_any_left (λ (row : GrantRow). (row.master == m) && (row.mode_object == x)) grants
              (map (grant (last + 1)) ids) (has_listed x (ap (λ k. has grants_now k x) same ∙ it) (each lessor))
          | false ↦ λ is.
              let up : before n ≡ Some l = sym (yet n is) ∙ e in
              let lessor : is_some (before l) ≡ true = ap is_some (sym (yet l (not_new l (up_to n l up)))) ∙ lessee in
              list_any_left (λ (row : GrantRow). (row.master == l) && (row.mode_object == x)) grants
              (map (grant (last + 1)) ids) (h.1 n l x up lessor (has_yet n x is it))
        ]) refl,
  )

-- ---- what an accepted lease was tested for

of_lessee : (w : Rows) (x : ℕ) (o : Option ℕ) → master_controls w o x ≡ true
    → is_some (lessor_of w.masters (unwrap_or o 0)) ≡ true → is_granted w (unwrap_or o 0) x ≡ true
of_lessee w x None h lessee = absurd (let no : false ≡ true = h in cc)
of_lessee w x (Some m) h lessee = sym (ap (λ b. not b || is_granted w m x) lessee) ∙ h

-- what a lessee's client controls, its lease has
controlled_granted : (w : Rows) (c x : ℕ) → is_some (lessor_of w.masters (caller_master w c)) ≡ true
    → controls w c x ≡ true → is_granted w (caller_master w c) x ≡ true
unfolding controls
controlled_granted w c x lessee seen_named = of_lessee w x (master_of w c) seen_named lessee

-- and what it sees and can lease
seen_granted : (w : Rows) (c x : ℕ) → is_some (lessor_of w.masters (caller_master w c)) ≡ true → is_seen w c x ≡ true
    → is_leasable w x ≡ true → is_granted w (caller_master w c) x ≡ true
unfolding sees
seen_granted w c x lessee seen leasable =
    let it =
    seen_named (is_some (kind_of w.topology x)) (sees w c x) (is_encoder w.topology x) (is_framebuffer w x) seen
    leasable in
    let shown = not (is_primary_or_cursor w.topology x) || has_universal w c in
    controlled_granted w c x lessee
    (and_parts (controls w c x) shown (the_second (is_encoder w.topology x) (controls w c x && shown) it.1 it.0)).0

-- and what comes along
along_granted : (w : Rows) (c : ℕ) (ids : List ℕ) → is_some (lessor_of w.masters (caller_master w c)) ≡ true
    → AllByRecursion (λ x. is_granted w (caller_master w c) x ≡ true) (brought_along w c ids)
along_granted w c ids lessee =
    elim (has_universal w c) as (λ b. AllByRecursion (λ x. is_granted w (caller_master w c) x ≡ true) (if b then [] else filter (controls w c) (planes_of w.topology ids))) [
      | true ↦ tt
      | false ↦ all_weaker (λ x. controls w c x ≡ true) (λ x. is_granted w (caller_master w c) x ≡ true) (λ x e. controlled_granted w c x lessee e) (filter (controls w c) (planes_of w.topology ids)) (filter_true (controls w c) (planes_of w.topology ids))
    ]

each_of : (p : ℕ → Bool) (xs : List ℕ) → list_all p xs ≡ true → AllByRecursion (λ x. p x ≡ true) xs
each_of p [] h = tt
each_of p (x ∷ xs) h = let is = and_parts (p x) (list_all p xs) h in (is.0, each_of p xs is.1)

-- ---- what an event changes

ended-nest : (w : Rows) (m : ℕ) → WereMade w.steps w → NestIn w → NestIn (ended w m)
unfolding ended
ended-nest w m made h =
    let above = lessor_of w.masters in
    subst
    (λ (other : ℕ → Option ℕ). Nest other (filter (λ (row : GrantRow). not (is_under above m row.master)) w.grants))
    (sym (λ i n. lessors_stay (λ row. is_under above m row.master) w.masters n i))
    (nest_left above (lessor_older w.steps w.masters made.1) m w.grants h)

ended_if-nest : (w : Rows) (b : Bool) (m : Option ℕ) → WereMade w.steps w → NestIn w → NestIn (ended_if w b m)
ended_if-nest w true (Some m) made h = ended-nest w m made h
ended_if-nest w true None made h = h
ended_if-nest w false m made h = h

ended_own-nest : (w : Rows) (row : Option ClientRow) → WereMade w.steps w → NestIn w → NestIn (ended_own w row)
ended_own-nest w None made h = h
ended_own-nest w (Some row) made h = ended_if-nest w row.is_master row.master made h

founded-nest : (w : Rows) (b : ℕ) → NestIn w → Nest (lessor_of (w.masters ++ new_master b ∷ [])) w.grants
founded-nest w b h = subst (λ (other : ℕ → Option ℕ). Nest other w.grants) (sym (λ i n. lessors_yet b n w.masters i)) h

opened_primary-nest : (w : Rows) (root universal : Bool) (device : Option ℕ) → NestIn w
    → NestIn (opened_primary w root universal device)
opened_primary-nest w root universal None h = founded-nest w (step_number w) h
opened_primary-nest w root universal (Some m) h = h

mastered-nest : (w : Rows) (c : ℕ) (current master : Bool) → NestIn w → NestIn (mastered w c current master)
mastered-nest w c true master h = h
mastered-nest w c false true h = h
mastered-nest w c false false h = founded-nest w (step_number w) h

leased-nest : (w : Rows) (c : ℕ) (ids : List ℕ) → verdict w (Ask c (CreateLease ids)) ≡ None → WereMade w.steps w
    → GrantsMade w.steps w → NestIn w → NestIn (meaning w c (CreateLease ids)).rows
unfolding meaning
leased-nest w c ids accepted made granted h =
    let hold = rules_hold w c (CreateLease ids) accepted in
    let m = caller_master w c in
    nest_more w.masters w.grants w.steps m (new_lessee_id w m) (Some (new_lease_token w)) (leased w c ids) made.1
    granted (own_master_made w c made) hold.0
    (λ lessee. all_append (λ x. is_granted w m x ≡ true) ids (brought_along w c ids)
    (all_both (λ x. is_seen w c x ≡ true) (λ x. is_leasable w x ≡ true) (λ x. is_granted w m x ≡ true) (λ x seen leasable. seen_granted w c x lessee seen leasable) ids (each_of (is_seen w c) ids hold.1.0) (each_of (is_leasable w) ids hold.1.1.0))
    (along_granted w c ids lessee)) h

-- a call that is not told here changes no master and no grant
asked-nest : (w : Rows) (c : ℕ) (call : Call) → verdict w (Ask c call) ≡ None → WereMade w.steps w
    → GrantsMade w.steps w → NestIn w → NestIn (meaning w c call).rows
unfolding meaning with_object
asked-nest w c Version accepted made granted h = h
asked-nest w c SetMaster accepted made granted h = mastered-nest w c (is_current w c) (is_master w c) h
asked-nest w c (CreateLease ids) accepted made granted h = leased-nest w c ids accepted made granted h
asked-nest w c (RevokeLease lessee) accepted made granted h =
    ended-nest w (lessee_master w (caller_master w c) lessee) made h
asked-nest w c call accepted made granted h = h

changed-nest : (w : Rows) (event : Event) → verdict w event ≡ None → WereMade w.steps w → GrantsMade w.steps w
    → NestIn w → NestIn (changed w event)
unfolding changed opened closed
changed-nest w (Open (Primary root universal)) accepted made granted h =
    opened_primary-nest w root universal w.device_master h
changed-nest w (Open Render) accepted made granted h = h
changed-nest w (Open (Lease token root universal)) accepted made granted h =
    subst (λ (other : ℕ → Option ℕ). Nest other w.grants)
    (sym (λ i n. lessors_stay (λ row. is_option token row.lease_token) w.masters n i)) h
changed-nest w (Ask c call) accepted made granted h = asked-nest w c call accepted made granted h
changed-nest w (Close c) accepted made granted h = ended_own-nest w (client_row w c) made h

swept-nest : (w : Rows) → NestIn w → NestIn (journaled (swept w))
unfolding swept
swept-nest w h =
    fewer (lessor_of w.masters) (lessor_of (filter (λ row. is_living w row.master) w.masters)) w.grants
    (lessors_left (is_living w) w.masters) h

-- what a step keeps: that steps made the masters, also those of grants, and that leases nest
abbrev Nested : Rows → Type 0
Nested w = WereMade w.steps w × GrantsMade w.steps w × NestIn w

after-nested : (w : Rows) (event : Event) → Nested w → Nested (after w event)
after-nested w event h = (
  made_after w event h.0,
  granted_after w event h.1,
  by_verdict NestIn w event h.2 (λ accepted. swept-nest (changed w event) (changed-nest w event accepted h.0 h.1 h.2)),
)

nothing-nest : (w : Rows) → w.masters ≡ [] → NestIn w
nothing-nest w none =
    subst (λ (rows : List MasterRow). Nest (lessor_of rows) w.grants) (sym none)
    (λ m. let nobody = depth_none (lessor_of []) m refl in omega (arith, nobody), λ m l x e lessee it. absurd (let no : None ≡ Some l = e in cc))

-- In the rows of any history leases nest: a lessee has no object that its lessor, if a lessee, does not have.
pub leases_nest : (h : DeviceValue) → LeasesNest (rows_of h)
unfolding rows_of
leases_nest h =
    let start = empty_rows h.topology h.limits in
    let nested = along Nested after-nested h.journal start ((tt, tt, tt, tt), tt, nothing-nest start refl) in
    record { depths = nested.2.0; grants = nested.2.1 }
