-- The grants are those of the history.
use Rattle.std.proofs.Common.{◌≡◌, ℕ, ◌+◌, ◌≤◌, ◌==◌, Bool, true, false, cond, not, ◌&&◌, ◌||◌, List, [], ◌∷◌, length, filter, map, Option, None, Some, refl, sym, ap, ◌∙◌, subst, arith, eq-eqb}
use Rattle.std.specs.Prelude.{◌-◌, if◌then◌else◌, slice_get, unwrap_or, IfSome}
use Rattle.std.specs.List.{list_any}
use Rattle.std.specs.Option.{is_some, option_map, option_map_or, option_and_then}
use Rattle.std.proofs.lemmas.Bool.{eqb-true, and_parts}
use Rattle.std.proofs.lemmas.List.Folds.{list_any-append}
use Rattle.drm_index_array.specs.Numbers.{is_among}
use Rattle.drm_index_array.proofs.Lists.{all_both, some_passing, list_any-map}
use Rattle.drm_index_array.proofs.Each.{some_found}
use Rattle.drm_index_array.proofs.Numbers.{among-append, flipped, less-differ}
use Rattle.drm_index_array.proofs.Rising.{found}
use Rattle.drm_table.specs.declared.calls.Call.{Call}
use Rattle.drm_table.specs.declared.calls.Call.TheVariants.{Version, SetMaster, CreateLease, RevokeLease}
use Rattle.drm_table.specs.declared.events.Event.{Event}
use Rattle.drm_table.specs.declared.events.Event.TheVariants.{Open, Ask, Close}
use Rattle.drm_table.specs.declared.events.Opening.TheVariants.{Primary, Render, Lease}
use Rattle.drm_table.specs.declared.rules.Rule.{Rule}
use Rattle.drm_modes.specs.PlaneKinds.{crtc_of_kind}
use Rattle.drm_modes.specs.Topology.{Topology, first_plane, plane_ids, is_plane, planes_of}
use Rattle.drm_model.specs.Rows.{Rows, ClientRow, MasterRow, GrantRow, step_number, client_row, is_open}
use Rattle.drm_model.specs.Buffers.{with_object}
use Rattle.drm_model.specs.Masters.{master_of, owner_of, is_under}
use Rattle.drm_model.specs.Sees.{is_granted, master_controls, controls, has_universal}
use Rattle.drm_model.specs.Leases.{ended, grant, brought_along, leased, lessee_master, lessee_row, is_lessee_of}
use Rattle.drm_model.specs.Magics.{caller_master, is_current, is_master, mastered}
use Rattle.drm_model.specs.Clients.{opened, opened_primary, closed, ended_if, ended_own}
use Rattle.drm_model.specs.Calls.{meaning}
use Rattle.drm_model.specs.Verdict.{verdict}
use Rattle.drm_model.specs.Change.{after, after_verdict, changed, swept, journaled}
use Rattle.drm_model.specs.Reply.{answer_of}
use Rattle.drm_model.proofs.Journals.{after-topology}
use Rattle.drm_model.proofs.FewLeased.{rules_hold}
use Rattle.drm_history.specs.History.{AnsweredEvent, next_number}
use Rattle.drm_history.specs.Effects.{effect}
use Rattle.drm_history.specs.MasterState.{master_state, master_in, caller_master_in}
use Rattle.drm_history.specs.Lessees.{top_in, is_under_in, lessee_in, ended_by, is_under_any, ends, is_plane_of, is_controlled, is_lent, granted}
use Rattle.drm_history.specs.Shown.{is_universal_in}
use Rattle.drm_history.proofs.AlwaysHolds.{IsReached, denied, carried}
use Rattle.drm_history.proofs.Rules.{caller_open, closer_open, revoker_current}
use Rattle.drm_history.proofs.Effects.{denied_nothing}
use Rattle.drm_history.proofs.Capable.{CapablesTold, capables_carried, capables_denied, universal_told}
use Rattle.drm_history.proofs.Stands.{row_stands, open_stands}
use Rattle.drm_history.proofs.NamedMasters.{is_there, is_lease_held, LeaseHeld, Held, lease_there, master_there, own_there, row_there}
use Rattle.drm_history.proofs.LessorsAndIds.{Descended, descended_denied, descended_carried, IdTold, own_told, lessor_same, under_same, owner_same}
use Rattle.std.proofs.Math.Bool.{and-false, or-false}

abbrev pub is_grant : ℕ → ℕ → GrantRow → Bool
is_grant m x row = (row.master == m) && (row.mode_object == x)

abbrev pub GrantsTold : Topology → List AnsweredEvent → Rows → Type 0
GrantsTold t past w = (m x : ℕ) → is_granted w m x ≡ granted t past m x

-- ---- what a history says of grants

not_yet : (t : Topology) (past : List AnsweredEvent) (m x : ℕ) → length past + 1 ≤ m → granted t past m x ≡ false
unfolding granted
not_yet t [] m x late = refl
not_yet t (step ∷ past) m x late =
    ap
    (λ b. if b then is_lent t (effect step) past x (λ n. granted t past n x) else not (ends step past m) && granted t past m x)
    (flipped (next_number past) m (less-differ (next_number past) m (omega (arith, late))))
    ∙ ap (λ b. not (ends step past m) && b) (not_yet t past m x (omega (arith, late)))
    ∙ and-false (not (ends step past m))

-- a step that lends nothing
granted_ends : (t : Topology) (step : AnsweredEvent) (past : List AnsweredEvent)
    → ((x : ℕ) → is_lent t (effect step) past x (λ n. granted t past n x) ≡ false) → (m x : ℕ)
    → granted t (step ∷ past) m x ≡ (not (ends step past m) && granted t past m x)
unfolding granted
granted_ends t step past lends m x =
    elim (m == next_number past) as (λ b. (m == next_number past) ≡ b → (if b then is_lent t (effect step) past x (λ n. granted t past n x) else not (ends step past m) && granted t past m x) ≡ (not (ends step past m) && granted t past m x)) [
      | true ↦ λ e. lends x ∙ sym (and-false (not (ends step past m))) ∙ ap (λ b. not (ends step past m) && b) (sym (not_yet t past m x (let same = eqb-true m (next_number past) e in omega (arith, same))))
      | false ↦ λ e. refl
    ] refl

-- and ends nothing
granted_stays : (t : Topology) (step : AnsweredEvent) (past : List AnsweredEvent)
    → ((x : ℕ) → is_lent t (effect step) past x (λ n. granted t past n x) ≡ false)
    → ((m : ℕ) → ends step past m ≡ false) → (m x : ℕ) → granted t (step ∷ past) m x ≡ granted t past m x
granted_stays t step past lends still m x =
    granted_ends t step past lends m x ∙ ap (λ b. not b && granted t past m x) (still m)

-- ---- what rows say of grants

-- the master of a grant is there
granted_there : (w : Rows) → Held w → (m x : ℕ) → is_granted w m x ≡ true → is_there w.masters m ≡ true
granted_there w h m x e =
    let it = some_passing (is_grant m x) (LeaseHeld w) w.grants h.3 e in
    lease_there w h m
    (subst (λ n. is_lease_held w n ≡ true) (eqb-true it.0.master m (and_parts (it.0.master == m) (it.0.mode_object == x) it.1).0) it.2)

filtered : (p : ℕ → Bool) (m x : ℕ) → (rows : List GrantRow)
    → list_any (is_grant m x) (filter (λ (row : GrantRow). p row.master) rows) ≡ (p m && list_any (is_grant m x) rows)
filtered p m x [] = sym (and-false (p m))
filtered p m x (row ∷ rows) =
    let rest = filter (λ (row : GrantRow). p row.master) rows in
    let later = filtered p m x rows in
    elim (row.master == m) as (λ b. (row.master == m) ≡ b → list_any (is_grant m x) (cond (p row.master) (row ∷ rest) rest) ≡ (p m && ((b && (row.mode_object == x)) || list_any (is_grant m x) rows))) [
      | true ↦ λ e. ap (λ n. list_any (is_grant m x) (cond (p n) (row ∷ rest) rest)) (eqb-true row.master m e) ∙ here (p m) e later
      | false ↦ λ e. elsewhere (p row.master) e ∙ later
    ] refl
  where
    here : (b : Bool) → (row.master == m) ≡ true
        → list_any (is_grant m x) (filter (λ (row : GrantRow). p row.master) rows) ≡ (b && list_any (is_grant m x) rows) →
        list_any (is_grant m x)
        (cond b (row ∷ filter (λ (row : GrantRow). p row.master) rows) (filter (λ (row : GrantRow). p row.master) rows))
        ≡ (b && ((true && (row.mode_object == x)) || list_any (is_grant m x) rows))
    here true e k = (λ i. (e i && (row.mode_object == x)) || k i)
    here false e k = k

    elsewhere : (b : Bool) → (row.master == m) ≡ false
        → list_any (is_grant m x) (cond b (row ∷ filter (λ (row : GrantRow). p row.master) rows) (filter (λ (row : GrantRow). p row.master) rows)) ≡ list_any (is_grant m x) (filter (λ (row : GrantRow). p row.master) rows)
    elsewhere true e =
        ap
        (λ b. (b && (row.mode_object == x)) || list_any (is_grant m x) (filter (λ (row : GrantRow). p row.master) rows))
        e
    elsewhere false e = refl

-- ---- a master ends with all below it

module _ (t : Topology) (past : List AnsweredEvent) (w : Rows) (p : Descended past w) (told : GrantsTold t past w) where
  ended_told : (top m x : ℕ)
      → list_any (is_grant m x) (ended w top).grants ≡ (not (is_under_in past top m) && granted t past m x)
  unfolding ended
  ended_told top m x =
      filtered (λ n. not (is_under w.masters top n)) m x w.grants
      ∙ elim (is_granted w m x) as (λ b. is_granted w m x ≡ b → (not (is_under w.masters top m) && b) ≡ (not (is_under_in past top m) && b)) [
        | true ↦ λ e. ap (λ b. not b && true) (under_same past w p.1 p.0.1 top m (granted_there w p.0.1 m x e))
        | false ↦ λ e. and-false (not (is_under w.masters top m)) ∙ sym (and-false (not (is_under_in past top m)))
      ] refl
      ∙ ap (λ b. not (is_under_in past top m) && b) (told m x)

  -- a closing client that is a master
  closed_told : (is_master : Bool) (master : Option ℕ) (m x : ℕ)
      → list_any (is_grant m x) (ended_if w is_master master).grants ≡ (not (is_under_any past (if is_master then master else None) m) && granted t past m x)
  closed_told true (Some own) m x = ended_told own m x
  closed_told true None m x = told m x
  closed_told false master m x = told m x

  close_told : (c : ℕ) (o : Option ClientRow) → client_row w c ≡ o → is_some o ≡ true → (m x : ℕ)
      → list_any (is_grant m x) (ended_own w o).grants ≡ (not (is_under_any past (if (master_state past).is_master c then (master_state past).master c else None) m) && granted t past m x)
  close_told c None e opened m x = absurd (let n : false ≡ true = opened in cc)
  close_told c (Some row) e opened m x =
      let stands = row_stands (master_state past) w c row p.0.0.1.clients e in
      closed_told row.is_master row.master m x
      ∙ (λ i. not (is_under_any past (if stands.0 i then stands.1 i else None) m) && granted t past m x)

  -- the lessee of an id
  lessee_told : (c id : ℕ) → verdict w (Ask c (RevokeLease id)) ≡ None
      → lessee_in past (top_in past (caller_master_in past c)) id ≡ Some (lessee_master w (caller_master w c) id)
  unfolding meaning
  lessee_told c id v =
      let opened = caller_open w c (RevokeLease id) v in
      let row = some_found (lessee_row w (caller_master w c) id) (rules_hold w c (RevokeLease id) v).0 in
      let all =
      all_both (IdTold past) (λ (row : MasterRow). is_there w.masters row.master ≡ true)
      (λ (row : MasterRow). IdTold past row × (is_there w.masters row.master ≡ true)) (λ row a b. (a, b)) w.masters
      p.2 (row_there w.masters) in
      let it =
      found (is_lessee_of w.masters (owner_of w.masters (caller_master w c)) id)
      (λ (row : MasterRow). IdTold past row × (is_there w.masters row.master ≡ true)) row.0 w.masters all row.1 in
      let passes =
      and_parts (is_some row.0.lessor && (row.0.lessee_id == id))
      (owner_of w.masters row.0.master == owner_of w.masters (caller_master w c)) it.0 in
      let parts = and_parts (is_some row.0.lessor) (row.0.lessee_id == id) passes.0 in
      let its = own_told past w p.0.0.1 c opened in
      let owners : top_in past row.0.master ≡ top_in past (caller_master_in past c) =
      sym (owner_same past w p.1 p.0.1 row.0.master it.1.1) ∙ eqb-true (owner_of w.masters row.0.master) (owner_of w.masters (caller_master w c)) passes.1 ∙ owner_same past w p.1 p.0.1 (caller_master w c) (own_there w c p.0.1 (revoker_current w c id v)) ∙ ap (top_in past) its in
      ap (λ t. lessee_in past t id) (sym owners)
      ∙ ap (lessee_in past (top_in past row.0.master)) (sym (eqb-true row.0.lessee_id id parts.1))
      ∙ of_lessor row.0.lessor parts.0 it.1.0
      ∙ ap (λ (o : Option MasterRow). Some (unwrap_or (option_map (λ (row : MasterRow). row.master) o) 0)) (sym row.1)
    where
      of_lessor : {P : Type 0} (lessor : Option ℕ) → is_some lessor ≡ true → IfSome lessor (λ _. P) → P
      of_lessor None some k = absurd (let n : false ≡ true = some in cc)
      of_lessor (Some l) some k = k

-- ---- a step

primary_grants : (w : Rows) (root universal : Bool) (m : Option ℕ)
    → (opened_primary w root universal m).grants ≡ w.grants
primary_grants w root universal None = refl
primary_grants w root universal (Some m) = refl

set_grants : (w : Rows) (c : ℕ) (current master : Bool) → (mastered w c current master).grants ≡ w.grants
set_grants w c true master = refl
set_grants w c false true = refl
set_grants w c false false = refl

one_master : (n m x : ℕ) → (ids : List ℕ) → list_any (λ y. (n == m) && (y == x)) ids ≡ ((n == m) && is_among ids x)
one_master n m x ids = by (n == m)
  where
    each : (b : Bool) (rest : List ℕ) → list_any (λ y. b && (y == x)) rest ≡ (b && is_among rest x)
    each true rest = refl
    each false [] = refl
    each false (y ∷ ys) = each false ys

    by : (b : Bool) → list_any (λ y. b && (y == x)) ids ≡ (b && is_among ids x)
    by b = each b ids

-- ---- what an accepted MODE_CREATE_LEASE lends

among_filter : (p : ℕ → Bool) (xs : List ℕ) (x : ℕ) → is_among (filter p xs) x ≡ (p x && is_among xs x)
among_filter p [] x = sym (and-false (p x))
among_filter p (y ∷ ys) x =
    elim (p y) as (λ b. p y ≡ b → is_among (cond b (y ∷ filter p ys) (filter p ys)) x ≡ (p x && ((y == x) || is_among ys x))) [
      | true ↦ λ e.
          elim (y == x) as (λ b. (y == x) ≡ b → (b || is_among (filter p ys) x) ≡ (p x && (b || is_among ys x)))
          [ true ↦ λ same. sym (ap (λ b. b && true) (ap p (sym (eqb-true y x same)) ∙ e)) | false ↦ λ other. among_filter p ys x ]
          refl
      | false ↦ λ e.
          elim (y == x) as (λ b. (y == x) ≡ b → is_among (filter p ys) x ≡ (p x && (b || is_among ys x))) [
            | true ↦ λ same. let fails = ap p (sym (eqb-true y x same)) ∙ e in among_filter p ys x ∙ ap (λ b. b && is_among ys x) fails ∙ sym (ap (λ b. b && true) fails)
            | false ↦ λ other. among_filter p ys x
          ] refl
    ] refl

and_itself : (b : Bool) → (b && true) ≡ b
and_itself true = refl
and_itself false = refl

-- a plane of a CRTC is a plane
plane_there : (t : Topology) (ids : List ℕ) (x : ℕ)
    → (is_plane_of t ids x && is_among (plane_ids t) x) ≡ is_plane_of t ids x
plane_there t ids x =
    let by =
    λ (b : Bool). option_map_or (is_among ids)
    (option_and_then crtc_of_kind (if b then slice_get t.kinds (x - first_plane t) else None)) false in
    elim (is_plane t x) as (λ b. (by b && b) ≡ by b) [ true ↦ and_itself (by true) | false ↦ refl ]

-- what comes along, by whether universal planes are on
along : (t : Topology) (p : ℕ → Bool) (ids : List ℕ) (x : ℕ) (universal : Bool)
    → is_among (if universal then [] else filter p (planes_of t ids)) x ≡ (not universal && is_plane_of t ids x && p x)
along t p ids x true = refl
along t p ids x false =
    among_filter p (planes_of t ids) x
    ∙ ap (λ b. p x && b) (among_filter (is_plane_of t ids) (plane_ids t) x ∙ plane_there t ids x)
    ∙ turned (p x) (is_plane_of t ids x)
  where
    turned : (a b : Bool) → (a && b) ≡ (b && a)
    turned true true = refl
    turned true false = refl
    turned false true = refl
    turned false false = refl

module _ (t : Topology) (past : List AnsweredEvent) (w : Rows) (p : Descended past w) (told : GrantsTold t past w) (capable : CapablesTold past w) (top : w.topology ≡ t) (c : ℕ) (opened : is_open w c ≡ true) where
  abbrev has : ℕ → ℕ → Bool
  has x n = granted t past n x

  controlled_told : (x : ℕ) → controls w c x ≡ is_controlled past (master_in past c) (has x)
  unfolding controls
  controlled_told x =
      by (master_of w c) (master_there w c p.0.1.1)
      ∙ ap (λ o. is_controlled past o (has x)) (open_stands past w p.0.0.1 c opened).1
    where
      by : (o : Option ℕ) → IfSome o (λ m. is_there w.masters m ≡ true)
          → master_controls w o x ≡ is_controlled past o (has x)
      by None there = refl
      by (Some m) there = λ i. not (is_some (lessor_same past w p.1 p.0.1 m there i)) || told m x i

  lent_told : (ids : List ℕ) (x : ℕ)
      → is_among (leased w c ids) x ≡ (is_among ids x || (not (is_universal_in past c) && is_plane_of t ids x && is_controlled past (master_in past c) (has x)))
  lent_told ids x =
      among-append ids (brought_along w c ids) x
      ∙ ap (λ b. is_among ids x || b) (along w.topology (controls w c) ids x (has_universal w c))
      ∙
      (λ i. is_among ids x || (not (universal_told past w capable c opened i) && is_plane_of (top i) ids x && controlled_told x i))

leased_told : (t : Topology) (past : List AnsweredEvent) (w : Rows) (c : ℕ) (ids : List ℕ) → IsReached past w
    → verdict w (Ask c (CreateLease ids)) ≡ None → Descended past w → CapablesTold past w → w.topology ≡ t
    → GrantsTold t past w
    → GrantsTold t (carried w (Ask c (CreateLease ids)) ∷ past) (journaled (swept (changed w (Ask c (CreateLease ids)))))
unfolding granted ends swept changed effect answer_of meaning
leased_told t past w c ids r v p capable top told m x =
    let all = leased w c ids in
    let lent =
    is_among ids x ||
    (not (is_universal_in past c) && is_plane_of t ids x && is_controlled past (master_in past c) (λ n. granted t past n x))
    in
    let its : list_any (is_grant m x) (map (grant (step_number w)) all) ≡ ((step_number w == m) && lent) =
    list_any-map (is_grant m x) (grant (step_number w)) all ∙ one_master (step_number w) m x all ∙ ap (λ b. (step_number w == m) && b) (lent_told t past w p told capable top c (caller_open w c (CreateLease ids) v) ids x) in
    list_any-append (is_grant m x) w.grants (map (grant (step_number w)) all)
    ∙ (λ i. told m x i || its i)
    ∙ elim (m == next_number past) as (λ b. (m == next_number past) ≡ b → (granted t past m x || ((step_number w == m) && lent)) ≡ (if b then lent else not false && granted t past m x)) [
      | true ↦ λ e.
          let same = eqb-true m (next_number past) e in
          let steps = r.steps in
          (λ i. not_yet t past m x (omega (arith, same)) i || (eq-eqb (step_number w) m (omega (arith, same, steps)) i && lent))
      | false ↦ λ e.
          let apart : (step_number w == m) ≡ false = ap (λ n. n + 1 == m) r.steps ∙ flipped m (next_number past) e in
          ap (λ b. granted t past m x || (b && lent)) apart ∙ or-false (granted t past m x)
    ] refl

-- ---- a step

asked_told : (t : Topology) (past : List AnsweredEvent) (w : Rows) (c : ℕ) (call : Call) → IsReached past w
    → verdict w (Ask c call) ≡ None → Descended past w → CapablesTold past w → w.topology ≡ t → GrantsTold t past w
    → GrantsTold t (carried w (Ask c call) ∷ past) (journaled (swept (changed w (Ask c call))))
unfolding ends swept changed effect answer_of meaning with_object
asked_told t past w c Version r v p capable top told m x =
    told m x ∙ sym (granted_stays t (carried w (Ask c Version)) past (λ y. refl) (λ k. refl) m x)
asked_told t past w c SetMaster r v p capable top told m x =
    ap (list_any (is_grant m x)) (set_grants w c (is_current w c) (is_master w c)) ∙ told m x
    ∙ sym (granted_stays t (carried w (Ask c SetMaster)) past (λ y. refl) (λ k. refl) m x)
asked_told t past w c (CreateLease ids) r v p capable top told m x =
    leased_told t past w c ids r v p capable top told m x
asked_told t past w c (RevokeLease id) r v p capable top told m x =
    ended_told t past w p told (lessee_master w (caller_master w c) id) m x
    ∙ ap (λ o. not (is_under_any past o m) && granted t past m x) (sym (lessee_told t past w p told c id v))
    ∙ sym (granted_ends t (carried w (Ask c (RevokeLease id))) past (λ y. refl) m x)
asked_told t past w c call r v p capable top told m x =
    told m x ∙ sym (granted_stays t (carried w (Ask c call)) past (λ y. refl) (λ k. refl) m x)

grants_carried : (t : Topology) (past : List AnsweredEvent) (w : Rows) (event : Event) → IsReached past w
    → verdict w event ≡ None → Descended past w → CapablesTold past w → w.topology ≡ t → GrantsTold t past w
    → GrantsTold t (carried w event ∷ past) (journaled (swept (changed w event)))
unfolding ends swept changed effect answer_of opened closed
grants_carried t past w (Open (Primary root universal)) r v p capable top told m x =
    ap (list_any (is_grant m x)) (primary_grants w root universal w.device_master) ∙ told m x
    ∙ sym (granted_stays t (carried w (Open (Primary root universal))) past (λ y. refl) (λ k. refl) m x)
grants_carried t past w (Open Render) r v p capable top told m x =
    told m x ∙ sym (granted_stays t (carried w (Open Render)) past (λ y. refl) (λ k. refl) m x)
grants_carried t past w (Open (Lease token root universal)) r v p capable top told m x =
    told m x ∙ sym (granted_stays t (carried w (Open (Lease token root universal))) past (λ y. refl) (λ k. refl) m x)
grants_carried t past w (Ask c call) r v p capable top told m x = asked_told t past w c call r v p capable top told m x
grants_carried t past w (Close c) r v p capable top told m x =
    close_told t past w p told c (client_row w c) refl (closer_open w c v) m x
    ∙ sym (granted_ends t (carried w (Close c)) past (λ y. refl) m x)

grants_denied : (t : Topology) (past : List AnsweredEvent) (w : Rows) (event : Event) (rule : Rule)
    → GrantsTold t past w → GrantsTold t (denied event rule ∷ past) (journaled w)
unfolding ends
grants_denied t past w event rule told m x =
    let nothing = denied_nothing event rule in
    told m x
    ∙ sym
    (granted_stays t (denied event rule) past (λ y. ap (λ d. is_lent t d past y (λ n. granted t past n y)) nothing) (λ k. ap (λ d. is_under_any past (ended_by d past) k) nothing) m x)

-- ---- with all before it

-- what a step that is carried out leaves of the topology: all
topology_stays : (w : Rows) (event : Event) → verdict w event ≡ None
    → (journaled (swept (changed w event))).topology ≡ w.topology
unfolding after
topology_stays w event v = ap (λ o. (after_verdict o w event).topology) (sym v) ∙ after-topology w event

abbrev pub Lending : Topology → List AnsweredEvent → Rows → Type 0
Lending t past w = Descended past w × GrantsTold t past w × CapablesTold past w × (w.topology ≡ t)

-- If the history says what each lease has, that is still so after a denial.
pub lending_denied : (t : Topology) (past : List AnsweredEvent) (w : Rows) (event : Event) (rule : Rule)
    → IsReached past w → Lending t past w → Lending t (denied event rule ∷ past) (journaled w)
lending_denied t past w event rule r p =
    (descended_denied past w event rule r p.0, grants_denied t past w event rule p.1, capables_denied past w event rule p.2, p.3)

-- If the history says what each lease has, that is still so after an accepted event.
pub lending_carried : (t : Topology) (past : List AnsweredEvent) (w : Rows) (event : Event) → IsReached past w
    → verdict w event ≡ None → Lending t past w
    → Lending t (carried w event ∷ past) (journaled (swept (changed w event)))
lending_carried t past w event r v p =
    (descended_carried past w event r v p.0, grants_carried t past w event r v p.0 p.2 p.3 p.1, capables_carried past w event r p.2, topology_stays w event v ∙ p.3)
