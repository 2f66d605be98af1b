-- A lessee that some step ended stays without a lease, so that its clients see no CRTC, connector or plane.
use Rattle.std.proofs.Common.{◌≡◌, ℕ, ◌≤◌, ◌==◌, Bool, true, false, not, ◌&&◌, ◌||◌, List, [], ◌∷◌, length, map, Option, None, Some, refl, sym, ap, ◌∙◌, subst, arith, eq-eqb}
use Rattle.std.specs.Prelude.{if◌then◌else◌, unwrap_or, IfSome}
use Rattle.std.specs.List.{list_any, list_all}
use Rattle.std.specs.Option.{is_some, option_and_then}
use Rattle.std.proofs.lemmas.Bool.{eqb-true, and_parts}
use Rattle.drm_index_array.specs.Orders.{sorted_by}
use Rattle.drm_index_array.proofs.Lists.{all_both, all_weaker, some_passing}
use Rattle.drm_index_array.proofs.Each.{each_passes, each_any, filter_none}
use Rattle.drm_index_array.proofs.Chains.{under_none}
use Rattle.drm_index_array.proofs.Numbers.{less-differ}
use Rattle.drm_index_array.proofs.Rising.{each_is_there}
use Rattle.drm_table.specs.declared.answers.Answer.TheVariants.{Number, Resources, List as ListIs}
use Rattle.drm_table.specs.declared.calls.Call.{Call}
use Rattle.drm_table.specs.declared.calls.Call.TheVariants.{Version, GetResources, GetCrtc, SetCrtc, GetEncoder, GetConnector, GetPlaneResources, GetPlane, SetPlane, CreateLease, GetLease}
use Rattle.drm_table.specs.declared.events.Event.{Event}
use Rattle.drm_table.specs.declared.events.Event.TheVariants.{Open, Ask, Close}
use Rattle.drm_table.specs.declared.rules.Rule.{Rule}
use Rattle.drm_modes.specs.Topology.{Topology, crtc_ids, plane_ids, connector_ids, encoder_ids, is_crtc, is_plane, is_encoder, is_connector, is_primary_or_cursor, kind_of, mask_over}
use Rattle.drm_model.specs.Rows.{Rows, GrantRow, is_open, is_framebuffer}
use Rattle.drm_model.specs.Masters.{master_of, lessor_of, is_lessee}
use Rattle.drm_model.specs.Sees.{sees, sees_crtc, sees_plane, sees_connector, master_controls, controls, has_universal, is_granted, visible_crtcs, visible_planes, visible_connectors, own_framebuffers}
use Rattle.drm_model.specs.Leases.{granted_of, is_seen, is_leasable, leasable_ids}
use Rattle.drm_model.specs.Magics.{caller_master}
use Rattle.drm_model.specs.Numbers.{rising}
use Rattle.drm_model.specs.Calls.{meaning}
use Rattle.drm_model.specs.Verdict.{verdict}
use Rattle.drm_model.specs.Reply.{reply, reply_by, answer_of}
use Rattle.drm_model.proofs.FewLeased.{rules_hold, seen_named}
use Rattle.drm_history.specs.History.{AnsweredEvent, next_number}
use Rattle.drm_history.specs.Effects.{Effect, Nothing, Closes, Leases, Revokes, effect, is_accepted}
use Rattle.drm_history.specs.MasterState.{is_master_in, master_in, caller_master_in}
use Rattle.drm_history.specs.Lessees.{lessor_in, top_in, is_under_in, lessee_by, lessee_in, ended_by, is_under_any, ends, has_ended, is_lent, granted}
use Rattle.drm_history.specs.SeesNothing.{SeesNothing, KeepsSeeingNothing}
use Rattle.drm_history.proofs.Apart.{crtc_apart, plane_apart, connector_apart}
use Rattle.drm_history.proofs.AlwaysHolds.{replied}
use Rattle.drm_history.proofs.Rules.{caller_open}
use Rattle.drm_history.proofs.Stands.{open_stands}
use Rattle.drm_history.proofs.NamedMasters.{is_there, master_there}
use Rattle.drm_history.proofs.Falls.{UpTo, none_up, some_up, later_up, if_up, master_up, lessee_born}
use Rattle.drm_history.proofs.LessorsAndIds.{lessor_same}
use Rattle.drm_history.proofs.GrantsOfHistory.{Lending}
use Rattle.std.proofs.Math.Bool.{and-false}

-- ---- what ends was there, and has no grant afterwards

lessee_by_up : (d : Effect) (past : List AnsweredEvent) (owner id : ℕ) (older : Option ℕ)
    → UpTo (next_number past) older → UpTo (next_number past) (lessee_by d past owner id older)
lessee_by_up (Leases c ids lessee token) past owner id older h =
    if_up (next_number past) ((lessee == id) && (top_in past (caller_master_in past c) == owner))
    (Some (next_number past)) older (some_up (next_number past) (next_number past) (omega arith)) h
lessee_by_up Nothing past owner id older h = h
lessee_by_up _ past owner id older h = h

lessee_up : (past : List AnsweredEvent) (owner id : ℕ) → UpTo (length past) (lessee_in past owner id)
unfolding lessee_in
lessee_up [] owner id m e = none_up 0 m e
lessee_up (step ∷ past) owner id m e = let up = lessee_by_up (effect step) past owner id (lessee_in past owner id) (later_up (length past) (lessee_in past owner id) (lessee_up past owner id)) m e in omega (arith, up)

-- A master that a step ends is of a step that was made.
pub ended_up : (d : Effect) (past : List AnsweredEvent) → UpTo (length past) (ended_by d past)
ended_up (Revokes c lessee) past = lessee_up past (top_in past (caller_master_in past c)) lessee
ended_up (Closes c) past =
    if_up (length past) (is_master_in past c) (master_in past c) None (master_up past c) (none_up (length past))
ended_up Nothing past = none_up (length past)
ended_up _ past = none_up (length past)

under_born : (past : List AnsweredEvent) (top m : ℕ) → top ≤ length past → is_under_in past top m ≡ true
    → m ≤ length past
under_born past top m old h = by (lessor_in past m) refl
  where
    by : (o : Option ℕ) → lessor_in past m ≡ o → m ≤ length past
    by None e = let same = eqb-true m top (sym (under_none (lessor_in past) top m e) ∙ h) in omega (arith, same, old)
    by (Some lessor) e = lessee_born past m lessor e

any_born : (past : List AnsweredEvent) (o : Option ℕ) (m : ℕ) → UpTo (length past) o → is_under_any past o m ≡ true
    → m ≤ length past
any_born past None m up h = absurd (let n : false ≡ true = h in cc)
any_born past (Some top) m up h = under_born past top m (up top refl) h

-- a master that a step ends is of a step that was made
end_born : (step : AnsweredEvent) (past : List AnsweredEvent) (m : ℕ) → ends step past m ≡ true → m ≤ length past
unfolding ends
end_born step past m h = any_born past (ended_by (effect step) past) m (ended_up (effect step) past) h

-- what some step ended has no grant, and gets none
ended_bare : (t : Topology) (past : List AnsweredEvent) (m : ℕ) → has_ended past m ≡ true
    → (m ≤ length past) × ((x : ℕ) → granted t past m x ≡ false)
unfolding has_ended granted
ended_bare t [] m h = absurd (let n : false ≡ true = h in cc)
ended_bare t (step ∷ past) m h =
    (elim (ends step past m) as (λ b. ends step past m ≡ b → (b || has_ended past m) ≡ true → (m ≤ length (step ∷ past)) × ((x : ℕ) → granted t (step ∷ past) m x ≡ false)) [
      | true ↦ λ e k. let old = end_born step past m e in (omega (arith, old), λ x. later x old ∙ ap (λ b. not b && granted t past m x) e)
      | false ↦ λ e k. let before = ended_bare t past m k in let old = before.0 in (omega (arith, old), λ x. later x old ∙ ap (λ b. not (ends step past m) && b) (before.1 x) ∙ and-false (not (ends step past m)))
    ]) refl h
  where
    later : (x : ℕ) → m ≤ length past → granted t (step ∷ past) m x ≡ (not (ends step past m) && granted t past m x)
    later x old =
        ap
        (λ b. if b then is_lent t (effect step) past x (λ n. granted t past n x) else not (ends step past m) && granted t past m x)
        (less-differ m (next_number past) (omega (arith, old)))

-- ---- a client of such a lessee

module _ (t : Topology) (past : List AnsweredEvent) (w : Rows) (p : Lending t past w) (c m lessor : ℕ) (opened : is_open w c ≡ true) (its : master_in past c ≡ Some m) (lent : lessor_in past m ≡ Some lessor) (over : has_ended past m ≡ true) where
  master_is : master_of w c ≡ Some m
  master_is = (open_stands past w p.0.0.0.1 c opened).1 ∙ its

  there : is_there w.masters m ≡ true
  there = subst (λ (o : Option ℕ). IfSome o (λ m. is_there w.masters m ≡ true)) master_is (master_there w c p.0.0.1.1)

  lessor_is : lessor_of w.masters m ≡ Some lessor
  lessor_is = lessor_same past w p.0.1 p.0.0.1 m there ∙ lent

  bare : (x : ℕ) → is_granted w m x ≡ false
  bare x = p.1 m x ∙ (ended_bare t past m over).1 x

  controls_none : (x : ℕ) → controls w c x ≡ false
  unfolding controls
  controls_none x = (λ i. master_controls w (master_is i) x) ∙ (λ i. not (is_some (lessor_is i)) || bare x i)

  sees_none : (x : ℕ) → is_encoder w.topology x ≡ false → sees w c x ≡ false
  unfolding sees
  sees_none x e =
      ap (λ b. is_encoder w.topology x || (b && (not (is_primary_or_cursor w.topology x) || has_universal w c)))
      (controls_none x)
      ∙ (λ i. e i || false)

  no_crtc : (x : ℕ) → sees_crtc w c x ≡ false
  no_crtc x = elim (is_crtc w.topology x) as (λ b. is_crtc w.topology x ≡ b → (b && sees w c x) ≡ false) [ true ↦ λ e. sees_none x (crtc_apart w.topology x e) | false ↦ λ e. refl ] refl

  no_plane : (x : ℕ) → sees_plane w c x ≡ false
  no_plane x = elim (is_plane w.topology x) as (λ b. is_plane w.topology x ≡ b → (b && sees w c x) ≡ false) [ true ↦ λ e. sees_none x (plane_apart w.topology x e) | false ↦ λ e. refl ] refl

  no_connector : (x : ℕ) → sees_connector w c x ≡ false
  no_connector x = elim (is_connector w.topology x) as (λ b. is_connector w.topology x ≡ b → (b && sees w c x) ≡ false) [ true ↦ λ e. sees_none x (connector_apart w.topology x e) | false ↦ λ e. refl ] refl

  crtcs : visible_crtcs w c ≡ []
  crtcs =
      filter_none (sees w c) (crtc_ids w.topology)
      (all_weaker (λ x. list_any (λ y. y == x) (crtc_ids w.topology) ≡ true) (λ x. sees w c x ≡ false) (λ x e. sees_none x (crtc_apart w.topology x e)) (crtc_ids w.topology) (each_is_there (λ x. x) (crtc_ids w.topology)))

  planes : visible_planes w c ≡ []
  planes =
      filter_none (sees w c) (plane_ids w.topology)
      (all_weaker (λ x. list_any (λ y. y == x) (plane_ids w.topology) ≡ true) (λ x. sees w c x ≡ false) (λ x e. sees_none x (plane_apart w.topology x e)) (plane_ids w.topology) (each_is_there (λ x. x) (plane_ids w.topology)))

  connectors : visible_connectors w c ≡ []
  connectors =
      filter_none (sees w c) (connector_ids w.topology)
      (all_weaker (λ x. list_any (λ y. y == x) (connector_ids w.topology) ≡ true) (λ x. sees w c x ≡ false) (λ x e. sees_none x (connector_apart w.topology x e)) (connector_ids w.topology) (each_is_there (λ x. x) (connector_ids w.topology)))

  -- its lease is empty
  lease : granted_of w (caller_master w c) ≡ []
  lease =
      ap (λ o. granted_of w (unwrap_or o 0)) master_is
      ∙ ap (map (λ (row : GrantRow). row.mode_object))
      (filter_none (λ (row : GrantRow). row.master == m) w.grants (all_weaker (λ (row : GrantRow). ((row.master == row.master) && (row.mode_object == row.mode_object)) ≡ true → is_granted w row.master row.mode_object ≡ true) (λ (row : GrantRow). (row.master == m) ≡ false) (λ row f. other row (f (λ i. eq-eqb row.master row.master refl i && eq-eqb row.mode_object row.mode_object refl i))) w.grants (each_any (λ (x y : GrantRow). (y.master == x.master) && (y.mode_object == x.mode_object)) w.grants)))
    where
      other : (row : GrantRow) → is_granted w row.master row.mode_object ≡ true → (row.master == m) ≡ false
      other row e = elim (row.master == m) as (λ b. (row.master == m) ≡ b → b ≡ false) [ true ↦ λ is. absurd (let n : false ≡ true = sym (bare row.mode_object) ∙ ap (λ k. is_granted w k row.mode_object) (sym (eqb-true row.master m is)) ∙ e in cc) | false ↦ λ is. refl ] refl

  lessee : is_lessee w c ≡ true
  lessee = ap (λ o. is_some (option_and_then (lessor_of w.masters) o)) master_is ∙ ap is_some lessor_is

  clash : (b : Bool) → b ≡ false → b ≡ true → ⊥
  clash b e k = let n : false ≡ true = sym e ∙ k in cc

  no_lease : (ids : List ℕ) → list_any (is_crtc w.topology) ids ≡ true → list_all (is_seen w c) ids ≡ true
      → list_all (is_leasable w) ids ≡ true → ⊥
  no_lease ids crtc seen leasable =
      let it =
      some_passing (is_crtc w.topology) (λ x. (is_seen w c x ≡ true) × (is_leasable w x ≡ true)) ids
      (all_both (λ x. is_seen w c x ≡ true) (λ x. is_leasable w x ≡ true) (λ x. (is_seen w c x ≡ true) × (is_leasable w x ≡ true)) (λ x a b. (a, b)) ids (each_passes (is_seen w c) ids seen) (each_passes (is_leasable w) ids leasable))
      crtc in
      let parts =
      seen_named (is_some (kind_of w.topology it.0)) (sees w c it.0) (is_encoder w.topology it.0)
      (is_framebuffer w it.0) it.2.0 it.2.1 in
      clash (sees w c it.0) (sees_none it.0 parts.1) parts.0

  sees_nothing : (call : Call) → verdict w (Ask c call) ≡ None → SeesNothing call (answer_of w (Ask c call))
  unfolding answer_of meaning sorted_by
  sees_nothing Version v = tt
  sees_nothing (GetCrtc crtc) v = clash (sees_crtc w c crtc) (no_crtc crtc) (rules_hold w c (GetCrtc crtc) v).0
  sees_nothing (SetCrtc crtc framebuffer connector) v =
      clash (sees_crtc w c crtc) (no_crtc crtc)
      (and_parts (sees_crtc w c crtc) _ (rules_hold w c (SetCrtc crtc framebuffer connector) v).0).0
  sees_nothing (GetConnector connector) v =
      clash (sees_connector w c connector) (no_connector connector) (rules_hold w c (GetConnector connector) v).0
  sees_nothing (GetPlane plane) v = clash (sees_plane w c plane) (no_plane plane) (rules_hold w c (GetPlane plane) v).0
  sees_nothing (SetPlane plane crtc framebuffer) v =
      clash (sees_plane w c plane) (no_plane plane)
      (and_parts (sees_plane w c plane) _ (rules_hold w c (SetPlane plane crtc framebuffer) v).0).0
  sees_nothing (CreateLease ids) v =
      let rules = rules_hold w c (CreateLease ids) v in
      no_lease ids
      (and_parts (list_any (is_crtc w.topology) ids) _ (and_parts (list_any (is_crtc w.topology) ids && list_any (is_connector w.topology) ids) _ rules.1.1.1.1.0).0).0
      rules.1.0 rules.1.1.0
  sees_nothing GetResources v =
      (encoder_ids w.topology, own_framebuffers w c, λ i. Resources (crtcs i) (connectors i) (encoder_ids w.topology) (own_framebuffers w c))
  sees_nothing GetPlaneResources v = ap ListIs planes
  sees_nothing GetLease v =
      ap (λ b. ListIs (if b then rising (granted_of w (caller_master w c)) else leasable_ids w.topology)) lessee
      ∙ ap (λ ids. ListIs (rising ids)) lease
  sees_nothing (GetEncoder encoder) v = ap (λ ids. Number (mask_over w.topology encoder ids)) crtcs
  sees_nothing _ v = tt

accepted : (w : Rows) (c : ℕ) (call : Call) (v : Option Rule) → verdict w (Ask c call) ≡ v
    → (verdict w (Ask c call) ≡ None → SeesNothing call (answer_of w (Ask c call)))
    → is_accepted (reply_by v w (Ask c call)) ≡ true → SeesNothing call (reply_by v w (Ask c call))
accepted w c call (Some rule) e f h = absurd (let n : false ≡ true = h in cc)
accepted w c call None e f h = f e

-- A client whose lease ended before gets no answer that describes a CRTC, a connector or a plane.
pub keeps_seeing_nothing : (t : Topology) (past : List AnsweredEvent) (w : Rows) (event : Event) → Lending t past w
    → KeepsSeeingNothing (replied w event) past
unfolding reply
keeps_seeing_nothing t past w (Open opening) p = tt
keeps_seeing_nothing t past w (Ask c call) p =
    λ m lessor its lent over h. accepted w c call (verdict w (Ask c call)) refl
    (λ v. sees_nothing t past w p c m lessor (caller_open w c call v) its lent over call v) h
keeps_seeing_nothing t past w (Close c) p = tt
