-- What CREATE_LEASE asks of a caller, and the numbers of a new lessee, by rows and by what the device keeps.
use Rattle.std.proofs.Common.{◌≡◌, ℕ, ◌+◌, ◌==◌, true, false, not, ◌&&◌, ◌||◌, List, [], ◌++◌, filter, find, Option, None, Some, refl, sym, ap, ◌∙◌}
use Rattle.std.specs.Prelude.{nat_lt, unwrap_or, if◌then◌else◌}
use Rattle.std.specs.Cmp.{both_ways}
use Rattle.std.specs.List.{list_any, list_all, AllByRecursion}
use Rattle.std.specs.Option.{is_some, option_map, option_and_then, option_or}
use Rattle.std.proofs.lemmas.Bool.{eqb-true}
use Rattle.drm_index_array.specs.Least.{least}
use Rattle.drm_index_array.specs.Chains.{top_of, depth_of}
use Rattle.drm_index_array.proofs.Lists.{all_each, all_both, list_any-map, list_any_gives, some_passing}
use Rattle.drm_index_array.proofs.Orders.{same-any}
use Rattle.drm_index_array.proofs.Rising.{found, any_found, all_found_apart}
use Rattle.drm_table.specs.declared.calls.Call.TheVariants.{CreateLease}
use Rattle.drm_table.specs.declared.events.Event.TheVariants.{Ask}
use Rattle.drm_table.specs.Permit.{first_failing}
use Rattle.drm_modes.specs.LeaseRules.{last_depth, rules_in_order}
use Rattle.drm_modes.specs.Topology.{is_encoder, kind_of, planes_of}
use Rattle.drm_masters.specs.declared.rows.Master.{Master}
use Rattle.drm_masters.specs.Masters as masters
use Rattle.drm_masters.specs.Masters.{is_step_number, is_option}
use Rattle.drm_leases.specs.declared.rows.Grant.{Grant}
use Rattle.drm_leases.specs.Tokens.{LeaseToken}
use Rattle.drm_leases.specs.Leases as leases
use Rattle.drm_leases.specs.Leases.{is_token, is_token_of, token_of}
use Rattle.drm_leases.specs.Rules as rules
use Rattle.drm_leases.specs.Rules.{lease_checks}
use Rattle.drm_model.specs.Rows.{Rows, MasterRow, GrantRow}
use Rattle.drm_model.specs.Masters.{lessor_of, owner_of}
use Rattle.drm_model.specs.Magics.{caller_master}
use Rattle.drm_model.specs.Leases as model
use Rattle.drm_model.specs.Calls.{meaning}
use Rattle.drm_model.specs.Verdict.{admission_checks, verdict}
use Rattle.drm_state.specs.declared.state.State.{State}
use Rattle.drm_state.specs.declared.caller.PrimaryCaller.{PrimaryCaller}
use Rattle.drm_state.specs.Callers.{IsPrimaryCaller}
use Rattle.drm_state.specs.Parts.{master_row_of, masters_of, grant_row_of, grants_of}
use Rattle.drm_state.specs.Invariants.{MeetsInvariants, AreOfLessees}
use Rattle.drm_state.specs.Refinement.{Represents}
use Rattle.drm_state.proofs.Represented.{bounds_are, masters_are, grants_are, last_lease_token_is, leases_so, tokens_of_lessees}
use Rattle.drm_state.proofs.StayingMasters.{above_is}
use Rattle.drm_state.proofs.Framing.{framebuffer_is}
use Rattle.drm_state.proofs.Refinements.{call_verdict}
use Rattle.drm_state.proofs.Seeing.{topology_is, controls_is, universal_is, seen_is}
use Rattle.drm_state.proofs.SharedLookups.{or_else_is}

-- ---- open tokens

-- a master has the token open where an open token has the number
token_open : (tokens : List LeaseToken) (ms : List Master) → AreOfLessees tokens ms
    → AllByRecursion (λ (row : LeaseToken). find (is_token_of row.master) tokens ≡ Some row) tokens → (t : ℕ) →
    list_any (λ (x : Master). is_option t (token_of tokens x.step_number)) ms ≡ list_any (is_token t) tokens
token_open tokens ms of found_all t =
    both_ways (list_any (λ (x : Master). is_option t (token_of tokens x.step_number)) ms) (list_any (is_token t) tokens)
    down up
  where
    by_token : (m : ℕ) (o : Option LeaseToken) → find (is_token_of m) tokens ≡ o
        → is_option t (option_map (λ (row : LeaseToken). row.token) o) ≡ true → list_any (is_token t) tokens ≡ true
    by_token m None e k = absurd (let n : false ≡ true = k in cc)
    by_token m (Some row) e k = any_found (is_token_of m) (is_token t) row tokens e k

    down : list_any (λ (x : Master). is_option t (token_of tokens x.step_number)) ms ≡ true
        → list_any (is_token t) tokens ≡ true
    down =
        list_any_gives (λ (x : Master). is_option t (token_of tokens x.step_number)) (list_any (is_token t) tokens)
        (λ x e. by_token x.step_number (find (is_token_of x.step_number) tokens) refl e) ms

    by_master : (row : LeaseToken) → find (is_token_of row.master) tokens ≡ Some row → is_token t row ≡ true
        → (o : Option Master) → find (is_step_number row.master) ms ≡ o
        → is_some (option_and_then (λ (x : Master). x.lessor) o) ≡ true →
        list_any (λ (x : Master). is_option t (token_of tokens x.step_number)) ms ≡ true
    by_master row its is None e k = absurd (let n : false ≡ true = k in cc)
    by_master row its is (Some x) e k =
        let num : x.step_number ≡ row.master =
        eqb-true x.step_number row.master
        (found (is_step_number row.master) (λ _. Unit {0}) x ms (all_each (λ _. Unit {0}) (λ _. tt) ms) e).0 in
        any_found (is_step_number row.master) (λ (x : Master). is_option t (token_of tokens x.step_number)) x ms e
        (ap (λ n. is_option t (token_of tokens n)) num ∙ ap (λ o. is_option t (option_map (λ (row : LeaseToken). row.token) o)) its ∙ is)

    up : list_any (is_token t) tokens ≡ true
        → list_any (λ (x : Master). is_option t (token_of tokens x.step_number)) ms ≡ true
    up e =
        let it = some_passing (is_token t) (λ (row : LeaseToken). (masters.is_lessee ms row.master ≡ true) × (find (is_token_of row.master) tokens ≡ Some row)) tokens
        (all_both (λ (row : LeaseToken). masters.is_lessee ms row.master ≡ true) (λ (row : LeaseToken). find (is_token_of row.master) tokens ≡ Some row) (λ (row : LeaseToken). (masters.is_lessee ms row.master ≡ true) × (find (is_token_of row.master) tokens ≡ Some row)) (λ row a b. (a, b)) tokens of found_all) e in
        by_master it.0 it.2.1 it.1 (find (is_step_number it.0.master) ms) refl it.2.0

module _ (s : State) (w : Rows) (t : MeetsInvariants s) (h : Represents s w) where
  abbrev ms : List Master
  ms = s.masters.masters

  -- ---- a new token

  free_is : (token : ℕ) → model.is_free_lease_token w token ≡ leases.is_free s.leases.tokens token
  free_is token =
      ap (λ rows. not (list_any (λ (row : MasterRow). is_option token row.lease_token) rows)) (masters_are s w h)
      ∙ ap not (list_any-map (λ (row : MasterRow). is_option token row.lease_token) (master_row_of s.leases.tokens) ms
      ∙ token_open s.leases.tokens ms (tokens_of_lessees s t) (all_found_apart (λ (row : LeaseToken). row.master) s.leases.tokens (leases_so s t).lessees_differ) token)

  -- The next lease token is the same by rows as in the state.
  pub next_is : model.next_lease_token w ≡ leases.next_token s.leases
  next_is =
      (λ i. option_or (least (λ token. free_is token i) (last_lease_token_is s w h i + 1) (sym (bounds_are s w h).9 i)) (least (λ token. free_is token i) 1 (sym (bounds_are s w h).9 i)))
      ∙ or_else_is (least (leases.is_free s.leases.tokens) (unwrap_or s.leases.last_given 0 + 1) s.leases.last)
      (least (leases.is_free s.leases.tokens) 1 s.leases.last)

  -- ---- a new id

  lessee_of_is : (owner id : ℕ)
      → list_any (model.is_lessee_of w.masters owner id) w.masters ≡ list_any (masters.is_lessee_of ms owner id) ms
  lessee_of_is owner id =
      ap (λ rows. list_any (model.is_lessee_of rows owner id) rows) (masters_are s w h)
      ∙ list_any-map (model.is_lessee_of (masters_of s) owner id) (master_row_of s.leases.tokens) ms
      ∙
      (λ i. list_any (λ (x : Master). is_some x.lessor && (x.lessee_id == id) && (top_of (above_is s.leases.tokens ms i) x.step_number == owner)) ms)

  owner_is : (m : ℕ) → owner_of w.masters m ≡ masters.owner_of ms m
  owner_is m = (λ i. owner_of (masters_are s w h i) m) ∙ (λ i. top_of (above_is s.leases.tokens ms i) m)

  -- The free id of a lessee is the same by rows as in the state.
  pub free_lessee_is : (m : ℕ) → model.free_lessee w m ≡ masters.free_lessee s.masters m
  free_lessee_is m =
      (λ i. least (λ id. not (list_any (model.is_lessee_of w.masters (owner_is m i) id) w.masters)) 1 (sym (bounds_are s w h).8 i))
      ∙ (λ i. least (λ id. not (lessee_of_is (masters.owner_of ms m) id i)) 1 s.masters.last_lessee)

  -- ---- how deep a master is

  may_lease_is : (m : ℕ) → model.may_lease w.masters m ≡ rules.may_lease ms m
  may_lease_is m =
      (λ i. model.may_lease (masters_are s w h i) m)
      ∙ (λ i. nat_lt (depth_of (above_is s.leases.tokens ms i) m) last_depth)

  -- ---- the ids

  module _ (caller : PrimaryCaller) (is : IsPrimaryCaller s caller) where
    abbrev own_master : ℕ
    own_master = caller.member.master

    seen_here : (k : ℕ)
        → model.is_seen w caller.client k ≡ rules.is_seen s.leases.grants ms s.modes own_master caller.flags.universal k
    seen_here k =
        λ i. (is_some (kind_of (topology_is s w h i) k) && seen_is s w caller is h k i) || framebuffer_is s w t h k i

    -- The objects of a new lease are the same by rows as in the state.
    pub leased_is : (ids : List ℕ)
        → model.leased w caller.client ids ≡ rules.leased s.leases s.masters s.modes own_master caller.flags.universal ids
    leased_is ids =
        λ i. ids ++
        (if universal_is s w caller is h i then [] else filter (λ k. controls_is s w caller is h k i) (planes_of (topology_is s w h i) ids))

    leasable_is : (k : ℕ) → model.is_leasable w k ≡ rules.is_leasable s.modes k
    leasable_is k = λ i. not (is_encoder (topology_is s w h i) k || framebuffer_is s w t h k i)

    leased_out_is : (m k : ℕ) → model.is_leased_out w m k ≡ leases.is_leased_out s.leases.grants ms m k
    leased_out_is m k =
        ap
        (λ rows. list_any (λ (row : GrantRow). (row.mode_object == k) && is_option m (lessor_of rows row.master)) w.grants)
        (masters_are s w h)
        ∙ same-any (λ (row : GrantRow). (row.mode_object == k) && is_option m (lessor_of (masters_of s) row.master))
        w.grants (grants_of s) (grants_are s w h)
        ∙ list_any-map (λ (row : GrantRow). (row.mode_object == k) && is_option m (lessor_of (masters_of s) row.master))
        grant_row_of s.leases.grants
        ∙
        (λ i. list_any (λ (g : Grant). (g.mode_object == k) && is_option m (above_is s.leases.tokens ms i g.master)) s.leases.grants)

    -- CREATE_LEASE is denied by the first of its rules that fails in the state.
    pub create_verdict : (ids : List ℕ) → caller_master w caller.client ≡ own_master
        → first_failing (admission_checks w caller.client (CreateLease ids)) ≡ None →
        verdict w (Ask caller.client (CreateLease ids)) ≡ first_failing
        (lease_checks s.leases s.masters s.modes own_master caller.flags.universal ids)
    unfolding meaning lease_checks
    create_verdict ids own admitted =
        call_verdict w caller.client (CreateLease ids) admitted
        ∙ (λ i. first_failing (model.create_lease_of w caller.client (own i) ids).checks)
        ∙ (λ i. first_failing (
        rules_in_order
        (may_lease_is own_master i)
        (list_all (λ k. seen_here k i) ids)
        (list_all (λ k. leasable_is k i) ids)
        (list_all (rules.stands_once ids) ids)
        (rules.is_lease (topology_is s w h i) (universal_is s w caller is h i) ids)
        (not (list_any (λ k. leased_out_is own_master k i) (leased_is ids i)))
        (is_some (free_lessee_is own_master i) && is_some (next_is i))))
