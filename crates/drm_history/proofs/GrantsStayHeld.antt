-- The master of each grant stays held as long as the grant is there, and what a sweep leaves is held as before.
use Rattle.std.proofs.Common.{◌≡◌, ℕ, ◌==◌, Bool, true, false, not, ◌&&◌, ◌||◌, ◌⊎◌, inl, inr, List, [], ◌∷◌, ◌++◌, filter, map, find, Option, None, Some, refl, sym, ap, ◌∙◌, subst, arith, eq-eqb}
use Rattle.std.specs.Prelude.{if◌then◌else◌, IfSome}
use Rattle.std.specs.List.{list_any, AllByRecursion}
use Rattle.std.specs.Option.{is_some, option_map, option_and_then}
use Rattle.std.proofs.lemmas.Bool.{eqb-true, and_parts, or_left, or_right, false_from_ne_true}
use Rattle.drm_index_array.proofs.Lists.{all_both, all_weaker, all_each, all_append, all_filter, filter_true, list_any_left, list_any_right}
use Rattle.drm_index_array.proofs.Each.{each_any, any_filter, any_mapped}
use Rattle.drm_index_array.proofs.FoundInLists as found
use Rattle.drm_index_array.proofs.Rising.{any_more, all_found}
use Rattle.drm_index_array.proofs.Chains.{IsFalling, itself, above_too}
use Rattle.drm_table.specs.declared.calls.Call.{Call}
use Rattle.drm_table.specs.declared.calls.Call.TheVariants.{Version, SetClientCap, AuthMagic, SetMaster, CreateLease, RevokeLease}
use Rattle.drm_table.specs.declared.events.Event.{Event}
use Rattle.drm_table.specs.declared.events.Event.TheVariants.{Open, Ask, Close}
use Rattle.drm_table.specs.declared.events.Opening.TheVariants.{Primary, Render, Lease}
use Rattle.drm_table.specs.declared.rules.Rule.{Rule}
use Rattle.drm_model.specs.Rows.{Rows, ClientRow, MasterRow, GrantRow, step_number, is_option, is_client, client_row, is_open}
use Rattle.drm_model.specs.StepNumbers.{IsMadeMaster, MadeInTurn}
use Rattle.drm_model.specs.Buffers.{with_object}
use Rattle.drm_model.specs.Endings.{is_open_lease}
use Rattle.drm_model.specs.Masters.{master_row, lessor_of, is_under}
use Rattle.drm_model.specs.Leases.{ended, lease_master, lessee_master, new_lessee, grant, leased}
use Rattle.drm_model.specs.Magics.{caller_master, magic_client, is_current, is_master, mastered, with_authenticated}
use Rattle.drm_model.specs.Capabilities.{with_client_capability}
use Rattle.drm_model.specs.Clients.{opened, opened_primary, closed, ended_if, ended_own}
use Rattle.drm_model.specs.Calls.{meaning}
use Rattle.drm_model.specs.Verdict.{verdict}
use Rattle.drm_model.proofs.EventChanges.{opened_row}
use Rattle.drm_model.specs.Change.{changed, swept, journaled, is_held, is_living}
use Rattle.drm_model.proofs.StepNumbers.{changed-step_numbers}
use Rattle.drm_model.proofs.OlderLessors.{changed-made, lessor_there}
use Rattle.drm_history.specs.History.{AnsweredEvent}
use Rattle.drm_history.specs.MasterState.{master_state, lease_in}
use Rattle.drm_history.proofs.AlwaysHolds.{IsReached, denied, carried}
use Rattle.drm_history.proofs.Rules.{caller_open, closer_open}
use Rattle.drm_history.proofs.Tokens.{TokensTold, TokenTold}
use Rattle.drm_history.proofs.Stands.{StandsBy, Ranked, row_stands, open_stands, lease_told, ranks_denied, ranks_carried}
use Rattle.drm_history.proofs.NamedMasters.{is_row_of, is_there, holds, is_client_held, is_lease_held, LessorThere, MasterThere, LeaseHeld, Held, or_more, held_without, held_mastered, held_authenticated, held_capable, own_apart, non_master_apart, lone_apart, lessors_there, clients_there, device_held}

-- ---- grants of what ends are removed, and the others' tokens stay

under_itself : (rows : List MasterRow) (m : ℕ) → is_under rows m m ≡ true
under_itself rows m = itself (lessor_of rows) m m

module _ (w : Rows) (top : ℕ) where
  token_kept : (m : ℕ) → is_under w.masters top m ≡ false → list_any (is_open_lease m) w.masters ≡ true
      → list_any (is_open_lease m) (ended w top).masters ≡ true
  unfolding ended
  token_kept m out h =
      any_mapped (λ _. Unit {0}) (is_open_lease m) (is_open_lease m) _ (λ row _ e. by row e) w.masters
      (all_each (λ (row : MasterRow). Unit {0}) (λ _. tt) w.masters) h
    where
      by : (row : MasterRow) → is_open_lease m row ≡ true
          → is_open_lease m (if is_under w.masters top row.master then record row { lease_token = None } else row) ≡ true
      by row e =
          let same = eqb-true row.master m (and_parts (row.master == m) (is_some row.lease_token) e).0 in
          ap (λ b. is_open_lease m (if b then record row { lease_token = None } else row))
          (ap (is_under w.masters top) same ∙ out)
          ∙ e

  -- of grants that are not under it: whoever holds clients then
  ended_leases : (clients : List ClientRow)
      → ((m : ℕ) → is_under w.masters top m ≡ false → is_client_held w.clients m ≡ true → is_client_held clients m ≡ true)
      → AllByRecursion (LeaseHeld w) w.grants →
      AllByRecursion
      (λ (row : GrantRow). (list_any (is_open_lease row.master) (ended w top).masters || is_client_held clients row.master) ≡ true)
      (ended w top).grants
  unfolding ended
  ended_leases clients kept h =
      let test = λ (row : GrantRow). not (is_under w.masters top row.master) in
      all_both (λ (row : GrantRow). test row ≡ true) (LeaseHeld w)
      (λ (row : GrantRow). (list_any (is_open_lease row.master) (ended w top).masters || is_client_held clients row.master) ≡ true)
      (λ row out e. let is_out = left_out (is_under w.masters top row.master) out in or_more (list_any (is_open_lease row.master) w.masters) (is_client_held w.clients row.master) _ _ (token_kept row.master is_out) (kept row.master is_out) e)
      (filter test w.grants) (filter_true test w.grants) (all_filter (LeaseHeld w) test w.grants h)
    where
      left_out : (b : Bool) → not b ≡ true → b ≡ false
      left_out true e = absurd (let n : false ≡ true = e in cc)
      left_out false e = refl

-- ---- what a step leaves held, before the sweep

LeasesHeld : Rows → Type 0
LeasesHeld v = AllByRecursion (LeaseHeld v) v.grants

module _ (w v : Rows) (tokens : (m : ℕ) → list_any (is_open_lease m) w.masters ≡ true → list_any (is_open_lease m) v.masters ≡ true) (clients : (m : ℕ) → is_client_held w.clients m ≡ true → is_client_held v.clients m ≡ true) where
  more_held : AllByRecursion (LeaseHeld w) w.grants → AllByRecursion (LeaseHeld v) w.grants
  more_held h =
      all_weaker (LeaseHeld w) (LeaseHeld v)
      (λ row e. or_more (list_any (is_open_lease row.master) w.masters) (is_client_held w.clients row.master) _ _ (tokens row.master) (clients row.master) e)
      w.grants h

primary_leases : (w : Rows) (root universal : Bool) (m : Option ℕ) → Held w
    → LeasesHeld (opened_primary w root universal m)
unfolding LeasesHeld
primary_leases w root universal None h =
    more_held w (opened_primary w root universal None) (λ m e. list_any_left (is_open_lease m) w.masters _ e)
    (λ m e. list_any_left (holds m) w.clients _ e) h.3
primary_leases w root universal (Some d) h =
    more_held w (opened_primary w root universal (Some d)) (λ m e. e) (λ m e. list_any_left (holds m) w.clients _ e) h.3

-- a token that is spent leaves a client of its master
module _ (past : List AnsweredEvent) (w : Rows) (token : ℕ) (root universal : Bool) (told : TokensTold past w) (its : option_map (λ (row : MasterRow). row.master) (lease_master w token) ≡ lease_in past token) where
  spent_held : (m : ℕ) → list_any (is_open_lease m) w.masters ≡ true
      → is_lease_held (changed w (Open (Lease token root universal))) m ≡ true
  unfolding changed opened
  spent_held m h = in_list w.masters told h
    where
      untoken : MasterRow → MasterRow
      untoken row = if is_option token row.lease_token then record row { lease_token = None } else row

      here : (row : MasterRow) (t : Option ℕ) → row.lease_token ≡ t → row.master ≡ m → is_some t ≡ true
          → IfSome t (λ t. lease_in past t ≡ Some row.master)
          → (is_open_lease m (untoken row) ≡ true) ⊎ (is_client_held (w.clients ++ opened_row w (Lease token root universal) ∷ []) m ≡ true)
      here row None e same some k = absurd (let n : false ≡ true = some in cc)
      here row (Some t) e same some k =
          elim (t == token) as (λ b. (t == token) ≡ b → (is_open_lease m (untoken row) ≡ true) ⊎ (is_client_held (w.clients ++ opened_row w (Lease token root universal) ∷ []) m ≡ true)) [
            | true ↦ λ is. inr (list_any_right (holds m) w.clients (opened_row w (Lease token root universal) ∷ []) (ap (λ (o : Option ℕ). is_option m o || false) (its ∙ ap (lease_in past) (sym (eqb-true t token is)) ∙ k ∙ ap Some same) ∙ ap (λ b. b || false) (eq-eqb m m refl)))
            | false ↦ λ is. inl (ap (λ b. is_open_lease m (if b then record row { lease_token = None } else row)) (ap (is_option token) e ∙ is) ∙ ap (λ b. b && is_some row.lease_token) (eq-eqb row.master m same) ∙ ap is_some e)
          ] refl

      in_list : (rows : List MasterRow) → AllByRecursion (TokenTold past) rows → list_any (is_open_lease m) rows ≡ true
          → (list_any (is_open_lease m) (map untoken rows) || is_client_held (w.clients ++ opened_row w (Lease token root universal) ∷ []) m) ≡ true
      in_list [] k e = absurd (let n : false ≡ true = e in cc)
      in_list (row ∷ rows) k e =
          (elim (is_open_lease m row) as (λ b. is_open_lease m row ≡ b → (b || list_any (is_open_lease m) rows) ≡ true → ((is_open_lease m (untoken row) || list_any (is_open_lease m) (map untoken rows)) || is_client_held (w.clients ++ opened_row w (Lease token root universal) ∷ []) m) ≡ true) [
            | true ↦ λ is j. let parts = and_parts (row.master == m) (is_some row.lease_token) is in first (here row row.lease_token refl (eqb-true row.master m parts.0) parts.1 k.0)
            | false ↦ λ is j. or_more (list_any (is_open_lease m) (map untoken rows)) (is_client_held (w.clients ++ opened_row w (Lease token root universal) ∷ []) m) _ _ (λ q. or_right (is_open_lease m (untoken row)) (list_any (is_open_lease m) (map untoken rows)) q) (λ q. q) (in_list rows k.1 j)
          ]) refl e
        where
          first : (is_open_lease m (untoken row) ≡ true) ⊎ (is_client_held (w.clients ++ opened_row w (Lease token root universal) ∷ []) m ≡ true)
              → ((is_open_lease m (untoken row) || list_any (is_open_lease m) (map untoken rows)) || is_client_held (w.clients ++ opened_row w (Lease token root universal) ∷ []) m) ≡ true
          first (inl q) =
              or_left (is_open_lease m (untoken row) || list_any (is_open_lease m) (map untoken rows))
              (is_client_held (w.clients ++ opened_row w (Lease token root universal) ∷ []) m)
              (or_left (is_open_lease m (untoken row)) (list_any (is_open_lease m) (map untoken rows)) q)
          first (inr q) =
              or_right (is_open_lease m (untoken row) || list_any (is_open_lease m) (map untoken rows))
              (is_client_held (w.clients ++ opened_row w (Lease token root universal) ∷ []) m) q

set_leases : (past : List AnsweredEvent) (w : Rows) (a : StandsBy past w) (c : ℕ) (current master : Bool)
    → is_open w c ≡ true → is_master w c ≡ master → Held w → LeasesHeld (mastered w c current master)
unfolding LeasesHeld
set_leases past w a c true master opened is h = h.3
set_leases past w a c false true opened is h = h.3
set_leases past w a c false false opened is h =
    more_held w (mastered w c false false) (λ m e. list_any_left (is_open_lease m) w.masters _ e)
    (λ m e. held_mastered past w a c m (non_master_apart past c m (sym (open_stands past w a c opened).0 ∙ is)) (step_number w) e)
    h.3

lent_held : (w : Rows) (c : ℕ) → (ids : List ℕ)
    → AllByRecursion (LeaseHeld (record w { masters = w.masters ++ new_lessee w (caller_master w c) ∷ [] })) (map (grant (step_number w)) ids)
lent_held w c [] = tt
lent_held w c (x ∷ xs) = (
  or_left (list_any (is_open_lease (step_number w)) (w.masters ++ new_lessee w (caller_master w c) ∷ []))
      (is_client_held w.clients (step_number w))
      (list_any_right (is_open_lease (step_number w)) w.masters _ (ap (λ b. b && true || false) (eq-eqb (step_number w) (step_number w) refl))),
  lent_held w c xs,
)

asked_leases : (past : List AnsweredEvent) (w : Rows) (c : ℕ) (call : Call) → verdict w (Ask c call) ≡ None
    → StandsBy past w → Held w → LeasesHeld (changed w (Ask c call))
unfolding LeasesHeld changed meaning with_object with_authenticated with_client_capability ended
asked_leases past w c Version v a h = h.3
asked_leases past w c SetMaster v a h =
    set_leases past w a c (is_current w c) (is_master w c) (caller_open w c SetMaster v) refl h
asked_leases past w c (SetClientCap cap value) v a h =
    more_held w (changed w (Ask c (SetClientCap cap value))) (λ m e. e)
    (λ m e. held_capable (is_client c) cap (value == 1) w.clients m e) h.3
asked_leases past w c (AuthMagic magic) v a h =
    more_held w (changed w (Ask c (AuthMagic magic))) (λ m e. e)
    (λ m e. held_authenticated (λ row. is_option row.client (magic_client w (caller_master w c) magic)) w.clients m e)
    h.3
asked_leases past w c (CreateLease ids) v a h =
    let more = record w { masters = w.masters ++ new_lessee w (caller_master w c) ∷ [] } in
    all_append (LeaseHeld more) w.grants (map (grant (step_number w)) (leased w c ids))
    (more_held w more (λ m e. list_any_left (is_open_lease m) w.masters _ e) (λ m e. e) h.3)
    (lent_held w c (leased w c ids))
asked_leases past w c (RevokeLease id) v a h =
    ended_leases w (lessee_master w (caller_master w c) id) w.clients (λ m out e. e) h.3
asked_leases past w c _ v a h = h.3

module _ (past : List AnsweredEvent) (w : Rows) (a : StandsBy past w) (c : ℕ) where
  StillHeld : List MasterRow → GrantRow → Type 0
  StillHeld masters row =
      (list_any (is_open_lease row.master) masters || is_client_held (filter (λ row. not (is_client c row)) w.clients) row.master)
      ≡ true

  close_leases : (is_master : Bool) (master : Option ℕ) → (master_state past).is_master c ≡ is_master
      → (master_state past).master c ≡ master → Held w
      → AllByRecursion (StillHeld (ended_if w is_master master).masters) (ended_if w is_master master).grants
  unfolding StillHeld
  close_leases true (Some own) is e h =
      ended_leases w own (filter (λ row. not (is_client c row)) w.clients)
      (λ m out k. held_without past w a c m (own_apart past w a c own m e (other own m out)) k) h.3
    where
      other : (own m : ℕ) → is_under w.masters own m ≡ false → (m == own) ≡ false
      other own m out =
          false_from_ne_true (m == own)
          (λ same. let n : false ≡ true = sym out ∙ ap (λ t. is_under w.masters t m) (sym (eqb-true m own same)) ∙ under_itself w.masters m in cc)
  close_leases true None is e h =
      all_weaker (LeaseHeld w) (StillHeld w.masters)
      (λ row k. or_more (list_any (is_open_lease row.master) w.masters) (is_client_held w.clients row.master) _ _ (λ j. j) (held_without past w a c row.master (lone_apart past c row.master e)) k)
      w.grants h.3
  close_leases false master is e h =
      all_weaker (LeaseHeld w) (StillHeld w.masters)
      (λ row k. or_more (list_any (is_open_lease row.master) w.masters) (is_client_held w.clients row.master) _ _ (λ j. j) (held_without past w a c row.master (non_master_apart past c row.master is)) k)
      w.grants h.3

  closed_leases : (o : Option ClientRow) → client_row w c ≡ o → is_some o ≡ true → Held w
      → AllByRecursion (StillHeld (ended_own w o).masters) (ended_own w o).grants
  closed_leases None e opened h = absurd (let n : false ≡ true = opened in cc)
  closed_leases (Some row) e opened h = let told = row_stands (master_state past) w c row a.clients e in close_leases row.is_master row.master (sym told.0) (sym told.1) h

leases_held : (past : List AnsweredEvent) (w : Rows) (event : Event) → IsReached past w → verdict w event ≡ None
    → Ranked past w → Held w → LeasesHeld (changed w event)
unfolding LeasesHeld changed opened closed StillHeld
leases_held past w (Open (Primary root universal)) r v p h = primary_leases w root universal w.device_master h
leases_held past w (Open Render) r v p h =
    more_held w (changed w (Open Render)) (λ m e. e) (λ m e. list_any_left (holds m) w.clients _ e) h.3
leases_held past w (Open (Lease token root universal)) r v p h =
    let its = lease_told past w r p.1 p.0 token root universal v in
    all_weaker (LeaseHeld w) (LeaseHeld (changed w (Open (Lease token root universal))))
    (λ row e. still row.master (spent_held past w token root universal p.0 its row.master) e) w.grants h.3
  where
    still : (m : ℕ)
        → (list_any (is_open_lease m) w.masters ≡ true → is_lease_held (changed w (Open (Lease token root universal))) m ≡ true)
        → is_lease_held w m ≡ true → is_lease_held (changed w (Open (Lease token root universal))) m ≡ true
    still m spent e =
        elim (list_any (is_open_lease m) w.masters) as (λ b. list_any (is_open_lease m) w.masters ≡ b → (b || is_client_held w.clients m) ≡ true → is_lease_held (changed w (Open (Lease token root universal))) m ≡ true) [
          | true ↦ λ is k. spent is
          | false ↦ λ is k. or_right (list_any (is_open_lease m) (changed w (Open (Lease token root universal))).masters) (is_client_held (changed w (Open (Lease token root universal))).clients m) (list_any_left (holds m) w.clients _ k)
        ] refl e
leases_held past w (Ask c call) r v p h = asked_leases past w c call v p.1 h
leases_held past w (Close c) r v p h = closed_leases past w p.1 c (client_row w c) refl (closer_open w c v) h

held_changed : (past : List AnsweredEvent) (w : Rows) (event : Event) → IsReached past w → verdict w event ≡ None
    → Ranked past w → Held w → Held (changed w event)
unfolding LeasesHeld
held_changed past w event r v p h =
    (lessors_there w event v h, clients_there w event h, device_held past w event v p.1 h, leases_held past w event r v p h)

-- ---- the sweep

module _ (v : Rows) (falls : IsFalling (lessor_of v.masters)) where
  held_lives : AllByRecursion (λ (row : MasterRow). is_held v row ≡ true → is_living v row.master ≡ true) v.masters
  held_lives =
      all_weaker
      (λ (row : MasterRow). (is_held v row && is_under v.masters row.master row.master) ≡ true → is_living v row.master ≡ true)
      (λ (row : MasterRow). is_held v row ≡ true → is_living v row.master ≡ true)
      (λ row f e. f (ap (λ b. b && is_under v.masters row.master row.master) e ∙ under_itself v.masters row.master))
      v.masters
      (each_any (λ (x y : MasterRow). is_held v y && is_under v.masters x.master y.master) v.masters)

  -- the lessor of who lives
  lessor_lives : (m lessor : ℕ) → lessor_of v.masters m ≡ Some lessor → is_living v m ≡ true → is_living v lessor ≡ true
  lessor_lives m lessor e h =
      any_more (λ _. Unit {0}) (λ row. is_held v row && is_under v.masters m row.master)
      (λ row. is_held v row && is_under v.masters lessor row.master)
      (λ row _ k. let parts = and_parts (is_held v row) (is_under v.masters m row.master) k in ap (λ b. b && is_under v.masters lessor row.master) parts.0 ∙ above_too (lessor_of v.masters) falls row.master m row.master lessor (omega arith) e parts.1)
      v.masters (all_each (λ (row : MasterRow). Unit {0}) (λ _. tt) v.masters) h

  living_there : (m : ℕ) → is_living v m ≡ true → is_there v.masters m ≡ true
      → is_there (filter (λ row. is_living v row.master) v.masters) m ≡ true
  living_there m alive h =
      any_filter (λ _. Unit {0}) (is_row_of m) (λ row. is_living v row.master)
      (λ (row : MasterRow) _ e. ap (is_living v) (eqb-true row.master m e) ∙ alive) v.masters
      (all_each (λ (row : MasterRow). Unit {0}) (λ _. tt) v.masters) h

  -- whom a client names lives
  named_lives : (m : ℕ) → list_any (λ (client : ClientRow). is_option m client.master) v.clients ≡ true
      → is_there v.masters m ≡ true → is_living v m ≡ true
  named_lives m named h = in_list v.masters held_lives h
    where
      of_row : (row : MasterRow) → (is_held v row ≡ true → is_living v row.master ≡ true) → row.master ≡ m
          → is_living v m ≡ true
      of_row row f same =
          subst (λ n. is_living v n ≡ true) same
          (f (or_right (is_some row.lease_token) (list_any (λ (client : ClientRow). is_option row.master client.master) v.clients) (ap (λ n. list_any (λ (client : ClientRow). is_option n client.master) v.clients) same ∙ named)))

      in_list : (rows : List MasterRow)
          → AllByRecursion (λ (row : MasterRow). is_held v row ≡ true → is_living v row.master ≡ true) rows
          → is_there rows m ≡ true → is_living v m ≡ true
      in_list [] k e = absurd (let n : false ≡ true = e in cc)
      in_list (row ∷ rows) k e =
          (elim (row.master == m) as (λ b. (row.master == m) ≡ b → (b || is_there rows m) ≡ true → is_living v m ≡ true) [
            | true ↦ λ is j. of_row row k.0 (eqb-true row.master m is)
            | false ↦ λ is j. in_list rows k.1 j
          ]) refl e

  lessors_swept : AllByRecursion (LessorThere v.masters) v.masters
      → AllByRecursion (λ (row : MasterRow). row.lessor ≡ lessor_of v.masters row.master) v.masters
      → AllByRecursion (LessorThere (filter (λ row. is_living v row.master) v.masters)) (filter (λ row. is_living v row.master) v.masters)
  lessors_swept h own =
      all_both (λ (row : MasterRow). is_living v row.master ≡ true)
      (λ row. LessorThere v.masters row × (row.lessor ≡ lessor_of v.masters row.master))
      (LessorThere (filter (λ row. is_living v row.master) v.masters))
      (λ row alive k. of_row row row.lessor k.0 k.1 alive) (filter (λ row. is_living v row.master) v.masters)
      (filter_true (λ row. is_living v row.master) v.masters)
      (all_filter (λ row. LessorThere v.masters row × (row.lessor ≡ lessor_of v.masters row.master)) (λ row. is_living v row.master) v.masters (all_both (LessorThere v.masters) (λ (row : MasterRow). row.lessor ≡ lessor_of v.masters row.master) (λ row. LessorThere v.masters row × (row.lessor ≡ lessor_of v.masters row.master)) (λ row a b. (a, b)) v.masters h own))
    where
      of_row : (row : MasterRow) (lessor : Option ℕ) → IfSome lessor (λ m. is_there v.masters m ≡ true)
          → lessor ≡ lessor_of v.masters row.master → is_living v row.master ≡ true
          → IfSome lessor (λ m. is_there (filter (λ row. is_living v row.master) v.masters) m ≡ true)
      of_row row None k e alive = tt
      of_row row (Some m) k e alive = living_there m (lessor_lives row.master m (sym e) alive) k

  clients_swept : AllByRecursion (MasterThere v.masters) v.clients
      → AllByRecursion (MasterThere (filter (λ row. is_living v row.master) v.masters)) v.clients
  clients_swept h =
      all_both (MasterThere v.masters)
      (λ (row : ClientRow). IfSome row.master (λ m. list_any (λ (client : ClientRow). is_option m client.master) v.clients ≡ true))
      (MasterThere (filter (λ row. is_living v row.master) v.masters))
      (λ row k named. of_row row.master k named) v.clients h each_named
    where
      of_row : (master : Option ℕ) → IfSome master (λ m. is_there v.masters m ≡ true)
          → IfSome master (λ m. list_any (λ (client : ClientRow). is_option m client.master) v.clients ≡ true)
          → IfSome master (λ m. is_there (filter (λ row. is_living v row.master) v.masters) m ≡ true)
      of_row None k named = tt
      of_row (Some m) k named = living_there m (named_lives m named k) k

      same_master : Option ℕ → Option ℕ → Bool
      same_master None other = false
      same_master (Some m) other = is_option m other

      by : (master : Option ℕ)
          → (same_master master master ≡ true → list_any (λ (client : ClientRow). same_master master client.master) v.clients ≡ true)
          → IfSome master (λ m. list_any (λ (client : ClientRow). is_option m client.master) v.clients ≡ true)
      by None f = tt
      by (Some m) f = f (eq-eqb m m refl)

      each_named : AllByRecursion (λ (row : ClientRow). IfSome row.master (λ m. list_any (λ (client : ClientRow). is_option m client.master) v.clients ≡ true)) v.clients
      each_named =
          all_weaker
          (λ (row : ClientRow). same_master row.master row.master ≡ true → list_any (λ (client : ClientRow). same_master row.master client.master) v.clients ≡ true)
          _ (λ row f. by row.master f) v.clients
          (each_any (λ (x y : ClientRow). same_master x.master y.master) v.clients)

  leases_swept : AllByRecursion (LeaseHeld v) v.grants
      → AllByRecursion (λ (row : GrantRow). (list_any (is_open_lease row.master) (filter (λ row. is_living v row.master) v.masters) || is_client_held v.clients row.master) ≡ true) v.grants
  leases_swept h =
      all_weaker (LeaseHeld v) _
      (λ (row : GrantRow) e. or_more (list_any (is_open_lease row.master) v.masters) (is_client_held v.clients row.master) _ _ (open_kept row.master) (λ k. k) e)
      v.grants h
    where
      open_kept : (m : ℕ) → list_any (is_open_lease m) v.masters ≡ true
          → list_any (is_open_lease m) (filter (λ row. is_living v row.master) v.masters) ≡ true
      open_kept m e =
          any_filter (λ (row : MasterRow). is_held v row ≡ true → is_living v row.master ≡ true) (is_open_lease m)
          (λ row. is_living v row.master)
          (λ row f k. f (or_left (is_some row.lease_token) (list_any (λ (client : ClientRow). is_option row.master client.master) v.clients) (and_parts (row.master == m) (is_some row.lease_token) k).1))
          v.masters held_lives e

  held_swept : AllByRecursion (λ (row : MasterRow). row.lessor ≡ lessor_of v.masters row.master) v.masters → Held v
      → Held (swept v)
  unfolding swept
  held_swept own h = (lessors_swept h.0 own, clients_swept h.1, h.2, leases_swept h.3)

-- ---- a step

lessor_told : (last : ℕ) (rows : List MasterRow) → MadeInTurn (λ (row : MasterRow). row.master) last rows
    → AllByRecursion (λ (row : MasterRow). row.lessor ≡ lessor_of rows row.master) rows
lessor_told last rows h =
    all_weaker (λ (row : MasterRow). find (λ (other : MasterRow). other.master == row.master) rows ≡ Some row)
    (λ (row : MasterRow). row.lessor ≡ lessor_of rows row.master)
    (λ row e. sym (ap (option_and_then (λ (row : MasterRow). row.lessor)) e)) rows
    (all_found (λ (row : MasterRow). row.master) rows h.0)

-- In rows that steps made, a lessor is older than its lessee.
pub falling : (last : ℕ) (rows : List MasterRow) → AllByRecursion (IsMadeMaster last) rows → IsFalling (lessor_of rows)
falling last rows made =
    λ n m e. lessor_there last n m (master_row rows n)
    (found.all_found (IsMadeMaster last) (λ row. row.master == n) rows made)
    (found.found_passes (λ row. row.master == n) rows) e

held_carried : (past : List AnsweredEvent) (w : Rows) (event : Event) → IsReached past w → verdict w event ≡ None
    → Ranked past w → Held w → Held (journaled (swept (changed w event)))
held_carried past w event r v p h =
    let step_numbers = changed-step_numbers w event r.step_numbers in
    let made = changed-made w event r.made in
    held_swept (changed w event) (falling (step_number w) (changed w event).masters made.1)
    (lessor_told (step_number w) (changed w event).masters step_numbers.1) (held_changed past w event r v p h)

-- with the history's master state, and with masters that exist
abbrev pub Rooted : List AnsweredEvent → Rows → Type 0
Rooted past w = Ranked past w × Held w

-- If masters follow from the history and those that rows name exist, that is still so after a denial.
pub rooted_denied : (past : List AnsweredEvent) (w : Rows) (event : Event) (rule : Rule) → Rooted past w
    → Rooted (denied event rule ∷ past) (journaled w)
rooted_denied past w event rule p = (ranks_denied past w event rule p.0, p.1)

-- If masters follow from the history and those that rows name exist, that is still so after an accepted event.
pub rooted_carried : (past : List AnsweredEvent) (w : Rows) (event : Event) → IsReached past w → verdict w event ≡ None
    → Rooted past w → Rooted (carried w event ∷ past) (journaled (swept (changed w event)))
rooted_carried past w event r v p = (ranks_carried past w event r v p.0, held_carried past w event r v p.0 p.1)
