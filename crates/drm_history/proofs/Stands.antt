-- The device's master, and of each client whether it is a master and which it has, are those of the history.
use Rattle.std.proofs.Common.{◌≡◌, ℕ, ◌+◌, ◌≤◌, ◌==◌, Bool, true, false, cond, ◌||◌, List, ◌∷◌, Option, None, Some, refl, sym, ap, ◌∙◌, subst, arith, eq-eqb}
use Rattle.std.specs.Prelude.{if◌then◌else◌, IfSome}
use Rattle.std.specs.List.{AllByRecursion}
use Rattle.std.specs.Option.{is_some, is_none, option_map, option_map_or, option_and_then, option_or}
use Rattle.std.proofs.lemmas.Bool.{eqb-true, and_parts}
use Rattle.drm_index_array.proofs.Lists.{all_both}
use Rattle.drm_index_array.proofs.Numbers.{less-differ}
use Rattle.drm_index_array.proofs.Rising.{found}
use Rattle.drm_table.specs.declared.calls.Call.{Call}
use Rattle.drm_table.specs.declared.calls.Call.TheVariants.{SetClientCap, AuthMagic, SetMaster, DropMaster}
use Rattle.drm_table.specs.declared.events.Event.{Event}
use Rattle.drm_table.specs.declared.events.Event.TheVariants.{Open, Ask, Close}
use Rattle.drm_table.specs.declared.events.Opening.TheVariants.{Primary, Render, Lease}
use Rattle.drm_table.specs.declared.rules.Rule.{Rule}
use Rattle.drm_index_array.proofs.Edits.{either}
use Rattle.drm_model.specs.Rows.{Rows, ClientRow, MasterRow, step_number, is_option, is_client, client_row, is_open}
use Rattle.drm_model.specs.ClientCapabilities.{with_capability}
use Rattle.drm_model.specs.Buffers.{with_object}
use Rattle.drm_model.specs.Masters.{is_owner, master_of, credentials_in}
use Rattle.drm_model.specs.Leases.{ended, lease_master}
use Rattle.drm_model.specs.Magics.{caller_master, is_current, is_master, mastered, magic_client}
use Rattle.drm_model.specs.Clients.{opening_checks, opened, opened_primary, closed, ended_if, ended_own}
use Rattle.drm_model.specs.Calls.{meaning}
use Rattle.drm_model.specs.Verdict.{verdict, checks}
use Rattle.drm_model.proofs.EventChanges.{primary_row, opened_row, set_row}
use Rattle.drm_model.specs.Change.{changed, swept, journaled}
use Rattle.drm_model.specs.Reply.{answer_of}
use Rattle.drm_model.proofs.FewLeased.{rules_hold}
use Rattle.drm_history.specs.History.{AnsweredEvent, next_number}
use Rattle.drm_history.specs.Effects.{effect}
use Rattle.drm_history.specs.MasterState.{MasterState, master_state, transition, put, with_client, with_primary, with_set, owner_without, lease_in}
use Rattle.drm_history.proofs.AlwaysHolds.{IsReached, denied, carried}
use Rattle.drm_history.proofs.Effects.{denied_nothing}
use Rattle.drm_history.proofs.Rules.{caller_open, closer_open, each_holds}
use Rattle.drm_history.proofs.ChangedRows.{clients_after}
use Rattle.drm_history.proofs.Tokens.{TokensTold, TokenTold, tokens_carried, tokens_denied}

abbrev pub ClientStands : MasterState → ClientRow → Type 0
ClientStands s row = (row.is_master ≡ s.is_master row.client) × (row.master ≡ s.master row.client)

pub record Stands (s : MasterState) (w : Rows) : Type 0 where
  pub owner : w.device_master ≡ s.owner
  pub clients : AllByRecursion (ClientStands s) w.clients

abbrev pub StandsBy : List AnsweredEvent → Rows → Type 0
StandsBy past w = Stands (master_state past) w

-- ---- one client

put_other : {X : Type 0} (c d : ℕ) (x : X) (f : ℕ → X) → (d == c) ≡ false → f d ≡ put c x f d
put_other c d x f e = sym (ap (λ b. cond b x (f d)) e)

put_it : {X : Type 0} (c d : ℕ) (x : X) (f : ℕ → X) → (d == c) ≡ true → x ≡ put c x f d
put_it c d x f e = sym (ap (λ b. cond b x (f d)) e)

other_stands : (s : MasterState) (c : ℕ) (is_master : Bool) (master : Option ℕ) (row : ClientRow)
    → (row.client == c) ≡ false → ClientStands s row → ClientStands (with_client c is_master master s) row
other_stands s c is_master master row e h =
    (h.0 ∙ put_other c row.client is_master s.is_master e, h.1 ∙ put_other c row.client master s.master e)

it_stands : (s : MasterState) (c : ℕ) (is_master : Bool) (master : Option ℕ) (row : ClientRow)
    → (row.client == c) ≡ true → row.is_master ≡ is_master → row.master ≡ master
    → ClientStands (with_client c is_master master s) row
it_stands s c is_master master row e h k =
    (h ∙ put_it c row.client is_master s.is_master e, k ∙ put_it c row.client master s.master e)

-- an older client
older : (past : List AnsweredEvent) (w : Rows) (n : ℕ) → IsReached past w → n ≤ w.steps
    → (n == next_number past) ≡ false
older past w n r h = less-differ n (next_number past) (let steps = r.steps in omega (arith, h, steps))

newest : (past : List AnsweredEvent) (w : Rows) → IsReached past w → step_number w ≡ next_number past
newest past w r = ap (λ n. n + 1) r.steps

-- The row of an open client says the same of its master as the history.
pub row_stands : (s : MasterState) (w : Rows) (c : ℕ) (row : ClientRow) → AllByRecursion (ClientStands s) w.clients
    → client_row w c ≡ Some row → (row.is_master ≡ s.is_master c) × (row.master ≡ s.master c)
row_stands s w c row h e =
    let it = found (is_client c) (ClientStands s) row w.clients h e in
    subst (λ d. (row.is_master ≡ s.is_master d) × (row.master ≡ s.master d)) (eqb-true row.client c it.0) it.1

-- ---- openings

abbrev Aged : List AnsweredEvent → Rows → ClientRow → Type 0
Aged past w row = ClientStands (master_state past) row × (row.client ≤ w.steps)

aged : (past : List AnsweredEvent) (w : Rows) → IsReached past w → StandsBy past w
    → AllByRecursion (Aged past w) w.clients
aged past w r a =
    all_both (ClientStands (master_state past)) (λ (row : ClientRow). row.client ≤ w.steps) (Aged past w)
    (λ row h k. (h, k)) w.clients a.clients r.step_numbers.0.1

module _ (past : List AnsweredEvent) (w : Rows) (r : IsReached past w) (a : StandsBy past w) where
  old_stands : (is_master : Bool) (master : Option ℕ) (row : ClientRow) → Aged past w row
      → ClientStands (with_client (next_number past) is_master master (master_state past)) row
  old_stands is_master master row h =
      other_stands (master_state past) (next_number past) is_master master row (older past w row.client r h.1) h.0

  new_stands : (is_master : Bool) (master : Option ℕ) (row : ClientRow) → row.client ≡ step_number w
      → row.is_master ≡ is_master → row.master ≡ master
      → ClientStands (with_client (next_number past) is_master master (master_state past)) row
  new_stands is_master master row e h k =
      it_stands (master_state past) (next_number past) is_master master row
      (eq-eqb row.client (next_number past) (e ∙ newest past w r)) h k

  -- the device's master is that of a primary client, where there is none
  primary_stands : (root universal : Bool) (m : Option ℕ) → (row : ClientRow) → Aged past w row
      → ClientStands (with_primary (next_number past) m (master_state past)) row
  primary_stands root universal None row h = old_stands true (Some (next_number past)) row h
  primary_stands root universal (Some m) row h = old_stands false (Some m) row h

  primary_new : (root universal : Bool) (m : Option ℕ)
      → ClientStands (with_primary (next_number past) m (master_state past)) (primary_row w root universal m)
  primary_new root universal None =
      new_stands true (Some (next_number past)) (primary_row w root universal None) refl refl
      (ap Some (newest past w r))
  primary_new root universal (Some m) = new_stands false (Some m) (primary_row w root universal (Some m)) refl refl refl

  primary_owner : (root universal : Bool) (m : Option ℕ) → w.device_master ≡ m
      → (opened_primary w root universal m).device_master ≡ (with_primary (next_number past) m (master_state past)).owner
  primary_owner root universal None e = ap Some (newest past w r)
  primary_owner root universal (Some m) e = a.owner

  open_primary : (root universal : Bool)
      → StandsBy (carried w (Open (Primary root universal)) ∷ past) (journaled (swept (changed w (Open (Primary root universal)))))
  unfolding master_state effect answer_of swept changed opened
  open_primary root universal =
      subst (λ (m : Option ℕ). Stands (with_primary (next_number past) m (master_state past)) (journaled (swept (changed w (Open (Primary root universal)))))) a.owner (record {
        owner = primary_owner root universal w.device_master refl;
        clients =
            clients_after w (ClientStands (with_primary (next_number past) w.device_master (master_state past)))
            (Open (Primary root universal)) (Aged past w) (primary_stands root universal w.device_master)
            (primary_new root universal w.device_master) (aged past w r a);
      })

  open_render : StandsBy (carried w (Open Render) ∷ past) (journaled (swept (changed w (Open Render))))
  unfolding master_state effect answer_of swept changed opened
  open_render = record {
    owner = a.owner;
    clients =
        clients_after w (ClientStands (with_client (next_number past) false None (master_state past))) (Open Render)
        (Aged past w) (old_stands false None) (new_stands false None (opened_row w Render) refl refl refl)
        (aged past w r a);
  }

  redeemed : TokensTold past w → (token : ℕ) (o : Option MasterRow) → lease_master w token ≡ o → is_some o ≡ true
      → option_map (λ (row : MasterRow). row.master) o ≡ lease_in past token
  redeemed told token None e h = absurd (let n : false ≡ true = h in cc)
  redeemed told token (Some row) e h =
      let it = found (λ (row : MasterRow). is_option token row.lease_token) (TokenTold past) row w.masters told e in
      by row.lease_token it.0 it.1
    where
      by : (t : Option ℕ) → is_option token t ≡ true → IfSome t (λ t. lease_in past t ≡ Some row.master)
          → Some row.master ≡ lease_in past token
      by None is k = absurd (let n : false ≡ true = is in cc)
      by (Some t) is k = sym k ∙ ap (lease_in past) (eqb-true t token is)

  -- A client that redeems a lease token has the master that the history says.
  pub lease_told : TokensTold past w → (token : ℕ) (root universal : Bool)
      → verdict w (Open (Lease token root universal)) ≡ None
      → option_map (λ (row : MasterRow). row.master) (lease_master w token) ≡ lease_in past token
  unfolding checks opening_checks
  lease_told told token root universal v =
      redeemed told token (lease_master w token) refl (each_holds w (Open (Lease token root universal)) v).0

  open_lease : TokensTold past w → (token : ℕ) (root universal : Bool)
      → verdict w (Open (Lease token root universal)) ≡ None
      → StandsBy (carried w (Open (Lease token root universal)) ∷ past) (journaled (swept (changed w (Open (Lease token root universal)))))
  unfolding master_state effect answer_of swept changed opened
  open_lease told token root universal v = record {
    owner = a.owner;
    clients =
        clients_after w (ClientStands (with_client (next_number past) true (lease_in past token) (master_state past)))
        (Open (Lease token root universal)) (Aged past w) (old_stands true (lease_in past token))
        (new_stands true (lease_in past token) (opened_row w (Lease token root universal)) refl refl (lease_told told token root universal v))
        (aged past w r a);
  }

-- ---- SET_MASTER

-- who is current is a master, and the device has one
is_owner_some : (rows : List MasterRow) (device master : Option ℕ) → is_owner rows device master ≡ true
    → (is_some device ≡ true) × (is_some master ≡ true)
is_owner_some rows (Some d) (Some m) h = (refl, refl)
is_owner_some rows (Some d) None h = absurd (let e : false ≡ true = h in cc)
is_owner_some rows None m h = absurd (let e : false ≡ true = h in cc)

current_is : (w : Rows) (o : Option ClientRow) → (credentials_in w o).current ≡ true
    → (option_map_or (λ (row : ClientRow). row.is_master) o false ≡ true) × (is_some w.device_master ≡ true) × (is_some (option_and_then (λ (row : ClientRow). row.master) o) ≡ true)
current_is w None h = absurd (let e : false ≡ true = h in cc)
current_is w (Some row) h = let parts = and_parts row.is_master (is_owner w.masters w.device_master row.master) h in let ends = is_owner_some w.masters w.device_master row.master parts.1 in (parts.0, ends.0, ends.1)

-- A current client is a master, and the device has one.
pub current : (w : Rows) (c : ℕ) → is_current w c ≡ true
    → (is_master w c ≡ true) × (is_some w.device_master ≡ true) × (is_some (master_of w c) ≡ true)
current w c h = current_is w (client_row w c) h

-- what an open client's row says
module _ (past : List AnsweredEvent) (w : Rows) (a : StandsBy past w) (c : ℕ) where
  told_of : (o : Option ClientRow) → client_row w c ≡ o → is_some o ≡ true
      → (option_map_or (λ (row : ClientRow). row.is_master) o false ≡ (master_state past).is_master c) × (option_and_then (λ (row : ClientRow). row.master) o ≡ (master_state past).master c)
  told_of None e h = absurd (let n : false ≡ true = h in cc)
  told_of (Some row) e h = row_stands (master_state past) w c row a.clients e

  -- An open client is a master exactly if the history says so, and has the master that it says.
  pub open_stands : is_open w c ≡ true
      → (is_master w c ≡ (master_state past).is_master c) × (master_of w c ≡ (master_state past).master c)
  open_stands h = told_of (client_row w c) refl h

some_kept : (o other : Option ℕ) → is_some o ≡ true → o ≡ option_or o other
some_kept None other h = absurd (let e : false ≡ true = h in cc)
some_kept (Some x) other h = refl

none_taken : (o : Option ℕ) → is_none o ≡ true → (other : Option ℕ) → other ≡ option_or o other
none_taken None h other = refl
none_taken (Some x) h other = absurd (let e : false ≡ true = h in cc)

or_rest : (a b : Bool) → (a || b) ≡ true → a ≡ false → b ≡ true
or_rest true b h e = absurd (let n : true ≡ false = e in cc)
or_rest false b h e = h

module _ (past : List AnsweredEvent) (w : Rows) (r : IsReached past w) (a : StandsBy past w) (c : ℕ) (opened : is_open w c ≡ true) where
  set_client : (current master : Bool) → (current ≡ true → master ≡ true) → (row : ClientRow)
      → ClientStands (master_state past) row
      → ClientStands (with_set (next_number past) c master (master_state past)) (set_row w c current master row)
  set_client true true is row h = h
  set_client true false is row h = absurd (let e : false ≡ true = is refl in cc)
  set_client false true is row h = h
  set_client false false is row h =
      elim (is_client c row) as (λ b. is_client c row ≡ b → ClientStands (with_client c true (Some (next_number past)) (master_state past)) (if b then record row { authenticated = true; once_master = true; is_master = true; master = Some (step_number w) } else row)) [
        | true ↦ λ e. it_stands (master_state past) c true (Some (next_number past)) (record row { authenticated = true; once_master = true; is_master = true; master = Some (step_number w) }) e refl (ap Some (newest past w r))
        | false ↦ λ e. other_stands (master_state past) c true (Some (next_number past)) row e h
      ] refl

  set_owner : (current master : Bool) → (current ≡ true → (master ≡ true) × (is_some w.device_master ≡ true))
      → (current ≡ false → is_none w.device_master ≡ true)
      → (mastered w c current master).device_master ≡ (with_set (next_number past) c master (master_state past)).owner
  set_owner true true is not_set =
      some_kept w.device_master ((master_state past).master c) (is refl).1
      ∙ ap (λ o. option_or o ((master_state past).master c)) a.owner
  set_owner true false is not_set = absurd (let e : false ≡ true = (is refl).0 in cc)
  set_owner false true is not_set =
      (open_stands past w a c opened).1 ∙ none_taken w.device_master (not_set refl) ((master_state past).master c)
      ∙ ap (λ o. option_or o ((master_state past).master c)) a.owner
  set_owner false false is not_set =
      ap Some (newest past w r) ∙ none_taken w.device_master (not_set refl) (Some (next_number past))
      ∙ ap (λ o. option_or o (Some (next_number past))) a.owner

  ask_set : verdict w (Ask c SetMaster) ≡ None
      → StandsBy (carried w (Ask c SetMaster) ∷ past) (journaled (swept (changed w (Ask c SetMaster))))
  unfolding master_state effect answer_of swept changed meaning
  ask_set v =
      let busy : (is_current w c || is_none w.device_master) ≡ true = (rules_hold w c SetMaster v).1.0 in
      subst (λ (b : Bool). Stands (with_set (next_number past) c b (master_state past)) (journaled (swept (changed w (Ask c SetMaster))))) (open_stands past w a c opened).0 (record {
        owner =
            set_owner (is_current w c) (is_master w c) (λ e. let is = current w c e in (is.0, is.1))
            (λ e. or_rest (is_current w c) (is_none w.device_master) busy e);
        clients =
            clients_after w (ClientStands (with_set (next_number past) c (is_master w c) (master_state past)))
            (Ask c SetMaster) (ClientStands (master_state past))
            (set_client (is_current w c) (is_master w c) (λ e. (current w c e).0)) tt a.clients;
      })

-- ---- closings

close_owner : (past : List AnsweredEvent) (w : Rows) (a : StandsBy past w) (c : ℕ) (o : Option ClientRow)
    → client_row w c ≡ o → is_some o ≡ true
    → (ended_own w o).device_master ≡ owner_without ((master_state past).is_master c) ((master_state past).master c) (master_state past).owner
close_owner past w a c None e h = absurd (let n : false ≡ true = h in cc)
close_owner past w a c (Some row) e h =
    let told = row_stands (master_state past) w c row a.clients e in
    by row.is_master row.master ∙ (λ i. owner_without (told.0 i) (told.1 i) (a.owner i))
  where
    by : (b : Bool) (m : Option ℕ) → (ended_if w b m).device_master ≡ owner_without b m w.device_master
    by true (Some m) = refl
    by true None = refl
    by false m = refl

-- ---- a step

asked : (past : List AnsweredEvent) (w : Rows) (c : ℕ) (call : Call) → IsReached past w → verdict w (Ask c call) ≡ None
    → StandsBy past w → StandsBy (carried w (Ask c call) ∷ past) (journaled (swept (changed w (Ask c call))))
unfolding master_state effect answer_of swept changed meaning with_object ended
asked past w c SetMaster r v a = ask_set past w r a c (caller_open w c SetMaster v) v
asked past w c DropMaster r v a =
    record
    { owner = refl; clients = clients_after w (ClientStands (record (master_state past) { owner = None })) (Ask c DropMaster) (ClientStands (master_state past)) (λ row h. h) tt a.clients }
asked past w c (AuthMagic magic) r v a = record {
  owner = a.owner;
  clients =
      clients_after w (ClientStands (master_state past)) (Ask c (AuthMagic magic)) (ClientStands (master_state past))
      (λ row h. either (ClientStands (master_state past)) (is_option row.client (magic_client w (caller_master w c) magic)) (record row { authenticated = true }) row h h)
      tt a.clients;
}
asked past w c (SetClientCap cap value) r v a = record {
  owner = a.owner;
  clients =
      clients_after w (ClientStands (master_state past)) (Ask c (SetClientCap cap value))
      (ClientStands (master_state past))
      (λ row h. elim (is_client c row) as (λ b. ClientStands (master_state past) (if b then record row { capabilities = with_capability cap (value == 1) row.capabilities } else row)) [ true ↦ h | false ↦ h ])
      tt a.clients;
}
asked past w c call r v a =
    record
    { owner = a.owner; clients = clients_after w (ClientStands (master_state past)) (Ask c call) (ClientStands (master_state past)) (λ row h. h) tt a.clients }

close : (past : List AnsweredEvent) (w : Rows) (c : ℕ) → verdict w (Close c) ≡ None → StandsBy past w
    → StandsBy (carried w (Close c) ∷ past) (journaled (swept (changed w (Close c))))
unfolding master_state effect answer_of swept changed closed
close past w c v a = record {
  owner = close_owner past w a c (client_row w c) refl (closer_open w c v);
  clients =
      clients_after w
      (ClientStands (transition (effect (carried w (Close c))) (next_number past) (lease_in past) (master_state past)))
      (Close c) (ClientStands (master_state past)) (λ row h. h) tt a.clients;
}

stands_carried : (past : List AnsweredEvent) (w : Rows) (event : Event) → IsReached past w → verdict w event ≡ None
    → TokensTold past w → StandsBy past w → StandsBy (carried w event ∷ past) (journaled (swept (changed w event)))
stands_carried past w (Open (Primary root universal)) r v told a = open_primary past w r a root universal
stands_carried past w (Open Render) r v told a = open_render past w r a
stands_carried past w (Open (Lease token root universal)) r v told a = open_lease past w r a told token root universal v
stands_carried past w (Ask c call) r v told a = asked past w c call r v a
stands_carried past w (Close c) r v told a = close past w c v a

-- A denial leaves the history's masters unchanged.
pub master_state_denied : (past : List AnsweredEvent) (event : Event) (rule : Rule)
    → master_state (denied event rule ∷ past) ≡ master_state past
unfolding master_state
master_state_denied past event rule =
    ap (λ d. transition d (next_number past) (lease_in past) (master_state past)) (denied_nothing event rule)

-- with the tokens, since a client of a lease has its master
abbrev pub Ranked : List AnsweredEvent → Rows → Type 0
Ranked past w = TokensTold past w × StandsBy past w

stands_denied : (past : List AnsweredEvent) (w : Rows) (event : Event) (rule : Rule) → StandsBy past w
    → StandsBy (denied event rule ∷ past) (journaled w)
stands_denied past w event rule a =
    subst (λ s. Stands s (journaled w)) (sym (master_state_denied past event rule))
    (record { owner = a.owner; clients = a.clients })

-- If masters and lease tokens follow from the history, that is still so after a denial.
pub ranks_denied : (past : List AnsweredEvent) (w : Rows) (event : Event) (rule : Rule) → Ranked past w
    → Ranked (denied event rule ∷ past) (journaled w)
ranks_denied past w event rule p = (tokens_denied past w event rule p.0, stands_denied past w event rule p.1)

-- If masters and lease tokens follow from the history, that is still so after an accepted event.
pub ranks_carried : (past : List AnsweredEvent) (w : Rows) (event : Event) → IsReached past w → verdict w event ≡ None
    → Ranked past w → Ranked (carried w event ∷ past) (journaled (swept (changed w event)))
ranks_carried past w event r v p = (tokens_carried past w event r v p.0, stands_carried past w event r v p.0 p.1)
