-- A client is authenticated exactly if the history says so.
use Rattle.std.proofs.Common.{◌≡◌, ℕ, ◌+◌, ◌<◌, ◌≤◌, ◌==◌, Bool, true, false, cond, not, ◌&&◌, ◌||◌, List, [], ◌∷◌, length, Option, None, Some, refl, sym, ap, ◌∙◌, subst, arith, eq-eqb}
use Rattle.std.specs.Prelude.{if◌then◌else◌}
use Rattle.std.specs.List.{AllByRecursion}
use Rattle.std.specs.Option.{is_some}
use Rattle.std.proofs.lemmas.Bool.{or_left, or_right}
use Rattle.drm_index_array.proofs.Lists.{all_weaker, all_both}
use Rattle.drm_index_array.proofs.Numbers.{less-differ, flipped}
use Rattle.drm_table.specs.declared.calls.Call.{Call}
use Rattle.drm_table.specs.declared.calls.Call.TheVariants.{Version, SetClientCap, AuthMagic, SetMaster}
use Rattle.drm_table.specs.declared.events.Event.{Event}
use Rattle.drm_table.specs.declared.events.Event.TheVariants.{Open, Ask, Close}
use Rattle.drm_table.specs.declared.events.Opening.TheVariants.{Primary, Render, Lease}
use Rattle.drm_table.specs.declared.rules.Rule.{Rule}
use Rattle.drm_model.specs.Rows.{Rows, ClientRow, step_number, is_option, is_client}
use Rattle.drm_model.specs.ClientCapabilities.{with_capability}
use Rattle.drm_model.specs.Magics.{caller_master, magic_client, is_current, is_master}
use Rattle.drm_model.specs.Calls.{meaning}
use Rattle.drm_model.specs.Verdict.{verdict}
use Rattle.drm_model.proofs.EventChanges.{primary_row, set_row}
use Rattle.drm_model.specs.Change.{changed, swept, journaled}
use Rattle.drm_model.specs.Reply.{answer_of}
use Rattle.drm_history.specs.History.{AnsweredEvent, next_number}
use Rattle.drm_history.specs.Effects.{Effect, Nothing, OpensPrimary, Redeems, effect}
use Rattle.drm_history.specs.MasterState.{MasterState, master_state, with_primary, with_set, is_master_in, caller_master_in}
use Rattle.drm_history.specs.Magics.{magic_in, is_root_by, is_root_in, is_named_by, is_named_in, known}
use Rattle.drm_history.proofs.AlwaysHolds.{IsReached, denied, carried}
use Rattle.drm_history.proofs.Rules.{caller_open}
use Rattle.drm_history.proofs.Effects.{denied_nothing}
use Rattle.drm_history.proofs.ChangedRows.{clients_after}
use Rattle.drm_history.proofs.Stands.{StandsBy, master_state_denied, open_stands, current}
use Rattle.drm_history.proofs.NamedMagics.{Magical, named_told}
use Rattle.std.proofs.Math.Bool.{or-false}
use Rattle.drm_model.proofs.StepNumbers.{new_primary}

abbrev pub AuthTold : List AnsweredEvent → ClientRow → Type 0
AuthTold past row = row.authenticated ≡ known past row.client

abbrev pub AuthsTold : List AnsweredEvent → Rows → Type 0
AuthsTold past w = AllByRecursion (AuthTold past) w.clients

-- ---- who opened as root

root_by_born : (d : Effect) (n c : ℕ) → n < c → is_root_by d n c ≡ false
root_by_born (OpensPrimary root capabilities) n c lt = ap (λ b. root && b) (less-differ n c lt) ∙ nothing_and root
  where
    nothing_and : (b : Bool) → (b && false) ≡ false
    nothing_and true = refl
    nothing_and false = refl
root_by_born (Redeems token root capabilities) n c lt = ap (λ b. root && b) (less-differ n c lt) ∙ nothing_and root
  where
    nothing_and : (b : Bool) → (b && false) ≡ false
    nothing_and true = refl
    nothing_and false = refl
root_by_born Nothing n c lt = refl
root_by_born _ n c lt = refl

root_born : (past : List AnsweredEvent) (c : ℕ) → length past < c → is_root_in past c ≡ false
unfolding is_root_in
root_born [] c late = refl
root_born (step ∷ past) c late =
    ap (λ b. b || is_root_in past c) (root_by_born (effect step) (next_number past) c (omega (arith, late)))
    ∙ root_born past c (omega (arith, late))

-- a root opening of another client
other_root : (root : Bool) (n d : ℕ) → (d == n) ≡ false → (root && (n == d)) ≡ false
other_root true n d e = flipped d n e
other_root false n d e = refl

it_root : (root : Bool) (n d : ℕ) → n ≡ d → (root && (n == d)) ≡ root
it_root true n d e = eq-eqb n d e
it_root false n d e = refl

-- ---- openings

-- an older client
still_known : (past : List AnsweredEvent) (step : AnsweredEvent) (d : ℕ)
    → is_root_in (step ∷ past) d ≡ is_root_in past d → is_master_in (step ∷ past) d ≡ is_master_in past d
    → is_named_in (step ∷ past) d ≡ is_named_in past d → known past d ≡ known (step ∷ past) d
still_known past step d root master named = λ i. sym root i || sym master i || sym named i

primary_still : (n d : ℕ) (owner : Option ℕ) (s : MasterState) → (d == n) ≡ false
    → (with_primary n owner s).is_master d ≡ s.is_master d
primary_still n d None s e = ap (λ b. cond b true (s.is_master d)) e
primary_still n d (Some m) s e = ap (λ b. cond b false (s.is_master d)) e

primary_is : (n d : ℕ) (owner : Option ℕ) (s : MasterState) → (d == n) ≡ true
    → (with_primary n owner s).is_master d ≡ not (is_some owner)
primary_is n d None s e = ap (λ b. cond b true (s.is_master d)) e
primary_is n d (Some m) s e = ap (λ b. cond b false (s.is_master d)) e

primary_known : (w : Rows) (root universal : Bool) (owner : Option ℕ)
    → (primary_row w root universal owner).authenticated ≡ (root || not (is_some owner))
primary_known w true universal None = refl
primary_known w false universal None = refl
primary_known w true universal (Some m) = refl
primary_known w false universal (Some m) = refl

abbrev Aged : List AnsweredEvent → Rows → ClientRow → Type 0
Aged past w row = AuthTold past row × (row.client ≤ length past)

aged : (past : List AnsweredEvent) (w : Rows) → IsReached past w → AuthsTold past w
    → AllByRecursion (Aged past w) w.clients
aged past w r h =
    all_both (AuthTold past) (λ (row : ClientRow). row.client ≤ w.steps) (Aged past w)
    (λ row k old. (k, let steps = r.steps in omega (arith, old, steps))) w.clients h r.step_numbers.0.1

module _ (past : List AnsweredEvent) (w : Rows) (r : IsReached past w) (a : StandsBy past w) (p : Magical past w) where
  older : (row : ClientRow) → Aged past w row → (row.client == next_number past) ≡ false
  older row h = let old = h.1 in less-differ row.client (next_number past) (omega (arith, old))

  newest : step_number w ≡ next_number past
  newest = ap (λ n. n + 1) r.steps

  no_root : is_root_in past (step_number w) ≡ false
  no_root = root_born past (step_number w) (let steps = r.steps in omega (arith, steps))

  no_name : is_named_in past (step_number w) ≡ false
  no_name = p.2 (step_number w) (let steps = r.steps in omega (arith, steps))

  open_primary : (root universal : Bool) → AuthsTold past w
      → AuthsTold (carried w (Open (Primary root universal)) ∷ past) (journaled (swept (changed w (Open (Primary root universal)))))
  unfolding master_state is_root_in is_named_in effect answer_of
  open_primary root universal h =
      let event = Open (Primary root universal) in
      clients_after w (AuthTold (carried w event ∷ past)) event (Aged past w)
      (λ row k. k.0 ∙ still_known past (carried w event) row.client (ap (λ b. b || is_root_in past row.client) (other_root root (next_number past) row.client (older row k))) (primary_still (next_number past) row.client (master_state past).owner (master_state past) (older row k)) refl)
      (new w.device_master a.owner) (aged past w r h)
    where
      new : (owner : Option ℕ) → owner ≡ (master_state past).owner
          → (primary_row w root universal owner).authenticated ≡ (((root && (next_number past == (primary_row w root universal owner).client)) || is_root_in past (primary_row w root universal owner).client) || (with_primary (next_number past) (master_state past).owner (master_state past)).is_master (primary_row w root universal owner).client || is_named_in past (primary_row w root universal owner).client)
      new owner e =
          primary_known w root universal owner
          ∙ sym (
          ap
          (λ n. ((root && (next_number past == n)) || is_root_in past n) || (with_primary (next_number past) (master_state past).owner (master_state past)).is_master n || is_named_in past n)
          (new_primary w root universal owner)
          ∙
          (λ i. (it_root root (next_number past) (step_number w) (sym newest) i || no_root i) || primary_is (next_number past) (step_number w) (master_state past).owner (master_state past) (eq-eqb (step_number w) (next_number past) newest) i || no_name i)
          ∙ (λ i. or-false root i || not (is_some (sym e i)) || false) ∙ or-false (root || not (is_some owner))
          )

  open_render : AuthsTold past w
      → AuthsTold (carried w (Open Render) ∷ past) (journaled (swept (changed w (Open Render))))
  unfolding master_state is_root_in is_named_in effect answer_of
  open_render h =
      let event = Open Render in
      clients_after w (AuthTold (carried w event ∷ past)) event (Aged past w)
      (λ row k. k.0 ∙ still_known past (carried w event) row.client refl (ap (λ b. cond b false ((master_state past).is_master row.client)) (older row k)) refl)
      (sym (λ i. no_root i || cond (eq-eqb (step_number w) (next_number past) newest i) false ((master_state past).is_master (step_number w)) || no_name i))
      (aged past w r h)

  open_lease : (token : ℕ) (root universal : Bool) → AuthsTold past w
      → AuthsTold (carried w (Open (Lease token root universal)) ∷ past) (journaled (swept (changed w (Open (Lease token root universal)))))
  unfolding master_state is_root_in is_named_in effect answer_of
  open_lease token root universal h =
      let event = Open (Lease token root universal) in
      clients_after w (AuthTold (carried w event ∷ past)) event (Aged past w)
      (λ row k. k.0 ∙ still_known past (carried w event) row.client (ap (λ b. b || is_root_in past row.client) (other_root root (next_number past) row.client (older row k))) (ap (λ b. cond b true ((master_state past).is_master row.client)) (older row k)) refl)
      (sym (or_left _ (is_named_in past (step_number w)) (or_right _ _ (ap (λ b. cond b true ((master_state past).is_master (step_number w))) (eq-eqb (step_number w) (next_number past) newest)))))
      (aged past w r h)

  -- ---- requests and closings

  known_master : (root master named : Bool) → master ≡ true → (root || master || named) ≡ true
  known_master true master named e = refl
  known_master false master named e = ap (λ b. b || named) e

  set_client : (c : ℕ) (is_current is_master : Bool) → (is_current ≡ true → is_master ≡ true) → (row : ClientRow)
      → AuthTold past row →
      (set_row w c is_current is_master row).authenticated ≡
      (is_root_in past (set_row w c is_current is_master row).client || (with_set (next_number past) c is_master (master_state past)).is_master (set_row w c is_current is_master row).client || is_named_in past (set_row w c is_current is_master row).client)
  set_client c true true is row h = h
  set_client c true false is row h = absurd (let e : false ≡ true = is refl in cc)
  set_client c false true is row h = h
  set_client c false false is row h =
      elim (is_client c row) as (λ b. is_client c row ≡ b → (if b then record row { authenticated = true; once_master = true; is_master = true; master = Some (step_number w) } else row).authenticated ≡ (is_root_in past (if b then record row { authenticated = true; once_master = true; is_master = true; master = Some (step_number w) } else row).client || (with_set (next_number past) c false (master_state past)).is_master (if b then record row { authenticated = true; once_master = true; is_master = true; master = Some (step_number w) } else row).client || is_named_in past (if b then record row { authenticated = true; once_master = true; is_master = true; master = Some (step_number w) } else row).client)) [
        | true ↦ λ e. sym (known_master (is_root_in past row.client) ((with_set (next_number past) c false (master_state past)).is_master row.client) (is_named_in past row.client) (ap (λ b. cond b true ((master_state past).is_master row.client)) e))
        | false ↦ λ e. h ∙ ap (λ b. is_root_in past row.client || b || is_named_in past row.client) (sym (ap (λ b. cond b true ((master_state past).is_master row.client)) e))
      ] refl

  ask_set : (c : ℕ) → verdict w (Ask c SetMaster) ≡ None → AuthsTold past w
      → AuthsTold (carried w (Ask c SetMaster) ∷ past) (journaled (swept (changed w (Ask c SetMaster))))
  unfolding master_state is_root_in is_named_in effect answer_of meaning
  ask_set c v h =
      let is = (open_stands past w a c (caller_open w c SetMaster v)).0 in
      subst
      (λ (b : Bool). AllByRecursion (λ (row : ClientRow). row.authenticated ≡ (is_root_in past row.client || (with_set (next_number past) c b (master_state past)).is_master row.client || is_named_in past row.client)) (journaled (swept (changed w (Ask c SetMaster)))).clients)
      is
      (clients_after w (λ (row : ClientRow). row.authenticated ≡ (is_root_in past row.client || (with_set (next_number past) c (is_master w c) (master_state past)).is_master row.client || is_named_in past row.client)) (Ask c SetMaster) (AuthTold past) (set_client c (is_current w c) (is_master w c) (λ e. (current w c e).0)) tt h)

  named : (root master older : Bool) → (root || master || (true || older)) ≡ true
  named true master older = refl
  named false true older = refl
  named false false older = refl

  ask_auth : (c magic : ℕ) → verdict w (Ask c (AuthMagic magic)) ≡ None → AuthsTold past w
      → AuthsTold (carried w (Ask c (AuthMagic magic)) ∷ past) (journaled (swept (changed w (Ask c (AuthMagic magic)))))
  unfolding master_state is_root_in is_named_in effect answer_of meaning
  ask_auth c magic v h =
      let event = Ask c (AuthMagic magic) in
      let told = (named_told past w a p.1 c magic v).0 in
      clients_after w (AuthTold (carried w event ∷ past)) event (AuthTold past)
      (λ row k. by (is_option row.client (magic_client w (caller_master w c) magic)) row k (ap (is_option row.client) (sym told)))
      tt h
    where
      by : (b : Bool) (row : ClientRow) → AuthTold past row
          → is_option row.client (magic_in past (caller_master_in past c) magic) ≡ b
          → (if b then record row { authenticated = true } else row).authenticated ≡ (is_root_in past (if b then record row { authenticated = true } else row).client || (master_state past).is_master (if b then record row { authenticated = true } else row).client || (is_option (if b then record row { authenticated = true } else row).client (magic_in past (caller_master_in past c) magic) || is_named_in past (if b then record row { authenticated = true } else row).client))
      by true row k e =
          sym
          (ap (λ b. is_root_in past row.client || (master_state past).is_master row.client || (b || is_named_in past row.client)) e ∙ named (is_root_in past row.client) ((master_state past).is_master row.client) (is_named_in past row.client))
      by false row k e =
          k
          ∙ ap
          (λ b. is_root_in past row.client || (master_state past).is_master row.client || (b || is_named_in past row.client))
          (sym e)

  asked : (c : ℕ) (call : Call) → verdict w (Ask c call) ≡ None → AuthsTold past w
      → AuthsTold (carried w (Ask c call) ∷ past) (journaled (swept (changed w (Ask c call))))
  unfolding master_state is_root_in is_named_in effect answer_of meaning
  asked c Version v h =
      clients_after w (AuthTold (carried w (Ask c Version) ∷ past)) (Ask c Version) (AuthTold past) (λ row k. k) tt h
  asked c SetMaster v h = ask_set c v h
  asked c (AuthMagic magic) v h = ask_auth c magic v h
  asked c (SetClientCap cap value) v h =
      clients_after w (AuthTold past) (Ask c (SetClientCap cap value)) (AuthTold past)
      (λ row k. elim (is_client c row) as (λ b. AuthTold past (if b then record row { capabilities = with_capability cap (value == 1) row.capabilities } else row)) [ true ↦ k | false ↦ k ])
      tt h
  asked c call v h =
      clients_after w (AuthTold (carried w (Ask c call) ∷ past)) (Ask c call) (AuthTold past) (λ row k. k) tt h

  -- If the history says which clients are authenticated, that is still so after an accepted event.
  pub auths_carried : (event : Event) → verdict w event ≡ None → AuthsTold past w
      → AuthsTold (carried w event ∷ past) (journaled (swept (changed w event)))
  unfolding master_state is_root_in is_named_in effect answer_of
  auths_carried (Open (Primary root universal)) v h = open_primary root universal h
  auths_carried (Open Render) v h = open_render h
  auths_carried (Open (Lease token root universal)) v h = open_lease token root universal h
  auths_carried (Ask c call) v h = asked c call v h
  auths_carried (Close c) v h =
      clients_after w (AuthTold (carried w (Close c) ∷ past)) (Close c) (AuthTold past) (λ row k. k) tt h

-- If the history says which clients are authenticated, that is still so after a denial.
pub auths_denied : (past : List AnsweredEvent) (w : Rows) (event : Event) (rule : Rule) → AuthsTold past w
    → AuthsTold (denied event rule ∷ past) (journaled w)
unfolding is_root_in is_named_in
auths_denied past w event rule h =
    let nothing = denied_nothing event rule in
    all_weaker (AuthTold past) (AuthTold (denied event rule ∷ past))
    (λ row k. k ∙ still_known past (denied event rule) row.client (ap (λ d. is_root_by d (next_number past) row.client || is_root_in past row.client) nothing) (ap (λ s. s.is_master row.client) (master_state_denied past event rule)) (ap (λ d. is_named_by d past row.client || is_named_in past row.client) nothing))
    w.clients h
