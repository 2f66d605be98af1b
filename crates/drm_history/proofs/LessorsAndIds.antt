-- The lessor of each master is that of the history, and the id of each lessee that of the last MODE_CREATE_LEASE that answered it
-- under its owner.
use Rattle.std.proofs.Common.{◌≡◌, ℕ, ◌+◌, ◌≤◌, ◌==◌, true, false, not, ◌&&◌, List, ◌∷◌, length, Option, None, Some, refl, sym, ap, ◌∙◌, subst, arith, eq-eqb}
use Rattle.std.specs.Prelude.{if◌then◌else◌, unwrap_or, IfSome}
use Rattle.std.specs.List.{list_any, AllByRecursion}
use Rattle.std.specs.Option.{is_some, option_and_then}
use Rattle.std.proofs.lemmas.Bool.{eqb-true, and_parts, not-true}
use Rattle.std.proofs.lemmas.Bool.Decides.{nat_tests}
use Rattle.drm_index_array.specs.Numbers.{is_among}
use Rattle.drm_index_array.specs.Chains.{chain_within, last_of}
use Rattle.drm_index_array.proofs.Lists.{all_both, all_weaker}
use Rattle.drm_index_array.proofs.Each.{each_fails, some_found}
use Rattle.drm_index_array.proofs.FoundInLists.{is_some-find, all_found as of_found}
use Rattle.drm_index_array.proofs.Rising.{found}
use Rattle.drm_index_array.proofs.Chains.{same_chain, top_some}
use Rattle.drm_table.specs.declared.calls.Call.TheVariants.{SetMaster, CreateLease}
use Rattle.drm_table.specs.declared.events.Event.{Event}
use Rattle.drm_table.specs.declared.events.Event.TheVariants.{Open, Ask, Close}
use Rattle.drm_table.specs.declared.events.Opening.TheVariants.{Primary, Render, Lease}
use Rattle.drm_table.specs.declared.rules.Rule.{Rule}
use Rattle.drm_model.specs.StepNumbers.{IsMadeClient}
use Rattle.drm_model.specs.Rows.{Rows, ClientRow, MasterRow, step_number, is_client, client_row, is_open}
use Rattle.drm_model.specs.Masters.{master_of, master_row, lessor_of, owner_of, is_under}
use Rattle.drm_model.specs.Leases.{new_lessee_id, free_lessee, next_lease_token, is_lessee_of}
use Rattle.drm_model.specs.Magics.{caller_master}
use Rattle.drm_model.specs.Calls.{meaning}
use Rattle.drm_model.specs.Verdict.{verdict}
use Rattle.drm_model.specs.Change.{changed, swept, journaled}
use Rattle.drm_model.specs.Reply.{answer_of}
use Rattle.drm_model.proofs.FewLeased.{rules_hold}
use Rattle.drm_history.specs.History.{AnsweredEvent, next_number}
use Rattle.drm_history.specs.Effects.{effect}
use Rattle.drm_history.specs.MasterState.{master_state, caller_master_in}
use Rattle.drm_history.specs.Lessees.{lessor_by, lessor_in, top_in, is_under_in, lessee_by, lessee_in}
use Rattle.drm_history.proofs.AlwaysHolds.{IsReached, denied, carried}
use Rattle.drm_history.proofs.Rules.{caller_open, lessor_current}
use Rattle.drm_history.proofs.Effects.{denied_nothing}
use Rattle.drm_history.proofs.FreeNumbers.{least_passes}
use Rattle.drm_history.proofs.ChangedRows.{ForMaster, masters_after}
use Rattle.drm_history.proofs.Stands.{StandsBy, open_stands, current}
use Rattle.drm_history.proofs.NamedMasters.{is_there, is_row_of, LessorThere, Held, if_some, own_there, row_there}
use Rattle.drm_history.proofs.GrantsStayHeld.{Rooted, rooted_denied, rooted_carried}
use Rattle.drm_history.proofs.Falls.{lessor_falls, lessor_still, top_still}

abbrev pub LessorTold : List AnsweredEvent → MasterRow → Type 0
LessorTold past row = row.lessor ≡ lessor_in past row.master

abbrev pub IdTold : List AnsweredEvent → MasterRow → Type 0
IdTold past row = IfSome row.lessor (λ _. lessee_in past (top_in past row.master) row.lessee_id ≡ Some row.master)

abbrev pub LessorsTold : List AnsweredEvent → Rows → Type 0
LessorsTold past w = AllByRecursion (LessorTold past) w.masters

abbrev pub IdsTold : List AnsweredEvent → Rows → Type 0
IdsTold past w = AllByRecursion (IdTold past) w.masters

-- ---- the rows' chains are the history's

module _ (past : List AnsweredEvent) (w : Rows) (told : LessorsTold past w) (h : Held w) where
  row_lessor : (n : ℕ) (row : MasterRow) → master_row w.masters n ≡ Some row
      → (lessor_of w.masters n ≡ lessor_in past n) × LessorThere w.masters row × (row.lessor ≡ lessor_in past n)
  row_lessor n row e =
      let all =
      all_both (LessorTold past) (LessorThere w.masters) (λ row. LessorTold past row × LessorThere w.masters row)
      (λ row a b. (a, b)) w.masters told h.0 in
      let it = found (is_row_of n) (λ row. LessorTold past row × LessorThere w.masters row) row w.masters all e in
      let its : row.lessor ≡ lessor_in past n = it.1.0 ∙ ap (lessor_in past) (eqb-true row.master n it.0) in
      (ap (option_and_then (λ (row : MasterRow). row.lessor)) e ∙ its, it.1.1, its)

  row_at : (n : ℕ) → is_there w.masters n ≡ true → (row : MasterRow) × (master_row w.masters n ≡ Some row)
  row_at n there = some_found (master_row w.masters n) (is_some-find (is_row_of n) w.masters ∙ there)

  -- A master that exists has the lessor that the history says.
  pub lessor_same : (n : ℕ) → is_there w.masters n ≡ true → lessor_of w.masters n ≡ lessor_in past n
  lessor_same n there = let row = row_at n there in (row_lessor n row.0 row.1).0

  lessor_higher : (n m : ℕ) → is_there w.masters n ≡ true → lessor_in past n ≡ Some m → is_there w.masters m ≡ true
  lessor_higher n m there e =
      let row = row_at n there in
      let told = row_lessor n row.0 row.1 in
      subst (λ (o : Option ℕ). IfSome o (λ m. is_there w.masters m ≡ true)) (told.2 ∙ e) told.1

  chain_same : (s n : ℕ) → is_there w.masters n ≡ true
      → chain_within s (lessor_of w.masters) n ≡ chain_within s (lessor_in past) n
  chain_same s n there =
      same_chain (λ n. is_there w.masters n ≡ true) (lessor_in past) (lessor_of w.masters) lessor_same lessor_higher s n
      there

  -- Which masters a master is under is the same by rows as by the history, if the master exists.
  pub under_same : (top n : ℕ) → is_there w.masters n ≡ true → is_under w.masters top n ≡ is_under_in past top n
  under_same top n there = ap (λ chain. is_among chain top) (chain_same n n there)

  -- A master that exists has the owner that the history says.
  pub owner_same : (n : ℕ) → is_there w.masters n ≡ true → owner_of w.masters n ≡ top_in past n
  owner_same n there = ap (last_of n) (chain_same n n there)

-- ---- the lessors along a history

-- The master of an open client is the one that the history says.
pub own_told : (past : List AnsweredEvent) (w : Rows) → StandsBy past w → (c : ℕ) → is_open w c ≡ true
    → caller_master w c ≡ caller_master_in past c
own_told past w a c opened = ap (λ o. unwrap_or o 0) (open_stands past w a c opened).1

some_own : (o : Option ℕ) → is_some o ≡ true → Some (unwrap_or o 0) ≡ o
some_own None h = absurd (let n : false ≡ true = h in cc)
some_own (Some m) h = refl

abbrev Aged : (List AnsweredEvent → MasterRow → Type 0) → List AnsweredEvent → MasterRow → Type 0
Aged Told past row = Told past row × (row.master ≤ length past)

aged : (Told : List AnsweredEvent → MasterRow → Type 0) (past : List AnsweredEvent) (w : Rows) → IsReached past w
    → AllByRecursion (Told past) w.masters → AllByRecursion (Aged Told past) w.masters
aged Told past w r h =
    all_both (Told past) (λ (row : MasterRow). row.master ≤ w.steps) (Aged Told past)
    (λ row k old. (k, let steps = r.steps in omega (arith, old, steps))) w.masters h r.step_numbers.1.1

newest : (past : List AnsweredEvent) (w : Rows) → IsReached past w → (step_number w == next_number past) ≡ true
newest past w r = eq-eqb (step_number w) (next_number past) (ap (λ n. n + 1) r.steps)

-- a new master's lessor
new_lessor : (past : List AnsweredEvent) (w : Rows) (event : Event) → IsReached past w
    → lessor_in (carried w event ∷ past) (step_number w) ≡ lessor_by (effect (carried w event)) (master_state past)
unfolding lessor_in
new_lessor past w event r =
    ap (λ b. if b then lessor_by (effect (carried w event)) (master_state past) else lessor_in past (step_number w))
    (newest past w r)

lessor_new : (past : List AnsweredEvent) (w : Rows) (event : Event) → IsReached past w → verdict w event ≡ None
    → StandsBy past w → ForMaster (LessorTold (carried w event ∷ past)) w event
unfolding effect answer_of meaning
lessor_new past w (Open (Primary root universal)) r v a = sym (new_lessor past w (Open (Primary root universal)) r)
lessor_new past w (Open Render) r v a = tt
lessor_new past w (Open (Lease token root universal)) r v a = tt
lessor_new past w (Ask c SetMaster) r v a = sym (new_lessor past w (Ask c SetMaster) r)
lessor_new past w (Ask c (CreateLease ids)) r v a =
    let opened = caller_open w c (CreateLease ids) v in
    some_own (master_of w c) (current w c (lessor_current w c ids v)).2 ∙ (open_stands past w a c opened).1
    ∙ sym (new_lessor past w (Ask c (CreateLease ids)) r)
lessor_new past w (Ask c call) r v a = tt
lessor_new past w (Close c) r v a = tt

lessors_carried : (past : List AnsweredEvent) (w : Rows) (event : Event) → IsReached past w → verdict w event ≡ None
    → StandsBy past w → LessorsTold past w → LessorsTold (carried w event ∷ past) (journaled (swept (changed w event)))
lessors_carried past w event r v a h =
    let stays =
    λ (row : MasterRow) (k : Aged LessorTold past row). k.0
    ∙ sym (lessor_still (carried w event) past row.master k.1) in
    masters_after w (Aged LessorTold past) (LessorTold (carried w event ∷ past)) stays stays event
    (aged LessorTold past w r h) (lessor_new past w event r v a)

lessors_denied : (past : List AnsweredEvent) (w : Rows) (event : Event) (rule : Rule) → IsReached past w
    → LessorsTold past w → LessorsTold (denied event rule ∷ past) (journaled w)
lessors_denied past w event rule r h =
    all_weaker (Aged LessorTold past) (LessorTold (denied event rule ∷ past))
    (λ row k. k.0 ∙ sym (lessor_still (denied event rule) past row.master k.1)) w.masters (aged LessorTold past w r h)

-- ---- the ids of lessees

-- where no other id is answered
id_still : (step : AnsweredEvent) (past : List AnsweredEvent)
    → ((owner id : ℕ) → lessee_in (step ∷ past) owner id ≡ lessee_in past owner id) → (row : MasterRow)
    → Aged IdTold past row → IdTold (step ∷ past) row
id_still step past same row k =
    if_some (λ _. lessee_in past (top_in past row.master) row.lessee_id ≡ Some row.master)
    (λ _. lessee_in (step ∷ past) (top_in (step ∷ past) row.master) row.lessee_id ≡ Some row.master)
    (λ _ e. ap (λ top. lessee_in (step ∷ past) top row.lessee_id) (top_still step past row.master k.1) ∙ same (top_in past row.master) row.lessee_id ∙ e)
    row.lessor k.0

-- the id of a new lessee is free among those with its owner
id_free : (w : Rows) (c : ℕ) (ids : List ℕ) → verdict w (Ask c (CreateLease ids)) ≡ None
    → AllByRecursion (λ (row : MasterRow). is_lessee_of w.masters (owner_of w.masters (caller_master w c)) (new_lessee_id w (caller_master w c)) row ≡ false) w.masters
unfolding meaning
id_free w c ids v =
    let full = (rules_hold w c (CreateLease ids) v).1.1.1.1.1.1.0 in
    let room = (and_parts (is_some (free_lessee w (caller_master w c))) (is_some (next_lease_token w)) full).0 in
    each_fails (is_lessee_of w.masters (owner_of w.masters (caller_master w c)) (new_lessee_id w (caller_master w c)))
    w.masters
    (not-true _ (least_passes (λ id. not (list_any (is_lessee_of w.masters (owner_of w.masters (caller_master w c)) id) w.masters)) 1 w.limits.lessees room))

turned : (a b c d : ℕ) → ((a == b) && (c == d)) ≡ false → ((b == a) && (d == c)) ≡ false
turned a b c d h = grind (arith, nat_tests)

-- of a lessee that existed
other_id : (past : List AnsweredEvent) (step : AnsweredEvent) (rows : List MasterRow) (own fresh n : ℕ) (row : MasterRow) →
    row.master ≤ length past → owner_of rows row.master ≡ top_in past row.master → owner_of rows own ≡ top_in past own →
    is_lessee_of rows (owner_of rows own) fresh row ≡ false → IdTold past row →
    IfSome row.lessor
    (λ _. (if (fresh == row.lessee_id) && (top_in past own == top_in (step ∷ past) row.master) then Some n else lessee_in past (top_in (step ∷ past) row.master) row.lessee_id) ≡ Some row.master)
other_id past step rows own fresh n row old its owns free told = by row.lessor free told
  where
    by : (lessor : Option ℕ)
        → (is_some lessor && (row.lessee_id == fresh) && (owner_of rows row.master == owner_of rows own)) ≡ false
        → IfSome lessor (λ _. lessee_in past (top_in past row.master) row.lessee_id ≡ Some row.master) →
        IfSome lessor
        (λ _. (if (fresh == row.lessee_id) && (top_in past own == top_in (step ∷ past) row.master) then Some n else lessee_in past (top_in (step ∷ past) row.master) row.lessee_id) ≡ Some row.master)
    by None e k = tt
    by (Some m) e k =
        let apart : ((row.lessee_id == fresh) && (top_in past row.master == top_in past own)) ≡ false =
        (λ i. (row.lessee_id == fresh) && (sym its i == sym owns i)) ∙ e in
        let top = top_still step past row.master old in
        ap (λ t. if (fresh == row.lessee_id) && (top_in past own == t) then Some n else lessee_in past t row.lessee_id)
        top
        ∙ ap (λ b. if b then Some n else lessee_in past (top_in past row.master) row.lessee_id)
        (turned row.lessee_id fresh (top_in past row.master) (top_in past own) apart)
        ∙ k

both_hold : (n a b : ℕ) → a ≡ b → ((n == n) && (a == b)) ≡ true
both_hold n a b e = ap (λ x. x && (a == b)) (eq-eqb n n refl) ∙ eq-eqb a b e

-- the master of a client is of a step that was made
own_old : (past : List AnsweredEvent) (w : Rows) → IsReached past w → (c : ℕ) → caller_master w c ≤ length past
own_old past w r c =
    by (master_of w c) (of_row (client_row w c) (of_found (IsMadeClient w.steps) (is_client c) w.clients r.made.0))
  where
    by : (o : Option ℕ) → IfSome o (λ m. m ≤ w.steps) → unwrap_or o 0 ≤ length past
    by None k = omega arith
    by (Some m) k = let steps = r.steps in omega (arith, k, steps)

    of_row : (o : Option ClientRow) → IfSome o (IsMadeClient w.steps)
        → IfSome (option_and_then (λ (row : ClientRow). row.master) o) (λ m. m ≤ w.steps)
    of_row None k = tt
    of_row (Some row) k = k.1

-- what is needed of each lessee that existed, where one more comes
record Older (past : List AnsweredEvent) (w : Rows) (own fresh : ℕ) (row : MasterRow) : Type 0 where
  told : IdTold past row
  old : row.master ≤ length past
  owner : owner_of w.masters row.master ≡ top_in past row.master
  free : is_lessee_of w.masters (owner_of w.masters own) fresh row ≡ false

ids_leased : (past : List AnsweredEvent) (w : Rows) (c : ℕ) (ids : List ℕ) → IsReached past w
    → verdict w (Ask c (CreateLease ids)) ≡ None → StandsBy past w → Held w → LessorsTold past w → IdsTold past w →
    IdsTold (carried w (Ask c (CreateLease ids)) ∷ past) (journaled (swept (changed w (Ask c (CreateLease ids)))))
unfolding lessee_in effect answer_of meaning
ids_leased past w c ids r v a h told ids_told =
    let step = carried w (Ask c (CreateLease ids)) in
    let opened = caller_open w c (CreateLease ids) v in
    let own = caller_master w c in
    let fresh = new_lessee_id w own in
    let n = next_number past in
    let its_own : own ≡ caller_master_in past c = own_told past w a c opened in
    let there = own_there w c h (lessor_current w c ids v) in
    let owns = owner_same past w told h own there in
    let old_own : own ≤ length past = own_old past w r c in
    let lessor : lessor_in (step ∷ past) (step_number w) ≡ Some own =
    sym (lessor_new past w (Ask c (CreateLease ids)) r v a) in
    let top : top_in (step ∷ past) (step_number w) ≡ top_in past own =
    sym (top_some (lessor_in (step ∷ past)) (lessor_falls (step ∷ past)) (step_number w) own lessor)
    ∙ top_still step past own old_own in
    let each = all_both (Aged IdTold past) (λ (row : MasterRow). (is_there w.masters row.master ≡ true) × (is_lessee_of w.masters (owner_of w.masters own) fresh row ≡ false)) (Older past w own fresh)
    (λ row k f. record { told = k.0; old = k.1; owner = owner_same past w told h row.master f.0; free = f.1 }) w.masters
    (aged IdTold past w r ids_told)
    (all_both (λ (row : MasterRow). is_there w.masters row.master ≡ true) (λ (row : MasterRow). is_lessee_of w.masters (owner_of w.masters own) fresh row ≡ false) (λ (row : MasterRow). (is_there w.masters row.master ≡ true) × (is_lessee_of w.masters (owner_of w.masters own) fresh row ≡ false)) (λ row x y. (x, y)) w.masters (row_there w.masters) (id_free w c ids v)) in
    let stays =
    λ (row : MasterRow) (k : Older past w own fresh row). subst
    (λ o. IfSome row.lessor (λ _. (if (fresh == row.lessee_id) && (top_in past o == top_in (step ∷ past) row.master) then Some n else lessee_in past (top_in (step ∷ past) row.master) row.lessee_id) ≡ Some row.master))
    its_own (other_id past step w.masters own fresh n row k.old k.owner owns k.free k.told) in
    masters_after w (Older past w own fresh) (IdTold (step ∷ past)) stays stays (Ask c (CreateLease ids)) each
    (ap (λ b. if b then Some n else lessee_in past (top_in (step ∷ past) (step_number w)) fresh) (both_hold fresh (top_in past (caller_master_in past c)) (top_in (step ∷ past) (step_number w)) (ap (top_in past) (sym its_own) ∙ sym top))
    ∙ ap (λ k. Some (k + 1)) (sym r.steps))

ids_carried : (past : List AnsweredEvent) (w : Rows) (event : Event) → IsReached past w → verdict w event ≡ None
    → StandsBy past w → Held w → LessorsTold past w → IdsTold past w
    → IdsTold (carried w event ∷ past) (journaled (swept (changed w event)))
unfolding lessee_in effect answer_of meaning
ids_carried past w (Open (Primary root universal)) r v a h told k = let stays = id_still (carried w (Open (Primary root universal))) past (λ owner id. refl) in masters_after w (Aged IdTold past) (IdTold (carried w (Open (Primary root universal)) ∷ past)) stays stays (Open (Primary root universal)) (aged IdTold past w r k) tt
ids_carried past w (Open Render) r v a h told k = let stays = id_still (carried w (Open Render)) past (λ owner id. refl) in masters_after w (Aged IdTold past) (IdTold (carried w (Open Render) ∷ past)) stays stays (Open Render) (aged IdTold past w r k) tt
ids_carried past w (Open (Lease token root universal)) r v a h told k = let stays = id_still (carried w (Open (Lease token root universal))) past (λ owner id. refl) in masters_after w (Aged IdTold past) (IdTold (carried w (Open (Lease token root universal)) ∷ past)) stays stays (Open (Lease token root universal)) (aged IdTold past w r k) tt
ids_carried past w (Ask c (CreateLease ids)) r v a h told k = ids_leased past w c ids r v a h told k
ids_carried past w (Ask c call) r v a h told k = let stays = id_still (carried w (Ask c call)) past (λ owner id. refl) in masters_after w (Aged IdTold past) (IdTold (carried w (Ask c call) ∷ past)) stays stays (Ask c call) (aged IdTold past w r k) tt
ids_carried past w (Close c) r v a h told k = let stays = id_still (carried w (Close c)) past (λ owner id. refl) in masters_after w (Aged IdTold past) (IdTold (carried w (Close c) ∷ past)) stays stays (Close c) (aged IdTold past w r k) tt

lessee_denied : (past : List AnsweredEvent) (event : Event) (rule : Rule) (owner id : ℕ)
    → lessee_in (denied event rule ∷ past) owner id ≡ lessee_in past owner id
unfolding lessee_in
lessee_denied past event rule owner id =
    ap (λ d. lessee_by d past owner id (lessee_in past owner id)) (denied_nothing event rule)

ids_denied : (past : List AnsweredEvent) (w : Rows) (event : Event) (rule : Rule) → IsReached past w → IdsTold past w
    → IdsTold (denied event rule ∷ past) (journaled w)
ids_denied past w event rule r h =
    all_weaker (Aged IdTold past) (IdTold (denied event rule ∷ past))
    (id_still (denied event rule) past (lessee_denied past event rule)) w.masters (aged IdTold past w r h)

-- ---- with all before it

abbrev pub Descended : List AnsweredEvent → Rows → Type 0
Descended past w = Rooted past w × LessorsTold past w × IdsTold past w

-- If lessors and the ids of lessees follow from the history, that is still so after a denial.
pub descended_denied : (past : List AnsweredEvent) (w : Rows) (event : Event) (rule : Rule) → IsReached past w
    → Descended past w → Descended (denied event rule ∷ past) (journaled w)
descended_denied past w event rule r p =
    (rooted_denied past w event rule p.0, lessors_denied past w event rule r p.1, ids_denied past w event rule r p.2)

-- If lessors and the ids of lessees follow from the history, that is still so after an accepted event.
pub descended_carried : (past : List AnsweredEvent) (w : Rows) (event : Event) → IsReached past w
    → verdict w event ≡ None → Descended past w
    → Descended (carried w event ∷ past) (journaled (swept (changed w event)))
descended_carried past w event r v p =
    (rooted_carried past w event r v p.0, lessors_carried past w event r v p.0.0.1 p.1, ids_carried past w event r v p.0.0.1 p.0.1 p.1 p.2)
