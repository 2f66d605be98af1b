-- Masters that rows name are there: the lessor of each, that of each client, the device's, of which a client is a master, and
-- those of grants, whose token is open or of which a client is a master. So a sweep takes none of them.
use Rattle.std.proofs.Common.{◌≡◌, ℕ, ◌==◌, Bool, true, false, not, ◌&&◌, ◌||◌, List, [], ◌∷◌, ◌++◌, filter, map, find, Option, None, Some, refl, sym, ap, ◌∙◌, subst, eq-eqb}
use Rattle.std.specs.Prelude.{if◌then◌else◌, unwrap_or, IfSome}
use Rattle.std.specs.List.{list_any, AllByRecursion}
use Rattle.std.specs.Option.{is_some, option_map, option_map_or, option_and_then}
use Rattle.std.proofs.lemmas.Bool.{eqb-true, and_parts, or_left, or_right, false_from_ne_true}
use Rattle.drm_index_array.proofs.Lists.{all_weaker, all_each, list_any_left, list_any_right}
use Rattle.drm_index_array.proofs.Each.{each_any, any_filter, any_mapped}
use Rattle.drm_index_array.proofs.Rising.{found, any_found, any_more}
use Rattle.drm_index_array.proofs.FoundInLists.{is_some-find}
use Rattle.drm_table.specs.declared.calls.Call.{Call}
use Rattle.drm_table.specs.declared.calls.Call.TheVariants.{SetClientCap, AuthMagic, SetMaster, DropMaster, CreateLease}
use Rattle.drm_table.specs.declared.events.Event.{Event}
use Rattle.drm_table.specs.declared.events.Event.TheVariants.{Open, Ask, Close}
use Rattle.drm_table.specs.declared.events.Opening.TheVariants.{Primary, Render, Lease}
use Rattle.drm_model.specs.Rows.{Rows, ClientRow, MasterRow, GrantRow, step_number, is_option, is_client, client_row, is_open}
use Rattle.drm_model.specs.Buffers.{with_object}
use Rattle.drm_model.specs.Endings.{is_open_lease}
use Rattle.drm_model.specs.Masters.{new_master, master_of}
use Rattle.drm_model.specs.Leases.{ended, lease_master}
use Rattle.drm_model.specs.Magics.{caller_master, magic_client, is_current, is_master, mastered, with_authenticated, with_master}
use Rattle.drm_model.specs.ClientCapabilities.{with_capability}
use Rattle.drm_model.specs.Capabilities.{with_client_capability}
use Rattle.drm_model.specs.Clients.{opened, opened_primary, closed, ended_if, ended_own}
use Rattle.drm_model.specs.Calls.{meaning}
use Rattle.drm_model.specs.Verdict.{verdict}
use Rattle.drm_model.proofs.StepNumbers.{master-same}
use Rattle.drm_model.proofs.EventChanges.{primary_row, set_row, client_after, master_after, new_master_row, each_edits}
use Rattle.drm_model.specs.Change.{changed}
use Rattle.drm_history.specs.History.{AnsweredEvent}
use Rattle.drm_history.specs.MasterState.{master_state}
use Rattle.drm_history.proofs.Rules.{caller_open, closer_open, lessor_current}
use Rattle.drm_history.proofs.ChangedRows.{masters_changed, changed-all, ForClient, ForMaster}
use Rattle.drm_history.proofs.Stands.{ClientStands, StandsBy, row_stands, current}
use Rattle.drm_index_array.proofs.Edits.{either, any_edited, listed}

abbrev pub is_row_of : ℕ → MasterRow → Bool
is_row_of m row = row.master == m

-- the master has a row
abbrev pub is_there : List MasterRow → ℕ → Bool
is_there rows m = list_any (is_row_of m) rows

-- the client is a master, and this is its own
abbrev pub holds : ℕ → ClientRow → Bool
holds m row = row.is_master && is_option m row.master

abbrev pub is_client_held : List ClientRow → ℕ → Bool
is_client_held rows m = list_any (holds m) rows

-- the lease token of the master is open, or a client is a master of it
abbrev pub is_lease_held : Rows → ℕ → Bool
is_lease_held w m = list_any (is_open_lease m) w.masters || is_client_held w.clients m

abbrev pub LessorThere : List MasterRow → MasterRow → Type 0
LessorThere rows row = IfSome row.lessor (λ m. is_there rows m ≡ true)

abbrev pub MasterThere : List MasterRow → ClientRow → Type 0
MasterThere rows row = IfSome row.master (λ m. is_there rows m ≡ true)

abbrev pub LeaseHeld : Rows → GrantRow → Type 0
LeaseHeld w row = is_lease_held w row.master ≡ true

abbrev pub Held : Rows → Type 0
Held w =
    AllByRecursion (LessorThere w.masters) w.masters
    × AllByRecursion (MasterThere w.masters) w.clients
    × IfSome w.device_master (λ m. is_client_held w.clients m ≡ true)
    × AllByRecursion (LeaseHeld w) w.grants

-- ---- one option or row

-- What is so of an option's value stays so, if the second property follows from the first.
pub if_some : {X : Type 0} (P Q : X → Type 0) → ((x : X) → P x → Q x) → (o : Option X) → IfSome o P → IfSome o Q
if_some P Q f None h = tt
if_some P Q f (Some x) h = f x h

-- An option that passes the test of a number holds that number.
pub is_option-same : (n : ℕ) (o : Option ℕ) → is_option n o ≡ true → o ≡ Some n
is_option-same n None h = absurd (let e : false ≡ true = h in cc)
is_option-same n (Some m) h = ap Some (eqb-true m n h)

-- what a client holds is there
held_there : (w : Rows) (m : ℕ) → AllByRecursion (MasterThere w.masters) w.clients → is_client_held w.clients m ≡ true
    → is_there w.masters m ≡ true
held_there w m there h = in_list w.clients there h
  where
    of_row : (row : ClientRow) → MasterThere w.masters row → holds m row ≡ true → is_there w.masters m ≡ true
    of_row row k e =
        subst (λ (o : Option ℕ). IfSome o (λ m. is_there w.masters m ≡ true))
        (is_option-same m row.master (and_parts row.is_master (is_option m row.master) e).1) k

    in_list : (rows : List ClientRow) → AllByRecursion (MasterThere w.masters) rows → list_any (holds m) rows ≡ true
        → is_there w.masters m ≡ true
    in_list [] k e = absurd (let n : false ≡ true = e in cc)
    in_list (row ∷ rows) k e =
        (elim (holds m row) as (λ b. holds m row ≡ b → (b || list_any (holds m) rows) ≡ true → is_there w.masters m ≡ true) [
          | true ↦ λ is j. of_row row k.0 is
          | false ↦ λ is j. in_list rows k.1 j
        ]) refl e

-- If a lease token is open or a client is a master of it, the master exists.
pub lease_there : (w : Rows) → Held w → (m : ℕ) → is_lease_held w m ≡ true → is_there w.masters m ≡ true
lease_there w h m e =
    (elim (list_any (is_open_lease m) w.masters) as (λ b. list_any (is_open_lease m) w.masters ≡ b → (b || is_client_held w.clients m) ≡ true → is_there w.masters m ≡ true) [
      | true ↦ λ is k. any_more (λ _. Unit {0}) (is_open_lease m) (is_row_of m) (λ row _ j. (and_parts (row.master == m) (is_some row.lease_token) j).0) w.masters (all_each (λ _. Unit {0}) (λ _. tt) w.masters) is
      | false ↦ λ is k. held_there w m h.1 k
    ]) refl e

-- A master that exists still does after any event, before the sweep.
pub there_still : (w : Rows) (event : Event) (m : ℕ) → is_there w.masters m ≡ true
    → is_there (changed w event).masters m ≡ true
there_still w event m h =
    ap (λ (v : Rows). list_any (is_row_of m) v.masters) (each_edits w event)
    ∙ any_edited (λ row. true) (master_after w event) (listed (new_master_row w event)) w.masters (is_row_of m)
    (λ row e. (refl, ap (λ n. n == m) (master-same w event row) ∙ e)) h

-- ---- lessors

option_or_zero : (o : Option ℕ) (P : ℕ → Type 0) → is_some o ≡ true → IfSome o P → P (unwrap_or o 0)
option_or_zero None P h p = absurd (let n : false ≡ true = h in cc)
option_or_zero (Some m) P h p = p

found_has : {X : Type 0} (P : X → Type 0) (p : X → Bool) (xs : List X) → AllByRecursion P xs → (o : Option X)
    → find p xs ≡ o → IfSome o P
found_has P p xs h None e = tt
found_has P p xs h (Some x) e = (found p P x xs h e).1

-- The master of a client exists.
pub master_there : (w : Rows) (c : ℕ) → AllByRecursion (MasterThere w.masters) w.clients
    → IfSome (master_of w c) (λ m. is_there w.masters m ≡ true)
master_there w c h =
    of_row (client_row w c) (found_has (MasterThere w.masters) (is_client c) w.clients h (client_row w c) refl)
  where
    of_row : (o : Option ClientRow) → IfSome o (MasterThere w.masters)
        → IfSome (option_and_then (λ (row : ClientRow). row.master) o) (λ m. is_there w.masters m ≡ true)
    of_row None k = tt
    of_row (Some row) k = k

-- The master of a current client exists.
pub own_there : (w : Rows) (c : ℕ) → Held w → is_current w c ≡ true → is_there w.masters (caller_master w c) ≡ true
own_there w c h e =
    option_or_zero (master_of w c) (λ m. is_there w.masters m ≡ true) (current w c e).2 (master_there w c h.1)

lessor_there : (w : Rows) (event : Event) → verdict w event ≡ None → Held w
    → ForMaster (LessorThere (changed w event).masters) w event
lessor_there w (Ask c (CreateLease ids)) v h =
    there_still w (Ask c (CreateLease ids)) (caller_master w c) (own_there w c h (lessor_current w c ids v))
lessor_there w (Ask c SetMaster) v h = tt
lessor_there w (Ask c call) v h = tt
lessor_there w (Open (Primary root universal)) v h = tt
lessor_there w (Open Render) v h = tt
lessor_there w (Open (Lease token root universal)) v h = tt
lessor_there w (Close c) v h = tt

-- After an accepted event the lessor of each master exists.
pub lessors_there : (w : Rows) (event : Event) → verdict w event ≡ None → Held w
    → AllByRecursion (LessorThere (changed w event).masters) (changed w event).masters
lessors_there w event v h =
    let stays =
    λ (row : MasterRow) (k : LessorThere w.masters row). if_some (λ m. is_there w.masters m ≡ true)
    (λ m. is_there (changed w event).masters m ≡ true) (λ m e. there_still w event m e) row.lessor k in
    masters_changed w (LessorThere w.masters) (LessorThere (changed w event).masters) stays stays event h.0
    (lessor_there w event v h)

-- ---- clients

-- A master that is added exists.
pub new_there : (rows : List MasterRow) (row : MasterRow) → is_there (rows ++ row ∷ []) row.master ≡ true
new_there rows row =
    list_any_right (is_row_of row.master) rows (row ∷ [])
    (or_left (row.master == row.master) false (eq-eqb row.master row.master refl))

set_there : (w : Rows) (c : ℕ) (current master : Bool) (row : ClientRow)
    → MasterThere (mastered w c current master).masters row
    → MasterThere (mastered w c current master).masters (set_row w c current master row)
set_there w c true master row h = h
set_there w c false true row h = h
set_there w c false false row h =
    either (MasterThere (mastered w c false false).masters) (is_client c row)
    (record row { authenticated = true; once_master = true; is_master = true; master = Some (step_number w) }) row
    (new_there w.masters (new_master (step_number w))) h

client_there : (w : Rows) (event : Event) (row : ClientRow) → MasterThere (changed w event).masters row
    → MasterThere (changed w event).masters (client_after w event row)
unfolding changed meaning
client_there w (Ask c (AuthMagic magic)) row h =
    either (MasterThere w.masters) (is_option row.client (magic_client w (caller_master w c) magic))
    (record row { authenticated = true }) row h h
client_there w (Ask c (SetClientCap cap value)) row h =
    either (MasterThere w.masters) (is_client c row)
    (record row { capabilities = with_capability cap (value == 1) row.capabilities }) row h h
client_there w (Ask c SetMaster) row h = set_there w c (is_current w c) (is_master w c) row h
client_there w (Ask c call) row h = h
client_there w (Open opening) row h = h
client_there w (Close c) row h = h

primary_there : (w : Rows) (root universal : Bool) (m : Option ℕ) → IfSome m (λ m. is_there w.masters m ≡ true)
    → MasterThere (opened_primary w root universal m).masters (primary_row w root universal m)
primary_there w root universal None h = new_there w.masters (new_master (step_number w))
primary_there w root universal (Some m) h = h

-- Each master of a list exists in it.
pub row_there : (rows : List MasterRow) → AllByRecursion (λ (row : MasterRow). is_there rows row.master ≡ true) rows
row_there rows =
    all_weaker (λ (row : MasterRow). (row.master == row.master) ≡ true → is_there rows row.master ≡ true)
    (λ (row : MasterRow). is_there rows row.master ≡ true) (λ row f. f (eq-eqb row.master row.master refl)) rows
    (each_any (λ (x y : MasterRow). y.master == x.master) rows)

redeemed_there : (w : Rows) (token : ℕ)
    → IfSome (option_map (λ (row : MasterRow). row.master) (lease_master w token)) (λ m. is_there w.masters m ≡ true)
redeemed_there w token =
    of_row (lease_master w token)
    (found_has (λ (row : MasterRow). is_there w.masters row.master ≡ true) (λ (row : MasterRow). is_option token row.lease_token) w.masters (row_there w.masters) (lease_master w token) refl)
  where
    of_row : (o : Option MasterRow) → IfSome o (λ (row : MasterRow). is_there w.masters row.master ≡ true)
        → IfSome (option_map (λ (row : MasterRow). row.master) o) (λ m. is_there w.masters m ≡ true)
    of_row None k = tt
    of_row (Some row) k = k

device_there : (w : Rows) → Held w → IfSome w.device_master (λ m. is_there w.masters m ≡ true)
device_there w h =
    if_some (λ m. is_client_held w.clients m ≡ true) (λ m. is_there w.masters m ≡ true) (λ m e. held_there w m h.1 e)
    w.device_master h.2

opened_there : (w : Rows) (event : Event) → Held w → ForClient (MasterThere (changed w event).masters) w event
unfolding changed opened
opened_there w (Open (Primary root universal)) h = primary_there w root universal w.device_master (device_there w h)
opened_there w (Open Render) h = tt
opened_there w (Open (Lease token root universal)) h =
    if_some (λ m. is_there w.masters m ≡ true)
    (λ m. is_there (changed w (Open (Lease token root universal))).masters m ≡ true)
    (λ m e. there_still w (Open (Lease token root universal)) m e)
    (option_map (λ (row : MasterRow). row.master) (lease_master w token)) (redeemed_there w token)
opened_there w (Ask c call) h = tt
opened_there w (Close c) h = tt

-- After any event the master of each client exists.
pub clients_there : (w : Rows) (event : Event) → Held w
    → AllByRecursion (MasterThere (changed w event).masters) (changed w event).clients
clients_there w event h =
    changed-all w (MasterThere (changed w event).masters) event
    (all_weaker (MasterThere w.masters) (λ row. MasterThere (changed w event).masters (client_after w event row))
    (λ row k. client_there w event row (if_some (λ m. is_there w.masters m ≡ true) (λ m. is_there (changed w event).masters m ≡ true) (λ m e. there_still w event m e) row.master k)) w.clients h.1)
    (opened_there w event h)

-- ---- who holds a master

-- If each of two conditions implies another, one of the first implies one of the others.
pub or_more : (a b x y : Bool) → (a ≡ true → x ≡ true) → (b ≡ true → y ≡ true) → (a || b) ≡ true → (x || y) ≡ true
or_more true b x y f g h = or_left x y (f refl)
or_more false b x y f g h = or_right x y (g h)

-- By the history the client is no master, or its master is another.
pub no_holder : (past : List AnsweredEvent) (c m : ℕ) → Type 0
no_holder past c m = (master_state past).is_master c ≡ true → (master_state past).master c ≡ Some m → ⊥

-- A client that holds a master is another than one that by the history does not.
pub apart : (past : List AnsweredEvent) (c m : ℕ) → no_holder past c m → (row : ClientRow)
    → ClientStands (master_state past) row → holds m row ≡ true → is_client c row ≡ false
unfolding no_holder
apart past c m none row stands h =
    let parts = and_parts row.is_master (is_option m row.master) h in
    false_from_ne_true (is_client c row) (λ e.
    let same = eqb-true row.client c e in
    none (ap (master_state past).is_master (sym same) ∙ sym stands.0 ∙ parts.0) (ap (master_state past).master (sym same) ∙ sym stands.1 ∙ is_option-same m row.master parts.1))

module _ (past : List AnsweredEvent) (w : Rows) (a : StandsBy past w) (c m : ℕ) (none : no_holder past c m) where
  -- A master that a client holds is still held after another client's closing.
  pub held_without : is_client_held w.clients m ≡ true
      → is_client_held (filter (λ row. not (is_client c row)) w.clients) m ≡ true
  held_without h =
      any_filter (ClientStands (master_state past)) (holds m) (λ row. not (is_client c row))
      (λ row stands e. ap not (apart past c m none row stands e)) w.clients a.clients h

  -- A master that a client holds is still held after another client has got a new master.
  pub held_mastered : (n : ℕ) → is_client_held w.clients m ≡ true → is_client_held (with_master c n w.clients) m ≡ true
  unfolding with_master
  held_mastered n h =
      any_mapped (ClientStands (master_state past)) (holds m) (holds m) _
      (λ (row : ClientRow) stands e. ap (λ b. holds m (if b then record row { authenticated = true; once_master = true; is_master = true; master = Some n } else row)) (apart past c m none row stands e) ∙ e)
      w.clients a.clients h

-- who gets a master holds it
held_new : (w : Rows) (c n : ℕ) → is_open w c ≡ true → is_client_held (with_master c n w.clients) n ≡ true
unfolding with_master
held_new w c n h =
    any_mapped (λ _. Unit {0}) (is_client c) (holds n) _
    (λ (row : ClientRow) _ e. ap (λ b. holds n (if b then record row { authenticated = true; once_master = true; is_master = true; master = Some n } else row)) e ∙ eq-eqb n n refl)
    w.clients (all_each (λ (row : ClientRow). Unit {0}) (λ _. tt) w.clients)
    (sym (is_some-find (is_client c) w.clients) ∙ h)

-- A client that holds a master still does if some clients become authenticated.
pub held_authenticated : (test : ClientRow → Bool) (rows : List ClientRow) (m : ℕ) → is_client_held rows m ≡ true
    → is_client_held (map (λ (row : ClientRow). if test row then record row { authenticated = true } else row) rows) m ≡ true
held_authenticated test rows m h =
    any_mapped (λ _. Unit {0}) (holds m) (holds m) _
    (λ (row : ClientRow) _ e. either (λ (x : ClientRow). holds m x ≡ true) (test row) (record row { authenticated = true }) row e e)
    rows (all_each (λ (row : ClientRow). Unit {0}) (λ _. tt) rows) h

-- A client that holds a master still does if a capability is set for some clients.
pub held_capable : (test : ClientRow → Bool) (cap : ℕ) (on : Bool) (rows : List ClientRow) (m : ℕ)
    → is_client_held rows m ≡ true
    → is_client_held (map (λ (row : ClientRow). if test row then record row { capabilities = with_capability cap on row.capabilities } else row) rows) m ≡ true
held_capable test cap on rows m h =
    any_mapped (λ _. Unit {0}) (holds m) (holds m) _
    (λ (row : ClientRow) _ e. either (λ (x : ClientRow). holds m x ≡ true) (test row) (record row { capabilities = with_capability cap on row.capabilities }) row e e)
    rows (all_each (λ (row : ClientRow). Unit {0}) (λ _. tt) rows) h

-- a client that is a master holds its own
own_held : (w : Rows) (c : ℕ) → is_master w c ≡ true → IfSome (master_of w c) (λ m. is_client_held w.clients m ≡ true)
own_held w c h = of_row (client_row w c) refl h
  where
    it : (row : ClientRow) (m : Option ℕ) → client_row w c ≡ Some row → row.is_master ≡ true → row.master ≡ m
        → IfSome m (λ m. is_client_held w.clients m ≡ true)
    it row None e is k = tt
    it row (Some m) e is k =
        any_found (is_client c) (holds m) row w.clients e
        (ap (λ b. b && is_option m row.master) is ∙ ap (is_option m) k ∙ eq-eqb m m refl)

    of_row : (o : Option ClientRow) → client_row w c ≡ o
        → option_map_or (λ (row : ClientRow). row.is_master) o false ≡ true
        → IfSome (option_and_then (λ (row : ClientRow). row.master) o) (λ m. is_client_held w.clients m ≡ true)
    of_row None e k = tt
    of_row (Some row) e k = it row row.master e k refl

-- ---- the device's master

abbrev pub DeviceHeld : Rows → Type 0
DeviceHeld v = IfSome v.device_master (λ m. is_client_held v.clients m ≡ true)

primary_device : (w : Rows) (root universal : Bool) (m : Option ℕ) → Held w
    → DeviceHeld (opened_primary w root universal m)
primary_device w root universal None h =
    list_any_right (holds (step_number w)) w.clients _
    (ap (λ b. b || false) (eq-eqb (step_number w) (step_number w) refl))
primary_device w root universal (Some m) h =
    if_some (λ m. is_client_held w.clients m ≡ true)
    (λ k. is_client_held (opened_primary w root universal (Some m)).clients k ≡ true)
    (λ k e. list_any_left (holds k) w.clients _ e) w.device_master h.2

set_device : (w : Rows) (c : ℕ) (current master : Bool) → is_master w c ≡ master → is_open w c ≡ true → Held w
    → DeviceHeld (mastered w c current master)
set_device w c true master is opened h = h.2
set_device w c false true is opened h = own_held w c is
set_device w c false false is opened h = held_new w c (step_number w) opened

-- A client of one master holds no other master.
pub own_apart : (past : List AnsweredEvent) (w : Rows) (a : StandsBy past w) (c own m : ℕ)
    → (master_state past).master c ≡ Some own → (m == own) ≡ false → no_holder past c m
unfolding no_holder
own_apart past w a c own m e apart is k = let same : own ≡ m = (let s : Some own ≡ Some m = sym e ∙ k in cc) in let no_more : false ≡ true = sym apart ∙ eq-eqb m own (sym same) in cc

-- A client that is no master holds none.
pub non_master_apart : (past : List AnsweredEvent) (c m : ℕ) → (master_state past).is_master c ≡ false
    → no_holder past c m
unfolding no_holder
non_master_apart past c m e is k = let n : false ≡ true = sym e ∙ is in cc

-- A client without a master holds none.
pub lone_apart : (past : List AnsweredEvent) (c m : ℕ) → (master_state past).master c ≡ None → no_holder past c m
unfolding no_holder
lone_apart past c m e is k = let n : None ≡ Some m = sym e ∙ k in cc

close_device : (past : List AnsweredEvent) (w : Rows) (a : StandsBy past w) (c : ℕ) (is_master : Bool) (master : Option ℕ)
    → (master_state past).is_master c ≡ is_master → (master_state past).master c ≡ master → Held w →
    IfSome (ended_if w is_master master).device_master
    (λ m. is_client_held (filter (λ row. not (is_client c row)) w.clients) m ≡ true)
close_device past w a c true (Some own) is e h = by w.device_master h.2
  where
    by : (device : Option ℕ) → IfSome device (λ m. is_client_held w.clients m ≡ true)
        → IfSome (if is_option own device then None else device) (λ m. is_client_held (filter (λ row. not (is_client c row)) w.clients) m ≡ true)
    by None k = tt
    by (Some d) k =
        elim (d == own) as (λ b. (d == own) ≡ b → IfSome (if b then None else Some d) (λ m. is_client_held (filter (λ row. not (is_client c row)) w.clients) m ≡ true))
        [ true ↦ λ same. tt | false ↦ λ same. held_without past w a c d (own_apart past w a c own d e same) k ] refl
close_device past w a c true None is e h =
    if_some (λ m. is_client_held w.clients m ≡ true)
    (λ m. is_client_held (filter (λ row. not (is_client c row)) w.clients) m ≡ true)
    (λ m k. held_without past w a c m (lone_apart past c m e) k) w.device_master h.2
close_device past w a c false master is e h =
    if_some (λ m. is_client_held w.clients m ≡ true)
    (λ m. is_client_held (filter (λ row. not (is_client c row)) w.clients) m ≡ true)
    (λ m k. held_without past w a c m (non_master_apart past c m is) k) w.device_master h.2

closed_device : (past : List AnsweredEvent) (w : Rows) (a : StandsBy past w) (c : ℕ) (o : Option ClientRow)
    → client_row w c ≡ o → is_some o ≡ true → Held w
    → IfSome (ended_own w o).device_master (λ m. is_client_held (filter (λ row. not (is_client c row)) w.clients) m ≡ true)
closed_device past w a c None e opened h = absurd (let n : false ≡ true = opened in cc)
closed_device past w a c (Some row) e opened h = let told = row_stands (master_state past) w c row a.clients e in close_device past w a c row.is_master row.master (sym told.0) (sym told.1) h

asked_device : (past : List AnsweredEvent) (w : Rows) (c : ℕ) (call : Call) → verdict w (Ask c call) ≡ None → Held w
    → DeviceHeld (changed w (Ask c call))
unfolding changed meaning with_object with_authenticated with_client_capability ended
asked_device past w c SetMaster v h =
    set_device w c (is_current w c) (is_master w c) refl (caller_open w c SetMaster v) h
asked_device past w c DropMaster v h = tt
asked_device past w c (AuthMagic magic) v h =
    if_some (λ m. is_client_held w.clients m ≡ true)
    (λ m. is_client_held (changed w (Ask c (AuthMagic magic))).clients m ≡ true)
    (λ m e. held_authenticated (λ row. is_option row.client (magic_client w (caller_master w c) magic)) w.clients m e)
    w.device_master h.2
asked_device past w c (SetClientCap cap value) v h =
    if_some (λ m. is_client_held w.clients m ≡ true)
    (λ m. is_client_held (changed w (Ask c (SetClientCap cap value))).clients m ≡ true)
    (λ m e. held_capable (is_client c) cap (value == 1) w.clients m e) w.device_master h.2
asked_device past w c call v h = h.2

-- After an accepted event a client holds the device's master, if the device has one.
pub device_held : (past : List AnsweredEvent) (w : Rows) (event : Event) → verdict w event ≡ None → StandsBy past w
    → Held w → DeviceHeld (changed w event)
unfolding changed opened closed
device_held past w (Open (Primary root universal)) v a h = primary_device w root universal w.device_master h
device_held past w (Open Render) v a h =
    if_some (λ m. is_client_held w.clients m ≡ true) (λ m. is_client_held (changed w (Open Render)).clients m ≡ true)
    (λ m e. list_any_left (holds m) w.clients _ e) w.device_master h.2
device_held past w (Open (Lease token root universal)) v a h =
    if_some (λ m. is_client_held w.clients m ≡ true)
    (λ m. is_client_held (changed w (Open (Lease token root universal))).clients m ≡ true)
    (λ m e. list_any_left (holds m) w.clients _ e) w.device_master h.2
device_held past w (Ask c call) v a h = asked_device past w c call v h
device_held past w (Close c) v a h = closed_device past w a c (client_row w c) refl (closer_open w c v) h
