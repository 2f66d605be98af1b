-- Steps made the clients, masters and objects, and a lessor is older than its lessee, along a run.
use Rattle.std.proofs.Common.{◌≡◌, ℕ, ◌+◌, ◌==◌, ◌<◌, ◌≤◌, Bool, true, false, List, Option, None, Some, sym, subst, arith, ap}
use Rattle.std.specs.Prelude.{unwrap_or, IfSome}
use Rattle.std.specs.List.{AllByRecursion}
use Rattle.std.specs.Option.{option_map, option_and_then}
use Rattle.std.proofs.lemmas.Bool.{eqb-true}
use Rattle.drm_index_array.proofs.Lists.{all_weaker, all_filter}
use Rattle.drm_index_array.proofs.FoundInLists.{all_found, found_passes}
use Rattle.drm_table.specs.declared.calls.Call.TheVariants.{SetClientCap, AuthMagic, SetMaster, DropMaster, CreateLease}
use Rattle.drm_table.specs.declared.events.Event.{Event}
use Rattle.drm_table.specs.declared.events.Event.TheVariants.{Open, Ask, Close}
use Rattle.drm_table.specs.declared.events.Opening.TheVariants.{Primary, Render, Lease}
use Rattle.drm_model.specs.StepNumbers.{IsMadeClient, IsMadeMaster, WereMade}
use Rattle.drm_model.specs.Rows.{Rows, ClientRow, MasterRow, ObjectRow, step_number, empty_rows, is_option, is_client, client_row}
use Rattle.drm_model.specs.Masters.{master_of, master_row, lessor_of}
use Rattle.drm_model.specs.ClientCapabilities.{with_capability}
use Rattle.drm_model.specs.Magics.{caller_master, magic_client, is_current, is_master, mastered}
use Rattle.drm_model.specs.Leases.{ended, lease_master}
use Rattle.drm_model.specs.Buffers.{with_object}
use Rattle.drm_model.specs.Clients.{opened, opened_primary, closed, ended_own, ended_if}
use Rattle.drm_model.specs.Calls.{meaning}
use Rattle.drm_model.specs.Change.{after, changed, swept, journaled}
use Rattle.drm_model.specs.Run.{rows_of, DeviceValue}
use Rattle.drm_model.proofs.Journals.{after-steps}
use Rattle.drm_index_array.proofs.Edits.{all_edited, all_listed, either, listed}
use Rattle.drm_model.proofs.EventChanges.{along, by_verdict, client_after, client_stays, founded_master, master_after, new_client_row, new_master_row, new_object_row, object_after, primary_row, set_master_row, set_row, spends_token, each_edits}
use Rattle.drm_model.proofs.StepNumbers.{object-new, object-same}

-- ---- one step later

up_to_later : (last : ℕ) (o : Option ℕ) → IfSome o (λ m. m ≤ last) → IfSome o (λ m. m ≤ last + 1)
up_to_later last None h = tt
up_to_later last (Some m) h = omega (arith, h)

clients_later : (last : ℕ) (rows : List ClientRow) → AllByRecursion (IsMadeClient last) rows
    → AllByRecursion (IsMadeClient (last + 1)) rows
clients_later last rows h =
    all_weaker (IsMadeClient last) (IsMadeClient (last + 1)) (λ row k. (k.0, up_to_later last row.master k.1)) rows h

masters_later : (last : ℕ) (rows : List MasterRow) → AllByRecursion (IsMadeMaster last) rows
    → AllByRecursion (IsMadeMaster (last + 1)) rows
masters_later last rows h =
    all_weaker (IsMadeMaster last) (IsMadeMaster (last + 1)) (λ row k. (k.0, let old = k.1 in omega (arith, old), k.2))
    rows h

later : (w : Rows) → WereMade w.steps w → WereMade (step_number w) w
later w h =
    (clients_later w.steps w.clients h.0, masters_later w.steps w.masters h.1, h.2, up_to_later w.steps w.device_master h.3)

-- ---- what a client's master is

master_there : (last : ℕ) (o : Option ClientRow) → IfSome o (IsMadeClient last)
    → IfSome (option_and_then (λ (row : ClientRow). row.master) o) (λ m. m ≤ last)
master_there last None h = tt
master_there last (Some row) h = h.1

master_up_to : (last : ℕ) (w : Rows) (c : ℕ) → AllByRecursion (IsMadeClient last) w.clients
    → IfSome (master_of w c) (λ m. m ≤ last)
master_up_to last w c h = master_there last (client_row w c) (all_found (IsMadeClient last) (is_client c) w.clients h)

none_is_zero : (last : ℕ) (o : Option ℕ) → IfSome o (λ m. m ≤ last) → unwrap_or o 0 ≤ last
none_is_zero last None h = omega arith
none_is_zero last (Some m) h = h

-- The caller's master is of a step that was made.
pub own_master_made : (w : Rows) (c : ℕ) → WereMade w.steps w → caller_master w c ≤ w.steps
own_master_made w c h = none_is_zero w.steps (master_of w c) (master_up_to w.steps w c h.0)

redeemed : (last : ℕ) (o : Option MasterRow) → IfSome o (IsMadeMaster last)
    → IfSome (option_map (λ (row : MasterRow). row.master) o) (λ m. m ≤ last)
redeemed last None h = tt
redeemed last (Some row) h = h.1

-- ---- what an event changes

-- a client's master is its own before, or one of this step
set-made : (w : Rows) (c : ℕ) (current master : Bool) (row : ClientRow) → IsMadeClient (step_number w) row
    → IsMadeClient (step_number w) (set_row w c current master row)
set-made w c true master row h = h
set-made w c false true row h = h
set-made w c false false row h =
    either (IsMadeClient (step_number w)) (is_client c row)
    (record row { authenticated = true; once_master = true; is_master = true; master = Some (step_number w) }) row
    (h.0, omega arith) h

client-made : (w : Rows) (event : Event) (row : ClientRow) → IsMadeClient (step_number w) row
    → IsMadeClient (step_number w) (client_after w event row)
client-made w (Ask c (AuthMagic magic)) row h =
    either (IsMadeClient (step_number w)) (is_option row.client (magic_client w (caller_master w c) magic))
    (record row { authenticated = true }) row h h
client-made w (Ask c SetMaster) row h = set-made w c (is_current w c) (is_master w c) row h
client-made w (Ask c (SetClientCap cap value)) row h =
    either (IsMadeClient (step_number w)) (is_client c row)
    (record row { capabilities = with_capability cap (value == 1) row.capabilities }) row h h
client-made w (Ask c call) row h = h
client-made w (Open opening) row h = h
client-made w (Close c) row h = h

primary-made : (w : Rows) (root universal : Bool) (m : Option ℕ) → IfSome m (λ m. m ≤ step_number w)
    → IsMadeClient (step_number w) (primary_row w root universal m)
primary-made w root universal None old = (omega arith, omega arith)
primary-made w root universal (Some m) old = (omega arith, old)

new_client-made : (w : Rows) (event : Event) → WereMade (step_number w) w
    → IfSome (new_client_row w event) (IsMadeClient (step_number w))
new_client-made w (Open (Primary root universal)) k = primary-made w root universal w.device_master k.3
new_client-made w (Open Render) k = (omega arith, tt)
new_client-made w (Open (Lease token root universal)) k =
    (omega arith, redeemed (step_number w) (lease_master w token) (all_found (IsMadeMaster (step_number w)) (λ row. is_option token row.lease_token) w.masters k.1))
new_client-made w (Ask c call) k = tt
new_client-made w (Close c) k = tt

founded-made : (w : Rows) (m : Option ℕ) → IfSome (founded_master w m) (IsMadeMaster (step_number w))
founded-made w None = (omega arith, omega arith, tt)
founded-made w (Some m) = tt

set_master-made : (w : Rows) (current master : Bool)
    → IfSome (set_master_row w current master) (IsMadeMaster (step_number w))
set_master-made w true master = tt
set_master-made w false true = tt
set_master-made w false false = (omega arith, omega arith, tt)

-- a lessor is there before its lessee
new_master-made : (w : Rows) (event : Event) → WereMade w.steps w
    → IfSome (new_master_row w event) (IsMadeMaster (step_number w))
new_master-made w (Open (Primary root universal)) h = founded-made w w.device_master
new_master-made w (Open Render) h = tt
new_master-made w (Open (Lease token root universal)) h = tt
new_master-made w (Ask c SetMaster) h = set_master-made w (is_current w c) (is_master w c)
new_master-made w (Ask c (CreateLease ids)) h =
    (omega arith, omega arith, let older = own_master_made w c h in omega (arith, older))
new_master-made w (Ask c call) h = tt
new_master-made w (Close c) h = tt

-- ---- the device's master

closing-device : (w : Rows) (last : ℕ) (is_master : Bool) (m : Option ℕ) → IfSome w.device_master (λ m. m ≤ last)
    → IfSome (ended_if w is_master m).device_master (λ m. m ≤ last)
closing-device w last true (Some m) h =
    either (λ (o : Option ℕ). IfSome o (λ m. m ≤ last)) (is_option m w.device_master) None w.device_master tt h
closing-device w last true None h = h
closing-device w last false m h = h

closed-device : (w : Rows) (last : ℕ) (row : Option ClientRow) → IfSome w.device_master (λ m. m ≤ last)
    → IfSome (ended_own w row).device_master (λ m. m ≤ last)
closed-device w last None h = h
closed-device w last (Some row) h = closing-device w last row.is_master row.master h

primary-device : (w : Rows) (root universal : Bool) (m : Option ℕ) → IfSome w.device_master (λ m. m ≤ step_number w)
    → IfSome (opened_primary w root universal m).device_master (λ m. m ≤ step_number w)
primary-device w root universal None h = omega arith
primary-device w root universal (Some m) h = h

set-device : (w : Rows) (c : ℕ) (current master : Bool) → WereMade (step_number w) w
    → IfSome (mastered w c current master).device_master (λ m. m ≤ step_number w)
set-device w c true master k = k.3
set-device w c false true k = master_up_to (step_number w) w c k.0
set-device w c false false k = omega arith

device-made : (w : Rows) (event : Event) → WereMade (step_number w) w
    → IfSome (changed w event).device_master (λ m. m ≤ step_number w)
unfolding changed opened closed meaning with_object ended
device-made w (Open (Primary root universal)) k = primary-device w root universal w.device_master k.3
device-made w (Open Render) k = k.3
device-made w (Open (Lease token root universal)) k = k.3
device-made w (Ask c SetMaster) k = set-device w c (is_current w c) (is_master w c) k
device-made w (Ask c DropMaster) k = tt
device-made w (Ask c call) k = k.3
device-made w (Close c) k = closed-device w (step_number w) (client_row w c) k.3

-- ---- steps and runs

-- If steps made all clients, masters and objects, this step or an earlier one made those after an event, before the
-- sweep.
pub changed-made : (w : Rows) (event : Event) → WereMade w.steps w → WereMade (step_number w) (changed w event)
changed-made w event h =
    let k = later w h in
    let is = each_edits w event in (
      subst (AllByRecursion (IsMadeClient (step_number w))) (sym (ap (λ (v : Rows). v.clients) is))
          (all_edited (client_stays w event) (client_after w event) (listed (new_client_row w event)) w.clients (IsMadeClient (step_number w)) (IsMadeClient (step_number w)) (λ row made _. client-made w event row made) (all_listed (IsMadeClient (step_number w)) (new_client_row w event) (new_client-made w event k)) k.0),
      subst (AllByRecursion (IsMadeMaster (step_number w))) (sym (ap (λ (v : Rows). v.masters) is))
          (all_edited (λ row. true) (master_after w event) (listed (new_master_row w event)) w.masters (IsMadeMaster (step_number w)) (IsMadeMaster (step_number w)) (λ row made _. either (IsMadeMaster (step_number w)) (spends_token w event row) (record row { lease_token = None }) row made made)
          (all_listed (IsMadeMaster (step_number w)) (new_master_row w event) (new_master-made w event h)) k.1),
      subst (AllByRecursion (λ (row : ObjectRow). 1 ≤ row.object)) (sym (ap (λ (v : Rows). v.objects) is))
          (all_edited (λ row. true) (object_after w event) (listed (new_object_row w event)) w.objects (λ row. 1 ≤ row.object) (λ row. 1 ≤ row.object) (λ row made _. rw (object-same w event row) made)
          (all_listed (λ (row : ObjectRow). 1 ≤ row.object) (new_object_row w event) (new_object w event (new_object_row w event) (object-new w event))) k.2),
      device-made w event k,
    )
  where
    new_object : (w : Rows) (event : Event) (o : Option ObjectRow) → IfSome o (λ row. row.object ≡ step_number w)
        → IfSome o (λ row. 1 ≤ row.object)
    new_object w event None e = tt
    new_object w event (Some row) e = omega (arith, e)

swept-made : (w : Rows) (last : ℕ) → WereMade last w → WereMade last (journaled (swept w))
unfolding swept
swept-made w last h =
    (h.0, all_filter (IsMadeMaster last) _ w.masters h.1, all_filter (λ (row : ObjectRow). 1 ≤ row.object) _ w.objects h.2, h.3)

-- If steps made all clients, masters and objects, that is still so after any event.
pub after-made : (w : Rows) (event : Event) → WereMade w.steps w → WereMade (after w event).steps (after w event)
after-made w event h =
    subst (λ n. WereMade n (after w event)) (sym (after-steps w event))
    (by_verdict (WereMade (step_number w)) w event (later w h) (λ accepted. swept-made (changed w event) (step_number w) (changed-made w event h)))

-- In the rows of any history, its steps made all clients, masters and objects.
pub were_made : (h : DeviceValue) → WereMade (rows_of h).steps (rows_of h)
unfolding rows_of
were_made h = along (λ w. WereMade w.steps w) after-made h.journal (empty_rows h.topology h.limits) (tt, tt, tt, tt)

-- ---- a lessor and its lessee

-- A lessor is older than its lessee, for a row that is found and that a step made.
pub lessor_there : (last n m : ℕ) (o : Option MasterRow) → IfSome o (IsMadeMaster last)
    → IfSome o (λ (row : MasterRow). (row.master == n) ≡ true)
    → option_and_then (λ (row : MasterRow). row.lessor) o ≡ Some m → m < n
lessor_there last n m None h is e = absurd (let no : None ≡ Some m = e in cc)
lessor_there last n m (Some row) h is e =
    subst (λ k. m < k) (eqb-true row.master n is)
    (subst (λ (o : Option ℕ). IfSome o (λ lessor. lessor < row.master)) e h.2)

-- A lessor is older than its lessee in rows that steps made.
pub lessor_older : (last : ℕ) (rows : List MasterRow) → AllByRecursion (IsMadeMaster last) rows → (n m : ℕ)
    → lessor_of rows n ≡ Some m → m < n
lessor_older last rows made n m e =
    lessor_there last n m (master_row rows n) (all_found (IsMadeMaster last) (λ row. row.master == n) rows made)
    (found_passes (λ row. row.master == n) rows) e

-- In the rows of any history a lessor is older than its lessee, so each chain of lessors ends.
pub lessors_are_older : (h : DeviceValue) (n m : ℕ) → lessor_of (rows_of h).masters n ≡ Some m → m < n
lessors_are_older h n m e = lessor_older (rows_of h).steps (rows_of h).masters (were_made h).1 n m e
