-- Step numbers rise along a run.
use Rattle.std.proofs.Common.{◌≡◌, ℕ, ◌+◌, ◌==◌, ◌<◌, ◌≤◌, Bool, true, false, List, filter, Option, None, Some, refl, sym, subst, arith, ap}
use Rattle.std.specs.Prelude.{IfSome}
use Rattle.drm_index_array.proofs.Lists.{all_weaker, all_filter}
use Rattle.drm_index_array.proofs.Orders.{in_order_filter}
use Rattle.drm_index_array.proofs.Edits.{edited, listed, either, all_listed, all_edited, in_order_edited}
use Rattle.drm_table.specs.declared.calls.Call.TheVariants.{SetClientCap, AuthMagic, SetMaster, BufCreate, StampWrite, CreateDumb, CreateLease}
use Rattle.drm_table.specs.declared.events.Event.{Event}
use Rattle.drm_table.specs.declared.events.Event.TheVariants.{Open, Ask, Close}
use Rattle.drm_table.specs.declared.events.Opening.TheVariants.{Primary, Render, Lease}
use Rattle.drm_model.specs.StepNumbers.{MadeInTurn, StepNumbersRise}
use Rattle.drm_model.specs.Rows.{Rows, ClientRow, MasterRow, ObjectRow, step_number, empty_rows, is_option, is_client, object_of}
use Rattle.drm_model.specs.ClientCapabilities.{with_capability}
use Rattle.drm_model.specs.Magics.{caller_master, magic_client, is_current, is_master}
use Rattle.drm_model.specs.Change.{after, changed, swept, journaled}
use Rattle.drm_model.specs.Run.{rows_of, DeviceValue}
use Rattle.drm_model.proofs.EventChanges.{set_row, client_after, primary_row, new_client_row, spends_token, master_after, founded_master, set_master_row, new_master_row, object_after, new_object_row, by_verdict, along, client_stays, each_edits}
use Rattle.drm_model.proofs.Journals.{after-steps}

module _ {X : Type 0} (step_number_of : X → ℕ) where
  turn-filter : (p : X → Bool) (last : ℕ) (rows : List X) → MadeInTurn step_number_of last rows
      → MadeInTurn step_number_of last (filter p rows)
  turn-filter p last rows h =
      (in_order_filter (λ x y. step_number_of x < step_number_of y) p rows h.0, all_filter (λ x. step_number_of x ≤ last) p rows h.1)

  turn-later : (last : ℕ) (rows : List X) → MadeInTurn step_number_of last rows
      → MadeInTurn step_number_of (last + 1) rows
  turn-later last rows h =
      (h.0, all_weaker (λ x. step_number_of x ≤ last) (λ x. step_number_of x ≤ last + 1) (λ x k. omega (arith, k)) rows h.1)

  -- rows keep their step number, and a new one is of this step
  turn-edited : (stays : X → Bool) (change : X → X) (new : Option X) (last : ℕ) (rows now : List X)
      → ((x : X) → step_number_of (change x) ≡ step_number_of x) → IfSome new (λ x. step_number_of x ≡ last + 1)
      → now ≡ edited stays change (listed new) rows →
      MadeInTurn step_number_of last rows → MadeInTurn step_number_of (last + 1) now
  turn-edited stays change new last rows now same fresh is h = subst (MadeInTurn step_number_of (last + 1)) (sym is) (
    in_order_edited stays change new rows (λ x y. step_number_of x < step_number_of y) (λ x y k. rw (same x, same y) k)
        (all_weaker (λ x. step_number_of x ≤ last) (λ x. stays x ≡ true → IfSome new (λ y. step_number_of (change x) < step_number_of y)) (λ x old _. before new x old fresh) rows h.1)
        h.0,
    all_edited stays change (listed new) rows (λ x. step_number_of x ≤ last) (λ x. step_number_of x ≤ last + 1)
        (λ x old _. let e = same x in omega (arith, old, e))
        (all_listed (λ x. step_number_of x ≤ last + 1) new (this new fresh)) h.1,
  )
    where
      before : (o : Option X) (x : X) → step_number_of x ≤ last → IfSome o (λ y. step_number_of y ≡ last + 1)
          → IfSome o (λ y. step_number_of (change x) < step_number_of y)
      before None x old k = tt
      before (Some y) x old k = let e = same x in omega (arith, old, e, k)

      this : (o : Option X) → IfSome o (λ x. step_number_of x ≡ last + 1) → IfSome o (λ x. step_number_of x ≤ last + 1)
      this None k = tt
      this (Some x) k = omega (arith, k)

abbrev client_step_number : ClientRow → ℕ
client_step_number row = row.client

abbrev master_step_number : MasterRow → ℕ
master_step_number row = row.master

abbrev object_step_number : ObjectRow → ℕ
object_step_number row = row.object

-- ---- the same for clients, masters and objects: a row that changes keeps its number

set-same : (w : Rows) (c : ℕ) (current master : Bool) (row : ClientRow)
    → (set_row w c current master row).client ≡ row.client
set-same w c true master row = refl
set-same w c false true row = refl
set-same w c false false row =
    either (λ (x : ClientRow). x.client ≡ row.client) (is_client c row)
    (record row { authenticated = true; once_master = true; is_master = true; master = Some (step_number w) }) row refl
    refl

-- A client's row keeps its number.
pub client-same : (w : Rows) (event : Event) (row : ClientRow) → (client_after w event row).client ≡ row.client
client-same w (Ask c (AuthMagic magic)) row =
    either (λ (x : ClientRow). x.client ≡ row.client) (is_option row.client (magic_client w (caller_master w c) magic))
    (record row { authenticated = true }) row refl refl
client-same w (Ask c SetMaster) row = set-same w c (is_current w c) (is_master w c) row
client-same w (Ask c (SetClientCap cap value)) row =
    either (λ (x : ClientRow). x.client ≡ row.client) (is_client c row)
    (record row { capabilities = with_capability cap (value == 1) row.capabilities }) row refl refl
client-same w (Ask c call) row = refl
client-same w (Open opening) row = refl
client-same w (Close c) row = refl

-- A master's row keeps its number.
pub master-same : (w : Rows) (event : Event) (row : MasterRow) → (master_after w event row).master ≡ row.master
master-same w event row =
    either (λ (x : MasterRow). x.master ≡ row.master) (spends_token w event row) (record row { lease_token = None }) row
    refl refl

-- An object's row keeps its number.
pub object-same : (w : Rows) (event : Event) (row : ObjectRow) → (object_after w event row).object ≡ row.object
object-same w (Ask c (StampWrite handle stamp)) row =
    either (λ (x : ObjectRow). x.object ≡ row.object) (row.object == object_of w c handle)
    (record row { stamp = stamp }) row refl refl
object-same w (Ask c call) row = refl
object-same w (Open opening) row = refl
object-same w (Close c) row = refl

-- ---- the same for clients, masters and objects: a new row has the number of its step

-- A client of a primary node has the number of the step that opened it.
pub new_primary : (w : Rows) (root universal : Bool) (m : Option ℕ)
    → (primary_row w root universal m).client ≡ step_number w
new_primary w root universal None = refl
new_primary w root universal (Some m) = refl

-- A new client has the number of its step.
pub client-new : (w : Rows) (event : Event) → IfSome (new_client_row w event) (λ row. row.client ≡ step_number w)
client-new w (Open (Primary root universal)) = new_primary w root universal w.device_master
client-new w (Open Render) = refl
client-new w (Open (Lease token root universal)) = refl
client-new w (Ask c call) = tt
client-new w (Close c) = tt

founded-new : (w : Rows) (m : Option ℕ) → IfSome (founded_master w m) (λ row. row.master ≡ step_number w)
founded-new w None = refl
founded-new w (Some m) = tt

set-new : (w : Rows) (current master : Bool)
    → IfSome (set_master_row w current master) (λ row. row.master ≡ step_number w)
set-new w true master = tt
set-new w false true = tt
set-new w false false = refl

-- A new master has the number of its step.
pub master-new : (w : Rows) (event : Event) → IfSome (new_master_row w event) (λ row. row.master ≡ step_number w)
master-new w (Open (Primary root universal)) = founded-new w w.device_master
master-new w (Open Render) = tt
master-new w (Open (Lease token root universal)) = tt
master-new w (Ask c SetMaster) = set-new w (is_current w c) (is_master w c)
master-new w (Ask c (CreateLease ids)) = refl
master-new w (Ask c call) = tt
master-new w (Close c) = tt

-- A new object has the number of its step.
pub object-new : (w : Rows) (event : Event) → IfSome (new_object_row w event) (λ row. row.object ≡ step_number w)
object-new w (Ask c (BufCreate size)) = refl
object-new w (Ask c (CreateDumb width height bpp)) = refl
object-new w (Ask c call) = tt
object-new w (Open opening) = tt
object-new w (Close c) = tt

-- ---- steps and runs

swept-step_numbers : (w : Rows) (last : ℕ) → StepNumbersRise last w → StepNumbersRise last (journaled (swept w))
unfolding swept
swept-step_numbers w last h =
    (h.0, turn-filter master_step_number _ last w.masters h.1, turn-filter object_step_number _ last w.objects h.2)

-- If step numbers rise, they rise after an event too, before the sweep.
pub changed-step_numbers : (w : Rows) (event : Event) → StepNumbersRise w.steps w
    → StepNumbersRise (step_number w) (changed w event)
changed-step_numbers w event h =
    let is = each_edits w event in (
      turn-edited client_step_number (client_stays w event) (client_after w event) (new_client_row w event) w.steps
          w.clients _ (client-same w event) (client-new w event) (ap (λ (v : Rows). v.clients) is) h.0,
      turn-edited master_step_number (λ row. true) (master_after w event) (new_master_row w event) w.steps w.masters _
          (master-same w event) (master-new w event) (ap (λ (v : Rows). v.masters) is) h.1,
      turn-edited object_step_number (λ row. true) (object_after w event) (new_object_row w event) w.steps w.objects _
          (object-same w event) (object-new w event) (ap (λ (v : Rows). v.objects) is) h.2,
    )

-- If step numbers rise, they rise after any event.
pub after-step_numbers : (w : Rows) (event : Event) → StepNumbersRise w.steps w
    → StepNumbersRise (after w event).steps (after w event)
after-step_numbers w event h =
    subst (λ n. StepNumbersRise n (after w event)) (sym (after-steps w event))
    (by_verdict (StepNumbersRise (step_number w)) w event (turn-later client_step_number w.steps w.clients h.0, turn-later master_step_number w.steps w.masters h.1, turn-later object_step_number w.steps w.objects h.2)
    (λ accepted. swept-step_numbers (changed w event) (step_number w) (changed-step_numbers w event h)))

-- In the rows of any history step numbers rise.
pub step_numbers_rise : (h : DeviceValue) → StepNumbersRise (rows_of h).steps (rows_of h)
unfolding rows_of
step_numbers_rise h =
    along (λ w. StepNumbersRise w.steps w) after-step_numbers h.journal (empty_rows h.topology h.limits)
    ((tt, tt), (tt, tt), (tt, tt))
