-- The rows that the state of the device represents, and how the function of each event refines the definitions (own).
use Rattle.std.specs.Prelude.{◌≡◌, ℕ, ◌+◌, false, true, Option, None, Some, Result, Ok, Err}
use Rattle.std.specs.declared.alloc.AllocError.{AllocError}
use Rattle.drm_index_array.specs.Orders.{SameRows}
use Rattle.drm_table.specs.declared.answers.Answer.{Answer}
use Rattle.drm_table.specs.declared.calls.Call.{Call}
use Rattle.drm_table.specs.declared.events.Event.{Event}
use Rattle.drm_table.specs.declared.events.Event.TheVariants.{Ask}
use Rattle.drm_table.specs.declared.rules.Rule.{Rule}
use Rattle.drm_table.specs.Permit.{first_failing}
use Rattle.std.specs.Option.{is_some}
use Rattle.drm_modes.specs.Topology.{object_count}
use Rattle.drm_model.specs.Rows.{Rows, free_handle, with_handle_row}
use Rattle.drm_model.specs.Parts.{Part, Bounds, Clients, Masters, Magics, Holds, Objects, Names, Tokens, Grants, Framebuffers, Shown, DeviceMaster, LastToken, LastLeaseToken}
use Rattle.drm_model.specs.StepNumbers.{StepNumbersRise}
use Rattle.drm_model.specs.Verdict.{admission_checks}
use Rattle.drm_model.specs.Buffers.{with_object, has_buffer_room, new_handle}
use Rattle.drm_model.specs.Change.{after, swept}
use Rattle.drm_model.specs.Reply.{reply}
use Rattle.drm_model.specs.Run.{Growing}
use Rattle.drm_state.specs.declared.state.State.{State}
use Rattle.drm_state.specs.Parts.{step_number_at, clients_of, masters_of, magics_of, holds_of, objects_of, names_of, tokens_of, grants_of, framebuffers_of, shown_of, last_token_of, last_lease_token_of}

-- the parts keep the limits and the fixed mode objects
abbrev pub HaveBounds : State → Rows → Type 0
HaveBounds s w =
    (s.files.limit ≡ w.limits.clients)
    × (s.files.last_handle ≡ w.limits.handles)
    × (s.objects.limit ≡ w.limits.objects)
    × (s.names.last ≡ w.limits.names)
    × (s.tokens.last ≡ w.limits.tokens)
    × (s.masters.last_magic ≡ w.limits.clients)
    × (s.modes.last ≡ object_count w.topology + w.limits.framebuffers)
    × (s.modes.topology ≡ w.topology)
    × (s.masters.last_lessee ≡ w.limits.lessees)
    × (s.leases.last ≡ w.limits.tokens)

-- what the state represents in a part of the rows. Magics, handles, names, tokens, grants, framebuffers and what is
-- shown have their own order
unfoldable pub represents_part : Part → State → Rows → Type 0
represents_part Bounds s w = HaveBounds s w
represents_part Clients s w = w.clients ≡ clients_of s
represents_part Masters s w = w.masters ≡ masters_of s
represents_part Magics s w = SameRows w.magics (magics_of s)
represents_part Holds s w = SameRows w.holds (holds_of s)
represents_part Objects s w = w.objects ≡ objects_of s
represents_part Names s w = SameRows w.names (names_of s)
represents_part Tokens s w = SameRows w.tokens (tokens_of s)
represents_part Grants s w = SameRows w.grants (grants_of s)
represents_part Framebuffers s w = SameRows w.framebuffers (framebuffers_of s)
represents_part Shown s w = SameRows w.shown (shown_of s)
represents_part DeviceMaster s w = w.device_master ≡ s.masters.device_master
represents_part LastToken s w = w.last_token ≡ last_token_of s
represents_part LastLeaseToken s w = w.last_lease_token ≡ last_lease_token_of s

-- the state represents the rows
abbrev pub Represents : State → Rows → Type 0
Represents s w = (part : Part) → represents_part part s w

-- the state represents w, where the next step has this number
pub record RepresentsAt (s : State) (step_number : ℕ) (w : Rows) : Type 0 where
  pub rows : Represents s w
  pub step_numbers : StepNumbersRise w.steps w
  pub step_number_is : w.steps + 1 ≡ step_number

-- the answer is the reply, and the state represents the rows after the event; or memory was refused, and it represents
-- those before
abbrev pub IsRefined : Rows → Event → Result Answer AllocError → State → Type 0
IsRefined w event (Ok answer) s = (answer ≡ reply w event) × Represents s (after w event)
IsRefined w event (Err e) s = Growing w event × Represents s w

-- how the function of an event refines them, whichever rows the state represents
unfoldable pub Refines : State → ℕ → Event → Result Answer AllocError → State → Type 0
Refines old step_number event result new = (w : Rows) → RepresentsAt old step_number w → IsRefined w event result new

-- the same where no memory is needed, and the number of the step is nothing to it
unfoldable pub RefinesAnswer : State → Event → Answer → State → Type 0
RefinesAnswer old event answer new = (w : Rows) → Represents old w → IsRefined w event (Ok answer) new

-- the same for a call that is known, laid out, of an open client, and permitted
unfoldable pub RefinesCall : State → ℕ → ℕ → Call → Result Answer AllocError → State → Type 0
RefinesCall old step_number c call result new =
    (w : Rows) → RepresentsAt old step_number w → first_failing (admission_checks w c call) ≡ None
    → IsRefined w (Ask c call) result new

-- the answer is the reply of the definitions, and the state represents the rows after the call, whichever rows it
-- represents
unfoldable pub RefinesReply : State → ℕ → Call → Answer → State → Type 0
RefinesReply old c call answer new =
    (w : Rows) → Represents old w → first_failing (admission_checks w c call) ≡ None
    → IsRefined w (Ask c call) (Ok answer) new

-- The result of creating a buffer: its new handle, or none if the client may have no more handles or the limit of
-- objects is reached. Or memory was refused, and the state represents the rows before.
abbrev pub MadeBuffer : Rows → ℕ → ℕ → Result (Option ℕ) AllocError → State → Type 0
MadeBuffer w c size (Ok None) s = (has_buffer_room w c ≡ false) × Represents s w
MadeBuffer w c size (Ok (Some handle)) s =
    (has_buffer_room w c ≡ true) × (handle ≡ new_handle w c) × Represents s (swept (with_object w c size))
MadeBuffer w c size (Err e) s = (has_buffer_room w c ≡ true) × Represents s w

-- the state represents the rows after a buffer was created, whichever rows it represents
unfoldable pub MakesBuffer : State → ℕ → ℕ → ℕ → Result (Option ℕ) AllocError → State → Type 0
MakesBuffer old step_number c size result new =
    (w : Rows) → RepresentsAt old step_number w → MadeBuffer w c size result new

-- The result of a new handle of an object that exists: the handle, or none if the client has every handle. Or memory
-- was refused, and the state represents the rows before.
abbrev pub AddedHandle : Rows → ℕ → ℕ → Option ℕ → Result (Option ℕ) AllocError → State → Type 0
AddedHandle w c o export_order (Ok None) s = (free_handle w c ≡ None) × Represents s w
AddedHandle w c o export_order (Ok (Some handle)) s =
    (free_handle w c ≡ Some handle) × Represents s (swept (record w { holds = with_handle_row w c o export_order }))
AddedHandle w c o export_order (Err e) s = (is_some (free_handle w c) ≡ true) × Represents s w

-- the object is that of a key
unfoldable pub AddsHandle : State → ℕ → ℕ → Option ℕ → Result (Option ℕ) AllocError → State → Type 0
AddsHandle old c key export_order result new =
    (w : Rows) → Represents old w → AddedHandle w c (step_number_at old.objects.objects key) export_order result new

-- the first rule of admission that fails, whichever rows the state represents
unfoldable pub IsAdmission : State → ℕ → Call → Option Rule → Type 0
IsAdmission s c call rule = (w : Rows) → Represents s w → rule ≡ first_failing (admission_checks w c call)
