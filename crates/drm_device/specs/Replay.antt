-- The result of a replay (own).
use Rattle.std.specs.Prelude.{◌≡◌, ℕ, ◌+◌, ◌<◌, false, List, [], Result, Ok, Err, Some, slice_get, take, length}
use Rattle.drm_table.specs.declared.apart.Apart.{Apart}
use Rattle.drm_table.specs.declared.events.Event.{Event}
use Rattle.drm_table.specs.declared.limits.Limits.{Limits}
use Rattle.drm_modes.specs.Topology.{Topology}
use Rattle.drm_model.specs.Run.{DeviceValue, FoundRoom, rows_of, start_of, Step}
use Rattle.drm_device.specs.declared.device.NewFault.TheVariants.{BadLimits, NoMemory}
use Rattle.drm_device.specs.declared.replays.ReplayFault.{ReplayFault}
use Rattle.drm_device.specs.declared.replays.ReplayFault.TheVariants.{New, Stopped}
use Rattle.drm_table.specs.Limits.{are_in_range}

-- a device that has recorded nothing
abbrev pub new_device : Topology → Limits → DeviceValue
new_device topology limits = record { topology = topology; limits = limits; journal = [] }

-- a new device after this many of the events
abbrev pub history_before : DeviceValue → List Event → ℕ → DeviceValue
history_before first events n = record first { journal = take n events }

-- the event of this number, from 1, is refused, and why; those before it found room, so that they were recorded
pub record StopsAt (first : DeviceValue) (events : List Event) (at : ℕ) (apart : Apart) : Type 0 where
  pub index : ℕ
  pub number : at ≡ index + 1
  pub within : index < length events
  pub found_room : FoundRoom (start_of (history_before first events index)) (take index events)
  pub event : Event
  pub is_there : slice_get events index ≡ Some event
  pub refused : Step (rows_of (history_before first events index)) event (Err apart) (rows_of (history_before first events index))

-- the result of a replay
unfoldable pub IsReplay : Topology → Limits → List Event → Result DeviceValue ReplayFault → Type 0
IsReplay topology limits events (Ok device) = device ≡ record { topology = topology; limits = limits; journal = events }
IsReplay topology limits events (Err (New BadLimits)) = are_in_range limits ≡ false
IsReplay topology limits events (Err (New NoMemory)) = Unit {0}
IsReplay topology limits events (Err (Stopped at apart)) = StopsAt (new_device topology limits) events at apart
