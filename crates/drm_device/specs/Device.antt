-- The value of a device that contracts see, and the facts about its fields (own).
use Rattle.std.specs.Prelude.{◌≡◌, ◌+◌, ◌≤◌, true, length}
use Rattle.drm_table.specs.Limits.{are_in_range}
use Rattle.drm_model.specs.Run.{DeviceValue, FoundRoom, rows_of, start_of}
use Rattle.drm_device.specs.declared.device.Device.TheInside.{Inside}
use Rattle.drm_state.specs.Invariants.{MeetsInvariants}
use Rattle.drm_state.specs.Refinement.{Represents}

-- the value of a device
abbrev pub value_of : Inside → DeviceValue
value_of d = record { topology = d.state.modes.topology; limits = d.limits; journal = d.journal.events }

-- The state represents the rows of the journal. Each of its events found room, and it has places for the closings of
-- the open clients. Its storage exists, and the limits are in their ranges, small enough to count with.
pub record IsDevice (d : Inside) : Type 0 where
  pub rows : Represents d.state (rows_of (value_of d))
  pub invariants : MeetsInvariants d.state
  pub found_room : FoundRoom (start_of (value_of d)) d.journal.events
  pub places : length d.journal.events + length d.state.files.clients ≤ d.limits.journal
  pub reserved : d.limits.journal ≤ d.journal.room
  pub in_range : are_in_range d.limits ≡ true
  pub journal_fits : d.limits.journal ≤ 100000
