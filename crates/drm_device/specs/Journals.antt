-- The value of a journal that contracts see (own).
use Rattle.std.specs.Prelude.{List, ℕ}
use Rattle.drm_table.specs.declared.events.Event.{Event}

-- the events that were recorded, the oldest first, and how many the journal has room for
pub record JournalValue : Type 0 where
  pub events : List Event
  pub room : ℕ
