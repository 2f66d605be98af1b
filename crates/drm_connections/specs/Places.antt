-- The places of sockets on which threads wait (own).
use Rattle.std.specs.Prelude.{◌≡◌, ◌≢◌, ℕ, ◌<◌, ◌≤◌, List, length, slice_get, Some}
use Rattle.drm_connections.specs.declared.open_connections.Place.{Place}
use Rattle.drm_connections.specs.declared.open_connections.Place.TheVariants.{Free}

-- no place before this one is free
abbrev pub NoneFreeBefore : List Place → ℕ → Type 0
NoneFreeBefore places n = (i : ℕ) → i < n → slice_get places i ≢ Some Free

-- the first free place, or the one after the last
pub record IsFirstFree (places : List Place) (place : ℕ) : Type 0 where
  pub within : place ≤ length places
  pub free : place < length places → slice_get places place ≡ Some Free
  pub before : NoneFreeBefore places place
