-- The handles of each object in the order of their exports: after each the next, and before each the previous one
-- (drm-mm, PRIME; the order is own).
use Rattle.std.specs.Prelude.{◌≡◌, ℕ, ◌==◌, ◌≤◌, ◌&&◌, Bool, true, false, List, slice_get, Option, Some, None, is_some}
use Rattle.std.specs.Option.{option_and_then}
use Rattle.std.specs.Ordering.{nat_cmp}
use Rattle.std.specs.FinMap as map
use Rattle.drm_files.specs.declared.files.Held.{Held}
use Rattle.drm_files.specs.declared.primes.Prime.{Prime}
use Rattle.drm_files.specs.declared.orders.ExportOrders.{ExportOrders}
use Rattle.drm_files.specs.declared.orders.Neighbours.{Neighbours}
use Rattle.drm_files.specs.Primes.{prime_at, is_before}

-- the primes of an object, by their handles
abbrev pub Primes : Type 0
Primes = ℕ → Option Prime

-- whether one handle is after another
abbrev pub is_after : Prime → Prime → Bool
is_after y x = is_before x y

-- a place is that of a prime, or the start, which has none
abbrev pub IsPlace : Primes → Option ℕ → Option Prime → Type 0
IsPlace primes None None = Unit {0}
IsPlace primes None (Some x) = ⊥
IsPlace primes (Some h) None = ⊥
IsPlace primes (Some h) (Some x) = primes h ≡ Some x

-- every prime is past the start
abbrev pub is_past : (Prime → Prime → Bool) → Option Prime → Prime → Bool
is_past before None y = true
is_past before (Some x) y = before x y

-- of the primes past a place the first
pub record IsFirstPast (before : Prime → Prime → Bool) (primes : Primes) (place : Option Prime) (h : ℕ) : Type 0 where
  pub prime : Prime
  pub there : primes h ≡ Some prime
  pub past : is_past before place prime ≡ true
  pub first : (k : ℕ) (y : Prime) → primes k ≡ Some y → is_past before place y ≡ true → before y prime ≡ false

-- the first of those past a place, if any is past it
abbrev pub IsNext : (Prime → Prime → Bool) → Primes → Option Prime → Option ℕ → Type 0
IsNext before primes place None = (k : ℕ) (y : Prime) → primes k ≡ Some y → is_past before place y ≡ false
IsNext before primes place (Some h) = IsFirstPast before primes place h

-- each place has the next one
abbrev pub AreNext : (Prime → Prime → Bool) → Primes → (Option ℕ → Option ℕ) → Type 0
AreNext before primes next =
    (at : Option ℕ) (place : Option Prime) → IsPlace primes at place → IsNext before primes place (next at)

-- what is on one side of a place
abbrev pub side_of : (Neighbours → Option ℕ) → ExportOrders → ℕ → Option ℕ → Option ℕ
side_of side orders object None = option_and_then side (map.get orders.ends.items object)
side_of side orders object (Some h) = option_and_then side (slice_get orders.links.items h)

-- the next handle after one, or the first
abbrev pub next_of : ExportOrders → ℕ → Option ℕ → Option ℕ
next_of = side_of (λ (x : Neighbours). x.next)

-- the previous handle before one, or the last
abbrev pub previous_of : ExportOrders → ℕ → Option ℕ → Option ℕ
previous_of = side_of (λ (x : Neighbours). x.previous)

-- there is room for the neighbours of a place
abbrev pub has_room : ExportOrders → ℕ → Option ℕ → Bool
has_room orders object None = map.contains_key orders.ends.items object
has_room orders object (Some h) = is_some (slice_get orders.links.items h)

-- handles are of 32 bits; each has room, and so has its object; and the neighbours of each object's primes are those in the order of exports
pub record AreInOrder (slots : map.FinMap nat_cmp Held) (orders : ExportOrders) : Type 0 where
  pub fit : (h : ℕ) → map.contains_key slots h ≡ true → h ≤ 4294967295
  pub linked : (h : ℕ) → map.contains_key slots h ≡ true → is_some (slice_get orders.links.items h) ≡ true
  pub ended : (h : ℕ) (x : Held) → map.get slots h ≡ Some x → map.contains_key orders.ends.items x.object ≡ true
  pub next : (object : ℕ) → AreNext is_before (prime_at slots object) (next_of orders object)
  pub previous : (object : ℕ) → AreNext is_after (prime_at slots object) (previous_of orders object)

-- each place is kept, with its neighbours
abbrev pub AreKept : List Neighbours → List Neighbours → Type 0
AreKept old new = (k : ℕ) (x : Neighbours) → slice_get old k ≡ Some x → slice_get new k ≡ Some x

-- whether two places are one; the starts are one where the objects are
abbrev pub is_same_place : ℕ → Option ℕ → ℕ → Option ℕ → Bool
is_same_place o None d None = d == o
is_same_place o None d (Some k) = false
is_same_place o (Some h) d None = false
is_same_place o (Some h) d (Some k) = k == h

-- one of two values, by a condition
abbrev pub choose : {X : Type 0} → Bool → X → X → X
choose true x y = x
choose false x y = y

-- what follows one place is set, and nothing else
pub record HasNext (old : ExportOrders) (object : ℕ) (place : Option ℕ) (next : Option ℕ) (new : ExportOrders) : Type 0 where
  pub room : (d : ℕ) (at : Option ℕ) → has_room new d at ≡ has_room old d at
  pub next_is : (d : ℕ) (at : Option ℕ)
      → next_of new d at ≡ choose (has_room old d at && is_same_place object place d at) next (next_of old d at)
  pub previous_is : (d : ℕ) (at : Option ℕ) → previous_of new d at ≡ previous_of old d at

-- what is before one place is set, and nothing else
pub record HasPrevious (old : ExportOrders) (object : ℕ) (place : Option ℕ) (previous : Option ℕ) (new : ExportOrders) : Type 0 where
  pub room : (d : ℕ) (at : Option ℕ) → has_room new d at ≡ has_room old d at
  pub next_is : (d : ℕ) (at : Option ℕ) → next_of new d at ≡ next_of old d at
  pub previous_is : (d : ℕ) (at : Option ℕ)
      → previous_of new d at ≡ choose (has_room old d at && is_same_place object place d at) previous (previous_of old d at)

-- the right place follows the left one, and no other place has another neighbour
pub record AreJoined (old : ExportOrders) (object : ℕ) (left right : Option ℕ) (new : ExportOrders) : Type 0 where
  pub room : (d : ℕ) (at : Option ℕ) → has_room new d at ≡ has_room old d at
  pub next_is : (d : ℕ) (at : Option ℕ)
      → next_of new d at ≡ choose (has_room old d at && is_same_place object left d at) right (next_of old d at)
  pub previous_is : (d : ℕ) (at : Option ℕ)
      → previous_of new d at ≡ choose (has_room old d at && is_same_place object right d at) left (previous_of old d at)

-- a handle of the object, with or without an export order
abbrev pub with_handle : map.FinMap nat_cmp Held → ℕ → ℕ → Option ℕ → map.FinMap nat_cmp Held
with_handle slots object h export_order = map.insert slots h (record { object = object; export_order = export_order })
