-- The PRIME handles of one client, by the entries of its table (drm-mm, PRIME; the order is own).
use Rattle.std.specs.Prelude.{ℕ, ◌==◌, ◌&&◌, ◌||◌, Bool, false, if◌then◌else◌, nat_lt, List, filter, map as list_map, Option, None, option_map}
use Rattle.std.specs.List.{filter_map}
use Rattle.std.specs.Ordering.{nat_cmp}
use Rattle.std.specs.FinMap as map
use Rattle.std.specs.Option.{option_map_or, option_and_then}
use Rattle.drm_index_array.specs.Least.{least_of}
use Rattle.drm_files.specs.declared.files.Held.{Held}
use Rattle.drm_files.specs.declared.primes.Prime.{Prime}

-- whether the entry is for the object
abbrev pub is_for : ℕ → ℕ × Held → Bool
is_for object entry = entry.1.object == object

-- the export orders of the handles for an object
abbrev pub export_orders_in : ℕ → List (ℕ × Held) → List ℕ
export_orders_in object entries = filter_map (λ entry. entry.1.export_order) (filter (is_for object) entries)

-- whether the entry has the export order
abbrev pub is_at : ℕ → ℕ × Held → Bool
is_at export_order entry = option_map_or (λ p. p == export_order) entry.1.export_order false

-- the handles for an object that have an export order
abbrev pub handles_in : ℕ → ℕ → List (ℕ × Held) → List ℕ
handles_in object export_order entries =
    list_map (λ entry. entry.0) (filter (is_at export_order) (filter (is_for object) entries))

-- the least export order of the handles for an object, with the least handle that has it
abbrev pub least_prime : ℕ → List (ℕ × Held) → Option Prime
least_prime object entries =
    option_and_then
    (λ export_order. option_map (λ handle. record { export_order = export_order; handle = handle }) (least_of (handles_in object export_order entries)))
    (least_of (export_orders_in object entries))

-- the handle and its export order, if it is for the object and has one
abbrev pub prime_of : ℕ → ℕ × Held → Option Prime
prime_of object entry =
    if is_for object entry then option_map (λ export_order. record { export_order = export_order; handle = entry.0 })
    entry.1.export_order else None

-- a handle and its export order, if it is for the object and has one
abbrev pub prime_at : map.FinMap nat_cmp Held → ℕ → ℕ → Option Prime
prime_at slots object h = option_and_then (λ held. prime_of object (h, held)) (map.get slots h)

-- whether a handle received its export order first, or is the lower of two with one order
abbrev pub is_before : Prime → Prime → Bool
is_before y x = nat_lt y.export_order x.export_order || ((y.export_order == x.export_order) && nat_lt y.handle x.handle)
