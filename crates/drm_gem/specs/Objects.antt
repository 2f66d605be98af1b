-- The objects that exist, in the order of their step numbers (drm-mm, drm-gem(7); step numbers and stamps are this
-- project's own).
use Rattle.std.specs.Prelude.{ℕ, ◌≡◌, ◌+◌, ◌-◌, ◌<◌, ◌==◌, nat_lt, Bool, false, not, ◌&&◌, List, Option, None, find, map, filter, slice_get, if◌then◌else◌}
use Rattle.std.specs.List.{AllByRecursion}
use Rattle.std.specs.Option.{option_map, option_map_or, is_some}
use Rattle.drm_index_array.specs.Rows.{placed}
use Rattle.drm_gem.specs.declared.object.Object.{Object}
use Rattle.drm_gem.specs.declared.object.Dead.{Dead}

-- the most objects that may be there, and those that are
pub record ObjectSet : Type 0 where
  pub limit : ℕ
  pub objects : List Object

-- whether the object has the key
abbrev pub is_key : ℕ → Object → Bool
is_key key x = x.key == key

-- the object of a key, if it is there
abbrev pub object_at : ObjectSet → ℕ → Option Object
object_at set key = find (is_key key) set.objects

-- whether an object has the key
abbrev pub is_there : ObjectSet → ℕ → Bool
is_there set key = is_some (object_at set key)

-- whether the object of the key is there and passes the test
abbrev pub passes : (Object → Bool) → ObjectSet → ℕ → Bool
passes test set key = option_map_or test (object_at set key) false

-- every object that exists is older
abbrev pub IsNewStepNumber : ObjectSet → ℕ → Type 0
IsNewStepNumber set step_number = AllByRecursion (λ (x : Object). x.step_number < step_number) set.objects

-- no object that exists has the birth
abbrev pub IsUnusedBirth : ObjectSet → ℕ → Type 0
IsUnusedBirth set birth = AllByRecursion (λ (x : Object). (x.step_number == birth) ≡ false) set.objects

-- the order of the objects
abbrev pub is_older : Object → Object → Bool
is_older x y = nat_lt x.step_number y.step_number

-- an object as it is made: one handle names it
abbrev pub new_object : ℕ → ℕ → ℕ → Object
new_object key birth size = record { key = key; step_number = birth; size = size; stamp = 0; holds = 1; refs = 0 }

-- one more object, at its place
abbrev pub with_object : ObjectSet → ℕ → ℕ → ℕ → ObjectSet
with_object set key birth size = record set { objects = placed is_older (new_object key birth size) set.objects }

-- the object of the key is changed
abbrev pub changed_at : ℕ → (Object → Object) → ObjectSet → ObjectSet
changed_at key f set = record set { objects = map (λ (x : Object). if x.key == key then f x else x) set.objects }

-- the object of the key is removed
abbrev pub without_key : ℕ → ObjectSet → ObjectSet
without_key key set = record set { objects = filter (λ (x : Object). not (x.key == key)) set.objects }

-- the row at a place of an audit's kind, of which objects are the third (own)
abbrev pub nth_row : ObjectSet → ℕ → ℕ → Option Object
nth_row set kind i = if kind == 3 then slice_get set.objects i else None

-- one handle, or one reference, more or fewer

-- the object with one handle more
abbrev pub held : Object → Object
held x = record x { holds = x.holds + 1 }

-- the object with one handle fewer
abbrev pub unheld : Object → Object
unheld x = record x { holds = x.holds - 1 }

-- the object with one token or framebuffer more
abbrev pub referred : Object → Object
referred x = record x { refs = x.refs + 1 }

-- the object with one token or framebuffer fewer
abbrev pub unreferred : Object → Object
unreferred x = record x { refs = x.refs - 1 }

-- the object with another stamp
abbrev pub stamped : ℕ → Object → Object
stamped stamp x = record x { stamp = stamp }

-- the freed object
abbrev pub dead_of : Object → Dead
dead_of x = record { birth = x.step_number; size = x.size }

-- whether nothing refers to it
abbrev pub is_unused : Object → Bool
is_unused x = (x.holds == 0) && (x.refs == 0)

-- what is left of an object where nothing refers to it after a change
abbrev pub dead_after : (Object → Object) → ObjectSet → ℕ → Option Dead
dead_after f set key = option_map dead_of (find (λ (x : Object). is_key key x && is_unused (f x)) set.objects)
