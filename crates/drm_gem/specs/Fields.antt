-- The objects that the fields represent (own).
use Rattle.std.specs.Prelude.{ℕ}
use Rattle.std.specs.FinMap as map
use Rattle.drm_keys.specs.Keys.{rows_in, IsKeyed}
use Rattle.drm_gem.specs.declared.object.Object.{Object}
use Rattle.drm_gem.specs.declared.objects.Objects.TheInside.{Inside}
use Rattle.drm_gem.specs.Objects.{ObjectSet}

-- the value where no object is kept
abbrev pub nothing : Object
nothing = record { key = 0; step_number = 0; size = 0; stamp = 0; holds = 0; refs = 0 }

-- the set of objects in the fields
abbrev pub objects_of : Inside → ObjectSet
objects_of a = record { limit = a.limit; objects = rows_in nothing a.kept (map.entries a.keys.items) }

-- the objects are found by their step numbers and keys
abbrev pub key_of : Object → ℕ
key_of x = x.key

-- the step number of an object
abbrev pub step_number_of : Object → ℕ
step_number_of x = x.step_number

-- the records are found by their step numbers and keys
abbrev pub IsSound : Inside → Type 0
IsSound a = IsKeyed key_of step_number_of a.keys.items a.kept
