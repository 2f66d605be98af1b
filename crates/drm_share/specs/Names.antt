-- The global names of objects (drm-gem(7), flink), as a flat list.
use Rattle.std.specs.Prelude.{ℕ, ◌==◌, ◌≤◌, Bool, not, nat_lt, List, [], map, filter, find, slice_get, Option, None, if◌then◌else◌}
use Rattle.std.specs.List.{AllByRecursion}
use Rattle.std.specs.Option.{option_map}
use Rattle.drm_index_array.specs.Numbers.{is_among}
use Rattle.drm_index_array.specs.Least.{least}
use Rattle.drm_index_array.specs.Rows.{placed, InOrder}
use Rattle.drm_share.specs.declared.rows.SharedName.{SharedName}

-- the names from 1 to `last` may be assigned; those that are assigned rise
pub record NameList : Type 0 where
  pub last : ℕ
  pub names : List SharedName

-- a list without names
abbrev pub empty_names : ℕ → NameList
empty_names last = record { last = last; names = [] }

-- whether the row has the name
abbrev pub is_name : ℕ → SharedName → Bool
is_name n row = row.name == n

-- the row is a name of the object
abbrev pub names_object : ℕ → SharedName → Bool
names_object k row = row.object == k

-- whether one row is before another: the names rise
abbrev pub name_before : SharedName → SharedName → Bool
name_before x y = nat_lt x.name y.name

-- whether two rows are of different objects
abbrev pub have_other_objects : SharedName → SharedName → Bool
have_other_objects x y = not (x.object == y.object)

-- a row with a name and an object
abbrev pub shared_name : ℕ → ℕ → SharedName
shared_name n k = record { name = n; object = k }

-- the name of an object, if it has one
abbrev pub name_of : NameList → ℕ → Option ℕ
name_of list k = option_map (λ (row : SharedName). row.name) (find (names_object k) list.names)

-- the lowest number that is no name (the kernel's IDR returns the least; the limit is own)
abbrev pub free_name : NameList → Option ℕ
free_name list = least (λ n. not (is_among (map (λ row. row.name) list.names) n)) 1 list.last

-- the list with a name of an object more
abbrev pub with_name : NameList → ℕ → ℕ → NameList
with_name list n k = record list { names = placed name_before (shared_name n k) list.names }

-- the list without the name of an object
abbrev pub without_name_of : NameList → ℕ → NameList
without_name_of list k = record list { names = filter (λ row. not (names_object k row)) list.names }

-- the row at a place of an audit's kind, of which names are the fourth (own)
abbrev pub nth_row : NameList → ℕ → ℕ → Option SharedName
nth_row list kind i = if kind == 4 then slice_get list.names i else None

-- the name is 1 to `last`
pub record IsNameUpTo (last : ℕ) (row : SharedName) : Type 0 where
  pub low : 1 ≤ row.name
  pub high : row.name ≤ last

-- what is so of the list: no name occurs twice, since the rows rise, and no object has two names
pub record AreNames (list : NameList) : Type 0 where
  pub last_low : 1 ≤ list.last
  pub last_high : list.last ≤ 4294967295
  pub names_rise : InOrder name_before list.names
  pub names_are : AllByRecursion (IsNameUpTo list.last) list.names
  pub objects_differ : InOrder have_other_objects list.names
