-- The array that represents the numbers of a group (own).
use Rattle.drm_index_array.specs.Indexed.{Indexed, empty_array, with_item}
use Rattle.drm_id_alloc.specs.declared.numbers.Kept.{Kept}
use Rattle.drm_id_alloc.specs.declared.numbers.Kept.TheVariants.{One, Many}

-- one number alone represents an array that has it alone
abbrev pub array_of : Kept → Indexed (Unit {0})
array_of (One only) = with_item empty_array only tt
array_of (Many numbers) = numbers
