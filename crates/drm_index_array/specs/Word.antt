-- A word as a set of places, and the five words of a node as facts about its slots (own).
use Rattle.std.specs.Prelude.{ℕ, Bool, not, ◌==◌, ◌<◌, ◌^◌}
use Rattle.std.specs.Int.{bit_at}
use Rattle.drm_index_array.specs.declared.marks.Mark.TheVariants.{M0, M1, M2}
use Rattle.drm_index_array.specs.declared.words.Sought.{Sought}
use Rattle.drm_index_array.specs.declared.words.Sought.TheVariants.{Taken, Vacant, Marked}
use Rattle.drm_index_array.specs.declared.words.Words.{Words}

-- the word has a 1 at the place
abbrev pub has_bit : ℕ → ℕ → Bool
has_bit word i = bit_at word i == 1

-- the bit of a word that describes one slot; a bit of `full` says that none below is vacant
abbrev pub tells_of : Words → Sought → ℕ → Bool
tells_of w Taken i = has_bit w.present i
tells_of w Vacant i = not (has_bit w.full i)
tells_of w (Marked M0) i = has_bit w.m0 i
tells_of w (Marked M1) i = has_bit w.m1 i
tells_of w (Marked M2) i = has_bit w.m2 i

-- each word is a number of 64 bits
pub record AreWords (w : Words) : Type 0 where
  pub present : w.present < 2 ^ 64
  pub full : w.full < 2 ^ 64
  pub m0 : w.m0 < 2 ^ 64
  pub m1 : w.m1 < 2 ^ 64
  pub m2 : w.m2 < 2 ^ 64
