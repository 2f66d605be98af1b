-- What readers take of the reports (own).
use Rattle.std.specs.Prelude.{◌≡◌, ◌⊎◌, ◌+◌, ◌^◌, ◌-◌, ℕ, List, [], ◌∷◌, ◌++◌, Option, Some, length, map, take, drop}

-- the item is the last that waits, or it is counted, up to the greatest count
abbrev pub IsAddedOrCounted : {A : Type 0} → List A → ℕ → A → List A → ℕ → Type 0
IsAddedOrCounted items count item items' count' =
    ((items' ≡ items ++ item ∷ []) × (count' ≡ count))
    ⊎ ((items' ≡ items) × ((count' ≡ count + 1) ⊎ (count' ≡ 2 ^ 64 - 1)))

-- Some of the first that waited were appended to those that were taken, in their order. The others wait still.
pub record HasMoved {A : Type 0} (waiting taken waiting' taken' : List A) : Type 0 where
  pub moved : List A
  pub were : waiting ≡ moved ++ waiting'
  pub are : taken' ≡ taken ++ moved

-- What was appended is at the places from this one on, without a gap.
pub record HasCopied {A : Type 0} (places : List (Option A)) (place : ℕ) (taken taken' : List A) : Type 0 where
  pub copied : List A
  pub are : taken' ≡ taken ++ copied
  pub places_are : map Some copied ≡ take (length copied) (drop place places)
