-- A list of ids is that of its fields.
use Rattle.std.proofs.Common.{◌≡◌, ℕ, List, [], ◌∷◌, length, Option, Some, None, refl, ap, ◌∙◌}
use Rattle.std.specs.Prelude.{map, replicate}
use Rattle.std.specs.Option.{option_map}
use Rattle.drm_table.specs.declared.fields.Field.{Field}
use Rattle.drm_table.specs.declared.fields.Field.TheVariants.{U32, U64}
use Rattle.drm_table.specs.declared.fields.Width.{Width}
use Rattle.drm_table.specs.declared.fields.Width.TheVariants as widths
use Rattle.drm_table.specs.Fields.{width_of}
use Rattle.drm_table.specs.Fields.{ids_in}

-- Ids written as fields are read as the same ids.
pub ids-back : (ids : List ℕ) → ids_in (map U32 ids) ≡ Some ids
ids-back [] = refl
ids-back (id ∷ ids) = rw (ids-back ids) refl

ids-before : (id : ℕ) (fs : List Field) (o : Option (List ℕ)) (ids : List ℕ)
    → ((more : List ℕ) → o ≡ Some more → map U32 more ≡ fs) → option_map (λ more. id ∷ more) o ≡ Some ids
    → map U32 ids ≡ U32 id ∷ fs
ids-before id fs None ids each e = absurd (cc)
ids-before id fs (Some more) ids each e = let same : ids ≡ id ∷ more = cc in ap (map U32) same ∙ ap (λ (xs : List Field). U32 id ∷ xs) (each more refl)

-- Fields that are read as ids are the fields of these ids.
pub ids-are : (fs : List Field) (ids : List ℕ) → ids_in fs ≡ Some ids → map U32 ids ≡ fs
ids-are [] ids e = let same : ids ≡ [] = cc in ap (map U32) same
ids-are (U32 id ∷ fs) ids e = ids-before id fs (ids_in fs) ids (ids-are fs) e
ids-are (U64 n ∷ fs) ids e = absurd (cc)

-- All fields of ids have 32 bits.
pub ids-widths : (ids : List ℕ) → map width_of (map U32 ids) ≡ replicate (length (map U32 ids)) widths.U32
ids-widths [] = refl
ids-widths (id ∷ ids) = ap (λ (xs : List Width). widths.U32 ∷ xs) (ids-widths ids)
