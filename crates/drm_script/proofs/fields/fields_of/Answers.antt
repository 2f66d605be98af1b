use Rattle.std.proofs.Common.{◌≡◌, ap, sym, refl, ◌∙◌, ℕ, zero, suc, ◌∷◌}
use Rattle.std.specs.Prelude.{map, replicate}
use Rattle.drm_table.specs.declared.fields.Width.TheVariants as widths
use Rattle.drm_script.specs.Faults.{Place, width_place}
use Rattle.drm_script.proofs.fields.fields_of.Goals as goal

id_places : (count : ℕ) → map width_place (replicate count widths.U32) ≡ replicate count (Place.number 32)
id_places zero = refl
id_places (suc count) = ap (λ ps. Place.number 32 ∷ ps) (id_places count)

pub returns-in-Ids-clause-fault : goal.returns-in-Ids-clause-fault
returns-in-Ids-clause-fault g c =
    let places = sym (ap (map width_place) c.of_ids.ensures ∙ id_places _) in
    rw (c.in-Ids.is, ← c.id_count-count.ensures, places) c.numbers_of-in-Ids.ensures.fault
