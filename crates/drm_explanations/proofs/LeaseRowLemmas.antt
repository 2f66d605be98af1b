-- The rows of leases, one lease after the other.
use Rattle.std.proofs.Common.{◌≡◌, ℕ, ◌+◌, ◌<◌, true, cond, List, [], ◌∷◌, ◌++◌, length, get_or, map, take, Option, None, Some, option_to_list, refl, sym, ◌∙◌, ap, subst}
use Rattle.std.specs.Option.{option_map}
use Rattle.std.proofs.lemmas.List.{take_more}
use Rattle.drm_history.specs.History.{AnsweredEvent}
use Rattle.drm_rights.specs.Leases.{leases_in}
use Rattle.drm_rights.specs.declared.notes.Lease.{Lease}
use Rattle.drm_explanations.specs.Rows.{is_step, names_of, names_of_row}
use Rattle.drm_explanations.specs.declared.rows.LeaseRow.{LeaseRow}
use Rattle.drm_explanations.proofs.OpeningLemmas.{map_append}
use Rattle.drm_explanations.proofs.WithinLemmas.{lease_is_step}

one_row : (row : Option LeaseRow) → map names_of_row (option_to_list row) ≡ option_to_list (option_map names_of_row row)
one_row None = refl
one_row (Some row) = refl

-- With the row of one more lease, the rows name the leases so far, one after the other.
pub lease_named : (history : List AnsweredEvent) (leases : List Lease) (n : ℕ) (d : Lease) (rows : List LeaseRow) (row : Option LeaseRow)
    → leases ≡ leases_in history → n < length leases → map names_of_row rows ≡ map names_of (take n leases)
    → option_map names_of_row row ≡ cond (is_step history (get_or leases n d).master) (Some (names_of (get_or leases n d))) None
    → map names_of_row (rows ++ option_to_list row) ≡ map names_of (take (n + 1) leases)
lease_named history leases n d rows row are within so_far new =
    let lease = get_or leases n d in
    let there : is_step history lease.master ≡ true =
    subst (λ (ls : List Lease). n < length ls → is_step history (get_or ls n d).master ≡ true) (sym are)
    (lease_is_step history n d) within in
    let its : map names_of_row (option_to_list row) ≡ names_of lease ∷ [] =
    one_row row ∙ ap option_to_list (new ∙ ap (λ b. cond b (Some (names_of lease)) None) there) in
    map_append names_of_row rows (option_to_list row)
    ∙ (λ i. so_far i ++ its i)
    ∙ sym (map_append names_of (take n leases) (lease ∷ []))
    ∙ ap (map names_of) (sym (take_more leases n d within))
