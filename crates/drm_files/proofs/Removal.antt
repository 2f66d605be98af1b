-- What was added to a table and is taken out again.
use Rattle.std.proofs.Common.{◌≡◌, ℕ, true, false, cond, eqb, None, Some, refl, sym, ap, ◌∙◌}
use Rattle.std.specs.FinMap as fin
use Rattle.std.proofs.lemmas.Bool.{eqb-true}
use Rattle.drm_index_array.proofs.MarkedLemmas.{get-insert, get-remove, same_by_gets}
use Rattle.drm_id_alloc.specs.Table.{Table, with_entry, without_entry}
use Rattle.drm_files.specs.declared.files.Held.{Held}

-- Adding an entry at a free handle and removing it leaves the table unchanged.
pub taken_back : (old more back : Table Held) (h : ℕ) (x : Held) → fin.get old.slots h ≡ None
    → more ≡ with_entry old h x → back ≡ without_entry more h → back ≡ old
taken_back old more back h x fresh added taken =
    taken ∙ ap (λ t. without_entry t h) added ∙ (λ i. record old { slots = same i })
  where
    each : (q : ℕ) → fin.get (fin.remove (fin.insert old.slots h x) h) q ≡ fin.get old.slots q
    each q =
        get-remove (fin.insert old.slots h x) h q ∙ ap (cond (eqb q h) None) (get-insert old.slots h x q)
        ∙ elim (eqb q h) as (λ t. eqb q h ≡ t → cond t None (cond t (Some x) (fin.get old.slots q)) ≡ fin.get old.slots q) [
          | true ↦ λ e. sym (ap (fin.get old.slots) (eqb-true q h e) ∙ fresh)
          | false ↦ λ e. refl
        ] refl

    same : fin.remove (fin.insert old.slots h x) h ≡ old.slots
    same = same_by_gets _ _ each
