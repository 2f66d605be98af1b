-- A key of a master is that of one that is there.
use Rattle.std.proofs.Common.{◌≡◌, ℕ, true, List, find, sym, ap, ◌∙◌}
use Rattle.std.specs.Option.{is_some}
use Rattle.drm_index_array.proofs.FoundInLists.{is_some-map}
use Rattle.drm_masters.specs.declared.rows.Master.{Master}
use Rattle.drm_masters.specs.Masters.{is_key, is_there, IsKeyOf}

-- A master with a key is there by this key.
pub there_keyed : (ms : List Master) (step_number key : ℕ) → IsKeyOf ms step_number key → is_there ms key ≡ true
there_keyed ms step_number key h =
    sym (is_some-map (λ (y : Master). y.step_number) (find (is_key key) ms)) ∙ ap is_some h
