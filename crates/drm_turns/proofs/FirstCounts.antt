-- What the first participant counts.
use Rattle.std.proofs.Common.{◌≡◌, ℕ, suc, ◌+◌, length, sym, ap, ◌∙◌, subst}
use mathlib.Core.Option.{some}
use lib.ListN.{get_elem?}
use Rattle.drm_turns.specs.declared.history.View.{View}
use Rattle.drm_turns.specs.declared.history.Stage.TheVariants.{Idle}
use Rattle.drm_turns.specs.Rule.{Table, Knows, Orderly}
use Rattle.drm_turns.proofs.SplitAndReturned.{others_spent}
use Rattle.drm_turns.proofs.Totals.{total_first}

-- If the first participant is idle and has all back, it has drawn all tickets and journaled all entries.
pub first_counts : (s : Table) (r : Orderly s) (v : View) → get_elem? s.views 0 ≡ some v → v.stage ≡ Idle
    → v.outstanding ≡ 0 → (r.world.next ≡ v.drawn) × (length r.world.log ≡ length r.world.origin.journal + v.journaled)
first_counts s r v at idle none_outstanding =
    let spent : (c : ℕ) (u : View) → get_elem? s.views (suc c) ≡ some u → (u.drawn ≡ 0) × (u.journaled ≡ 0) =
    λ c u at_c. subst (Knows r.world (suc c) u) (others_spent s.views r.lent v at (λ e. absurd (cc)) none_outstanding c u at_c) (r.know (suc c) u at_c) in
    let drawn = total_first (λ u. u.drawn) s.views v at (λ c u at_c. (spent c u at_c).0) in
    let journaled = total_first (λ u. u.journaled) s.views v at (λ c u at_c. (spent c u at_c).1) in
    (sym r.drawn ∙ drawn, sym r.journaled ∙ ap (λ (n : ℕ). length r.world.origin.journal + n) journaled)
