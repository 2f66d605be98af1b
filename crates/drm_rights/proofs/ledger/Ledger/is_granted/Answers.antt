use Rattle.std.proofs.Common.{◌≡◌, true, false, sym, ◌∙◌, ap, not, ◌&&◌}
use Rattle.drm_history.specs.Lessees.{has_ended}
use Rattle.drm_rights.specs.Leases.{lent_in}
use Rattle.drm_rights.proofs.LendingLemmas.{granted_was_lent, none_of}
use Rattle.drm_rights.proofs.ledger.Ledger.is_granted.Goals as goal
use Rattle.drm_trails.proofs.HandleLemmas.{and_true}

pub returns-then-is_none : goal.returns-then-is_none
returns-then-is_none c =
    let lent = lent_in c.args.topology.now c.args.self.now c.args.master c.args.mode_object in
    let lasts : has_ended c.args.self.now c.args.master ≡ false =
    sym c.ended.ensures.ended ∙ c.is_none.ensures ∙ ap not c.if-is_none.true in
    c.lends.ensures ∙ and_true lent ∙ ap (λ b. lent && not b) (sym lasts)
    ∙ sym (granted_was_lent c.args.topology.now c.args.self.now c.args.master c.args.mode_object)

pub returns-else-is_none : goal.returns-else-is_none
returns-else-is_none c =
    let lent = lent_in c.args.topology.now c.args.self.now c.args.master c.args.mode_object in
    let over : has_ended c.args.self.now c.args.master ≡ true =
    sym c.ended.ensures.ended ∙ c.is_none.ensures ∙ ap not c.if-is_none.false in
    c.if-is_none.false ∙ none_of lent ∙ ap (λ b. lent && not b) (sym over)
    ∙ sym (granted_was_lent c.args.topology.now c.args.self.now c.args.master c.args.mode_object)
