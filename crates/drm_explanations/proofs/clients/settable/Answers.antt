use Rattle.std.proofs.Common.{filter, ap, ◌∙◌, rules}
use Rattle.std.proofs.lemmas.Fn.{filter_same}
use Rattle.drm_explanations.specs.Rows as rows
use Rattle.drm_explanations.proofs.clients.settable.Goals as goal

pub returns : goal.returns
returns c =
    let p = rows.may_set c.args.topology.now c.args.ledger.now c.args.client in
    filter_same _ p _ (λ x b f' k. search rules) _ _ c.retain.ensures.filtered
    ∙ ap (λ ids. filter p ids) c.in_ok-ids.ensures
