use Rattle.std.proofs.Common.{◌==◌, rules}
use Rattle.std.proofs.lemmas.Fn.{filter_same}
use Rattle.drm_explanations.specs.Rows as rows
use Rattle.drm_explanations.specs.declared.rows.ClientRow.{ClientRow}
use Rattle.drm_explanations.proofs.rows.Explanation.retain_client.Goals as goal

pub returns-clause-clients : goal.returns-clause-clients
returns-clause-clients c =
    filter_same _ (λ (row : ClientRow). row.client == c.args.client) _ (λ x b f' k. search rules) _ _
    c.retain.ensures.filtered

pub returns-clause-leases : goal.returns-clause-leases
returns-clause-leases c =
    filter_same _ (rows.is_lease_of c.args.client) _ (λ x b f' k. search rules) _ _ c.retain-2.ensures.filtered
