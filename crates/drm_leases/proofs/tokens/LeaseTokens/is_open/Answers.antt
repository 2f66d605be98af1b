use Rattle.std.proofs.Common.{find, ap, ◌∙◌}
use Rattle.std.specs.Option.{is_some}
use Rattle.drm_index_array.proofs.FoundInLists.{is_some-find, is_some-map}
use Rattle.drm_leases.specs.Leases.{is_token_of}
use Rattle.drm_leases.proofs.OpenTokens.{number_of}
use Rattle.drm_leases.proofs.tokens.LeaseTokens.is_open.Goals as goal

pub returns : goal.returns
returns c =
    let rows = c.args.self.now.rows in
    c.is_some.ensures ∙ ap is_some c.of.ensures ∙ is_some-map number_of (find (is_token_of c.args.lessee) rows)
    ∙ is_some-find (is_token_of c.args.lessee) rows
