use Rattle.std.proofs.Common.{sym, ◌∙◌}
use Rattle.drm_leases.proofs.Agreeing.{leased_out_is}
use Rattle.drm_leases.proofs.searches.is_leased_out.Goals as goal

pub returns : goal.returns
returns c =
    c.has.ensures ∙ c.lent_by.ensures c.args.mode_object
    ∙ sym
    (leased_out_is c.args.masters.now.members c.args.masters.now.masters c.args.granted.now.rows c.requires c.args.master c.args.mode_object)
