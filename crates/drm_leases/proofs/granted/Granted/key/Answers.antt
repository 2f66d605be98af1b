use Rattle.std.proofs.Common.{option_map, ap, ◌∙◌}
use Rattle.drm_leases.specs.declared.rows.LeaseRecord.{LeaseRecord}
use Rattle.drm_leases.specs.Leases.{key_at}
use Rattle.drm_leases.specs.Masks.{LeaseRows, lendings_in}
use Rattle.drm_leases.proofs.ByKey.{key_is}
use Rattle.drm_leases.proofs.granted.Granted.key.Goals as goal

pub returns-in_err-get : goal.returns-in_err-get
returns-in_err-get c =
    c.from_residual.ensures ∙ ap (option_map (λ (x : LeaseRecord). x.key)) c.in_err-get.ensures.value
    ∙ key_is c.self.inside.leases.items c.args.lessee
    ∙ ap (λ (a : LeaseRows). key_at (lendings_in a.rows) c.args.lessee) c.self.view_is

pub returns : goal.returns
returns c =
    ap (option_map (λ (x : LeaseRecord). x.key)) c.in_ok-get.ensures.value
    ∙ key_is c.self.inside.leases.items c.args.lessee
    ∙ ap (λ (a : LeaseRows). key_at (lendings_in a.rows) c.args.lessee) c.self.view_is
