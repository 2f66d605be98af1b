use Rattle.std.proofs.Common.{Some, option_map, option_and_then, ap, ◌∙◌}
use Rattle.std.specs.Prelude.{slice_get}
use Rattle.std.specs.FinMap as fin
use Rattle.drm_leases.specs.Masks.{LeaseRows, lease_row}
use Rattle.drm_leases.proofs.Granting.{lease_at}
use Rattle.drm_leases.proofs.granted.Granted.nth.Goals as goal

pub returns-in_err-lessee : goal.returns-in_err-lessee
returns-in_err-lessee c =
    let kept = c.self.inside.leases.items in
    c.from_residual.ensures
    ∙ ap (option_and_then (λ m. option_map (λ v. lease_row (m, v)) (fin.get kept m))) c.in_err-lessee.ensures.nth
    ∙ lease_at kept c.args.position ∙ ap (λ (a : LeaseRows). slice_get a.rows c.args.position) c.self.view_is

pub returns-in_err-kept : goal.returns-in_err-kept
returns-in_err-kept c =
    let kept = c.self.inside.leases.items in
    c.from_residual-in_err-kept.ensures
    ∙ ap (option_map (λ v. lease_row (c.in_ok-lessee.lessee, v))) c.in_err-kept.ensures.value
    ∙ ap (option_and_then (λ m. option_map (λ v. lease_row (m, v)) (fin.get kept m))) c.in_ok-lessee.ensures.nth
    ∙ lease_at kept c.args.position ∙ ap (λ (a : LeaseRows). slice_get a.rows c.args.position) c.self.view_is

pub returns : goal.returns
returns c =
    let kept = c.self.inside.leases.items in
    ap Some c.lease_of.ensures
    ∙ ap (option_map (λ v. lease_row (c.in_ok-lessee.lessee, v))) c.in_ok-kept.ensures.value
    ∙ ap (option_and_then (λ m. option_map (λ v. lease_row (m, v)) (fin.get kept m))) c.in_ok-lessee.ensures.nth
    ∙ lease_at kept c.args.position ∙ ap (λ (a : LeaseRows). slice_get a.rows c.args.position) c.self.view_is
