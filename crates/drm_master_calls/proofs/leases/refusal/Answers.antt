use Rattle.std.proofs.Common.{sym, ap, ◌∙◌}
use Rattle.std.specs.Option.{option_and_then}
use Rattle.drm_masters.specs.declared.rows.Member.{Member}
use Rattle.drm_table.specs.Permit.{first_failing}
use Rattle.drm_leases.specs.Rules.{lease_checks}
use Rattle.drm_master_calls.proofs.leases.refusal.Goals as goal

pub returns : goal.returns
returns c =
    let s = c.args.state.now in
    c.create_refusal.ensures
    ∙ ap (option_and_then (λ (x : Member). first_failing (lease_checks s.leases s.masters s.modes x.master c.args.caller.flags.universal c.args.listed.now)))
    (sym c.requires.caller.member)
