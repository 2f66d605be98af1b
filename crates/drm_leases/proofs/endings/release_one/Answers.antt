use Rattle.std.proofs.Common.{false, ap, sym, ◌∙◌}
use Rattle.drm_masters.specs.Masters.{swept}
use Rattle.drm_masters.specs.Calls.{with_kept}
use Rattle.drm_leases.proofs.Denied.{some_none}
use Rattle.drm_leases.proofs.MasterKeys.{keyed_step_number, keyed_there}
use Rattle.drm_leases.proofs.endings.release_one.Goals as goal

pub unreachable-requires : goal.unreachable-requires
unreachable-requires c = some_none _ c.requires.there (sym c.master.ensures.master ∙ c.in_default.is)

pub release-requires : goal.release-requires
release-requires c = keyed_there c.args.masters.now.masters c.args.lessee c.in-Some.master.key c.in-Some.ensures.keyed

pub returns-clause-masters : goal.returns-clause-masters
returns-clause-masters c =
    c.release.ensures
    ∙ ap (λ n. swept (with_kept n false c.args.masters.now))
    (keyed_step_number c.args.masters.now.masters c.args.lessee c.in-Some.master.key c.in-Some.ensures.keyed)
