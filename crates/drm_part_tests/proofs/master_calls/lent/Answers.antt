use Rattle.std.proofs.Common.{◌<◌, rules, sym, subst}
use Rattle.drm_leases.proofs.MasterKeys.{keyed_step_number}
use Rattle.drm_part_tests.proofs.KeysOfMasters.{there_keyed}
use Rattle.drm_part_tests.proofs.master_calls.lent.Goals as goal

pub make_lessee-requires-clause-there : goal.make_lessee-requires-clause-there
make_lessee-requires-clause-there c =
    there_keyed c.args.masters.now.masters c.args.lessor c.in-Some.row.key c.in-Some.ensures.keyed

pub make_lessee-requires-clause-later : goal.make_lessee-requires-clause-later
make_lessee-requires-clause-later c =
    subst (λ n. n < c.args.step_number)
    (sym (keyed_step_number c.args.masters.now.masters c.args.lessor c.in-Some.row.key c.in-Some.ensures.keyed))
    (search rules)
