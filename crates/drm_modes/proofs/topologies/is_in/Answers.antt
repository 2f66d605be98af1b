use Rattle.std.proofs.Common.{◌≡◌, ◌+◌, ◌-◌, ◌&&◌, nat_lt, nat_le, sym, ◌∙◌, arith}
use Rattle.std.proofs.lemmas.Bool.Decides.{nat_tests}
use Rattle.drm_modes.proofs.Ids.{is_among-numbers_from}
use Rattle.drm_modes.proofs.topologies.is_in.Goals as goal

pub returns-then-first-id-clause-test : goal.returns-then-first-id-clause-test
returns-then-first-id-clause-test c =
    let le = c.if-first-id.true in
    let same : nat_lt (c.args.id - c.args.first) c.args.count ≡ (nat_le c.args.first c.args.id && nat_lt c.args.id (c.args.first + c.args.count)) =
    grind (arith, nat_tests) in
    same ∙ sym (is_among-numbers_from c.args.first c.args.count c.args.id)

pub returns-else-first-id-clause-test : goal.returns-else-first-id-clause-test
returns-else-first-id-clause-test c =
    let gt = c.if-first-id.false in
    let same : nat_le c.args.first c.args.id ≡ (nat_le c.args.first c.args.id && nat_lt c.args.id (c.args.first + c.args.count)) =
    grind (arith, nat_tests) in
    same ∙ sym (is_among-numbers_from c.args.first c.args.count c.args.id)
