use Rattle.std.proofs.Common.{◌+◌, ◌++◌, [], ◌∷◌, length-append, arith}
use Rattle.drm_modes.specs.Numbers.{numbers_from}
use Rattle.drm_modes.proofs.Ids.{length-numbers_from}
use Rattle.drm_modes.proofs.ListsSoFar.{number_told, numbers_told}
use Rattle.drm_modes.proofs.topologies.append_numbers.Goals as goal

pub push-requires : goal.push-requires
push-requires c =
    let l = c.loop-id in
    omega (arith, length-numbers_from c.args.first c.args.count, l.invariant.short, c.loop-id-test.true, c.requires.room)

pub loop-id-preserved : goal.loop-id-preserved
loop-id-preserved c =
    let l = c.loop-id in
    record {
      told =
          rw c.push.ensures
          (number_told l.ids (c.args.ids.now ++ numbers_from c.args.first c.args.count) l.id (c.args.first + c.args.count) c.loop-id-test.true l.invariant.told);
      short = rw c.push.ensures (omega (arith, length-append l.ids (l.id ∷ []), l.invariant.short));
    }

pub returns : goal.returns
returns c =
    let l = c.loop-id in
    numbers_told l.ids (c.args.ids.now ++ numbers_from c.args.first c.args.count) l.id (c.args.first + c.args.count)
    (omega (arith, c.loop-id-test.false)) l.invariant.told
