use Rattle.std.proofs.Common.{arith}
use Rattle.drm_frames.proofs.ListLaws.{id-read, one-longer}
use Rattle.drm_frames.proofs.lists.list_of.Goals as goal

pub loop-preserved : goal.loop-preserved
loop-preserved c = record {
  ids =
      id-read c.args.count c.loop.counter c.loop.list c.push.new.self c.loop.rest.now c.split_at.result.1.now
      c.args.bytes.now c.u32_in.result c.loop-test.true c.loop.invariant.ids c.push.ensures c.u32_in.ensures
      c.split_at.ensures.back;
  rest = omega (arith, c.split_at.ensures.back_len, c.loop.invariant.rest, c.loop-test.true);
  list = one-longer c.loop.list c.push.new.self c.u32_in.result c.loop.counter c.push.ensures c.loop.invariant.list;
}
