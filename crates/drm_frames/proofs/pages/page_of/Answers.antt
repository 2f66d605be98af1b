use Rattle.std.proofs.Common.{arith}
use Rattle.drm_frames.proofs.PageLaws.{row-read, one-longer}
use Rattle.drm_frames.proofs.pages.page_of.Goals as goal

pub loop-preserved : goal.loop-preserved
loop-preserved c = record {
  rows =
      row-read c.args.count c.loop.counter c.loop.page c.push.new.self c.loop.rest.now c.split_at.result.1.now
      c.args.bytes.now c.row_at.result c.loop-test.true c.loop.invariant.rows c.push.ensures c.row_at.ensures
      c.split_at.ensures.back;
  rest = omega (arith, c.split_at.ensures.back_len, c.loop.invariant.rest, c.loop-test.true);
  page = one-longer c.loop.page c.push.new.self c.row_at.result c.loop.counter c.push.ensures c.loop.invariant.page;
}
