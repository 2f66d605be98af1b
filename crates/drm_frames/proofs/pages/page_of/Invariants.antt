use Rattle.std.proofs.Common.{◌≡◌, ◌-◌, ◌*◌, ◌++◌, length}
use Rattle.drm_frames.specs.Pages.{rows_in}
use Rattle.drm_frames.proofs.pages.page_of.Given as goal

abbrev pub invariant-loop : goal.invariant-loop
invariant-loop l = record {
  rows : l.page ++ rows_in (l.count - l.counter) l.rest ≡ rows_in l.count l.bytes;
  rest : length l.rest ≡ 32 * (l.count - l.counter);
  page : length l.page ≡ l.counter;
}
