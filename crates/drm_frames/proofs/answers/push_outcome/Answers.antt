use Rattle.std.proofs.Common.{◌≡◌, ◌++◌, ap, sym, ◌∙◌}
use Rattle.drm_frames.specs.Answers.{answer_frame}
use Rattle.drm_frames.specs.Grammar.{frame_value}
use Rattle.drm_frames.specs.Number.{u32}
use Rattle.drm_frames.proofs.BehindHead.{behind-head}
use Rattle.drm_frames.proofs.answers.push_outcome.Goals as goal

pub returns-in-Err-clause-text : goal.returns-in-Err-clause-text
returns-in-Err-clause-text c =
    let said : frame_value 0x2001 (u32 c.number.result ++ u32 c.errno.result) ≡ answer_frame c.args.outcome.now =
    rw (c.number.ensures, c.errno.ensures) (ap answer_frame (sym c.in-Err.is)) in
    ap (frame_value 0x2001) (behind-head c.args.text.now _ _ c.requires.empty c.push_refusal.ensures.text) ∙ said
