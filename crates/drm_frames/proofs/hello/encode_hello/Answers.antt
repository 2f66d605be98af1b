use Rattle.std.proofs.Common.{ℕ, List, ap, ◌∙◌}
use Rattle.drm_frames.specs.Grammar.{frame_value, frame_text}
use Rattle.drm_frames.specs.Hellos.{hello_text}
use Rattle.drm_frames.proofs.BehindHead.{behind-head}
use Rattle.drm_frames.proofs.hello.encode_hello.Goals as goal

pub returns-clause-text : goal.returns-clause-text
unfolding hello_text
returns-clause-text c =
    c.finish.ensures.text
    ∙ ap (λ (fields : List ℕ). frame_text (frame_value 0x0100 fields))
    (behind-head c.begin.new.self _ _ c.begin.ensures c.push_hello.ensures.text)
