use Rattle.std.proofs.Common.{◌≡◌, ℕ, List, ◌++◌, ap, ◌∙◌}
use Rattle.drm_checks.specs.Lines.{brief_event, comment_text}
use Rattle.drm_checks.proofs.JournalLemmas.{adds_comment, on_ok}
use Rattle.drm_checks.proofs.writer.write_comment.Goals as goal

pub returns : goal.returns
returns c =
    let words = comment_text (brief_event c.args.event.now) in
    let is : c.as_slice.result.now ≡ words =
    c.as_slice.ensures.value ∙ (c.in_ok-put_comment.ensures ∙ ap (λ (l : List ℕ). l ++ comment_text c.in_ok-brief.brief) c.clear.ensures.items ∙ ap comment_text c.in_ok-brief.ensures) in
    on_ok c.put_answered.result
    (λ h. adds_comment c.args.event.now c.step_at.new.outcome c.args.text.now.items c.args.device.now c.put_answered.new.updated.items c.step_at.new.self c.as_slice.result.now is h
    c.step_at.ensures.step c.step_at.ensures.ok c.step_at.ensures.err)
    c.put_answered.ensures
