use Rattle.std.proofs.Common.{◌≡◌, ℕ, List, ◌++◌, ap, ◌∙◌}
use Rattle.drm_runs.specs.Script.{bound}
use Rattle.drm_checks.specs.Lines.{command_at, command_text}
use Rattle.drm_checks.proofs.JournalLemmas.{adds, on_ok}
use Rattle.drm_checks.proofs.writer.write_line.Goals as goal

pub returns : goal.returns
returns c =
    let script = command_text (command_at c.args.place c.args.event) in
    let is : c.as_slice.result.now ≡ script =
    c.as_slice.ensures.value
    ∙ (c.in_ok-put_event.ensures ∙ ap (λ (l : List ℕ). l ++ script) c.clear.ensures.items) in
    on_ok c.put_answered.result
    (λ h. adds c.args.event c.args.place c.step-outcome.result c.args.text.now.items c.args.device.now c.args.namings.now c.put_answered.new.updated.items c.step-outcome.new.self c.bind.new.self c.as_slice.result.now c.requires.within c.requires.names is h c.step-outcome.ensures.step c.step-outcome.ensures.ok c.step-outcome.ensures.err
    (c.bind.ensures ∙ (λ i. bound (c.note_closing.ensures i) (c.binds-binds.ensures.label i) c.step-outcome.result)))
    c.put_answered.ensures
