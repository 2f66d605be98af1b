use Rattle.std.proofs.Common.{◌++◌, ℕ, List, codes, decimal, ap, sym, ◌∙◌}
use Rattle.std.proofs.lemmas.List.{append_assoc}
use Rattle.drm_commands.specs.Faults as faults
use Rattle.drm_commands.proofs.faults.push_words.Goals as goal

pub returns-in-ScriptLine : goal.returns-in-ScriptLine
returns-in-ScriptLine c =
    let number = decimal c.in-ScriptLine.number in
    c.push_number.ensures.bytes
    ∙ ap (λ (t : List ℕ). t ++ number) c.push_str.ensures.bytes
    ∙ append_assoc c.args.text.now.bytes (codes "script line ") number
    ∙ ap (λ f. c.args.text.now.bytes ++ faults.fault_words f) (sym c.in-ScriptLine.is)
