use Rattle.std.proofs.Common.{[], Option, sym, subst, ◌∙◌, ap}
use Rattle.std.specs.Option.{option_map_or}
use Rattle.std.specs.Str.{IsUtf8}
use Rattle.std.proofs.lemmas.Str.{IsUtf8-from_is_utf8}
use Rattle.drm_table.specs.Table.{kind_word}
use Rattle.drm_table.specs.declared.calls.CallKind.{CallKind}
use Rattle.drm_explanations.proofs.StepLemmas.{words_are_text}
use Rattle.drm_explanations.proofs.names.word_of.Goals as goal

pub returns-in-Ok : goal.returns-in-Ok
returns-in-Ok c =
    c.in-Ok.ensures.cases.0 ∙ c.word.ensures
    ∙ ap (λ (k : Option CallKind). option_map_or kind_word k []) c.in-Some.ensures

pub returns-in-Err : goal.returns-in-Err
returns-in-Err c =
    absurd
    (c.in-Err.ensures.cases.0 (subst IsUtf8 (sym c.word.ensures) (IsUtf8-from_is_utf8 (kind_word c.in-Some.kind) (words_are_text c.in-Some.kind))))
