use Rattle.std.proofs.Common.{ap, sym, ◌∙◌}
use Rattle.drm_table.specs.Answers.{answer_kind_of}
use Rattle.drm_table.proofs.AnswerRows.{tells-back, told-by, has-widths, kind-found, kind-of-its-own}
use Rattle.drm_table.proofs.laws.answers_by_their_fields.Goals as goal

pub returns-clause-told : goal.returns-clause-told
returns-clause-told c = tells-back

pub returns-clause-row : goal.returns-clause-row
returns-clause-row c = told-by

pub returns-clause-widths : goal.returns-clause-widths
returns-clause-widths c = has-widths

pub returns-clause-numbers : goal.returns-clause-numbers
returns-clause-numbers c =
    λ kind number. (kind-of-its-own number kind, λ e. ap answer_kind_of (sym e) ∙ kind-found kind)
