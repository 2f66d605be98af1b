use Rattle.std.proofs.Common.{ap, sym, ◌∙◌}
use Rattle.drm_table.specs.Table.{call_kind_of, call_kind_of_word}
use Rattle.drm_table.proofs.TableRows.{kind-found, kind-of-its-own, word-found, word-of-its-own}
use Rattle.drm_table.proofs.laws.rows_by_their_numbers_and_words.Goals as goal

pub returns-clause-numbers : goal.returns-clause-numbers
returns-clause-numbers c = λ kind number. (kind-of-its-own number kind, λ e. ap call_kind_of (sym e) ∙ kind-found kind)

pub returns-clause-words : goal.returns-clause-words
returns-clause-words c = λ kind word. (word-of-its-own word kind, λ e. ap call_kind_of_word (sym e) ∙ word-found kind)
