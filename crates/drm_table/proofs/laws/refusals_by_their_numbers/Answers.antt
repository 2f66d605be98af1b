use Rattle.std.proofs.Common.{ap, sym, ◌∙◌}
use Rattle.drm_table.specs.Rules.{rule_of_number, apart_of_number}
use Rattle.drm_table.proofs.RefusalRows.{rule-found, rule-of-its-own, apart-found, apart-of-its-own}
use Rattle.drm_table.proofs.laws.refusals_by_their_numbers.Goals as goal

pub returns-clause-rules : goal.returns-clause-rules
returns-clause-rules c = λ rule number. (rule-of-its-own number rule, λ e. ap rule_of_number (sym e) ∙ rule-found rule)

pub returns-clause-aparts : goal.returns-clause-aparts
returns-clause-aparts c =
    λ apart number. (apart-of-its-own number apart, λ e. ap apart_of_number (sym e) ∙ apart-found apart)
