use Rattle.std.proofs.Common.{◌≡◌, List, None, Some, sym, ◌∙◌, ap, subst}
use Rattle.std.specs.Option.{option_map}
use Rattle.std.proofs.lemmas.Result.{IfOk-weaker}
use Rattle.drm_model.specs.Run.{DeviceValue, journaled_in, rows_of}
use Rattle.drm_model.specs.Verdict.{verdict}
use Rattle.drm_table.specs.Rules.{apart_number, rule_number}
use Rattle.drm_table.specs.declared.apart.Apart.TheVariants.{NoMemory}
use Rattle.drm_table.specs.declared.events.Event.{Event}
use Rattle.drm_table.specs.declared.rules.Rule.{Rule}
use Rattle.drm_history.specs.History as past
use Rattle.drm_history.specs.History.{AnsweredEvent}
use Rattle.drm_refusals.specs.Kinds as kinds
use Rattle.drm_refusals.specs.Reports as reports
use Rattle.drm_refusals.specs.declared.rows.AnswerRow.{AnswerRow}
use Rattle.drm_refusals.proofs.ReportLemmas.{denial_reported, kinds_of_newest, none_newest, rule_of_newest}
use Rattle.drm_refusals.proofs.answering.explain_answer.Goals as goal

pub returns-in-Some-last-clause-rule : goal.returns-in-Some-last-clause-rule
returns-in-Some-last-clause-rule c =
    let history = c.args.ledger.now in
    let its =
    rule_of_newest c.steps.result.now history c.in-Some-last.step.now c.steps.ensures
    (sym c.in-Some-last.ensures.value) in
    IfOk-weaker c.step_row.result
    (λ (row : AnswerRow). row.rule ≡ option_map rule_number (reports.denied_by c.in-Some-last.step.now.answer))
    (λ (row : AnswerRow). row.rule ≡ reports.rule_reported c.args.line.apart history)
    (λ row is. is ∙ its ∙ ap (λ apart. reports.rule_reported apart history) (sym c.in-None.is)) c.step_row.ensures.rule

pub returns-in-Some-last-clause-denial : goal.returns-in-Some-last-clause-denial
returns-in-Some-last-clause-denial c =
    let history = c.args.ledger.now in
    let its =
    rule_of_newest c.steps.result.now history c.in-Some-last.step.now c.steps.ensures
    (sym c.in-Some-last.ensures.value) in
    let Denied : AnswerRow → Type 0 = λ row.
    (h : DeviceValue) (event : Event) (rule : Rule) → c.args.line.apart ≡ None
    → history ≡ past.history_of (journaled_in h event) → verdict (rows_of h) event ≡ Some rule
    → row.rule ≡ Some (rule_number rule) in
    IfOk-weaker c.step_row.result
    (λ (row : AnswerRow). row.rule ≡ option_map rule_number (reports.denied_by c.in-Some-last.step.now.answer)) Denied
    (λ row is. λ h event rule apart after fails. is ∙ its ∙ denial_reported h event rule history after fails)
    c.step_row.ensures.rule

pub returns-in-None-last-clause-rule : goal.returns-in-None-last-clause-rule
returns-in-None-last-clause-rule c =
    let history = c.args.ledger.now in
    let empty = none_newest c.steps.result.now history c.steps.ensures c.in-None-last.ensures.value in
    IfOk-weaker c.apart_row-in-None-last.result (λ (row : AnswerRow). row.rule ≡ Some (apart_number NoMemory))
    (λ (row : AnswerRow). row.rule ≡ reports.rule_reported c.args.line.apart history)
    (λ row is. is ∙ ap reports.last_rule empty ∙ ap (λ apart. reports.rule_reported apart history) (sym c.in-None.is))
    c.apart_row-in-None-last.ensures.rule

pub returns-in-None-last-clause-denial : goal.returns-in-None-last-clause-denial
returns-in-None-last-clause-denial c =
    let history = c.args.ledger.now in
    let empty = none_newest c.steps.result.now history c.steps.ensures c.in-None-last.ensures.value in
    let Denied : AnswerRow → Type 0 = λ row.
    (h : DeviceValue) (event : Event) (rule : Rule) → c.args.line.apart ≡ None
    → history ≡ past.history_of (journaled_in h event) → verdict (rows_of h) event ≡ Some rule
    → row.rule ≡ Some (rule_number rule) in
    IfOk-weaker c.apart_row-in-None-last.result (λ (row : AnswerRow). row.rule ≡ Some (apart_number NoMemory)) Denied
    (λ row is. λ h event rule apart after fails. is ∙ ap reports.last_rule empty ∙ denial_reported h event rule history after fails)
    c.apart_row-in-None-last.ensures.rule

pub returns-in-None-last-clause-step : goal.returns-in-None-last-clause-step
returns-in-None-last-clause-step c =
    let history = c.args.ledger.now in
    let empty = none_newest c.steps.result.now history c.steps.ensures c.in-None-last.ensures.value in
    IfOk-weaker c.apart_row-in-None-last.result (λ (row : AnswerRow). row.asked ≡ None)
    (λ (row : AnswerRow). option_map (λ told. told.step) row.asked ≡ reports.step_reported c.args.line.apart history)
    (λ row is. ap (option_map (λ told. told.step)) is ∙ ap reports.last_number empty ∙ ap (λ apart. reports.step_reported apart history) (sym c.in-None.is))
    c.apart_row-in-None-last.ensures.step

pub returns-in-Some-last-clause-has : goal.returns-in-Some-last-clause-has
returns-in-Some-last-clause-has c =
    let history = c.args.ledger.now in
    let step = c.in-Some-last.step.now in
    IfOk-weaker c.step_row.result (λ (row : AnswerRow). kinds.HasFor c.args.topology.now history step.event step.answer row.facts.items)
    (λ (row : AnswerRow). c.args.line.apart ≡ None → kinds.Has c.args.topology.now history row.facts.items)
    (λ row has. λ apart. kinds_of_newest c.args.topology.now c.steps.result.now history step row.facts.items c.steps.ensures (sym c.in-Some-last.ensures.value) has)
    c.step_row.ensures.has

pub returns-in-None-last-clause-has : goal.returns-in-None-last-clause-has
returns-in-None-last-clause-has c =
    let history = c.args.ledger.now in
    let empty = none_newest c.steps.result.now history c.steps.ensures c.in-None-last.ensures.value in
    IfOk-weaker c.apart_row-in-None-last.result (λ (row : AnswerRow). row.asked ≡ None)
    (λ (row : AnswerRow). c.args.line.apart ≡ None → kinds.Has c.args.topology.now history row.facts.items)
    (λ row is. λ apart. subst (λ (h : List AnsweredEvent). kinds.Has c.args.topology.now h row.facts.items) empty tt)
    c.apart_row-in-None-last.ensures.step
