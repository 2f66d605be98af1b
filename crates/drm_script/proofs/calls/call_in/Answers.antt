use Rattle.std.proofs.Common.{ap, sym, ◌∙◌}
use Rattle.std.proofs.lemmas.Result.{err_from_is_err_and}
use Rattle.drm_table.specs.Table.{call_with}
use Rattle.drm_script.specs.Fields.{fields_at}
use Rattle.drm_script.specs.Words.{words_of}
use Rattle.drm_script.proofs.FaultLaws.{kind_passed, no_call}
use Rattle.drm_script.proofs.calls.call_in.Goals as goal

pub returns-in_err-fields-clause-fault : goal.returns-in_err-fields-clause-fault
returns-in_err-fields-clause-fault g c =
    let p = err_from_is_err_and c.from_residual-in_err-fields.result c.from_residual-in_err-fields.ensures.1 in
    rw (p.1, p.2)
    (kind_passed c.args.kind (words_of c.args.text.now) _ _ c.in_ok-known_kind.ensures.passed (rw (← c.layout.ensures.layout) c.in_err-fields.ensures.fault))

pub unreachable-requires : goal.unreachable-requires
unreachable-requires g c =
    no_call c.args.kind (words_of c.args.text.now) c.in_ok-fields.fields c.in_ok-known_kind.ensures.passed
    (sym (c.in_ok-fields.ensures.reading ∙ ap (λ l. fields_at l (words_of c.args.text.now)) c.layout.ensures.layout))
    (sym (c.call.ensures ∙ ap (call_with c.args.kind) c.as_slice.ensures.fields) ∙ c.in_default.is)
