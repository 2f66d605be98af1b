use Rattle.std.proofs.lemmas.Result.{err_from_is_err_and}
use Rattle.drm_checks.proofs.UpdateLemmas.{none_so_far, first_of, one_more, fault_of_line}
use Rattle.drm_checks.proofs.update.update_script.Goals as goal

pub lines-init : goal.lines-init
lines-init c =
    none_so_far c.args.setup c.args.text.now c.new-updated.result.items c.new-interpreter.result
    c.new-interpreter.ensures c.new-updated.ensures.items

pub lines-preserved : goal.lines-preserved
lines-preserved c =
    let l = c.first_line in
    let first =
    first_of c.lines.rest.now l.result.0.now l.result.1.now c.is_empty.result c.is_empty.ensures c.lines-test.true
    l.ensures.line l.ensures.behind l.ensures.lines in
    one_more c.lines.invariant l.result.0.now l.result.1.now first c.use_line.new.interpreter c.in_ok-came.came
    c.put_updated.new.updated.items c.in_ok-came.ensures c.in_ok-put_updated.ensures

pub returns-in_err-came-clause-fault : goal.returns-in_err-came-clause-fault
returns-in_err-came-clause-fault c =
    let l = c.first_line in
    let first =
    first_of c.lines.rest.now l.result.0.now l.result.1.now c.is_empty.result c.is_empty.ensures c.lines-test.true
    l.ensures.line l.ensures.behind l.ensures.lines in
    let p = err_from_is_err_and c.from_residual.result c.from_residual.ensures.1 in
    rw (p.1, p.2)
    (fault_of_line c.lines.invariant l.result.0.now l.result.1.now first c.use_line.new.interpreter c.in_err-came.field-0.0 c.in_err-came.ensures)
