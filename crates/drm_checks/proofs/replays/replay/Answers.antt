use Rattle.std.proofs.Common.{◌≡◌, List, ℕ, ◌++◌, Bool, true, false, ◌||◌, refl, sym, ap, ◌∙◌}
use Rattle.std.proofs.lemmas.Bool.{ne_eqb}
use Rattle.std.proofs.lemmas.Result.{err_from_is_err_and}
use Rattle.drm_runs.specs.Lines.{ended}
use Rattle.drm_runs.specs.Interpreter.{at_start}
use Rattle.drm_checks.specs.Updates.{with_answer}
use Rattle.drm_checks.proofs.UpdateLemmas.{first_of, shorter}
use Rattle.drm_checks.proofs.ReplayLemmas.{none_so_far, one_used, one_left_out, joined_so_far, fault_of_use}
use Rattle.drm_checks.proofs.replays.replay.Goals as goal
use Rattle.drm_checks.proofs.replays.replay.Goals.{then-is_used+in_ok-came+in_ok-put+else-is_last, else-is_used}

used_kept : (a b : Bool) → (a || b) ≡ true → a ≡ false → b ≡ true
used_kept true b h left = absurd (let e : true ≡ false = left in cc)
used_kept false b h left = h

neither_left : (a b : Bool) → (a || b) ≡ false → a ≡ false
neither_left true b h = h
neither_left false b h = refl

neither_right : (a b : Bool) → (a || b) ≡ false → b ≡ false
neither_right true b h = absurd (let e : true ≡ false = h in cc)
neither_right false b h = h

pub lines-init : goal.lines-init
lines-init c =
    none_so_far c.args.setup.now c.args.text.now c.new-written.result.items c.args.number c.args.kept.now
    c.new-interpreter.result (c.new-interpreter.ensures ∙ ap at_start c.in_ok-clone.ensures.cases)
    c.new-written.ensures.items

pub returns-in_err-came-clause-fault : goal.returns-in_err-came-clause-fault
returns-in_err-came-clause-fault c =
    let l = c.first_line in
    let first =
    first_of c.lines.rest.now l.result.0.now l.result.1.now c.is_empty.result c.is_empty.ensures c.lines-test.true
    l.ensures.line l.ensures.behind l.ensures.lines in
    let p = err_from_is_err_and c.from_residual-in_err-came.result c.from_residual-in_err-came.ensures.1 in
    rw (p.1, p.2)
    (fault_of_use c.lines.invariant l.result.0.now l.result.1.now first c.use_line.new.interpreter c.in_err-came.field-0.0 c.in_err-came.ensures)

pub lines-smaller : goal.lines-smaller
lines-smaller c =
    let l = c.first_line in
    shorter
    (first_of c.lines.rest.now l.result.0.now l.result.1.now c.is_empty.result c.is_empty.ensures c.lines-test.true l.ensures.line l.ensures.behind l.ensures.lines)

pub lines-preserved : goal.lines-preserved
lines-preserved c =
    let l = c.first_line in
    let first =
    first_of c.lines.rest.now l.result.0.now l.result.1.now c.is_empty.result c.is_empty.ensures c.lines-test.true
    l.ensures.line l.ensures.behind l.ensures.lines in
    elim c.if-is_used.branch [
      | then-is_used+in_ok-came+in_ok-put+else-is_last w ↦
          joined_so_far w.interpreter-is (ap (λ t. t.items) w.written-is) w.count-is
          (one_used c.lines.invariant l.result.0.now l.result.1.now first w.use_line.new.interpreter w.in_ok-came.came w.put.new.text.items (ne_eqb _ _ w.if-is_last.false) (used_kept _ _ (sym c.is_used.ensures ∙ w.if-is_used.true) (ne_eqb _ _ w.if-is_last.false)) w.in_ok-came.ensures
          (w.in_ok-put.ensures ∙ ap (λ (s : List ℕ). c.lines.written.items ++ ended (with_answer s w.in_ok-came.came)) w.script_of.ensures))
      | else-is_used w ↦
          joined_so_far w.interpreter-is (ap (λ t. t.items) w.written-is) w.count-is
          (one_left_out c.lines.invariant l.result.0.now l.result.1.now first (neither_right _ _ (sym c.is_used.ensures ∙ w.if-is_used.false)) (neither_left _ _ (sym c.is_used.ensures ∙ w.if-is_used.false)))
    ]
