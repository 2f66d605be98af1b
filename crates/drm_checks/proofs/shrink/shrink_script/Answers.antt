use Rattle.std.proofs.Common.{◌≡◌, ℕ, ◌+◌, ◌<◌, List, true, false, Result, refl, sym, subst, ◌∙◌}
use Rattle.std.specs.Prelude.{IfErr}
use Rattle.std.specs.Result.{IsErrAnd}
use Rattle.std.proofs.lemmas.Result.{err_from_is_err_and}
use Rattle.std.proofs.lemmas.Slice.Eq.{bytes_eq-Decides}
use Rattle.drm_script.specs.Lines.{answer_line}
use Rattle.drm_runs.specs.Script.{Setting}
use Rattle.drm_checks.specs.Shrinking.{IsReplay, IsNeeded, HasShrinkFault, keeps}
use Rattle.drm_checks.specs.declared.faults.ShrinkFault.{ShrinkFault}
use Rattle.drm_checks.specs.declared.faults.ShrinkFault.TheVariants as faults
use Rattle.drm_checks.specs.declared.shrink.Shrunk.{Shrunk}
use Rattle.drm_checks.specs.declared.replays.Kept.TheVariants as variants
use Rattle.drm_checks.proofs.shrink.shrink_script.Goals as goal
use Rattle.drm_checks.proofs.shrink.shrink_script.Goals.{then-found+in_ok-is_minimal, else-found}

pub returns-clause-shrunk : goal.returns-clause-shrunk
returns-clause-shrunk c =
    let whole = c.in_ok-whole.whole in
    let kept = c.in_ok-kept.kept in
    let number_is = c.in_ok-whole.ensures.whole refl in
    record {
      whole = whole.text.items;
      count = whole.count;
      answer = whole.answer;
      same = kept.answer;
      is_whole =
          subst (λ (n : ℕ). IsReplay c.args.setup.now (keeps variants.All) c.args.text.now n whole.text.items whole.count whole.answer)
          number_is c.in_ok-whole.ensures.replay;
      number_is = number_is;
      some = keeps (variants.Marked c.in_ok-found.found.kept);
      kept = kept.count;
      is_kept = c.in_ok-kept.ensures.replay;
      lines_are = refl;
      same_answer =
          (bytes_eq-Decides (answer_line kept.answer) (answer_line whole.answer)).0
          (sym c.is_same.ensures ∙ c.if-not-is_same.false);
    }

-- memory may be refused at any time
no_memory : (r : Result Shrunk ShrinkFault) (setup : Setting) (text : List ℕ) (number : ℕ)
    → IsErrAnd r (λ fault. fault ≡ faults.NoMemory) → IfErr r (λ fault. HasShrinkFault setup text number fault)
no_memory r setup text number h = let p = err_from_is_err_and r h in rw (p.1, p.2) (keeps variants.All, tt)

pub returns-in_err-found-clause-fault : goal.returns-in_err-found-clause-fault
returns-in_err-found-clause-fault c =
    no_memory c.from_residual-in_err-found.result c.args.setup.now c.args.text.now c.args.number
    c.from_residual-in_err-found.ensures.1

pub returns-in_err-is_minimal-clause-fault : goal.returns-in_err-is_minimal-clause-fault
returns-in_err-is_minimal-clause-fault c =
    no_memory c.from_residual-in_err-is_minimal.result c.args.setup.now c.args.text.now c.args.number
    c.from_residual-in_err-is_minimal.ensures.1

pub returns-clause-minimal : goal.returns-clause-minimal
returns-clause-minimal c = elim c.if-found.branch [
  | then-found+in_ok-is_minimal w ↦ λ h.
      record {
        whole = c.in_ok-whole.whole.text.items;
        count = c.in_ok-whole.whole.count;
        answer = c.in_ok-whole.whole.answer;
        is_whole = c.in_ok-whole.ensures.replay;
        needed =
            subst (λ (text : List ℕ). (place : ℕ) → place + 1 < c.in_ok-kept.kept.count + 1 → IsNeeded c.args.setup.now text (c.in_ok-kept.kept.count + 1) c.in_ok-whole.whole.answer place)
            w.as_slice.ensures.value (w.in_ok-is_minimal.ensures.needed (sym w.is_minimal-is ∙ h));
      }
  | else-found w ↦ λ h. let e : false ≡ true = sym w.if-found.false ∙ sym w.is_minimal-is ∙ h in absurd (cc)
]
