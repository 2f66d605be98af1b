use Rattle.std.proofs.Common.{inl, inr, sym, ◌∙◌, arith}
use Rattle.drm_trails.specs.Steps.{history_of}
use Rattle.drm_trails.proofs.HistoryLemmas.{length-history_of}
use Rattle.drm_rights.proofs.LendingLemmas.{listed_at, listed_none}
use Rattle.drm_rights.proofs.ledger.listed_at.Goals as goal
use Rattle.drm_rights.proofs.ledger.listed_at.Goals.{then-number-eq0-via-then-number-eq0, then-number-eq0-via-else-number-eq0+then-number-steps}

pub returns-then-number-eq0 : goal.returns-then-number-eq0
returns-then-number-eq0 c =
    let all = length-history_of c.args.steps.now in
    sym (elim c.then-number-eq0.branch [
      | then-number-eq0-via-then-number-eq0 w ↦ listed_none (history_of c.args.steps.now) c.args.number (inl w.if-number-eq0.true)
      | then-number-eq0-via-else-number-eq0+then-number-steps w ↦ listed_none (history_of c.args.steps.now) c.args.number (inr (let late = w.if-number-steps.true in omega (arith, all, late)))
    ])

pub returns : goal.returns
returns c =
    c.listed.ensures
    ∙ sym
    (listed_at c.args.steps.now c.args.number c.index-steps-place.result (let some = c.if-number-eq0.false in omega (arith, some)) c.if-number-steps.false c.index-steps-place.is)
