use Rattle.std.proofs.Common.{◌≡◌, ◌∙◌, ℕ, ◌<◌, ◌≤◌, List, length, sym, arith}
use Rattle.std.proofs.lemmas.Option.{get_or_from_slice_get, slice_get-get_or, slice_get_within}
use Rattle.std.proofs.Math.ListN.{get_or}
use Rattle.std.specs.List.{slice_get}
use Rattle.drm_checks.proofs.differences.first_difference.Goals as goal
use Rattle.drm_checks.proofs.differences.first_difference.Goals.{then-at-other-via-then-at-other, then-at-other-via-else-at-other+then-other-at}

one-ends : (xs ys : List ℕ) (k : ℕ) → k < length xs → length ys ≤ k → slice_get xs k ≡ slice_get ys k → ⊥
one-ends xs ys k within past same =
    let further = slice_get_within ys k _ (sym same ∙ slice_get-get_or xs k 0 within) in omega (arith, further, past)

another-byte : (xs ys : List ℕ) (k : ℕ) → k < length xs → (get_or ys k 0 ≡ get_or xs k 0 → ⊥)
    → slice_get xs k ≡ slice_get ys k → ⊥
another-byte xs ys k within not same =
    not (get_or_from_slice_get ys k _ 0 (sym same ∙ slice_get-get_or xs k 0 within))

pub returns-then-at-other-clause-line : goal.returns-then-at-other-clause-line
returns-then-at-other-clause-line c = record {
  at = c.loop-at.at;
  same = c.loop-at.invariant.same;
  apart = λ same. elim c.then-at-other.branch [
    | then-at-other-via-then-at-other w ↦ one-ends _ _ _ c.loop-at-test.true w.if-at-other.true same
    | then-at-other-via-else-at-other+then-other-at w ↦ another-byte _ _ _ c.loop-at-test.true w.if-other-at.true same
  ];
  line_is = c.loop-at.invariant.line;
}

pub returns-then-text-other-clause-line : goal.returns-then-text-other-clause-line
returns-then-text-other-clause-line c = record {
  at = c.loop-at.at;
  same = c.loop-at.invariant.same;
  apart = λ same. (let past = c.loop-at-test.false in let more = c.if-text-other.true in one-ends _ _ c.loop-at.at (let w = c.loop-at.invariant.within in omega (arith, past, w, more)) past (sym same));
  line_is = c.loop-at.invariant.line;
}
