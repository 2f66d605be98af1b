-- What calls of a loop count.
use Rattle.std.proofs.Common.{◌≡◌, ℕ, ◌+◌, ◌<◌, ◌≤◌, zero, suc, List, [], ◌∷◌, ◌++◌, length, refl, ap, ◌∙◌, arith}
use Rattle.std.specs.List.{AllByRecursion}
use Rattle.drm_frames.specs.Streams.{Counts, one_call, counts_put}
use Rattle.drm_frames.specs.Turns.{interrupted, pieces_put, PutPieces}
use Rattle.drm_frames.specs.declared.sink.Put.TheVariants as put

-- ---- interruptions

abbrev moved : Counts → ℕ → ℕ → Counts
moved c calls faults = record c { calls = calls; faults = faults }

interrupted-none : (c : Counts) → c ≡ interrupted 0 c
interrupted-none c = ap (λ n. moved c n c.faults) (omega arith) ∙ ap (λ n. moved c (c.calls + 0) n) (omega arith)

-- ---- pieces

pieces_put-push : (rows : List ℕ) (row : ℕ) (c : Counts)
    → one_call (interrupted row (pieces_put rows c)) ≡ pieces_put (rows ++ row ∷ []) c
pieces_put-push [] row c = refl
pieces_put-push (first ∷ rows) row c = pieces_put-push rows row (one_call (interrupted first c))

All-push : (P : ℕ → Type 0) (xs : List ℕ) (x : ℕ) → AllByRecursion P xs → P x → AllByRecursion P (xs ++ x ∷ [])
All-push P [] x h p = (p, tt)
All-push P (y ∷ xs) x h p = (h.0, All-push P xs x h.1 p)

taken-is-call : (n : ℕ) (text : List ℕ) (c : Counts) → 0 < n → n ≤ length text
    → counts_put (put.Took n) text c ≡ one_call c
taken-is-call zero text c some within = absurd (omega arith)
taken-is-call (suc n) [] c some within = absurd (omega arith)
taken-is-call (suc n) (b ∷ text) c some within = refl

-- A call that takes some bytes adds one piece, after fewer than 1,000 interruptions.
pub PutPieces-took : {a b c : Counts} {row : ℕ} (n : ℕ) (text : List ℕ) → PutPieces a b row → row < 1000 → 0 < n
    → n ≤ length text
    → c ≡ counts_put (put.Took n) text b → PutPieces a c 0
PutPieces-took {a} {b} {c} {row} n text so patient some within e = record {
  rows = so.rows ++ row ∷ [];
  patient = All-push (λ k. k < 1000) so.rows row so.patient patient;
  counts =
      e ∙ taken-is-call n text b some within ∙ ap one_call so.counts ∙ pieces_put-push so.rows row a
      ∙ interrupted-none _;
}
