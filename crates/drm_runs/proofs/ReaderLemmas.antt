-- A line that is read piece by piece.
use Rattle.std.proofs.Common.{◌≡◌, ℕ, List, ◌++◌, length, refl, sym, ap, subst, ◌∙◌, arith, None}
use Rattle.drm_frames.specs.Streams.{SourceTrace}
use Rattle.drm_frames.specs.Turns.{Refills}
use Rattle.drm_frames.specs.declared.turns.Refill.{Refill}
use Rattle.drm_frames.specs.declared.turns.Refill.TheVariants as refill
use Rattle.drm_frames.proofs.Traces.{ReadCost-then}
use Rattle.drm_runs.specs.Lines.{IsBare}
use Rattle.drm_runs.specs.Reader.{Buffered, Scans, Refilled, ReadsOn, ReadsSoFar}
use Rattle.drm_runs.specs.declared.reader.Scan.TheVariants as scan
use Rattle.drm_runs.proofs.LineLemmas.{more_given, more_fuel, more_chunks}

-- If no byte arrived, the line is unchanged.
pub refilled_other : (r : Refill) (old new : Buffered) (before after : SourceTrace) (buffer : List ℕ) (had has : ℕ)
    → ((n : ℕ) → r ≡ refill.Got n → ⊥)
    → new ≡ old → Refills r before after buffer had has → Refilled r old new before after had has
refilled_other (refill.Got n) old new before after buffer had has got same h = absurd (got n refl)
refilled_other refill.End old new before after buffer had has got same h = (h.0, same, h.2)
refilled_other refill.Fault old new before after buffer had has got same h = (h.0, same, h.1)
refilled_other refill.TurnsUsed old new before after buffer had has got same h = (h.0, same, h.1)

-- If more bytes arrived for a line whose bytes at hand are used, the reader reads on.
pub reads_piece : {mid scanned new : Buffered} {between after : SourceTrace} {left has : ℕ} (n : ℕ)
    → Scans mid scanned scan.Wanting → Refilled (refill.Got n) scanned new between after left has
    → ReadsOn mid new between after left has None
reads_piece {mid} {scanned} {new} {between} {after} {left} {has} n s r = (
  λ (old : Buffered) (before : SourceTrace) (had : ℕ) (given : List ℕ) (so : ReadsSoFar old mid before between had left given). (
    given ++ new.pending,
    record {
      spent = ReadCost-then so.spent r.0;
      whole =
          more_given old.pending given mid.held mid.pending scanned.held new.pending so.whole s.0
          ∙ ap (λ z. z ++ new.pending) (sym r.1);
      bare = subst IsBare (sym r.1) (s.2 so.bare);
      chunks = more_chunks given new.pending _ _ _ _ _ so.chunks r.2 r.0.cost r.3;
      fuel =
          (let e = ap length r.1 in let f = more_fuel left has mid.held mid.pending scanned.held new.pending _ so.fuel s.0 r.2 r.3 in omega (arith, e, f));
    },
  ),
  r.3,
  r.0.cost,
)
