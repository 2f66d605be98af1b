use Rattle.std.proofs.Common.{List, ℕ, ap, sym, ◌∙◌}
use Rattle.drm_runs.specs.Reader.{Buffered}
use Rattle.drm_runs.proofs.LineLemmas.{nothing_pending}
use Rattle.drm_runs.proofs.ReaderLemmas.{refilled_other}
use Rattle.drm_runs.proofs.reader.LineReader.refill.Goals as goal

pub returns-in_default : goal.returns-in_default
returns-in_default g c =
    let s = c.self.inside in
    let none = ap (λ (b : Buffered). b.pending) c.self.view_is ∙ c.requires.empty in
    let other =
    nothing_pending s.chunk c.take_some-refill.new.buffer s.next s.end c.self.told c.self.invariant.0
    c.self.invariant.1 none c.take_some-refill.auto.buffer in
    let as_held : List ℕ → Buffered = λ z. record { held = s.line.items; pending = z } in
    refilled_other c.take_some-refill.result c.args.self.now _ _ _ c.take_some-refill.new.buffer _ _
    c.in_default.not-Got (ap as_held (other ∙ sym none) ∙ c.self.view_is) c.take_some-refill.ensures.refills
