use Rattle.std.proofs.Common.{[], ◌∷◌, ◌++◌, Bool, subst, sym}
use Rattle.drm_checks.specs.Journals.{Advances, IsWritten, IsWrittenAs, WriterView}
use Rattle.drm_checks.proofs.JournalLemmas.{comment_written, cut_written, on_ok}
use Rattle.drm_checks.proofs.writer.JournalWriter.write.Goals as goal

pub returns-then-not-self : goal.returns-then-not-self
returns-then-not-self c =
    let cut = c.if-not-self.true in
    let kept = c.self.inside in
    let text = c.args.text.now.items in
    on_ok c.write_comment.result
    (λ more limits first events front h.
    subst (λ (b : Bool). IsWrittenAs limits first (events ++ c.args.event.now ∷ []) (front ++ c.write_comment.new.text.items) c.write_comment.new.device kept.namings b)
    (sym cut)
    (comment_written limits first kept.device c.write_comment.new.device events c.args.event.now front text c.write_comment.new.text.items kept.namings kept.namings
    (subst (λ (b : Bool). IsWrittenAs limits first events (front ++ text) kept.device kept.namings b) cut
    (subst (λ (w : WriterView). IsWritten limits first events (front ++ text) w) (sym c.self.view_is) h))
    more))
    c.write_comment.ensures

pub returns : goal.returns
returns c =
    let whole = c.if-not-self.false in
    let kept = c.self.inside in
    let text = c.args.text.now.items in
    let stops =
    subst (λ (b : Bool). Advances c.args.event.now text kept.device kept.namings c.write_event.new.text.items c.write_event.new.device c.write_event.new.namings b)
    c.if-branch.false c.in_ok-write_event.ensures in
    on_ok c.write_comment-2.result
    (λ more limits first events front h.
    cut_written limits first kept.device c.write_event.new.device c.write_comment-2.new.device events c.args.event.now front text c.write_event.new.text.items c.write_comment-2.new.text.items kept.namings kept.namings
    (subst (λ (b : Bool). IsWrittenAs limits first events (front ++ text) kept.device kept.namings b) whole
    (subst (λ (w : WriterView). IsWritten limits first events (front ++ text) w) (sym c.self.view_is) h))
    stops more)
    c.write_comment-2.ensures
