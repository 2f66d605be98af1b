use Rattle.std.proofs.Common.{Bool, ℕ, List, [], ◌∷◌, ◌++◌, ap, take, take_all, ◌∙◌, subst, sym}
use Rattle.std.proofs.lemmas.List.{take_more}
use Rattle.drm_table.specs.declared.events.Event.{Event}
use Rattle.drm_checks.specs.Journals.{IsScriptOf, IsWritten}
use Rattle.drm_checks.proofs.JournalLemmas.{is_script}
use Rattle.drm_checks.proofs.journal.journal_of.Goals as goal

pub loop-event-init : goal.loop-event-init
loop-event-init c =
    let begun = c.in_ok-writer.ensures in
    subst (λ (text : List ℕ). IsWritten c.args.limits c.args.device [] text c.in_ok-writer.writer)
    (sym (begun.1 ∙ ap (λ (l : List ℕ). l ++ begun.0) c.new-text.ensures.items)) begun.2

pub loop-event-preserved : goal.loop-event-preserved
loop-event-preserved c =
    let es = c.args.events.now in
    subst (λ (l : List Event). IsWritten c.args.limits c.args.device l c.write.new.text.items c.write.new.self)
    (sym (take_more es c.loop-event.event-index c.event-item.result c.loop-event-test.true ∙ (λ i. take c.loop-event.event-index es ++ sym c.event-item.is i ∷ [])))
    (c.in_ok-write.ensures c.args.limits c.args.device (take c.loop-event.event-index es) [] c.loop-event.invariant)

pub returns : goal.returns
returns c = record {
  script =
      subst (λ (w : Bool). IsScriptOf c.args.limits c.args.device c.args.events.now c.loop-event.text.items w) (sym c.is_whole.ensures)
      (is_script c.args.limits c.args.device c.args.events.now c.loop-event.text.items c.loop-event.writer
      (subst (λ (l : List Event). IsWritten c.args.limits c.args.device l c.loop-event.text.items c.loop-event.writer)
      (take_all c.loop-event.event-index c.args.events.now c.loop-event-test.false) c.loop-event.invariant));
}
