use Rattle.std.proofs.Common.{ap, arith}
use Rattle.drm_table.specs.declared.answers.Answer.TheVariants as answers
use Rattle.drm_table.specs.declared.calls.Call.TheVariants.{Audit}
use Rattle.drm_table.specs.declared.events.Event.TheVariants.{Ask}
use Rattle.drm_model.specs.Calls.{meaning}
use Rattle.drm_model.specs.Change.{changed}
use Rattle.drm_model.specs.Reply.{answer_of}
use Rattle.drm_state.specs.Refinement.{RefinesCall}
use Rattle.drm_device.specs.Audits.{IsPage}
use Rattle.drm_state.proofs.Refinements.{carried_on, call_verdict}
use Rattle.drm_device.proofs.audits.audit.Goals as goal

pub returns : goal.returns
unfolding RefinesCall IsPage meaning changed answer_of
returns c = rw c.set_audit.ensures.audit (λ client w s a.
    let page =
    c.page_of.ensures w
    (record { rows = s.rows; step_numbers = s.step_numbers; steps_are = omega (arith, s.step_number_is) }) in
    carried_on c.args.state.now w (Ask client (Audit c.args.kind c.args.from)) (answers.Audit c.page_of.result)
    c.requires.invariants (call_verdict w client (Audit c.args.kind c.args.from) a) (ap answers.Audit page) s.rows)
