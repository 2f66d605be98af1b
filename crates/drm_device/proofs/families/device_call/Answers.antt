use Rattle.drm_table.specs.declared.calls.Call.TheVariants.{Version}
use Rattle.drm_table.specs.declared.events.Event.TheVariants.{Ask}
use Rattle.drm_model.specs.Calls.{meaning}
use Rattle.drm_model.specs.Change.{changed}
use Rattle.drm_model.specs.Reply.{answer_of}
use Rattle.drm_state.specs.Refinement.{RefinesCall}
use Rattle.drm_state.proofs.Refinements.{carried_on, call_verdict}
use Rattle.drm_device.proofs.families.device_call.Goals as goal

pub returns-in-Version-clause-refines : goal.returns-in-Version-clause-refines
unfolding RefinesCall meaning changed answer_of
returns-in-Version-clause-refines c =
    rw c.in-Version.is
    (λ w s a. carried_on c.args.state.now w (Ask c.args.client Version) c.version.new.answer c.requires.precondition.invariants (call_verdict w c.args.client Version a) c.version.ensures s.rows)
