use Rattle.std.proofs.Common.{◌≡◌, false, refl, ap, ◌∙◌, Err, List, subst}
use Rattle.drm_table.specs.declared.events.Event.{Event}
use Rattle.drm_table.specs.declared.limits.Limits.{Limits}
use Rattle.drm_modes.specs.Topology.{Topology}
use Rattle.drm_model.specs.Run.{DeviceValue}
use Rattle.drm_device.specs.declared.device.NewFault.{NewFault}
use Rattle.drm_device.specs.declared.device.NewFault.TheVariants.{BadLimits, NoMemory}
use Rattle.drm_device.specs.declared.replays.ReplayFault.TheVariants.{New}
use Rattle.drm_table.specs.Limits.{are_in_range}
use Rattle.drm_device.specs.Replay.{IsReplay, StopsAt}
use Rattle.drm_device.proofs.replays.replay.Goals as goal

new_fault : (t : Topology) (limits : Limits) (events : List Event) (fault : NewFault)
    → ((fault ≡ BadLimits) → are_in_range limits ≡ false) → IsReplay t limits events (Err (New fault))
unfolding IsReplay
new_fault t limits events BadLimits h = h refl
new_fault t limits events NoMemory h = tt

pub returns-in-Err-clause-replays : goal.returns-in-Err-clause-replays
returns-in-Err-clause-replays c =
    new_fault c.args.topology c.args.limits c.args.events.now c.in-Err.fault
    (λ e. c.in-Err.ensures.bad_limits.0 (ap Err e))

pub returns-in-Ok-step_each-clause-replays : goal.returns-in-Ok-step_each-clause-replays
unfolding IsReplay
returns-in-Ok-step_each-clause-replays c =
    c.in-Ok-step_each.ensures.ok ∙ ap (λ (d : DeviceValue). record d { journal = c.args.events.now }) c.in-Ok.ensures.ok

pub returns-in-Err-step_each-clause-replays : goal.returns-in-Err-step_each-clause-replays
unfolding IsReplay
returns-in-Err-step_each-clause-replays c =
    subst (λ (d : DeviceValue). StopsAt d c.args.events.now c.in-Err-step_each.first.at c.in-Err-step_each.first.apart)
    c.in-Ok.ensures.ok c.in-Err-step_each.ensures.err
