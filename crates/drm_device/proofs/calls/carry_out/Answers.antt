use Rattle.std.proofs.Common.{Some, refl, sym, ap, ◌∙◌}
use Rattle.drm_table.specs.declared.rows.Family.TheVariants.{Masters, Modes, Framebuffers, Leases}
use Rattle.drm_state.specs.Refinement.{RefinesCall}
use Rattle.drm_state.proofs.Callers.{caller_open}
use Rattle.drm_device.proofs.Primaries.{stands_to_master}
use Rattle.drm_device.proofs.Unadmitted.{never_admitted}
use Rattle.drm_device.proofs.calls.carry_out.Goals as goal

pub device_call-requires-clause-open_client : goal.device_call-requires-clause-open_client
device_call-requires-clause-open_client c = caller_open c.args.state.now c.args.caller c.requires.caller

pub buffer_call-requires-clause-open_client : goal.buffer_call-requires-clause-open_client
buffer_call-requires-clause-open_client c = caller_open c.args.state.now c.args.caller c.requires.caller

pub share_call-requires-clause-open_client : goal.share_call-requires-clause-open_client
share_call-requires-clause-open_client c = caller_open c.args.state.now c.args.caller c.requires.caller

pub primary-requires : goal.primary-requires
primary-requires c =
    stands_to_master c.args.call.now Masters refl c.args.state.now c.args.caller c.requires.precondition.invariants
    c.requires.caller c.requires.render
    (sym c.family.ensures ∙ c.in-Some-Masters.is ∙ ap Some c.in-Some-Masters.field-0-is)

pub primary-requires-in-Some-Modes : goal.primary-requires-in-Some-Modes
primary-requires-in-Some-Modes c =
    stands_to_master c.args.call.now Modes refl c.args.state.now c.args.caller c.requires.precondition.invariants
    c.requires.caller c.requires.render (sym c.family.ensures ∙ c.in-Some-Modes.is ∙ ap Some c.in-Some-Modes.field-0-is)

pub primary-requires-in-Some-Framebuffers : goal.primary-requires-in-Some-Framebuffers
primary-requires-in-Some-Framebuffers c =
    stands_to_master c.args.call.now Framebuffers refl c.args.state.now c.args.caller c.requires.precondition.invariants
    c.requires.caller c.requires.render
    (sym c.family.ensures ∙ c.in-Some-Framebuffers.is ∙ ap Some c.in-Some-Framebuffers.field-0-is)

pub primary-requires-in-Some-Leases : goal.primary-requires-in-Some-Leases
primary-requires-in-Some-Leases c =
    stands_to_master c.args.call.now Leases refl c.args.state.now c.args.caller c.requires.precondition.invariants
    c.requires.caller c.requires.render
    (sym c.family.ensures ∙ c.in-Some-Leases.is ∙ ap Some c.in-Some-Leases.field-0-is)

pub returns-in-None-clause-refines : goal.returns-in-None-clause-refines
unfolding RefinesCall
returns-in-None-clause-refines c =
    λ w s a. absurd (never_admitted w c.args.caller.client c.args.call.now (sym c.family.ensures ∙ c.in-None.is) a)
