use Rattle.std.proofs.Common.{sym, ◌∙◌, arith}
use Rattle.drm_device.proofs.Devices.{new_device, some_handles, some_names, some_tokens, some_framebuffers, few_framebuffers_allowed, few_lessees_allowed}
use Rattle.drm_device.proofs.device.Device.new.Goals as goal

pub new-requires : goal.new-requires
new-requires c = some_handles c.args.limits (sym c.are_in_range.ensures ∙ c.if-not-are_in_range.false)

pub new-requires-2 : goal.new-requires-2
new-requires-2 c =
    record { few = few_lessees_allowed c.args.limits (sym c.are_in_range.ensures ∙ c.if-not-are_in_range.false) }

pub new-requires-4 : goal.new-requires-4
new-requires-4 c = some_names c.args.limits (sym c.are_in_range.ensures ∙ c.if-not-are_in_range.false)

pub new-requires-5 : goal.new-requires-5
new-requires-5 c = some_tokens c.args.limits (sym c.are_in_range.ensures ∙ c.if-not-are_in_range.false)

pub new-leases-requires : goal.new-leases-requires
new-leases-requires c = some_tokens c.args.limits (sym c.are_in_range.ensures ∙ c.if-not-are_in_range.false)

pub new-modes-requires-clause-some : goal.new-modes-requires-clause-some
new-modes-requires-clause-some c =
    some_framebuffers c.args.limits (sym c.are_in_range.ensures ∙ c.if-not-are_in_range.false)

pub new-modes-requires-clause-few : goal.new-modes-requires-clause-few
new-modes-requires-clause-few c =
    few_framebuffers_allowed c.args.limits (sym c.are_in_range.ensures ∙ c.if-not-are_in_range.false)

pub invariant_of-result : goal.invariant_of-result
invariant_of-result c =
    new_device
    (record {
      limits = c.args.limits;
      journal = c.in-Ok.journal;
      state =
          record
          { files = c.new.result; masters = c.new-2.result; leases = c.new-leases.result; objects = c.new-3.result; names = c.new-4.result; tokens = c.new-5.result; modes = c.new-modes.result };
    })
    c.args.topology
    (sym c.are_in_range.ensures ∙ c.if-not-are_in_range.false) c.in-Ok.ensures.empty c.in-Ok.ensures.room
    (record { files = c.new.ensures; masters = c.new-2.ensures; leases = c.new-leases.ensures; objects = c.new-3.ensures; names = c.new-4.ensures; tokens = c.new-5.ensures; modes = c.new-modes.ensures; modes_are = c.laws.ensures; leases_are = c.laws-2.ensures; lessees_few = few_lessees_allowed c.args.limits (sym c.are_in_range.ensures ∙ c.if-not-are_in_range.false) })
