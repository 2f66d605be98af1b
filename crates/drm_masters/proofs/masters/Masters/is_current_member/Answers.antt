use Rattle.std.proofs.Common.{ap, ◌∙◌}
use Rattle.drm_masters.specs.Masters.{MasterSet, is_current_member}
use Rattle.drm_masters.proofs.masters.Masters.is_current_member.Goals as goal

pub is_current_among-requires : goal.is_current_among-requires
is_current_among-requires c =
    record { older = c.self.invariant.are.lessors_older; top = c.self.invariant.are.device_owner }

pub returns : goal.returns
returns c = c.is_current_among.ensures ∙ ap (λ (w : MasterSet). is_current_member w c.args.member) c.self.view_is
