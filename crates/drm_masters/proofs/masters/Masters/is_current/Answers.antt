use Rattle.std.proofs.Common.{false, sym, ap, ◌∙◌}
use Rattle.std.specs.Option.{option_map_or}
use Rattle.drm_masters.specs.Fields.{set_of}
use Rattle.drm_masters.specs.Masters.{MasterSet, is_current, is_current_member}
use Rattle.drm_masters.proofs.masters.Masters.is_current.Goals as goal

pub returns-in_default : goal.returns-in_default
returns-in_default c =
    ap (λ o. option_map_or (is_current_member (set_of c.self.inside)) o false) (sym c.in_default.is ∙ c.get.ensures)
    ∙ ap (λ (w : MasterSet). is_current w c.args.client) c.self.view_is

pub is_current_among-requires : goal.is_current_among-requires
is_current_among-requires c =
    record { older = c.self.invariant.are.lessors_older; top = c.self.invariant.are.device_owner }

pub returns : goal.returns
returns c =
    c.is_current_among.ensures
    ∙ ap (λ o. option_map_or (is_current_member (set_of c.self.inside)) o false) (sym c.in-Some.is ∙ c.get.ensures)
    ∙ ap (λ (w : MasterSet). is_current w c.args.client) c.self.view_is
