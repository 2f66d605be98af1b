use Rattle.std.proofs.Common.{sym, ◌∙◌}
use Rattle.drm_share.proofs.NameFacts.{free_name_is}
use Rattle.drm_share.proofs.names.Names.is_full.Goals as goal

pub returns : goal.returns
returns c =
    let free = free_name_is c.self.inside.objects c.self.invariant.numbered.first_is in
    rw (← c.self.view_is) ((λ yes. free ∙ c.is_full.ensures.0 yes), λ none. c.is_full.ensures.1 (sym free ∙ none))
