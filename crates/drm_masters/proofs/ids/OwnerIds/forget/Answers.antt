use Rattle.std.proofs.Common.{Some, None, sym, ◌∙◌}
use Rattle.drm_masters.proofs.IdLemmas.{set_one, set_none, set_last, item_less, no_item}
use Rattle.drm_masters.proofs.ids.OwnerIds.forget.Goals as goal

pub returns-in_default : goal.returns-in_default
returns-in_default c =
    rw (← c.self.view_is) (set_none c.self.inside.owners.items c.args.owner c.args.id (sym c.in_default.ensures.value))

pub returns-then-left-eq0 : goal.returns-then-left-eq0
returns-then-left-eq0 c =
    let own = item_less c.in-Some.ids.now c.remove-step_number.new.self c.args.id c.remove-step_number.ensures.after in
    let none = no_item c.remove-step_number.new.self (sym c.len-left.ensures.len ∙ c.if-left-eq0.true) in
    rw (c.take_out.ensures, ← c.self.view_is)
    (set_last c.self.inside.owners.items c.args.owner c.in-Some.ids.now c.remove-step_number.new.self c.args.id (sym c.in-Some.ensures.value) own none)

pub returns-else-left-eq0 : goal.returns-else-left-eq0
returns-else-left-eq0 c =
    let own = item_less c.in-Some.ids.now c.remove-step_number.new.self c.args.id c.remove-step_number.ensures.after in
    rw (← c.self.view_is)
    (set_one c.self.inside.owners.items c.args.owner (Some c.in-Some.ids.now) c.remove-step_number.new.self c.args.id None (sym c.in-Some.ensures.value) own)
