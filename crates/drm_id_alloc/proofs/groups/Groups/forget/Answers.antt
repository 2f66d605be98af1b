use Rattle.std.proofs.Common.{sym, ◌∙◌}
use Rattle.drm_id_alloc.proofs.GroupLemmas.{group_less, group_last}
use Rattle.drm_id_alloc.specs.Groups.{has_number}
use Rattle.drm_id_alloc.proofs.NumberLemmas.{none_has}
use Rattle.drm_id_alloc.proofs.groups.Groups.forget.Goals as goal

pub returns-then-left-eq0 : goal.returns-then-left-eq0
returns-then-left-eq0 c =
    let none = none_has c.forget.new.self (sym c.len-left.ensures ∙ c.if-left-eq0.true) in
    rw (c.take_out.ensures, ← c.self.view_is)
    (group_last has_number c.self.inside.groups.items c.args.group c.in-Some.numbers.now c.forget.new.self c.args.number (sym c.in-Some.ensures.value) c.forget.ensures none)

pub returns-else-left-eq0 : goal.returns-else-left-eq0
returns-else-left-eq0 c =
    rw (← c.self.view_is)
    (group_less has_number c.self.inside.groups.items c.args.group c.in-Some.numbers.now c.forget.new.self c.args.number (sym c.in-Some.ensures.value) c.forget.ensures)
