use Rattle.std.proofs.Common.{sym, ap, ◌∙◌}
use Rattle.drm_index_array.specs.Least.{least}
use Rattle.drm_id_alloc.specs.Groups.{GroupMap, has}
use Rattle.drm_id_alloc.proofs.NumberLemmas.{least_of_none}
use Rattle.drm_id_alloc.proofs.groups.Groups.next.Goals as goal

pub returns-in_err-get-clause-least : goal.returns-in_err-get-clause-least
returns-in_err-get-clause-least c =
    c.from_residual.ensures
    ∙ sym
    (least_of_none c.self.inside.groups.items c.args.group c.args.from 4294967295 (sym c.in_err-get.ensures.value))
    ∙ ap (λ (m : GroupMap). least (has m c.args.group) c.args.from 4294967295) c.self.view_is
