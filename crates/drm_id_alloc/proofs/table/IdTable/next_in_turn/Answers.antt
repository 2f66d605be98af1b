use Rattle.std.proofs.Common.{◌≡◌, ◌≤◌, Some, ap, ◌∙◌}
use Rattle.drm_index_array.specs.Least.{least}
use Rattle.drm_id_alloc.specs.Table.{is_free}
use Rattle.drm_id_alloc.proofs.TableLemmas.{next_cyclic_wraps}
use Rattle.drm_id_alloc.proofs.table.IdTable.next_in_turn.Goals as goal

pub returns-then-given-self-clause-next : goal.returns-then-given-self-clause-next
returns-then-given-self-clause-next g c =
    let t = c.args.self.now in
    let is : t.last_given ≡ Some c.in-Some.given = rw (← c.self.view_is) c.in-Some.is in
    let le : t.last ≤ c.in-Some.given = rw (← c.self.view_is) c.if-given-self.true in
    rw (next_cyclic_wraps t c.in-Some.given is le)
    (c.free_from-then-given-self.ensures.least ∙ ap (λ t'. least (is_free t) t'.first t.last) c.self.view_is)
