use Rattle.std.proofs.Common.{sym, ◌∙◌}
use Rattle.drm_table.proofs.TableRows.{flags-by-kind}
use Rattle.drm_table.proofs.calls.Call.flags.Goals as goal

pub returns-in-Some : goal.returns-in-Some
returns-in-Some c =
    c.row.ensures.flags ∙ sym (flags-by-kind c.args.self.now c.in-Some.kind (sym c.kind.ensures ∙ c.in-Some.is))
