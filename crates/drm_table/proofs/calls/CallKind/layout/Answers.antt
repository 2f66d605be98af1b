use Rattle.drm_table.proofs.TableRows.{short}
use Rattle.drm_table.proofs.calls.CallKind.layout.Goals as goal

pub returns-clause-short : goal.returns-clause-short
returns-clause-short c = short c.args.self _ c.row.ensures.layout
