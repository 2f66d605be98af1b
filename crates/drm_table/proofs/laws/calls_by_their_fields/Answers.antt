use Rattle.drm_table.proofs.TableRows.{read-back, fields-of, has-widths}
use Rattle.drm_table.proofs.laws.calls_by_their_fields.Goals as goal

pub returns-clause-read_back : goal.returns-clause-read_back
returns-clause-read_back c = read-back

pub returns-clause-fields : goal.returns-clause-fields
returns-clause-fields c = fields-of

pub returns-clause-widths : goal.returns-clause-widths
returns-clause-widths c = has-widths
