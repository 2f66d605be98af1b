use Rattle.drm_runs.proofs.ReaderLemmas.{reads_piece}
use Rattle.drm_runs.proofs.reader.LineReader.read_on.Goals as goal

pub returns-in-Got : goal.returns-in-Got
returns-in-Got g c = reads_piece c.in-Got.field-0 c.in-Wanting.ensures c.in-Got.ensures
