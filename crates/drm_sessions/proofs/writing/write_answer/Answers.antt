use Rattle.drm_sessions.proofs.Telling.{wrote-fault, wrote-used, wrote-whole}
use Rattle.drm_sessions.proofs.writing.write_answer.Goals as goal

pub returns-in-Whole : goal.returns-in-Whole
returns-in-Whole g c = wrote-whole c.in-Whole.ensures.writes c.in-Whole.ensures.calls

pub returns-in-Fault : goal.returns-in-Fault
returns-in-Fault g c = wrote-fault c.in-Fault.ensures.writes c.in-Fault.ensures.calls c.in-Fault.ensures.handed

pub returns-in-TurnsUsed : goal.returns-in-TurnsUsed
returns-in-TurnsUsed g c = wrote-used c.in-TurnsUsed.ensures.writes c.in-TurnsUsed.ensures.calls
