use Rattle.drm_runs.proofs.LineStepLemmas.{reads_line, reads_last, reads_too_long, reads_fault, reads_no_turn}
use Rattle.drm_runs.proofs.script_lines.ScriptLines.read_next.Goals as goal

pub returns-in-Line : goal.returns-in-Line
returns-in-Line g c = let r = c.in-Line.ensures in rw (← c.self.view_is) (reads_line _ _ _ _ c.if-self.false r.1)

pub returns-in-End : goal.returns-in-End
returns-in-End g c = let r = c.in-End.ensures in rw (← c.self.view_is) (reads_last _ _ _ _ c.if-self.false r.1 _ _ c.hold_last.ensures)

pub returns-in-TooLong : goal.returns-in-TooLong
returns-in-TooLong g c = let r = c.in-TooLong.ensures in rw (← c.self.view_is) (reads_too_long _ _ _ _ c.if-self.false _ c.malformed.ensures r.1)

pub returns-in-ReadFault : goal.returns-in-ReadFault
returns-in-ReadFault g c = let r = c.in-ReadFault.ensures in rw (← c.self.view_is) (reads_fault _ _ _ _ c.if-self.false _ c.of-in-ReadFault.ensures r.1)

pub returns-in-TurnsUsed : goal.returns-in-TurnsUsed
returns-in-TurnsUsed g c = let r = c.in-TurnsUsed.ensures in rw (← c.self.view_is) (reads_no_turn _ _ _ _ c.if-self.false _ c.of-in-TurnsUsed.ensures r.1)
