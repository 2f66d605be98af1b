-- The listing of a device's rows (own).
use Rattle.std.specs.Prelude.{◌≡◌, ℕ, ◌+◌, ◌<◌, ◌≤◌, List, [], ◌++◌, Option, None, Some, length}
use Rattle.std.specs.List.{flat_map}
use Rattle.drm_table.specs.declared.audits.AuditKind.{AuditKind}
use Rattle.drm_table.specs.Audits.{kinds}
use Rattle.drm_model.specs.Rows.{Rows}
use Rattle.drm_model.specs.Audit.{audit_rows, rising_rows}
use Rattle.drm_frames.specs.Streams.{SinkTrace}
use Rattle.drm_frames.specs.Turns.{Took}
use Rattle.drm_script.specs.Lines.{audit_line}
use Rattle.drm_commands.specs.declared.faults.Fault.{Fault}
use Rattle.drm_commands.specs.declared.faults.Fault.TheVariants as faults
use Rattle.drm_server.specs.declared.listing.ListEnd.{ListEnd}
use Rattle.drm_server.specs.declared.listing.ListEnd.TheVariants as ends

-- a line for each row of a kind, in the order of the rows' numbers
abbrev pub kind_text : Rows → AuditKind → List ℕ
kind_text w kind = flat_map (audit_line kind) (rising_rows (audit_rows w kind))

-- the lines of all kinds, rising by number
unfoldable pub audit_text : Rows → List ℕ
audit_text w = flat_map (kind_text w) kinds

-- the reason a listing ended, by the text that was not written and the sink's trace
abbrev pub EndCondition : ListEnd → List ℕ → SinkTrace → SinkTrace → ℕ → Type 0
EndCondition ends.Done later old new turns = later ≡ []
EndCondition ends.WriteFault later old new turns = (0 < length later) × (old.counts.faults < new.counts.faults)
EndCondition ends.TurnsUsed later old new turns = (0 < length later) × (new.counts.calls ≡ old.counts.calls + turns)

-- A listing: it wrote a front of the whole text, with its cost and the reason it ended.
pub record Lists (w : Rows) (old new : SinkTrace) (turns : ℕ) (end : ListEnd) : Type 0 where
  pub written : List ℕ
  pub later : List ℕ
  pub parts : audit_text w ≡ written ++ later
  pub took : Took old new written
  pub turns_at_most : new.counts.calls ≤ old.counts.calls + turns
  pub end_condition : EndCondition end later old new turns

-- the fault that the end of a listing is, if it is one
abbrev pub fault_of_listing : ListEnd → Option Fault
fault_of_listing ends.Done = None
fault_of_listing ends.WriteFault = Some faults.Write
fault_of_listing ends.TurnsUsed = Some faults.Turns
