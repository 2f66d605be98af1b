-- The answers of a device (drm-uapi; the form is own).
use Rattle.std.specs.Prelude.{Option, None, Some}
use Rattle.drm_table.specs.declared.answers.Answer.{Answer}
use Rattle.drm_table.specs.declared.answers.Answer.TheVariants.{Opened, Closed, Denied}
use Rattle.drm_table.specs.declared.events.Event.{Event}
use Rattle.drm_table.specs.declared.events.Event.TheVariants.{Open, Ask, Close}
use Rattle.drm_table.specs.declared.rules.Rule.{Rule}
use Rattle.drm_model.specs.Rows.{Rows, step_number}
use Rattle.drm_model.specs.Verdict.{verdict}
use Rattle.drm_model.specs.Calls.{meaning}

-- the answer to an accepted event
unfoldable pub answer_of : Rows → Event → Answer
answer_of w (Open opening) = Opened (step_number w)
answer_of w (Ask c call) = (meaning w c call).answer
answer_of w (Close c) = Closed

-- a denial names the first rule that fails
abbrev pub reply_by : Option Rule → Rows → Event → Answer
reply_by (Some rule) w event = Denied rule
reply_by None w event = answer_of w event

-- the answer to an event
unfoldable pub reply : Rows → Event → Answer
reply w event = reply_by (verdict w event) w event
