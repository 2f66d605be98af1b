-- The three ways in which an opening is answered (own).
use Rattle.std.specs.Prelude.{Ok, Err}
use Rattle.drm_table.specs.declared.answers.Answer.TheVariants.{Opened, Denied}
use Rattle.drm_frames.specs.Answers.{CallResult}
use Rattle.drm_sessions.specs.declared.accepted.Accepted.{Accepted}
use Rattle.drm_sessions.specs.declared.accepted.Accepted.TheVariants as accepted

-- the result of an opening
abbrev pub outcome_of : Accepted → CallResult
outcome_of (accepted.Client client) = Ok (Opened client)
outcome_of (accepted.Denied rule) = Ok (Denied rule)
outcome_of (accepted.Apart apart) = Err apart
