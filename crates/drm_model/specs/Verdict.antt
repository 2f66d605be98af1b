-- The first rule that fails, or none: what every call is tested for, and the call's own rules after it. The order of the
-- first three is this project's own, that of the row's flags is drm_ioctl_permit's.
use Rattle.std.specs.Prelude.{ℕ, Bool, true, false, List, [], ◌∷◌, ◌++◌, Option}
use Rattle.drm_table.specs.declared.calls.Call.{Call}
use Rattle.drm_table.specs.declared.calls.Call.TheVariants.{Unknown as UnknownCall, BadLayout}
use Rattle.drm_table.specs.declared.events.Event.{Event}
use Rattle.drm_table.specs.declared.events.Event.TheVariants.{Open, Ask, Close}
use Rattle.drm_table.specs.declared.rules.Rule.{Rule}
use Rattle.drm_table.specs.declared.rules.Rule.TheVariants.{Unknown, Layout, NoClient}
use Rattle.drm_table.specs.Permit.{Check, check, first_failing, permit_checks}
use Rattle.drm_table.specs.Table.{flags_of}
use Rattle.drm_model.specs.Rows.{Rows, is_open}
use Rattle.drm_model.specs.Masters.{credentials_of}
use Rattle.drm_model.specs.Calls.{meaning}
use Rattle.drm_model.specs.Clients.{opening_checks}

-- whether a row has the number
abbrev pub is_known : Call → Bool
is_known (UnknownCall number) = false
is_known _ = true

-- whether the fields are the row's
abbrev pub is_laid_out : Call → Bool
is_laid_out (BadLayout number) = false
is_laid_out _ = true

-- what is before a call's own rules: it is known and laid out, its client is open, and its row's flags let the client
-- make it
unfoldable pub admission_checks : Rows → ℕ → Call → List Check
admission_checks w c call =
    check Unknown (is_known call)
    ∷ check Layout (is_laid_out call)
    ∷ check NoClient (is_open w c)
    ∷ permit_checks (flags_of call) (credentials_of w c)

-- all that an event is tested for, in order
unfoldable pub checks : Rows → Event → List Check
checks w (Open opening) = opening_checks w opening
checks w (Ask c call) = admission_checks w c call ++ (meaning w c call).checks
checks w (Close c) = check NoClient (is_open w c) ∷ []

-- the first rule that fails, or none
unfoldable pub verdict : Rows → Event → Option Rule
verdict w event = first_failing (checks w event)
