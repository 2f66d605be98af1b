-- The rows after an accepted event, and the rows that are then removed (drm-uapi, drm-mm, drm(7), drm-gem(7)).
use Rattle.std.specs.Prelude.{ℕ, ◌+◌, ◌==◌, Bool, ◌&&◌, ◌||◌, Option, None, Some, filter}
use Rattle.std.specs.List.{list_any}
use Rattle.std.specs.Option.{is_some}
use Rattle.drm_table.specs.declared.events.Event.{Event}
use Rattle.drm_table.specs.declared.events.Event.TheVariants.{Open, Ask, Close}
use Rattle.drm_table.specs.declared.rules.Rule.{Rule}
use Rattle.drm_model.specs.Rows.{Rows, MasterRow, is_option, is_framebuffer}
use Rattle.drm_model.specs.Masters.{is_under}
use Rattle.drm_model.specs.Verdict.{verdict}
use Rattle.drm_model.specs.Calls.{meaning}
use Rattle.drm_model.specs.Clients.{opened, closed}

-- what an accepted event does
unfoldable pub changed : Rows → Event → Rows
changed w (Open opening) = opened w opening
changed w (Ask c call) = (meaning w c call).rows
changed w (Close c) = closed w c

-- whether a handle, a token or a framebuffer refers to the object (drm-gem(7); tokens and framebuffers are no handles: own)
abbrev pub is_referred : Rows → ℕ → Bool
is_referred w o =
    list_any (λ row. row.object == o) w.holds || list_any (λ row. row.object == o) w.tokens || list_any
    (λ row. row.object == o) w.framebuffers

-- whether a client names the master or its lease token is open
abbrev pub is_held : Rows → MasterRow → Bool
is_held w row = is_some row.lease_token || list_any (λ client. is_option row.master client.master) w.clients

-- whether the master or one below it is held
abbrev pub is_living : Rows → ℕ → Bool
is_living w m = list_any (λ row. is_held w row && is_under w.masters m row.master) w.masters

-- A name is removed with the last handle of its object, a shown row with its framebuffer (drm-gem(7), drm-uapi). An
-- object is freed with its last reference, a master with the last one that is held below it (drm(7)).
unfoldable pub swept : Rows → Rows
swept w = record w {
  shown = filter (λ row. is_framebuffer w row.framebuffer) w.shown;
  names = filter (λ row. list_any (λ hold. hold.object == row.object) w.holds) w.names;
  objects = filter (λ row. is_referred w row.object) w.objects;
  masters = filter (λ row. is_living w row.master) w.masters;
}

-- one more step is recorded
abbrev pub journaled : Rows → Rows
journaled w = record w { steps = w.steps + 1 }

-- a denial changes no row
abbrev pub after_verdict : Option Rule → Rows → Event → Rows
after_verdict (Some rule) w event = journaled w
after_verdict None w event = journaled (swept (changed w event))

-- the rows after a step
unfoldable pub after : Rows → Event → Rows
after w event = after_verdict (verdict w event) w event
