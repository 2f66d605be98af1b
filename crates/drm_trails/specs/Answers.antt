-- What an answer shows of handles, by its kind alone (own).
use Rattle.std.specs.Prelude.{ℕ, ◌==◌, Bool, true, false, Option, None, Some, if◌then◌else◌}
use Rattle.drm_table.specs.declared.answers.Answer.{Answer}
use Rattle.drm_table.specs.declared.answers.Answer.TheVariants.{Done, Number, Dumb, Buffer, Closed, Framebuffer}
use Rattle.drm_table.specs.declared.calls.Call.{Call}
use Rattle.drm_table.specs.declared.calls.Call.TheVariants.{GemClose, DestroyDumb}
use Rattle.drm_history.specs.Steps.{Key, Source, Giving, Publishing, giving, publishing}

-- the handle in the answer for a buffer
abbrev pub buffer_in : Answer → Option ℕ
buffer_in (Buffer handle size) = Some handle
buffer_in _ = None

-- the handle in the answer for a dumb buffer
abbrev pub dumb_in : Answer → Option ℕ
dumb_in (Dumb handle pitch size) = Some handle
dumb_in _ = None

-- the handle in the answer for a framebuffer; 0 is no handle
abbrev pub framebuffer_in : Answer → Option ℕ
framebuffer_in (Framebuffer width height pitch bpp handle) = if handle == 0 then None else Some handle
framebuffer_in _ = None

-- the number in an answer
abbrev pub number_in : Answer → Option ℕ
number_in (Number value) = Some value
number_in _ = None

-- whether a call was done
abbrev pub is_done : Answer → Bool
is_done Done = true
is_done _ = false

-- whether a client was closed
abbrev pub is_closed : Answer → Bool
is_closed Closed = true
is_closed _ = false

-- the handle that is assigned to a client, if there is one
abbrev pub given_from : ℕ → Option ℕ → Source → Option Giving
given_from c None source = None
given_from c (Some handle) source = giving c handle source

-- what a client publishes by its handle under the key, if there is one
abbrev pub published_under : Option Key → ℕ → ℕ → Option Publishing
published_under None c handle = None
published_under (Some key) c handle = publishing key c handle

-- the handle that a call closes if it is done
abbrev pub closed_by : Call → Option ℕ
closed_by (GemClose handle) = Some handle
closed_by (DestroyDumb handle) = Some handle
closed_by _ = None
