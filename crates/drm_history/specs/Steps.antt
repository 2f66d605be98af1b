-- The effect of a step on handles, by its event and answer (drm-gem(7), drm-mm): which it grants and takes, and which
-- object it publishes.
use Rattle.std.specs.Prelude.{ℕ, ◌==◌, Bool, false, ◌&&◌, Option, None, Some, if◌then◌else◌}
use Rattle.std.specs.Option.{option_map_or}
use Rattle.drm_table.specs.declared.answers.Answer.{Answer}
use Rattle.drm_table.specs.declared.answers.Answer.TheVariants.{Done, Number, Dumb, Buffer, Closed, Framebuffer as Shape}
use Rattle.drm_table.specs.declared.calls.Call.TheVariants.{GemClose, GemFlink, GemOpen, PrimeHandleToFd, PrimeFdToHandle, BufCreate, GetFb, AddFb, CreateDumb, DestroyDumb}
use Rattle.drm_table.specs.declared.events.Event.{Event}
use Rattle.drm_table.specs.declared.events.Event.TheVariants.{Ask, Close}
use Rattle.drm_history.specs.History.{AnsweredEvent}

-- under what an object is published: a global name (drm-gem(7)), a PRIME token (drm-mm; tokens are own), a framebuffer (drm-uapi)
pub data Key : Type 0 where
  Name : (number : ℕ) → Key
  Token : (number : ℕ) → Key
  Framebuffer : (number : ℕ) → Key

-- whether two keys are the same
abbrev pub is_key : Key → Key → Bool
is_key (Name m) (Name n) = m == n
is_key (Token m) (Token n) = m == n
is_key (Framebuffer m) (Framebuffer n) = m == n
is_key _ _ = false

-- where the object of a handle is from: the step makes it, or it was published under a key
pub data Source : Type 0 where
  Creation : Source
  Transfer : (key : Key) → Source

-- a client is assigned a handle
pub record Giving : Type 0 where
  pub client : ℕ
  pub handle : ℕ
  pub source : Source

-- a handle that a client is assigned, with its source
abbrev pub giving : ℕ → ℕ → Source → Option Giving
giving c handle source = Some (record { client = c; handle = handle; source = source })

-- a client publishes the object of its handle
pub record Publishing : Type 0 where
  pub key : Key
  pub client : ℕ
  pub handle : ℕ

-- what a client publishes by a handle under a key
abbrev pub publishing : Key → ℕ → ℕ → Option Publishing
publishing key c handle = Some (record { key = key; client = c; handle = handle })

-- MODE_GETFB answers 0 if it returns no handle
abbrev pub given_by : Event → Answer → Option Giving
given_by (Ask c (BufCreate size)) (Buffer handle bytes) = giving c handle Creation
given_by (Ask c (CreateDumb width height bpp)) (Dumb handle pitch size) = giving c handle Creation
given_by (Ask c (GemOpen name)) (Buffer handle size) = giving c handle (Transfer (Name name))
given_by (Ask c (PrimeFdToHandle token)) (Buffer handle size) = giving c handle (Transfer (Token token))
given_by (Ask c (GetFb framebuffer)) (Shape width height pitch bpp handle) = if handle == 0 then None else giving c handle (Transfer (Framebuffer framebuffer))
given_by event answer = None

-- the handle that a step grants
unfoldable pub given : AnsweredEvent → Option Giving
given step = given_by step.event step.answer

-- a closing takes all handles of its client
abbrev pub taken_by : Event → Answer → ℕ → ℕ → Bool
taken_by (Ask caller (GemClose handle)) Done c h = (caller == c) && (handle == h)
taken_by (Ask caller (DestroyDumb handle)) Done c h = (caller == c) && (handle == h)
taken_by (Close client) Closed c h = client == c
taken_by event answer c h = false

-- whether a step takes the client's handle
unfoldable pub takes : AnsweredEvent → ℕ → ℕ → Bool
takes step c h = taken_by step.event step.answer c h

-- what a step publishes, by its event and answer
abbrev pub published_by : Event → Answer → Option Publishing
published_by (Ask c (GemFlink handle)) (Number name) = publishing (Name name) c handle
published_by (Ask c (PrimeHandleToFd handle)) (Number token) = publishing (Token token) c handle
published_by (Ask c (AddFb width height pitch bpp handle)) (Number framebuffer) =
    publishing (Framebuffer framebuffer) c handle
published_by event answer = None

-- what a step publishes
unfoldable pub published : AnsweredEvent → Option Publishing
published step = published_by step.event step.answer

-- whether a step publishes under the key
abbrev pub publishes : AnsweredEvent → Key → Bool
publishes step key = option_map_or (λ (p : Publishing). is_key p.key key) (published step) false
