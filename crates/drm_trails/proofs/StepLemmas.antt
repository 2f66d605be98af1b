-- What a step gives, by its call and then by its answer.
use Rattle.std.proofs.Common.{◌≡◌, ℕ, Bool, true, false, ◌==◌, refl, cond, None, Some}
use Rattle.drm_table.specs.declared.answers.Answer.{Answer}
use Rattle.drm_table.specs.declared.answers.Answer.TheVariants.{Dumb, Buffer, Framebuffer as Shape}
use Rattle.drm_table.specs.declared.calls.Call.TheVariants.{BufCreate, CreateDumb, GemOpen, PrimeFdToHandle, GetFb}
use Rattle.drm_table.specs.declared.events.Event.TheVariants.{Ask}
use Rattle.drm_history.specs.Steps.{Creation, Transfer, Name, Token, Framebuffer, Source, giving, given_by}
use Rattle.drm_trails.specs.Answers.{buffer_in, dumb_in, framebuffer_in, given_from}

-- ---- the same for each call that assigns handles: the handle is that of its answer

-- BUF_CREATE gives the handle of its answer by a creation.
pub buffer_given : (c size : ℕ) (answer : Answer)
    → given_by (Ask c (BufCreate size)) answer ≡ given_from c (buffer_in answer) Creation
buffer_given c size (Buffer handle bytes) = refl
buffer_given c size _ = refl

-- CREATE_DUMB gives the handle of its answer by a creation.
pub dumb_given : (c width height bpp : ℕ) (answer : Answer)
    → given_by (Ask c (CreateDumb width height bpp)) answer ≡ given_from c (dumb_in answer) Creation
dumb_given c width height bpp (Dumb handle pitch size) = refl
dumb_given c width height bpp _ = refl

-- GEM_OPEN gives the handle of its answer by a transfer under the name.
pub name_given : (c name : ℕ) (answer : Answer)
    → given_by (Ask c (GemOpen name)) answer ≡ given_from c (buffer_in answer) (Transfer (Name name))
name_given c name (Buffer handle bytes) = refl
name_given c name _ = refl

-- PRIME_FD_TO_HANDLE gives the handle of its answer by a transfer under the token.
pub token_given : (c token : ℕ) (answer : Answer)
    → given_by (Ask c (PrimeFdToHandle token)) answer ≡ given_from c (buffer_in answer) (Transfer (Token token))
token_given c token (Buffer handle bytes) = refl
token_given c token _ = refl

handle_given : (c handle : ℕ) (source : Source) (b : Bool)
    → cond b None (giving c handle source) ≡ given_from c (cond b None (Some handle)) source
handle_given c handle source true = refl
handle_given c handle source false = refl

-- GETFB gives the handle of its answer by a transfer of the framebuffer.
pub framebuffer_given : (c framebuffer : ℕ) (answer : Answer)
    → given_by (Ask c (GetFb framebuffer)) answer ≡ given_from c (framebuffer_in answer) (Transfer (Framebuffer framebuffer))
framebuffer_given c framebuffer (Shape width height pitch bpp handle) =
    handle_given c handle (Transfer (Framebuffer framebuffer)) (handle == 0)
framebuffer_given c framebuffer _ = refl
