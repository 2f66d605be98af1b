-- The last step of a history that assigned a handle, or that published under a key (own).
use Rattle.std.specs.Prelude.{◌≡◌, ℕ, ◌+◌, ◌<◌, ◌==◌, nat_lt, Bool, true, false, ◌&&◌, List, [], ◌∷◌, Option, None, Some, if◌then◌else◌, find, length, reverse, take, IfSome}
use Rattle.std.specs.List.{AllByRecursion}
use Rattle.std.specs.Option.{option_map}
use Rattle.drm_table.specs.declared.events.Event.{Event}
use Rattle.drm_table.specs.declared.events.Event.TheVariants.{Open, Ask, Close}
use Rattle.drm_index_array.specs.Orders.{InOrder}
use Rattle.drm_history.specs.History.{AnsweredEvent}
use Rattle.drm_history.specs.Steps.{Key, is_key, Source, Giving, Publishing, given, takes, published}
use Rattle.drm_trails.specs.Answers.{closed_by}
use Rattle.drm_trails.specs.Steps.{history_of, key_of, source_of}
use Rattle.drm_trails.specs.declared.steps.Step.{Step}
use Rattle.drm_trails.specs.declared.steps.Publishing.{Publishing as PublishedHandle}
use Rattle.drm_trails.specs.declared.searches.LastGiving.{LastGiving}
use Rattle.drm_trails.specs.declared.searches.Publication.{Publication}
use Rattle.drm_trails.specs.declared.searches.Touch.{Touch}
use Rattle.drm_trails.specs.declared.searches.LastPublishing.{LastPublishing}

-- the source of the object, if the assigned handle is this one
abbrev pub source_for : ℕ → ℕ → Option Giving → Option Source
source_for c h None = None
source_for c h (Some g) = if (g.client == c) && (g.handle == h) then Some g.source else None

-- the source of a handle's object, and the history before the step that assigned it
pub record Gift : Type 0 where
  pub source : Source
  pub past : List AnsweredEvent

-- the gift of a step, by its source, whether it takes the handle, and the older gift
abbrev pub gift_or : Option Source → Bool → List AnsweredEvent → Option Gift → Option Gift
gift_or (Some source) taken past older = Some (record { source = source; past = past })
gift_or None true past older = None
gift_or None false past older = older

-- the last step that assigned the handle to the client, if no later one took it
unfoldable pub last_gift : List AnsweredEvent → ℕ → ℕ → Option Gift
last_gift [] c h = None
last_gift (step ∷ past) c h = gift_or (source_for c h (given step)) (takes step c h) past (last_gift past c h)

-- the gift of the definitions
abbrev pub gift_at : List Step → LastGiving → Gift
gift_at steps g = record { source = source_of g.source; past = history_of (take g.past steps) }

-- the gift of the definitions, if there is one
abbrev pub gifts_at : List Step → Option LastGiving → Option Gift
gifts_at steps found = option_map (gift_at steps) found

-- a client's handle whose object a step published, and the history before that step
pub record Sharing : Type 0 where
  pub client : ℕ
  pub handle : ℕ
  pub past : List AnsweredEvent

-- the sharing of a step under the key, or else the older one
abbrev pub sharing_or : Key → Option Publishing → List AnsweredEvent → Option Sharing → Option Sharing
sharing_or key None past older = older
sharing_or key (Some p) past older =
    if is_key p.key key then Some (record { client = p.client; handle = p.handle; past = past }) else older

-- the last step that published under the key
unfoldable pub last_sharing : List AnsweredEvent → Key → Option Sharing
last_sharing [] key = None
last_sharing (step ∷ past) key = sharing_or key (published step) past (last_sharing past key)

-- the sharing of the definitions
abbrev pub sharing_at : List Step → LastPublishing → Sharing
sharing_at steps p = record { client = p.client; handle = p.handle; past = history_of (take p.past steps) }

-- the sharing of the definitions, if there is one
abbrev pub sharings_at : List Step → Option LastPublishing → Option Sharing
sharings_at steps found = option_map (sharing_at steps) found

-- ---- entries of handles that were assigned or taken

-- the entry of a client's handle, if there is one
abbrev pub touch_by : ℕ → ℕ → Option ℕ → Option Touch
touch_by past c None = None
touch_by past c (Some handle) = Some (record { past = past; client = c; handle = Some handle })

-- the entry of a call: the handle that it assigns, or else the one that it closes if it is done
abbrev pub touched_by : ℕ → Option Giving → ℕ → Option ℕ → Option Touch
touched_by past (Some g) c closed = Some (record { past = past; client = g.client; handle = Some g.handle })
touched_by past None c closed = touch_by past c closed

-- the entry of an event
abbrev pub touch_in_event : ℕ → Option Giving → Event → Option Touch
touch_in_event past given (Open opening) = None
touch_in_event past given (Ask c call) = touched_by past given c (closed_by call)
touch_in_event past given (Close c) = Some (record { past = past; client = c; handle = None })

-- the entry of a step after `past` others
abbrev pub touch_in_step : ℕ → AnsweredEvent → Option Touch
touch_in_step past step = touch_in_event past (given step) step.event

-- an entry without a handle is for all handles of the client
abbrev pub is_own : ℕ → Option ℕ → Bool
is_own h None = true
is_own h (Some own) = own == h

-- whether an entry is for the client's handle
abbrev pub concerns : ℕ → ℕ → Touch → Bool
concerns c h t = (t.client == c) && is_own h t.handle

-- whether an entry is for a step before this moment that touched the client's handle
abbrev pub is_touch_before : ℕ → ℕ → ℕ → Touch → Bool
is_touch_before moment c h t = nat_lt t.past moment && concerns c h t

-- the newest of them
abbrev pub touch_in : List Touch → ℕ → ℕ → ℕ → Option Touch
touch_in notes moment c h = find (is_touch_before moment c h) (reverse notes)

-- the gift of the handle by the newest entry, if there is an entry
abbrev pub gift_behind : List Step → ℕ → ℕ → Option Touch → Option Gift
gift_behind steps c h None = None
gift_behind steps c h (Some t) = last_gift (history_of (take (t.past + 1) steps)) c h

-- each is of a later step than those before it
abbrev pub TouchesRise : List Touch → Type 0
TouchesRise notes = InOrder (λ (x y : Touch). x.past < y.past) notes

-- each entry is for one of these steps, and no step after the newest entry of a handle assigned or took it
pub record AreTouched (steps : List Step) (notes : List Touch) : Type 0 where
  pub rise : TouchesRise notes
  pub among : AllByRecursion (λ (t : Touch). t.past < length steps) notes
  pub within : (moment c h : ℕ) → IfSome (touch_in notes moment c h) (λ t. t.past < length steps)
  pub told : (moment c h : ℕ)
      → last_gift (history_of (take moment steps)) c h ≡ gift_behind steps c h (touch_in notes moment c h)

-- ---- entries of publications

-- the entry of a step after `past` others
abbrev pub publications_of : Option PublishedHandle → ℕ → Option Publication
publications_of published past =
    option_map (λ (p : PublishedHandle). record { past = past; key = p.key; client = p.client; handle = p.handle })
    published

-- whether an entry is for a step before this moment that published under the key
abbrev pub is_before : ℕ → Key → Publication → Bool
is_before moment key p = nat_lt p.past moment && is_key (key_of p.key) key

-- the newest of them
abbrev pub publication_in : List Publication → ℕ → Key → Option Publication
publication_in notes moment key = find (is_before moment key) (reverse notes)

-- the sharing of an entry
abbrev pub sharing_by : List Step → Publication → Sharing
sharing_by steps p = record { client = p.client; handle = p.handle; past = history_of (take p.past steps) }

-- each is of a later step than those before it
abbrev pub PublicationsRise : List Publication → Type 0
PublicationsRise notes = InOrder (λ (x y : Publication). x.past < y.past) notes

-- each entry is for one of these steps, and they have the last step that published under each key at each moment
pub record AreNoted (steps : List Step) (notes : List Publication) : Type 0 where
  pub rise : PublicationsRise notes
  pub among : AllByRecursion (λ (p : Publication). p.past < length steps) notes
  pub within : (moment : ℕ) (key : Key) → IfSome (publication_in notes moment key) (λ p. p.past < length steps)
  pub told : (moment : ℕ) (key : Key)
      → option_map (sharing_by steps) (publication_in notes moment key) ≡ last_sharing (history_of (take moment steps)) key
