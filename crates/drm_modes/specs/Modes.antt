-- Framebuffers, and what CRTCs and planes show (drm-uapi, mode setting), as flat lists.
use Rattle.std.specs.Prelude.{◌≡◌, ℕ, ◌+◌, ◌-◌, ◌==◌, ◌≤◌, Bool, true, not, ◌&&◌, ◌||◌, nat_lt, if◌then◌else◌, List, [], ◌∷◌, map, filter, length, replicate, slice_get, slice_index_or, slice_set, Option, None, option_map}
use Rattle.std.specs.List.{AllByRecursion, list_any}
use Rattle.drm_index_array.specs.Numbers.{is_among}
use Rattle.drm_index_array.specs.Least.{least}
use Rattle.drm_index_array.specs.Rows.{placed, InOrder}
use Rattle.drm_modes.specs.Topology.{Topology, IsTopology, object_count}
use Rattle.drm_modes.specs.declared.rows.ModeRow.{ModeRow}
use Rattle.drm_modes.specs.declared.rows.ModeRow.TheVariants.{Framebuffer as FramebufferRow, Shown as ShownRow}
use Rattle.drm_modes.specs.declared.rows.Shape.{Shape}
use Rattle.drm_modes.specs.declared.rows.Fb.{Fb}
use Rattle.drm_modes.specs.declared.rows.Framebuffer.{Framebuffer}
use Rattle.drm_modes.specs.declared.rows.Shown.{Shown}

-- The framebuffers rise by their ids, which end at `last`. `scanouts` has what each CRTC and then each plane shows, a
-- framebuffer or 0 if it is dark, so that the first is that of id 1.
pub record ModeSet : Type 0 where
  pub topology : Topology
  pub framebuffers : List Framebuffer
  pub scanouts : List ℕ
  pub last : ℕ

-- how many CRTCs and planes there are, with ids from 1
abbrev pub scanout_count : Topology → ℕ
scanout_count t = t.crtcs + length t.planes

-- ids of framebuffers follow those of the fixed objects
abbrev pub first_framebuffer : Topology → ℕ
first_framebuffer t = object_count t + 1

-- no framebuffer, of this many that there may be; all is dark
abbrev pub empty_modes : Topology → ℕ → ModeSet
empty_modes t framebuffers =
    record
    { topology = t; framebuffers = []; scanouts = replicate (scanout_count t) 0; last = object_count t + framebuffers }

-- whether the row has the id
abbrev pub is_framebuffer : ℕ → Framebuffer → Bool
is_framebuffer f row = row.framebuffer == f

-- whether the client created the row's framebuffer
abbrev pub is_made_by : ℕ → Framebuffer → Bool
is_made_by c row = row.client == c

-- whether the row has the id and the client created it
abbrev pub is_framebuffer_of : ℕ → ℕ → Framebuffer → Bool
is_framebuffer_of c f row = (row.framebuffer == f) && (row.client == c)

-- the ids of a client's framebuffers
abbrev pub framebuffers_of : ModeSet → ℕ → List ℕ
framebuffers_of set c = map (λ (row : Framebuffer). row.framebuffer) (filter (is_made_by c) set.framebuffers)

-- whether one row is before another: the ids rise
abbrev pub framebuffer_before : Framebuffer → Framebuffer → Bool
framebuffer_before x y = nat_lt x.framebuffer y.framebuffer

-- a row with an id, a client, a shape and an object
abbrev pub framebuffer : ℕ → ℕ → Shape → ℕ → Framebuffer
framebuffer f c shape k = record { framebuffer = f; client = c; shape = shape; object = k }

-- a framebuffer without its id
abbrev pub fb_of : Framebuffer → Fb
fb_of row = record { client = row.client; shape = row.shape; object = row.object }

-- whether a framebuffer has the id
abbrev pub has_framebuffer : ModeSet → ℕ → Bool
has_framebuffer set f = list_any (is_framebuffer f) set.framebuffers

-- whether no framebuffer has the id
abbrev pub is_free : ModeSet → ℕ → Bool
is_free set f = not (is_among (map (λ row. row.framebuffer) set.framebuffers) f)

-- the lowest id that no framebuffer has (the kernel's IDR returns the least; the limit is own)
abbrev pub free_framebuffer : ModeSet → Option ℕ
free_framebuffer set = least (is_free set) (first_framebuffer set.topology) set.last

-- the set with a framebuffer more
abbrev pub with_framebuffer : ModeSet → Framebuffer → ModeSet
with_framebuffer set row = record set { framebuffers = placed framebuffer_before row set.framebuffers }

-- what is shown once a framebuffer is removed: 0 in its place
abbrev pub dark_of : ℕ → ℕ → ℕ
dark_of f scanout = if scanout == f then 0 else scanout

-- what shows it becomes dark
abbrev pub without_framebuffer : ModeSet → ℕ → ModeSet
without_framebuffer set f =
    record set
    { framebuffers = filter (λ row. not (is_framebuffer f row)) set.framebuffers; scanouts = map (dark_of f) set.scanouts }

-- what can be shown: a framebuffer, and 0 for none
abbrev pub can_show : ModeSet → ℕ → Bool
can_show set f = (f == 0) || has_framebuffer set f

-- what a CRTC or a plane shows; 0 if it is dark, and of anything else
abbrev pub shown_by : ModeSet → ℕ → ℕ
shown_by set x = if x == 0 then 0 else slice_index_or set.scanouts (x - 1) 0

-- the set with a CRTC or plane that shows the framebuffer
abbrev pub with_shown : ModeSet → ℕ → ℕ → ModeSet
with_shown set x f = record set { scanouts = slice_set set.scanouts (x - 1) f }

-- a row of a CRTC or plane and the framebuffer that it shows
abbrev pub shown : ℕ → ℕ → Shown
shown x f = record { engine = x; framebuffer = f }

-- what shows what, where the first has this id
abbrev pub scanout_rows : ℕ → List ℕ → List Shown
scanout_rows x [] = []
scanout_rows x (f ∷ fs) = shown x f ∷ scanout_rows (x + 1) fs

-- whether the row shows a framebuffer
abbrev pub is_lit : Shown → Bool
is_lit row = not (row.framebuffer == 0)

-- the rows that show a framebuffer, from an id on
abbrev pub lit_rows : ℕ → List ℕ → List Shown
lit_rows x scanouts = filter is_lit (scanout_rows x scanouts)

-- the CRTCs and planes that show something, rising
abbrev pub shown_rows : ModeSet → List Shown
shown_rows set = lit_rows 1 set.scanouts

-- the row at a place of an audit's kind, of which framebuffers are the eighth and what is shown the ninth (own)
abbrev pub nth_row : ModeSet → ℕ → ℕ → Option ModeRow
nth_row set kind i =
    if kind == 8 then option_map FramebufferRow (slice_get set.framebuffers i)
    else if kind == 9 then option_map ShownRow (slice_get (shown_rows set) i)
    else None

-- the framebuffer's id is in the range
pub record IsFramebufferFrom (first last : ℕ) (row : Framebuffer) : Type 0 where
  pub low : first ≤ row.framebuffer
  pub high : row.framebuffer ≤ last

-- what is so at all times: no framebuffer occurs twice, since they rise, and what is shown is there
pub record AreModes (set : ModeSet) : Type 0 where
  pub topology : IsTopology set.topology
  pub last_low : first_framebuffer set.topology ≤ set.last
  pub last_high : set.last ≤ object_count set.topology + 64
  pub framebuffers_rise : InOrder framebuffer_before set.framebuffers
  pub few : length set.framebuffers ≤ 64
  pub framebuffers_are : AllByRecursion (IsFramebufferFrom (first_framebuffer set.topology) set.last) set.framebuffers
  pub each_has_a_scanout : length set.scanouts ≡ scanout_count set.topology
  pub scanouts_are : AllByRecursion (λ f. can_show set f ≡ true) set.scanouts
