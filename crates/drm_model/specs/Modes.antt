-- MODE_GETRESOURCES, GETCRTC, SETCRTC, GETENCODER, GETCONNECTOR, GETFB, ADDFB, RMFB, GETPLANERESOURCES, GETPLANE and
-- SETPLANE (drm-uapi, kernel mode setting). The ranges of sizes, the limits, and that one connector is named at most
-- are this project's own. The flags of a call's row, as that SETCRTC and SETPLANE need a current master, are tested
-- before the checks here (`Permit`).
use Rattle.std.specs.Prelude.{ℕ, ◌+◌, ◌*◌, ◌==◌, nat_le, Bool, not, ◌&&◌, ◌||◌, List, [], ◌∷◌, ◌++◌, Option, None, Some, unwrap_or, find, map, if◌then◌else◌}
use Rattle.std.specs.Option.{is_some, option_map}
use Rattle.drm_index_array.specs.Numbers.{is_among}
use Rattle.drm_index_array.specs.Least.{least}
use Rattle.drm_table.specs.declared.answers.Answer.{Answer}
use Rattle.drm_table.specs.declared.answers.Answer.TheVariants.{Done, Number, Resources, List as ListIs, Plane, Framebuffer}
use Rattle.drm_table.specs.declared.rules.Rule.TheVariants.{NoHandle, NoModeObject, NoFb, BadSize, BadRoute, Full}
use Rattle.drm_table.specs.Permit.{check}
use Rattle.drm_modes.specs.declared.rows.Shape.{Shape}
use Rattle.drm_modes.specs.Topology.{encoder_ids, is_encoder, object_count, is_route, is_plane_route, encoder_of}
use Rattle.drm_modes.specs.Modes.{first_framebuffer}
use Rattle.drm_model.specs.Rows.{Rows, FramebufferRow, ShownRow, without, has_handle, object_of, free_handle, with_handle_row, framebuffer_row, is_framebuffer}
use Rattle.drm_model.specs.Masters.{credentials_of}
use Rattle.drm_model.specs.Meaning.{Meaning, nothing}
use Rattle.drm_model.specs.Buffers.{is_dumb_shape, bytes_per_pixel, new_handle}
use Rattle.drm_model.specs.Sharing.{size_of}
use Rattle.drm_model.specs.Sees.{sees_crtc, sees_plane, sees_connector, visible_crtcs, visible_planes, visible_connectors, own_framebuffers, visible_mask}

-- ---- what there is

-- MODE_GETRESOURCES: the CRTCs and connectors that the caller sees, all encoders, and its own framebuffers
abbrev pub get_resources : Rows → ℕ → Meaning
get_resources w c =
    record (nothing w)
    { answer = Resources (visible_crtcs w c) (visible_connectors w c) (encoder_ids w.topology) (own_framebuffers w c) }

-- MODE_GETPLANERESOURCES: the planes that the caller sees
abbrev pub get_plane_resources : Rows → ℕ → Meaning
get_plane_resources w c = record (nothing w) { answer = ListIs (visible_planes w c) }

-- MODE_GETENCODER: its possible CRTCs
abbrev pub get_encoder : Rows → ℕ → ℕ → Meaning
get_encoder w c encoder = record (nothing w) {
  checks = check NoModeObject (is_encoder w.topology encoder) ∷ [];
  answer = Number (visible_mask w c encoder);
}

-- MODE_GETCONNECTOR: its encoder
abbrev pub get_connector : Rows → ℕ → ℕ → Meaning
get_connector w c connector = record (nothing w) {
  checks = check NoModeObject (sees_connector w c connector) ∷ [];
  answer = Number (unwrap_or (encoder_of w.topology connector) 0);
}

-- ---- what is shown

-- the framebuffer that a CRTC or a plane shows; 0 if it is dark
abbrev pub shown_by : Rows → ℕ → ℕ
shown_by w x =
    unwrap_or (option_map (λ (row : ShownRow). row.framebuffer) (find (λ (row : ShownRow). row.engine == x) w.shown)) 0

-- it shows the framebuffer now, and is dark where that is 0
abbrev pub with_shown : Rows → ℕ → ℕ → List ShownRow
with_shown w x f =
    without (λ (row : ShownRow). row.engine == x) w.shown ++
    (if f == 0 then [] else record { engine = x; framebuffer = f } ∷ [])

-- 0 for none, or a framebuffer of any client
abbrev pub is_framebuffer_or_none : Rows → ℕ → Bool
is_framebuffer_or_none w f = (f == 0) || is_framebuffer w f

-- MODE_GETCRTC: what it shows
abbrev pub get_crtc : Rows → ℕ → ℕ → Meaning
get_crtc w c crtc = record (nothing w) {
  checks = check NoModeObject (sees_crtc w c crtc) ∷ [];
  answer = Number (shown_by w crtc);
}

-- MODE_SETCRTC: the CRTC shows the framebuffer, or becomes dark. BadRoute: the connector reaches the CRTC, or there is
-- neither connector nor framebuffer. The connector is checked and not kept
abbrev pub set_crtc : Rows → ℕ → ℕ → ℕ → ℕ → Meaning
set_crtc w c crtc f connector = record (nothing w) {
  checks =
      check NoModeObject (sees_crtc w c crtc && ((connector == 0) || sees_connector w c connector))
      ∷ check NoFb (is_framebuffer_or_none w f)
      ∷ check BadRoute (is_route w.topology crtc f connector)
      ∷ [];
  rows = record w { shown = with_shown w crtc f };
}

-- MODE_GETPLANE: what it shows, and its possible CRTCs
abbrev pub get_plane : Rows → ℕ → ℕ → Meaning
get_plane w c plane = record (nothing w) {
  checks = check NoModeObject (sees_plane w c plane) ∷ [];
  answer = Plane (shown_by w plane) (visible_mask w c plane);
}

-- MODE_SETPLANE: the plane shows the framebuffer on a CRTC, or becomes dark, whichever CRTC is named then. BadRoute:
-- the CRTC is one of the plane's possible CRTCs, or there is no framebuffer
abbrev pub set_plane : Rows → ℕ → ℕ → ℕ → ℕ → Meaning
set_plane w c plane crtc f = record (nothing w) {
  checks =
      check NoModeObject (sees_plane w c plane && ((f == 0) || sees_crtc w c crtc))
      ∷ check NoFb (is_framebuffer_or_none w f)
      ∷ check BadRoute (is_plane_route w.topology plane crtc f)
      ∷ [];
  rows = record w { shown = with_shown w plane f };
}

-- ---- framebuffers

-- a current caller and a root one get a handle, others none
abbrev pub gives_handle : Rows → ℕ → Bool
gives_handle w c = (credentials_of w c).current || (credentials_of w c).root

-- the object of a framebuffer; 0 if it is not there
abbrev pub framebuffer_object : Rows → ℕ → ℕ
framebuffer_object w f = unwrap_or (option_map (λ (row : FramebufferRow). row.object) (framebuffer_row w f)) 0

-- the shape of the framebuffer, which the rule says is there, and a handle
abbrev pub framebuffer_answer : ℕ → Option FramebufferRow → Answer
framebuffer_answer handle (Some row) = Framebuffer row.width row.height row.pitch row.bpp handle
framebuffer_answer handle None = Done

-- MODE_GETFB: of any client's framebuffer, with a fresh handle of its object, or 0
abbrev pub get_fb : Rows → ℕ → ℕ → Meaning
get_fb w c f = record {
  checks = check NoFb (is_framebuffer w f) ∷ check Full (not (gives_handle w c) || is_some (free_handle w c)) ∷ [];
  rows = record w { holds = if gives_handle w c then with_handle_row w c (framebuffer_object w f) None else w.holds };
  answer = framebuffer_answer (if gives_handle w c then new_handle w c else 0) (framebuffer_row w f);
}

-- whether a line has room for its pixels, and the object for the lines
abbrev pub fits_object : ℕ → ℕ → ℕ → ℕ → ℕ → Bool
fits_object width height pitch bpp size = nat_le (width * bytes_per_pixel bpp) pitch && nat_le (pitch * height) size

-- whether no framebuffer has the id
abbrev pub is_free_framebuffer : Rows → ℕ → Bool
is_free_framebuffer w f = not (is_among (map (λ (row : FramebufferRow). row.framebuffer) w.framebuffers) f)

-- the lowest free id above those of the fixed objects (the kernel's IDR returns the lowest)
abbrev pub free_framebuffer : Rows → Option ℕ
free_framebuffer w =
    least (is_free_framebuffer w) (first_framebuffer w.topology) (object_count w.topology + w.limits.framebuffers)

-- the id of a new framebuffer; 0 if none is free
abbrev pub new_framebuffer : Rows → ℕ
new_framebuffer w = unwrap_or (free_framebuffer w) 0

-- the framebuffer of this shape that a client makes over an object
abbrev pub framebuffer_over : Rows → ℕ → ℕ → Shape → FramebufferRow
framebuffer_over w c o shape = record {
  framebuffer = new_framebuffer w;
  client = c;
  object = o;
  width = shape.width;
  height = shape.height;
  pitch = shape.pitch;
  bpp = shape.bpp;
}

-- MODE_ADDFB: a framebuffer of the caller, over the object of its handle
abbrev pub add_fb : Rows → ℕ → Shape → ℕ → Meaning
add_fb w c shape handle = record {
  checks =
      check NoHandle (has_handle w c handle)
      ∷ check BadSize
      (is_dumb_shape shape.width shape.height shape.bpp && fits_object shape.width shape.height shape.pitch shape.bpp (size_of w (object_of w c handle)))
      ∷ check Full (is_some (free_framebuffer w))
      ∷ [];
  rows = record w { framebuffers = w.framebuffers ++ framebuffer_over w c (object_of w c handle) shape ∷ [] };
  answer = Number (new_framebuffer w);
}

-- a framebuffer of the client
abbrev pub is_framebuffer_of : ℕ → ℕ → FramebufferRow → Bool
is_framebuffer_of c f row = (row.client == c) && (row.framebuffer == f)

-- MODE_RMFB: by its owner alone. What shows it becomes dark with the sweep
abbrev pub rm_fb : Rows → ℕ → ℕ → Meaning
rm_fb w c f = record (nothing w) {
  checks = check NoFb (is_some (find (is_framebuffer_of c f) w.framebuffers)) ∷ [];
  rows = record w { framebuffers = without (is_framebuffer_of c f) w.framebuffers };
}
