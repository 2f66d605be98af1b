-- The fixed mode objects (drm-uapi, mode setting): CRTCs, planes, encoders and connectors, with ids from 1 in that order.
use Rattle.std.specs.Prelude.{◌≡◌, ℕ, ◌+◌, ◌-◌, ◌*◌, ◌^◌, ◌≤◌, ◌==◌, Bool, true, false, ◌&&◌, nat_le, nat_lt, if◌then◌else◌, List, [], ◌∷◌, length, filter, slice_get, slice_index_or, Option, None, Some, is_some, not, ◌||◌}
use Rattle.std.specs.Option.{option_map_or, option_and_then}
use Rattle.std.specs.List.{list_all, AllByRecursion}
use Rattle.drm_index_array.specs.Rows.{InOrder}
use Rattle.drm_index_array.specs.Numbers.{is_among}
use Rattle.drm_modes.specs.Numbers.{numbers_from}
use Rattle.drm_modes.specs.declared.kinds.Kind.{Kind}
use Rattle.drm_modes.specs.declared.kinds.Kind.TheVariants.{Crtc, Plane, Encoder, Connector}
use Rattle.drm_modes.specs.declared.kinds.PlaneKind.{PlaneKind}
use Rattle.drm_modes.specs.PlaneKinds.{is_possible, crtc_of_kind, are_kinds}

-- The number of CRTCs. For each plane and encoder, the mask of possible CRTCs, whose bit i is CRTC i + 1. For each
-- plane, its kind. For each connector, its encoder.
pub record Topology : Type 0 where
  pub crtcs : ℕ
  pub planes : List ℕ
  pub kinds : List PlaneKind
  pub encoders : List ℕ
  pub connectors : List ℕ

-- the id of the first plane
abbrev pub first_plane : Topology → ℕ
first_plane t = t.crtcs + 1

-- the id of the first encoder
abbrev pub first_encoder : Topology → ℕ
first_encoder t = first_plane t + length t.planes

-- the id of the first connector
abbrev pub first_connector : Topology → ℕ
first_connector t = first_encoder t + length t.encoders

-- the ids of the CRTCs
abbrev pub crtc_ids : Topology → List ℕ
crtc_ids t = numbers_from 1 t.crtcs

-- the ids of the planes
abbrev pub plane_ids : Topology → List ℕ
plane_ids t = numbers_from (first_plane t) (length t.planes)

-- the ids of the encoders
abbrev pub encoder_ids : Topology → List ℕ
encoder_ids t = numbers_from (first_encoder t) (length t.encoders)

-- the ids of the connectors
abbrev pub connector_ids : Topology → List ℕ
connector_ids t = numbers_from (first_connector t) (length t.connectors)

-- whether an id is a CRTC's
abbrev pub is_crtc : Topology → ℕ → Bool
is_crtc t x = is_among (crtc_ids t) x

-- whether an id is a plane's
abbrev pub is_plane : Topology → ℕ → Bool
is_plane t x = is_among (plane_ids t) x

-- whether an id is an encoder's
abbrev pub is_encoder : Topology → ℕ → Bool
is_encoder t x = is_among (encoder_ids t) x

-- whether an id is a connector's
abbrev pub is_connector : Topology → ℕ → Bool
is_connector t x = is_among (connector_ids t) x

-- what a mode object is, if it is one
abbrev pub kind_of : Topology → ℕ → Option Kind
kind_of t x =
    if is_crtc t x then Some Crtc else if is_plane t x then Some Plane else if is_encoder t x then Some Encoder else if
    is_connector t x then Some Connector else None

-- whether an id is that of an object of the kind
abbrev pub is_of_kind : Topology → Kind → ℕ → Bool
is_of_kind t Crtc x = is_crtc t x
is_of_kind t Plane x = is_plane t x
is_of_kind t Encoder x = is_encoder t x
is_of_kind t Connector x = is_connector t x

-- the ids of the objects of a kind, rising
abbrev pub ids_of_kind : Topology → Kind → List ℕ
ids_of_kind t Crtc = crtc_ids t
ids_of_kind t Plane = plane_ids t
ids_of_kind t Encoder = encoder_ids t
ids_of_kind t Connector = connector_ids t

-- how many fixed objects there are
abbrev pub object_count : Topology → ℕ
object_count t = t.crtcs + length t.planes + length t.encoders + length t.connectors

-- whether a mask names CRTCs that exist, and no others
abbrev pub is_mask : Topology → ℕ → Bool
is_mask t mask = nat_lt mask (2 ^ t.crtcs)

-- 1 to 8 CRTCs and at most 64 objects (own); each mask and each encoder names what exists
unfoldable pub are_objects : Topology → Bool
are_objects t =
    nat_le 1 t.crtcs
    && nat_le t.crtcs 8
    && nat_le (object_count t) 64
    && list_all (is_mask t) t.planes
    && list_all (is_mask t) t.encoders
    && list_all (is_encoder t) t.connectors

-- and each plane is for something that fits it (drm-uapi, universal planes)
abbrev pub is_topology : Topology → Bool
is_topology t = are_objects t && are_kinds t.crtcs t.kinds t.planes

-- what is so of each topology
pub record IsTopology (t : Topology) : Type 0 where
  pub is : is_topology t ≡ true
  pub one_kind_each : length t.kinds ≡ length t.planes
  pub some : 1 ≤ t.crtcs
  pub few_crtcs : t.crtcs ≤ 8
  pub few : object_count t ≤ 64

-- the mask of a plane or an encoder, whose bit i is CRTC i + 1; 0 of anything else
abbrev pub possible_crtcs : Topology → ℕ → ℕ
possible_crtcs t x =
    if is_plane t x then slice_index_or t.planes (x - first_plane t) 0
    else if is_encoder t x then slice_index_or t.encoders (x - first_encoder t) 0
    else 0

-- whether the CRTC is a possible one of the plane or the encoder
abbrev pub drives : Topology → ℕ → ℕ → Bool
drives t x crtc = is_possible t.crtcs (possible_crtcs t x) crtc

-- what a plane is for, if the id is a plane's
abbrev pub plane_kind : Topology → ℕ → Option PlaneKind
plane_kind t x = if is_plane t x then slice_get t.kinds (x - first_plane t) else None

-- the CRTC whose primary or cursor plane it is
abbrev pub crtc_of_plane : Topology → ℕ → Option ℕ
crtc_of_plane t x = option_and_then crtc_of_kind (plane_kind t x)

-- a plane, and no overlay plane
abbrev pub is_primary_or_cursor : Topology → ℕ → Bool
is_primary_or_cursor t x = is_some (crtc_of_plane t x)

-- the primary and cursor planes of the CRTCs in a list, rising
abbrev pub planes_of : Topology → List ℕ → List ℕ
planes_of t crtcs = filter (λ x. option_map_or (is_among crtcs) (crtc_of_plane t x) false) (plane_ids t)

-- the encoder of a connector
abbrev pub encoder_of : Topology → ℕ → Option ℕ
encoder_of t x = if is_connector t x then slice_get t.connectors (x - first_connector t) else None

-- whether the CRTC is a possible one of the connector's encoder
abbrev pub reaches : Topology → ℕ → ℕ → Bool
reaches t connector crtc = option_map_or (λ encoder. drives t encoder crtc) (encoder_of t connector) false

-- a framebuffer with a connector that the CRTC reaches, or neither, where 0 is none
abbrev pub is_route : Topology → ℕ → ℕ → ℕ → Bool
is_route t crtc framebuffer connector =
    if connector == 0 then framebuffer == 0 else not (framebuffer == 0) && reaches t connector crtc

-- whether the plane can be shown on the CRTC, or shows no framebuffer
abbrev pub is_plane_route : Topology → ℕ → ℕ → ℕ → Bool
is_plane_route t plane crtc framebuffer = (framebuffer == 0) || drives t plane crtc

-- a list of CRTCs that rise
pub record AreCrtcs (t : Topology) (crtcs : List ℕ) : Type 0 where
  pub each : AllByRecursion (λ x. is_crtc t x ≡ true) crtcs
  pub rise : InOrder nat_lt crtcs

-- the number whose bit i describes the i-th element whether it passes
abbrev pub bits_of : (ℕ → Bool) → List ℕ → ℕ
bits_of p [] = 0
bits_of p (x ∷ xs) = (if p x then 1 else 0) + 2 * bits_of p xs

-- the mask of a plane or an encoder over the CRTCs that are seen: bit i is the i-th of them
abbrev pub mask_over : Topology → ℕ → List ℕ → ℕ
mask_over t x crtcs = bits_of (drives t x) crtcs
