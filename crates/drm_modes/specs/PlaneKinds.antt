-- What planes are for (drm-uapi, universal planes).
use Rattle.std.specs.Prelude.{ℕ, ◌-◌, ◌==◌, Bool, true, false, not, ◌&&◌, ◌||◌, List, length, filter, Option, None, Some, is_some}
use Rattle.std.specs.Int.{bit_at}
use Rattle.std.specs.List.{list_all, zip}
use Rattle.std.specs.Option.{option_map_or}
use Rattle.drm_index_array.specs.Numbers.{is_among}
use Rattle.drm_modes.specs.Numbers.{numbers_from}
use Rattle.drm_modes.specs.declared.kinds.PlaneKind.{PlaneKind}
use Rattle.drm_modes.specs.declared.kinds.PlaneKind.TheVariants.{Overlay, Primary, Cursor}

-- the CRTC of a primary or a cursor plane
abbrev pub crtc_of_kind : PlaneKind → Option ℕ
crtc_of_kind Overlay = None
crtc_of_kind (Primary crtc) = Some crtc
crtc_of_kind (Cursor crtc) = Some crtc

-- whether two planes are of the same kind, and for the same CRTC
abbrev pub is_kind : PlaneKind → PlaneKind → Bool
is_kind Overlay Overlay = true
is_kind (Primary x) (Primary y) = x == y
is_kind (Cursor x) (Cursor y) = x == y
is_kind _ _ = false

-- there are any number of overlay planes, and of a CRTC one primary plane and one cursor plane at most
abbrev pub stands_once : List PlaneKind → PlaneKind → Bool
stands_once kinds kind = not (is_some (crtc_of_kind kind)) || (length (filter (is_kind kind) kinds) == 1)

-- whether the CRTC, of this many, is one of the mask, whose bit i is CRTC i + 1
abbrev pub is_possible : ℕ → ℕ → ℕ → Bool
is_possible crtcs mask crtc = is_among (numbers_from 1 crtcs) crtc && (bit_at mask (crtc - 1) == 1)

-- whether a plane with this mask may be for this: an overlay plane, or one of a possible CRTC
abbrev pub fits : ℕ → PlaneKind × ℕ → Bool
fits crtcs pair = option_map_or (is_possible crtcs pair.1) (crtc_of_kind pair.0) true

-- what each plane is for: it fits the plane, and no CRTC has two primary or two cursor planes
unfoldable pub are_kinds : ℕ → List PlaneKind → List ℕ → Bool
are_kinds crtcs kinds planes =
    (length kinds == length planes) && list_all (fits crtcs) (zip kinds planes) && list_all (stands_once kinds) kinds
