-- Why a line of a topology can't be used below those above it (own).
use Rattle.std.specs.Prelude.{◌≡◌, ℕ, ◌+◌, ◌<◌, Bool, not, ◌&&◌, nat_le, nat_lt, if◌then◌else◌, List, [], ◌∷◌, take, length, Option, None, Some, is_some, is_none, unwrap_or, slice_get}
use Rattle.std.specs.List.{list_any, list_all}
use Rattle.drm_script.specs.Fields.{Words}
use Rattle.drm_script.specs.Reading.{is_comment}
use Rattle.drm_modes.specs.declared.kinds.PlaneKind.{PlaneKind}
use Rattle.drm_modes.specs.declared.kinds.PlaneKind.TheVariants as plane_kinds
use Rattle.drm_modes.specs.PlaneKinds.{crtc_of_kind, is_kind}
use Rattle.drm_runs.specs.declared.causes.Unfit.{Unfit}
use Rattle.drm_runs.specs.declared.causes.Unfit.TheVariants as causes
use Rattle.drm_runs.specs.declared.reading.UnfitLine.{UnfitLine}
use Rattle.drm_runs.specs.declared.words.LineWord.{LineWord}
use Rattle.drm_runs.specs.declared.words.LineWord.TheVariants as words
use Rattle.drm_runs.specs.TopologyLines.{line_word_of, only_number, first_number, crtc_in, own_crtc, encoder_place}
use Rattle.drm_runs.specs.Told.{Told, told, crtc_count, objects_told}

-- a cause, where this doesn't hold
abbrev pub unless : Unfit → Bool → Option Unfit
unless cause holds = if holds then None else Some cause

-- the first cause that there is
abbrev pub first_cause : List (Option Unfit) → Option Unfit
first_cause [] = None
first_cause (None ∷ rest) = first_cause rest
first_cause (Some cause ∷ rest) = Some cause

-- there are 1 to 8 CRTCs
abbrev pub is_crtc_count : ℕ → Bool
is_crtc_count n = nat_le 1 n && nat_le n 8

-- there are 64 objects at most
abbrev pub has_room : Told → Bool
has_room t = nat_lt (objects_told t) 64

-- a CRTC has such a plane; of overlay planes there may be any number
abbrev pub has_such_plane : List PlaneKind → PlaneKind → Bool
has_such_plane planes kind = is_some (crtc_of_kind kind) && list_any (is_kind kind) planes

-- the number of CRTCs is set, and each word is the number of one
unfoldable pub mask_cause : Told → Words → Option Unfit
mask_cause t ws =
    first_cause (
    unless causes.NoCrtcs (is_some t.crtcs)
    ∷ unless (causes.Crtc (crtc_count t)) (list_all (λ w. is_some (crtc_in (crtc_count t) w)) ws)
    ∷ [])

-- there is room for a plane, and its CRTC has no such plane above
abbrev pub plane_cause : Told → PlaneKind → Option Unfit
plane_cause t kind =
    first_cause (
    unless causes.TooMany (has_room t)
    ∷ unless causes.SecondPlane (not (has_such_plane t.kinds kind))
    ∷ [])

-- a primary or a cursor plane, by the CRTC that it names first
abbrev pub own_plane_cause : Told → (ℕ → PlaneKind) → Words → Option Unfit
own_plane_cause t kind ws =
    first_cause (
    mask_cause t ws
    ∷ unless causes.NoCrtcOfItsOwn (is_some (first_number ws))
    ∷ plane_cause t (kind (own_crtc ws))
    ∷ [])

-- one number, set for the first time, and in its range
abbrev pub crtcs_cause : Told → Words → Option Unfit
crtcs_cause t ws =
    first_cause (
    unless causes.CrtcCount (is_some (only_number ws))
    ∷ unless causes.SecondCrtcs (is_none t.crtcs)
    ∷ unless causes.CrtcCount (is_crtc_count (unwrap_or (only_number ws) 0))
    ∷ [])

-- CRTCs of the topology, and room for one more object
abbrev pub encoder_cause : Told → Words → Option Unfit
encoder_cause t ws = first_cause (mask_cause t ws ∷ unless causes.TooMany (has_room t) ∷ [])

-- one number, which is the place of an encoder above
abbrev pub connector_cause : Told → Words → Option Unfit
connector_cause t ws =
    first_cause (
    unless (causes.Encoder (length t.encoders))
    (nat_le 1 (encoder_place ws) && nat_le (encoder_place ws) (length t.encoders))
    ∷ unless causes.TooMany (has_room t)
    ∷ [])

-- by the first word of a line, and apart from it the others
abbrev pub cause_by : Option LineWord → Told → Words → Option Unfit
cause_by (Some words.Crtcs) t ws = crtcs_cause t ws
cause_by (Some words.Plane) t ws = first_cause (mask_cause t ws ∷ plane_cause t plane_kinds.Overlay ∷ [])
cause_by (Some words.Primary) t ws = own_plane_cause t plane_kinds.Primary ws
cause_by (Some words.Cursor) t ws = own_plane_cause t plane_kinds.Cursor ws
cause_by (Some words.Encoder) t ws = encoder_cause t ws
cause_by (Some words.Connector) t ws = connector_cause t ws
cause_by None t ws = Some causes.FirstWord

-- the reason a line cannot be used after these parts, if there is one; a line without a word and a comment have none
unfoldable pub cause_of : Told → Words → Option Unfit
cause_of t [] = None
cause_of t (w ∷ ws) = if is_comment w then None else cause_by (line_word_of w) t ws

-- the same of the next line; if there is none, the number of CRTCs must be set above
abbrev pub next_cause : Told → Option Words → Option Unfit
next_cause t (Some line) = cause_of t line
next_cause t None = unless causes.NoCrtcs (is_some t.crtcs)

-- the reason the line after the first n lines cannot be used, if there is one
abbrev pub cause_below : List Words → ℕ → Option Unfit
cause_below lines above = next_cause (told (take above lines)) (slice_get lines above)

-- each line fits after those above it, and one sets the number of CRTCs
abbrev pub AllFit : List Words → Type 0
AllFit lines = (above : ℕ) → cause_below lines above ≡ None

-- the first line that doesn't fit below those above it, counted from 1, and its first cause; the end of the text counts as a line
pub record IsFirstUnfit (lines : List Words) (unfit : UnfitLine) : Type 0 where
  pub above : ℕ
  pub number : unfit.number ≡ above + 1
  pub fit : (i : ℕ) → i < above → cause_below lines i ≡ None
  pub cause : cause_below lines above ≡ Some unfit.cause
