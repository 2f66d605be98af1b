-- Ids and handles as bytes (own).
use Rattle.std.specs.Prelude.{ℕ, zero, suc, ◌+◌, ◌*◌, ◌^◌, ◌<◌, ◌≤◌, ◌&&◌, if◌then◌else◌, nat_le, List, [], ◌∷◌, ◌++◌, All, length, drop, Option, Some, None}
use Rattle.std.specs.List.{flat_map}
use Rattle.drm_frames.specs.Number.{u32, u32_in}

-- how many ids there are, and each of them
abbrev pub list_text : List ℕ → List ℕ
list_text ids = u32 (length ids) ++ flat_map u32 ids

-- An id fits its 4 bytes.
abbrev pub FitsId : ℕ → Type 0
FitsId id = id < 2 ^ 32

-- at most 64 ids, and each fits
pub record FitsList (ids : List ℕ) : Type 0 where
  pub few : length ids ≤ 64
  pub each : All FitsId ids

-- the four lists of resources, each of them whole, and together few enough for one frame
pub record FitsResources (crtcs connectors encoders framebuffers : List ℕ) : Type 0 where
  pub each_crtc : FitsList crtcs
  pub each_connector : FitsList connectors
  pub each_encoder : FitsList encoders
  pub each_framebuffer : FitsList framebuffers
  pub few : length crtcs + length connectors + length encoders + length framebuffers ≤ 251

-- ---- the same as a function

-- n ids, one after the other
abbrev pub ids_in : ℕ → List ℕ → List ℕ
ids_in zero bytes = []
ids_in (suc count) bytes = u32_in bytes ∷ ids_in count (drop 4 bytes)

-- the list at the front
abbrev pub front_list : List ℕ → List ℕ
front_list bytes = ids_in (u32_in bytes) (drop 4 bytes)

-- the bytes after the list at the front, if there is one of at most 64 ids
unfoldable pub behind_list : List ℕ → Option (List ℕ)
behind_list bytes =
    if nat_le 4 (length bytes) && nat_le (u32_in bytes) 64 && nat_le (4 + 4 * u32_in bytes) (length bytes) then Some
    (drop (4 + 4 * u32_in bytes) bytes) else None
