-- What a client can turn on and off (drm-uapi, client capabilities).
use Rattle.std.specs.Prelude.{ℕ, ◌==◌, Bool, false, List, [], ◌∷◌, if◌then◌else◌}
use Rattle.drm_index_array.specs.Numbers.{is_among}

-- the capabilities of a client, each on or off
pub record ClientCapabilities : Type 0 where
  pub universal_planes : Bool

-- all off
abbrev pub no_capabilities : ClientCapabilities
no_capabilities = record { universal_planes = false }

-- those with which a client opens: universal planes as its opening says (own), all others off
abbrev pub opening_capabilities : Bool → ClientCapabilities
opening_capabilities universal = record no_capabilities { universal_planes = universal }

-- the number of DRM_CLIENT_CAP_UNIVERSAL_PLANES
abbrev pub cap_universal_planes : ℕ
cap_universal_planes = 2

-- the numbers of the capabilities
abbrev pub capability_numbers : List ℕ
capability_numbers = cap_universal_planes ∷ []

-- whether there is a capability of this number
abbrev pub is_capability : ℕ → Bool
is_capability cap = is_among capability_numbers cap

-- the capabilities, with that of this number on or off
abbrev pub with_capability : ℕ → Bool → ClientCapabilities → ClientCapabilities
with_capability cap on capabilities = record {
  universal_planes = if cap == cap_universal_planes then on else capabilities.universal_planes;
}
