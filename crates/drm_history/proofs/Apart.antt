-- The kinds of mode objects: none of them is two.
use Rattle.std.proofs.Common.{◌≡◌, ℕ, true, false, length, refl, arith}
use Rattle.drm_modes.specs.Topology.{Topology, first_plane, first_encoder, first_connector, is_crtc, is_plane, is_encoder, is_connector}
use Rattle.drm_modes.proofs.Fixed.{within}

-- ---- the same for CRTCs, planes and connectors: none is an encoder

-- A CRTC is no encoder.
pub crtc_apart : (t : Topology) (x : ℕ) → is_crtc t x ≡ true → is_encoder t x ≡ false
crtc_apart t x h = elim (is_encoder t x) as (λ b. is_encoder t x ≡ b → b ≡ false) [
  | true ↦ λ e. let low = within 1 t.crtcs x h in let high = within (first_encoder t) (length t.encoders) x e in absurd (omega (arith, low, high))
  | false ↦ λ e. refl
] refl

-- A plane is no encoder.
pub plane_apart : (t : Topology) (x : ℕ) → is_plane t x ≡ true → is_encoder t x ≡ false
plane_apart t x h = elim (is_encoder t x) as (λ b. is_encoder t x ≡ b → b ≡ false) [
  | true ↦ λ e. let low = within (first_plane t) (length t.planes) x h in let high = within (first_encoder t) (length t.encoders) x e in absurd (omega (arith, low, high))
  | false ↦ λ e. refl
] refl

-- A connector is no encoder.
pub connector_apart : (t : Topology) (x : ℕ) → is_connector t x ≡ true → is_encoder t x ≡ false
connector_apart t x h = elim (is_encoder t x) as (λ b. is_encoder t x ≡ b → b ≡ false) [
  | true ↦ λ e. let high = within (first_connector t) (length t.connectors) x h in let low = within (first_encoder t) (length t.encoders) x e in absurd (omega (arith, low, high))
  | false ↦ λ e. refl
] refl
