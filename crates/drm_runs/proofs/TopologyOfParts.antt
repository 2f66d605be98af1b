-- The topology with these parts.
use Rattle.std.proofs.Common.{◌≡◌, ℕ, ◌+◌, true, List, length, map, None, Some, Option, unwrap_or, sym, ap, ◌∙◌}
use Rattle.std.specs.Prelude.{◌↔◌, IsSome, IsTrue, IfSome}
use Rattle.std.proofs.lemmas.Bool.{false≢true}
use Rattle.drm_modes.specs.declared.kinds.PlaneKind.{PlaneKind}
use Rattle.drm_modes.specs.Topology.{Topology, is_topology}
use Rattle.drm_modes.specs.Topologies.{topology_with}
use Rattle.drm_runs.specs.Told.{Told, crtc_count, encoder_id, topology_told}

-- If a topology passes the test, the attempt to create it returns it.
pub made : (o : Option Topology) (t : Topology) → (IsSome o ↔ IsTrue (is_topology t)) → IfSome o (λ u. u ≡ t)
    → is_topology t ≡ true → o ≡ Some t
made None t some value is = absurd (false≢true (some.1 is))
made (Some u) t some value is = ap Some value

-- The topology made of the parts of lines is the one that the lines define.
pub topology_given : (t : Told) (crtcs before : ℕ) (planes : List ℕ) (kinds : List PlaneKind) (encoders ids : List ℕ)
    → t.crtcs ≡ Some crtcs → planes ≡ t.planes → kinds ≡ t.kinds → encoders ≡ t.encoders
    → before ≡ crtcs + length t.planes → ids ≡ map (λ place. before + place) t.connectors
    → topology_with crtcs planes kinds encoders ids ≡ topology_told t
topology_given t crtcs before planes kinds encoders ids told planes_are kinds_are encoders_are before_is ids_are =
    let count : crtcs ≡ crtc_count t = sym (ap (λ o. unwrap_or o 0) told) in
    let ids_told : ids ≡ map (encoder_id t) t.connectors =
    ids_are ∙ ap (λ n. map (λ place. n + place) t.connectors) (before_is ∙ ap (λ n. n + length t.planes) count) in
    λ i. record
    { crtcs = count i; planes = planes_are i; kinds = kinds_are i; encoders = encoders_are i; connectors = ids_told i }
