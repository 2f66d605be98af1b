-- Topologies whose planes are for something.
use Rattle.std.proofs.Common.{◌≡◌, ℕ, zero, suc, ◌==◌, ◌&&◌, Bool, true, false, List, [], ◌∷◌, length, replicate, refl, eq-eqb}
use Rattle.std.proofs.lemmas.Bool.{and_from}
use Rattle.std.specs.List.{list_all, zip}
use Rattle.std.proofs.lemmas.List.{length-replicate}
use Rattle.drm_modes.specs.declared.kinds.PlaneKind.{PlaneKind}
use Rattle.drm_modes.specs.declared.kinds.PlaneKind.TheVariants.{Overlay}
use Rattle.drm_modes.specs.PlaneKinds.{fits, stands_once, are_kinds}
use Rattle.drm_modes.specs.Topology.{are_objects, is_topology}
use Rattle.drm_modes.specs.Topologies.{topology_of, topology_with}

overlays_fit : (crtcs : ℕ) (planes : List ℕ)
    → list_all (fits crtcs) (zip (replicate (length planes) Overlay) planes) ≡ true
overlays_fit crtcs [] = refl
overlays_fit crtcs (mask ∷ masks) = overlays_fit crtcs masks

overlays_stand : (kinds : List PlaneKind) (n : ℕ) → list_all (stands_once kinds) (replicate n Overlay) ≡ true
overlays_stand kinds zero = refl
overlays_stand kinds (suc n) = overlays_stand kinds n

-- A topology may have only overlay planes.
pub overlays_are : (crtcs : ℕ) (planes : List ℕ) → are_kinds crtcs (replicate (length planes) Overlay) planes ≡ true
unfolding are_kinds
overlays_are crtcs planes =
    let kinds = replicate (length planes) Overlay in
    and_from _ _
    (and_from (length kinds == length planes) (list_all (fits crtcs) (zip kinds planes)) (eq-eqb _ _ (length-replicate (length planes) Overlay)) (overlays_fit crtcs planes))
    (overlays_stand kinds (length planes))

-- If the objects and the kinds of planes pass their tests, the topology passes its test.
pub topology_made : (crtcs : ℕ) (planes : List ℕ) (kinds : List PlaneKind) (encoders connectors : List ℕ)
    → are_objects (topology_of crtcs planes encoders connectors) ≡ true → are_kinds crtcs kinds planes ≡ true
    → is_topology (topology_with crtcs planes kinds encoders connectors) ≡ true
unfolding are_objects
topology_made crtcs planes kinds encoders connectors objects are = and_from _ _ objects are

-- If a topology with kinds of planes passes the test, its lists of objects pass theirs.
pub objects_named : (crtcs : ℕ) (planes : List ℕ) (kinds : List PlaneKind) (encoders connectors : List ℕ)
    → is_topology (topology_with crtcs planes kinds encoders connectors) ≡ true
    → are_objects (topology_of crtcs planes encoders connectors) ≡ true
unfolding are_objects
objects_named crtcs planes kinds encoders connectors is = first_of _ _ is
  where
    first_of : (a b : Bool) → (a && b) ≡ true → a ≡ true
    first_of true b h = refl
    first_of false b h = h
