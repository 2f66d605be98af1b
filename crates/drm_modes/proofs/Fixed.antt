-- What is true of each topology.
use Rattle.std.proofs.Common.{◌≡◌, ℕ, zero, suc, ◌+◌, ◌≤◌, ◌<◌, ◌&&◌, ◌==◌, Bool, true, false, cond, List, [], ◌∷◌, length, filter, nat_lt, refl, sym, ◌∙◌, arith}
use Rattle.std.specs.Prelude.{nat_le}
use Rattle.std.specs.List.{list_all, zip, AllByRecursion}
use Rattle.std.proofs.lemmas.Bool.{false≢true, eqb-true, and_parts}
use Rattle.std.proofs.lemmas.Bool.Decides.{nat_tests}
use Rattle.drm_index_array.proofs.Lists.{all_filter}
use Rattle.drm_index_array.proofs.Rising.{each_is_there}
use Rattle.drm_index_array.specs.Rows.{InOrder}
use Rattle.drm_index_array.specs.Numbers.{is_among}
use Rattle.drm_modes.specs.Numbers.{numbers_from}
use Rattle.drm_modes.specs.declared.kinds.Kind.{Kind}
use Rattle.drm_modes.specs.declared.kinds.Kind.TheVariants.{Crtc, Plane, Encoder, Connector}
use Rattle.drm_modes.specs.Topology.{Topology, are_objects, is_topology, IsTopology, object_count, ids_of_kind, first_plane, first_encoder, first_connector, is_mask, is_encoder, is_crtc, crtc_ids, AreCrtcs}
use Rattle.drm_modes.specs.PlaneKinds.{fits, stands_once, are_kinds}
use Rattle.drm_modes.proofs.Ids.{is_among-numbers_from, length-numbers_from}

at_most : (a b : ℕ) → nat_le a b ≡ true → a ≤ b
at_most a b h = grind (arith, nat_tests)

-- A topology that passes the test has the facts of a topology.
pub topology_is : (t : Topology) → is_topology t ≡ true → IsTopology t
unfolding are_objects are_kinds
topology_is t h =
    let each = and_parts (are_objects t) (are_kinds t.crtcs t.kinds t.planes) h in
    let counts = nat_le 1 t.crtcs && nat_le t.crtcs 8 in
    let few = counts && nat_le (object_count t) 64 in
    let planes = few && list_all (is_mask t) t.planes in
    let encoders = planes && list_all (is_mask t) t.encoders in
    let are =
    and_parts few (list_all (is_mask t) t.planes)
    (and_parts planes (list_all (is_mask t) t.encoders) (and_parts encoders (list_all (is_encoder t) t.connectors) each.0).0).0
    in
    let same = length t.kinds == length t.planes in
    let one_each =
    and_parts same (list_all (fits t.crtcs) (zip t.kinds t.planes))
    (and_parts (same && list_all (fits t.crtcs) (zip t.kinds t.planes)) (list_all (stands_once t.kinds) t.kinds) each.1).0
    in
    let fits = and_parts counts (nat_le (object_count t) 64) are.0 in
    let ends = and_parts (nat_le 1 t.crtcs) (nat_le t.crtcs 8) fits.0 in
    record { is = h; one_kind_each = eqb-true (length t.kinds) (length t.planes) one_each.0; some = at_most _ _ ends.0; few_crtcs = at_most _ _ ends.1; few = at_most _ _ fits.1 }

-- The objects of a kind are at most as many as all.
pub few_of_kind : (t : Topology) → IsTopology t → (kind : Kind) → length (ids_of_kind t kind) ≤ 64
few_of_kind t is Crtc = omega (arith, is.few, length-numbers_from 1 t.crtcs)
few_of_kind t is Plane = omega (arith, is.few, length-numbers_from (first_plane t) (length t.planes))
few_of_kind t is Encoder = omega (arith, is.few, length-numbers_from (first_encoder t) (length t.encoders))
few_of_kind t is Connector = omega (arith, is.few, length-numbers_from (first_connector t) (length t.connectors))

-- Each number of a run lies between its first number and its end.
pub within : (first count x : ℕ) → is_among (numbers_from first count) x ≡ true → (first ≤ x) × (x < first + count)
within first count x h =
    let between = sym (is_among-numbers_from first count x) ∙ h in
    let ends = and_parts _ _ between in
    (at_most _ _ ends.0, let less = ends.1 in grind (arith, nat_tests))

-- Rising numbers between two ends are at most as many as fit between them.
pub few_rising : (low high : ℕ) (xs : List ℕ) → AllByRecursion (λ x. (low ≤ x) × (x < high)) xs → InOrder nat_lt xs
    → low ≤ high → low + length xs ≤ high
few_rising low high [] all rise le = omega (arith, le)
few_rising low high (x ∷ xs) all rise le =
    let rest = few_rising (x + 1) high xs (above x high xs rise.0 all.1) rise.1 (omega (arith, all.0.1)) in
    omega (arith, rest, all.0.0)
  where
    above : (x high : ℕ) → (xs : List ℕ) → AllByRecursion (λ y. nat_lt x y ≡ true) xs
        → AllByRecursion (λ y. (low ≤ y) × (y < high)) xs → AllByRecursion (λ y. (x + 1 ≤ y) × (y < high)) xs
    above x high [] lts all = tt
    above x high (y ∷ ys) lts all = ((let lt = lts.0 in grind (arith, nat_tests), all.0.1), above x high ys lts.1 all.1)

ranged : (t : Topology) (xs : List ℕ) → AllByRecursion (λ x. is_crtc t x ≡ true) xs
    → AllByRecursion (λ x. (1 ≤ x) × (x < 1 + t.crtcs)) xs
ranged t [] all = tt
ranged t (x ∷ xs) all = (within 1 t.crtcs x all.0, ranged t xs all.1)

-- A list of CRTCs of a topology has at most 8.
pub few_seen : (t : Topology) (xs : List ℕ) → IsTopology t → AreCrtcs t xs → length xs ≤ 8
few_seen t xs is are =
    let few = few_rising 1 (1 + t.crtcs) xs (ranged t xs are.each) are.rise (omega arith) in
    omega (arith, few, is.few_crtcs)

-- CRTCs that are picked out of all of them
module _ (p : ℕ → Bool) where
  picked_above : (x first count : ℕ) → x < first
      → AllByRecursion (λ y. nat_lt x y ≡ true) (filter p (numbers_from first count))
  unfolding numbers_from
  picked_above x first zero lt = tt
  picked_above x first (suc count) lt =
      add (p first) (filter p (numbers_from (first + 1) count)) (picked_above x (first + 1) count (omega (arith, lt)))
    where
      add : (b : Bool) (rest : List ℕ) → AllByRecursion (λ y. nat_lt x y ≡ true) rest
          → AllByRecursion (λ y. nat_lt x y ≡ true) (cond b (first ∷ rest) rest)
      add true rest all = (grind (arith, nat_tests), all)
      add false rest all = all

  picked_rise : (first count : ℕ) → InOrder nat_lt (filter p (numbers_from first count))
  unfolding numbers_from
  picked_rise first zero = tt
  picked_rise first (suc count) =
      add (p first) (filter p (numbers_from (first + 1) count)) (picked_above first (first + 1) count (omega arith))
      (picked_rise (first + 1) count)
    where
      add : (b : Bool) (rest : List ℕ) → AllByRecursion (λ y. nat_lt first y ≡ true) rest → InOrder nat_lt rest
          → InOrder nat_lt (cond b (first ∷ rest) rest)
      add true rest above rise = (above, rise)
      add false rest above rise = rise

  picked_each : (all : List ℕ) → (xs : List ℕ) → AllByRecursion (λ x. is_among all x ≡ true) xs
      → AllByRecursion (λ x. is_among all x ≡ true) (filter p xs)
  picked_each all xs each = all_filter (λ x. is_among all x ≡ true) p xs each

  -- The CRTCs of a topology that pass a test are CRTCs of the topology.
  pub picked_crtcs : (t : Topology) → AreCrtcs t (filter p (crtc_ids t))
  picked_crtcs t =
      record
      { each = picked_each (crtc_ids t) (crtc_ids t) (each_is_there (λ x. x) (crtc_ids t)); rise = picked_rise 1 t.crtcs }
