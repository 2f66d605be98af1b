-- An accepted MODE_CREATE_LEASE leases fixed objects, each once, so that they are few.
use Rattle.std.proofs.Common.{◌≡◌, ℕ, ◌≤◌, Bool, true, false, cond, not, ◌&&◌, ◌||◌, List, [], ◌∷◌, ◌++◌, filter, length, Option, None, Some, refl, sym, ◌∙◌, arith}
use Rattle.std.specs.Prelude.{if◌then◌else◌}
use Rattle.std.specs.List.{list_all, AllByRecursion}
use Rattle.std.specs.Option.{is_some, option_map_or}
use Rattle.std.proofs.lemmas.Bool.{false≢true}
use Rattle.drm_index_array.specs.Numbers.{is_among, count}
use Rattle.drm_index_array.proofs.Numbers.{all_among, among-append, few_once}
use Rattle.drm_table.specs.Permit.{Check, first_failing}
use Rattle.drm_table.specs.declared.calls.Call.{Call}
use Rattle.drm_table.specs.declared.calls.Call.TheVariants.{CreateLease}
use Rattle.drm_table.specs.declared.events.Event.TheVariants.{Ask}
use Rattle.drm_modes.specs.declared.kinds.Kind.TheVariants.{Crtc, Plane, Encoder, Connector}
use Rattle.drm_modes.specs.Topology.{Topology, IsTopology, first_plane, first_encoder, first_connector, is_crtc, is_plane, is_encoder, is_connector, kind_of, plane_ids, crtc_of_plane, is_primary_or_cursor, planes_of, object_count}
use Rattle.drm_modes.proofs.Fixed.{within}
use Rattle.drm_model.specs.Rows.{Rows, is_framebuffer}
use Rattle.drm_model.specs.Sees.{controls, has_universal, sees}
use Rattle.drm_model.specs.Leases.{is_seen, is_leasable, brought_along, leased}
use Rattle.drm_modes.specs.LeaseRules.{stands_once}
use Rattle.drm_model.specs.Calls.{meaning}
use Rattle.drm_model.specs.Verdict.{verdict, checks, admission_checks}
use Rattle.drm_model.proofs.Once.{passes_and_was, picked_once, each_once}

-- ---- what an accepted call was tested for

own_checks : (xs ys : List Check) → first_failing (xs ++ ys) ≡ None → first_failing ys ≡ None
own_checks [] ys h = h
own_checks (x ∷ xs) ys h =
    (elim x.holds as (λ b. cond b (first_failing (xs ++ ys)) (Some x.rule) ≡ None → first_failing ys ≡ None)
    [ true ↦ own_checks xs ys | false ↦ λ k. absurd (let no : Some x.rule ≡ None = k in cc) ]) h

-- If no check fails, all hold.
pub all_hold : (xs : List Check) → first_failing xs ≡ None → AllByRecursion (λ (x : Check). x.holds ≡ true) xs
all_hold [] h = tt
all_hold (x ∷ xs) h =
    elim x.holds as (λ b. x.holds ≡ b → cond b (first_failing xs) (Some x.rule) ≡ None → AllByRecursion (λ (x : Check). x.holds ≡ true) (x ∷ xs))
    [ true ↦ λ e k. (e, all_hold xs k) | false ↦ λ e k. absurd (let no : Some x.rule ≡ None = k in cc) ] refl h

-- An accepted call passes each rule of the call.
pub rules_hold : (w : Rows) (c : ℕ) (call : Call) → verdict w (Ask c call) ≡ None
    → AllByRecursion (λ (x : Check). x.holds ≡ true) (meaning w c call).checks
unfolding verdict checks
rules_hold w c call h =
    all_hold (meaning w c call).checks (own_checks (admission_checks w c call) (meaning w c call).checks h)

-- ---- the ids of a lease

-- what is seen and can be leased is a fixed object
fixed : (known sees encoder framebuffer : Bool) → ((known && sees) || framebuffer) ≡ true
    → not (encoder || framebuffer) ≡ true → known ≡ true
fixed true sees encoder framebuffer seen leasable = refl
fixed false sees true framebuffer seen leasable = absurd (let no : false ≡ true = leasable in cc)
fixed false sees false true seen leasable = absurd (let no : false ≡ true = leasable in cc)
fixed false sees false false seen leasable = absurd (let no : false ≡ true = seen in cc)

of_kind : (t : Topology) (x : ℕ) (crtc plane encoder connector : Bool) → is_crtc t x ≡ crtc → is_plane t x ≡ plane
    → is_encoder t x ≡ encoder → is_connector t x ≡ connector →
    is_some
    (if crtc then Some Crtc else if plane then Some Plane else if encoder then Some Encoder else if connector then Some Connector else None)
    ≡ true → (1 ≤ x) × (x ≤ object_count t)
of_kind t x true plane encoder connector e f g h known = let ends = within 1 t.crtcs x e in (omega (arith, ends), omega (arith, ends))
of_kind t x false true encoder connector e f g h known = let ends = within (first_plane t) (length t.planes) x f in (omega (arith, ends), omega (arith, ends))
of_kind t x false false true connector e f g h known = let ends = within (first_encoder t) (length t.encoders) x g in (omega (arith, ends), omega (arith, ends))
of_kind t x false false false true e f g h known = let ends = within (first_connector t) (length t.connectors) x h in (omega (arith, ends), omega (arith, ends))
of_kind t x false false false false e f g h known = absurd (let no : false ≡ true = known in cc)

-- ids of fixed objects go from 1 to as many as there are
known_within : (t : Topology) (x : ℕ) → is_some (kind_of t x) ≡ true → (1 ≤ x) × (x ≤ object_count t)
known_within t x known =
    of_kind t x (is_crtc t x) (is_plane t x) (is_encoder t x) (is_connector t x) refl refl refl refl known

-- ---- the ids that an accepted MODE_CREATE_LEASE names, and what comes along

named_within : (w : Rows) (c : ℕ) (ids : List ℕ) → verdict w (Ask c (CreateLease ids)) ≡ None → (x : ℕ)
    → is_among ids x ≡ true → (1 ≤ x) × (x ≤ object_count w.topology)
unfolding meaning
named_within w c ids accepted x among =
    let hold = rules_hold w c (CreateLease ids) accepted in
    known_within w.topology x
    (fixed _ (sees w c x) (is_encoder w.topology x) (is_framebuffer w x) (all_among (is_seen w c) x ids hold.1.0 among) (all_among (is_leasable w) x ids hold.1.1.0 among))

-- what comes along: planes for a CRTC that the client controls, where it has universal planes off
pub record ComesAlong (w : Rows) (c x : ℕ) : Type 0 where
  pub off : has_universal w c ≡ false
  pub controlled : controls w c x ≡ true
  pub hidden : is_primary_or_cursor w.topology x ≡ true
  pub plane : is_among (plane_ids w.topology) x ≡ true

for_a_crtc : (crtcs : List ℕ) (o : Option ℕ) → option_map_or (is_among crtcs) o false ≡ true → is_some o ≡ true
for_a_crtc crtcs (Some crtc) h = refl
for_a_crtc crtcs None h = h

-- A plane that is added to a lease is a primary or cursor plane that the client controls, and the client has universal
-- planes off.
pub comes_along : (w : Rows) (c : ℕ) (ids : List ℕ) (x : ℕ) → is_among (brought_along w c ids) x ≡ true
    → ComesAlong w c x
comes_along w c ids x =
    elim (has_universal w c) as (λ b. has_universal w c ≡ b → is_among (if b then [] else filter (controls w c) (planes_of w.topology ids)) x ≡ true → ComesAlong w c x) [
      | true ↦ λ e h. absurd (false≢true h)
      | false ↦ λ e h.
          let seen = passes_and_was (controls w c) (planes_of w.topology ids) x h in
          let of_crtcs = λ (y : ℕ). option_map_or (is_among ids) (crtc_of_plane w.topology y) false in
          let picked = passes_and_was of_crtcs (plane_ids w.topology) x seen.1 in
          record { off = e; controlled = seen.0; hidden = for_a_crtc ids (crtc_of_plane w.topology x) picked.0; plane = picked.1 }
    ] refl

-- Each object of an accepted lease is a fixed one.
pub leased_within : (w : Rows) (c : ℕ) (ids : List ℕ) → verdict w (Ask c (CreateLease ids)) ≡ None → (x : ℕ)
    → is_among (leased w c ids) x ≡ true → (1 ≤ x) × (x ≤ object_count w.topology)
leased_within w c ids accepted x among =
    elim (is_among ids x) as (λ b. is_among ids x ≡ b → (b || is_among (brought_along w c ids) x) ≡ true → (1 ≤ x) × (x ≤ object_count w.topology)) [
      | true ↦ λ e h. named_within w c ids accepted x e
      | false ↦ λ e h.
          let along = comes_along w c ids x h in
          let ends = within (first_plane w.topology) (length w.topology.planes) x along.plane in
          (omega (arith, ends), omega (arith, ends))
    ] refl (sym (among-append ids (brought_along w c ids) x) ∙ among)

-- what the client names, it sees, and what comes along it doesn't
unseen : (encoder controlled hidden universal : Bool) → encoder ≡ false → hidden ≡ true → universal ≡ false
    → (encoder || (controlled && (not hidden || universal))) ≡ false
unseen encoder true hidden universal e h u = rw (e, h, u) refl
unseen encoder false hidden universal e h u = rw e refl

-- An id that is seen and is neither an encoder nor a framebuffer is that of an object that the client sees.
pub seen_named : (known sees encoder framebuffer : Bool) → ((known && sees) || framebuffer) ≡ true
    → not (encoder || framebuffer) ≡ true → (sees ≡ true) × (encoder ≡ false)
seen_named known sees true framebuffer seen leasable = absurd (false≢true leasable)
seen_named known sees false true seen leasable = absurd (false≢true leasable)
seen_named true true false false seen leasable = (refl, refl)
seen_named true false false false seen leasable = absurd (false≢true seen)
seen_named false sees false false seen leasable = absurd (false≢true seen)

apart : (w : Rows) (c : ℕ) (ids : List ℕ) → verdict w (Ask c (CreateLease ids)) ≡ None → (x : ℕ) → is_among ids x ≡ true
    → is_among (brought_along w c ids) x ≡ false
unfolding meaning sees
apart w c ids accepted x named =
    elim (is_among (brought_along w c ids) x) as (λ b. is_among (brought_along w c ids) x ≡ b → b ≡ false) [
      | true ↦ λ e.
          let hold = rules_hold w c (CreateLease ids) accepted in
          let along = comes_along w c ids x e in
          let its =
          seen_named _ (sees w c x) (is_encoder w.topology x) (is_framebuffer w x)
          (all_among (is_seen w c) x ids hold.1.0 named) (all_among (is_leasable w) x ids hold.1.1.0 named) in
          sym its.0
          ∙ unseen (is_encoder w.topology x) (controls w c x) (is_primary_or_cursor w.topology x) (has_universal w c)
          its.1 along.hidden along.off
      | false ↦ λ e. refl
    ] refl

along_once : (w : Rows) (c : ℕ) (ids : List ℕ) (k : ℕ) → count (brought_along w c ids) k ≤ 1
along_once w c ids k =
    elim (has_universal w c) as (λ b. count (if b then [] else filter (controls w c) (planes_of w.topology ids)) k ≤ 1)
    [ true ↦ omega arith | false ↦ picked_once (controls w c) (λ x. option_map_or (is_among ids) (crtc_of_plane w.topology x) false) (first_plane w.topology) (length w.topology.planes) k ]

-- Each object of an accepted lease occurs once in it.
pub leased_once : (w : Rows) (c : ℕ) (ids : List ℕ) → verdict w (Ask c (CreateLease ids)) ≡ None
    → list_all (stands_once (leased w c ids)) (leased w c ids) ≡ true
unfolding meaning
leased_once w c ids accepted =
    each_once ids (brought_along w c ids) (rules_hold w c (CreateLease ids) accepted).1.1.1.0 (along_once w c ids)
    (apart w c ids accepted)

-- An accepted MODE_CREATE_LEASE leases 64 objects at most.
pub few_leased : (w : Rows) (c : ℕ) (ids : List ℕ) → IsTopology w.topology → verdict w (Ask c (CreateLease ids)) ≡ None
    → length (leased w c ids) ≤ 64
few_leased w c ids topology accepted =
    let few =
    few_once (object_count w.topology) (leased w c ids) (leased_once w c ids accepted)
    (leased_within w c ids accepted) in
    omega (arith, few, topology.few)
