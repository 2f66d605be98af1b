-- What a client sees of the mode objects, by rows and by what the device keeps.
use Rattle.std.proofs.Common.{◌≡◌, ℕ, ◌==◌, nat_lt, Bool, true, false, not, ◌&&◌, ◌||◌, List, [], ◌∷◌, map, filter, length, Some, refl, sym, ap, ◌∙◌, arith}
use Rattle.std.specs.Prelude.{nat_le}
use Rattle.std.specs.Option.{is_some, option_map_or, option_and_then}
use Rattle.std.proofs.lemmas.Bool.Decides.{nat_tests}
use Rattle.drm_index_array.specs.Rows as arrays
use Rattle.drm_index_array.specs.Orders.{InOrder}
use Rattle.drm_index_array.proofs.Lists.{all_weaker, filter-map, list_any-map, map-map}
use Rattle.drm_index_array.proofs.Orders.{RisesTo, in_order_filter, in_order_map, same-any, same-filter, same-map, sorted-same, order_of_numbers}
use Rattle.drm_leases.specs.Leases as leases
use Rattle.drm_modes.specs.declared.rows.Framebuffer.{Framebuffer}
use Rattle.drm_modes.specs.declared.kinds.Kind.TheVariants.{Crtc, Plane, Connector}
use Rattle.drm_modes.specs.Topology.{is_crtc, is_plane, is_connector, is_encoder, is_primary_or_cursor, crtc_ids, plane_ids, connector_ids, encoder_ids, mask_over}
use Rattle.drm_modes.specs.Modes as modes
use Rattle.drm_modes.specs.Modes.{framebuffer_before, is_made_by}
use Rattle.drm_model.specs.Rows.{Rows, ClientRow, GrantRow, FramebufferRow, client_row}
use Rattle.drm_model.specs.ClientCapabilities.{no_capabilities}
use Rattle.drm_model.specs.Masters.{master_of, lessor_of}
use Rattle.drm_model.specs.Sees as model
use Rattle.drm_state.specs.declared.state.State.{State}
use Rattle.drm_state.specs.declared.caller.PrimaryCaller.{PrimaryCaller}
use Rattle.drm_state.specs.Callers.{IsPrimaryCaller}
use Rattle.drm_state.specs.Parts.{client_row_by, grant_row_of, grants_of, framebuffer_row_of, framebuffers_of}
use Rattle.drm_state.specs.Invariants.{MeetsInvariants}
use Rattle.drm_state.specs.Refinement.{Represents}
use Rattle.drm_state.specs.Seeing.{controls, sees, sees_object, visible}
use Rattle.drm_state.proofs.Represented.{bounds_are, masters_are, grants_are, framebuffers_are, modes_so}
use Rattle.drm_state.proofs.Lookups.{client_row_is}
use Rattle.drm_state.proofs.StayingMasters.{lessors_are}

-- The rows have the fixed mode objects of the state.
pub topology_is : (s : State) (w : Rows) → Represents s w → w.topology ≡ s.modes.topology
topology_is s w h = sym (bounds_are s w h).7

-- ---- the same for each test and list: what a client sees by rows is what it sees in the state

module _ (s : State) (w : Rows) (k : PrimaryCaller) (is : IsPrimaryCaller s k) (h : Represents s w) where
  row_here : client_row w k.client ≡ Some (client_row_by (record { client = k.client; flags = k.flags }) (Some k.member))
  row_here =
      client_row_is s w h k.client k.flags is.flags
      ∙ ap (λ o. Some (client_row_by (record { client = k.client; flags = k.flags }) o)) (sym is.member)

  master_is : master_of w k.client ≡ Some k.member.master
  master_is = ap (option_and_then (λ (row : ClientRow). row.master)) row_here

  -- A lease has a mode object by rows exactly if it has it in the state.
  pub granted_is : (m x : ℕ) → model.is_granted w m x ≡ leases.is_granted s.leases.grants m x
  granted_is m x =
      let has = λ (row : GrantRow). (row.master == m) && (row.mode_object == x) in
      same-any has w.grants (grants_of s) (grants_are s w h) ∙ list_any-map has grant_row_of s.leases.grants

  pub controls_is : (x : ℕ) → model.controls w k.client x ≡ controls s k x
  unfolding model.controls
  controls_is x =
      ap (λ m. model.master_controls w m x) master_is
      ∙ (λ i. not (is_some (lessor_of (masters_are s w h i) k.member.master)) || granted_is k.member.master x i)
      ∙ ap (λ o. not (is_some o) || leases.is_granted s.leases.grants k.member.master x)
      (lessors_are s.leases.tokens s.masters.masters k.member.master)

  pub universal_is : model.has_universal w k.client ≡ k.flags.universal
  universal_is =
      ap (λ o. (option_map_or (λ (row : ClientRow). row.capabilities) o no_capabilities).universal_planes) row_here

  pub seen_is : (x : ℕ) → model.sees w k.client x ≡ sees s k x
  unfolding model.sees
  seen_is x =
      λ i. is_encoder (topology_is s w h i) x ||
      (controls_is x i && (not (is_primary_or_cursor (topology_is s w h i) x) || universal_is i))

  pub crtc_seen : (x : ℕ) → model.sees_crtc w k.client x ≡ sees_object s k Crtc x
  crtc_seen x = λ i. is_crtc (topology_is s w h i) x && seen_is x i

  pub plane_seen : (x : ℕ) → model.sees_plane w k.client x ≡ sees_object s k Plane x
  plane_seen x = λ i. is_plane (topology_is s w h i) x && seen_is x i

  pub connector_seen : (x : ℕ) → model.sees_connector w k.client x ≡ sees_object s k Connector x
  connector_seen x = λ i. is_connector (topology_is s w h i) x && seen_is x i

  pub crtcs_visible : model.visible_crtcs w k.client ≡ visible s k Crtc
  crtcs_visible = λ i. filter (λ x. seen_is x i) (crtc_ids (topology_is s w h i))

  pub planes_visible : model.visible_planes w k.client ≡ visible s k Plane
  planes_visible = λ i. filter (λ x. seen_is x i) (plane_ids (topology_is s w h i))

  pub connectors_visible : model.visible_connectors w k.client ≡ visible s k Connector
  connectors_visible = λ i. filter (λ x. seen_is x i) (connector_ids (topology_is s w h i))

  pub mask_visible : (x : ℕ) → model.visible_mask w k.client x ≡ mask_over s.modes.topology x (visible s k Crtc)
  mask_visible x = λ i. mask_over (topology_is s w h i) x (crtcs_visible i)

-- Each client sees each encoder.
pub encoder_seen : (s : State) (w : Rows) (k : PrimaryCaller) → Represents s w → (x : ℕ)
    → is_encoder w.topology x ≡ (is_encoder s.modes.topology x && sees s k x)
encoder_seen s w k h x = ap (λ t. is_encoder t x) (topology_is s w h) ∙ itself (is_encoder s.modes.topology x) _
  where
    itself : (encoder other : Bool) → encoder ≡ (encoder && (encoder || other))
    itself true other = refl
    itself false other = refl

-- The rows list the same encoders as the state.
pub encoders_listed : (s : State) (w : Rows) → Represents s w → encoder_ids w.topology ≡ encoder_ids s.modes.topology
encoders_listed s w h = ap encoder_ids (topology_is s w h)

-- ---- a client's framebuffers

rises : (a b : ℕ) → nat_lt a b ≡ true → RisesTo nat_le a b
rises a b lt = (grind (arith, nat_tests), grind (arith, nat_tests))

in_order : (fs : List Framebuffer) → arrays.InOrder framebuffer_before fs
    → InOrder (λ (x y : Framebuffer). RisesTo nat_le x.framebuffer y.framebuffer) fs
in_order [] h = tt
in_order (x ∷ xs) h =
    (all_weaker (λ (y : Framebuffer). framebuffer_before x y ≡ true) (λ (y : Framebuffer). RisesTo nat_le x.framebuffer y.framebuffer) (λ y lt. rises x.framebuffer y.framebuffer lt) xs h.0, in_order xs h.1)

-- A client's framebuffers are the same by rows as in the state.
pub framebuffers_listed : (s : State) (w : Rows) → MeetsInvariants s → Represents s w → (c : ℕ)
    → model.own_framebuffers w c ≡ modes.framebuffers_of s.modes c
framebuffers_listed s w t h c =
    let mine = λ (row : FramebufferRow). row.client == c in
    let id = λ (row : FramebufferRow). row.framebuffer in
    let own = filter (is_made_by c) s.modes.framebuffers in
    let theirs : map id (filter mine (framebuffers_of s)) ≡ modes.framebuffers_of s.modes c =
    ap (map id) (filter-map mine (framebuffer_row_of s.objects.objects) s.modes.framebuffers) ∙ map-map id (framebuffer_row_of s.objects.objects) own in
    let rise : InOrder (RisesTo nat_le) (modes.framebuffers_of s.modes c) =
    in_order_map (RisesTo nat_le) (λ (x : Framebuffer). x.framebuffer) own
    (in_order_filter (λ (x y : Framebuffer). RisesTo nat_le x.framebuffer y.framebuffer) (is_made_by c) s.modes.framebuffers (in_order s.modes.framebuffers (modes_so s t).framebuffers_rise)) in
    sorted-same nat_le (λ x y. x == y) order_of_numbers (map id (filter mine w.framebuffers))
    (modes.framebuffers_of s.modes c) rise
    (λ test. same-map id (filter mine w.framebuffers) (filter mine (framebuffers_of s)) (same-filter mine w.framebuffers (framebuffers_of s) (framebuffers_are s w h)) test ∙ ap (λ l. length (filter test l)) theirs)
