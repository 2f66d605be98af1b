-- What a client controls and sees of the fixed mode objects (drm-uapi, leases and universal planes), and the lists and masks
-- that show it.
use Rattle.std.specs.Prelude.{ℕ, ◌==◌, Bool, false, not, ◌&&◌, ◌||◌, List, Option, None, Some, map, filter}
use Rattle.std.specs.List.{list_any}
use Rattle.std.specs.Option.{is_some, option_map_or}
use Rattle.drm_modes.specs.LeaseRules as rules
use Rattle.drm_modes.specs.Topology.{crtc_ids, plane_ids, connector_ids, is_crtc, is_plane, is_connector, mask_over}
use Rattle.drm_model.specs.Numbers.{rising}
use Rattle.drm_model.specs.ClientCapabilities.{ClientCapabilities, no_capabilities}
use Rattle.drm_model.specs.Rows.{Rows, ClientRow, GrantRow, FramebufferRow, client_row}
use Rattle.drm_model.specs.Masters.{master_of, lessor_of}

-- whether the lease of a master has the mode object
abbrev pub is_granted : Rows → ℕ → ℕ → Bool
is_granted w m x = list_any (λ (row : GrantRow). (row.master == m) && (row.mode_object == x)) w.grants

-- a master without a lessor controls all, a lessee what its lease has, and who has no master nothing
abbrev pub master_controls : Rows → Option ℕ → ℕ → Bool
master_controls w None x = false
master_controls w (Some m) x = not (is_some (lessor_of w.masters m)) || is_granted w m x

-- whether the client controls a fixed mode object: its master does
unfoldable pub controls : Rows → ℕ → ℕ → Bool
controls w c x = master_controls w (master_of w c) x

-- the capabilities that an open client has on
abbrev pub client_capabilities : Rows → ℕ → ClientCapabilities
client_capabilities w c = option_map_or (λ (row : ClientRow). row.capabilities) (client_row w c) no_capabilities

-- whether the client has universal planes on
abbrev pub has_universal : Rows → ℕ → Bool
has_universal w c = (client_capabilities w c).universal_planes

-- whether the client sees a fixed mode object
unfoldable pub sees : Rows → ℕ → ℕ → Bool
sees w c x = rules.sees w.topology (controls w c x) (has_universal w c) x

-- whether a client sees a CRTC with this id
abbrev pub sees_crtc : Rows → ℕ → ℕ → Bool
sees_crtc w c x = is_crtc w.topology x && sees w c x

-- whether a client sees a plane with this id
abbrev pub sees_plane : Rows → ℕ → ℕ → Bool
sees_plane w c x = is_plane w.topology x && sees w c x

-- whether a client sees a connector with this id
abbrev pub sees_connector : Rows → ℕ → ℕ → Bool
sees_connector w c x = is_connector w.topology x && sees w c x

-- lists of what is seen, rising by id (own)

-- the CRTCs that a client sees
abbrev pub visible_crtcs : Rows → ℕ → List ℕ
visible_crtcs w c = filter (sees w c) (crtc_ids w.topology)

-- the planes that a client sees
abbrev pub visible_planes : Rows → ℕ → List ℕ
visible_planes w c = filter (sees w c) (plane_ids w.topology)

-- the connectors that a client sees
abbrev pub visible_connectors : Rows → ℕ → List ℕ
visible_connectors w c = filter (sees w c) (connector_ids w.topology)

-- framebuffers need no lease, and only the client's own are listed (rising: own)
abbrev pub own_framebuffers : Rows → ℕ → List ℕ
own_framebuffers w c =
    rising
    (map (λ (row : FramebufferRow). row.framebuffer) (filter (λ (row : FramebufferRow). row.client == c) w.framebuffers))

-- the possible CRTCs of a plane or an encoder, as a mask over those that the client sees (for planes own)
abbrev pub visible_mask : Rows → ℕ → ℕ → ℕ
visible_mask w c x = mask_over w.topology x (visible_crtcs w c)
