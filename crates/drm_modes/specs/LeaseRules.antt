-- The rules of CREATE_LEASE, and what a client sees, by the properties of the lessor and of the ids (drm-uapi, leases).
-- Their order, how deep lessees may lease, and the rule of ids that occur twice are own. So is what an empty list is,
-- and the planes that are added for a CRTC. The leases and the model both read them here.
use Rattle.std.specs.Prelude.{ℕ, ◌==◌, nat_lt, Bool, not, ◌&&◌, ◌||◌, if◌then◌else◌, List, [], ◌∷◌, filter}
use Rattle.std.specs.List.{list_any, list_all}
use Rattle.std.specs.Option.{is_some}
use Rattle.drm_index_array.specs.Numbers.{count}
use Rattle.drm_table.specs.declared.rules.Rule.TheVariants.{SubLease, NoModeObject, NotLeasable, Repeated, LeaseShape, LeasedOut, Full}
use Rattle.drm_table.specs.Permit.{Check, check}
use Rattle.drm_modes.specs.Topology.{Topology, kind_of, is_crtc, is_plane, is_encoder, is_connector, is_primary_or_cursor, planes_of}

-- the depth at which a lessee makes no lease any more (own)
abbrev pub last_depth : ℕ
last_depth = 8

-- whether a master of this depth may lease: an owner, or a lessee that isn't so deep
abbrev pub may_lease : ℕ → Bool
may_lease depth = nat_lt depth last_depth

-- primary and cursor planes are shown with universal planes on alone
abbrev pub is_shown : Topology → Bool → ℕ → Bool
is_shown t universal x = not (is_primary_or_cursor t x) || universal

-- whether a fixed mode object is seen: all see an encoder, and of the rest each client what it controls and is shown
abbrev pub sees : Topology → Bool → Bool → ℕ → Bool
sees t controlled universal x = is_encoder t x || (controlled && is_shown t universal x)

-- a fixed object that is seen, or any framebuffer
abbrev pub is_seen : Topology → Bool → Bool → ℕ → Bool
is_seen t seen framebuffer x = (is_some (kind_of t x) && seen) || framebuffer

-- whether an id may be leased: not an encoder's or a framebuffer's
abbrev pub is_leasable : Topology → Bool → ℕ → Bool
is_leasable t framebuffer x = not (is_encoder t x || framebuffer)

-- whether an id occurs once
abbrev pub stands_once : List ℕ → ℕ → Bool
stands_once ids x = count ids x == 1

-- a CRTC and a connector at least, and with universal planes on a plane
abbrev pub is_lease : Topology → Bool → List ℕ → Bool
is_lease t universal ids =
    list_any (is_crtc t) ids && list_any (is_connector t) ids && (not universal || list_any (is_plane t) ids)

-- the added planes: with universal planes off, of each listed CRTC the primary and the cursor plane that is controlled
abbrev pub brought_along : Topology → Bool → (ℕ → Bool) → List ℕ → List ℕ
brought_along t universal controls ids = if universal then [] else filter controls (planes_of t ids)

-- the rules in order (own), and whether each holds
abbrev pub rules_in_order : (may_lease seen leasable once shaped free room : Bool) → List Check
rules_in_order may_lease seen leasable once shaped free room =
    check SubLease may_lease
    ∷ check NoModeObject seen
    ∷ check NotLeasable leasable
    ∷ check Repeated once
    ∷ check LeaseShape shaped
    ∷ check LeasedOut free
    ∷ check Full room
    ∷ []

-- The rules, each over all ids, once the flags of the call's row have passed. `seen` is `sees` of each id and
-- `framebuffer` whether it is a framebuffer's. `leased_out`: a direct lessee of the lessor has one of the ids or of the
-- added planes. `has_room`: a lessee id and a lease token are free.
abbrev pub lease_checks : Topology → ℕ → (ℕ → Bool) → (ℕ → Bool) → Bool → Bool → Bool → List ℕ → List Check
lease_checks t depth seen framebuffer universal leased_out has_room ids =
    rules_in_order
    (may_lease depth)
    (list_all (λ x. is_seen t (seen x) (framebuffer x) x) ids)
    (list_all (λ x. is_leasable t (framebuffer x) x) ids)
    (list_all (stands_once ids) ids)
    (is_lease t universal ids)
    (not leased_out)
    has_room
