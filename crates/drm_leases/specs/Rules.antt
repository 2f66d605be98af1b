-- The rules of CREATE_LEASE by what leases, masters and modes have (drm-uapi, leases; what each rule asks, and their
-- order, `LeaseRules` of drm_modes says).
use Rattle.std.specs.Prelude.{ℕ, Bool, not, ◌&&◌, List, ◌++◌}
use Rattle.std.specs.List.{list_any, list_all}
use Rattle.std.specs.Option.{is_some}
use Rattle.drm_table.specs.Permit.{Check}
use Rattle.drm_modes.specs.LeaseRules as rules
use Rattle.drm_modes.specs.Topology.{Topology}
use Rattle.drm_modes.specs.Modes.{ModeSet, has_framebuffer}
use Rattle.drm_masters.specs.declared.rows.Master.{Master}
use Rattle.drm_masters.specs.Masters.{MasterSet, depth_of, free_lessee}
use Rattle.drm_leases.specs.declared.rows.Grant.{Grant}
use Rattle.drm_leases.specs.Leases.{LeaseSet, controls, is_leased_out, next_token}

-- whether a master may lease, by its depth
abbrev pub may_lease : List Master → ℕ → Bool
may_lease masters m = rules.may_lease (depth_of masters m)

-- whether a client that controls a mode object sees it
abbrev pub is_shown : Topology → Bool → ℕ → Bool
is_shown t universal x = rules.is_shown t universal x

-- whether a client of the master sees a fixed mode object, with universal planes on or off
abbrev pub sees : List Grant → List Master → Topology → ℕ → Bool → ℕ → Bool
sees grants masters t m universal x = rules.sees t (controls grants masters m x) universal x

-- whether a client of the master sees the id
abbrev pub is_seen : List Grant → List Master → ModeSet → ℕ → Bool → ℕ → Bool
is_seen grants masters s m universal x =
    rules.is_seen s.topology (sees grants masters s.topology m universal x) (has_framebuffer s x) x

-- whether an id may be leased
abbrev pub is_leasable : ModeSet → ℕ → Bool
is_leasable s x = rules.is_leasable s.topology (has_framebuffer s x) x

-- whether an id occurs once
abbrev pub stands_once : List ℕ → ℕ → Bool
stands_once ids x = rules.stands_once ids x

-- whether the ids are a lease
abbrev pub is_lease : Topology → Bool → List ℕ → Bool
is_lease t universal ids = rules.is_lease t universal ids

-- the planes that are added to a lease
abbrev pub brought_along : List Grant → List Master → Topology → ℕ → Bool → List ℕ → List ℕ
brought_along grants masters t m universal ids = rules.brought_along t universal (controls grants masters m) ids

-- all that is leased
abbrev pub leased : LeaseSet → MasterSet → ModeSet → ℕ → Bool → List ℕ → List ℕ
leased l v s m universal ids = ids ++ brought_along l.grants v.masters s.topology m universal ids

-- the rules for a master that leases these for a client with universal planes on or off, each rule over all ids; if
-- there is no room, the last
abbrev pub lease_rules : LeaseSet → MasterSet → ModeSet → ℕ → Bool → List ℕ → Bool → List Check
lease_rules l v s m universal ids room =
    rules.rules_in_order
    (may_lease v.masters m)
    (list_all (is_seen l.grants v.masters s m universal) ids)
    (list_all (is_leasable s) ids)
    (list_all (stands_once ids) ids)
    (is_lease s.topology universal ids)
    (not (list_any (is_leased_out l.grants v.masters m) (leased l v s m universal ids)))
    room

-- there is room where a lessee id and a token are free
unfoldable pub lease_checks : LeaseSet → MasterSet → ModeSet → ℕ → Bool → List ℕ → List Check
lease_checks l v s m universal ids =
    lease_rules l v s m universal ids (is_some (free_lessee v m) && is_some (next_token l))
