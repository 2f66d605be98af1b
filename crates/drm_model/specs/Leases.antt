-- MODE_CREATE_LEASE, MODE_LIST_LESSEES, MODE_GET_LEASE and MODE_REVOKE_LEASE (drm-uapi, leases). These parts are own:
-- lease tokens, the limits, how deep lessees may lease, and that each rule is tested of all ids before the next. So are
-- the planes that are added for a CRTC, and that an owner has a lease of all.
use Rattle.std.specs.Prelude.{ℕ, ◌==◌, Bool, false, not, ◌&&◌, List, [], ◌∷◌, ◌++◌, Option, None, Some, unwrap_or, find, map, filter, if◌then◌else◌}
use Rattle.std.specs.List.{list_any}
use Rattle.std.specs.Option.{is_some, option_map, option_map_or}
use Rattle.drm_index_array.specs.Least.{least}
use Rattle.drm_table.specs.declared.answers.Answer.TheVariants.{Lease, List as ListIs}
use Rattle.drm_table.specs.declared.rules.Rule.TheVariants.{NoLessee, NotYourLessee}
use Rattle.drm_table.specs.Permit.{check}
use Rattle.drm_modes.specs.LeaseRules as rules
use Rattle.drm_modes.specs.Numbers.{numbers_from}
use Rattle.drm_modes.specs.Topology.{Topology, crtc_ids, plane_ids, connector_ids}
use Rattle.drm_model.specs.Numbers.{rising, next_in_turn}
use Rattle.drm_model.specs.Rows.{Rows, MasterRow, GrantRow, step_number, without, is_option, is_framebuffer}
use Rattle.drm_model.specs.Masters.{master_row, lessor_of, is_lessee, owner_of, depth_of, is_under}
use Rattle.drm_model.specs.Sees.{controls, has_universal, sees}
use Rattle.drm_model.specs.Magics.{caller_master}
use Rattle.drm_model.specs.Meaning.{Meaning, nothing}

-- ---- open lease tokens, and what ends

-- the master whose open lease token this is
abbrev pub lease_master : Rows → ℕ → Option MasterRow
lease_master w token = find (λ row. is_option token row.lease_token) w.masters

-- the grants and open lease tokens of a master and of all below it go
unfoldable pub ended : Rows → ℕ → Rows
ended w top = record w {
  grants = without (λ row. is_under w.masters top row.master) w.grants;
  masters =
      map (λ (row : MasterRow). if is_under w.masters top row.master then record row { lease_token = None } else row)
      w.masters;
}

-- ---- the rules for the caller that leases, and for the ids

-- whether the master may lease: an owner, or a lessee that isn't so deep
abbrev pub may_lease : List MasterRow → ℕ → Bool
may_lease rows m = rules.may_lease (depth_of rows m)

-- a fixed object that the client sees, or a framebuffer of any client
abbrev pub is_seen : Rows → ℕ → ℕ → Bool
is_seen w c x = rules.is_seen w.topology (sees w c x) (is_framebuffer w x) x

-- whether an id may be leased
abbrev pub is_leasable : Rows → ℕ → Bool
is_leasable w x = rules.is_leasable w.topology (is_framebuffer w x) x

-- the added planes: with universal planes off, of each listed CRTC the primary and the cursor plane that the client
-- controls
abbrev pub brought_along : Rows → ℕ → List ℕ → List ℕ
brought_along w c ids = rules.brought_along w.topology (has_universal w c) (controls w c) ids

-- all that is leased
abbrev pub leased : Rows → ℕ → List ℕ → List ℕ
leased w c ids = ids ++ brought_along w c ids

-- whether a direct lessee of the master has it, redeemed or not
abbrev pub is_leased_out : Rows → ℕ → ℕ → Bool
is_leased_out w m x =
    list_any (λ (grant : GrantRow). (grant.mode_object == x) && is_option m (lessor_of w.masters grant.master)) w.grants

-- ---- the numbers of a new lessee

-- a lessee with this owner that has the id
abbrev pub is_lessee_of : List MasterRow → ℕ → ℕ → MasterRow → Bool
is_lessee_of rows owner id row = is_some row.lessor && (row.lessee_id == id) && (owner_of rows row.master == owner)

-- the lowest id that no lessee with the owner of this master has (the kernel's IDR returns the lowest; the limit is
-- own)
abbrev pub free_lessee : Rows → ℕ → Option ℕ
free_lessee w m =
    least (λ id. not (list_any (is_lessee_of w.masters (owner_of w.masters m) id) w.masters)) 1 w.limits.lessees

-- whether no open lease token has the number
abbrev pub is_free_lease_token : Rows → ℕ → Bool
is_free_lease_token w token = not (list_any (λ (row : MasterRow). is_option token row.lease_token) w.masters)

-- the next lease token in rotation
abbrev pub next_lease_token : Rows → Option ℕ
next_lease_token w = next_in_turn (is_free_lease_token w) w.last_lease_token w.limits.tokens

-- the id and the lease token of a new lessee; 0 if none is free
abbrev pub new_lessee_id : Rows → ℕ → ℕ
new_lessee_id w m = unwrap_or (free_lessee w m) 0

-- the token of a new lease; 0 if none is free
abbrev pub new_lease_token : Rows → ℕ
new_lease_token w = unwrap_or (next_lease_token w) 0

-- a master that this one lent, with its lease token
abbrev pub new_lessee : Rows → ℕ → MasterRow
new_lessee w m =
    record
    { master = step_number w; lessor = Some m; lessee_id = new_lessee_id w m; lease_token = Some (new_lease_token w) }

-- a row with a lessee and a mode object
abbrev pub grant : ℕ → ℕ → GrantRow
grant m x = record { master = m; mode_object = x }

-- ---- the calls

-- what it means where the caller's master is this one
abbrev pub create_lease_of : Rows → ℕ → ℕ → List ℕ → Meaning
create_lease_of w c m ids = record {
  checks =
      rules.lease_checks w.topology (depth_of w.masters m) (sees w c) (is_framebuffer w) (has_universal w c)
      (list_any (is_leased_out w m) (leased w c ids)) (is_some (free_lessee w m) && is_some (next_lease_token w)) ids;
  rows = record w {
    masters = w.masters ++ new_lessee w m ∷ [];
    grants = w.grants ++ map (grant (step_number w)) (leased w c ids);
    last_lease_token = new_lease_token w;
  };
  answer = Lease (new_lessee_id w m) (new_lease_token w);
}

-- MODE_CREATE_LEASE: a new lessee of the caller's master, which has these mode objects and the added planes
abbrev pub create_lease : Rows → ℕ → List ℕ → Meaning
create_lease w c ids = create_lease_of w c (caller_master w c) ids

-- whether the grant is in the lease of a direct lessee that has the id
abbrev pub is_lessee_grant : List MasterRow → ℕ → ℕ → GrantRow → Bool
is_lessee_grant rows m id grant =
    option_map_or (λ (row : MasterRow). is_option m row.lessor && (row.lessee_id == id)) (master_row rows grant.master)
    false

-- whether a direct lessee has the id and a lease that isn't empty
abbrev pub has_lessee : Rows → ℕ → ℕ → Bool
has_lessee w m id = list_any (is_lessee_grant w.masters m id) w.grants

-- MODE_LIST_LESSEES: the ids of the direct lessees whose lease isn't empty, rising (own)
abbrev pub list_lessees : Rows → ℕ → Meaning
list_lessees w c =
    record (nothing w) { answer = ListIs (filter (has_lessee w (caller_master w c)) (numbers_from 1 w.limits.lessees)) }

-- what is in the lease of a master
abbrev pub granted_of : Rows → ℕ → List ℕ
granted_of w m = map (λ (row : GrantRow). row.mode_object) (filter (λ (row : GrantRow). row.master == m) w.grants)

-- the CRTCs, planes and connectors
abbrev pub leasable_ids : Topology → List ℕ
leasable_ids t = crtc_ids t ++ plane_ids t ++ connector_ids t

-- MODE_GET_LEASE: what the lease of the caller's master has, rising; all that can be leased where it is no lessee
abbrev pub get_lease : Rows → ℕ → Meaning
get_lease w c =
    record (nothing w)
    { answer = ListIs (if is_lessee w c then rising (granted_of w (caller_master w c)) else leasable_ids w.topology) }

-- the lessee of this id with the owner of the master
abbrev pub lessee_row : Rows → ℕ → ℕ → Option MasterRow
lessee_row w m id = find (is_lessee_of w.masters (owner_of w.masters m) id) w.masters

-- its step number; 0 if there is none
abbrev pub lessee_master : Rows → ℕ → ℕ → ℕ
lessee_master w m id = unwrap_or (option_map (λ (row : MasterRow). row.master) (lessee_row w m id)) 0

-- what it means where the caller's master is this one
abbrev pub revoke_lease_of : Rows → ℕ → ℕ → Meaning
revoke_lease_of w m id = record (nothing w) {
  checks =
      check NoLessee (is_some (lessee_row w m id))
      ∷ check NotYourLessee (option_map_or (λ (row : MasterRow). is_option m row.lessor) (lessee_row w m id) false)
      ∷ [];
  rows = ended w (lessee_master w m id);
}

-- MODE_REVOKE_LEASE: the lease of a direct lessee ends, and all that was lent from it; a lessee with a client keeps its id
abbrev pub revoke_lease : Rows → ℕ → ℕ → Meaning
revoke_lease w c id = revoke_lease_of w (caller_master w c) id
