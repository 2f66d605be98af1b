-- The lists that the records of clients and masters represent (own).
use Rattle.std.specs.Prelude.{◌≡◌, ℕ, ◌==◌, ◌&&◌, ◌||◌, not, Option, List, map as list_map, None, false}
use Rattle.std.specs.Ordering.{nat_cmp}
use Rattle.std.specs.FinMap as map
use Rattle.drm_masters.specs.declared.members.Membership.{Membership}
use Rattle.drm_masters.specs.declared.rows.Master.{Master}
use Rattle.drm_masters.specs.declared.rows.Member.{Member}
use Rattle.drm_id_alloc.specs.Groups.{Groups}
use Rattle.drm_masters.specs.Masters.{is_option, lessor_of}

-- a client and how it belongs to masters
abbrev pub member_row : ℕ × Membership → Member
member_row e =
    record
    { client = e.0; once_master = e.1.once_master; is_master = e.1.is_master; master = e.1.master; magic = e.1.magic }

-- the clients, in the order of their numbers
abbrev pub members_in : map.FinMap nat_cmp Membership → List Member
members_in clients = list_map member_row (map.entries clients)

-- the clients
pub record MemberRows : Type 0 where
  pub items : List Member

-- the value where no master is kept
abbrev pub nothing : Master
nothing = record { key = 0; step_number = 0; lessor = None; lessee_id = 0; kept = false }

-- the masters, in the order of their step numbers
pub record MasterRows : Type 0 where
  pub items : List Master

-- the step numbers of a master's lessees are in its group
abbrev pub AreLesseesOf : List Master → Groups → Type 0
AreLesseesOf ms groups = (m n : ℕ) → groups m n ≡ is_option m (lessor_of ms n)

-- a step number is listed with its lessor's besides
abbrev pub IsListed : Groups → Option ℕ → ℕ → Groups → Type 0
IsListed old lessor step_number new = (m n : ℕ) → new m n ≡ (old m n || (is_option m lessor && (n == step_number)))

-- or not any more
abbrev pub IsUnlisted : Groups → Option ℕ → ℕ → Groups → Type 0
IsUnlisted old lessor step_number new =
    (m n : ℕ) → new m n ≡ (old m n && not (is_option m lessor && (n == step_number)))
