-- The clients that the fields represent (own).
use Rattle.drm_id_alloc.specs.Groups.{has, AreGroupsOf}
use Rattle.drm_masters.specs.declared.members.Members.TheInside.{Inside}
use Rattle.drm_masters.specs.declared.members.Membership.{Membership}
use Rattle.drm_masters.specs.Tables.{MemberRows, members_in}

-- the rows in the fields
abbrev pub rows_of : Inside → MemberRows
rows_of a = record { items = members_in a.clients.items }

-- each client is in the group of its master
abbrev pub AreNamed : Inside → Type 0
AreNamed a = AreGroupsOf (λ (x : Membership). x.master) a.clients.items (has a.named)
