-- The masters and the clients that belong to them, as flat lists in the order of step numbers (drm(7), masters;
-- drm-uapi, leases).
use Rattle.std.specs.Prelude.{◌≡◌, ℕ, ◌==◌, ◌<◌, ◌≤◌, nat_lt, Bool, true, false, not, ◌&&◌, ◌||◌, List, length, Option, None, Some, find, filter, map, slice_get, if◌then◌else◌}
use Rattle.std.specs.List.{list_any, AllByRecursion}
use Rattle.std.specs.Option.{is_some, option_map, option_map_or, option_and_then}
use Rattle.drm_index_array.specs.Least.{least}
use Rattle.drm_index_array.specs.Orders.{InOrder}
use Rattle.drm_index_array.specs.Chains as chains
use Rattle.drm_index_array.specs.Chains.{is_under, top_of}
use Rattle.drm_masters.specs.declared.rows.Magic.{Magic}
use Rattle.drm_masters.specs.declared.rows.Master.{Master}
use Rattle.drm_masters.specs.declared.rows.MasterRow.{MasterRow}
use Rattle.drm_masters.specs.declared.rows.MasterRow.TheVariants.{Client, Master as MasterIs}
use Rattle.drm_masters.specs.declared.rows.Member.{Member}

-- a client, a master and the device's master are named by their step numbers; magics run to one number, the ids of lessees to
-- another
pub record MasterSet : Type 0 where
  pub members : List Member
  pub masters : List Master
  pub device_master : Option ℕ
  pub last_magic : ℕ
  pub last_lessee : ℕ

-- whether an option is a number
abbrev pub is_option : ℕ → Option ℕ → Bool
is_option n None = false
is_option n (Some m) = m == n

-- clients

-- whether the row is the client's
abbrev pub is_client : ℕ → Member → Bool
is_client c x = x.client == c

-- the order of the clients
abbrev pub member_before : Member → Member → Bool
member_before x y = nat_lt x.client y.client

-- the row of a client, if it belongs to a master
abbrev pub member_of : List Member → ℕ → Option Member
member_of members c = find (is_client c) members

-- masters

-- whether the master has the step number
abbrev pub is_step_number : ℕ → Master → Bool
is_step_number m x = x.step_number == m

-- whether the master has the key
abbrev pub is_key : ℕ → Master → Bool
is_key key x = x.key == key

-- the order of the masters
abbrev pub master_before : Master → Master → Bool
master_before x y = nat_lt x.step_number y.step_number

-- the master with a step number, if it exists
abbrev pub master_at : List Master → ℕ → Option Master
master_at masters m = find (is_step_number m) masters

-- the master of a key; 0 if none has it
abbrev pub step_number_at : List Master → ℕ → ℕ
step_number_at masters key = option_map_or (λ (x : Master). x.step_number) (find (is_key key) masters) 0

-- the key of a master, if it is there
abbrev pub key_of : List Master → ℕ → Option ℕ
key_of masters m = option_map (λ (x : Master). x.key) (master_at masters m)

-- the key is that of a master which exists
abbrev pub IsKeyOf : List Master → ℕ → ℕ → Type 0
IsKeyOf masters m key = option_map (λ (x : Master). x.step_number) (find (is_key key) masters) ≡ Some m

-- whether a master has the key
abbrev pub is_there : List Master → ℕ → Bool
is_there masters key = is_some (find (is_key key) masters)

-- the lessor of a master, if it is a lessee
abbrev pub lessor_of : List Master → ℕ → Option ℕ
lessor_of masters m = option_and_then (λ (x : Master). x.lessor) (master_at masters m)

-- the direct lessees of a master, in the order of step numbers
abbrev pub lessees_of : List Master → ℕ → List ℕ
lessees_of masters m = map (λ (x : Master). x.step_number) (filter (λ (x : Master). is_option m x.lessor) masters)

-- whether a master is a lessee
abbrev pub is_lessee : List Master → ℕ → Bool
is_lessee masters m = is_some (lessor_of masters m)

-- the owner of a master: the top of its chain of lessors
abbrev pub owner_of : List Master → ℕ → ℕ
owner_of masters m = top_of (lessor_of masters) m

-- how many lessors are above a master: 0 if it has none, else one more than above its lessor (own)
abbrev pub depth_of : List Master → ℕ → ℕ
depth_of masters m = chains.depth_of (lessor_of masters) m

-- whether a master is below the one named top, and not that one
abbrev pub is_below : List Master → ℕ → ℕ → Bool
is_below masters top m = is_under (lessor_of masters) top m && not (m == top)

-- current: a client that is a master, whose master's owner is the device's
abbrev pub is_current_among : List Master → Option ℕ → Member → Bool
is_current_among masters device x = x.is_master && is_option (owner_of masters x.master) device

-- whether a client is current, by its row (`drm_is_current_master`)
abbrev pub is_current_member : MasterSet → Member → Bool
is_current_member v x = is_current_among v.masters v.device_master x

-- whether a client is current
abbrev pub is_current : MasterSet → ℕ → Bool
is_current v c = option_map_or (is_current_member v) (member_of v.members c) false

-- which masters stay

-- whether it is kept, or a client names it
abbrev pub is_held : List Member → Master → Bool
is_held members x = x.kept || list_any (λ (y : Member). y.master == x.step_number) members

-- whether it is held, or some master's lessor
abbrev pub is_used : List Member → List Master → Master → Bool
is_used members masters x = is_held members x || list_any (λ (y : Master). is_option x.step_number y.lessor) masters

-- whether the master or one below it is held
abbrev pub is_living : List Member → List Master → ℕ → Bool
is_living members masters m =
    list_any (λ (x : Master). is_held members x && is_under (lessor_of masters) m x.step_number) masters

-- a master is freed with the last that is held below it
abbrev pub swept : MasterSet → MasterSet
swept v = record v { masters = filter (λ (x : Master). is_living v.members v.masters x.step_number) v.masters }

-- the row at a place of an audit's kind, of which clients are the first and masters the second (own)
abbrev pub nth_row : MasterSet → ℕ → ℕ → Option MasterRow
nth_row v kind i =
    if kind == 1 then option_map Client (slice_get v.members i)
    else if kind == 2 then option_map MasterIs (slice_get v.masters i)
    else None

-- magics

-- whether the client has the number under the master
abbrev pub has_magic : ℕ → ℕ → Member → Bool
has_magic m n x = (x.master == m) && option_map_or (λ (g : Magic). g.number == n) x.magic false

-- whether it has it unspent
abbrev pub has_open_magic : ℕ → ℕ → Member → Bool
has_open_magic m n x = (x.master == m) && option_map_or (λ (g : Magic). (g.number == n) && not g.spent) x.magic false

-- the lowest number that no client has under the master (drm(7); the kernel's IDR returns the least)
abbrev pub free_magic : MasterSet → ℕ → Option ℕ
free_magic v m = least (λ n. not (list_any (has_magic m n) v.members)) 1 v.last_magic

-- lessees

-- whether it is a lessee of this id under the owner
abbrev pub is_lessee_of : List Master → ℕ → ℕ → Master → Bool
is_lessee_of masters owner id x = is_some x.lessor && (x.lessee_id == id) && (owner_of masters x.step_number == owner)

-- the lessee of this id among all of the master's owner
abbrev pub lessee_of : List Master → ℕ → ℕ → Option Master
lessee_of masters m id = find (is_lessee_of masters (owner_of masters m) id) masters

-- the lowest id that no lessee has under the owner of the master (drm-uapi, leases; ids own)
abbrev pub free_lessee : MasterSet → ℕ → Option ℕ
free_lessee v m =
    least (λ id. not (list_any (is_lessee_of v.masters (owner_of v.masters m) id) v.masters)) 1 v.last_lessee

-- what is so at all times

-- each lessor is there, and older
abbrev pub HasOlderLessor : List Master → Master → Type 0
HasOlderLessor masters x = (l : ℕ) → x.lessor ≡ Some l → (is_some (master_at masters l) ≡ true) × (l < x.step_number)

-- one of the two has no number, or they have two, or they belong to two masters
abbrev pub HaveOtherMagics : Member → Member → Type 0
HaveOtherMagics x y = (n : ℕ) → has_magic x.master n x ≡ true → has_magic x.master n y ≡ false

-- The lists are in the order of step numbers, and all that is named exists. The device's master is some client's own.
-- Neither it nor the master of a client that is no master has a lessor. Each master is held, or one below it. No two
-- clients of a master have one number, and there are no more clients than numbers. Ids of lessees are at most 64.
pub record AreMasters (v : MasterSet) : Type 0 where
  pub members_rise : InOrder (λ (x y : Member). x.client < y.client) v.members
  pub masters_rise : InOrder (λ (x y : Master). x.step_number < y.step_number) v.masters
  pub lessors_older : AllByRecursion (HasOlderLessor v.masters) v.masters
  pub masters_there : AllByRecursion (λ (x : Member). is_some (master_at v.masters x.master) ≡ true) v.members
  pub device_own : (m : ℕ) → v.device_master ≡ Some m
      → list_any (λ (x : Member). x.is_master && (x.master == m)) v.members ≡ true
  pub device_owner : (m : ℕ) → v.device_master ≡ Some m → lessor_of v.masters m ≡ None
  pub guests_of_owners : AllByRecursion (λ (x : Member). x.is_master ≡ false → lessor_of v.masters x.master ≡ None) v.members
  pub used : AllByRecursion (λ (x : Master). is_living v.members v.masters x.step_number ≡ true) v.masters
  pub magics_differ : InOrder HaveOtherMagics v.members
  pub few : length v.members ≤ v.last_magic
  pub few_ids : v.last_lessee ≤ 64
