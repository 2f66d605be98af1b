-- The effect of each call on masters and clients (drm(7); drm-uapi, leases).
use Rattle.std.specs.Prelude.{◌≡◌, ℕ, ◌<◌, Bool, true, false, not, ◌&&◌, ◌||◌, List, [], ◌∷◌, Option, None, Some, Result, Ok, Err, find, map, filter, if◌then◌else◌}
use Rattle.std.specs.List.{AllByRecursion}
use Rattle.std.specs.Option.{is_some, is_none}
use Rattle.drm_index_array.specs.Rows.{placed}
use Rattle.drm_table.specs.declared.rules.Rule.{Rule}
use Rattle.drm_table.specs.declared.rules.Rule.TheVariants.{MasterPerm, MasterBusy, IsLessee, NotCurrent, NoMagic}
use Rattle.drm_table.specs.Permit.{Check, check, first_failing}
use Rattle.drm_masters.specs.declared.faults.SetDone.{SetDone}
use Rattle.drm_masters.specs.declared.faults.SetDone.TheVariants.{Already, Again, Made}
use Rattle.drm_masters.specs.declared.faults.SetFault.{SetFault}
use Rattle.drm_masters.specs.declared.faults.SetFault.TheVariants.{Denied, NoMemory as SetNoMemory}
use Rattle.drm_masters.specs.declared.faults.LesseeFault.{LesseeFault}
use Rattle.drm_masters.specs.declared.faults.LesseeFault.TheVariants.{Full, NoMemory as LesseeNoMemory}
use Rattle.drm_masters.specs.declared.rows.Magic.{Magic}
use Rattle.drm_masters.specs.declared.rows.Master.{Master}
use Rattle.drm_masters.specs.declared.rows.Member.{Member}
use Rattle.drm_masters.specs.Masters.{MasterSet, is_client, member_before, master_before, is_step_number, is_key, is_option, IsKeyOf, is_lessee, is_current_member, has_open_magic, free_magic, free_lessee, swept}

-- each client that exists is older
abbrev pub IsNewClient : MasterSet → ℕ → Type 0
IsNewClient v c = AllByRecursion (λ (x : Member). x.client < c) v.members

-- each master that exists is older
abbrev pub IsNewStepNumber : MasterSet → ℕ → Type 0
IsNewStepNumber v step_number = AllByRecursion (λ (x : Master). x.step_number < step_number) v.masters

-- a key that no master has
abbrev pub IsFreeKey : MasterSet → ℕ → Type 0
IsFreeKey v key = find (is_key key) v.masters ≡ None

-- rows as they are made

-- a client's own master
abbrev pub founded_master : ℕ → ℕ → Master
founded_master key step_number =
    record { key = key; step_number = step_number; lessor = None; lessee_id = 0; kept = false }

-- a lessee, which is kept
abbrev pub lessee : ℕ → ℕ → ℕ → ℕ → Master
lessee key step_number lessor id =
    record { key = key; step_number = step_number; lessor = Some lessor; lessee_id = id; kept = true }

-- a client with its own master
abbrev pub owner : ℕ → ℕ → Member
owner c m = record { client = c; once_master = true; is_master = true; master = m; magic = None }

-- a client of another's master
abbrev pub non_master : ℕ → ℕ → Member
non_master c m = record { client = c; once_master = false; is_master = false; master = m; magic = None }

-- a client that redeemed a lessee: a master, but not once a master by that (own)
abbrev pub lease_client : ℕ → ℕ → Member
lease_client c m = record { client = c; once_master = false; is_master = true; master = m; magic = None }

-- the master under another key
abbrev pub keyed_as : ℕ → Master → Master
keyed_as key x = record x { key = key }

-- changes

-- one more client, at its place
abbrev pub with_member : Member → MasterSet → MasterSet
with_member x v = record v { members = placed member_before x v.members }

-- one more master, at its place
abbrev pub with_master : Master → MasterSet → MasterSet
with_master x v = record v { masters = placed master_before x v.masters }

-- the set with another device's master, or none
abbrev pub with_device : Option ℕ → MasterSet → MasterSet
with_device m v = record v { device_master = m }

-- the set without a client
abbrev pub without_member : ℕ → MasterSet → MasterSet
without_member c v = record v { members = filter (λ (x : Member). not (is_client c x)) v.members }

-- the clients, with this row for its client
abbrev pub changed_member : Member → MasterSet → MasterSet
changed_member y v = record v { members = map (λ (x : Member). if is_client y.client x then y else x) v.members }

-- the master, kept or not
abbrev pub kept_as : Bool → Master → Master
kept_as kept x = record x { kept = kept }

-- the master is kept, or not any more
abbrev pub with_kept : ℕ → Bool → MasterSet → MasterSet
with_kept m kept v =
    record v { masters = map (λ (x : Master). if is_step_number m x then kept_as kept x else x) v.masters }

-- the chosen masters are kept no more
abbrev pub released : (ℕ → Bool) → MasterSet → MasterSet
released chosen v =
    record v { masters = map (λ (x : Master). if chosen x.step_number then kept_as false x else x) v.masters }

-- the client with a number under its master
abbrev pub with_magic : ℕ → Bool → Member → Member
with_magic n spent x = record x { magic = Some (record { number = n; spent = spent }) }

-- openings

-- without a device's master the client founds one, else it belongs to the device's and is no master
abbrev pub Opened : MasterSet → ℕ → ℕ → Option ℕ → MasterSet → Type 0
Opened v c step_number None new =
    (key : ℕ) × IsFreeKey v key ×
    (new ≡ with_device (Some step_number) (with_member (owner c step_number) (with_master (founded_master key step_number) v)))
Opened v c step_number (Some m) new = new ≡ with_member (non_master c m) v

-- the set with a client that redeemed a lessee
abbrev pub redeemed : ℕ → ℕ → MasterSet → MasterSet
redeemed c m v = with_kept m false (with_member (lease_client c m) v)

-- SET_MASTER and DROP_MASTER

-- the rules of SET_MASTER, in order; who is current is done after the first
unfoldable pub set_checks : MasterSet → Member → Bool → List Check
set_checks v x root =
    check MasterPerm (x.once_master || root)
    ∷ check MasterBusy (is_current_member v x || not (is_some v.device_master))
    ∷ check IsLessee (is_current_member v x || not (x.is_master && is_lessee v.masters x.master))
    ∷ []

-- the rules of DROP_MASTER, in order (drm-uapi)
unfoldable pub drop_checks : MasterSet → Member → Bool → List Check
drop_checks v x root =
    check MasterPerm (x.once_master || root)
    ∷ check NotCurrent (is_current_member v x)
    ∷ check IsLessee (not (is_lessee v.masters x.master))
    ∷ []

-- a new master of a client, which becomes the device's; a master that no client holds any more is freed
abbrev pub remade : ℕ → ℕ → ℕ → MasterSet → MasterSet
remade c key step_number v =
    swept
    (with_device (Some step_number) (changed_member (owner c step_number) (with_master (founded_master key step_number) v)))

-- SET_MASTER makes a new master: no rule denies it, and the client is no master
unfoldable pub sets_new : MasterSet → Member → Bool → Bool
sets_new v x root = not x.is_master && is_none (first_failing (set_checks v x root))

-- who is current is done, who is no master gets a new one, and any other has its own set again
abbrev pub SetBy : MasterSet → Member → ℕ → SetDone → MasterSet → Type 0
SetBy v x step_number Already new = (is_current_member v x ≡ true) × (new ≡ v)
SetBy v x step_number Again new =
    (is_current_member v x ≡ false) × (x.is_master ≡ true) × (new ≡ with_device (Some x.master) v)
SetBy v x step_number Made new =
    (is_current_member v x ≡ false) × (x.is_master ≡ false) ×
    ((key : ℕ) × IsFreeKey v key × (new ≡ remade x.client key step_number v))

-- memory is refused only if a new master is made
abbrev pub SetOf : MasterSet → Member → Bool → ℕ → Result SetDone SetFault → MasterSet → Type 0
SetOf v x root step_number (Ok done) new = (first_failing (set_checks v x root) ≡ None) × SetBy v x step_number done new
SetOf v x root step_number (Err (Denied rule)) new = (first_failing (set_checks v x root) ≡ Some rule) × (new ≡ v)
SetOf v x root step_number (Err SetNoMemory) new =
    (first_failing (set_checks v x root) ≡ None) × (is_current_member v x ≡ false) × (x.is_master ≡ false) × (new ≡ v)

-- the result of DROP_MASTER
abbrev pub DroppedBy : MasterSet → Member → Bool → Result (Unit {0}) Rule → MasterSet → Type 0
DroppedBy v x root (Ok u) new = (first_failing (drop_checks v x root) ≡ None) × (new ≡ with_device None v)
DroppedBy v x root (Err rule) new = (first_failing (drop_checks v x root) ≡ Some rule) × (new ≡ v)

-- magics

-- the number that the client has, or else the lowest free one
abbrev pub GaveMagic : MasterSet → Member → Option Magic → ℕ → MasterSet → Type 0
GaveMagic v x (Some g) n new = (n ≡ g.number) × (new ≡ v)
GaveMagic v x None n new = (free_magic v x.master ≡ Some n) × (new ≡ changed_member (with_magic n false x) v)

-- the client under the caller's master that has the number unspent; it is spent then
abbrev pub AuthenticatedBy : MasterSet → ℕ → ℕ → Result ℕ Rule → MasterSet → Type 0
AuthenticatedBy v m n (Ok d) new =
    (y : Member) × (find (has_open_magic m n) v.members ≡ Some y) × (d ≡ y.client) ×
    (new ≡ changed_member (with_magic n true y) v)
AuthenticatedBy v m n (Err rule) new = (find (has_open_magic m n) v.members ≡ None) × (rule ≡ NoMagic) × (new ≡ v)

-- closings

-- the closing client's own master is kept, and is no longer the device's
abbrev pub closed_own : ℕ → ℕ → MasterSet → MasterSet
closed_own c m v =
    with_device (if is_option m v.device_master then None else v.device_master) (with_kept m true (without_member c v))

-- its key is returned
abbrev pub ClosedOf : MasterSet → Member → Bool → Option ℕ → MasterSet → Type 0
ClosedOf v x true own new =
    ((key : ℕ) × (own ≡ Some key) × IsKeyOf new.masters x.master key) × (new ≡ closed_own x.client x.master v)
ClosedOf v x false own new = (own ≡ None) × (new ≡ swept (without_member x.client v))

-- the result of a closing
abbrev pub ClosedBy : MasterSet → Option Member → Option ℕ → MasterSet → Type 0
ClosedBy v None own new = (own ≡ None) × (new ≡ v)
ClosedBy v (Some x) own new = ClosedOf v x x.is_master own new

-- lessees

-- the result of creating a lessee
abbrev pub MadeLessee : MasterSet → ℕ → ℕ → Result (ℕ × ℕ) LesseeFault → MasterSet → Type 0
MadeLessee v m step_number (Ok made) new =
    IsFreeKey v made.0 × (free_lessee v m ≡ Some made.1) × (new ≡ with_master (lessee made.0 step_number m made.1) v)
MadeLessee v m step_number (Err Full) new = (free_lessee v m ≡ None) × (new ≡ v)
MadeLessee v m step_number (Err LesseeNoMemory) new = (is_some (free_lessee v m) ≡ true) × (new ≡ v)
