-- The facts that relate the parts of the device, and those that the next step may depend on (own).
use Rattle.std.specs.Prelude.{◌≡◌, ℕ, ◌≤◌, ◌<◌, ◌==◌, ◌||◌, true, false, List, ◌++◌, length, map, filter, find}
use Rattle.std.specs.List.{AllByRecursion}
use Rattle.std.specs.Option.{is_some}
use Rattle.drm_index_array.specs.Orders.{InOrder}
use Rattle.drm_index_array.specs.Numbers.{is_among, count}
use Rattle.drm_gem.specs.declared.object.Object.{Object}
use Rattle.drm_gem.specs.Objects.{ObjectSet, is_key, IsNewStepNumber}
use Rattle.drm_files.specs.declared.rows.FileClient.{FileClient}
use Rattle.drm_files.specs.declared.rows.FileHandle.{FileHandle}
use Rattle.drm_files.specs.Files.{is_open_client, handle_before}
use Rattle.drm_share.specs.declared.rows.SharedName.{SharedName}
use Rattle.drm_share.specs.Names.{NameList}
use Rattle.drm_masters.specs.declared.rows.Master.{Master}
use Rattle.drm_masters.specs.declared.rows.Member.{Member}
use Rattle.drm_masters.specs.Masters.{MasterSet, AreMasters, member_of, is_lessee}
use Rattle.drm_masters.specs.Calls as masters
use Rattle.drm_leases.specs.Tokens.{LeaseToken}
use Rattle.drm_leases.specs.Leases.{AreLeases, token_of}
use Rattle.drm_leases.specs.Calls.{IsNewLessee}
use Rattle.drm_leases.specs.Agreed.{AreAgreed}
use Rattle.drm_modes.specs.Modes.{AreModes}
use Rattle.drm_state.specs.declared.state.State.{State}
use Rattle.drm_state.specs.Parts.{keys_of, referring_keys}

-- the object counts the handles that name it, and what else refers to it
abbrev pub Counts : List ℕ → List ℕ → Object → Type 0
Counts keys refs x = (x.holds ≡ count keys x.key) × (x.refs ≡ count refs x.key)

-- Handles name `keys`, and what else refers to objects names `refs`. Each of them exists, each object is among them and
-- counts them, and no two objects have one key or one number.
pub record AreCounted (keys refs : List ℕ) (objects : List Object) : Type 0 where
  pub there : (key : ℕ) → is_among (keys ++ refs) key ≡ true → is_some (find (is_key key) objects) ≡ true
  pub counted : AllByRecursion (Counts keys refs) objects
  pub used : AllByRecursion (λ (x : Object). is_among (keys ++ refs) x.key ≡ true) objects
  pub keys_differ : InOrder (λ (x y : Object). (x.key == y.key) ≡ false) objects
  pub step_numbers_differ : InOrder (λ (x y : Object). (x.step_number == y.step_number) ≡ false) objects

-- an object without its counts
abbrev pub core : Object → Object
core x = record x { holds = 0; refs = 0 }

-- now there are those of the objects that a key names, whatever they count
abbrev pub AreThoseNamed : List Object → List ℕ → List Object → Type 0
AreThoseNamed objects keys now = map core now ≡ map core (filter (λ (x : Object). is_among keys x.key) objects)

-- each name is that of an object that a handle names
abbrev pub AreNamed : List ℕ → List SharedName → Type 0
AreNamed keys names = AllByRecursion (λ (x : SharedName). is_among keys x.object ≡ true) names

-- the names of the objects that handles name
abbrev pub names_among : List ℕ → NameList → NameList
names_among keys list = record list { names = filter (λ (x : SharedName). is_among keys x.object) list.names }

-- now handles name `keys`, and what else refers to objects `refs`: of the objects and the names there are those that they
-- leave, and the objects count them
pub record Leaves (all_names : NameList) (all_objects : ObjectSet) (keys refs : List ℕ) (now_names : NameList) (now_objects : ObjectSet) : Type 0 where
  pub invariants : AreCounted keys refs now_objects.objects
  pub those : AreThoseNamed all_objects.objects (keys ++ refs) now_objects.objects
  pub limit : now_objects.limit ≡ all_objects.limit
  pub names : now_names ≡ names_among keys all_names

-- a render client, or one that belongs to a master
abbrev pub HasMaster : MasterSet → FileClient → Type 0
HasMaster v f = (f.flags.render || is_some (member_of v.members f.client)) ≡ true

-- each open lease token is that of a lessee
abbrev pub AreOfLessees : List LeaseToken → List Master → Type 0
AreOfLessees tokens ms = AllByRecursion (λ (row : LeaseToken). is_lessee ms row.master ≡ true) tokens

-- those masters are kept that have an open lease token
abbrev pub AreKeptBy : List LeaseToken → List Master → Type 0
AreKeptBy tokens ms = AllByRecursion (λ (x : Master). x.kept ≡ is_some (token_of tokens x.step_number)) ms

-- The invariants of the parts:
--
-- - Clients that belong to masters are open, and all open clients but those of render nodes do.
-- - The facts of masters hold, and there are as many magics as clients may be open.
-- - The facts of leases hold. Their open tokens are of lessees, and of masters exactly those are kept that have one.
-- - Leases agree with masters, and the facts of mode objects hold.
-- - Handles are in the order of their clients and numbers.
-- - Objects are those that handles, tokens and framebuffers name, which they count. Names are of objects that handles
--   name.
pub data Invariant : Type 0 where
  MembersOpen : Invariant
  ClientsHave : Invariant
  MastersAre : Invariant
  MagicsSuffice : Invariant
  LeasesAre : Invariant
  TokensOfLessees : Invariant
  KeptHaveTokens : Invariant
  LeasesAgree : Invariant
  ModesAre : Invariant
  HoldsRise : Invariant
  ObjectsCounted : Invariant
  NamesHeld : Invariant

-- the state meets the invariant
unfoldable pub meets_invariant : Invariant → State → Type 0
meets_invariant MembersOpen s =
    AllByRecursion (λ (x : Member). is_open_client s.files x.client ≡ true) s.masters.members
meets_invariant ClientsHave s = AllByRecursion (HasMaster s.masters) s.files.clients
meets_invariant MastersAre s = AreMasters s.masters
meets_invariant MagicsSuffice s = s.masters.last_magic ≡ s.files.limit
meets_invariant LeasesAre s = AreLeases s.leases
meets_invariant TokensOfLessees s = AreOfLessees s.leases.tokens s.masters.masters
meets_invariant KeptHaveTokens s = AreKeptBy s.leases.tokens s.masters.masters
meets_invariant LeasesAgree s = AreAgreed s.leases s.masters
meets_invariant ModesAre s = AreModes s.modes
meets_invariant HoldsRise s = InOrder (λ (x y : FileHandle). handle_before x y ≡ true) s.files.holds
meets_invariant ObjectsCounted s = AreCounted (keys_of s.files.holds) (referring_keys s) s.objects.objects
meets_invariant NamesHeld s = AreNamed (keys_of s.files.holds) s.names.names

-- the state meets all invariants
abbrev pub MeetsInvariants : State → Type 0
MeetsInvariants s = (invariant : Invariant) → meets_invariant invariant s

-- the step of this number is later than those that made what exists, and a step makes one handle, one token and one
-- framebuffer at most
pub record IsLater (s : State) (step_number : ℕ) : Type 0 where
  pub clients : AllByRecursion (λ (f : FileClient). f.client < step_number) s.files.clients
  pub objects : IsNewStepNumber s.objects step_number
  pub masters : masters.IsNewStepNumber s.masters step_number
  pub leases : IsNewLessee s.leases step_number
  pub holds : length s.files.holds < step_number
  pub tokens : length s.tokens.tokens < step_number
  pub framebuffers : length s.modes.framebuffers < step_number

-- the state is ready for the step of this number; a journal has 100,000 places at most (own), and its steps are numbered from 1
pub record StepPrecondition (s : State) (step_number : ℕ) : Type 0 where
  pub invariants : MeetsInvariants s
  pub later : IsLater s step_number
  pub first : 1 ≤ step_number
  pub fits : step_number ≤ 100001
