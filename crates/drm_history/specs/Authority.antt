-- The facts that a device's history implies for its rows (own).
use Rattle.std.specs.Prelude.{◌≡◌, ℕ, ◌==◌, ◌&&◌, true, false, List, Some, IfSome}
use Rattle.std.specs.List.{AllByRecursion}
use Rattle.drm_index_array.specs.Orders.{InOrder}
use Rattle.drm_modes.specs.Topology.{Topology}
use Rattle.drm_model.specs.Rows.{Rows, MasterRow, MagicRow, is_option, client_has, is_open}
use Rattle.drm_model.specs.Masters.{master_of, owner_of}
use Rattle.drm_model.specs.Sees.{is_granted, client_capabilities}
use Rattle.drm_model.specs.Magics.{is_master}
use Rattle.drm_model.specs.Leases.{is_lessee_of}
use Rattle.drm_history.specs.History.{AnsweredEvent}
use Rattle.drm_history.specs.Effects.{AllSteps}
use Rattle.drm_history.specs.MasterState.{lease_in, owner_in, is_master_in, master_in}
use Rattle.drm_history.specs.Mastership.{has_become_master, master_since}
use Rattle.drm_history.specs.Lessees.{lessor_in, lessee_in, top_in, granted}
use Rattle.drm_history.specs.Magics.{magic_in, known}
use Rattle.drm_history.specs.Shown.{capabilities_in, KeepsToOverlays}
use Rattle.drm_history.specs.Closings.{StaysClosed}
use Rattle.drm_history.specs.SeesNothing.{KeepsSeeingNothing}

-- ---- of masters

-- the device's master is that of the history
abbrev pub OwnerFollows : Rows → List AnsweredEvent → Type 0
OwnerFollows w history = w.device_master ≡ owner_in history

-- an open client is a master exactly if the history says so, and has the master that it says
pub record ClientFollows (w : Rows) (history : List AnsweredEvent) (c : ℕ) : Type 0 where
  pub is_master : is_master w c ≡ is_master_in history c
  pub master : master_of w c ≡ master_in history c

-- each open client follows from the history
abbrev pub ClientsFollow : Rows → List AnsweredEvent → Type 0
ClientsFollow w history = (c : ℕ) → is_open w c ≡ true → ClientFollows w history c

-- a client is a master exactly if it has become one, and its master is the one that it has since
pub record MastersBecome (history : List AnsweredEvent) (c : ℕ) : Type 0 where
  pub is_master : is_master_in history c ≡ has_become_master history c
  pub master : master_in history c ≡ master_since history c

-- ---- of lessees

-- each open lease token is that of the last lease that answered it
abbrev pub LeaseTokensFollow : Rows → List AnsweredEvent → Type 0
LeaseTokensFollow w history =
    AllByRecursion (λ (row : MasterRow). IfSome row.lease_token (λ token. lease_in history token ≡ Some row.master))
    w.masters

-- each master has the lessor that the history says
abbrev pub LessorsFollow : Rows → List AnsweredEvent → Type 0
LessorsFollow w history = AllByRecursion (λ (row : MasterRow). row.lessor ≡ lessor_in history row.master) w.masters

-- the owner of each master is the top of its chain of lessors by the history
abbrev pub OwnersFollow : Rows → List AnsweredEvent → Type 0
OwnersFollow w history =
    AllByRecursion (λ (row : MasterRow). owner_of w.masters row.master ≡ top_in history row.master) w.masters

-- each lessee's id is that of the last lease that answered it to a client with the lessee's top
abbrev pub LesseesFollow : Rows → List AnsweredEvent → Type 0
LesseesFollow w history =
    AllByRecursion
    (λ (row : MasterRow). IfSome row.lessor (λ _. lessee_in history (top_in history row.master) row.lessee_id ≡ Some row.master))
    w.masters

-- the grants are those of the history
abbrev pub GrantsFollow : Topology → Rows → List AnsweredEvent → Type 0
GrantsFollow t w history = (m x : ℕ) → is_granted w m x ≡ granted t history m x

-- ---- of capabilities and magics

-- an open client has the capabilities on that the history says
abbrev pub CapabilitiesFollow : Rows → List AnsweredEvent → Type 0
CapabilitiesFollow w history = (c : ℕ) → is_open w c ≡ true → client_capabilities w c ≡ capabilities_in history c

-- each magic, spent or not, is that of the last GET_MAGIC that answered its number under its master
abbrev pub MagicsFollow : Rows → List AnsweredEvent → Type 0
MagicsFollow w history =
    AllByRecursion (λ (row : MagicRow). magic_in history row.master row.number ≡ Some row.client) w.magics

-- an open client is authenticated exactly if the history says so
abbrev pub AuthenticationFollows : Rows → List AnsweredEvent → Type 0
AuthenticationFollows w history =
    (c : ℕ) → is_open w c ≡ true → client_has (λ row. row.authenticated) w c ≡ known history c

-- ---- of each step

-- after an accepted closing no event of the client is carried out
abbrev pub ClosingsAreForGood : List AnsweredEvent → Type 0
ClosingsAreForGood history = AllSteps StaysClosed history

-- a client of a lessee that ended is answered nothing of CRTCs, connectors and planes
abbrev pub EndedLesseesSeeNothing : List AnsweredEvent → Type 0
EndedLesseesSeeNothing history = AllSteps KeepsSeeingNothing history

-- a client with universal planes off is answered nothing of primary and cursor planes
abbrev pub OverlaysAlone : Topology → List AnsweredEvent → Type 0
OverlaysAlone t history = AllSteps (KeepsToOverlays t) history

-- ---- all of these

-- the owner, the clients, the masters, the leases and the magics follow from the history
pub record AuthorityFollows (t : Topology) (w : Rows) (history : List AnsweredEvent) : Type 0 where
  pub owner : OwnerFollows w history
  pub clients : ClientsFollow w history
  pub masters : (c : ℕ) → MastersBecome history c
  pub tokens : LeaseTokensFollow w history
  pub lessors : LessorsFollow w history
  pub owners : OwnersFollow w history
  pub ids : LesseesFollow w history
  pub grants : GrantsFollow t w history
  pub capabilities : CapabilitiesFollow w history
  pub magics : MagicsFollow w history
  pub authentication : AuthenticationFollows w history
  pub closed : ClosingsAreForGood history
  pub sees_nothing : EndedLesseesSeeNothing history
  pub overlays : OverlaysAlone t history

-- ---- of the rows alone

-- the other master has another lease token, or none
abbrev pub HasOtherToken : MasterRow → MasterRow → Type 0
HasOtherToken x y = IfSome x.lease_token (λ token. is_option token y.lease_token ≡ false)

-- the other master is no lessee of the same id below the same owner
abbrev pub HasOtherId : List MasterRow → MasterRow → MasterRow → Type 0
HasOtherId masters x y = IfSome x.lessor (λ _. is_lessee_of masters (owner_of masters x.master) x.lessee_id y ≡ false)

-- the magics are of two masters, or have two numbers
abbrev pub IsOtherMagic : MagicRow → MagicRow → Type 0
IsOtherMagic x y = ((x.master == y.master) && (x.number == y.number)) ≡ false

-- no two masters have the same open lease token, no two lessees below one owner the same id, and no two magics of a master the same
-- number
pub record MastersDiffer (w : Rows) : Type 0 where
  pub tokens : InOrder HasOtherToken w.masters
  pub ids : InOrder (HasOtherId w.masters) w.masters
  pub magics : InOrder IsOtherMagic w.magics
