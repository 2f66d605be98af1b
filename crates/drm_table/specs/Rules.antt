-- The rules and the faults: the number, the errno and the name of each. Numbers and names are own. The errno of an own
-- rule is own, any other that of drm-uapi.
use Rattle.std.specs.Prelude.{◌≡◌, ℕ, ◌==◌, Option, Some, ◌↔◌, List, [], ◌∷◌, find, codes}
use Rattle.drm_table.specs.declared.rules.Rule.{Rule}
use Rattle.drm_table.specs.declared.rules.Rule.TheVariants.{Unknown, Layout, NoClient, RootOnly, Auth, Master, RenderAllow, NoHandle, NoHandleToClose, NoName, NoToken, NoMagic, MasterPerm, MasterBusy, NotCurrent, IsLessee, NoModeObject, NotLeasable, Repeated, LeaseShape, LeasedOut, SubLease, NoLessee, NotYourLessee, NoFb, BadSize, BadRoute, BadCap, NoLeaseToken, Full}
use Rattle.drm_table.specs.declared.apart.Apart.{Apart}
use Rattle.drm_table.specs.declared.apart.Apart.TheVariants.{JournalFull, NoMemory, Worn}

-- ---- the errnos, by Linux's numbers

-- the thing does not exist
abbrev pub enoent : ℕ
enoent = 2

-- memory was refused
abbrev pub enomem : ℕ
enomem = 12

-- the caller may not do this
abbrev pub eacces : ℕ
eacces = 13

-- the thing is in use
abbrev pub ebusy : ℕ
ebusy = 16

-- the request is invalid
abbrev pub einval : ℕ
einval = 22

-- there is no room
abbrev pub enospc : ℕ
enospc = 28

-- ---- the tables: a line for each rule, and for each fault

-- a row of the tables
pub record RefusalRow : Type 0 where
  pub number : ℕ
  pub errno : ℕ
  pub name : List ℕ

-- a row with these columns
abbrev pub refusal_row : ℕ → ℕ → List ℕ → RefusalRow
refusal_row number errno name = record { number = number; errno = errno; name = name }

-- the row of each rule
abbrev pub rule_row : Rule → RefusalRow
rule_row Unknown = refusal_row 1 einval (codes "Unknown")
rule_row Layout = refusal_row 2 einval (codes "Layout")
rule_row NoClient = refusal_row 3 einval (codes "NoClient")
rule_row RootOnly = refusal_row 11 eacces (codes "RootOnly")
rule_row Auth = refusal_row 12 eacces (codes "Auth")
rule_row Master = refusal_row 13 eacces (codes "Master")
rule_row RenderAllow = refusal_row 14 eacces (codes "RenderAllow")
rule_row NoHandle = refusal_row 21 enoent (codes "NoHandle")
rule_row NoHandleToClose = refusal_row 22 einval (codes "NoHandleToClose")
rule_row NoName = refusal_row 23 enoent (codes "NoName")
rule_row NoToken = refusal_row 24 enoent (codes "NoToken")
rule_row NoMagic = refusal_row 25 einval (codes "NoMagic")
rule_row MasterPerm = refusal_row 26 eacces (codes "MasterPerm")
rule_row MasterBusy = refusal_row 27 ebusy (codes "MasterBusy")
rule_row NotCurrent = refusal_row 28 einval (codes "NotCurrent")
rule_row IsLessee = refusal_row 29 einval (codes "IsLessee")
rule_row NoModeObject = refusal_row 30 enoent (codes "NoModeObject")
rule_row NotLeasable = refusal_row 31 einval (codes "NotLeasable")
rule_row Repeated = refusal_row 32 einval (codes "Repeated")
rule_row LeaseShape = refusal_row 33 einval (codes "LeaseShape")
rule_row LeasedOut = refusal_row 34 ebusy (codes "LeasedOut")
rule_row SubLease = refusal_row 35 einval (codes "SubLease")
rule_row NoLessee = refusal_row 36 enoent (codes "NoLessee")
rule_row NotYourLessee = refusal_row 37 eacces (codes "NotYourLessee")
rule_row NoFb = refusal_row 38 enoent (codes "NoFb")
rule_row BadSize = refusal_row 39 einval (codes "BadSize")
rule_row BadRoute = refusal_row 40 einval (codes "BadRoute")
rule_row BadCap = refusal_row 41 einval (codes "BadCap")
rule_row NoLeaseToken = refusal_row 42 enoent (codes "NoLeaseToken")
rule_row Full = refusal_row 43 enospc (codes "Full")

-- the row of each fault
abbrev pub apart_row : Apart → RefusalRow
apart_row JournalFull = refusal_row 50 enospc (codes "JournalFull")
apart_row NoMemory = refusal_row 51 enomem (codes "NoMemory")
apart_row Worn = refusal_row 52 enospc (codes "Worn")

-- all rules, in rising order of their numbers
abbrev pub all_rules : List Rule
all_rules =
    Unknown
    ∷ Layout
    ∷ NoClient
    ∷ RootOnly
    ∷ Auth
    ∷ Master
    ∷ RenderAllow
    ∷ NoHandle
    ∷ NoHandleToClose
    ∷ NoName
    ∷ NoToken
    ∷ NoMagic
    ∷ MasterPerm
    ∷ MasterBusy
    ∷ NotCurrent
    ∷ IsLessee
    ∷ NoModeObject
    ∷ NotLeasable
    ∷ Repeated
    ∷ LeaseShape
    ∷ LeasedOut
    ∷ SubLease
    ∷ NoLessee
    ∷ NotYourLessee
    ∷ NoFb
    ∷ BadSize
    ∷ BadRoute
    ∷ BadCap
    ∷ NoLeaseToken
    ∷ Full
    ∷ []

-- all faults, in rising order of their numbers
abbrev pub all_aparts : List Apart
all_aparts = JournalFull ∷ NoMemory ∷ Worn ∷ []

-- ---- what follows from them

-- the number of a rule
abbrev pub rule_number : Rule → ℕ
rule_number rule = (rule_row rule).number

-- the errno of a rule
abbrev pub rule_errno : Rule → ℕ
rule_errno rule = (rule_row rule).errno

-- the name of a rule
abbrev pub rule_name : Rule → List ℕ
rule_name rule = (rule_row rule).name

-- the number of a fault
abbrev pub apart_number : Apart → ℕ
apart_number apart = (apart_row apart).number

-- the errno of a fault
abbrev pub apart_errno : Apart → ℕ
apart_errno apart = (apart_row apart).errno

-- the name of a fault
abbrev pub apart_name : Apart → List ℕ
apart_name apart = (apart_row apart).name

-- the rule with a number, if there is one
unfoldable pub rule_of_number : ℕ → Option Rule
rule_of_number number = find (λ rule. rule_number rule == number) all_rules

-- the fault with a number, if there is one
unfoldable pub apart_of_number : ℕ → Option Apart
apart_of_number number = find (λ apart. apart_number apart == number) all_aparts

-- ---- laws

-- Each is found by its number, and by no other.
abbrev pub IsFoundByNumber : {A : Type 0} → (ℕ → Option A) → (A → ℕ) → Type 0
IsFoundByNumber {A} find_of number_of = (one : A) (number : ℕ) → (find_of number ≡ Some one) ↔ (number_of one ≡ number)
