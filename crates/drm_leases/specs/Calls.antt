-- The effect of each call on leases (drm-uapi, leases; tokens are own).
use Rattle.std.specs.Prelude.{◌≡◌, ℕ, ◌<◌, nat_lt, not, ◌&&◌, Bool, true, List, ◌++◌, None, Some, Result, Ok, Err, map, filter}
use Rattle.std.specs.List.{AllByRecursion}
use Rattle.drm_index_array.specs.Rows.{placed}
use Rattle.drm_index_array.specs.Chains.{is_under}
use Rattle.drm_index_array.specs.Numbers.{is_among}
use Rattle.drm_table.specs.Permit.{first_failing}
use Rattle.drm_modes.specs.Numbers.{numbers_from}
use Rattle.drm_modes.specs.Topology.{Topology, object_count}
use Rattle.drm_modes.specs.Modes.{ModeSet}
use Rattle.std.specs.Option.{is_some}
use Rattle.drm_masters.specs.declared.rows.Master.{Master}
use Rattle.drm_masters.specs.declared.faults.LesseeFault.{LesseeFault}
use Rattle.drm_masters.specs.declared.faults.LesseeFault.TheVariants.{Full as LesseesFull, NoMemory as LesseeNoMemory}
use Rattle.drm_masters.specs.Masters.{MasterSet, lessor_of, is_below, free_lessee}
use Rattle.drm_masters.specs.Calls.{IsFreeKey, lessee, with_master}
use Rattle.drm_leases.specs.declared.faults.LeaseFault.{LeaseFault}
use Rattle.drm_leases.specs.declared.faults.LeaseFault.TheVariants.{Denied, NoMemory}
use Rattle.drm_leases.specs.declared.rows.Grant.{Grant}
use Rattle.drm_leases.specs.Tokens.{LeaseToken, token_before}
pub use Rattle.drm_leases.specs.Tokens.{lease_token}
use Rattle.drm_leases.specs.declared.rows.Leased.{Leased}
use Rattle.drm_leases.specs.Leases.{LeaseSet, Lending, is_token, has_token, next_token}
use Rattle.drm_leases.specs.Rules.{lease_checks, leased}

-- each lessee that has a token or a grant is older
pub record IsNewLessee (l : LeaseSet) (step_number : ℕ) : Type 0 where
  pub tokens : AllByRecursion (λ (row : LeaseToken). row.master < step_number) l.tokens
  pub grants : AllByRecursion (λ (g : Grant). g.master < step_number) l.grants

-- a row with a lessee and a mode object
abbrev pub grant : ℕ → ℕ → Grant
grant m x = record { master = m; mode_object = x }

-- the fixed mode objects that are listed, rising
abbrev pub listed_objects : Topology → List ℕ → List ℕ
listed_objects t ids = filter (is_among ids) (numbers_from 1 (object_count t))

-- a row with a lessee, its lessor and its key
abbrev pub lending : ℕ → ℕ → ℕ → Lending
lending m lessor key = record { lessee = m; lessor = lessor; key = key }

-- the order of the leases
abbrev pub lending_before : Lending → Lending → Bool
lending_before x y = nat_lt x.lessee y.lessee

-- the rows of a lessee at their place: after those of older lessees
abbrev pub put_in : {X : Type 0} → (X → ℕ) → ℕ → List X → List X → List X
put_in lessee m rows all =
    filter (λ x. nat_lt (lessee x) m) all ++ (rows ++ filter (λ x. not (nat_lt (lessee x) m)) all)

-- a lease of these objects by a lessor, with an open token, of a lessee with the key
abbrev pub with_lease : ℕ → ℕ → ℕ → ℕ → List ℕ → LeaseSet → LeaseSet
with_lease t key m lessor objects l = record l {
  last_given = Some t;
  tokens = placed token_before (lease_token t m) l.tokens;
  grants = put_in (λ (g : Grant). g.master) m (map (grant m) objects) l.grants;
  lendings = placed lending_before (lending m lessor key) l.lendings;
}

-- the set without a token
abbrev pub without_token : ℕ → LeaseSet → LeaseSet
without_token t l = record l { tokens = filter (λ (row : LeaseToken). not (is_token t row)) l.tokens }

-- the master, or one below it, that has an open token
abbrev pub is_opened_under : List LeaseToken → List Master → ℕ → ℕ → Bool
is_opened_under tokens masters top m = is_under (lessor_of masters) top m && has_token tokens m

-- one below the master that has an open token
abbrev pub is_opened_below : List LeaseToken → List Master → ℕ → ℕ → Bool
is_opened_below tokens masters top m = is_below masters top m && has_token tokens m

-- the leases and open tokens of the master and of all below it go
abbrev pub ended : List Master → ℕ → LeaseSet → LeaseSet
ended masters top l = record l {
  tokens = filter (λ (row : LeaseToken). not (is_under (lessor_of masters) top row.master)) l.tokens;
  grants = filter (λ (g : Grant). not (is_under (lessor_of masters) top g.master)) l.grants;
  lendings = filter (λ (x : Lending). not (is_under (lessor_of masters) top x.lessee)) l.lendings;
}

-- those of all below the master go, and not its own
abbrev pub ended_below : List Master → ℕ → LeaseSet → LeaseSet
ended_below masters top l = record l {
  tokens = filter (λ (row : LeaseToken). not (is_below masters top row.master)) l.tokens;
  grants = filter (λ (g : Grant). not (is_below masters top g.master)) l.grants;
  lendings = filter (λ (x : Lending). not (is_below masters top x.lessee)) l.lendings;
}

-- what lending a master's objects to a new lessee is, before any rule
abbrev pub Lends : LeaseSet → MasterSet → ℕ → List ℕ → ℕ → Result Leased LesseeFault → LeaseSet → MasterSet → Type 0
Lends l v m objects step_number (Ok made) l2 v2 =
    (free_lessee v m ≡ Some made.id)
    × (next_token l ≡ Some made.token)
    × (l2 ≡ with_lease made.token made.m step_number m objects l)
    × IsFreeKey v made.m
    × (v2 ≡ with_master (lessee made.m step_number m made.id) v)
Lends l v m objects step_number (Err LesseesFull) l2 v2 = (free_lessee v m ≡ None) × (l2 ≡ l) × (v2 ≡ v)
Lends l v m objects step_number (Err LesseeNoMemory) l2 v2 = (is_some (free_lessee v m) ≡ true) × (l2 ≡ l) × (v2 ≡ v)

-- what making a lease of a master is
abbrev pub Created : LeaseSet → MasterSet → ModeSet → ℕ → Bool → List ℕ → ℕ → Result Leased LeaseFault → LeaseSet
    → MasterSet → Type 0
Created l v s m universal ids step_number (Ok made) l2 v2 =
    (first_failing (lease_checks l v s m universal ids) ≡ None)
    × (free_lessee v m ≡ Some made.id)
    × (next_token l ≡ Some made.token)
    × (l2 ≡ with_lease made.token made.m step_number m (listed_objects s.topology (leased l v s m universal ids)) l)
    × ((key : ℕ) × IsFreeKey v key × (v2 ≡ with_master (lessee key step_number m made.id) v) × (made.m ≡ key))
Created l v s m universal ids step_number (Err (Denied rule)) l2 v2 =
    (first_failing (lease_checks l v s m universal ids) ≡ Some rule) × (l2 ≡ l) × (v2 ≡ v)
Created l v s m universal ids step_number (Err NoMemory) l2 v2 =
    (first_failing (lease_checks l v s m universal ids) ≡ None) × (l2 ≡ l) × (v2 ≡ v)
