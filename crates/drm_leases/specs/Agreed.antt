-- The agreement of leases and masters (own).
use Rattle.std.specs.Prelude.{◌≡◌, ◌==◌, Bool, true, false, ◌&&◌, ◌||◌, List, Some}
use Rattle.std.specs.List.{list_any, AllByRecursion}
use Rattle.std.specs.Option.{option_map_or}
use Rattle.drm_masters.specs.declared.rows.Master.{Master}
use Rattle.drm_masters.specs.declared.rows.Member.{Member}
use Rattle.drm_masters.specs.Masters.{MasterSet, master_at, lessor_of, is_held, IsKeyOf}
use Rattle.drm_leases.specs.Leases.{LeaseSet, Lending}
use Rattle.drm_leases.specs.Tokens.{LeaseToken}

-- whether the master is kept, or a client's own
abbrev pub is_owned : List Member → Master → Bool
is_owned members x = x.kept || list_any (λ (y : Member). y.is_master && (y.master == x.step_number)) members

-- who lent a lease is its lessee's lessor, the lessee is kept or a client's own, and it has the key
abbrev pub IsAgreed : List Member → List Master → Lending → Type 0
IsAgreed members masters x =
    (lessor_of masters x.lessee ≡ Some x.lessor) ×
    (option_map_or (is_owned members) (master_at masters x.lessee) false ≡ true) × IsKeyOf masters x.lessee x.key

-- the lessee of each token is there, kept or named by a client
abbrev pub AreHeld : MasterSet → List LeaseToken → Type 0
AreHeld v tokens =
    AllByRecursion
    (λ (row : LeaseToken). option_map_or (is_held v.members) (master_at v.masters row.master) false ≡ true) tokens

-- each lease agrees with the masters
abbrev pub AreAgreed : LeaseSet → MasterSet → Type 0
AreAgreed l v = AllByRecursion (IsAgreed v.members v.masters) l.lendings
