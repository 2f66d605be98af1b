-- What a caller controls and sees of the fixed mode objects (drm-uapi, leases and universal planes), by what the device keeps.
use Rattle.std.specs.Prelude.{ℕ, Bool, ◌&&◌, List, filter}
use Rattle.drm_modes.specs.declared.kinds.Kind.{Kind}
use Rattle.drm_modes.specs.LeaseRules as rules
use Rattle.drm_modes.specs.Topology.{is_of_kind, ids_of_kind}
use Rattle.drm_leases.specs.Leases as leases
use Rattle.drm_state.specs.declared.state.State.{State}
use Rattle.drm_state.specs.declared.caller.PrimaryCaller.{PrimaryCaller}

-- whether the caller's master controls the mode object: one without a lessor all, a lessee what its lease has
abbrev pub controls : State → PrimaryCaller → ℕ → Bool
controls s caller x = leases.controls s.leases.grants s.masters.masters caller.member.master x

-- whether the caller sees the fixed object
abbrev pub sees : State → PrimaryCaller → ℕ → Bool
sees s caller x = rules.sees s.modes.topology (controls s caller x) caller.flags.universal x

-- whether it is one of a kind that the caller sees
abbrev pub sees_object : State → PrimaryCaller → Kind → ℕ → Bool
sees_object s caller kind x = is_of_kind s.modes.topology kind x && sees s caller x

-- those of a kind that the caller sees, rising
abbrev pub visible : State → PrimaryCaller → Kind → List ℕ
visible s caller kind = filter (sees s caller) (ids_of_kind s.modes.topology kind)
