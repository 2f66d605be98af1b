use Rattle.std.proofs.Common.{◌≡◌, drop}
use Rattle.std.specs.List.{list_any}
use Rattle.drm_leases.specs.Leases.{is_leased_out}
use Rattle.drm_leases.specs.Masks.{grants_in}
use Rattle.drm_leases.proofs.searches.any_leased_out.Given as goal

abbrev pub invariant-loop-id : goal.invariant-loop-id
invariant-loop-id l =
    list_any (is_leased_out (grants_in l.granted.rows) l.masters.masters l.master) l.ids ≡ list_any
    (is_leased_out (grants_in l.granted.rows) l.masters.masters l.master) (drop l.id-index l.ids)
