-- The leases that the fields represent (own).
use Rattle.drm_leases.specs.declared.leases.Leases.TheInside.{Inside}
use Rattle.drm_leases.specs.Leases.{LeaseSet, AreLeases}
use Rattle.drm_leases.specs.Masks.{grants_in, lendings_in}

-- the set in the fields
abbrev pub set_of : Inside → LeaseSet
set_of a =
    record
    { last = a.tokens.last; last_given = a.tokens.last_given; tokens = a.tokens.rows; grants = grants_in a.granted.rows; lendings = lendings_in a.granted.rows }

-- the facts of leases hold
abbrev pub IsSound : Inside → Type 0
IsSound a = AreLeases (set_of a)
