-- The open lease tokens (own), as a flat list.
use Rattle.std.specs.Prelude.{ℕ, nat_lt, Bool, List, [], map as list_map, Option, None}
use Rattle.std.specs.Ordering.{nat_cmp}
use Rattle.std.specs.FinMap as map
use Rattle.drm_id_alloc.specs.BothWays.{AreBothWays}
use Rattle.drm_id_alloc.specs.Table.{IsNumbered}
use Rattle.drm_leases.specs.declared.tokens.LeaseTokens.TheInside.{Inside}

-- a token, and the lessee that it opens
pub record LeaseToken : Type 0 where
  pub token : ℕ
  pub master : ℕ

-- tokens run from 1 to `last`, of which `last_given` is the last one given, if any was. Those that are open rise
pub record TokenRows : Type 0 where
  pub last : ℕ
  pub last_given : Option ℕ
  pub rows : List LeaseToken

-- a list without tokens
abbrev pub no_tokens : ℕ → TokenRows
no_tokens last = record { last = last; last_given = None; rows = [] }

-- a row with a token and a lessee
abbrev pub lease_token : ℕ → ℕ → LeaseToken
lease_token t m = record { token = t; master = m }

-- the order of the tokens
abbrev pub token_before : LeaseToken → LeaseToken → Bool
token_before x y = nat_lt x.token y.token

-- the row of a token's entry
abbrev pub token_row : ℕ × ℕ → LeaseToken
token_row e = lease_token e.0 e.1

-- the rows of all tokens, in their order
abbrev pub tokens_in : map.FinMap nat_cmp ℕ → List LeaseToken
tokens_in slots = list_map token_row (map.entries slots)

-- the rows in the fields
abbrev pub rows_of : Inside → TokenRows
rows_of a = record { last = a.lessees.last; last_given = a.lessees.last_given; rows = tokens_in a.lessees.slots }

-- the table has numbers from 1 on, and each lessee is found with its token
pub record AreTokens (a : Inside) : Type 0 where
  pub numbered : IsNumbered a.lessees
  pub ways : AreBothWays a.lessees.slots a.tokens.items
