-- The open tokens of exported objects (drm-mm, PRIME; tokens are own), as a flat list.
use Rattle.std.specs.Prelude.{ℕ, ◌+◌, ◌==◌, ◌≤◌, ◌&&◌, Bool, not, nat_lt, List, [], map, filter, slice_get, Option, Some, None, unwrap_or, IfSome, if◌then◌else◌}
use Rattle.std.specs.List.{AllByRecursion}
use Rattle.drm_index_array.specs.Numbers.{is_among}
use Rattle.drm_index_array.specs.Least.{least}
use Rattle.drm_index_array.specs.Rows.{placed, InOrder}
pub use Rattle.drm_id_alloc.specs.Table.{or_else}
use Rattle.drm_share.specs.declared.rows.SharedToken.{SharedToken}

-- the tokens from 1 to `last` may be assigned; those that are open rise. `last_given` is the last one given, if any was
pub record TokenList : Type 0 where
  pub last : ℕ
  pub last_given : Option ℕ
  pub tokens : List SharedToken

-- a list without tokens
abbrev pub empty_tokens : ℕ → TokenList
empty_tokens last = record { last = last; last_given = None; tokens = [] }

-- whether the row has the token
abbrev pub is_token : ℕ → SharedToken → Bool
is_token t row = row.token == t

-- whether the client exported the row's token
abbrev pub is_exported_by : ℕ → SharedToken → Bool
is_exported_by c row = row.client == c

-- whether the row has the token and the client exported it
abbrev pub is_token_of : ℕ → ℕ → SharedToken → Bool
is_token_of c t row = (row.token == t) && (row.client == c)

-- whether one row is before another: the tokens rise
abbrev pub token_before : SharedToken → SharedToken → Bool
token_before x y = nat_lt x.token y.token

-- a row with a token, a client and an object
abbrev pub token : ℕ → ℕ → ℕ → SharedToken
token t c k = record { token = t; client = c; object = k }

-- whether no row has the token
abbrev pub is_free : TokenList → ℕ → Bool
is_free list t = not (is_among (map (λ row. row.token) list.tokens) t)

-- the lowest free token above the last one given or, if there is none, the lowest free one (the kernel's cyclic IDR;
-- that tokens are assigned so is own)
abbrev pub next_token : TokenList → Option ℕ
next_token list =
    or_else (least (is_free list) (unwrap_or list.last_given 0 + 1) list.last) (least (is_free list) 1 list.last)

-- the list with a token more, which is the last one allocated
abbrev pub with_token : TokenList → SharedToken → TokenList
with_token list row = record list { last_given = Some row.token; tokens = placed token_before row list.tokens }

-- the list without a token
abbrev pub without_token : TokenList → ℕ → TokenList
without_token list t = record list { tokens = filter (λ row. not (is_token t row)) list.tokens }

-- the row at a place of an audit's kind, of which tokens are the fifth (own)
abbrev pub nth_row : TokenList → ℕ → ℕ → Option SharedToken
nth_row list kind i = if kind == 5 then slice_get list.tokens i else None

-- the token is 1 to `last`
pub record IsTokenUpTo (last : ℕ) (row : SharedToken) : Type 0 where
  pub low : 1 ≤ row.token
  pub high : row.token ≤ last

-- what is so of the list: no token occurs twice, since the rows rise
pub record AreTokens (list : TokenList) : Type 0 where
  pub last_low : 1 ≤ list.last
  pub last_high : list.last ≤ 4294967295
  pub given_high : IfSome list.last_given (λ t. t ≤ list.last)
  pub tokens_rise : InOrder token_before list.tokens
  pub tokens_are : AllByRecursion (IsTokenUpTo list.last) list.tokens
