-- What lessees control, and open lease tokens (drm-uapi, leases; lease tokens are own), as flat lists.
use Rattle.std.specs.Prelude.{◌≡◌, ℕ, ◌+◌, ◌==◌, ◌<◌, ◌≤◌, ◌⊎◌, Bool, true, false, not, ◌&&◌, ◌||◌, List, [], length, Option, None, unwrap_or, find, map, filter, slice_get, if◌then◌else◌, IfSome}
use Rattle.std.specs.List.{list_any, AllByRecursion}
use Rattle.std.specs.Option.{option_map, option_map_or}
use Rattle.drm_index_array.specs.Least.{least}
use Rattle.drm_id_alloc.specs.Table.{or_else}
use Rattle.drm_index_array.specs.Orders.{InOrder}
use Rattle.drm_modes.specs.Numbers.{numbers_from}
use Rattle.drm_masters.specs.declared.rows.Master.{Master}
use Rattle.drm_masters.specs.Masters.{is_option, master_at, lessor_of, is_lessee}
use Rattle.drm_leases.specs.declared.rows.Grant.{Grant}
use Rattle.drm_leases.specs.Tokens.{LeaseToken}

-- a lease: whose it is, who lent it, and the key of its lessee
pub record Lending : Type 0 where
  pub lessee : ℕ
  pub lessor : ℕ
  pub key : ℕ

-- tokens run from 1 to `last`, of which `last_given` is the last one given, if any was. A lessee is named by its step number. Tokens
-- rise, grants and leases are in the order of their lessees
pub record LeaseSet : Type 0 where
  pub last : ℕ
  pub last_given : Option ℕ
  pub tokens : List LeaseToken
  pub grants : List Grant
  pub lendings : List Lending

-- a set without leases
abbrev pub no_leases : ℕ → LeaseSet
no_leases last = record { last = last; last_given = None; tokens = []; grants = []; lendings = [] }

-- the row at a place of an audit's kind, of which grants are the seventh (own)
abbrev pub nth_row : LeaseSet → ℕ → ℕ → Option Grant
nth_row l kind i = if kind == 7 then slice_get l.grants i else None

-- leases

-- whether the row is the lessee's
abbrev pub is_lease_of : ℕ → Lending → Bool
is_lease_of m x = x.lessee == m

-- whether the lessee has a lease
abbrev pub has_some_lease : List Lending → ℕ → Bool
has_some_lease lendings m = list_any (is_lease_of m) lendings

-- the lessee whose lease has the key
abbrev pub lessee_at : List Lending → ℕ → Option ℕ
lessee_at lendings key = option_map (λ (x : Lending). x.lessee) (find (λ (x : Lending). x.key == key) lendings)

-- the key of a lessee that has a lease
abbrev pub key_at : List Lending → ℕ → Option ℕ
key_at lendings m = option_map (λ (x : Lending). x.key) (find (is_lease_of m) lendings)

-- what a lease has

-- whether the grant is the lessee's
abbrev pub is_grant_of : ℕ → Grant → Bool
is_grant_of m g = g.master == m

-- whether the lease of a lessee has the mode object
abbrev pub is_granted : List Grant → ℕ → ℕ → Bool
is_granted grants m x = list_any (λ (g : Grant). (g.master == m) && (g.mode_object == x)) grants

-- the mode objects of the lease, rising
abbrev pub granted_objects : List Grant → ℕ → List ℕ
granted_objects grants m = map (λ (g : Grant). g.mode_object) (filter (is_grant_of m) grants)

-- whether the lease of a direct lessee of the master has the mode object
abbrev pub is_leased_out : List Grant → List Master → ℕ → ℕ → Bool
is_leased_out grants masters m x =
    list_any (λ (g : Grant). (g.mode_object == x) && is_option m (lessor_of masters g.master)) grants

-- whether the master is a direct lessee of the other, with this id
abbrev pub is_direct_lessee : ℕ → ℕ → Master → Bool
is_direct_lessee m id x = is_option m x.lessor && (x.lessee_id == id)

-- whether the lease of the direct lessee with this id isn't empty
abbrev pub has_lease : List Grant → List Master → ℕ → ℕ → Bool
has_lease grants masters m id =
    list_any (λ (g : Grant). option_map_or (is_direct_lessee m id) (master_at masters g.master) false) grants

-- the ids, up to the last that a lessee may have, of the direct lessees of the master whose lease isn't empty (rising: own)
abbrev pub lessee_ids : List Grant → List Master → ℕ → ℕ → List ℕ
lessee_ids grants masters last m = filter (has_lease grants masters m) (numbers_from 1 last)

-- what is seen

-- a master without a lessor controls all, a lessee what its lease has
abbrev pub controls : List Grant → List Master → ℕ → ℕ → Bool
controls grants masters m x = not (is_lessee masters m) || is_granted grants m x

-- tokens

-- whether the row has the token
abbrev pub is_token : ℕ → LeaseToken → Bool
is_token t row = row.token == t

-- whether the row's token opens the lessee
abbrev pub is_token_of : ℕ → LeaseToken → Bool
is_token_of m row = row.master == m

-- whether the lessee has an open token
abbrev pub has_token : List LeaseToken → ℕ → Bool
has_token tokens m = list_any (is_token_of m) tokens

-- the lessee that a token opens
abbrev pub token_master : List LeaseToken → ℕ → Option ℕ
token_master tokens t = option_map (λ (row : LeaseToken). row.master) (find (is_token t) tokens)

-- the open token of a lessee
abbrev pub token_of : List LeaseToken → ℕ → Option ℕ
token_of tokens m = option_map (λ (row : LeaseToken). row.token) (find (is_token_of m) tokens)

-- whether no row has the token
abbrev pub is_free : List LeaseToken → ℕ → Bool
is_free tokens t = not (list_any (is_token t) tokens)

-- the lowest free token above the last one given or, if there is none, the lowest free one (the kernel's cyclic IDR;
-- that tokens are assigned so is own)
abbrev pub next_of : List LeaseToken → Option ℕ → ℕ → Option ℕ
next_of tokens last_given last =
    or_else (least (is_free tokens) (unwrap_or last_given 0 + 1) last) (least (is_free tokens) 1 last)

-- the token that is allocated next, if one is free
abbrev pub next_token : LeaseSet → Option ℕ
next_token l = next_of l.tokens l.last_given l.last

-- what is so at all times

-- one grant is before another: lessees rise, then mode objects
abbrev pub grant_before : Grant → Grant → Type 0
grant_before g h = (g.master < h.master) ⊎ ((g.master ≡ h.master) × (g.mode_object < h.mode_object))

-- No token is open twice, and no lessee has two. No mode object occurs twice in a lease, which has 64 at most. Each
-- token and each grant is of a lessee that has a lease.
pub record AreLeases (l : LeaseSet) : Type 0 where
  pub last_high : l.last ≤ 4294967295
  pub given_high : IfSome l.last_given (λ t. t ≤ l.last)
  pub tokens_low : AllByRecursion (λ (row : LeaseToken). 1 ≤ row.token) l.tokens
  pub tokens_rise : InOrder (λ (x y : LeaseToken). x.token < y.token) l.tokens
  pub lessees_differ : InOrder (λ (x y : LeaseToken). (x.master == y.master) ≡ false) l.tokens
  pub grants_rise : InOrder grant_before l.grants
  pub few : (m : ℕ) → length (granted_objects l.grants m) ≤ 64
  pub tokens_lent : AllByRecursion (λ (row : LeaseToken). has_some_lease l.lendings row.master ≡ true) l.tokens
  pub grants_lent : AllByRecursion (λ (g : Grant). has_some_lease l.lendings g.master ≡ true) l.grants
