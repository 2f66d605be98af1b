-- The flat lists that the tables represent (own).
use Rattle.std.specs.Prelude.{◌≡◌, ℕ, List, map as list_map, Some}
use Rattle.std.specs.Ordering.{nat_cmp}
use Rattle.std.specs.FinMap as map
use Rattle.drm_id_alloc.specs.BothWays.{AreBothWays}
pub use Rattle.drm_id_alloc.specs.Table.{Table, IsNumbered}
use Rattle.drm_id_alloc.specs.Groups.{GroupMap, has, AreGroupsOf}
use Rattle.drm_share.specs.declared.rows.SharedName.{SharedName}
use Rattle.drm_share.specs.declared.rows.SharedToken.{SharedToken}
use Rattle.drm_share.specs.declared.tokens.Export.{Export}
use Rattle.drm_share.specs.Names.{NameList, shared_name}
use Rattle.drm_share.specs.Tokens.{TokenList, token}

-- the row of a name's entry
abbrev pub name_row : ℕ × ℕ → SharedName
name_row entry = shared_name entry.0 entry.1

-- the rows of all names, in their order
abbrev pub names_in : map.FinMap nat_cmp ℕ → List SharedName
names_in slots = list_map name_row (map.entries slots)

-- the list of names of a table
abbrev pub name_list : Table ℕ → NameList
name_list table = record { last = table.last; names = names_in table.slots }

-- the row of a token's entry
abbrev pub token_row : ℕ × Export → SharedToken
token_row entry = token entry.0 entry.1.client entry.1.object

-- the rows of all tokens, in their order
abbrev pub tokens_in : map.FinMap nat_cmp Export → List SharedToken
tokens_in slots = list_map token_row (map.entries slots)

-- the list of tokens of a table
abbrev pub token_list : Table Export → TokenList
token_list table = record { last = table.last; last_given = table.last_given; tokens = tokens_in table.slots }

-- such a table of names, and the name of each object that has one
pub record HasNames (table : Table ℕ) (names : map.FinMap nat_cmp ℕ) : Type 0 where
  pub numbered : IsNumbered table
  pub ways : AreBothWays table.slots names

-- such a table of tokens, and those of each client
pub record HasOwners (table : Table Export) (owned : GroupMap) : Type 0 where
  pub numbered : IsNumbered table
  pub owners : AreGroupsOf (λ (x : Export). x.client) table.slots (has owned)
