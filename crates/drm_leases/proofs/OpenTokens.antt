-- The list of open tokens that a table represents.
use Rattle.std.proofs.Common.{◌≡◌, ℕ, ◌+◌, ◌==◌, not, List, Option, None, Some, option_map, unwrap_or, refl, sym, ap, ◌∙◌}
use Rattle.std.specs.FinMap as fin
use Rattle.std.specs.Ordering.{nat_cmp}
use Rattle.drm_index_array.proofs.Lists.{list_any-map}
use Rattle.drm_index_array.specs.Least.{least}
use Rattle.drm_index_array.proofs.Least.{least-same}
use Rattle.drm_id_alloc.specs.Table.{Table, or_else, next_cyclic, is_free as is_free_in}
use Rattle.drm_id_alloc.proofs.Cyclic.{next_is}
use Rattle.drm_id_alloc.proofs.NumberTable.{find_number, least_free_is}
use Rattle.drm_leases.specs.Tokens.{LeaseToken, TokenRows, token_row, tokens_in}
use Rattle.drm_leases.specs.Leases.{is_free, token_master, next_of}

abbrev pub number_of : LeaseToken → ℕ
number_of row = row.token

-- The lessee that a token opens is the table's value at it.
pub lessee_is : (slots : fin.FinMap nat_cmp ℕ) (t : ℕ) → token_master (tokens_in slots) t ≡ fin.get slots t
lessee_is slots t =
    ap (option_map (λ (row : LeaseToken). row.master)) (find_number token_row number_of (λ e. refl) slots t)
    ∙ composed (fin.get slots t)
  where
    composed : (o : Option ℕ) → option_map (λ (row : LeaseToken). row.master) (option_map (λ m. token_row (t, m)) o) ≡ o
    composed None = refl
    composed (Some m) = refl

module _ (t : Table ℕ) where
  least_is : (from to : ℕ) → least (is_free (tokens_in t.slots)) from to ≡ least (is_free_in t) from to
  least_is from to =
      least-same (is_free (tokens_in t.slots)) _ from to
      (λ k low high. ap not (sym (list_any-map (λ n. n == k) number_of (tokens_in t.slots))))
      ∙ least_free_is token_row number_of (λ e. refl) t.slots from to

  -- The next token of the list is the table's next number in rotation.
  pub next_token_is : t.first ≡ 1 → next_of (tokens_in t.slots) t.last_given t.last ≡ next_cyclic t
  next_token_is first =
      (λ i. or_else (least_is (unwrap_or t.last_given 0 + 1) t.last i) (least_is 1 t.last i)) ∙ next_is t first

-- the rows of a table
abbrev pub table_rows : Table ℕ → TokenRows
table_rows t = record { last = t.last; last_given = t.last_given; rows = tokens_in t.slots }

abbrev pub with_rows : List LeaseToken → TokenRows → TokenRows
with_rows rows l = record l { rows = rows }
