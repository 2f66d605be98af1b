-- The list of tokens that a table represents, and how it changes.
use Rattle.std.proofs.Common.{◌≡◌, ℕ, ◌+◌, ◌≤◌, ◌==◌, cond, find, is_some, Option, Some, None, option_map, option_and_then, unwrap_or, IfSome, ◌↔◌, refl, sym, ap, ◌∙◌, arith}
use Rattle.std.specs.FinMap as fin
use Rattle.std.proofs.lemmas.Option.{none-some}
use Rattle.drm_index_array.specs.Least.{least}
use Rattle.drm_index_array.proofs.Least.{least_is_none, least_none}
use Rattle.drm_id_alloc.specs.Table.{Table, is_free as is_free_in, least_free, next_after, next_cyclic, or_else, with_entry, without_entry}
use Rattle.drm_id_alloc.proofs.Cyclic.{next_is}
use Rattle.drm_id_alloc.proofs.TableLemmas.{IsWithin-empty, IsWithin-insert, IsWithin-remove}
use Rattle.drm_share.specs.declared.rows.SharedToken.{SharedToken}
use Rattle.drm_share.specs.declared.tokens.Export.{Export}
use Rattle.drm_share.specs.Tokens.{IsTokenUpTo, AreTokens, empty_tokens, is_token, is_token_of, is_exported_by, next_token, with_token, without_token}
use Rattle.drm_share.specs.Tables.{token_row, tokens_in, token_list, IsNumbered}
use Rattle.drm_id_alloc.proofs.NumberTable.{find_number, find_also, rows_added, rows_removed, rows_rise, least_free_is, rows_all, no_rows}

abbrev token_in : SharedToken → ℕ
token_in row = row.token

-- the object of what a client closes at a token
abbrev pub closes : ℕ → ℕ → Option Export → Option ℕ
closes c n x =
    option_map (λ (row : SharedToken). row.object)
    (option_and_then (λ (v : Export). cond (v.client == c) (Some (token_row (n, v))) None) x)

-- An empty table represents no tokens.
pub no_tokens : (last : ℕ) (t : Table Export) → t.last ≡ last → t.last_given ≡ None → t.slots ≡ fin.empty
    → token_list t ≡ empty_tokens last
no_tokens last t l g none =
    λ i. record { last = l i; last_given = g i; tokens = (ap tokens_in none ∙ no_rows token_row) i }

module _ (t : Table Export) where
  composed : (n : ℕ) (x : Option Export)
      → option_map (λ (row : SharedToken). row.object) (option_map (λ v. token_row (n, v)) x) ≡ option_map (λ (v : Export). v.object) x
  composed n None = refl
  composed n (Some k) = refl

  -- The object of a token in the list is that of the table's entry.
  pub object_is : (n : ℕ)
      → option_map (λ (row : SharedToken). row.object) (find (is_token n) (tokens_in t.slots)) ≡ option_map (λ (v : Export). v.object) (fin.get t.slots n)
  object_is n =
      ap (option_map (λ (row : SharedToken). row.object)) (find_number token_row token_in (λ e. refl) t.slots n)
      ∙ composed n (fin.get t.slots n)

  -- A client's token in the list is the table's entry, if the entry is the client's.
  pub token_of_is : (c n : ℕ)
      → find (is_token_of c n) (tokens_in t.slots) ≡ option_and_then (λ (v : Export). cond (v.client == c) (Some (token_row (n, v))) None) (fin.get t.slots n)
  token_of_is c n = find_also token_row token_in (λ e. refl) t.slots n (is_exported_by c)

  -- The next token of the list is the table's next number in rotation.
  pub next_token_is : t.first ≡ 1 → next_token (token_list t) ≡ next_cyclic t
  next_token_is first =
      (λ i. or_else (least_free_is token_row token_in (λ e. refl) t.slots (unwrap_or t.last_given 0 + 1) t.last i) (least_free_is token_row token_in (λ e. refl) t.slots 1 t.last i))
      ∙ next_is t first

  -- A new entry of the table is one more token in the list.
  pub token_opened : (n : ℕ) (v : Export) → fin.get t.slots n ≡ None
      → token_list (record (with_entry t n v) { last_given = Some n }) ≡ with_token (token_list t) (token_row (n, v))
  token_opened n v none =
      λ i. record
      { last = t.last; last_given = Some n; tokens = rows_added token_row token_in (λ e. refl) t.slots n v none i }

  -- An entry removed from the table is a token removed from the list.
  pub token_closed : (n : ℕ) → token_list (without_entry t n) ≡ without_token (token_list t) n
  token_closed n =
      λ i. record
      { last = t.last; last_given = t.last_given; tokens = rows_removed token_row token_in (λ e. refl) t.slots n i }

  -- The facts of tokens hold for the list of a sound table.
  pub tokens_are : IsNumbered t → AreTokens (token_list t)
  tokens_are is = record {
    last_low = omega (arith, is.first_is, is.within.in_order);
    last_high = is.within.fits;
    given_high = is.within.given_high;
    tokens_rise = rows_rise token_row token_in (λ e. refl) t.slots;
    tokens_are = rows_all token_row t.slots (IsTokenUpTo t.last) (λ n v found. record {
      low = omega (arith, is.first_is, is.within.low n (ap is_some found));
      high = is.within.high n (ap is_some found);
    });
  }

  -- A sound table stays sound after a token within its range is added.
  pub is-opened : IsNumbered t → (n : ℕ) (v : Export) → t.first ≤ n → n ≤ t.last
      → IsNumbered (record (with_entry t n v) { last_given = Some n })
  is-opened is n v low high =
      let within = IsWithin-insert t.slots t.first t.last t.last_given is.within n v low high in
      record { first_is = is.first_is; within = record { in_order = within.in_order; fits = within.fits; low = within.low; high = within.high; given_low = low; given_high = high } }

  -- A sound table stays sound after a token is removed.
  pub is-closed : IsNumbered t → (n : ℕ) → IsNumbered (without_entry t n)
  is-closed is n =
      record { first_is = is.first_is; within = IsWithin-remove t.slots t.first t.last t.last_given is.within n }

-- An empty table is sound.
pub is-empty : (last : ℕ) (t : Table Export) → t.first ≡ 1 → t.last ≡ last → t.last_given ≡ None → t.slots ≡ fin.empty
    → 1 ≤ last → last ≤ 4294967295 → IsNumbered t
is-empty last t f l g none low high =
    record { first_is = f; within = rw (f, l, g, none) (IsWithin-empty 1 last low high) }
