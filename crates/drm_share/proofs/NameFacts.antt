-- The list of names that a table represents, and how it changes.
use Rattle.std.proofs.Common.{◌≡◌, ℕ, ◌≤◌, ◌==◌, eqb, Bool, true, false, not, cond, find, is_some, Option, Some, None, option_map, refl, sym, ap, ◌∙◌, arith, eq-eqb, nat_cmp}
use Rattle.std.specs.FinMap as fin
use Rattle.std.proofs.lemmas.Bool.{eqb-true, eqb-false, ne_eqb}
use Rattle.std.proofs.lemmas.Option.{none-some, same_Some}
use Rattle.drm_index_array.proofs.Lists.{filter_all, filter-same, all_weaker}
use Rattle.drm_index_array.proofs.FoundInLists.{none_found as found_none}
use Rattle.drm_index_array.specs.Least.{least}
use Rattle.drm_index_array.proofs.MarkedLemmas.{get-insert, get-remove}
use Rattle.drm_id_alloc.specs.Table.{Table, is_free, least_free, with_entry, without_entry}
use Rattle.drm_id_alloc.proofs.TableLemmas.{IsWithin-empty, IsWithin-insert, IsWithin-remove}
use Rattle.drm_share.specs.declared.rows.SharedName.{SharedName}
use Rattle.drm_share.specs.Names.{IsNameUpTo, AreNames, empty_names, is_name, names_object, name_of, free_name, with_name, without_name_of, have_other_objects}
use Rattle.drm_share.specs.Tables.{name_row, names_in, name_list, HasNames}
use Rattle.drm_id_alloc.proofs.BothWays.{none_both, one_each, one_more, one_less, number_is, forgotten as rows_forgotten, none_forgotten as rows_stay}
use Rattle.drm_id_alloc.proofs.NumberTable.{find_number, rows_added, rows_removed, rows_rise, least_free_is, rows_all, rows_pairs, none_found, first_found, no_rows}

abbrev name_in : SharedName → ℕ
name_in row = row.name

-- An empty table represents no names.
pub no_names : (last : ℕ) (t : Table ℕ) → t.last ≡ last → t.slots ≡ fin.empty → name_list t ≡ empty_names last
no_names last t l none = λ i. record { last = l i; names = (ap names_in none ∙ no_rows name_row) i }

module _ (t : Table ℕ) where
  composed : (n : ℕ) (x : Option ℕ)
      → option_map (λ (row : SharedName). row.object) (option_map (λ v. name_row (n, v)) x) ≡ x
  composed n None = refl
  composed n (Some k) = refl

  -- The object of a name in the list is the table's value at it.
  pub object_is : (n : ℕ)
      → option_map (λ (row : SharedName). row.object) (find (is_name n) (names_in t.slots)) ≡ fin.get t.slots n
  object_is n =
      ap (option_map (λ (row : SharedName). row.object)) (find_number name_row name_in (λ e. refl) t.slots n)
      ∙ composed n (fin.get t.slots n)

  -- The lowest free name of the list is the table's lowest free number.
  pub free_name_is : t.first ≡ 1 → free_name (name_list t) ≡ least_free t
  free_name_is first =
      least_free_is name_row name_in (λ e. refl) t.slots 1 t.last ∙ ap (λ n. least (is_free t) n t.last) (sym first)

  -- A new entry of the table is one more name in the list.
  pub name_given : (n k : ℕ) → fin.get t.slots n ≡ None → name_list (with_entry t n k) ≡ with_name (name_list t) n k
  name_given n k none =
      λ i. record { last = t.last; names = rows_added name_row name_in (λ e. refl) t.slots n k none i }

module _ (t : Table ℕ) (names : fin.FinMap nat_cmp ℕ) (has : HasNames t names) where
  -- The name of an object in the map is its name in the list.
  pub name_is : (k : ℕ) → fin.get names k ≡ name_of (name_list t) k
  name_is k = number_is t.slots names has.ways name_row name_in (λ e. refl) names_object (λ j e. refl) k

  -- The facts of names hold for the list that the fields represent.
  pub names_are : AreNames (name_list t)
  names_are = record {
    last_low = omega (arith, has.numbered.first_is, has.numbered.within.in_order);
    last_high = has.numbered.within.fits;
    names_rise = rows_rise name_row name_in (λ e. refl) t.slots;
    names_are = rows_all name_row t.slots (IsNameUpTo t.last) (λ n k found. record {
      low = omega (arith, has.numbered.first_is, has.numbered.within.low n (ap is_some found));
      high = has.numbered.within.high n (ap is_some found);
    });
    objects_differ =
        rows_pairs name_row t.slots have_other_objects
        (λ a b v w at_a at_b apart. ap not (ne_eqb v w (λ same. apart (one_each t.slots names has.ways a b v at_a (at_b ∙ ap (λ k. Some k) (sym same))))));
  }

  -- The facts about the fields hold after a name is added to an object that has none.
  pub has-given : (n k : ℕ) → fin.get names k ≡ None → fin.get t.slots n ≡ None → t.first ≤ n → n ≤ t.last
      → HasNames (with_entry t n k) (fin.insert names k n)
  has-given n k unnamed free low high = record {
    numbered =
        record
        { first_is = has.numbered.first_is; within = IsWithin-insert t.slots t.first t.last t.last_given has.numbered.within n k low high };
    ways = one_more t.slots names has.ways n k unnamed free;
  }

  -- The facts about the fields hold after a name is removed with its object.
  pub has-removed : (n k : ℕ) → fin.get names k ≡ Some n → HasNames (without_entry t n) (fin.remove names k)
  has-removed n k is = record {
    numbered =
        record
        { first_is = has.numbered.first_is; within = IsWithin-remove t.slots t.first t.last t.last_given has.numbered.within n };
    ways = one_less t.slots names has.ways n k is;
  }

  -- An entry removed from the table is an object's name removed from the list.
  pub forgotten : (n k : ℕ) → fin.get names k ≡ Some n → name_list (without_entry t n) ≡ without_name_of (name_list t) k
  forgotten n k is =
      λ i. record
      { last = t.last; names = rows_forgotten t.slots names has.ways name_row name_in (λ e. refl) names_object (λ j e. refl) n k is i }

  -- Removing the name of an object that has none leaves the list unchanged.
  pub none_forgotten : (k : ℕ) → fin.get names k ≡ None → without_name_of (name_list t) k ≡ name_list t
  none_forgotten k none =
      λ i. record
      { last = t.last; names = rows_stay t.slots names has.ways name_row name_in (λ e. refl) names_object (λ j e. refl) k none i }

-- The facts about the fields hold for an empty table and an empty map.
pub has-empty : (last : ℕ) (t : Table ℕ) (names : fin.FinMap nat_cmp ℕ) → t.first ≡ 1 → t.last ≡ last
    → t.last_given ≡ None → t.slots ≡ fin.empty → names ≡ fin.empty → 1 ≤ last → last ≤ 4294967295 → HasNames t names
has-empty last t names f l g none unnamed low high = record {
  numbered = record { first_is = f; within = rw (f, l, g, none) (IsWithin-empty 1 last low high) };
  ways = none_both t.slots names none unnamed;
}
