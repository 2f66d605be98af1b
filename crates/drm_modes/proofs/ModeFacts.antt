-- The lists that the table and the scanouts represent, and how they change.
use Rattle.std.proofs.Common.{◌≡◌, ℕ, zero, suc, ◌+◌, ◌≤◌, ◌<◌, ◌==◌, eqb, nat_lt, length, Bool, true, false, cond, ◌||◌, find, is_some, List, [], ◌∷◌, replicate, map, set, Option, Some, None, option_map, option_and_then, refl, sym, ap, ◌∙◌, eq-eqb, arith, nat_cmp}
use Rattle.std.proofs.lemmas.Bool.{false≢true, eqb-true}
use Rattle.std.proofs.lemmas.List.{length-map, length-set, length-replicate}
use Rattle.std.specs.List.{AllByRecursion, list_any}
use Rattle.std.specs.FinMap as fin
use Rattle.drm_index_array.proofs.Lists.{all_weaker, all_mapped}
use Rattle.drm_index_array.proofs.FoundInLists.{is_some-find, is_some-map}
use Rattle.drm_index_array.specs.Least.{least}
use Rattle.drm_index_array.proofs.MarkedLemmas.{get-insert, get-remove}
use Rattle.drm_id_alloc.specs.Table.{Table, empty_table, is_free as is_free_in, least_free, with_entry, without_entry}
use Rattle.drm_id_alloc.specs.Groups.{GroupMap, has as in_group, IsAdded, IsTaken}
use Rattle.drm_id_alloc.proofs.TableLemmas.{IsWithin-empty, IsWithin-insert, IsWithin-remove}
use Rattle.drm_id_alloc.proofs.GroupLemmas.{grouped_empty, grouped_more, grouped_fewer}
use Rattle.drm_modes.specs.declared.rows.Framebuffer.{Framebuffer}
use Rattle.drm_modes.specs.declared.rows.Fb.{Fb}
use Rattle.drm_modes.specs.Topology.{Topology, IsTopology, object_count}
use Rattle.drm_modes.specs.Modes.{ModeSet, AreModes, IsFramebufferFrom, empty_modes, fb_of, has_framebuffer, is_framebuffer, is_framebuffer_of, is_made_by, framebuffer_before, free_framebuffer, with_framebuffer, without_framebuffer, dark_of, scanout_count, first_framebuffer}
use Rattle.drm_modes.specs.Tables.{framebuffer_row, framebuffers_in, mode_set, is_scanout, HasModes}
use Rattle.drm_index_array.specs.Rows.{InOrder}
use Rattle.drm_modes.proofs.Fixed.{few_rising}
use Rattle.drm_id_alloc.proofs.NumberTable.{find_number, find_also, rows_added, rows_removed, rows_rise, least_free_is, rows_all, no_rows}

abbrev number : Framebuffer → ℕ
number row = row.framebuffer

abbrev pub client_of : Fb → ℕ
client_of fb = fb.client

-- the object of what a client removes
abbrev pub removes : ℕ → ℕ → Option Fb → Option ℕ
removes c n x =
    option_map (λ (row : Framebuffer). row.object)
    (option_and_then (λ (v : Fb). cond (v.client == c) (Some (framebuffer_row (n, v))) None) x)

all_dark : (slots : fin.FinMap nat_cmp Fb) (n : ℕ) → AllByRecursion (λ f. is_scanout slots f ≡ true) (replicate n 0)
all_dark slots zero = tt
all_dark slots (suc n) = (refl, all_dark slots n)

all_set : (P : ℕ → Type 0) (v : ℕ) → P v → (xs : List ℕ) (i : ℕ) → AllByRecursion P xs → AllByRecursion P (set xs i v)
all_set P v is [] i all = tt
all_set P v is (x ∷ xs) zero all = (is, all.1)
all_set P v is (x ∷ xs) (suc i) all = (all.0, all_set P v is xs i all.1)

still_there : (z b : Bool) (v : Fb) (x : Option Fb) → (z || is_some x) ≡ true
    → (z || is_some (cond b (Some v) x)) ≡ true
still_there true b v x h = refl
still_there false true v x h = refl
still_there false false v x h = h

-- framebuffers that rise are no more than the ids that they may have
few_between : (low last : ℕ) → low ≤ last + 1 → (fs : List Framebuffer) → AllByRecursion (IsFramebufferFrom low last) fs
    → InOrder framebuffer_before fs → low + length fs ≤ last + 1
few_between low last le fs between rise =
    let few = few_rising low (last + 1) (map number fs) (ranged fs between) (numbers_rise fs rise) le in
    omega (arith, few, length-map fs number)
  where
    ranged : (fs : List Framebuffer) → AllByRecursion (IsFramebufferFrom low last) fs
        → AllByRecursion (λ x. (low ≤ x) × (x < last + 1)) (map number fs)
    ranged [] all = tt
    ranged (x ∷ xs) all = ((all.0.low, omega (arith, all.0.high)), ranged xs all.1)

    above : (x : Framebuffer) → (fs : List Framebuffer) → AllByRecursion (λ y. framebuffer_before x y ≡ true) fs
        → AllByRecursion (λ n. nat_lt x.framebuffer n ≡ true) (map number fs)
    above x [] all = tt
    above x (y ∷ ys) all = (all.0, above x ys all.1)

    numbers_rise : (fs : List Framebuffer) → InOrder framebuffer_before fs → InOrder nat_lt (map number fs)
    numbers_rise [] rise = tt
    numbers_rise (x ∷ xs) rise = (above x xs rise.0, numbers_rise xs rise.1)

-- a row without its id is what it was made of
without_id : (f : ℕ) (o : Option Fb) → o ≡ option_map fb_of (option_map (λ v. framebuffer_row (f, v)) o)
without_id f None = refl
without_id f (Some v) = refl

-- A framebuffer is found if and only if the set has it.
pub is_some_fb : (f : ℕ) (set : ModeSet)
    → is_some (option_map fb_of (find (is_framebuffer f) set.framebuffers)) ≡ has_framebuffer set f
is_some_fb f set =
    is_some-map fb_of (find (is_framebuffer f) set.framebuffers) ∙ is_some-find (is_framebuffer f) set.framebuffers

module _ (t : Topology) (table : Table Fb) (scanouts : List ℕ) where
  -- The lowest free framebuffer of the set is the lowest free key of the table.
  pub free_is : table.first ≡ first_framebuffer t → free_framebuffer (mode_set t table scanouts) ≡ least_free table
  free_is first =
      least_free_is framebuffer_row number (λ e. refl) table.slots (first_framebuffer t) table.last
      ∙ ap (λ n. least (is_free_in table) n table.last) (sym first)

  -- The framebuffer found by its number is the entry of the table.
  pub found_is : (f : ℕ)
      → find (is_framebuffer f) (framebuffers_in table.slots) ≡ option_map (λ v. framebuffer_row (f, v)) (fin.get table.slots f)
  found_is f = find_number framebuffer_row number (λ e. refl) table.slots f

  -- A client's framebuffer found by its number is the entry of the table, if the client is its owner.
  pub found_of_is : (c f : ℕ)
      → find (is_framebuffer_of c f) (framebuffers_in table.slots) ≡ option_and_then (λ (v : Fb). cond (v.client == c) (Some (framebuffer_row (f, v))) None) (fin.get table.slots f)
  found_of_is c f = find_also framebuffer_row number (λ e. refl) table.slots f (is_made_by c)

  -- the same of the value that contracts see
  module _ (seen : ModeSet) (is : mode_set t table scanouts ≡ seen) where
    -- The entry of the table is the framebuffer of the set.
    pub framebuffer_is : (f : ℕ)
        → option_map (λ v. framebuffer_row (f, v)) (fin.get table.slots f) ≡ find (is_framebuffer f) seen.framebuffers
    framebuffer_is f = sym (found_is f) ∙ ap (λ (set : ModeSet). find (is_framebuffer f) set.framebuffers) is

    -- The record in the table is that of the framebuffer in the set.
    pub fb_is : (f : ℕ) → fin.get table.slots f ≡ option_map fb_of (find (is_framebuffer f) seen.framebuffers)
    fb_is f = without_id f (fin.get table.slots f) ∙ ap (option_map fb_of) (framebuffer_is f)

    -- The object of a client's removed framebuffer is the one that the set has for it.
    pub removed_is : (c f : ℕ)
        → removes c f (fin.get table.slots f) ≡ option_map (λ (row : Framebuffer). row.object) (find (is_framebuffer_of c f) seen.framebuffers)
    removed_is c f =
        ap (option_map (λ (row : Framebuffer). row.object)) (sym (found_of_is c f))
        ∙ ap
        (λ (set : ModeSet). option_map (λ (row : Framebuffer). row.object) (find (is_framebuffer_of c f) set.framebuffers))
        is

    -- A framebuffer found as a client's is in the table, with this client.
    pub made_by : (c f : ℕ) → is_some (find (is_framebuffer_of c f) seen.framebuffers) ≡ true
        → (v : Fb) × (fin.get table.slots f ≡ Some v) × (v.client ≡ c)
    made_by c f made =
        by_cases (fin.get table.slots f) refl
        (ap is_some (sym (found_of_is c f) ∙ ap (λ (set : ModeSet). find (is_framebuffer_of c f) set.framebuffers) is) ∙ made)
      where
        by_client : (v : Fb) (b : Bool) → (v.client == c) ≡ b
            → is_some (cond b (Some (framebuffer_row (f, v))) None) ≡ true → v.client ≡ c
        by_client v true same h = eqb-true v.client c same
        by_client v false other h = absurd (false≢true h)

        by_cases : (o : Option Fb) → fin.get table.slots f ≡ o
            → is_some (option_and_then (λ (v : Fb). cond (v.client == c) (Some (framebuffer_row (f, v))) None) o) ≡ true
            → (v : Fb) × (fin.get table.slots f ≡ Some v) × (v.client ≡ c)
        by_cases None at h = absurd (false≢true h)
        by_cases (Some v) at h = (v, at, by_client v (v.client == c) refl h)

    -- A framebuffer that is in the table with this client is found as the client's in the set.
    pub is_made : (c f : ℕ) (v : Fb) → fin.get table.slots f ≡ Some v → v.client ≡ c
        → is_some (find (is_framebuffer_of c f) seen.framebuffers) ≡ true
    is_made c f v at mine =
        ap (λ (set : ModeSet). is_some (find (is_framebuffer_of c f) set.framebuffers)) (sym is)
        ∙ ap is_some
        (found_of_is c f ∙ ap (option_and_then (λ (w : Fb). cond (w.client == c) (Some (framebuffer_row (f, w))) None)) at)
        ∙ ap (λ b. is_some (cond b (Some (framebuffer_row (f, v))) None)) (eq-eqb v.client c mine)

  -- The set has a framebuffer if and only if the table has its key.
  pub has_is : (f : ℕ) → list_any (is_framebuffer f) (framebuffers_in table.slots) ≡ fin.contains_key table.slots f
  has_is f =
      sym (is_some-find (is_framebuffer f) (framebuffers_in table.slots)) ∙ ap is_some (found_is f)
      ∙ is_some-map (λ v. framebuffer_row (f, v)) (fin.get table.slots f)

  -- A new entry of the table is a new framebuffer of the set.
  pub added : (n : ℕ) (v : Fb) → fin.get table.slots n ≡ None
      → mode_set t (with_entry table n v) scanouts ≡ with_framebuffer (mode_set t table scanouts) (framebuffer_row (n, v))
  added n v none =
      λ i. record
      { topology = t; framebuffers = rows_added framebuffer_row number (λ e. refl) table.slots n v none i; scanouts = scanouts; last = table.last }

  -- An entry removed from the table, with its scanouts dark, is a framebuffer removed from the set.
  pub removed : (n : ℕ)
      → mode_set t (without_entry table n) (map (dark_of n) scanouts) ≡ without_framebuffer (mode_set t table scanouts) n
  removed n =
      λ i. record
      { topology = t; framebuffers = rows_removed framebuffer_row number (λ e. refl) table.slots n i; scanouts = map (dark_of n) scanouts; last = table.last }

  module _ {owned : GroupMap} (has : HasModes t table owned scanouts) where
    framebuffers_between : AllByRecursion (IsFramebufferFrom (first_framebuffer t) table.last) (framebuffers_in table.slots)
    framebuffers_between = rows_all framebuffer_row table.slots (IsFramebufferFrom (first_framebuffer t) table.last) (λ n v found. record {
      low = omega (arith, has.first_is, has.within.low n (ap is_some found));
      high = has.within.high n (ap is_some found);
    })

    few_framebuffers : length (framebuffers_in table.slots) ≤ 64
    few_framebuffers =
        let fits =
        few_between (first_framebuffer t) table.last (omega (arith, has.first_is, has.within.in_order))
        (framebuffers_in table.slots) framebuffers_between
        (rows_rise framebuffer_row number (λ e. refl) table.slots) in
        omega (arith, fits, has.last_high)

    -- The facts of modes hold for the set that the fields represent.
    pub modes_are : AreModes (mode_set t table scanouts)
    modes_are = record {
      topology = has.topology;
      last_low = omega (arith, has.first_is, has.within.in_order);
      last_high = has.last_high;
      framebuffers_rise = rows_rise framebuffer_row number (λ e. refl) table.slots;
      few = few_framebuffers;
      framebuffers_are = framebuffers_between;
      each_has_a_scanout = has.each_has_a_scanout;
      scanouts_are =
          all_weaker (λ f. is_scanout table.slots f ≡ true)
          (λ f. ((f == 0) || list_any (is_framebuffer f) (framebuffers_in table.slots)) ≡ true)
          (λ f h. ap (λ b. (f == 0) || b) (has_is f) ∙ h) scanouts has.scanouts_are;
    }

    -- The facts about the fields hold after a framebuffer is added with its client.
    pub has-added : (now : GroupMap) (n : ℕ) (v : Fb) → fin.get table.slots n ≡ None → table.first ≤ n → n ≤ table.last
        → IsAdded (in_group owned) v.client n (in_group now) → HasModes t (with_entry table n v) now scanouts
    has-added now n v fresh low high noted = record {
      topology = has.topology;
      first_is = has.first_is;
      last_high = has.last_high;
      within = IsWithin-insert table.slots table.first table.last table.last_given has.within n v low high;
      owners =
          grouped_more client_of table.slots (in_group owned) (in_group now) has.owners n v v.client fresh refl noted;
      each_has_a_scanout = has.each_has_a_scanout;
      scanouts_are =
          all_weaker (λ f. is_scanout table.slots f ≡ true) (λ f. is_scanout (fin.insert table.slots n v) f ≡ true)
          (λ f h. ap (λ o. (f == 0) || is_some o) (get-insert table.slots n v f) ∙ still_there (f == 0) (eqb f n) v (fin.get table.slots f) h)
          scanouts has.scanouts_are;
    }

    stays : (n f : ℕ) (b : Bool) → (f == n) ≡ b → is_scanout table.slots f ≡ true
        → is_scanout (fin.remove table.slots n) (cond b 0 f) ≡ true
    stays n f true same h = refl
    stays n f false other h =
        ap (λ o. (f == 0) || is_some o)
        (get-remove table.slots n f ∙ ap (λ b. cond b None (fin.get table.slots f)) other)
        ∙ h

    -- The facts about the fields hold after a framebuffer is removed and its scanouts are dark.
    pub has-removed : (now : GroupMap) (n : ℕ) (v : Fb) (c : ℕ) → fin.get table.slots n ≡ Some v → v.client ≡ c
        → IsTaken (in_group owned) c n (in_group now)
        → HasModes t (without_entry table n) now (map (dark_of n) scanouts)
    has-removed now n v c there mine taken = record {
      topology = has.topology;
      first_is = has.first_is;
      last_high = has.last_high;
      within = IsWithin-remove table.slots table.first table.last table.last_given has.within n;
      owners = grouped_fewer client_of table.slots (in_group owned) (in_group now) has.owners n v c there mine taken;
      each_has_a_scanout = length-map scanouts (dark_of n) ∙ has.each_has_a_scanout;
      scanouts_are = all_mapped (λ f. is_scanout (fin.remove table.slots n) f ≡ true) (dark_of n) scanouts
          (all_weaker (λ f. is_scanout table.slots f ≡ true) (λ f. is_scanout (fin.remove table.slots n) (dark_of n f) ≡ true) (λ f h. stays n f (f == n) refl h) scanouts has.scanouts_are);
    }

    -- The facts about the fields hold after a scanout gets an existing framebuffer or none.
    pub has-shown : (i f : ℕ) → is_scanout table.slots f ≡ true → HasModes t table owned (set scanouts i f)
    has-shown i f there = record {
      topology = has.topology;
      first_is = has.first_is;
      last_high = has.last_high;
      within = has.within;
      owners = has.owners;
      each_has_a_scanout = length-set scanouts i f ∙ has.each_has_a_scanout;
      scanouts_are = all_set (λ f. is_scanout table.slots f ≡ true) f there scanouts i has.scanouts_are;
    }

-- The facts about the fields hold for an empty table and dark scanouts.
pub has-none : (t : Topology) (n : ℕ) (owned : GroupMap) → IsTopology t → 1 ≤ n → n ≤ 64
    → ((c f : ℕ) → in_group owned c f ≡ false)
    → HasModes t (empty_table (first_framebuffer t) (object_count t + n)) owned (replicate (scanout_count t) 0)
has-none t n owned is some few none = record {
  topology = is;
  first_is = refl;
  last_high = omega (arith, few);
  within = IsWithin-empty (first_framebuffer t) (object_count t + n) (omega (arith, some)) (omega (arith, few, is.few));
  owners = grouped_empty client_of fin.empty (in_group owned) refl none;
  each_has_a_scanout = length-replicate (scanout_count t) 0;
  scanouts_are = all_dark fin.empty (scanout_count t);
}

-- An empty table and dark scanouts are a set without framebuffers.
pub none_made : (t : Topology) (n : ℕ)
    → mode_set t (empty_table (first_framebuffer t) (object_count t + n)) (replicate (scanout_count t) 0) ≡ empty_modes t n
none_made t n =
    λ i. record
    { topology = t; framebuffers = no_rows framebuffer_row i; scanouts = replicate (scanout_count t) 0; last = object_count t + n }
