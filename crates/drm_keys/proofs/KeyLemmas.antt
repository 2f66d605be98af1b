-- The list of the records, and how it changes.
use Rattle.std.proofs.Common.{◌≡◌, ◌≢◌, ℕ, ◌<◌, ◌==◌, Bool, true, false, not, cond, T, List, [], ◌∷◌, ◌++◌, map, filter, find as find_row, length, slice_get, Option, Some, None, option_map, option_and_then, unwrap_or, refl, sym, ap, subst, ◌∙◌, arith, nat_cmp}
use Rattle.std.specs.Prelude.{if◌then◌else◌, nat_lt}
use Rattle.std.specs.List.{AllByRecursion}
use Rattle.std.specs.Ordering.{eq_by_cmp}
use Rattle.std.specs.Cmp.{nat_cmp_total}
use Rattle.std.specs.FinMap as fin
use Rattle.std.specs.FinMap.{nat_cmp-IsAntisymmetric}
use Rattle.std.specs.FinMap.Entries.{find, put, where_key, is_sorted, below_all, same_entries}
use Rattle.std.proofs.lemmas.Bool.{false≢true, eqb-true}
use Rattle.std.proofs.lemmas.Bool.Decides.{nat_tests}
use Rattle.slab.specs.Slab.{Slab, get, Updates}
use Rattle.drm_index_array.specs.Orders.{InOrder}
use Rattle.std.proofs.lemmas.List.{map-append}
use Rattle.drm_index_array.proofs.Lists.{all_of_map, all_mapped, map-map}
use Rattle.drm_index_array.specs.Rows.{placed}
use Rattle.drm_index_array.proofs.RowsByKey.{left, right, all_rows, rows_put, row_at, rows_length, entries_removed}
use Rattle.drm_keys.specs.Keys.{rows_in, IsKeyed}
use Rattle.std.proofs.lemmas.Option.{none-some}
use Rattle.drm_index_array.proofs.Entries.{less_of, same_test, before_test, same, differ, apart, insert_same, insert_other, remove_same, remove_other, rows_over, rows_alike}

entries_each : (P : ℕ × ℕ → Type 0) (es : List (ℕ × ℕ)) → T (is_sorted nat_cmp es)
    → ((b k : ℕ) → find nat_cmp b es ≡ Some k → P (b, k)) → AllByRecursion P es
entries_each P es h each = all_of_map P (λ e. e) es (all_rows nat_cmp nat_cmp_total (λ e. e) P es h each)

module _ {X : Type 0} (key step_number : X → ℕ) (nothing : X) where
  abbrev row : Slab X → ℕ × ℕ → X
  row slab e = unwrap_or (get slab e.1) nothing

  find_absent : (p : X → Bool) (f : ℕ × ℕ → X) (es : List (ℕ × ℕ)) → AllByRecursion (λ e. p (f e) ≡ false) es
      → find_row p (map f es) ≡ None
  find_absent p f [] all = refl
  find_absent p f (e ∷ es) all = ap (λ b. cond b (Some (f e)) (find_row p (map f es))) all.0 ∙ find_absent p f es all.1

  -- the first that passes, where those that pass are all one
  find_present : (p : X → Bool) (f : ℕ × ℕ → X) (x : X) (b k : ℕ) → (es : List (ℕ × ℕ))
      → AllByRecursion (λ e. p (f e) ≡ true → f e ≡ x) es → find nat_cmp b es ≡ Some k → p (f (b, k)) ≡ true
      → find_row p (map f es) ≡ Some x
  find_present p f x b k [] all found passes = absurd (none-some k found)
  find_present p f x b k (e ∷ es) all found passes =
      elim (p (f e)) as (λ t. p (f e) ≡ t → cond t (Some (f e)) (find_row p (map f es)) ≡ Some x) [
        | true ↦ λ is. ap Some (all.0 is)
        | false ↦ λ fails. find_present p f x b k es all.1 (skipped (eq_by_cmp nat_cmp b e.0) refl fails found) passes
      ] refl
    where
      tied : (a b : ℕ) → eq_by_cmp nat_cmp a b ≡ true → a ≡ b
      tied a b e = grind (arith, nat_tests)

      skipped : (t : Bool) → eq_by_cmp nat_cmp b e.0 ≡ t → p (f e) ≡ false
          → cond t (Some e.1) (find nat_cmp b es) ≡ Some k → find nat_cmp b es ≡ Some k
      skipped true is fails found =
          let value : e.1 ≡ k = ap (λ o. unwrap_or o 0) found in
          absurd (false≢true (sym fails ∙ ap (λ (u : ℕ × ℕ). p (f u)) (λ i. (sym (tied b e.0 is) i, value i)) ∙ passes))
      skipped false is fails found = found

  -- Without keys there are no records in the list.
  pub none_in_empty : (slab : Slab X) → rows_in nothing slab (fin.entries {X = ℕ} {R = nat_cmp} fin.empty) ≡ []
  none_in_empty slab =
      ap (rows_in nothing slab)
      (same_entries nat_cmp nat_cmp_total nat_cmp-IsAntisymmetric (fin.entries fin.empty) [] (fin.entries_sorted fin.empty) tt (λ q. sym (fin.get-entries fin.empty q) ∙ fin.get-empty nat_cmp q))

  -- An empty slab and no keys are keyed.
  pub keyed_empty : (slab : Slab X) → ((k : ℕ) → get slab k ≡ None) → IsKeyed key step_number fin.empty slab
  keyed_empty slab none = record {
    record_of = λ b k at. absurd (none-some k (sym (fin.get-empty nat_cmp b) ∙ at));
    key_of = λ k x at. absurd (none-some x (sym (none k) ∙ at));
  }

  -- An update after a larger capacity is an update of the slab itself.
  pub grown : (slab room new : Slab X) (capacity k r : ℕ) (x : X) → room ≡ record slab { capacity = capacity } → r ≡ k
      → Updates room new r (Some x) → Updates slab new k (Some x)
  grown slab room new capacity k r x is key up = record {
    changed = ap (get new) (sym key) ∙ up.changed;
    others = λ o differs. up.others o (λ e. differs (e ∙ key)) ∙ ap (λ s. get s o) is;
  }

  module _ (keys : fin.FinMap nat_cmp ℕ) (slab : Slab X) (keyed : IsKeyed key step_number keys slab) where
    abbrev es : List (ℕ × ℕ)
    es = fin.entries keys

    abbrev pub rows : List X
    rows = rows_in nothing slab es

    by_get : (P : ℕ × ℕ → Type 0) → ((b k : ℕ) → fin.get keys b ≡ Some k → P (b, k)) → AllByRecursion P es
    by_get P each = entries_each P es (fin.entries_sorted keys) (λ b k found. each b k (fin.get-entries keys b ∙ found))

    -- A larger capacity leaves the slab keyed.
    pub more_room : (room : Slab X) (capacity : ℕ) → room ≡ record slab { capacity = capacity }
        → IsKeyed key step_number keys room
    more_room room capacity is =
        subst (IsKeyed key step_number keys) (sym is) (record { record_of = keyed.record_of; key_of = keyed.key_of })

    -- the row of a step number and its key
    row_is : (b k : ℕ) → fin.get keys b ≡ Some k → (x : X) → get slab k ≡ Some x → row slab (b, k) ≡ x
    row_is b k at x there = ap (λ o. unwrap_or o nothing) there

    row_step_number : (b k : ℕ) → fin.get keys b ≡ Some k → step_number (row slab (b, k)) ≡ b
    row_step_number b k at = let w = keyed.record_of b k at in ap step_number (row_is b k at w.0 w.1) ∙ w.2

    row_key : (b k : ℕ) → fin.get keys b ≡ Some k → key (row slab (b, k)) ≡ k
    row_key b k at = let w = keyed.record_of b k at in ap key (row_is b k at w.0 w.1) ∙ w.3

    -- two step numbers have two keys
    one_step_number : (b c k : ℕ) → fin.get keys b ≡ Some k → fin.get keys c ≡ Some k → b ≡ c
    one_step_number b c k at too = sym (row_step_number b k at) ∙ row_step_number c k too

    step_number_of : (b k : ℕ) (x : X) → fin.get keys b ≡ Some k → get slab k ≡ Some x → step_number x ≡ b
    step_number_of b k x at there = sym (ap step_number (row_is b k at x there)) ∙ row_step_number b k at

    abbrev Tells : ℕ × ℕ → Type 0
    Tells e = (step_number (row slab e) ≡ e.0) × (key (row slab e) ≡ e.1) × (fin.get keys e.0 ≡ Some e.1)

    tells : AllByRecursion Tells es
    tells = by_get Tells (λ b k at. (row_step_number b k at, row_key b k at, at))

    in_order : (fs : List (ℕ × ℕ)) → T (is_sorted nat_cmp fs) → AllByRecursion Tells fs
        → InOrder (λ x y. step_number x < step_number y) (rows_in nothing slab fs) × InOrder (λ x y. (key x == key y) ≡ false) (rows_in nothing slab fs)
    in_order [] h all = (tt, tt)
    in_order (e ∷ fs) h all =
        let more = in_order fs (right _ _ h) all.1 in
        ((step_numbers fs (left _ _ h) all.1, more.0), (others fs (left _ _ h) all.1, more.1))
      where
        step_numbers : (gs : List (ℕ × ℕ)) → T (below_all nat_cmp e.0 gs) → AllByRecursion Tells gs
            → AllByRecursion (λ y. step_number (row slab e) < step_number y) (rows_in nothing slab gs)
        step_numbers [] b a = tt
        step_numbers (g ∷ gs) b a =
            (let lt = less_of e.0 g.0 (left _ _ b) in omega (arith, lt, all.0.0, a.0.0), step_numbers gs (right _ _ b) a.1)

        others : (gs : List (ℕ × ℕ)) → T (below_all nat_cmp e.0 gs) → AllByRecursion Tells gs
            → AllByRecursion (λ y. (key (row slab e) == key y) ≡ false) (rows_in nothing slab gs)
        others [] b a = tt
        others (g ∷ gs) b a = (
          differ (key (row slab e)) (key (row slab g)) (λ is.
              let alike : e.1 ≡ g.1 = sym all.0.1 ∙ is ∙ a.0.1 in
              let step_numbers : e.0 ≡ g.0 = one_step_number e.0 g.0 g.1 (all.0.2 ∙ ap Some alike) a.0.2 in
              let lt = less_of e.0 g.0 (left _ _ b) in omega (arith, step_numbers, lt)),
          others gs (right _ _ b) a.1,
        )

    -- The step numbers of the records rise.
    pub rise : InOrder (λ x y. step_number x < step_number y) rows
    rise = (in_order es (fin.entries_sorted keys) tells).0

    -- No two records of the list have the same key.
    pub keys_differ : InOrder (λ x y. (key x == key y) ≡ false) rows
    keys_differ = (in_order es (fin.entries_sorted keys) tells).1

    -- the record of a key, and that of a step number

    -- The record found by its key is the one in the slab.
    pub by_key : (k : ℕ) → find_row (λ x. key x == k) rows ≡ get slab k
    by_key k =
        elim (get slab k) as (λ o. get slab k ≡ o → find_row (λ x. key x == k) rows ≡ o) [
          | None ↦ λ none. find_absent (λ x. key x == k) (row slab) es (by_get (λ e. (key (row slab e) == k) ≡ false) (λ b n at. differ (key (row slab (b, n))) k (λ is.
              let w = keyed.record_of b n at in none-some w.0 (sym none ∙ ap (get slab) (sym (sym (row_key b n at) ∙ is)) ∙ w.1))))
          | Some x ↦ λ some.
              let at = (keyed.key_of k x some).1 in
              find_present (λ x. key x == k) (row slab) x (step_number x) k es
              (by_get (λ e. (key (row slab e) == k) ≡ true → row slab e ≡ x) (λ b n at is. row_is b n at x (ap (get slab) (sym (row_key b n at) ∙ eqb-true _ k is) ∙ some)))
              (sym (fin.get-entries keys (step_number x)) ∙ at) (same _ k (row_key (step_number x) k at))
        ] refl

    -- The record found by its step number is the one in the slab at its key.
    pub by_step_number : (b : ℕ) → find_row (λ x. step_number x == b) rows ≡ option_and_then (get slab) (fin.get keys b)
    by_step_number b =
        elim (fin.get keys b) as (λ o. fin.get keys b ≡ o → find_row (λ x. step_number x == b) rows ≡ option_and_then (get slab) o) [
          | None ↦ λ none. find_absent (λ x. step_number x == b) (row slab) es (by_get (λ e. (step_number (row slab e) == b) ≡ false) (λ c n at. differ (step_number (row slab (c, n))) b (λ is.
              none-some n (sym none ∙ ap (fin.get keys) (sym (sym (row_step_number c n at) ∙ is)) ∙ at))))
          | Some k ↦ λ at.
              let w = keyed.record_of b k at in
              find_present (λ x. step_number x == b) (row slab) w.0 b k es
              (by_get (λ e. (step_number (row slab e) == b) ≡ true → row slab e ≡ w.0) (λ c n too is.
              let step_numbers : c ≡ b = sym (row_step_number c n too) ∙ eqb-true _ b is in
              let alike : n ≡ k = ap (λ o. unwrap_or o 0) (sym too ∙ ap (fin.get keys) step_numbers ∙ at) in
              row_is c n too w.0 (ap (get slab) alike ∙ w.1)))
              (sym (fin.get-entries keys b) ∙ at) (same _ b (row_step_number b k at)) ∙ sym w.1
        ] refl

    -- The only record with the step number of a key's record is the one with this key.
    pub only_one : (k : ℕ) (x : X) → get slab k ≡ Some x
        → AllByRecursion (λ z. (step_number z == step_number x) ≡ (key z == k)) rows
    only_one k x there =
        all_mapped (λ z. (step_number z == step_number x) ≡ (key z == k)) (row slab) es
        (by_get (λ e. (step_number (row slab e) == step_number x) ≡ (key (row slab e) == k)) (λ b n at.
        elim (key (row slab (b, n)) == k) as (λ t. (key (row slab (b, n)) == k) ≡ t → (step_number (row slab (b, n)) == step_number x) ≡ t) [
          | true ↦ λ e. same _ _ (ap step_number (row_is b n at x (ap (get slab) (sym (row_key b n at) ∙ eqb-true _ k e) ∙ there)))
          | false ↦ λ e. differ _ _ (λ alike.
              apart _ k e (row_key b n at ∙ ap (λ o. unwrap_or o 0) (sym at ∙ ap (fin.get keys) (sym (row_step_number b n at) ∙ alike) ∙ (keyed.key_of k x there).1)))
        ] refl))

    -- The record at a position is the one whose step number is at this position.
    pub at_position : (i : ℕ)
        → option_and_then (λ b. option_and_then (get slab) (fin.get keys b)) (slice_get (fin.keys keys) i) ≡ slice_get rows i
    at_position i = each (slice_get (fin.keys keys) i) ∙ row_at keys 0 (row slab) i
      where
        inner : (b : ℕ) (k : Option ℕ) → fin.get keys b ≡ k
            → option_and_then (get slab) k ≡ option_map (λ n. row slab (b, n)) k
        inner b None at = refl
        inner b (Some k) at = let w = keyed.record_of b k at in w.1 ∙ ap Some (sym (row_is b k at w.0 w.1))

        each : (b : Option ℕ)
            → option_and_then (λ b. option_and_then (get slab) (fin.get keys b)) b ≡ option_and_then (λ b. option_map (λ n. row slab (b, n)) (fin.get keys b)) b
        each None = refl
        each (Some b) = inner b (fin.get keys b) refl

    -- There are as many records as keys.
    pub many : length rows ≡ fin.len keys
    many = rows_length keys 0 (row slab)

    -- A step number that no record has has no key.
    pub vacant : (n : ℕ) → AllByRecursion (λ x. (step_number x == n) ≡ false) rows → fin.get keys n ≡ None
    vacant n unused = fin.get-entries keys n ∙ none es tells unused
      where
        none : (fs : List (ℕ × ℕ)) → AllByRecursion Tells fs
            → AllByRecursion (λ x. (step_number x == n) ≡ false) (rows_in nothing slab fs) → find nat_cmp n fs ≡ None
        none [] t h = refl
        none (f ∷ fs) t h =
            ap (λ b. cond b (Some f.1) (find nat_cmp n fs)) (sym (same_test n f.0) ∙ ap (λ m. m == n) (sym t.0.0) ∙ h.0)
            ∙ none fs t.1 h.1

    -- a new record under a key that had none
    module _ (n k : ℕ) (x : X) (new : Slab X) (is_step_number : step_number x ≡ n) (is_key : key x ≡ k) (free : get slab k ≡ None) (up : Updates slab new k (Some x))
        (unused : AllByRecursion (λ y. (step_number y == n) ≡ false) rows) where
      other_key : (b j : ℕ) → fin.get keys b ≡ Some j → j ≢ k
      other_key b j at e = let w = keyed.record_of b j at in none-some w.0 (sym free ∙ ap (get slab) (sym e) ∙ w.1)

      unmoved : rows_in nothing new es ≡ rows
      unmoved =
          rows_alike (row slab) (row new) es
          (by_get (λ e. row new e ≡ row slab e) (λ b j at. ap (λ o. unwrap_or o nothing) (up.others j (other_key b j at))))

      -- a record next to its step number
      abbrev tagged : ℕ × ℕ → ℕ × X
      tagged e = (e.0, row new e)

      abbrev record_of_tagged : ℕ × X → X
      record_of_tagged p = p.1

      tells_new : AllByRecursion (λ e. step_number (row new e) ≡ e.0) es
      tells_new =
          by_get (λ e. step_number (row new e) ≡ e.0)
          (λ b j at. ap (λ o. step_number (unwrap_or o nothing)) (up.others j (other_key b j at)) ∙ row_step_number b j at)

      untagged : (q : ℕ → Bool) (fs : List (ℕ × ℕ)) → AllByRecursion (λ e. step_number (row new e) ≡ e.0) fs
          → map record_of_tagged (filter (λ p. q p.0) (map tagged fs)) ≡ filter (λ y. q (step_number y)) (map (row new) fs)
      untagged q [] t = refl
      untagged q (f ∷ fs) t =
          let rest = untagged q fs t.1 in
          let more = filter (λ y. q (step_number y)) (map (row new) fs) in
          elim (q f.0) as (λ b. q (step_number (row new f)) ≡ b → map record_of_tagged (cond b (tagged f ∷ filter (λ p. q p.0) (map tagged fs)) (filter (λ p. q p.0) (map tagged fs))) ≡ cond (q (step_number (row new f))) (row new f ∷ more) more) [
            | true ↦ λ e. ap (λ l. row new f ∷ l) rest ∙ ap (λ b. cond b (row new f ∷ more) more) (sym e)
            | false ↦ λ e. rest ∙ ap (λ b. cond b (row new f ∷ more) more) (sym e)
          ] (ap q t.0)

      -- A new record is put at its place in the list.
      pub created : rows_in nothing new (fin.entries (fin.insert keys n k)) ≡ placed (λ y z. nat_lt (step_number y) (step_number z)) x rows
      created =
          ap (map (row new)) (fin.entries-insert nat_cmp_total keys n k)
          ∙ sym (map-map record_of_tagged tagged (put nat_cmp n k es))
          ∙ ap (map record_of_tagged)
          (rows_put nat_cmp nat_cmp_total tagged (λ p q. nat_lt p.0 q.0) (λ e f. before_test e.0 f.0) n k es (fin.entries_sorted keys) (sym (fin.get-entries keys n) ∙ vacant n unused))
          ∙ map-append record_of_tagged (filter (λ p. nat_lt p.0 n) (map tagged es))
          (tagged (n, k) ∷ filter (λ p. not (nat_lt p.0 n)) (map tagged es))
          ∙
          (λ i. untagged (λ b. nat_lt b n) es tells_new i ++ unwrap_or (up.changed i) nothing ∷ untagged (λ b. not (nat_lt b n)) es tells_new i)
          ∙
          (λ i. filter (λ y. nat_lt (step_number y) (sym is_step_number i)) (unmoved i) ++ x ∷ filter (λ y. not (nat_lt (step_number y) (sym is_step_number i))) (unmoved i))

      -- After a record is created at a free key, the slab is still keyed.
      pub created_keyed : IsKeyed key step_number (fin.insert keys n k) new
      created_keyed = record {
        record_of = λ b j at.
            elim (b == n) as (λ t. (b == n) ≡ t → (y : X) × (get new j ≡ Some y) × (step_number y ≡ b) × (key y ≡ j)) [
              | true ↦ λ e.
                  let alike : b ≡ n = eqb-true b n e in
                  let keys_alike : k ≡ j =
                  ap (λ o. unwrap_or o 0)
                  (sym (insert_same keys n k) ∙ ap (fin.get (fin.insert keys n k)) (sym alike) ∙ at) in
                  (x, ap (get new) (sym keys_alike) ∙ up.changed, is_step_number ∙ sym alike, is_key ∙ keys_alike)
              | false ↦ λ differs.
                  let old : fin.get keys b ≡ Some j = sym (insert_other keys n k b (apart b n differs)) ∙ at in
                  let w = keyed.record_of b j old in
                  (w.0, up.others j (other_key b j old) ∙ w.1, w.2, w.3)
            ] refl;
        key_of = λ j y at.
            elim (j == k) as (λ t. (j == k) ≡ t → (key y ≡ j) × (fin.get (fin.insert keys n k) (step_number y) ≡ Some j)) [
              | true ↦ λ e.
                  let alike : j ≡ k = eqb-true j k e in
                  let is_y : x ≡ y = ap (λ o. unwrap_or o nothing) (sym up.changed ∙ ap (get new) (sym alike) ∙ at) in
                  (ap key (sym is_y) ∙ is_key ∙ sym alike, ap (fin.get (fin.insert keys n k)) (ap step_number (sym is_y) ∙ is_step_number) ∙ insert_same keys n k ∙ ap Some (sym alike))
              | false ↦ λ differs.
                  let w = keyed.key_of j y (sym (up.others j (apart j k differs)) ∙ at) in
                  (w.0, insert_other keys n k (step_number y) (λ e. none-some j (sym (vacant n unused) ∙ ap (fin.get keys) (sym e) ∙ w.1)) ∙ w.1)
            ] refl;
      }

    -- another value in the place of a record, of the same key and step number
    module _ (k : ℕ) (x : X) (g : X → X) (new : Slab X) (there : get slab k ≡ Some x) (same_step_number : step_number (g x) ≡ step_number x) (same_key : key (g x) ≡ key x) (up : Updates slab new k (Some (g x))) where
      x_key : key x ≡ k
      x_key = (keyed.key_of k x there).0

      x_at : fin.get keys (step_number x) ≡ Some k
      x_at = (keyed.key_of k x there).1

      -- A changed record is changed in the list.
      pub replaced : rows_in nothing new es ≡ map (λ z. if step_number z == step_number x then g z else z) rows
      replaced =
          rows_over (row slab) (row new) (λ z. if step_number z == step_number x then g z else z) es
          (by_get (λ e. row new e ≡ (if step_number (row slab e) == step_number x then g (row slab e) else row slab e)) each)
        where
          each : (c n : ℕ) → fin.get keys c ≡ Some n
              → row new (c, n) ≡ (if step_number (row slab (c, n)) == step_number x then g (row slab (c, n)) else row slab (c, n))
          each c n at =
              elim (n == k) as (λ t. (n == k) ≡ t → row new (c, n) ≡ (if step_number (row slab (c, n)) == step_number x then g (row slab (c, n)) else row slab (c, n))) [
                | true ↦ λ e.
                    let alike : n ≡ k = eqb-true n k e in
                    let old : row slab (c, n) ≡ x = row_is c n at x (ap (get slab) alike ∙ there) in
                    ap (λ o. unwrap_or o nothing) (ap (get new) alike ∙ up.changed) ∙ ap g (sym old)
                    ∙ ap (λ t. if t then g (row slab (c, n)) else row slab (c, n))
                    (sym (same (step_number (row slab (c, n))) (step_number x) (ap step_number old)))
                | false ↦ λ differs.
                    ap (λ o. unwrap_or o nothing) (up.others n (apart n k differs))
                    ∙ ap (λ t. if t then g (row slab (c, n)) else row slab (c, n)) (sym (differ (step_number (row slab (c, n))) (step_number x) (λ e.
                    apart n k differs (ap (λ o. unwrap_or o 0) (sym at ∙ ap (fin.get keys) (sym (row_step_number c n at) ∙ e) ∙ x_at)))))
              ] refl

      -- After a change that keeps key and step number, the slab is still keyed.
      pub replaced_keyed : IsKeyed key step_number keys new
      replaced_keyed = record {
        record_of = λ b j at.
            elim (j == k) as (λ t. (j == k) ≡ t → (y : X) × (get new j ≡ Some y) × (step_number y ≡ b) × (key y ≡ j)) [
              | true ↦ λ e.
                  let alike : j ≡ k = eqb-true j k e in
                  (g x, ap (get new) alike ∙ up.changed, same_step_number ∙ step_number_of b j x at (ap (get slab) alike ∙ there), same_key ∙ x_key ∙ sym alike)
              | false ↦ λ differs. let w = keyed.record_of b j at in (w.0, up.others j (apart j k differs) ∙ w.1, w.2, w.3)
            ] refl;
        key_of = λ j y at.
            elim (j == k) as (λ t. (j == k) ≡ t → (key y ≡ j) × (fin.get keys (step_number y) ≡ Some j)) [
              | true ↦ λ e.
                  let alike : j ≡ k = eqb-true j k e in
                  let is_y : g x ≡ y = ap (λ o. unwrap_or o nothing) (sym up.changed ∙ ap (get new) (sym alike) ∙ at) in
                  (ap key (sym is_y) ∙ same_key ∙ x_key ∙ sym alike, ap (fin.get keys) (ap step_number (sym is_y) ∙ same_step_number) ∙ x_at ∙ ap Some (sym alike))
              | false ↦ λ differs. keyed.key_of j y (sym (up.others j (apart j k differs)) ∙ at)
            ] refl;
      }

    -- a record is removed, with the key of its step number
    module _ (k : ℕ) (x : X) (new : Slab X) (there : get slab k ≡ Some x) (up : Updates slab new k None) where
      gone_at : fin.get keys (step_number x) ≡ Some k
      gone_at = (keyed.key_of k x there).1

      abbrev Fact : ℕ × ℕ → Type 0
      Fact e = (step_number (row slab e) ≡ e.0) × ((e.0 ≡ step_number x → ⊥) → row new e ≡ row slab e)

      key_is : (c n : ℕ) → fin.get keys c ≡ Some n → c ≡ step_number x → n ≡ k
      key_is c n at e = ap (λ o. unwrap_or o 0) (sym at ∙ ap (fin.get keys) e ∙ gone_at)

      -- A removed record is removed from the list.
      pub removed : rows_in nothing new (fin.entries (fin.remove keys (step_number x))) ≡ filter (λ z. not (step_number z == step_number x)) rows
      removed = ap (rows_in nothing new) (entries_removed keys (step_number x)) ∙ by_list es (by_get Fact each)
        where
          each : (c n : ℕ) → fin.get keys c ≡ Some n → Fact (c, n)
          each c n at =
              (row_step_number c n at, λ other. ap (λ o. unwrap_or o nothing) (up.others n (λ e. other (sym (step_number_of c n x at (ap (get slab) e ∙ there))))))

          by_list : (fs : List (ℕ × ℕ)) → AllByRecursion Fact fs
              → map (row new) (where_key nat_cmp (λ q. not (eq_by_cmp nat_cmp (step_number x) q)) fs) ≡ filter (λ z. not (step_number z == step_number x)) (map (row slab) fs)
          by_list [] h = refl
          by_list (f ∷ fs) h =
              let kept = where_key nat_cmp (λ q. not (eq_by_cmp nat_cmp (step_number x) q)) fs in
              let stay = filter (λ z. not (step_number z == step_number x)) (map (row slab) fs) in
              ap (λ t. map (row new) (cond (not t) (f ∷ kept) kept)) (sym (same_test (step_number x) f.0))
              ∙ elim (f.0 == step_number x) as (λ t. (f.0 == step_number x) ≡ t → map (row new) (cond (not t) (f ∷ kept) kept) ≡ cond (not t) (row slab f ∷ stay) stay) [
                | true ↦ λ e. by_list fs h.1
                | false ↦ λ differs. λ i. h.0.1 (apart f.0 (step_number x) differs) i ∷ by_list fs h.1 i
              ] refl
              ∙ ap (λ n. cond (not (n == step_number x)) (row slab f ∷ stay) stay) (sym h.0.0)

      -- After a record is removed, the slab is still keyed.
      pub removed_keyed : IsKeyed key step_number (fin.remove keys (step_number x)) new
      removed_keyed = record {
        record_of = λ b j at.
            elim (b == step_number x) as (λ t. (b == step_number x) ≡ t → (y : X) × (get new j ≡ Some y) × (step_number y ≡ b) × (key y ≡ j)) [
              | true ↦ λ e. absurd (none-some j (sym (remove_same keys (step_number x)) ∙ ap (fin.get (fin.remove keys (step_number x))) (sym (eqb-true b (step_number x) e)) ∙ at))
              | false ↦ λ differs.
                  let old : fin.get keys b ≡ Some j =
                  sym (remove_other keys (step_number x) b (apart b (step_number x) differs)) ∙ at in
                  let w = keyed.record_of b j old in
                  (w.0, up.others j (λ e. apart b (step_number x) differs (sym (step_number_of b j x old (ap (get slab) e ∙ there)))) ∙ w.1, w.2, w.3)
            ] refl;
        key_of = λ j y at.
            elim (j == k) as (λ t. (j == k) ≡ t → (key y ≡ j) × (fin.get (fin.remove keys (step_number x)) (step_number y) ≡ Some j)) [
              | true ↦ λ e. absurd (none-some y (sym up.changed ∙ ap (get new) (sym (eqb-true j k e)) ∙ at))
              | false ↦ λ differs.
                  let w = keyed.key_of j y (sym (up.others j (apart j k differs)) ∙ at) in
                  (w.0, remove_other keys (step_number x) (step_number y) (λ e. apart j k differs (key_is (step_number y) j w.1 e)) ∙ w.1)
            ] refl;
      }
