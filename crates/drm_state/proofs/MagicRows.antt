-- The rows of magics, which the members of masters have.
use Rattle.std.proofs.Common.{◌≡◌, ℕ, ◌<◌, ◌==◌, Bool, true, false, not, cond, ◌&&◌, ◌||◌, List, [], ◌∷◌, find, Option, None, Some, refl, sym, ap, ◌∙◌, eq-eqb}
use Rattle.std.specs.Prelude.{if◌then◌else◌}
use Rattle.std.specs.List.{list_any, filter_map, cons_option, AllByRecursion}
use Rattle.std.specs.Option.{is_some, option_map, option_map_or, option_and_then}
use Rattle.std.proofs.lemmas.Bool.{eqb-true}
use Rattle.drm_index_array.specs.Orders.{SameRows, InOrder}
use Rattle.drm_index_array.proofs.Lists.{all_weaker}
use Rattle.drm_index_array.proofs.FoundInLists.{is_some-find, found-number, find_none}
use Rattle.drm_index_array.proofs.Rising.{all_found}
use Rattle.drm_index_array.proofs.Numbers.{less-differ, flipped}
use Rattle.drm_index_array.proofs.Orders.{same-any}
use Rattle.drm_masters.specs.declared.rows.Magic.{Magic}
use Rattle.drm_masters.specs.declared.rows.Member.{Member}
use Rattle.drm_masters.specs.Masters as masters
use Rattle.drm_model.specs.Rows.{Rows, MagicRow, magic_row}
use Rattle.drm_state.specs.declared.state.State.{State}
use Rattle.drm_state.specs.Parts.{magic_row_of, magics_of}
use Rattle.drm_state.specs.Invariants.{MeetsInvariants}
use Rattle.drm_state.specs.Refinement.{Represents}
use Rattle.drm_state.proofs.Represented.{magics_are, masters_so}
use Rattle.drm_index_array.proofs.Each.{none_passes}

-- ---- the same for a search, a test and a property: of optional rows it concerns those that exist

-- The first of the mapped items that passes a test is that of the first item whose image passes it.
pub find-filter_map : {X Y : Type 0} (p : Y → Bool) (h : X → Option Y) → (xs : List X)
    → find p (filter_map h xs) ≡ option_and_then h (find (λ x. option_map_or p (h x) false) xs)
find-filter_map p h [] = refl
find-filter_map {Y = Y} p h (x ∷ xs) = by_row (h x) refl (find-filter_map p h xs)
  where
    by_row : (o : Option Y) → h x ≡ o
        → find p (filter_map h xs) ≡ option_and_then h (find (λ x. option_map_or p (h x) false) xs) →
        find p (cons_option o (filter_map h xs)) ≡ option_and_then h
        (cond (option_map_or p o false) (Some x) (find (λ x. option_map_or p (h x) false) xs))
    by_row None e again = again
    by_row (Some y) e again =
        (elim (p y) as (λ b. cond b (Some y) (find p (filter_map h xs)) ≡ option_and_then h (cond b (Some x) (find (λ x. option_map_or p (h x) false) xs))) [ true ↦ sym e | false ↦ again ])

-- Some mapped item passes a test exactly if the image of some item does.
pub any-filter_map : {X Y : Type 0} (p : Y → Bool) (h : X → Option Y) → (xs : List X)
    → list_any p (filter_map h xs) ≡ list_any (λ x. option_map_or p (h x) false) xs
any-filter_map p h [] = refl
any-filter_map {Y = Y} p h (x ∷ xs) = by_row (h x) ∙ ap (λ b. option_map_or p (h x) false || b) (any-filter_map p h xs)
  where
    by_row : (o : Option Y)
        → list_any p (cons_option o (filter_map h xs)) ≡ (option_map_or p o false || list_any p (filter_map h xs))
    by_row None = refl
    by_row (Some y) = refl

-- If each image of an item has a property, each mapped item has it.
pub all-filter_map : {X Y : Type 0} (P : Y → Type 0) (h : X → Option Y) → (xs : List X)
    → AllByRecursion (λ x. (y : Y) → h x ≡ Some y → P y) xs → AllByRecursion P (filter_map h xs)
all-filter_map P h [] k = tt
all-filter_map {Y = Y} P h (x ∷ xs) k = by_row (h x) refl (all-filter_map P h xs k.1)
  where
    by_row : (o : Option Y) → h x ≡ o → AllByRecursion P (filter_map h xs)
        → AllByRecursion P (cons_option o (filter_map h xs))
    by_row None e rest = rest
    by_row (Some y) e rest = (k.0 y e, rest)

-- ---- the one row that passes, in another order

-- the rows that pass are this one
abbrev pub OnlyIt : (MagicRow → Bool) → List MagicRow → MagicRow → Type 0
OnlyIt p ys y = AllByRecursion (λ (z : MagicRow). p z ≡ true → z ≡ y) ys

module _ (p : MagicRow → Bool) (rows ys : List MagicRow) (same : SameRows rows ys) where
  there : is_some (find p rows) ≡ is_some (find p ys)
  there = is_some-find p rows ∙ same-any p rows ys same ∙ sym (is_some-find p ys)

  field_found : (f : MagicRow → ℕ) (y : MagicRow) → find p ys ≡ Some y → OnlyIt p ys y
      → option_map f (find p rows) ≡ Some (f y)
  field_found f y e only =
      found-number p f (f y) rows
      (same-any (λ z. p z && not (f z == f y)) rows ys same ∙ none_passes (λ z. p z && not (f z == f y)) ys (all_weaker (λ (z : MagicRow). p z ≡ true → z ≡ y) (λ z. (p z && not (f z == f y)) ≡ false) fails ys only))
      (there ∙ ap is_some e)
    where
      fails : (z : MagicRow) → (p z ≡ true → z ≡ y) → (p z && not (f z == f y)) ≡ false
      fails z h =
          (elim (p z) as (λ b. p z ≡ b → (b && not (f z == f y)) ≡ false) [ true ↦ λ k. ap not (eq-eqb (f z) (f y) (ap f (h k))) | false ↦ λ k. refl ])
          refl

  flag_of : Bool → ℕ
  flag_of b = if b then 1 else 0

  same_flag : (a b : Bool) → flag_of a ≡ flag_of b → a ≡ b
  unfolding flag_of
  same_flag true true e = refl
  same_flag true false e = absurd (cc)
  same_flag false true e = absurd (cc)
  same_flag false false e = refl

  -- A row that alone passes a test is found in any order of the rows.
  pub found_in_any_order : ((y : MagicRow) → find p ys ≡ Some y → OnlyIt p ys y) → find p rows ≡ find p ys
  found_in_any_order only = by_found (find p ys) refl (find p rows) refl
    where
      value : {X : Type 0} (a b : X) → Some a ≡ Some b → a ≡ b
      value a b e = cc

      by_found : (o : Option MagicRow) → find p ys ≡ o → (r : Option MagicRow) → find p rows ≡ r → r ≡ o
      by_found None e None f = refl
      by_found None e (Some z) f = absurd (let j : true ≡ false = ap is_some (sym f) ∙ there ∙ ap is_some e in cc)
      by_found (Some y) e None f = absurd (let j : false ≡ true = ap is_some (sym f) ∙ there ∙ ap is_some e in cc)
      by_found (Some y) e (Some z) f =
          let at = λ (g : MagicRow → ℕ). let r : g z ≡ g y = value (g z) (g y) (ap (option_map g) (sym f) ∙ field_found g y e (only y e)) in r in
          let master = at (λ (x : MagicRow). x.master) in
          let number = at (λ (x : MagicRow). x.number) in
          let client = at (λ (x : MagicRow). x.client) in
          let spent = same_flag z.spent y.spent (at (λ (x : MagicRow). flag_of x.spent)) in
          λ i. Some (record { master = master i; number = number i; client = client i; spent = spent i })

-- ---- the magic of a client

-- a member's row is its own
row_client : (x : Member) (y : MagicRow) → magic_row_of x ≡ Some y → y.client ≡ x.client
row_client x y e = by_magic x.magic refl e
  where
    by_magic : (g : Option Magic) → x.magic ≡ g
        → option_map (λ (d : Magic). record { master = x.master; number = d.number; client = x.client; spent = d.spent }) g ≡ Some y
        → y.client ≡ x.client
    by_magic None f k = absurd (let n : None ≡ Some y = k in cc)
    by_magic (Some d) f k = let r : MagicRow = record { master = x.master; number = d.number; client = x.client; spent = d.spent } in let s : Some r ≡ Some y = k in let t : r ≡ y = cc in sym (ap (λ (z : MagicRow). z.client) t)

-- of a list of members the rows of the one that has the client
of_client : (c : ℕ) → (xs : List Member) → InOrder (λ (x y : Member). x.client < y.client) xs
    → find (λ (row : MagicRow). row.client == c) (filter_map magic_row_of xs) ≡ option_and_then magic_row_of (masters.member_of xs c)
of_client c [] rise = refl
of_client c (x ∷ xs) rise = by_row (magic_row_of x) refl (of_client c xs rise.1)
  where
    others : (x.client == c) ≡ true → masters.member_of xs c ≡ None
    others e =
        find_none (masters.is_client c) xs
        (all_weaker (λ (y : Member). x.client < y.client) (λ (y : Member). masters.is_client c y ≡ false) (λ y lt. flipped c y.client (ap (λ n. n == y.client) (sym (eqb-true x.client c e)) ∙ less-differ x.client y.client lt)) xs rise.0)

    by_row : (o : Option MagicRow) → magic_row_of x ≡ o
        → find (λ (row : MagicRow). row.client == c) (filter_map magic_row_of xs) ≡ option_and_then magic_row_of (masters.member_of xs c) →
        find (λ (row : MagicRow). row.client == c) (cons_option o (filter_map magic_row_of xs)) ≡ option_and_then
        magic_row_of (cond (x.client == c) (Some x) (masters.member_of xs c))
    by_row None e again =
        again
        ∙
        (elim (x.client == c) as (λ b. (x.client == c) ≡ b → option_and_then magic_row_of (masters.member_of xs c) ≡ option_and_then magic_row_of (cond b (Some x) (masters.member_of xs c))) [ true ↦ λ k. ap (option_and_then magic_row_of) (others k) ∙ sym e | false ↦ λ k. refl ])
        refl
    by_row (Some y) e again =
        ap (λ n. cond (n == c) (Some y) (find (λ (row : MagicRow). row.client == c) (filter_map magic_row_of xs)))
        (row_client x y e)
        ∙
        (elim (x.client == c) as (λ b. cond b (Some y) (find (λ (row : MagicRow). row.client == c) (filter_map magic_row_of xs)) ≡ option_and_then magic_row_of (cond b (Some x) (masters.member_of xs c))) [ true ↦ sym e | false ↦ again ])

-- one of them alone
only_client : (c : ℕ) (y : MagicRow) → (xs : List Member) → InOrder (λ (x z : Member). x.client < z.client) xs
    → find (λ (row : MagicRow). row.client == c) (filter_map magic_row_of xs) ≡ Some y
    → OnlyIt (λ (row : MagicRow). row.client == c) (filter_map magic_row_of xs) y
only_client c y xs rise e =
    all-filter_map (λ (z : MagicRow). (z.client == c) ≡ true → z ≡ y) magic_row_of xs
    (all_weaker (λ (x : Member). masters.member_of xs x.client ≡ Some x) (λ (x : Member). (z : MagicRow) → magic_row_of x ≡ Some z → (z.client == c) ≡ true → z ≡ y) (λ x at z k is.
    let num : x.client ≡ c = sym (row_client x z k) ∙ eqb-true z.client c is in
    let s : Some z ≡ Some y =
    sym k ∙ ap (option_and_then magic_row_of) (sym at)
    ∙ ap (λ n. option_and_then magic_row_of (masters.member_of xs n)) num ∙ sym (of_client c xs rise) ∙ e in
    cc) xs (all_found (λ (x : Member). x.client) xs rise))

-- The row of a client's magic is that of the client's entry.
pub magic_is : (s : State) (w : Rows) → MeetsInvariants s → Represents s w → (c : ℕ)
    → magic_row w c ≡ option_and_then magic_row_of (masters.member_of s.masters.members c)
magic_is s w t h c =
    found_in_any_order (λ (row : MagicRow). row.client == c) w.magics (magics_of s) (magics_are s w h)
    (λ y e. only_client c y s.masters.members (masters_so s t).members_rise e)
    ∙ of_client c s.masters.members (masters_so s t).members_rise
