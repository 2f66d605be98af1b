-- One slot of a node written over.
use Rattle.std.proofs.Common.{◌≡◌, ℕ, zero, suc, ◌+◌, ◌*◌, ◌/◌, ◌%◌, ◌<◌, ◌≤◌, true, cond, eqb, ltb, List, [], ◌∷◌, length, get_or, set, Box, Global, Option, Some, None, is_some, refl, sym, ap, ◌∙◌, subst, inl, inr, arith, Result, Ok, Err, OnErr}
use Rattle.std.specs.Ordering.{nat_cmp}
use Rattle.std.specs.FinMap as map
use Rattle.std.proofs.lemmas.Bool.{cases_eq, cases_lt, eq-eqb, ne_eqb, lt-ltb, le-ltb, false≢true}
use Rattle.std.proofs.lemmas.List.{get_or-set_same, get_or-set_other, get_or_read, length-set}
use Rattle.std.proofs.lemmas.Nat.{div-add-mod', pow-add, pow_pos}
use Rattle.std.proofs.Math.Nat.{div-eq_of_lt, mod-eq_of_lt}
use Rattle.drm_index_array.specs.Marked.{Marked, MarkedMap, unmarked}
use Rattle.drm_index_array.proofs.MarkedLemmas.{same_by_gets, get-insert}
use Rattle.drm_index_array.specs.Tree.{Tree, width, span}
use Rattle.drm_index_array.specs.Slots.{Fits as SlotFits, AllFit, has_below, slot, look, below, view_of, IsUsed, IsSound}
use Rattle.drm_index_array.specs.Word.{tells_of, AreWords}
use Rattle.drm_index_array.specs.declared.words.Sought.{Sought}
use Rattle.drm_index_array.specs.declared.words.Words.{Words}
use Rattle.drm_index_array.specs.declared.tree.Node.{Node}
use Rattle.drm_index_array.specs.declared.tree.Slot.{Slot}
use Rattle.drm_index_array.specs.declared.tree.Slot.TheVariants.{Vacant, Child}
use Rattle.drm_index_array.proofs.TableLemmas.{get-table_within, get-table_past}
use Rattle.drm_index_array.proofs.SlotLemmas.{Spot, slot_fits, rest_in_range}

AllFit-set : {T : Type 0} (height : ℕ) (slots : List (Slot T)) (at : ℕ) (s : Slot T) → AllFit height slots
    → SlotFits height s → AllFit height (set slots at s)
AllFit-set height [] at s fit one = tt
AllFit-set height (t ∷ ss) zero s fit one = (one, fit.1)
AllFit-set height (t ∷ ss) (suc at) s fit one = (fit.0, AllFit-set height ss at s fit.1 one)

-- If no slot has an empty subtree and the new one has none, the same is true after it is written.
pub used_set : {T : Type 0} (slots : List (Slot T)) (at : ℕ) (s : Slot T) → at < length slots
    → ((i : ℕ) → IsUsed (slot slots i)) → IsUsed s → (i : ℕ) → IsUsed (slot (set slots at s) i)
used_set slots at s lt used one i =
    elim (cases_eq i at) as (λ _. IsUsed (slot (set slots at s) i)) [
      | inl same ↦ subst IsUsed (sym (ap (slot (set slots at s)) same ∙ get_or-set_same slots at s Vacant lt)) one
      | inr apart ↦ subst IsUsed (sym (get_or-set_other slots at i s Vacant apart)) (used i)
    ]

-- A map with a key is not empty.
pub used_key : {X : Type 0} (m : map.FinMap nat_cmp X) (q : ℕ) → map.contains_key m q ≡ true → 0 < map.len m
used_key m q there =
    elim (cases_lt 0 (map.len m)) [
      | inl some ↦ some
      | inr none ↦ absurd (false≢true (sym (ap is_some (ap (λ m. map.get m q) (map.empty_of_len m (omega arith)) ∙ map.get-empty nat_cmp q)) ∙ there))
    ]

-- A map after an insertion is not empty.
pub used_more : {T : Type 0} (old now : MarkedMap T) (q : ℕ) (v : T) → now ≡ map.insert old q (unmarked v)
    → 0 < map.len now
used_more old now q v is =
    let tied : eqb q q ≡ true = eq-eqb q q refl in
    used_key now q
    (ap (λ m. map.contains_key m q) is ∙ ap is_some (get-insert old q (unmarked v) q) ∙ ap (λ b. is_some (cond b (Some (unmarked v)) (map.get old q))) tied)

module _ {T : Type 0} {height : ℕ} {slots : List (Slot T)} {q at rest : ℕ} {v : Tree T} (here : Spot height slots q at rest v) (s : Slot T) where
  -- A sound node stays sound after a slot is written, if its words are written for the slot.
  pub edited_sound : (words after : Words) → IsSound height slots words → SlotFits height s → AreWords after
      → ((x : Sought) (i : ℕ) → i < 64 → tells_of after x i ≡ cond (eqb i at) (has_below height s x) (tells_of words x i))
      → IsSound height (set slots at s) after
  edited_sound words after sound fits are tells = record {
    wide = length-set slots at s ∙ sound.wide;
    low = sound.low;
    all_fit = AllFit-set height slots at s sound.all_fit fits;
    fit = are;
    tells = λ x i lt. tells x i lt ∙ elim (cases_eq i at) as (λ _. cond (eqb i at) (has_below height s x) (tells_of words x i) ≡ has_below height (slot (set slots at s) i) x) [
      | inl same ↦ rw (eq-eqb i at same, same) (ap (λ s. has_below height s x) (sym (get_or-set_same slots at s Vacant here.in_range)))
      | inr apart ↦ rw (ne_eqb i at apart) (sound.tells x i lt ∙ ap (λ s. has_below height s x) (sym (get_or-set_other slots at i s Vacant apart)))
    ];
  }

  -- one index then answers otherwise
  module _ (o : Option (Marked T)) (edit : (r : ℕ) → r < width height → below s r ≡ cond (eqb r rest) o (below (slot slots at) r)) where
    rest_low : rest < width height
    rest_low = rw here.rest_is (rest_in_range height q)

    old_items : (view_of height slots).items ≡ v.items
    old_items = ap (λ (t : Tree T). t.items) here.view_is

    old_get : (k : ℕ) → k < span height → look height slots k ≡ map.get v.items k
    old_get k lt = sym (get-table_within (span height) (look height slots) k lt) ∙ ap (λ m. map.get m k) old_items

    -- the same index has the same parts
    same_parts : (k : ℕ) → k / width height ≡ at → k % width height ≡ rest → k ≡ q
    same_parts k slot_is rest_is =
        sym (div-add-mod' k (width height))
        ∙ ap (λ n. n * width height + k % width height) (slot_is ∙ here.at_is)
        ∙ ap (λ n. q / width height * width height + n) (rest_is ∙ here.rest_is)
        ∙ div-add-mod' q (width height)

    edited_look : (k : ℕ) → k < span height → look height (set slots at s) k ≡ cond (eqb k q) o (look height slots k)
    edited_look k lt =
        elim (cases_eq k q) as (λ _. look height (set slots at s) k ≡ cond (eqb k q) o (look height slots k)) [
          | inl same ↦ rw (eq-eqb k q same, same, ← here.at_is, ← here.rest_is) (ap (λ t. below t rest) (get_or-set_same slots at s Vacant here.in_range) ∙ edit rest rest_low ∙ rw (eq-eqb rest rest refl) refl)
          | inr apart ↦ rw (ne_eqb k q apart) (elim (cases_eq (k / width height) at) as (λ _. look height (set slots at s) k ≡ look height slots k) [
            | inl slot_is ↦ rw slot_is (ap (λ t. below t (k % width height)) (get_or-set_same slots at s Vacant here.in_range) ∙ edit (k % width height) (rest_in_range height k) ∙ rw (ne_eqb (k % width height) rest (λ e. apart (same_parts k slot_is e))) refl)
            | inr other ↦ ap (λ t. below t (k % width height)) (get_or-set_other slots at (k / width height) s Vacant other)
          ])
        ]

    -- If a slot changes at one index below it, the node changes at the matching index only.
    pub edited_gets : (k : ℕ) → map.get (view_of height (set slots at s)).items k ≡ cond (eqb k q) o (map.get v.items k)
    edited_gets k =
        elim (cases_lt k (span height)) as (λ _. map.get (view_of height (set slots at s)).items k ≡ cond (eqb k q) o (map.get v.items k)) [
          | inl lt ↦ get-table_within (span height) _ k lt ∙ edited_look k lt ∙ ap (cond (eqb k q) o) (old_get k lt)
          | inr past ↦ get-table_past (span height) _ k past ∙ sym (ap (λ m. map.get m k) (sym old_items) ∙ get-table_past (span height) _ k past) ∙ rw (ne_eqb k q (λ e. absurd (omega (arith, here.within)))) refl
        ]

    -- A map that differs from the node's at the edited index only is the map of the edited node.
    pub edited_view : (m : MarkedMap T) → ((k : ℕ) → map.get m k ≡ cond (eqb k q) o (map.get v.items k))
        → view_of height (set slots at s) ≡ record v { items = m }
    edited_view m gets =
        ap (λ items. record { height = height; items = items }) (same_by_gets _ m (λ k. edited_gets k ∙ sym (gets k)))
        ∙ ap (λ (t : Tree T). record { height = t.height; items = m }) here.view_is

module _ {T : Type 0} {height : ℕ} {slots : List (Slot T)} {q at rest : ℕ} {v : Tree T} (here : Spot height slots q at rest v) where
  -- The index below a slot is lower than the slot's width.
  pub rest_in_slot : rest < width height
  rest_in_slot = rw here.rest_is (rest_in_range height q)

  -- The entry below the slot is the node's entry at the index.
  pub value_here : below (slot slots at) rest ≡ map.get v.items q
  value_here =
      ap (λ n. below (slot slots n) rest) here.at_is
      ∙ ap (λ r. below (slot slots (q / width height)) r) here.rest_is
      ∙ sym (get-table_within (span height) (look height slots) q here.within)
      ∙ ap (λ (t : Tree T). map.get t.items q) here.view_is

  module _ (was : Slot T) (was_is : slot slots at ≡ was) where
    -- A slot that is read fits the height of its node.
    pub was_fits : SlotFits height was
    was_fits = subst (SlotFits height) was_is (slot_fits height slots here.all_fit at)

    -- The entry below a slot that is read is the node's entry at the index.
    pub value_was : below was rest ≡ map.get v.items q
    value_was = ap (λ s. below s rest) (sym was_is) ∙ value_here

    -- After a slot with one edited entry is written, the node has this entry edited and all others unchanged.
    pub edit_gets : (s : Slot T) (edit : Option (Marked T) → Option (Marked T))
        → ((r : ℕ) → r < width height → below s r ≡ cond (eqb r rest) (edit (below was rest)) (below was r)) → (k : ℕ)
        → map.get (view_of height (set slots at s)).items k ≡ cond (eqb k q) (edit (map.get v.items q)) (map.get v.items k)
    edit_gets s edit below_s =
        edited_gets here s (edit (map.get v.items q))
        (λ r lt. below_s r lt ∙ ap (λ o. cond (eqb r rest) (edit o) (below was r)) value_was ∙ ap (λ t. cond (eqb r rest) (edit (map.get v.items q)) (below t r)) (sym was_is))

-- An empty map has no entry at any index.
pub none_below : {X : Type 0} (m : map.FinMap nat_cmp X) → map.len m ≡ 0 → (r : ℕ) → map.get m r ≡ None
none_below m none r = ap (λ m. map.get m r) (map.empty_of_len m none) ∙ map.get-empty nat_cmp r

-- Reading a slot that was just written returns what was written.
pub read_set : {T : Type 0} (slots : List (Slot T)) (at : ℕ) (s now : Slot T) → at < length slots
    → now ≡ get_or (set slots at s) at now → now ≡ s
read_set slots at s now lt read =
    get_or_read (set slots at s) at now (omega (arith, length-set slots at s)) read Vacant
    ∙ get_or-set_same slots at s Vacant lt

-- What follows from a fact about a failure is also a fact about it.
pub on_err_map : {A E : Type 0} {P Q : Type 0} (done : Result A E) → (P → Q) → OnErr done P → OnErr done Q
on_err_map (Ok _) f p = tt
on_err_map (Err _) f p = f p

-- Index 0 of a node is index 0 below slot 0.
pub first_spot : {T : Type 0} (height : ℕ) (slots : List (Slot T)) (v : Tree T) (words : Words)
    → IsSound height slots words → view_of height slots ≡ v → Spot height slots 0 0 0 v
first_spot height slots v words sound view_is = record {
  at_is = sym (div-eq_of_lt (pow_pos (6 * height)));
  rest_is = sym (mod-eq_of_lt (pow_pos (6 * height)));
  in_range = omega (arith, sound.wide);
  within = pow_pos (6 * height + 6);
  all_fit = sound.all_fit;
  view_is = view_is;
}

-- the first slot written over by a child
module _ {T : Type 0} {height : ℕ} {slots : List (Slot T)} {v : Tree T} (words : Words) (sound : IsSound height slots words) (view_is : view_of height slots ≡ v) (b : Box (Node T) Global) where
  old_at : (k : ℕ) → k < span height → look height slots k ≡ map.get v.items k
  old_at k lt =
      sym (get-table_within (span height) (look height slots) k lt) ∙ ap (λ (t : Tree T). map.get t.items k) view_is

  first_slot : (k : ℕ) → k < width height → look height (set slots 0 (Child b)) k ≡ map.get b.value.items k
  first_slot k lt =
      let zeroth : k / width height ≡ 0 = div-eq_of_lt lt in
      let rest : k % width height ≡ k = mod-eq_of_lt lt in
      rw (zeroth, rest) (ap (λ s. below s k) (get_or-set_same slots 0 (Child b) Vacant (omega (arith, sound.wide))))

  later_slot : (k : ℕ) → width height ≤ k → look height (set slots 0 (Child b)) k ≡ look height slots k
  later_slot k le =
      let apart : k / width height ≡ 0 → ⊥ =
      λ zeroth. omega
      (arith, le, div-add-mod' k (width height), rest_in_range height k, ap (λ n. n * width height) zeroth) in
      ap (λ s. below s (k % width height)) (get_or-set_other slots 0 (k / width height) (Child b) Vacant apart)

  -- A subtree put into slot 0 replaces the entries of the indices that this slot covers, and no others.
  pub hang_gets : (k : ℕ)
      → map.get (view_of height (set slots 0 (Child b))).items k ≡ cond (ltb k (width v.height)) (map.get b.value.items k) (map.get v.items k)
  hang_gets k =
      let same : height ≡ v.height = ap (λ (t : Tree T). t.height) view_is in
      elim (cases_lt k (span height)) as (λ _. map.get (view_of height (set slots 0 (Child b))).items k ≡ cond (ltb k (width v.height)) (map.get b.value.items k) (map.get v.items k)) [
        | inl lt ↦ elim (cases_lt k (width height)) as (λ _. map.get (view_of height (set slots 0 (Child b))).items k ≡ cond (ltb k (width v.height)) (map.get b.value.items k) (map.get v.items k)) [
          | inl low ↦ get-table_within (span height) _ k lt ∙ first_slot k low ∙ rw (lt-ltb k (width v.height) (rw (← same) low)) refl
          | inr high ↦ get-table_within (span height) _ k lt ∙ later_slot k high ∙ old_at k lt ∙ rw (le-ltb k (width v.height) (rw (← same) high)) refl
        ]
        | inr past ↦ get-table_past (span height) _ k past ∙ sym (ap (λ (t : Tree T). map.get t.items k) (sym view_is) ∙ get-table_past (span height) _ k past) ∙ rw (le-ltb k (width v.height) (rw (← same) (omega (arith, past, pow-add 2 (6 * height) 6)))) refl
      ]
