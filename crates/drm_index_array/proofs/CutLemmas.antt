-- A node, once one of its slots has one entry less.
use Rattle.std.proofs.Common.{◌≡◌, ℕ, ◌-◌, ◌<◌, ◌≤◌, Bool, true, false, not, cond, eqb, bit_or, List, set, Option, Some, None, is_some, option_map, refl, sym, ap, ◌∙◌, inl, inr, arith}
use Rattle.std.specs.Ordering.{nat_cmp}
use Rattle.std.specs.Cmp.{nat_cmp_total}
use Rattle.std.specs.FinMap as map
use Rattle.std.proofs.lemmas.Bool.{cases_eq, cases_lt, eq-eqb, ne_eqb, false≢true}
use Rattle.std.proofs.lemmas.Nat.{le_or_l, le_or_r}
use Rattle.std.proofs.lemmas.Nat.Bits.{bit_at-zero}
use Rattle.drm_index_array.specs.Marked.{Marked, get}
use Rattle.drm_index_array.specs.Tree.{Tree, width, is_sought}
use Rattle.drm_index_array.specs.Slots.{Fits as SlotFits, has_below, slot, below, view_of, IsUsed, IsSound, IsNode}
use Rattle.drm_index_array.specs.Word.{has_bit, tells_of, AreWords}
use Rattle.drm_index_array.specs.declared.marks.Mark.{Mark}
use Rattle.drm_index_array.specs.declared.marks.Mark.TheVariants.{M0, M1, M2}
use Rattle.drm_index_array.specs.declared.words.Sought.{Sought}
use Rattle.drm_index_array.specs.declared.words.Sought.TheVariants.{Taken, Vacant as Free, Marked as WithMark}
use Rattle.drm_index_array.specs.declared.words.Words.{Words}
use Rattle.drm_index_array.specs.declared.tree.Slot.{Slot}
use Rattle.drm_index_array.specs.Least.{NonePasses}
use Rattle.drm_index_array.proofs.Least.{least_is_none, least-same}
use Rattle.drm_index_array.proofs.NextLemmas.{none_of, some_in}
use Rattle.drm_index_array.proofs.RootLemmas.{removed_by, remove_none, no_value}
use Rattle.drm_index_array.proofs.SlotLemmas.{Spot}
use Rattle.drm_index_array.proofs.EditLemmas.{edited_gets, edited_sound, used_set, value_was, rest_in_slot}

no_bit : (n i : ℕ) → n ≤ 0 → has_bit n i ≡ false
no_bit n i none = let zero : n ≡ 0 = omega (arith, none) in rw (zero, bit_at-zero i) refl

unmarked_if : (w : Words) → bit_or (bit_or w.m0 w.m1) w.m2 ≡ 0 → (m : Mark) (i : ℕ) → tells_of w (WithMark m) i ≡ false
unmarked_if w none M0 i =
    no_bit w.m0 i (omega (arith, none, le_or_l w.m0 w.m1, le_or_l (bit_or w.m0 w.m1) w.m2))
unmarked_if w none M1 i =
    no_bit w.m1 i (omega (arith, none, le_or_r w.m0 w.m1, le_or_l (bit_or w.m0 w.m1) w.m2))
unmarked_if w none M2 i = no_bit w.m2 i (omega (arith, none, le_or_r (bit_or w.m0 w.m1) w.m2))

-- If no word of the marks has a 1, no slot has a mark below it.
pub no_marks : (w : Words) → not (eqb (bit_or (bit_or w.m0 w.m1) w.m2) 0) ≡ false → (m : Mark) (i : ℕ)
    → tells_of w (WithMark m) i ≡ false
no_marks w none = elim (cases_eq (bit_or (bit_or w.m0 w.m1) w.m2) 0) [
  | inl zero ↦ unmarked_if w zero
  | inr apart ↦ absurd (false≢true (sym none ∙ ap not (ne_eqb (bit_or (bit_or w.m0 w.m1) w.m2) 0 apart)))
]

-- The words of a node whose slots had no mark below them, once an entry below one was removed.
module _ {T : Type 0} (height : ℕ) (s : Slot T) (at : ℕ) (low : at < 64) (words after : Words) (vacant : has_below height s Free ≡ true) (unmarked : (m : Mark) → tells_of words (WithMark m) at ≡ false → has_below height s (WithMark m) ≡ false) (none : (m : Mark) (i : ℕ) → tells_of words (WithMark m) i ≡ false) (used : Bool) (used_is : used ≡ has_below height s Taken) (taken : (i : ℕ) → i < 64 → tells_of after Taken i ≡ cond (eqb i at) used (tells_of words Taken i)) (free : (i : ℕ) → i < 64 → tells_of after Free i ≡ cond (eqb i at) true (tells_of words Free i)) (marks : (m : Mark) (i : ℕ) → tells_of after (WithMark m) i ≡ tells_of words (WithMark m) i) where
  pub reduced_tells : (x : Sought) (i : ℕ) → i < 64
      → tells_of after x i ≡ cond (eqb i at) (has_below height s x) (tells_of words x i)
  reduced_tells Taken i lt = taken i lt ∙ ap (λ b. cond (eqb i at) b (tells_of words Taken i)) used_is
  reduced_tells Free i lt = free i lt ∙ ap (λ b. cond (eqb i at) b (tells_of words Free i)) (sym vacant)
  reduced_tells (WithMark m) i lt =
      marks m i ∙ elim (cases_eq i at) as (λ _. tells_of words (WithMark m) i ≡ cond (eqb i at) (has_below height s (WithMark m)) (tells_of words (WithMark m) i)) [
        | inl same ↦ rw (eq-eqb i at same) (none m i ∙ sym (unmarked m (none m at)))
        | inr apart ↦ rw (ne_eqb i at apart) refl
      ]

none_marked : (T : Type 0) (m : Mark) → is_sought {X = T} (WithMark m) None ≡ false
none_marked T M0 = refl
none_marked T M1 = refl
none_marked T M2 = refl

module _ {T : Type 0} {height : ℕ} {slots : List (Slot T)} {q at rest : ℕ} {v : Tree T} (here : Spot height slots q at rest v) (was : Slot T) (was_is : slot slots at ≡ was) (s : Slot T) (now : (r : ℕ) → r < width height → below s r ≡ cond (eqb r rest) None (below was r)) where
  -- The node has no entry at the index, and is otherwise unchanged.
  pub cut_items : (view_of height (set slots at s)).items ≡ map.remove v.items q
  cut_items =
      removed_by v.items _ q
      (edited_gets here s None (λ r lt. now r lt ∙ ap (λ t. cond (eqb r rest) None (below t r)) (sym was_is)))

  -- An index below the slot is vacant.
  pub cut_vacant : has_below height s Free ≡ true
  cut_vacant =
      let none : below s rest ≡ None =
      now rest (rest_in_slot here) ∙ ap (λ b. cond b None (below was rest)) (eq-eqb rest rest refl) in
      some_in _ 0 _ rest (omega arith) (omega (arith, rest_in_slot here)) (ap (λ o. not (is_some o)) none)

  -- If no entry below the slot had a mark, none has it now.
  pub cut_unmarked : (words : Words) → IsSound height slots words → at < 64 → (m : Mark)
      → tells_of words (WithMark m) at ≡ false → has_below height s (WithMark m) ≡ false
  cut_unmarked words sound low m told =
      ap is_some
      (least_is_none _ 0 (width height - 1) (λ r _ le. ap (is_sought (WithMark m)) (now r (omega (arith, le, rest_in_slot here))) ∙ each r (before r (omega arith) le)))
    where
      before : NonePasses (λ r. is_sought (WithMark m) (below was r)) 0 (width height - 1)
      before =
          none_of (λ r. is_sought (WithMark m) (below was r)) 0 (width height - 1)
          (sym (sound.tells (WithMark m) at low ∙ ap (λ s. has_below height s (WithMark m)) was_is) ∙ told)

      each : (r : ℕ) → is_sought (WithMark m) (below was r) ≡ false
          → is_sought (WithMark m) (cond (eqb r rest) None (below was r)) ≡ false
      each r none =
          elim (cases_eq r rest) as (λ _. is_sought (WithMark m) (cond (eqb r rest) None (below was r)) ≡ false) [
            | inl same ↦ rw (eq-eqb r rest same) (none_marked T m)
            | inr apart ↦ rw (ne_eqb r rest apart) none
          ]

  -- If there was no entry at the index, a sound node stays sound, with the same words and count.
  pub cut_nothing : None ≡ option_map (λ s. s.value) (below was rest) → (words : Words) (count : ℕ)
      → IsNode height slots words count → SlotFits height s → IsUsed s → IsNode height (set slots at s) words count
  cut_nothing nothing words count node fits used = record {
    sound = edited_sound here s words words node.sound fits node.sound.fit (λ x i lt. elim (cases_eq i at) as (λ _. tells_of words x i ≡ cond (eqb i at) (has_below height s x) (tells_of words x i)) [
      | inl is ↦ rw (eq-eqb i at is) (node.sound.tells x i lt ∙ ap (λ n. has_below height (slot slots n) x) is ∙ ap (λ s. has_below height s x) was_is ∙ sym (alike x))
      | inr apart ↦ rw (ne_eqb i at apart) refl
    ]);
    counted = node.counted ∙ ap (λ (t : Tree T). map.len t.items) here.view_is ∙ ap map.len (sym (cut_items ∙ remove_none v.items q none));
    used = used_set slots at s here.in_range node.used used;
  }
    where
      none : map.get v.items q ≡ None
      none =
          no_value v.items q (nothing ∙ ap (λ o. option_map (λ s. s.value) o) (value_was here was was_is))

      same : (r : ℕ) → r < width height → below s r ≡ below was r
      same r lt =
          now r lt ∙ elim (cases_eq r rest) as (λ _. cond (eqb r rest) None (below was r) ≡ below was r) [
            | inl is ↦ rw (eq-eqb r rest is) (sym (ap (below was) is ∙ value_was here was was_is ∙ none))
            | inr apart ↦ rw (ne_eqb r rest apart) refl
          ]

      alike : (x : Sought) → has_below height s x ≡ has_below height was x
      alike x =
          ap is_some
          (least-same _ _ 0 (width height - 1) (λ r _ le. ap (is_sought x) (same r (omega (arith, le, rest_in_slot here)))))

  -- The value taken out is the node's at the index.
  module _ (x : T) (found : Some x ≡ option_map (λ s. s.value) (below was rest)) where
    pub cut_found : Some x ≡ get v.items q
    cut_found = found ∙ ap (λ o. option_map (λ s. s.value) o) (value_was here was was_is)

    there : map.contains_key v.items q ≡ true
    there = known (map.get v.items q) cut_found
      where
        known : (o : Option (Marked T)) → Some x ≡ option_map (λ s. s.value) o → is_some o ≡ true
        known None e = absurd (false≢true (ap is_some (sym e)))
        known (Some s) e = refl

    module _ (words after : Words) (count : ℕ) (node : IsNode height slots words count) where
      old_count : count ≡ map.len v.items
      old_count = node.counted ∙ ap (λ (t : Tree T). map.len t.items) here.view_is

      -- The node counts an entry at least.
      pub cut_some : 1 ≤ count
      cut_some = elim (cases_lt 0 count) [
        | inl lt ↦ omega arith
        | inr none ↦ absurd (false≢true (sym (ap is_some (ap (λ m. map.get m q) (map.empty_of_len v.items (omega (arith, none, old_count))) ∙ map.get-empty nat_cmp q)) ∙ there))
      ]

      -- A sound node stays sound, if its words are written for the slot and it counts one less.
      pub cut_node : SlotFits height s → IsUsed s → AreWords after
          → ((x : Sought) (i : ℕ) → i < 64 → tells_of after x i ≡ cond (eqb i at) (has_below height s x) (tells_of words x i))
          → IsNode height (set slots at s) after (count - 1)
      cut_node fits used are tells = record {
        sound = edited_sound here s words after node.sound fits are tells;
        counted =
            ap (λ n. n - 1) old_count
            ∙ sym
            (ap map.len cut_items ∙ map.len-remove nat_cmp_total v.items q ∙ ap (λ b. cond b (map.len v.items - 1) (map.len v.items)) there);
        used = used_set slots at s here.in_range node.used used;
      }
