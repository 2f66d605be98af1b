-- A node, once one of its slots has one more entry, with no mark.
use Rattle.std.proofs.Common.{◌≡◌, ℕ, ◌+◌, ◌-◌, ◌^◌, ◌<◌, ◌≤◌, Bool, true, false, not, cond, eqb, List, set, Some, None, is_some, Result, Ok, Err, OnOk, refl, sym, ap, ◌∙◌, inl, inr, arith}
use Rattle.std.specs.Cmp.{nat_cmp_total}
use Rattle.std.specs.FinMap as map
use Rattle.std.proofs.lemmas.Bool.{cases_eq, eq-eqb, ne_eqb}
use Rattle.drm_index_array.specs.Marked.{unmarked}
use Rattle.drm_index_array.specs.Tree.{Tree, width, is_sought}
use Rattle.drm_index_array.specs.Slots.{Fits as SlotFits, has_below, slot, below, view_of, IsUsed, IsNode}
use Rattle.drm_index_array.specs.Word.{tells_of, AreWords}
use Rattle.drm_index_array.specs.declared.marks.Mark.{Mark}
use Rattle.drm_index_array.specs.declared.marks.Mark.TheVariants.{M0, M1, M2}
use Rattle.drm_index_array.specs.declared.words.Sought.{Sought}
use Rattle.drm_index_array.specs.declared.words.Sought.TheVariants.{Taken, Vacant as Free, Marked as WithMark}
use Rattle.drm_index_array.specs.declared.words.Words.{Words}
use Rattle.drm_index_array.specs.declared.tree.Slot.{Slot}
use Rattle.drm_index_array.proofs.Least.{least-same}
use Rattle.drm_index_array.proofs.MarkedLemmas.{same_by_gets, get-insert}
use Rattle.drm_index_array.proofs.NextLemmas.{some_in}
use Rattle.drm_index_array.proofs.WordLemmas.{not-not}
use Rattle.drm_index_array.proofs.RootLemmas.{view_few}
use Rattle.drm_index_array.proofs.SlotLemmas.{Spot}
use Rattle.drm_index_array.proofs.EditLemmas.{edited_gets, edited_sound, used_set, value_was, rest_in_slot}

-- What follows from a fact about a success is also a fact about it.
pub on_ok_map : {A E : Type 0} {P Q : Type 0} (done : Result A E) → (P → Q) → OnOk done P → OnOk done Q
on_ok_map (Ok _) f p = f p
on_ok_map (Err _) f p = tt

none_marked : (T : Type 0) (m : Mark) → is_sought {X = T} (WithMark m) None ≡ false
none_marked T M0 = refl
none_marked T M1 = refl
none_marked T M2 = refl

new_marked : {T : Type 0} (m : Mark) (x : T) → is_sought (WithMark m) (Some (unmarked x)) ≡ false
new_marked M0 x = refl
new_marked M1 x = refl
new_marked M2 x = refl

module _ {T : Type 0} {height : ℕ} {slots : List (Slot T)} {q at rest : ℕ} {v : Tree T} (here : Spot height slots q at rest v) (was : Slot T) (was_is : slot slots at ≡ was) (absent : below was rest ≡ None) (s : Slot T) (x : T) (now : (r : ℕ) → r < width height → below s r ≡ cond (eqb r rest) (Some (unmarked x)) (below was r)) where
  -- The node has the entry at the index, and is otherwise unchanged.
  pub filled_items : (view_of height (set slots at s)).items ≡ map.insert v.items q (unmarked x)
  filled_items = same_by_gets _ _ (λ k.
      edited_gets here s (Some (unmarked x))
      (λ r lt. now r lt ∙ ap (λ t. cond (eqb r rest) (Some (unmarked x)) (below t r)) (sym was_is)) k
      ∙ sym (get-insert v.items q (unmarked x) k))

  -- The node had no entry at the index.
  pub absent_before : map.get v.items q ≡ None
  absent_before = sym (value_was here was was_is) ∙ absent

  has_entry : has_below height s Taken ≡ true
  has_entry =
      let there : below s rest ≡ Some (unmarked x) =
      now rest (rest_in_slot here)
      ∙ ap (λ b. cond b (Some (unmarked x)) (below was rest)) (eq-eqb rest rest refl) in
      some_in _ 0 _ rest (omega arith) (omega (arith, rest_in_slot here)) (ap is_some there)

  has_marks : (m : Mark) → has_below height s (WithMark m) ≡ has_below height was (WithMark m)
  has_marks m =
      ap is_some
      (least-same _ _ 0 (width height - 1) (λ r _ le. ap (is_sought (WithMark m)) (now r (omega (arith, rest_in_slot here))) ∙ alike r))
    where
      alike : (r : ℕ)
          → is_sought (WithMark m) (cond (eqb r rest) (Some (unmarked x)) (below was r)) ≡ is_sought (WithMark m) (below was r)
      alike r =
          elim (cases_eq r rest) as (λ _. is_sought (WithMark m) (cond (eqb r rest) (Some (unmarked x)) (below was r)) ≡ is_sought (WithMark m) (below was r)) [
            | inl is ↦ rw (eq-eqb r rest is) (new_marked m x ∙ sym (none_marked T m) ∙ ap (is_sought (WithMark m)) (sym absent) ∙ ap (λ n. is_sought (WithMark m) (below was n)) (sym is))
            | inr apart ↦ rw (ne_eqb r rest apart) refl
          ]

  module _ (words after : Words) (count : ℕ) (node : IsNode height slots words count) (full : Bool) (full_is : full ≡ not (has_below height s Free)) (taken : (i : ℕ) → i < 64 → tells_of after Taken i ≡ cond (eqb i at) true (tells_of words Taken i)) (vacant : (i : ℕ) → i < 64 → tells_of after Free i ≡ cond (eqb i at) (not full) (tells_of words Free i)) (marks : (m : Mark) (i : ℕ) → tells_of after (WithMark m) i ≡ tells_of words (WithMark m) i) where
    tells : (x : Sought) (i : ℕ) → i < 64
        → tells_of after x i ≡ cond (eqb i at) (has_below height s x) (tells_of words x i)
    tells Taken i lt = taken i lt ∙ ap (λ b. cond (eqb i at) b (tells_of words Taken i)) (sym has_entry)
    tells Free i lt = vacant i lt ∙ ap (λ b. cond (eqb i at) b (tells_of words Free i)) (ap not full_is ∙ not-not _)
    tells (WithMark m) i lt =
        marks m i ∙ elim (cases_eq i at) as (λ _. tells_of words (WithMark m) i ≡ cond (eqb i at) (has_below height s (WithMark m)) (tells_of words (WithMark m) i)) [
          | inl same ↦ rw (eq-eqb i at same) (node.sound.tells (WithMark m) i lt ∙ ap (λ n. has_below height (slot slots n) (WithMark m)) same ∙ ap (λ s. has_below height s (WithMark m)) was_is ∙ sym (has_marks m))
          | inr apart ↦ rw (ne_eqb i at apart) refl
        ]

    counted : count + 1 ≡ map.len (view_of height (set slots at s)).items
    counted =
        ap (λ n. n + 1) (node.counted ∙ ap (λ (t : Tree T). map.len t.items) here.view_is)
        ∙ sym
        (ap map.len filled_items ∙ map.len-insert nat_cmp_total v.items q (unmarked x) ∙ ap (λ o. cond (is_some o) (map.len v.items) (map.len v.items + 1)) absent_before)

    -- The node counts at most 2^36 entries.
    pub filled_few : count + 1 ≤ 2 ^ 36
    filled_few = omega (arith, counted, view_few height (set slots at s) _ refl node.sound.low)

    -- A sound node stays sound, if its words note the entry and it counts one more.
    pub filled_node : SlotFits height s → IsUsed s → AreWords after → IsNode height (set slots at s) after (count + 1)
    filled_node fits used are = record {
      sound = edited_sound here s words after node.sound fits are tells;
      counted = counted;
      used = used_set slots at s here.in_range node.used used;
    }
