-- A node with no entry.
use Rattle.std.proofs.Common.{◌≡◌, ℕ, zero, suc, ◌%◌, ◌/◌, ◌≤◌, true, false, cond, ltb, not, List, [], ◌∷◌, ◌++◌, length, replicate, None, refl, sym, ap, ◌∙◌, subst, arith}
use Rattle.std.specs.FinMap as map
use Rattle.std.specs.List.{FoldsTo, AppendsResults}
use Rattle.std.specs.Ordering.{nat_cmp}
use Rattle.std.proofs.lemmas.List.{length-replicate}
use Rattle.std.proofs.lemmas.Nat.Bits.{bit_at-zero}
use Rattle.drm_index_array.proofs.MarkedLemmas.{same_by_gets, same_branch}
use Rattle.drm_index_array.specs.declared.marks.Mark.TheVariants.{M0, M1, M2}
use Rattle.drm_index_array.specs.Marked.{Marked}
use Rattle.drm_index_array.specs.Word.{has_bit, tells_of}
use Rattle.drm_index_array.specs.Tree.{Tree, width, span}
use Rattle.drm_index_array.specs.Slots.{AllFit, has_below, slot, look, below, view_of, IsUsed, IsSound, IsNode}
use Rattle.drm_index_array.specs.declared.words.Sought.{Sought}
use Rattle.drm_index_array.specs.declared.words.Sought.TheVariants.{Taken, Vacant as Free, Marked as WithMark}
use Rattle.drm_index_array.specs.declared.words.Words.{Words}
use Rattle.drm_index_array.specs.declared.tree.Slot.{Slot}
use Rattle.drm_index_array.specs.declared.tree.Slot.TheVariants.{Vacant}
use Rattle.drm_index_array.proofs.NodeLemmas.{any_alike}
use Rattle.drm_index_array.proofs.TableLemmas.{get-table}

abbrev pub no_words : Words
no_words = record { present = 0; full = 0; m0 = 0; m1 = 0; m2 = 0 }

no_bit : (i : ℕ) → has_bit 0 i ≡ false
no_bit i = rw (bit_at-zero i) refl

module _ (T : Type 0) where
  abbrev pub vacants : ℕ → List (Slot T)
  vacants n = replicate n Vacant

  abbrev vacant : Slot T
  vacant = Vacant

  all_vacant : {F : Type 0} (step : F → Slot T → F → Type 0) → ((p : F) (x : Slot T) (q : F) → step p x q → x ≡ Vacant)
      → (ys : List (Slot T)) (p q : F) → FoldsTo step p ys q → ys ≡ vacants (length ys)
  all_vacant step is [] p q folds = refl
  all_vacant step is (y ∷ ys) p q folds = λ i. is p y folds.0 folds.1 i ∷ all_vacant step is ys folds.0 q folds.2 i

  -- If each added slot is vacant and none was there before, the slots are vacant ones.
  pub resized_vacant : {F : Type 0} (step : F → Slot T → F → Type 0)
      → ((p : F) (x : Slot T) (q : F) → step p x q → x ≡ Vacant) → (n : ℕ) (old new : List (Slot T)) (f : F) → old ≡ []
      → AppendsResults step old new f → length new ≡ n → new ≡ vacants n
  resized_vacant step is n old new f none adds len =
      let all : new ≡ adds.0 = adds.2 ∙ ap (λ xs. xs ++ adds.0) none in
      all ∙ all_vacant step is adds.0 f adds.1 adds.3 ∙ ap vacants (ap length (sym all) ∙ len)

  slot_vacant : (n i : ℕ) → slot (vacants n) i ≡ Vacant
  slot_vacant zero i = refl
  slot_vacant (suc n) zero = refl
  slot_vacant (suc n) (suc i) = slot_vacant n i

  vacant_fit : (height n : ℕ) → AllFit height (vacants n)
  vacant_fit height zero = tt
  vacant_fit height (suc n) = (tt, vacant_fit height n)

  vacant_tells : (height : ℕ) (x : Sought) (i : ℕ) → tells_of no_words x i ≡ has_below height vacant x
  vacant_tells height Taken i = no_bit i ∙ sym (any_alike height false)
  vacant_tells height Free i = ap not (no_bit i) ∙ sym (any_alike height true)
  vacant_tells height (WithMark M0) i = no_bit i ∙ sym (any_alike height false)
  vacant_tells height (WithMark M1) i = no_bit i ∙ sym (any_alike height false)
  vacant_tells height (WithMark M2) i = no_bit i ∙ sym (any_alike height false)

  empty_sound : (height : ℕ) → height ≤ 5 → IsSound height (vacants 64) no_words
  empty_sound height low = record {
    wide = length-replicate 64 vacant;
    low = low;
    all_fit = vacant_fit height 64;
    fit = record { present = omega arith; full = omega arith; m0 = omega arith; m1 = omega arith; m2 = omega arith };
    tells = λ x i lt. vacant_tells height x i ∙ ap (λ s. has_below height s x) (sym (slot_vacant 64 i));
  }

  -- A node of 64 vacant slots has an empty map.
  pub empty_view : (height : ℕ) → view_of height (vacants 64) ≡ record { height = height; items = map.empty }
  empty_view height = ap (λ items. record { height = height; items = items }) (same_by_gets _ _ (λ k.
      get-table (span height) (look height (vacants 64)) k
      ∙ ap (λ s. cond (ltb k (span height)) (below s (k % width height)) None) (slot_vacant 64 (k / width height))
      ∙ same_branch _ None ∙ sym (map.get-empty nat_cmp k)))

  -- 64 vacant slots, empty words and the count 0 are a sound node of any height up to 5.
  pub empty_node : (height : ℕ) → height ≤ 5 → IsNode height (vacants 64) no_words 0
  empty_node height low = record {
    sound = empty_sound height low;
    counted = sym (ap (λ (t : Tree T). map.len t.items) (empty_view height) ∙ map.len-empty nat_cmp (Marked T));
    used = λ i. subst IsUsed (sym (slot_vacant 64 i)) tt;
  }
