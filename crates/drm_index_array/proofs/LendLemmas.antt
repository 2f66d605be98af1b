-- A node, of which one value is lent for writing.
use Rattle.std.proofs.Common.{◌≡◌, ℕ, ◌<◌, ◌-◌, cond, eqb, List, set, Option, Some, None, is_some, option_map, refl, sym, ap, ◌∙◌, subst, inl, inr, arith}
use mathlib.Core.Option as maybe
use base.Fml.{GName}
use borrow.Follows.Closed.{read_of}
use Rattle.std.specs.FinMap as map
use Rattle.std.specs.Option.{option_map_or}
use Rattle.std.proofs.lemmas.Bool.{cases_eq, eq-eqb, ne_eqb}
use Rattle.std.proofs.lemmas.List.{set-get_or}
use Rattle.drm_index_array.specs.Lends.{slot_with_value, tree_with_value}
use Rattle.drm_index_array.specs.Marked.{Marked, set_value}
use Rattle.drm_index_array.specs.Tree.{Tree, width, is_sought}
use Rattle.drm_index_array.specs.Slots.{Fits as SlotFits, has_below, slot, below, view_of, IsUsed, IsSound, IsNode}
use Rattle.drm_index_array.specs.Word.{tells_of}
use Rattle.drm_index_array.specs.declared.marks.Mark.TheVariants.{M0, M1, M2}
use Rattle.drm_index_array.specs.declared.words.Sought.{Sought}
use Rattle.drm_index_array.specs.declared.words.Sought.TheVariants.{Taken, Vacant as Free, Marked as WithMark}
use Rattle.drm_index_array.specs.declared.words.Words.{Words}
use Rattle.drm_index_array.specs.declared.tree.Slot.{Slot}
use Rattle.drm_index_array.specs.declared.tree.Slot.TheVariants.{Vacant, Value, Child}
use Rattle.drm_index_array.proofs.Least.{least-same}
use Rattle.drm_index_array.proofs.MarkedLemmas.{same_branch, get-rewrite, len-set_value}
use Rattle.drm_index_array.proofs.SlotLemmas.{Spot}
use Rattle.drm_index_array.proofs.EditLemmas.{used_set, edited_sound, edited_view, was_fits, value_was, rest_in_slot}

-- Two readings of a borrow that agree on its last value, or without a borrow, are equal.
pub lent_same : {D E : Type 0} (name : maybe.Option GName) (f h : E → D) (v w : D) → ((x : E) → f x ≡ h x) → v ≡ w
    → read_of name f v ≡ read_of name h w
lent_same name f h v w fs vs = λ i. read_of name (λ x. fs x i) (vs i)

-- the branch for equal numbers is used only at equal numbers
branch_at : {X Y : Type 0} (f : X → Y) (a : ℕ → X) (k n : ℕ) (z : Y)
    → cond (eqb k n) (f (a k)) z ≡ cond (eqb k n) (f (a n)) z
branch_at f a k n z =
    elim (cases_eq k n) as (λ _. cond (eqb k n) (f (a k)) z ≡ cond (eqb k n) (f (a n)) z) [
      | inl is ↦ ap (λ x. cond (eqb k n) (f (a x)) z) is
      | inr apart ↦ rw (ne_eqb k n apart) refl
    ]

module _ {T : Type 0} where
  -- another value, with the same marks
  abbrev pub valued : T → Marked T → Marked T
  valued w s = record s { value = w }

  abbrev pub option_valued : T → Option (Marked T) → Option (Marked T)
  option_valued w o = option_map (valued w) o

  get-set_value : (a : map.FinMap Rattle.std.specs.Ordering.nat_cmp (Marked T)) (i : ℕ) (w : T) (k : ℕ)
      → map.get (set_value a i w) k ≡ cond (eqb k i) (option_valued w (map.get a i)) (map.get a k)
  get-set_value a i w k = get-rewrite a i (valued w) k ∙ branch_at (option_valued w) (map.get a) k i (map.get a k)

  below-slot_with_value : (height : ℕ) (s : Slot T) → SlotFits height s → (rest r : ℕ) → rest < width height
      → r < width height → (w : T)
      → below (slot_with_value s rest w) r ≡ cond (eqb r rest) (option_valued w (below s rest)) (below s r)
  below-slot_with_value height Vacant fits rest r lt less w = sym (same_branch (eqb r rest) None)
  below-slot_with_value height (Value e) fits rest r lt less w =
      let one : rest < width 0 = subst (λ h. rest < width h) fits lt in
      let two : r < width 0 = subst (λ h. r < width h) fits less in
      rw (eq-eqb r rest (omega (arith, one, two))) refl
  below-slot_with_value height (Child b) fits rest r lt less w = get-set_value b.value.items rest w r

  sought_alike : (x : Sought) (w : T) (o : Option (Marked T)) → is_sought x (option_valued w o) ≡ is_sought x o
  sought_alike x w None = refl
  sought_alike Taken w (Some s) = refl
  sought_alike Free w (Some s) = refl
  sought_alike (WithMark M0) w (Some s) = refl
  sought_alike (WithMark M1) w (Some s) = refl
  sought_alike (WithMark M2) w (Some s) = refl

  has_alike : (height : ℕ) (s : Slot T) → SlotFits height s → (rest : ℕ) → rest < width height → (w : T) (x : Sought)
      → has_below height (slot_with_value s rest w) x ≡ has_below height s x
  has_alike height s fits rest lt w x =
      ap is_some
      (least-same _ _ 0 (width height - 1) (λ r _ le. ap (is_sought x) (below-slot_with_value height s fits rest r lt (omega (arith, lt)) w) ∙ alike r))
    where
      alike : (r : ℕ)
          → is_sought x (cond (eqb r rest) (option_valued w (below s rest)) (below s r)) ≡ is_sought x (below s r)
      alike r =
          elim (cases_eq r rest) as (λ _. is_sought x (cond (eqb r rest) (option_valued w (below s rest)) (below s r)) ≡ is_sought x (below s r)) [
            | inl is ↦ rw (eq-eqb r rest is) (sought_alike x w (below s rest) ∙ ap (λ n. is_sought x (below s n)) (sym is))
            | inr apart ↦ rw (ne_eqb r rest apart) refl
          ]

  fits_alike : (height : ℕ) (s : Slot T) (rest : ℕ) (w : T) → SlotFits height s
      → SlotFits height (slot_with_value s rest w)
  fits_alike height Vacant rest w fits = fits
  fits_alike height (Value e) rest w fits = fits
  fits_alike height (Child b) rest w fits = fits

module _ {T : Type 0} {height : ℕ} {slots : List (Slot T)} {q at rest : ℕ} {v : Tree T} (here : Spot height slots q at rest v) (was : Slot T) (was_is : slot slots at ≡ was) where
  lent_sound : (words : Words) → IsSound height slots words → (w : T)
      → IsSound height (set slots at (slot_with_value was rest w)) words
  lent_sound words sound w = edited_sound here (slot_with_value was rest w) words words sound (fits_alike height was rest w (was_fits here was was_is)) sound.fit (λ x i lt. elim (cases_eq i at) as (λ _. tells_of words x i ≡ cond (eqb i at) (has_below height (slot_with_value was rest w) x) (tells_of words x i)) [
    | inl same ↦ rw (eq-eqb i at same) (sound.tells x i lt ∙ ap (λ n. has_below height (slot slots n) x) same ∙ ap (λ s. has_below height s x) was_is ∙ sym (has_alike height was (was_fits here was was_is) rest (rest_in_slot here) w x))
    | inr apart ↦ rw (ne_eqb i at apart) refl
  ])

  -- After a write through a lent value, the node has the last value at its index and is otherwise unchanged.
  pub lent_view : (w : T) → view_of height (set slots at (slot_with_value was rest w)) ≡ tree_with_value v q w
  lent_view w = edited_view here (slot_with_value was rest w) (option_valued w (map.get v.items q))
      (λ r lt. below-slot_with_value height was (was_fits here was was_is) rest r (rest_in_slot here) lt w ∙ ap (λ o. cond (eqb r rest) (option_valued w o) (below was r)) (value_was here was was_is) ∙ ap (λ t. cond (eqb r rest) (option_valued w (map.get v.items q)) (below t r)) (sym was_is))
      (set_value v.items q w) (get-set_value v.items q w)

  len_lent : (w : T)
      → map.len (view_of height slots).items ≡ map.len (view_of height (set slots at (slot_with_value was rest w))).items
  len_lent w =
      ap (λ (t : Tree T). map.len t.items) here.view_is
      ∙ sym (len-set_value v.items q w)
      ∙ ap (λ (t : Tree T). map.len t.items) (sym (lent_view w))

  used_lent : (s : Slot T) (w : T) → IsUsed s → IsUsed (slot_with_value s rest w)
  used_lent Vacant w used = tt
  used_lent (Value e) w used = tt
  used_lent (Child b) w used = omega (arith, used, len-set_value b.value.items rest w)

  -- A write through a lent value leaves a sound node sound, with the same words and count.
  pub lent_node : (words : Words) (count : ℕ) → IsNode height slots words count → (w : T)
      → IsNode height (set slots at (slot_with_value was rest w)) words count
  lent_node words count node w =
      record
      { sound = lent_sound words node.sound w; counted = node.counted ∙ len_lent w; used = used_set slots at _ here.in_range node.used (used_lent was w (subst IsUsed was_is (node.used at))) }

  kept_slots : set slots at was ≡ slots
  kept_slots = ap (set slots at) (sym was_is) ∙ set-get_or slots at Vacant

  -- Writing a slot back unchanged leaves a sound node sound.
  pub kept_node : (words : Words) (count : ℕ) → IsNode height slots words count
      → IsNode height (set slots at was) words count
  kept_node words count node = subst (λ ss. IsNode height ss words count) (sym kept_slots) node

  -- Writing a slot back unchanged leaves the node's map unchanged.
  pub kept_view : view_of height (set slots at was) ≡ v
  kept_view = ap (view_of height) kept_slots ∙ here.view_is
