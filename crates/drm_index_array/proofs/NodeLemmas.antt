-- A search at a node, by its words and its slots.
use Rattle.std.proofs.Common.{◌≡◌, ℕ, ◌+◌, ◌-◌, ◌*◌, ◌/◌, ◌^◌, ◌<◌, ◌≤◌, Bool, true, false, bit_and, List, get_or, Option, Some, None, is_some, option_map, refl, sym, ap, ◌∙◌, subst, arith, Box, Global}
use Rattle.std.specs.FinMap as map
use Rattle.std.proofs.lemmas.List.{get_or_read}
use Rattle.std.proofs.lemmas.Nat.{pow_pos, pow-add, div-add-mod'}
use Rattle.std.proofs.Math.Nat.{mul-le-mul_right}
use Rattle.std.proofs.lemmas.Nat.Bits.{shr_and_one}
use Rattle.drm_index_array.specs.Least.{least}
use Rattle.drm_index_array.proofs.Least.{least_some, least_is, least_is_none}
use Rattle.drm_index_array.specs.Word.{has_bit, tells_of}
use Rattle.drm_index_array.specs.Tree.{Tree, width, span, is_sought}
use Rattle.drm_index_array.specs.Slots.{Fits as SlotFits, slot, below, view_of, IsSound}
use Rattle.drm_index_array.specs.declared.words.Sought.{Sought}
use Rattle.drm_index_array.specs.declared.words.Sought.TheVariants.{Taken, Vacant as Free, Marked as WithMark}
use Rattle.drm_index_array.specs.declared.words.Words.{Words}
use Rattle.drm_index_array.specs.declared.tree.Node.{Node}
use Rattle.drm_index_array.specs.declared.tree.Slot.{Slot}
use Rattle.drm_index_array.specs.declared.tree.Slot.TheVariants.{Vacant, Child}
use Rattle.drm_index_array.proofs.SlotLemmas.{Spot, slot_fits, slot_least, told, child_span}
use Rattle.drm_index_array.proofs.NextLemmas.{least_wider, none_of, any_told, some_in, next_at_end, next_none, next_some}

abbrev pub sought_in : {T : Type 0} → Tree T → Sought → ℕ → Bool
sought_in v x k = is_sought x (map.get v.items k)

-- what is sought in one slot, from a place on
abbrev pub in_slot : {T : Type 0} → Tree T → Sought → ℕ → ℕ → Option ℕ
in_slot v x at rest = least (sought_in v x) (at * width v.height + rest) (at * width v.height + (width v.height - 1))

abbrev pub in_node : {T : Type 0} → Tree T → Sought → ℕ → Option ℕ
in_node v x from = least (sought_in v x) from (span v.height - 1)

-- A word whose bit, shifted to the lowest place, is 0 does not have this bit.
pub bit_zero : (word i : ℕ) → bit_and (word / 2 ^ i) 1 ≡ 0 → has_bit word i ≡ false
bit_zero word i e = rw (sym (shr_and_one word i) ∙ e) refl

whole : (height : ℕ) → 64 * width height - 1 ≡ span height - 1
whole height = omega (arith, pow-add 2 (6 * height) 6)

module _ {T : Type 0} {height : ℕ} {slots : List (Slot T)} {q at rest : ℕ} {v : Tree T} (here : Spot height slots q at rest v) where
  height_is : height ≡ v.height
  height_is = ap (λ (t : Tree T). t.height) here.view_is

  -- The slot of an index is one of the 64.
  pub slot_in : at < 64
  slot_in = rw here.at_is (Rattle.drm_index_array.proofs.SlotLemmas.slot_in_range height q here.within)

  -- The index below a slot is lower than the slot's width.
  pub rest_in : rest < width v.height
  rest_in = rw (← height_is) (rw here.rest_is (Rattle.drm_index_array.proofs.SlotLemmas.rest_in_range height q))

  split : at * width v.height + rest ≡ q
  split = rw (← height_is) (rw (here.at_is, here.rest_is) (div-add-mod' q (width height)))

  ends : (x : Sought) (r : Option ℕ) → r ≡ least (sought_in v x) (at * width v.height + rest) (64 * width v.height - 1)
      → r ≡ in_node v x q
  ends x r e =
      e ∙ ap (λ from. least (sought_in v x) from (64 * width v.height - 1)) split
      ∙ ap (λ to. least (sought_in v x) q to) (whole v.height)

  -- An index found in the slot is the one found in the node.
  pub node_in_slot : (x : Sought) (n : ℕ) → Some n ≡ in_slot v x at rest → Some n ≡ in_node v x q
  node_in_slot x n found =
      let next : at + 1 ≤ 64 = omega (arith, slot_in) in
      let m : (at + 1) * width v.height ≤ 64 * width v.height = mul-le-mul_right (width v.height) next in
      ends x (Some n) (sym (least_wider (sought_in v x) _ _ _ n (omega (arith, pow_pos (6 * v.height))) (sym found)))

  -- If nothing is found in the last slot, nothing is found in the node.
  pub node_at_end : (x : Sought) (words : Words) → IsSound height slots words → None ≡ in_slot v x at rest → at ≡ 63
      → None ≡ in_node v x q
  node_at_end x words sound none last =
      ends x None
      (next_at_end (sought_in v x) (width v.height) (pow_pos (6 * v.height)) (tells_of words x) (told height slots words v sound here.view_is x) at rest rest_in slot_in none last)

  module _ (words : Words) (sound : IsSound height slots words) (x : Sought) (word : ℕ) (bits : (i : ℕ) → i < 64 → has_bit word i ≡ tells_of words x i) where
    told_here : (i : ℕ) → i < 64 → has_bit word i ≡ is_some (in_slot v x i 0)
    told_here i lt = bits i lt ∙ told height slots words v sound here.view_is x i lt

    module _ (none : None ≡ in_slot v x at rest) where
      -- If nothing is found in the slot and the word has no later bit, nothing is found in the node.
      pub node_none : None ≡ least (has_bit word) (at + 1) 63 → None ≡ in_node v x q
      node_none untold =
          ends x None
          (next_none (sought_in v x) (width v.height) (pow_pos (6 * v.height)) (has_bit word) told_here at rest rest_in slot_in none untold)

      -- If nothing is found in the slot, the search in the slot of the word's next bit is that in the node.
      pub node_some : (t : ℕ) (r : Option ℕ) → Some t ≡ least (has_bit word) (at + 1) 63 → r ≡ in_slot v x t 0
          → r ≡ in_node v x q
      node_some t r found next =
          ends x r
          (next_some (sought_in v x) (width v.height) (pow_pos (6 * v.height)) (has_bit word) told_here at rest rest_in slot_in none t r found next)

-- The word has a bit if and only if the node has an index that is sought.
pub node_any : {T : Type 0} (height : ℕ) (slots : List (Slot T)) (v : Tree T) (words : Words)
    → IsSound height slots words → view_of height slots ≡ v → (x : Sought) (word : ℕ)
    → ((i : ℕ) → i < 64 → has_bit word i ≡ tells_of words x i)
    → is_some (least (has_bit word) 0 63) ≡ is_some (in_node v x 0)
node_any height slots v words sound view_is x word bits =
    any_told (sought_in v x) (width v.height) (pow_pos (6 * v.height)) (has_bit word)
    (λ i lt. bits i lt ∙ told height slots words v sound view_is x i lt)
    ∙ ap (λ to. is_some (least (sought_in v x) 0 to)) (whole v.height)

-- one slot
module _ {T : Type 0} {height : ℕ} {slots : List (Slot T)} {v : Tree T} (words : Words) (sound : IsSound height slots words) (view_is : view_of height slots ≡ v) (at rest : ℕ) (slot_in : at < 64) (rest_in : rest < width v.height) (x : Sought) where
  low_rest : rest < width height
  low_rest = subst (λ (t : Tree T). rest < width t.height) (sym view_is) rest_in

  -- If the word does not have the slot's bit, nothing is found in the slot.
  pub slot_untold : (word : ℕ) → ((i : ℕ) → i < 64 → has_bit word i ≡ tells_of words x i) → has_bit word at ≡ false
      → None ≡ in_slot v x at rest
  slot_untold word bits zero =
      let none =
      none_of (sought_in v x) _ _
      (sym (told height slots words v sound view_is x at slot_in) ∙ sym (bits at slot_in) ∙ zero) in
      sym (least_is_none _ _ _ (λ k ge le. none k (omega arith) le))

  -- A slot that is read is the one at its place.
  pub slot_here : (s t : Slot T) → s ≡ get_or slots at s → s ≡ t → slot slots at ≡ t
  slot_here s t read is = sym (get_or_read slots at s (omega (arith, sound.wide)) read Vacant) ∙ is

  module _ (s : Slot T) (s_is : slot slots at ≡ s) where
    abbrev passing : ℕ → Bool
    passing r = is_sought x (below s r)

    moved : option_map (λ n. at * width height + n) (least passing rest (width height - 1)) ≡ in_slot v x at rest
    moved =
        ap (λ s. option_map (λ n. at * width height + n) (least (λ r. is_sought x (below s r)) rest (width height - 1)))
        (sym s_is)
        ∙ slot_least height slots x at rest slot_in
        ∙ ap (λ (t : Tree T). in_slot t x at rest) view_is

    -- What is found below the slot, counted from the slot's first index, is found in the slot.
    pub slot_some : (base n : ℕ) → base ≡ at * width height → Some n ≡ least passing rest (width height - 1)
        → Some (base + n) ≡ in_slot v x at rest
    slot_some base n base_is found =
        ap (λ b. Some (b + n)) base_is ∙ ap (option_map (λ n. at * width height + n)) found ∙ moved

    -- If nothing is found below the slot, nothing is found in the slot.
    pub slot_none : None ≡ least passing rest (width height - 1) → None ≡ in_slot v x at rest
    slot_none none = ap (option_map (λ n. at * width height + n)) none ∙ moved

    -- If the index below the slot is itself sought, it is the one found in the slot.
    pub slot_all : (base : ℕ) → base ≡ at * width height → passing rest ≡ true
        → Some (base + rest) ≡ in_slot v x at rest
    slot_all base base_is passes =
        slot_some base rest base_is
        (sym (least_is passing rest _ rest (record { at_least = omega arith; at_most = omega (arith, low_rest); passes = passes; none_below = λ k ge lt. absurd (omega arith) })))

    -- If no index below the slot is sought, nothing is found in the slot.
    pub slot_fails : ((r : ℕ) → passing r ≡ false) → None ≡ in_slot v x at rest
    slot_fails fails = slot_none (sym (least_is_none passing rest _ (λ k ge le. fails k)))

  module _ (b : Box (Node T) Global) (b_is : slot slots at ≡ Child b) where
    -- A subtree is one level lower than its node.
    pub child_fits : b.value.height + 1 ≡ height
    child_fits = subst (SlotFits height) b_is (slot_fits height slots sound.all_fit at)

    -- A subtree is lower than its node.
    pub child_low : b.value.height < v.height
    child_low = omega (arith, child_fits, ap (λ (t : Tree T). t.height) view_is)

    -- The index below a slot lies within the span of the subtree there.
    pub rest_within : rest < span b.value.height
    rest_within = rw (child_span b.value.height height child_fits) low_rest

    -- The search in the subtree is the search below its slot.
    pub child_end : (r : Option ℕ) → r ≡ in_node b.value x rest
        → r ≡ least (λ k. is_sought x (below (Child b) k)) rest (width height - 1)
    child_end r e = e ∙ ap (λ n. least (sought_in b.value x) rest (n - 1)) (child_span b.value.height height child_fits)

    -- An index found in the subtree is lower than the slot's width.
    pub found_low : (n : ℕ) → Some n ≡ in_node b.value x rest → n < width height
    found_low n e =
        let is = least_some _ _ _ n (sym (child_end (Some n) e)) in
        omega (arith, is.at_most, pow_pos (6 * height))

-- An index with no entry is sought only by a search for free indices.
pub not_free : (T : Type 0) (x : Sought) → (x ≡ Free → ⊥) → is_sought {X = T} x None ≡ false
not_free T Taken other = refl
not_free T Free other = absurd (other refl)
not_free T (WithMark m) other = refl

-- If all indices below a slot test alike, some index passes if and only if the test does.
pub any_alike : (height : ℕ) (b : Bool) → is_some (least (λ _. b) 0 (width height - 1)) ≡ b
any_alike height true = some_in _ 0 _ 0 (omega arith) (omega arith) refl
any_alike height false = ap is_some (least_is_none _ 0 _ (λ k ge le. refl))
