-- Indices at a node: the slot that one lies in, and where below it.
use Rattle.std.proofs.Common.{◌≡◌, ℕ, zero, suc, ◌+◌, ◌*◌, ◌/◌, ◌%◌, ◌^◌, ◌<◌, ◌≤◌, List, [], ◌∷◌, length, get_or, is_some, option_map, ◌-◌, ◌↔◌, IsTrue, nat_lt, true, refl, sym, ap, ◌∙◌, subst, inl, inr, arith}
use Rattle.std.specs.FinMap as map
use Rattle.std.proofs.lemmas.Bool.{cases_lt, lt-ltb, le-ltb, false≢true}
use Rattle.std.proofs.lemmas.List.{get_or_read}
use Rattle.std.proofs.lemmas.Nat.{pow_pos, pow-add, div-mul-add, mod-mul-add, div-add-mod'}
use Rattle.std.proofs.Math.Nat.{mod-lt, div-lt_iff_lt-mul, pow-le-pow_right, mul-le-mul_right, mul_assoc, mul_comm}
use Rattle.drm_index_array.specs.Tree.{Tree, width, span, is_sought}
use Rattle.drm_index_array.specs.Slots.{Fits as SlotFits, AllFit, slot, look, below, view_of, IsSound}
use Rattle.drm_index_array.specs.Word.{tells_of}
use Rattle.drm_index_array.specs.Least.{least}
use Rattle.drm_index_array.specs.declared.words.Sought.{Sought}
use Rattle.drm_index_array.proofs.NextLemmas.{least_moved, is_some-option_map}
use Rattle.drm_index_array.specs.declared.words.Words.{Words}
use Rattle.drm_index_array.specs.declared.tree.Slot.{Slot}
use Rattle.drm_index_array.specs.declared.tree.Slot.TheVariants.{Vacant}
use Rattle.drm_index_array.proofs.TableLemmas.{get-table_within}

-- An index within the span lies in one of the 64 slots.
pub slot_in_range : (height q : ℕ) → q < span height → q / width height < 64
slot_in_range height q lt = (div-lt_iff_lt-mul (pow_pos (6 * height))).1 (omega (arith, pow-add 2 (6 * height) 6))

-- An index is within the span if and only if it lies in one of the 64 slots.
pub covered : (height q : ℕ) → IsTrue (nat_lt (q / width height) 64) ↔ (q < span height)
covered height q =
    (λ low. within (lower low), λ lt. lt-ltb _ 64 (slot_in_range height q lt))
  where
    lower : nat_lt (q / width height) 64 ≡ true → q / width height < 64
    lower low = elim (cases_lt (q / width height) 64) [
      | inl lt ↦ lt
      | inr le ↦ absurd (false≢true (sym (le-ltb (q / width height) 64 le) ∙ low))
    ]

    within : q / width height < 64 → q < span height
    within low = omega (arith, (div-lt_iff_lt-mul (pow_pos (6 * height))).0 low, pow-add 2 (6 * height) 6)

-- The index below a slot is lower than the slot's width.
pub rest_in_range : (height q : ℕ) → q % width height < width height
rest_in_range height q = mod-lt q (pow_pos (6 * height))

-- The slot of an index is given by the low digits of its quotient by the slot's width, whatever lies above the node.
module _ (height q : ℕ) where
  whole : (q / span height * 64 + q % span height / width height) * width height + q % span height % width height ≡ q
  whole =
      let wide : span height ≡ width height * 64 = pow-add 2 (6 * height) 6 in
      let moved : q / span height * 64 * width height ≡ q / span height * span height =
      mul_assoc (q / span height) 64 (width height) ∙ ap (λ n. q / span height * n) (mul_comm 64 (width height) ∙ sym wide) in
      omega (arith, moved, div-add-mod' (q % span height) (width height), div-add-mod' q (span height))

  pub place_in_node : q / width height % 64 ≡ q % span height / width height
  place_in_node =
      let digit = slot_in_range height (q % span height) (mod-lt q (pow_pos (6 * height + 6))) in
      ap (λ n. n / width height % 64) (sym whole)
      ∙ ap (λ n. n % 64) (div-mul-add _ (width height) _ (rest_in_range height (q % span height)))
      ∙ mod-mul-add (q / span height) 64 _ digit

  pub rest_in_node : q % span height % width height ≡ q % width height
  rest_in_node =
      sym
      (ap (λ n. n % width height) (sym whole) ∙ mod-mul-add _ (width height) _ (rest_in_range height (q % span height)))

-- In a node of a height up to 5, a slot covers at most 2^30 indices.
pub width_low : (height : ℕ) → height ≤ 5 → width height ≤ 2 ^ 30
width_low height low =
    let exponent : 6 * height ≤ 30 = omega arith in
    pow-le-pow_right {n = 2} (omega arith) exponent

-- An index made of a slot and an index below it lies within the span.
pub index_in_span : (height i r : ℕ) → i < 64 → r < width height → i * width height + r < span height
index_in_span height i r lt within =
    let next : i + 1 ≤ 64 = omega arith in
    let m : (i + 1) * width height ≤ 64 * width height = mul-le-mul_right (width height) next in
    omega (arith, pow-add 2 (6 * height) 6)

-- The span of a subtree one level lower is the width of its slot.
pub child_span : (child height : ℕ) → child + 1 ≡ height → span child ≡ width height
child_span child height fit = ap (λ n. 2 ^ n) (omega arith)

module _ {T : Type 0} where
  -- If all slots fit the height, each one does.
  pub slot_fits : (height : ℕ) (slots : List (Slot T)) → AllFit height slots → (i : ℕ) → SlotFits height (slot slots i)
  slot_fits height [] fit i = tt
  slot_fits height (s ∷ ss) fit zero = fit.0
  slot_fits height (s ∷ ss) fit (suc i) = slot_fits height ss fit.1 i

  -- At an index made of a slot and an index below it, the node has what the slot has there.
  pub value_in : (height : ℕ) (slots : List (Slot T)) (i r : ℕ) → i < 64 → r < width height
      → map.get (view_of height slots).items (i * width height + r) ≡ below (slot slots i) r
  value_in height slots i r lt within =
      get-table_within (span height) (look height slots) _ (index_in_span height i r lt within)
      ∙ rw (div-mul-add i (width height) r within, mod-mul-add i (width height) r within) refl

  -- A search below a slot, counted from the slot's first index, is the node's search in the slot.
  pub slot_least : (height : ℕ) (slots : List (Slot T)) (x : Sought) (i from : ℕ) → i < 64
      → option_map (λ n. i * width height + n) (least (λ r. is_sought x (below (slot slots i) r)) from (width height - 1)) ≡ least (λ k. is_sought x (map.get (view_of height slots).items k)) (i * width height + from) (i * width height + (width height - 1))
  slot_least height slots x i from lt =
      least_moved _ _ (i * width height) from (width height - 1)
      (λ r ge le. ap (is_sought x) (sym (value_in height slots i r lt (omega (arith, pow_pos (6 * height))))))

  -- The words have a slot's bit if and only if the node has a sought index in the slot.
  pub told : (height : ℕ) (slots : List (Slot T)) (words : Words) (v : Tree T) → IsSound height slots words
      → view_of height slots ≡ v → (x : Sought) (i : ℕ) → i < 64
      → tells_of words x i ≡ is_some (least (λ k. is_sought x (map.get v.items k)) (i * width v.height + 0) (i * width v.height + (width v.height - 1)))
  told height slots words v sound view_is x i lt =
      subst
      (λ (v : Tree T). tells_of words x i ≡ is_some (least (λ k. is_sought x (map.get v.items k)) (i * width v.height + 0) (i * width v.height + (width v.height - 1))))
      view_is
      (sound.tells x i lt ∙ sym (is_some-option_map _ _) ∙ ap is_some (slot_least height slots x i 0 lt))

-- an index, with its slot and where it lies below it, at a node whose value is v
pub record Spot {T : Type 0} (height : ℕ) (slots : List (Slot T)) (q at rest : ℕ) (v : Tree T) : Type 0 where
  pub at_is : at ≡ q / width height
  pub rest_is : rest ≡ q % width height
  pub in_range : at < length slots
  pub within : q < span height
  pub all_fit : AllFit height slots
  pub view_is : view_of height slots ≡ v

module _ {T : Type 0} {height : ℕ} {slots : List (Slot T)} {q at rest : ℕ} {v : Tree T} where
  -- An index within the span lies in the slot that division finds, at the remainder below it.
  pub spot : (words : Words) → IsSound height slots words → at ≡ q / width height → rest ≡ q % width height
      → view_of height slots ≡ v → q < span v.height → Spot height slots q at rest v
  spot words sound at_is rest_is view_is lt =
      let within : q < span height = subst (λ (t : Tree T). q < span t.height) (sym view_is) lt in
      record {
        at_is = at_is;
        rest_is = rest_is;
        in_range = omega (arith, slot_in_range height q within, sound.wide);
        within = within;
        all_fit = sound.all_fit;
        view_is = view_is;
      }

  -- The same, if the division is by the width of a level that is the node's.
  pub level_spot : (words : Words) → IsSound height slots words → (level known : ℕ) → level ≡ known → v.height ≡ known
      → at ≡ q / width level → rest ≡ q % width level → view_of height slots ≡ v → q < span v.height
      → Spot height slots q at rest v
  level_spot words sound level known level_is known_is at_is rest_is view_is lt =
      let same : level ≡ height = level_is ∙ sym known_is ∙ sym (ap (λ (t : Tree T). t.height) view_is) in
      spot words sound (at_is ∙ ap (λ h. q / width h) same) (rest_is ∙ ap (λ h. q % width h) same) view_is lt

  module _ (here : Spot height slots q at rest v) where
    -- A slot that is read is the one at its place.
    pub slot_is : (s t : Slot T) → s ≡ get_or slots at s → s ≡ t → slot slots at ≡ t
    slot_is s t read is = sym (get_or_read slots at s here.in_range read Vacant) ∙ is
