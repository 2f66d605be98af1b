-- Writing texts one after another.
use Rattle.std.proofs.Common.{◌≡◌, ℕ, zero, suc, ◌+◌, ◌<◌, ◌≤◌, List, [], ◌∷◌, ◌++◌, length, length-append, take, drop, refl, sym, ◌∙◌, ap, arith, get_or, append_assoc, append-nil}
use Rattle.std.specs.List.{flat_map}
use Rattle.drm_frames.specs.Streams.{SinkTrace}
use Rattle.drm_frames.specs.Turns.{WriteCost, PartialWriteCost, Writes}
use Rattle.drm_frames.specs.Texts.{WritesOut}
use Rattle.drm_frames.specs.declared.turns.Written.{Written}
use Rattle.drm_frames.specs.declared.turns.Written.TheVariants as written
use Rattle.drm_frames.proofs.Traces.{WriteCost-then}

part-then : (a b c : SinkTrace) (xs ys more text : List ℕ) (s t u : ℕ) → text ≡ xs ++ (ys ++ more)
    → WriteCost a b xs s t → PartialWriteCost b c ys t u → PartialWriteCost a c text s u
part-then a b c xs ys more text s t u e h k = record {
  front = xs ++ k.front;
  rest = k.rest ++ more;
  parts =
      e ∙ ap (λ l. xs ++ (l ++ more)) k.parts ∙ ap (λ l. xs ++ l) (append_assoc k.front k.rest more)
      ∙ sym (append_assoc xs k.front (k.rest ++ more));
  more = let l = length-append k.rest more in let n = k.more in omega (arith, l, n);
  pays = WriteCost-then h k.pays;
}

-- If writing stops in a text after others were written whole, it stops in all of them together.
pub stops : (end : Written) → (end ≡ written.Whole → ⊥) → (a b c : SinkTrace) (xs ys more text : List ℕ) (s t u : ℕ)
    → text ≡ xs ++ (ys ++ more) → WriteCost a b xs s t → WritesOut end b c ys t u → WritesOut end a c text s u
stops written.Whole partial a b c xs ys more text s t u e h k = absurd (partial refl)
stops written.Fault partial a b c xs ys more text s t u e h k =
    (part-then a b c xs ys more text s t u e h k.0, let f = h.took.counts.faults in let g = k.1 in omega (arith, f, g))
stops written.TurnsUsed partial a b c xs ys more text s t u e h k = (part-then a b c xs ys more text s t u e h k.0, k.1)

-- The result of putting a text is a result of writing it.
pub writes_out : (end : Written) (a b : SinkTrace) (text : List ℕ) (s t : ℕ) → Writes end a b text s t
    → WritesOut end a b text s t
writes_out written.Whole a b text s t h = h.0
writes_out written.Fault a b text s t h = h
writes_out written.TurnsUsed a b text s t h = h

-- ---- before, at and after a place

module _ {X : Type 0} (line : X → List ℕ) where
  text-at : (rows : List X) (i : ℕ) (d : X) → i < length rows
      → flat_map line rows ≡ flat_map line (take i rows) ++ (line (get_or rows i d) ++ flat_map line (drop (suc i) rows))
  text-at [] i d h = absurd (omega (arith, h))
  text-at (x ∷ xs) zero d h = refl
  text-at (x ∷ xs) (suc i) d h =
      ap (λ l. line x ++ l) (text-at xs i d (omega (arith, h)))
      ∙ sym
      (append_assoc (line x) (flat_map line (take i xs)) (line (get_or xs i d) ++ flat_map line (drop (suc i) xs)))

  text-more : (rows : List X) (i : ℕ) (d : X) → i < length rows
      → flat_map line (take i rows) ++ line (get_or rows i d) ≡ flat_map line (take (suc i) rows)
  text-more [] i d h = absurd (omega (arith, h))
  text-more (x ∷ xs) zero d h = sym (append-nil (line x))
  text-more (x ∷ xs) (suc i) d h =
      append_assoc (line x) (flat_map line (take i xs)) (line (get_or xs i d))
      ∙ ap (λ l. line x ++ l) (text-more xs i d (omega (arith, h)))

  -- The text of the first `i` rows and of the row at `i` is that of the first `i + 1` rows.
  pub next-text : (rows : List X) (i : ℕ) (d : X) → i < length rows
      → flat_map line (take i rows) ++ line (get_or rows i d) ≡ flat_map line (take (i + 1) rows)
  next-text rows i d h = text-more rows i d h ∙ ap (λ n. flat_map line (take n rows)) (omega-one i)
    where
      omega-one : (n : ℕ) → suc n ≡ n + 1
      omega-one n = omega arith

  -- The whole text is that of the rows before a place, of the row there and of the rows after it.
  pub whole-text : (rows : List X) (i : ℕ) (d : X) → i < length rows
      → flat_map line rows ≡ flat_map line (take i rows) ++ (line (get_or rows i d) ++ flat_map line (drop (suc i) rows))
  whole-text = text-at

  -- Taking at least as many rows as exist takes all of them.
  pub all-taken : (rows : List X) (n : ℕ) → length rows ≤ n → take n rows ≡ rows
  all-taken [] zero h = refl
  all-taken [] (suc n) h = refl
  all-taken (x ∷ xs) zero h = absurd (omega (arith, h))
  all-taken (x ∷ xs) (suc n) h = ap (λ l. x ∷ l) (all-taken xs n (omega (arith, h)))
