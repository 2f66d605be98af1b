-- Writing a listing, page by page.
use Rattle.std.proofs.Common.{◌≡◌, ℕ, zero, suc, ◌+◌, ◌<◌, List, [], ◌∷◌, ◌++◌, take, drop, refl, sym, ◌∙◌, ap, arith, append-nil}
use Rattle.std.specs.List.{flat_map}
use Rattle.std.proofs.lemmas.Grind.{flat_map-append}
use Rattle.std.proofs.lemmas.List.{take-append-drop}
use Rattle.drm_frames.specs.Streams.{SinkTrace}
use Rattle.drm_frames.specs.Turns.{WriteCost, PartialWriteCost}
use Rattle.drm_server.specs.declared.listing.ListEnd.TheVariants as ends
use Rattle.drm_model.specs.Rows.{Rows}
use Rattle.drm_server.specs.Listing.{Lists, audit_text}

nothing : {X : Type 0} (k j : ℕ) → take {A = X} k [] ≡ take j []
nothing zero zero = refl
nothing zero (suc j) = refl
nothing (suc k) zero = refl
nothing (suc k) (suc j) = refl

-- ---- rows by pages

module _ {X : Type 0} (line : X → List ℕ) where
  -- A text of rows is that of a page, of the next page and of all that follow.
  pub whole-page : (rows : List X) (n m : ℕ)
      → flat_map line rows ≡ flat_map line (take n rows) ++ (flat_map line (take m (drop n rows)) ++ flat_map line (drop m (drop n rows)))
  whole-page rows n m =
      ap (flat_map line) (sym (take-append-drop n rows)) ∙ flat_map-append line (take n rows) (drop n rows)
      ∙ ap (λ l. flat_map line (take n rows) ++ l)
      (ap (flat_map line) (sym (take-append-drop m (drop n rows))) ∙ flat_map-append line (take m (drop n rows)) (drop m (drop n rows)))

  take-add : (rows : List X) (n m : ℕ) → take n rows ++ take m (drop n rows) ≡ take (n + m) rows
  take-add rows zero m = ap (λ k. take k rows) (none m)
    where
      none : (k : ℕ) → k ≡ 0 + k
      none k = omega arith
  take-add [] (suc n) m = nothing m (suc n + m)
  take-add (x ∷ xs) (suc n) m = ap (λ l. x ∷ l) (take-add xs n m) ∙ ap (λ k. take k (x ∷ xs)) (more n m)
    where
      more : (k j : ℕ) → suc (k + j) ≡ suc k + j
      more k j = omega arith

  -- The rows so far and the next page are the rows up to the end of the page.
  pub next-page : (rows : List X) (n m : ℕ)
      → flat_map line (take n rows) ++ flat_map line (take m (drop n rows)) ≡ flat_map line (take (n + m) rows)
  next-page rows n m =
      sym (flat_map-append line (take n rows) (take m (drop n rows))) ∙ ap (flat_map line) (take-add rows n m)

  -- An empty page ends the rows.
  pub last-page : (rows : List X) (n m : ℕ) → 0 < m → take m (drop n rows) ≡ [] → take n rows ≡ rows
  last-page rows n m h e =
      sym (append-nil (take n rows)) ∙ ap (λ l. take n rows ++ l) (sym (none_left (drop n rows) m h e))
      ∙ take-append-drop n rows
    where
      none_left : (xs : List X) (m : ℕ) → 0 < m → take m xs ≡ [] → xs ≡ []
      none_left [] m h e = refl
      none_left (x ∷ xs) zero h e = absurd (omega (arith, h))
      none_left (x ∷ xs) (suc m) h e = cc

-- ---- the ends of a listing

-- A listing that was written whole is done.
pub listed : (w : Rows) (a b : SinkTrace) (t u : ℕ) → WriteCost a b (audit_text w) t u → Lists w a b t ends.Done
listed w a b t u h = record {
  written = audit_text w;
  later = [];
  parts = sym (append-nil (audit_text w));
  took = h.took;
  turns_at_most = let c = h.cost in omega (arith, c);
  end_condition = refl;
}

-- If the sink fails, a listing ends with a write fault.
pub listed-fault : (w : Rows) (a b : SinkTrace) (t u : ℕ) → PartialWriteCost a b (audit_text w) t u
    → a.counts.faults < b.counts.faults → Lists w a b t ends.WriteFault
listed-fault w a b t u h f = record {
  written = h.front;
  later = h.rest;
  parts = h.parts;
  took = h.pays.took;
  turns_at_most = let c = h.pays.cost in omega (arith, c);
  end_condition = (h.more, f);
}

-- If no turn is left, a listing ends with its turns used.
pub listed-turns : (w : Rows) (a b : SinkTrace) (t u : ℕ) → PartialWriteCost a b (audit_text w) t u → u ≡ 0
    → Lists w a b t ends.TurnsUsed
listed-turns w a b t u h e = record {
  written = h.front;
  later = h.rest;
  parts = h.parts;
  took = h.pays.took;
  turns_at_most = let c = h.pays.cost in omega (arith, c);
  end_condition = (h.more, let c = h.pays.cost in omega (arith, c, e));
}
