-- The numbers that a view keeps of the participants that were merged into it.
use Rattle.std.proofs.Common.{◌≡◌, ◌≢◌, ◌⊎◌, ⊎_elim, inl, inr, ℕ, zero, suc, List, [], ◌∷◌, ◌++◌, length, set, sym, refl, ap, ◌∙◌, subst, arith}
use mathlib.Core.Option.{some, some-injective, some-ne-none}
use lib.ListN.{get_elem?}
use Rattle.atomic_table.proofs.Lists.{at_set, at_longer, set_here, set_else}
use Rattle.drm_turns.specs.declared.history.View.{View}
use Rattle.drm_turns.specs.declared.history.Stage.TheVariants.{Idle, Spent}
use Rattle.drm_turns.specs.History.{AllDiffer, Has}
use Rattle.drm_turns.specs.Rule.{IsSpent, TakenIn}
use Rattle.drm_turns.specs.Views.{spent_view}
use Rattle.drm_turns.proofs.Rule.{at_below, spent_stays}

-- An item of a list with one more item is one of the old ones, or the new one at the end.
pub at_end : {A : Type 0} (l : List A) (a b : A) (j : ℕ) → get_elem? (l ++ a ∷ []) j ≡ some b
    → (get_elem? l j ≡ some b) ⊎ ((j ≡ length l) × (a ≡ b))
at_end [] a b zero e = inr (refl, some-injective a b e)
at_end [] a b (suc j) e = absurd (some-ne-none b (sym e))
at_end (x ∷ xs) a b zero e = inl e
at_end (x ∷ xs) a b (suc j) e = ⊎_elim (λ t. inl t) (λ t. inr (ap suc t.0, t.1)) (at_end xs a b j e)

-- The rule of kept numbers holds with one more participant that keeps none.
pub taken_snoc : (views : List View) (c : View) → TakenIn views → c.kept ≡ [] → TakenIn (views ++ c ∷ [])
taken_snoc views c t empty =
    let old : (i : ℕ) (u : View) (k : ℕ) → get_elem? (views ++ c ∷ []) i ≡ some u → Has k u.kept → get_elem? views i ≡ some u = λ i u k at has. ⊎_elim
    (λ (h : get_elem? views i ≡ some u). h)
    (λ (h : (i ≡ length views) × (c ≡ u)). absurd (subst (Has k) (ap (λ (z : View). z.kept) (sym h.1) ∙ empty) has))
    (at_end views c u i at) in record {
      spent = λ i u k at has. let s = t.spent i u k (old i u k at has) has in (s.0, s.1, s.2, at_longer views (c ∷ []) s.0 s.1 s.3, s.4);
      apart = λ i u at. ⊎_elim
          (λ (h : get_elem? views i ≡ some u). t.apart i u h)
          (λ (h : (i ≡ length views) × (c ≡ u)). subst AllDiffer (sym (ap (λ (z : View). z.kept) (sym h.1) ∙ empty)) tt)
          (at_end views c u i at);
      once =
          λ i j a b k at_i at_j has_i has_j. t.once i j a b k (old i a k at_i has_i) (old j b k at_j has_j) has_i has_j;
    }

-- A single participant that keeps no numbers meets the rule of kept numbers.
pub taken_one : (v : View) → v.kept ≡ [] → TakenIn (v ∷ [])
taken_one v empty =
    taken_snoc [] v
    (record { spent = λ i u k at has. absurd (some-ne-none u (sym at)); apart = λ i u at. absurd (some-ne-none u (sym at)); once = λ i j a b k at_i at_j has_i has_j. absurd (some-ne-none a (sym at_i)) })
    empty

-- No participant keeps the number of one that is not spent.
pub not_kept : (views : List View) (id : ℕ) (v : View) (j : ℕ) (u : View) → TakenIn views → get_elem? views id ≡ some v
    → (v.stage ≡ Spent → ⊥) → get_elem? views j ≡ some u → Has (suc id) u.kept → ⊥
not_kept views id v j u t at unspent at_j has =
    let s = t.spent j u (suc id) at_j has in
    let same : id ≡ s.0 = (let e = s.2 in omega arith) in
    unspent (ap (λ (z : View). z.stage) (some-injective v s.1 (sym at ∙ (ap (get_elem? views) same ∙ s.3))) ∙ s.4)

-- A participant's number differs from those that it keeps, and these differ from each other.
pub kept_apart : (views : List View) (id : ℕ) (v : View) → TakenIn views → get_elem? views id ≡ some v
    → (v.stage ≡ Spent → ⊥) → (v.number ≡ 0) ⊎ (v.number ≡ suc id) → v.number ≢ 0 → AllDiffer (v.number ∷ v.kept)
kept_apart views id v t at unspent number some_number = ⊎_elim
    (λ (z : v.number ≡ 0). absurd (some_number z))
    (λ (z : v.number ≡ suc id). ((λ has. not_kept views id v id v t at unspent at (subst (λ (k : ℕ). Has k v.kept) z has)), t.apart id v at))
    number

-- A number of two lists together is in the first or in the second.
pub has_append : (k : ℕ) (xs ys : List ℕ) → Has k (xs ++ ys) → Has k xs ⊎ Has k ys
has_append k [] ys has = inr has
has_append k (x ∷ xs) ys has =
    ⊎_elim (λ (e : k ≡ x). inl (inl e))
    (λ (h : Has k (xs ++ ys)). ⊎_elim (λ (a : Has k xs). inl (inr a)) (λ (b : Has k ys). inr b) (has_append k xs ys h))
    has

-- The numbers of two lists differ if those of each do and no number is in both.
pub differ_append : (xs ys : List ℕ) → AllDiffer xs → AllDiffer ys → ((k : ℕ) → Has k xs → Has k ys → ⊥)
    → AllDiffer (xs ++ ys)
differ_append [] ys a b apart = b
differ_append (x ∷ xs) ys a b apart = (
  (λ has. ⊎_elim (λ (h : Has x xs). a.0 h) (λ (h : Has x ys). apart x (inl refl) h) (has_append x xs ys has)),
  differ_append xs ys a.1 b (λ k h g. apart k (inr h) g),
)

-- a view takes in what another kept, and its number
module _ (views : List View) (id : ℕ) (v : View) (other : ℕ) (w both : View) (t : TakenIn views) (at : get_elem? views id ≡ some v) (at_other : get_elem? views other ≡ some w) (apart : ¬ (other ≡ id))
    (idle : v.stage ≡ Idle) (idle_other : w.stage ≡ Idle) (whence : (k : ℕ) → Has k both.kept → (Has k v.kept) ⊎ ((k ≡ suc other) ⊎ Has k w.kept)) (differ : AllDiffer both.kept) where
  -- where a kept number was before
  abbrev Origin : ℕ → ℕ → Type 0
  Origin k j =
      ((k ≡ suc other) × (j ≡ id)) ⊎
      ((i : ℕ) × (u : View) × (get_elem? views i ≡ some u) × Has k u.kept × ((i ≡ j) ⊎ (j ≡ id)) × (j ≡ id → (i ≡ id) ⊎ (i ≡ other)) × (j ≢ other))

  origin : (j : ℕ) (u : View) (k : ℕ) → get_elem? (set (set views id both) other spent_view) j ≡ some u → Has k u.kept
      → Origin k j
  origin j u k at_j has = ⊎_elim
      (λ (h : (j ≡ other) × (spent_view ≡ u)). absurd (subst (λ (z : View). Has k z.kept) (sym h.1) has))
      (λ (h : (j ≢ other) × (get_elem? (set views id both) j ≡ some u)). ⊎_elim
      (λ (g : (j ≡ id) × (both ≡ u)). ⊎_elim
      (λ (mine : Has k v.kept). inr (id, v, at, mine, inr g.0, (λ _. inl refl), h.0))
      (λ (theirs : (k ≡ suc other) ⊎ Has k w.kept). ⊎_elim
      (λ (n : k ≡ suc other). inl (n, g.0))
      (λ (m : Has k w.kept). inr (other, w, at_other, m, inr g.0, (λ _. inr refl), h.0))
      theirs)
      (whence k (subst (λ (z : View). Has k z.kept) (sym g.1) has)))
      (λ (g : (j ≢ id) × (get_elem? views j ≡ some u)). inr (j, u, g.1, has, inl refl, (λ e. absurd (g.0 e)), h.0))
      (at_set views id j both u h.1))
      (at_set (set views id both) other j spent_view u at_j)

  there : get_elem? (set views id both) other ≡ some w
  there = set_else views id other both apart ∙ at_other

  stays_spent : (k : ℕ) → IsSpent views k → IsSpent (set (set views id both) other spent_view) k
  stays_spent k s =
      spent_stays (set views id both) other w spent_view k there (λ e. absurd (cc))
      (spent_stays views id v both k at (λ e. absurd (cc)) s)

  now_spent : IsSpent (set (set views id both) other spent_view) (suc other)
  now_spent =
      (other, spent_view, refl, set_here (set views id both) other spent_view (at_below (set views id both) other w there), refl)

  -- The rule of kept numbers holds after a participant was joined with another.
  pub taken_join : TakenIn (set (set views id both) other spent_view)
  taken_join = record {
    spent = λ j u k at_j has. ⊎_elim
        (λ (h : (k ≡ suc other) × (j ≡ id)). subst (IsSpent (set (set views id both) other spent_view)) (sym h.0) now_spent)
        (λ h. stays_spent k (t.spent h.0 h.1 k h.2 h.3))
        (origin j u k at_j has);
    apart = λ j u at_j. ⊎_elim
        (λ (h : (j ≡ other) × (spent_view ≡ u)). subst (λ (z : View). AllDiffer z.kept) h.1 tt)
        (λ (h : (j ≢ other) × (get_elem? (set views id both) j ≡ some u)). ⊎_elim
        (λ (g : (j ≡ id) × (both ≡ u)). subst (λ (z : View). AllDiffer z.kept) g.1 differ)
        (λ (g : (j ≢ id) × (get_elem? views j ≡ some u)). t.apart j u g.1)
        (at_set views id j both u h.1))
        (at_set (set views id both) other j spent_view u at_j);
    once = λ i j a b k at_i at_j has_i has_j. ⊎_elim
        (λ (h : (k ≡ suc other) × (i ≡ id)). ⊎_elim
        (λ (g : (k ≡ suc other) × (j ≡ id)). h.1 ∙ sym g.1)
        (λ g. absurd (not_kept views other w g.0 g.1 t at_other (λ e. absurd (cc)) g.2 (subst (λ (n : ℕ). Has n g.1.kept) h.0 g.3)))
        (origin j b k at_j has_j))
        (λ h. ⊎_elim
        (λ (g : (k ≡ suc other) × (j ≡ id)). absurd (not_kept views other w h.0 h.1 t at_other (λ e. absurd (cc)) h.2 (subst (λ (n : ℕ). Has n h.1.kept) g.0 h.3)))
        (λ g. same_home i j h.0 g.0 (t.once h.0 g.0 h.1 g.1 k h.2 g.2 h.3 g.3) h.4 g.4 h.5 g.5 h.6 g.6)
        (origin j b k at_j has_j))
        (origin i a k at_i has_i);
  }
    where
      same_home : (i j h g : ℕ) → h ≡ g → (h ≡ i) ⊎ (i ≡ id) → (g ≡ j) ⊎ (j ≡ id) → (i ≡ id → (h ≡ id) ⊎ (h ≡ other))
          → (j ≡ id → (g ≡ id) ⊎ (g ≡ other)) → i ≢ other → j ≢ other → i ≡ j
      same_home i j h g e (inl a) (inl b) from_i from_j not_i not_j = sym a ∙ (e ∙ b)
      same_home i j h g e (inl a) (inr b) from_i from_j not_i not_j =
          ⊎_elim (λ (z : g ≡ id). sym a ∙ (e ∙ (z ∙ sym b))) (λ (z : g ≡ other). absurd (not_i (sym a ∙ (e ∙ z))))
          (from_j b)
      same_home i j h g e (inr a) (inl b) from_i from_j not_i not_j =
          ⊎_elim (λ (z : h ≡ id). a ∙ (sym z ∙ (e ∙ b))) (λ (z : h ≡ other). absurd (not_j (sym b ∙ (sym e ∙ z))))
          (from_i a)
      same_home i j h g e (inr a) (inr b) from_i from_j not_i not_j = a ∙ sym b
