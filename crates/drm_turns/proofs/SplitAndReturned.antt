-- What is split off and returned.
use Rattle.std.proofs.Common.{◌≡◌, ◌≢◌, ◌⊎◌, ⊎_elim, inl, inr, ℕ, zero, suc, ◌+◌, ◌-◌, ◌<◌, ◌≤◌, ◌==◌, Bool, true, false, cond, List, [], ◌∷◌, ◌++◌, length, set, sym, refl, ap, ◌∙◌, subst, arith, length-set, length-append, eq-eqb, ne_eqb}
use Rattle.std.specs.Prelude.{◌&&◌}
use mathlib.Core.Option.{some, some-injective, some-ne-none}
use mathlib.Core.Logic.{dite}
use native.Mathlib.Decide.{ℕ_discrete}
use lib.ListN.{get_elem?}
use Rattle.atomic_table.proofs.Lists.{at_set, at_longer, set_here, set_else}
use Rattle.drm_turns.specs.declared.history.View.{View}
use Rattle.drm_turns.specs.declared.history.Stage.TheVariants.{Idle, Spent}
use Rattle.drm_turns.specs.History.{Has}
use Rattle.drm_turns.specs.Rule.{IsBack, IsSpent, Lent, has_ticket}
use Rattle.drm_turns.specs.Views.{child, lending, outstanding_after, spent_view}
use Rattle.drm_turns.proofs.Rule.{at_below, spent_stays, ticketless}
use Rattle.drm_turns.proofs.MergedNumbers.{at_end}

-- ---- lists

no_member : (xs : List ℕ) → ((k : ℕ) → Has k xs → ⊥) → xs ≡ []
no_member [] none = refl
no_member (x ∷ xs) none = absurd (none x (inl refl))

none_in : (k : ℕ) (xs : List ℕ) → xs ≡ [] → Has k xs → ⊥
none_in k xs e h = subst (Has k) e h

empty_of : (xs : List ℕ) → length xs ≤ 0 → xs ≡ []
empty_of [] le = refl
empty_of (x ∷ xs) le = absurd (omega arith)

-- A list has an item at each index below its length.
pub at_some : {A : Type 0} (l : List A) (i : ℕ) → i < length l → (a : A) × (get_elem? l i ≡ some a)
at_some [] i h = absurd (omega arith)
at_some (x ∷ xs) zero h = (x, refl)
at_some (x ∷ xs) (suc i) h = at_some xs i (omega arith)

-- the first that is k is taken out
abbrev without : ℕ → List ℕ → List ℕ
without k [] = []
without k (x ∷ xs) = cond (k == x) xs (x ∷ without k xs)

without_here : (k x : ℕ) (xs : List ℕ) → k ≡ x → without k (x ∷ xs) ≡ xs
without_here k x xs e = ap (λ (b : Bool). cond b xs (x ∷ without k xs)) (eq-eqb k x e)

without_else : (k x : ℕ) (xs : List ℕ) → k ≢ x → without k (x ∷ xs) ≡ x ∷ without k xs
without_else k x xs ne = ap (λ (b : Bool). cond b xs (x ∷ without k xs)) (ne_eqb k x ne)

was_in : (k j : ℕ) (xs : List ℕ) → Has j (without k xs) → Has j xs
was_in k j [] h = h
was_in k j (x ∷ xs) h = dite (ℕ_discrete k x)
    (λ e. inr (subst (Has j) (without_here k x xs e) h))
    (λ ne. ⊎_elim (λ (a : j ≡ x). inl a) (λ (b : Has j (without k xs)). inr (was_in k j xs b)) (subst (Has j) (without_else k x xs ne) h))

still_in : (k j : ℕ) (xs : List ℕ) → j ≢ k → Has j xs → Has j (without k xs)
still_in k j [] apart h = h
still_in k j (x ∷ xs) apart h = dite (ℕ_discrete k x)
    (λ e. subst (Has j) (sym (without_here k x xs e)) (⊎_elim (λ (a : j ≡ x). absurd (apart (a ∙ sym e))) (λ (b : Has j xs). b) h))
    (λ ne. subst (Has j) (sym (without_else k x xs ne)) (⊎_elim (λ (a : j ≡ x). inl a) (λ (b : Has j xs). inr (still_in k j xs apart b)) h))

one_fewer : (k : ℕ) (xs : List ℕ) → Has k xs → suc (length (without k xs)) ≡ length xs
one_fewer k [] h = absurd h
one_fewer k (x ∷ xs) h = dite (ℕ_discrete k x)
    (λ e. ap (λ (l : List ℕ). suc (length l)) (without_here k x xs e))
    (λ ne. ap (λ (l : List ℕ). suc (length l)) (without_else k x xs ne) ∙ ap suc (⊎_elim (λ (a : k ≡ x). absurd (ne a)) (λ (b : Has k xs). one_fewer k xs b) h))

-- ---- one list of many changes

abbrev put : ℕ → List ℕ → (ℕ → List ℕ) → ℕ → List ℕ
put id xs away p = cond (p == id) xs (away p)

put_here : (id : ℕ) (xs : List ℕ) (away : ℕ → List ℕ) (p : ℕ) → p ≡ id → put id xs away p ≡ xs
put_here id xs away p e = ap (λ (b : Bool). cond b xs (away p)) (eq-eqb p id e)

put_else : (id : ℕ) (xs : List ℕ) (away : ℕ → List ℕ) (p : ℕ) → p ≢ id → put id xs away p ≡ away p
put_else id xs away p ne = ap (λ (b : Bool). cond b xs (away p)) (ne_eqb p id ne)

-- ---- the count of those that are out

-- When a participant is returned, one fewer is out, or as many are out as before.
pub out_cases : (number outstanding parent theirs : ℕ)
    → ((parent ≡ number) × (theirs ≡ 0) × (outstanding_after number outstanding parent theirs ≡ outstanding - 1)) ⊎ (outstanding_after number outstanding parent theirs ≡ outstanding)
out_cases number outstanding parent theirs = dite (ℕ_discrete parent number)
    (λ p. dite (ℕ_discrete theirs 0)
    (λ t. inl (p, t, (λ i. cond (eq-eqb parent number p i && eq-eqb theirs 0 t i) (outstanding - 1) outstanding)))
    (λ t. inr (λ i. cond (eq-eqb parent number p i && ne_eqb theirs 0 t i) (outstanding - 1) outstanding)))
    (λ p. inr (ap (λ (b : Bool). cond (b && (theirs == 0)) (outstanding - 1) outstanding) (ne_eqb parent number p)))

-- The count of those that are out is right for a single participant with none out.
pub lent_one : (v : View) → v.parent ≡ 0 → v.outstanding ≡ 0 → Lent (v ∷ [])
lent_one v parent none = record {
  away = λ p. [];
  within = λ p c has. absurd has;
  back = λ c u at. absurd (some-ne-none u (sym at));
  parent = λ p c u has at live. absurd has;
  first = λ u at live. subst (λ (z : View). z.parent ≡ 0) (some-injective v u at) parent;
  count = λ id u at live. omega arith;
}

is_spent : (views : List View) (j : ℕ) (u : View) → get_elem? views j ≡ some u → IsSpent views (suc j) → u.stage ≡ Spent
is_spent views j u at s =
    let same : j ≡ s.0 = (let n = s.2 in omega arith) in
    ap (λ (z : View). z.stage) (some-injective u s.1 (sym at ∙ (ap (get_elem? views) same ∙ s.3))) ∙ s.4

not_spent : (views : List View) (id j : ℕ) (v : View) → get_elem? views id ≡ some v → (v.stage ≡ Spent → ⊥)
    → IsSpent views (suc j) → j ≢ id
not_spent views id j v at unspent s e = unspent (is_spent views id v at (subst (λ (k : ℕ). IsSpent views (suc k)) e s))

-- a participant or a note is split off
module _ (views : List View) (id : ℕ) (v : View) (t : Lent views) (at : get_elem? views id ≡ some v) (idle : v.stage ≡ Idle) (number : v.number ≡ suc id) where
  abbrev next : ℕ
  next = length views

  abbrev split : List View
  split = set views id (lending v) ++ child v ∷ []

  abbrev away_then : ℕ → List ℕ
  away_then = put id (next ∷ t.away id) t.away

  below : id < next
  below = at_below views id v at

  longer : length split ≡ next + 1
  longer = let a = length-append (set views id (lending v)) (child v ∷ []) in let b = length-set views id (lending v) in omega arith

  live_participant : v.stage ≡ Spent → ⊥
  live_participant e = absurd (cc)

  has_then : (p k : ℕ) → Has k (away_then p) → ((p ≡ id) × (k ≡ next)) ⊎ Has k (t.away p)
  has_then p k h = dite (ℕ_discrete p id)
      (λ e. ⊎_elim (λ (x : k ≡ next). inl (e, x)) (λ (x : Has k (t.away id)). inr (subst (λ (q : ℕ). Has k (t.away q)) (sym e) x))
      (subst (Has k) (put_here id (next ∷ t.away id) t.away p e) h))
      (λ ne. inr (subst (Has k) (put_else id (next ∷ t.away id) t.away p ne) h))

  has_more : (p k : ℕ) → Has k (t.away p) → Has k (away_then p)
  has_more p k h = dite (ℕ_discrete p id)
      (λ e. subst (Has k) (sym (put_here id (next ∷ t.away id) t.away p e)) (inr (subst (λ (q : ℕ). Has k (t.away q)) e h)))
      (λ ne. subst (Has k) (sym (put_else id (next ∷ t.away id) t.away p ne)) h)

  abbrev Whence : ℕ → View → Type 0
  Whence j u = ((j ≡ id) × (lending v ≡ u)) ⊎ (((j ≢ id) × (get_elem? views j ≡ some u)) ⊎ ((j ≡ next) × (child v ≡ u)))

  whence : (j : ℕ) (u : View) → get_elem? split j ≡ some u → Whence j u
  whence j u at_j = ⊎_elim
      (λ (h : get_elem? (set views id (lending v)) j ≡ some u). ⊎_elim (λ (a : (j ≡ id) × (lending v ≡ u)). inl a) (λ (b : (j ≢ id) × (get_elem? views j ≡ some u)). inr (inl b)) (at_set views id j (lending v) u h))
      (λ (h : (j ≡ length (set views id (lending v))) × (child v ≡ u)). inr (inr (h.0 ∙ length-set views id (lending v), h.1)))
      (at_end (set views id (lending v)) (child v) u j at_j)

  spent_still : (k : ℕ) → IsSpent views k → IsSpent split k
  spent_still k s =
      let w = spent_stays views id v (lending v) k at live_participant s in
      (w.0, w.1, w.2, at_longer (set views id (lending v)) (child v ∷ []) w.0 w.1 w.3, w.4)

  back_then : (c : ℕ) (z : View) → get_elem? views (suc c) ≡ some z
      → IsBack split away_then (suc c) ⊎ ((p : ℕ) × Has (suc c) (away_then p))
  back_then c z at_c = ⊎_elim
      (λ (b : IsBack views t.away (suc c)). inl (spent_still (suc (suc c)) b.0, put_else id (next ∷ t.away id) t.away (suc c) (not_spent views id (suc c) v at live_participant b.0) ∙ b.1))
      (λ (b : (p : ℕ) × Has (suc c) (t.away p)). inr (b.0, has_more b.0 (suc c) b.1))
      (t.back c z at_c)

  parent_then : (p c : ℕ) (u : View) → Has c (away_then p) → get_elem? split c ≡ some u → (u.stage ≡ Spent → ⊥)
      → u.parent ≡ suc p
  parent_then p c u has at_c live = ⊎_elim
      (λ (h : (p ≡ id) × (c ≡ next)). ⊎_elim
      (λ (a : (c ≡ id) × (lending v ≡ u)). let b = below in let e = h.1 in let f = a.0 in absurd (omega arith))
      (λ (r : ((c ≢ id) × (get_elem? views c ≡ some u)) ⊎ ((c ≡ next) × (child v ≡ u))). ⊎_elim
      (λ (a : (c ≢ id) × (get_elem? views c ≡ some u)). let b = at_below views c u a.1 in let e = h.1 in absurd (omega arith))
      (λ (a : (c ≡ next) × (child v ≡ u)). ap (λ (z : View). z.parent) (sym a.1) ∙ (number ∙ ap suc (sym h.0)))
      r)
      (whence c u at_c))
      (λ (h : Has c (t.away p)). ⊎_elim
      (λ (a : (c ≡ id) × (lending v ≡ u)). ap (λ (z : View). z.parent) (sym a.1) ∙ t.parent p id v (subst (λ (q : ℕ). Has q (t.away p)) a.0 h) at live_participant)
      (λ (r : ((c ≢ id) × (get_elem? views c ≡ some u)) ⊎ ((c ≡ next) × (child v ≡ u))). ⊎_elim
      (λ (a : (c ≢ id) × (get_elem? views c ≡ some u)). t.parent p c u h a.1 live)
      (λ (a : (c ≡ next) × (child v ≡ u)). let b = (t.within p c h).1 in let e = a.0 in absurd (omega arith))
      r)
      (whence c u at_c))
      (has_then p c has)

  first_then : (u : View) → get_elem? split 0 ≡ some u → (u.stage ≡ Spent → ⊥) → u.parent ≡ 0
  first_then u at_0 live = ⊎_elim
      (λ (a : (0 ≡ id) × (lending v ≡ u)). ap (λ (z : View). z.parent) (sym a.1) ∙ t.first v (ap (get_elem? views) a.0 ∙ at) live_participant)
      (λ (r : ((0 ≢ id) × (get_elem? views 0 ≡ some u)) ⊎ ((0 ≡ next) × (child v ≡ u))). ⊎_elim
      (λ (a : (0 ≢ id) × (get_elem? views 0 ≡ some u)). t.first u a.1 live)
      (λ (a : (0 ≡ next) × (child v ≡ u)). let b = below in let e = a.0 in absurd (omega arith))
      r)
      (whence 0 u at_0)

  none_of_next : t.away next ≡ []
  none_of_next =
      no_member (t.away next) (λ k h. let w = t.within next k h in let a = w.0 in let b = w.1 in absurd (omega arith))

  count_then : (j : ℕ) (u : View) → get_elem? split j ≡ some u → (u.stage ≡ Spent → ⊥)
      → length (away_then j) ≤ u.outstanding
  count_then j u at_j live = ⊎_elim
      (λ (a : (j ≡ id) × (lending v ≡ u)).
      let e = ap (λ (l : List ℕ). length l) (put_here id (next ∷ t.away id) t.away j a.0) in
      let m = t.count id v at live_participant in
      let o = ap (λ (z : View). z.outstanding) a.1 in omega arith)
      (λ (r : ((j ≢ id) × (get_elem? views j ≡ some u)) ⊎ ((j ≡ next) × (child v ≡ u))). ⊎_elim
      (λ (a : (j ≢ id) × (get_elem? views j ≡ some u)).
      let e = ap (λ (l : List ℕ). length l) (put_else id (next ∷ t.away id) t.away j a.0) in
      let m = t.count j u a.1 live in omega arith)
      (λ (a : (j ≡ next) × (child v ≡ u)).
      let b = below in
      let n = a.0 in
      let ne : j ≢ id = λ f. absurd (omega arith) in
      let e = ap (λ (l : List ℕ). length l) (put_else id (next ∷ t.away id) t.away j ne ∙ (ap t.away a.0 ∙ none_of_next)) in omega arith)
      r)
      (whence j u at_j)

  -- The count of those that are out stays right when one is split off.
  pub lent_split : Lent split
  lent_split = record {
    away = away_then;
    within = λ p c has. let l = longer in ⊎_elim
        (λ (h : (p ≡ id) × (c ≡ next)). (let b = below in let e = h.0 in let f = h.1 in omega arith, (let f = h.1 in omega arith)))
        (λ (h : Has c (t.away p)). let w = t.within p c h in (w.0, (let b = w.1 in omega arith)))
        (has_then p c has);
    back = λ c u at_c. ⊎_elim
        (λ (a : (suc c ≡ id) × (lending v ≡ u)). back_then c v (ap (get_elem? views) a.0 ∙ at))
        (λ (r : ((suc c ≢ id) × (get_elem? views (suc c) ≡ some u)) ⊎ ((suc c ≡ next) × (child v ≡ u))). ⊎_elim
        (λ (a : (suc c ≢ id) × (get_elem? views (suc c) ≡ some u)). back_then c u a.1)
        (λ (a : (suc c ≡ next) × (child v ≡ u)). inr (id, subst (Has (suc c)) (sym (put_here id (next ∷ t.away id) t.away id refl)) (inl a.0)))
        r)
        (whence (suc c) u at_c);
    parent = parent_then;
    first = first_then;
    count = count_then;
  }

-- a participant or a note is returned, and counts
module _ (views : List View) (id : ℕ) (v : View) (other : ℕ) (w both : View) (t : Lent views) (at : get_elem? views id ≡ some v) (at_other : get_elem? views other ≡ some w) (apart : ¬ (other ≡ id))
    (idle : v.stage ≡ Idle) (idle_other : w.stage ≡ Idle) (number : v.number ≡ suc id) (child_is : w.parent ≡ v.number) (whole : w.outstanding ≡ 0) (parent : both.parent ≡ v.parent) (fewer : both.outstanding ≡ v.outstanding - 1) where
  abbrev merged : List View
  merged = set (set views id both) other spent_view

  abbrev away_less : ℕ → List ℕ
  away_less = put id (without other (t.away id)) t.away

  live_v : v.stage ≡ Spent → ⊥
  live_v e = absurd (cc)

  live_w : w.stage ≡ Spent → ⊥
  live_w e = absurd (cc)

  there : get_elem? (set views id both) other ≡ some w
  there = set_else views id other both apart ∙ at_other

  same_length : length merged ≡ length views
  same_length = length-set (set views id both) other spent_view ∙ length-set views id both

  now_spent : IsSpent merged (suc other)
  now_spent =
      (other, spent_view, refl, set_here (set views id both) other spent_view (at_below (set views id both) other w there), refl)

  spent_kept : (k : ℕ) → IsSpent views k → IsSpent merged k
  spent_kept k s =
      spent_stays (set views id both) other w spent_view k there live_w (spent_stays views id v both k at live_v s)

  had : (p k : ℕ) → Has k (away_less p) → Has k (t.away p)
  had p k h = dite (ℕ_discrete p id)
      (λ e. subst (λ (q : ℕ). Has k (t.away q)) (sym e) (was_in other k (t.away id) (subst (Has k) (put_here id (without other (t.away id)) t.away p e) h)))
      (λ ne. subst (Has k) (put_else id (without other (t.away id)) t.away p ne) h)

  has_still : (p k : ℕ) → k ≢ other → Has k (t.away p) → Has k (away_less p)
  has_still p k ne_k h = dite (ℕ_discrete p id)
      (λ e. subst (Has k) (sym (put_here id (without other (t.away id)) t.away p e)) (still_in other k (t.away id) ne_k (subst (λ (q : ℕ). Has k (t.away q)) e h)))
      (λ ne. subst (Has k) (sym (put_else id (without other (t.away id)) t.away p ne)) h)

  none_still : (p : ℕ) → t.away p ≡ [] → away_less p ≡ []
  none_still p none = no_member (away_less p) (λ k h. none_in k (t.away p) none (had p k h))

  -- it was away with this participant
  pair : (o : ℕ) → o ≡ other → Has other (t.away id)
  pair zero e = let z = t.first w (ap (get_elem? views) e ∙ at_other) live_w in let c = child_is in let n = number in absurd (omega arith)
  pair (suc o) e = ⊎_elim
      (λ (b : IsBack views t.away (suc o)). absurd (not_spent views other (suc o) w at_other live_w b.0 e))
      (λ (b : (p : ℕ) × Has (suc o) (t.away p)).
      let has : Has other (t.away b.0) = subst (λ (q : ℕ). Has q (t.away b.0)) e b.1 in
      let p_is = t.parent b.0 other w has at_other live_w in
      let c = child_is in
      let n = number in
      let same : b.0 ≡ id = omega arith in subst (λ (q : ℕ). Has other (t.away q)) same has)
      (t.back o w (ap (get_elem? views) e ∙ at_other))

  -- what was a view before
  abbrev Before : ℕ → View → Type 0
  Before j u =
      ((j ≡ other) × (spent_view ≡ u)) ⊎
      (((j ≡ id) × (both ≡ u)) ⊎ ((j ≢ id) × (j ≢ other) × (get_elem? views j ≡ some u)))

  before : (j : ℕ) (u : View) → get_elem? merged j ≡ some u → Before j u
  before j u at_j = ⊎_elim
      (λ (h : (j ≡ other) × (spent_view ≡ u)). inl h)
      (λ (h : (j ≢ other) × (get_elem? (set views id both) j ≡ some u)). ⊎_elim
      (λ (g : (j ≡ id) × (both ≡ u)). inr (inl g))
      (λ (g : (j ≢ id) × (get_elem? views j ≡ some u)). inr (inr (g.0, h.0, g.1)))
      (at_set views id j both u h.1))
      (at_set (set views id both) other j spent_view u at_j)

  back_less : (c : ℕ) (z : View) → suc c ≢ other → get_elem? views (suc c) ≡ some z
      → IsBack merged away_less (suc c) ⊎ ((p : ℕ) × Has (suc c) (away_less p))
  back_less c z ne at_c = ⊎_elim
      (λ (b : IsBack views t.away (suc c)). inl (spent_kept (suc (suc c)) b.0, none_still (suc c) b.1))
      (λ (b : (p : ℕ) × Has (suc c) (t.away p)). inr (b.0, has_still b.0 (suc c) ne b.1))
      (t.back c z at_c)

  spent_is : (u : View) → spent_view ≡ u → u.stage ≡ Spent
  spent_is u e = ap (λ (z : View). z.stage) (sym e)

  all_back_then : away_less other ≡ []
  all_back_then =
      none_still other
      (empty_of (t.away other) (let m = t.count other w at_other live_w in let o = whole in omega arith))

  -- The count of those that are out stays right when one is returned.
  pub lent_join : Lent merged
  lent_join = record {
    away = away_less;
    within = λ p c has. let h = t.within p c (had p c has) in (h.0, (let l = same_length in let b = h.1 in omega arith));
    back = λ c u at_c. ⊎_elim
        (λ (a : (suc c ≡ other) × (spent_view ≡ u)). inl (subst (λ (n : ℕ). IsSpent merged (suc n)) (sym a.0) now_spent, ap away_less a.0 ∙ all_back_then))
        (λ (r : ((suc c ≡ id) × (both ≡ u)) ⊎ ((suc c ≢ id) × (suc c ≢ other) × (get_elem? views (suc c) ≡ some u))). ⊎_elim
        (λ (a : (suc c ≡ id) × (both ≡ u)). back_less c v (λ e. apart (sym e ∙ a.0)) (ap (get_elem? views) a.0 ∙ at))
        (λ (a : (suc c ≢ id) × (suc c ≢ other) × (get_elem? views (suc c) ≡ some u)). back_less c u a.1 a.2)
        r)
        (before (suc c) u at_c);
    parent = λ p c u has at_c live. ⊎_elim
        (λ (a : (c ≡ other) × (spent_view ≡ u)). absurd (live (spent_is u a.1)))
        (λ (r : ((c ≡ id) × (both ≡ u)) ⊎ ((c ≢ id) × (c ≢ other) × (get_elem? views c ≡ some u))). ⊎_elim
        (λ (a : (c ≡ id) × (both ≡ u)). ap (λ (z : View). z.parent) (sym a.1) ∙ (parent ∙ t.parent p id v (subst (λ (q : ℕ). Has q (t.away p)) a.0 (had p c has)) at live_v))
        (λ (a : (c ≢ id) × (c ≢ other) × (get_elem? views c ≡ some u)). t.parent p c u (had p c has) a.2 live)
        r)
        (before c u at_c);
    first = λ u at_0 live. ⊎_elim
        (λ (a : (0 ≡ other) × (spent_view ≡ u)). absurd (live (spent_is u a.1)))
        (λ (r : ((0 ≡ id) × (both ≡ u)) ⊎ ((0 ≢ id) × (0 ≢ other) × (get_elem? views 0 ≡ some u))). ⊎_elim
        (λ (a : (0 ≡ id) × (both ≡ u)). ap (λ (z : View). z.parent) (sym a.1) ∙ (parent ∙ t.first v (ap (get_elem? views) a.0 ∙ at) live_v))
        (λ (a : (0 ≢ id) × (0 ≢ other) × (get_elem? views 0 ≡ some u)). t.first u a.2 live)
        r)
        (before 0 u at_0);
    count = λ j u at_j live. ⊎_elim
        (λ (a : (j ≡ other) × (spent_view ≡ u)). absurd (live (spent_is u a.1)))
        (λ (r : ((j ≡ id) × (both ≡ u)) ⊎ ((j ≢ id) × (j ≢ other) × (get_elem? views j ≡ some u))). ⊎_elim
        (λ (a : (j ≡ id) × (both ≡ u)).
        let e = ap (λ (l : List ℕ). length l) (put_here id (without other (t.away id)) t.away j a.0) in
        let f = one_fewer other (t.away id) (pair other refl) in
        let m = t.count id v at live_v in
        let o = ap (λ (z : View). z.outstanding) a.1 in
        let n = fewer in omega arith)
        (λ (a : (j ≢ id) × (j ≢ other) × (get_elem? views j ≡ some u)).
        let e = ap (λ (l : List ℕ). length l) (put_else id (without other (t.away id)) t.away j a.0) in
        let m = t.count j u a.2 live in omega arith)
        r)
        (before j u at_j);
  }

-- ---- where none is out of the first participant, each other is spent

module _ (views : List View) (t : Lent views) (v : View) (at : get_elem? views 0 ≡ some v) (live : v.stage ≡ Spent → ⊥) (none_outstanding : v.outstanding ≡ 0) where
  none_away : t.away 0 ≡ []
  none_away = empty_of (t.away 0) (let m = t.count 0 v at live in let o = none_outstanding in omega arith)

  -- nothing is away with one of those before, where these are back
  none_with : (c p : ℕ) → p < suc c → suc c < length views
      → ((q : ℕ) (z : View) → q < c → get_elem? views (suc q) ≡ some z → IsBack views t.away (suc q)) → t.away p ≡ []
  none_with c zero below within earlier = none_away
  none_with c (suc q) below within earlier = let z = at_some views (suc q) (omega arith) in (earlier q z.0 (omega arith) z.1).1

  all_back : (fuel c : ℕ) (u : View) → c < fuel → get_elem? views (suc c) ≡ some u → IsBack views t.away (suc c)
  all_back zero c u lt at_c = absurd (omega arith)
  all_back (suc fuel) c u lt at_c = ⊎_elim
      (λ (b : IsBack views t.away (suc c)). b)
      (λ (b : (p : ℕ) × Has (suc c) (t.away p)).
      let w = t.within b.0 (suc c) b.1 in
      absurd (none_in (suc c) (t.away b.0) (none_with c b.0 w.0 w.1 (λ q z lq at_q. all_back fuel q z (omega arith) at_q)) b.1))
      (t.back c u at_c)

  -- If the first participant has all back, each other is spent.
  pub others_spent : (c : ℕ) (u : View) → get_elem? views (suc c) ≡ some u → u.stage ≡ Spent
  others_spent c u at_c = is_spent views (suc c) u at_c (all_back (suc c) c u (omega arith) at_c).0

  -- If the first participant has all back and is idle, no participant has a ticket.
  pub no_ticket_out : (j : ℕ) (u : View) → v.stage ≡ Idle → get_elem? views j ≡ some u → has_ticket u.stage ≡ true → ⊥
  no_ticket_out zero u idle at_j has = let e : v.stage ≡ u.stage = ap (λ (z : View). z.stage) (some-injective v u (sym at ∙ at_j)) in ticketless v.stage idle (ap has_ticket e ∙ has)
  no_ticket_out (suc c) u idle at_j has =
      let spent = others_spent c u at_j in
      let none : false ≡ true = sym (ap has_ticket spent) ∙ has in absurd (cc)
