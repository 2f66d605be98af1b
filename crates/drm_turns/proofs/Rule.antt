-- What follows from the rule, and how it is kept where one view changes.
use Rattle.std.proofs.Common.{◌≡◌, ◌≢◌, ◌⊎◌, ⊎_elim, inl, inr, ℕ, zero, suc, ◌<◌, ◌≤◌, ◌+◌, ◌^◌, Bool, true, false, List, [], ◌∷◌, length, set, sym, refl, ap, ◌∙◌, subst, arith, length-set, Some}
use Rattle.std.specs.Prelude.{slice_set, slice_index}
use mathlib.Core.Option.{Option as maybe, some, some-injective, some-ne-none}
use mathlib.Core.Logic.{dite}
use native.Mathlib.Decide.{ℕ_discrete}
use lib.ListN.{get_elem?}
use Rattle.atomic_table.specs.Table.{Act, homes_after, stepped}
use Rattle.atomic_table.proofs.Lists.{at_set, set_here, set_else}
use Rattle.drm_model.specs.Run.{DeviceValue}
use Rattle.drm_turns.specs.declared.history.Entry.{Entry}
use Rattle.drm_turns.specs.declared.history.View.{View}
use Rattle.drm_turns.specs.declared.history.Stage.{Stage}
use Rattle.drm_turns.specs.declared.history.Stage.TheVariants.{Idle, Waiting, Serving, Spent}
use Rattle.drm_turns.specs.History.{AllDiffer, Has, IsLegal, device_at}
use Rattle.drm_turns.proofs.Totals.{total_kept}
use Rattle.drm_turns.specs.Rule.{Slot, Table, World, Fits, Knows, has_ticket, Placed, AllKnow, AllHeld, IsHeld, TicketsDiffer, Unborn, IsBack, IsSpent, Lent, TakenIn, Orderly, total, words_of}

-- An index at which a list has an item is below its length.
pub at_below : {A : Type 0} (l : List A) (i : ℕ) (a : A) → get_elem? l i ≡ some a → i < length l
at_below [] i a e = absurd (some-ne-none a (sym e))
at_below (x ∷ xs) zero a e = omega arith
at_below (x ∷ xs) (suc i) a e = let h = at_below xs i a e in omega arith

-- Participants still know what is so when one changes its view, if the new view knows it too.
pub know_set : (y : World) (views : List View) (id : ℕ) (w : View)
    → ((j : ℕ) (u : View) → j ≢ id → get_elem? views j ≡ some u → Knows y j u u.stage) → Knows y id w w.stage
    → AllKnow y (set views id w)
know_set y views id w others mine j u at =
    ⊎_elim
    (λ (t : (j ≡ id) × (w ≡ u)). subst (λ (z : ℕ × View). Knows y z.0 z.1 z.1.stage) (λ i. (sym t.0 i, t.1 i)) mine)
    (λ (t : (j ≢ id) × (get_elem? views j ≡ some u)). others j u t.0 t.1)
    (at_set views id j w u at)

-- A participant that is spent stays so when another changes its view.
pub spent_stays : (views : List View) (id : ℕ) (v w : View) (k : ℕ) → get_elem? views id ≡ some v
    → (v.stage ≡ Spent → ⊥) → IsSpent views k → IsSpent (set views id w) k
spent_stays views id v w k at unspent s = (
  s.0,
  s.1,
  s.2,
  set_else views id s.0 w
      (λ same. unspent (ap (λ (u : View). u.stage) (some-injective v s.1 (sym at ∙ (ap (get_elem? views) (sym same) ∙ s.3))) ∙ s.4))
      ∙ s.3,
  s.4,
)

-- no other participant has the ticket of w
abbrev pub IsFresh : List View → ℕ → View → Type 0
IsFresh views id w =
    (j : ℕ) (u : View) → j ≢ id → get_elem? views j ≡ some u → has_ticket u.stage ≡ true → has_ticket w.stage ≡ true →
    u.ticket ≡ w.ticket → ⊥

-- Tickets still differ when one participant changes its view, if no other has its new ticket.
pub differ_set : (views : List View) (id : ℕ) (w : View) → TicketsDiffer views → IsFresh views id w
    → TicketsDiffer (set views id w)
differ_set views id w old fresh i j a b at_i at_j has_i has_j same =
    ⊎_elim
    (λ (t : (i ≡ id) × (w ≡ a)). ⊎_elim
    (λ (r : (j ≡ id) × (w ≡ b)). t.0 ∙ sym r.0)
    (λ (r : (j ≢ id) × (get_elem? views j ≡ some b)). absurd (fresh j b r.0 r.1 has_j (subst (λ (u : View). has_ticket u.stage ≡ true) (sym t.1) has_i) (sym same ∙ ap (λ (u : View). u.ticket) (sym t.1))))
    (at_set views id j w b at_j))
    (λ (t : (i ≢ id) × (get_elem? views i ≡ some a)). ⊎_elim
    (λ (r : (j ≡ id) × (w ≡ b)). absurd (fresh i a t.0 t.1 has_i (subst (λ (u : View). has_ticket u.stage ≡ true) (sym r.1) has_j) (same ∙ ap (λ (u : View). u.ticket) (sym r.1))))
    (λ (r : (j ≢ id) × (get_elem? views j ≡ some b)). old i j a b t.1 r.1 has_i has_j same)
    (at_set views id j w b at_j))
    (at_set views id i w a at_i)

-- No other participant has the ticket of one that keeps it.
pub same_ticket : (views : List View) (id : ℕ) (v w : View) → TicketsDiffer views → get_elem? views id ≡ some v
    → has_ticket v.stage ≡ true → w.ticket ≡ v.ticket → IsFresh views id w
same_ticket views id v w differ at has is j u ne at_j has_j has_w same =
    ne (differ j id u v at_j at has_j has (same ∙ is))

-- A participant without a ticket shares none.
pub no_ticket : (views : List View) (id : ℕ) (w : View) → has_ticket w.stage ≡ false → IsFresh views id w
no_ticket views id w none_now j u ne at_j has_j has_w same = absurd (cc)

-- The device is still in its place when one participant changes its view, and is still served if it was.
pub placed_set : (b : Bool) (x : World) (homes : List (maybe Slot)) (views : List View) (id : ℕ) (v w : View)
    → get_elem? views id ≡ some v → (v.stage ≡ Serving → w.stage ≡ Serving)
    → Placed b x homes views → Placed b x homes (set views id w)
placed_set false x homes views id v w at still p = p
placed_set true x homes views id v w at still p = dite (ℕ_discrete p.0 id)
    (λ is. let same : v ≡ p.1 = some-injective v p.1 (sym at ∙ (ap (get_elem? views) (sym is) ∙ p.2)) in
    (id, w, set_here views id w (at_below views id v at), still (ap (λ (u : View). u.stage) same ∙ p.3)))
    (λ ne. (p.0, p.1, set_else views id p.0 w ne ∙ p.2, p.3))

-- The rule of kept numbers holds if one participant changes its view but keeps its numbers.
pub taken_set : (views : List View) (id : ℕ) (v w : View) → TakenIn views → get_elem? views id ≡ some v
    → (v.stage ≡ Spent → ⊥) → w.kept ≡ v.kept → TakenIn (set views id w)
taken_set views id v w t at unspent same =
    let back : (j : ℕ) (u : View) → get_elem? (set views id w) j ≡ some u → (z : View) × (get_elem? views j ≡ some z) × (u.kept ≡ z.kept) = λ j u at_j. ⊎_elim
    (λ (h : (j ≡ id) × (w ≡ u)). (v, ap (get_elem? views) h.0 ∙ at, ap (λ (z : View). z.kept) (sym h.1) ∙ same))
    (λ (h : (j ≢ id) × (get_elem? views j ≡ some u)). (u, h.1, refl))
    (at_set views id j w u at_j) in record {
      spent = λ i u k at_i has. let b = back i u at_i in spent_stays views id v w k at unspent (t.spent i b.0 k b.1 (subst (Has k) b.2 has));
      apart = λ i u at_i. let b = back i u at_i in subst AllDiffer (sym b.2) (t.apart i b.0 b.1);
      once = λ i j a c k at_i at_j has_i has_j. let b = back i a at_i in let d = back j c at_j in t.once i j b.0 d.0 k b.1 d.1 (subst (Has k) b.2 has_i) (subst (Has k) d.2 has_j);
    }

-- An idle participant has no ticket.
pub ticketless : (g : Stage) → g ≡ Idle → has_ticket g ≡ true → ⊥
ticketless g idle has = let none : false ≡ true = sym (ap has_ticket idle) ∙ has in absurd (cc)

-- A ticket that is held stays held if its participant keeps it.
pub held_set : (views : List View) (id : ℕ) (v w : View) (t : ℕ) → get_elem? views id ≡ some v
    → (has_ticket v.stage ≡ true → v.ticket ≡ t → (has_ticket w.stage ≡ true) × (w.ticket ≡ t))
    → IsHeld views t → IsHeld (set views id w) t
held_set views id v w t at keeps h = dite (ℕ_discrete h.0 id)
    (λ is. let same : v ≡ h.1 = some-injective v h.1 (sym at ∙ (ap (get_elem? views) (sym is) ∙ h.2)) in
    let kept = keeps (ap (λ (u : View). has_ticket u.stage) same ∙ h.3) (ap (λ (u : View). u.ticket) same ∙ h.4) in
    (id, w, set_here views id w (at_below views id v at), kept.0, kept.1))
    (λ ne. (h.0, h.1, set_else views id h.0 w ne ∙ h.2, h.3, h.4))

-- Each ticket that was drawn is still held when one participant changes its view and keeps its ticket.
pub all_held_set : (x : World) (views : List View) (id : ℕ) (v w : View) → get_elem? views id ≡ some v
    → (has_ticket v.stage ≡ true → (has_ticket w.stage ≡ true) × (w.ticket ≡ v.ticket))
    → AllHeld x views → AllHeld x (set views id w)
all_held_set x views id v w at keeps held t from to =
    held_set views id v w t at (λ has is. let k = keeps has in (k.0, k.1 ∙ is)) (held t from to)

-- The count of those that are out stays right if one participant changes its view but not its parent, and counts no
-- fewer.
pub lent_set : (views : List View) (id : ℕ) (v w : View) → Lent views → get_elem? views id ≡ some v
    → (v.stage ≡ Spent → ⊥) → ((w.stage ≡ Spent → ⊥) → (w.parent ≡ v.parent) × (v.outstanding ≤ w.outstanding))
    → Lent (set views id w)
lent_set views id v w t at unspent keeps =
    let before : (j : ℕ) (u : View) → get_elem? (set views id w) j ≡ some u → (u.stage ≡ Spent → ⊥) → (z : View) × (get_elem? views j ≡ some z) × (z.stage ≡ Spent → ⊥) × (u.parent ≡ z.parent) × (z.outstanding ≤ u.outstanding) =
    λ j u at_j live. ⊎_elim
    (λ (h : (j ≡ id) × (w ≡ u)).
    let k = keeps (λ e. live (ap (λ (z : View). z.stage) (sym h.1) ∙ e)) in
    (v, ap (get_elem? views) h.0 ∙ at, unspent, ap (λ (z : View). z.parent) (sym h.1) ∙ k.0, subst (λ (z : View). v.outstanding ≤ z.outstanding) h.1 k.1))
    (λ (h : (j ≢ id) × (get_elem? views j ≡ some u)). (u, h.1, live, refl, omega arith))
    (at_set views id j w u at_j) in
    let there : (j : ℕ) (u : View) → get_elem? (set views id w) j ≡ some u → (z : View) × (get_elem? views j ≡ some z) = λ j u at_j. ⊎_elim
    (λ (h : (j ≡ id) × (w ≡ u)). (v, ap (get_elem? views) h.0 ∙ at))
    (λ (h : (j ≢ id) × (get_elem? views j ≡ some u)). (u, h.1))
    (at_set views id j w u at_j) in record {
      away = t.away;
      within = λ p c has. let h = t.within p c has in (h.0, (let l = length-set views id w in let k = h.1 in omega arith));
      back = λ c u at_c. let b = there (suc c) u at_c in ⊎_elim
          (λ (h : IsBack views t.away (suc c)). inl (spent_stays views id v w (suc (suc c)) at unspent h.0, h.1))
          (λ (h : (p : ℕ) × Has (suc c) (t.away p)). inr h)
          (t.back c b.0 b.1);
      parent = λ p c u has at_c live. let b = before c u at_c live in b.3 ∙ t.parent p c b.0 has b.1 b.2;
      first = λ u at_0 live. let b = before 0 u at_0 live in b.3 ∙ t.first b.0 b.1 b.2;
      count = λ j u at_j live. let b = before j u at_j live in let k = t.count j b.0 b.1 b.2 in let m = b.4 in omega arith;
    }

-- The rule still holds when a step changes a word and one view, if each fact of it is kept.
pub unchanged : (s : Table) (r : Orderly s) (y : World) (i n id : ℕ) (c : List (ℕ × Slot)) (w : View) (a : Act Slot)
    → slice_set s.words i n ≡ words_of (length y.log) y.next y.serving
    → y.next < 2 ^ 64 → y.serving ≤ y.next → IsLegal y.origin y.log
    → Placed y.outstanding y (homes_after s.homes c a) (set s.views id w)
    → ((j : ℕ) (u : View) → j ≢ id → get_elem? s.views j ≡ some u → Knows y j u u.stage)
    → Knows y id w w.stage
    → AllHeld y (set s.views id w)
    → IsFresh s.views id w
    → Unborn y.log s.views
    → TakenIn (set s.views id w)
    → Lent (set s.views id w)
    → total (λ u. u.drawn) (set s.views id w) ≡ y.next
    → length y.origin.journal + total (λ u. u.journaled) (set s.views id w) ≡ length y.log
    → Orderly (stepped s i n id c w a)
unchanged s r y i n id c w a words few behind legal placed others mine held fresh unborn taken_in lent drawn journaled = record {
  drawn = drawn;
  journaled = journaled;
  held = held;
  taken_in = taken_in;
  lent = lent;
  world = y;
  words = words;
  few = few;
  behind = behind;
  legal = legal;
  placed = placed;
  know = know_set y s.views id w others mine;
  differ = differ_set s.views id w r.differ fresh;
  unborn = λ k le. unborn k (let l = length-set s.views id w in omega arith);
}

-- The rule still holds if one participant changes its view and leaves all words and slots.
pub stays_put : (s : Table) (r : Orderly s) (i id : ℕ) (c : List (ℕ × Slot)) (v w : View)
    → slice_set s.words i (slice_index s.words i) ≡ s.words
    → get_elem? s.views id ≡ some v
    → (v.stage ≡ Serving → w.stage ≡ Serving)
    → Knows r.world id w w.stage
    → (has_ticket v.stage ≡ true → (has_ticket w.stage ≡ true) × (w.ticket ≡ v.ticket))
    → IsFresh s.views id w
    → (v.stage ≡ Spent → ⊥)
    → w.kept ≡ v.kept
    → w.parent ≡ v.parent
    → w.outstanding ≡ v.outstanding
    → w.drawn ≡ v.drawn
    → w.journaled ≡ v.journaled
    → Orderly (stepped s i (slice_index s.words i) id c w Rattle.atomic_table.specs.Table.keeps)
stays_put s r i id c v w words at still mine keeps fresh unspent same parent outstanding drawn journaled =
    unchanged s r r.world i (slice_index s.words i) id c w Rattle.atomic_table.specs.Table.keeps (words ∙ r.words) r.few
    r.behind r.legal
    (placed_set r.world.outstanding r.world s.homes s.views id v w at still r.placed) (λ j u _ e. r.know j u e) mine
    (all_held_set r.world s.views id v w at keeps r.held) fresh r.unborn
    (taken_set s.views id v w r.taken_in at unspent same)
    (lent_set s.views id v w r.lent at unspent (λ _. (parent, (let o = outstanding in omega arith))))
    (total_kept (λ u. u.drawn) s.views id v w at drawn ∙ r.drawn)
    (ap (λ (n : ℕ). length r.world.origin.journal + n) (total_kept (λ u. u.journaled) s.views id v w at journaled) ∙ r.journaled)

-- The rule still holds if nothing changes.
pub stays_whole : (s : Table) (r : Orderly s) (i id : ℕ) (c : List (ℕ × Slot)) (v : View)
    → slice_set s.words i (slice_index s.words i) ≡ s.words → get_elem? s.views id ≡ some v → (v.stage ≡ Spent → ⊥)
    → Orderly (stepped s i (slice_index s.words i) id c v Rattle.atomic_table.specs.Table.keeps)
stays_whole s r i id c v words at unspent =
    stays_put s r i id c v v words at (λ e. e) (r.know id v at) (λ has. (has, refl))
    (λ j u ne at_j has_j has same. ne (r.differ j id u v at_j at has_j has same)) unspent refl refl refl refl refl

-- A write of the value that a word has leaves the words.
pub word_same : (s : Table) (r : Orderly s)
    → (slice_set s.words 0 (slice_index s.words 0) ≡ s.words) × (slice_set s.words 1 (slice_index s.words 1) ≡ s.words) × (slice_set s.words 2 (slice_index s.words 2) ≡ s.words)
word_same s r = (
  subst (λ (l : List ℕ). slice_set l 0 (slice_index l 0) ≡ l) (sym r.words) refl,
  subst (λ (l : List ℕ). slice_set l 1 (slice_index l 1) ≡ l) (sym r.words) refl,
  subst (λ (l : List ℕ). slice_set l 2 (slice_index l 2) ≡ l) (sym r.words) refl,
)

-- The three words are the length of the history, the next ticket and the ticket that is served.
pub word_is : (s : Table) (r : Orderly s)
    → (slice_index s.words 0 ≡ length r.world.log) × (slice_index s.words 1 ≡ r.world.next) × (slice_index s.words 2 ≡ r.world.serving)
word_is s r =
    (ap (λ (l : List ℕ). slice_index l 0) r.words, ap (λ (l : List ℕ). slice_index l 1) r.words, ap (λ (l : List ℕ). slice_index l 2) r.words)

-- A participant's view fits the history with any other ticket, stage and count of tickets.
pub refits : (origin : DeviceValue) (log : List Entry) (id : ℕ) (v : View) (ticket : ℕ) (stage : Stage) (drawn : ℕ)
    → Fits origin log id v → Fits origin log id (record v { ticket = ticket; stage = stage; drawn = drawn })
refits origin log id v ticket stage drawn f =
    record
    { origin_is = f.origin_is; number = f.number; parent = f.parent; seen = f.seen; told = f.told; mine = f.mine }

-- The device is in its slot with a legal history, or the participant that is served has it.
pub placed_at : (b : Bool) (s : Table) (r : Orderly s) → Placed b r.world s.homes s.views
    → ((origin : DeviceValue) × (log : List Entry) × (get_elem? s.homes 0 ≡ some (some (Some (device_at origin log)))) × IsLegal origin log)
    ⊎
    ((id : ℕ) × (v : View) × (get_elem? s.views id ≡ some v) × (v.stage ≡ Serving) × (v.ticket ≡ slice_index s.words 2))
placed_at false s r p = inl (r.world.origin, r.world.log, p, r.legal)
placed_at true s r p = let k : Knows r.world p.0 p.1 Serving = subst (Knows r.world p.0 p.1) p.3 (r.know p.0 p.1 p.2) in inr (p.0, p.1, p.2, p.3, k.1 ∙ sym (word_is s r).2)

-- what holds of a view that is not spent
fits_unspent : (x : World) (id : ℕ) (v : View) (g : Stage) → (g ≡ Spent → ⊥) → Knows x id v g → Fits x.origin x.log id v
fits_unspent x id v Idle live k = k
fits_unspent x id v Waiting live k = k.0
fits_unspent x id v Serving live k = k.0
fits_unspent x id v Spent live k = absurd (live refl)

-- A participant that is not spent has the number of its place.
pub number_is : (s : Table) (r : Orderly s) (id : ℕ) (v : View) → get_elem? s.views id ≡ some v → (v.stage ≡ Spent → ⊥)
    → v.number ≢ 0 → v.number ≡ suc id
number_is s r id v at live some_number =
    ⊎_elim (λ (z : v.number ≡ 0). absurd (some_number z)) (λ (z : v.number ≡ suc id). z)
    (fits_unspent r.world id v v.stage live (r.know id v at)).number
