-- Making, splitting, joining and closing.
use Rattle.std.proofs.Common.{◌≡◌, ◌≢◌, ◌⊎◌, ⊎_elim, inl, inr, ℕ, zero, suc, ◌+◌, ◌-◌, ◌<◌, Bool, true, false, List, [], ◌∷◌, ◌++◌, length, set, sym, refl, ap, ◌∙◌, subst, arith, length-set, length-append, Some}
use Rattle.std.specs.Prelude.{slice_index}
use mathlib.Core.Option.{Option as maybe, some, none, some-injective, some-ne-none}
use mathlib.Core.Logic.{dite}
use native.Mathlib.Decide.{ℕ_discrete}
use lib.ListN.{get_elem?}
use Rattle.atomic_table.specs.Table.{step, keeps, Allows, Splits, Joins, opening, Final, Seen}
use Rattle.atomic_table.proofs.Lists.{at_longer, set_else}
use Rattle.drm_table.specs.declared.events.Event.{Event}
use Rattle.drm_model.specs.Rows.{Rows}
use Rattle.drm_model.specs.Change.{after}
use Rattle.drm_model.specs.Run.{FoundRoom, DeviceValue, start_of}
use Rattle.drm_turns.specs.declared.history.Entry.{Entry}
use Rattle.drm_turns.specs.declared.history.View.{View}
use Rattle.drm_turns.specs.declared.history.Stage.TheVariants.{Idle, Serving, Spent}
use Rattle.drm_turns.specs.History.{AllDiffer, Has, device_at, replayed}
use Rattle.drm_turns.specs.Rule.{Slot, Table, Sat, World, Fits, Knows, has_ticket, Placed, AllKnow, AllHeld, IsHeld, TicketsDiffer, Orderly, Lent, words_of}
use Rattle.drm_turns.specs.Views.{IsOwn, child, informed, lending, met_of, numbered, opening_view, outstanding_after, spent_view, told_of}
use Rattle.drm_turns.specs.Plays.{Reads, settles, learns}
use Rattle.drm_turns.proofs.GrowingHistories.{starts_whole, starts_with_none, none_before, replayed-events, replayed-legal, replayed-calls}
use Rattle.drm_turns.proofs.Rule.{at_below, no_ticket, stays_put, ticketless, word_is, word_same}
use Rattle.drm_turns.proofs.Rule.{know_set, differ_set, all_held_set, lent_set, placed_set, taken_set}
use Rattle.drm_turns.proofs.MergedNumbers.{at_end, taken_snoc, taken_one, kept_apart, not_kept, differ_append, has_append, taken_join}
use Rattle.drm_turns.proofs.SplitAndReturned.{lent_join, lent_one, lent_split, no_ticket_out, out_cases}
use Rattle.drm_turns.proofs.Moves.{reads}
use Rattle.drm_turns.proofs.FirstCounts.{first_counts}
use Rattle.drm_turns.proofs.Totals.{total_kept, total_set, total_snoc}

know_snoc : (x : World) (views : List View) (c : View) → AllKnow x views → Knows x (length views) c c.stage
    → AllKnow x (views ++ c ∷ [])
know_snoc x views c know mine j u at = ⊎_elim
    (λ (t : get_elem? views j ≡ some u). know j u t)
    (λ (t : (j ≡ length views) × (c ≡ u)). subst (λ (z : ℕ × View). Knows x z.0 z.1 z.1.stage) (λ i. (sym t.0 i, t.1 i)) mine)
    (at_end views c u j at)

differ_snoc : (views : List View) (c : View) → TicketsDiffer views → has_ticket c.stage ≡ false
    → TicketsDiffer (views ++ c ∷ [])
differ_snoc views c differ idle i j v w at_i at_j has_i has_j same = ⊎_elim
    (λ (t : get_elem? views i ≡ some v). ⊎_elim
    (λ (r : get_elem? views j ≡ some w). differ i j v w t r has_i has_j same)
    (λ (r : (j ≡ length views) × (c ≡ w)). let h : has_ticket c.stage ≡ true = ap (λ (u : View). has_ticket u.stage) r.1 ∙ has_j in absurd (cc))
    (at_end views c w j at_j))
    (λ (t : (i ≡ length views) × (c ≡ v)). let h : has_ticket c.stage ≡ true = ap (λ (u : View). has_ticket u.stage) t.1 ∙ has_i in absurd (cc))
    (at_end views c v i at_i)

placed_snoc : (b : Bool) (x : World) (homes : List (maybe Slot)) (views : List View) (c : View) → Placed b x homes views
    → Placed b x homes (views ++ c ∷ [])
placed_snoc false x homes views c p = p
placed_snoc true x homes views c p = (p.0, p.1, at_longer views (c ∷ []) p.0 p.1 p.2, p.3)

held_snoc : (x : World) (views : List View) (c : View) → AllHeld x views → AllHeld x (views ++ c ∷ [])
held_snoc x views c held t from to = let h = held t from to in (h.0, h.1, at_longer views (c ∷ []) h.0 h.1 h.2, h.3, h.4)

-- a view that is lent of knows what it knew
know_lending : (x : World) (id : ℕ) (v : View) → v.stage ≡ Idle → Fits x.origin x.log id v
    → Knows x id (lending v) v.stage
know_lending x id v idle fits =
    subst (Knows x id (lending v)) (sym idle)
    (record { origin_is = fits.origin_is; number = fits.number; parent = fits.parent; seen = fits.seen; told = fits.told; mine = fits.mine })

own_number : (origin : DeviceValue) (log : List Entry) (id : ℕ) (v : View) → Fits origin log id v → v.number ≢ 0
    → v.number ≡ suc id
own_number origin log id v fits some_number =
    ⊎_elim (λ (z : v.number ≡ 0). absurd (some_number z)) (λ (z : v.number ≡ suc id). z) fits.number

-- To split off a participant or a note keeps the rule.
pub splits_moves : (id : ℕ) (v : View) → v.stage ≡ Idle → v.number ≢ 0 → Splits Orderly id v (lending v) (child v)
splits_moves id v idle some_number s r at =
    let x = r.world in
    let fits : Fits x.origin x.log id v = subst (Knows x id v) idle (r.know id v at) in
    let number : v.number ≡ suc id = own_number x.origin x.log id v fits some_number in
    let n : ℕ = length s.views in
    let below : id < n = at_below s.views id v at in
    let c : View = child v in
    let lent : View = lending v in
    let views' : List View = set s.views id lent in
    let same : length views' ≡ n = length-set s.views id lent in
    record {
      world = x;
      words = r.words;
      few = r.few;
      behind = r.behind;
      legal = r.legal;
      placed =
          placed_snoc x.outstanding x s.homes views' c
          (placed_set x.outstanding x s.homes s.views id v lent at (λ is. is) r.placed);
      know = know_snoc x views' c (know_set x s.views id lent (λ j u _ e. r.know j u e) (know_lending x id v idle fits)) (record {
        origin_is = fits.origin_is;
        number = inl refl;
        parent = λ (is : v.number ≡ suc (length views')). absurd (omega arith);
        seen = fits.seen;
        told = starts_with_none x.log;
        mine = r.unborn (length views') (omega arith);
      });
      held = held_snoc x views' c (all_held_set x s.views id v lent at (λ has. (has, refl)) r.held);
      differ =
          differ_snoc views' c (differ_set s.views id lent r.differ (no_ticket s.views id lent (ap has_ticket idle)))
          refl;
      unborn = λ k le. r.unborn k (let l = length-append views' (c ∷ []) in omega arith);
      taken_in = taken_snoc views' c (taken_set s.views id v lent r.taken_in at (λ is. absurd (cc)) refl) refl;
      lent = lent_split s.views id v r.lent at idle number;
      drawn =
          total_snoc (λ u. u.drawn) views' c
          ∙ (let h = total_kept (λ u. u.drawn) s.views id v lent at refl in let d = r.drawn in omega (arith, h, d));
      journaled =
          (let l = total_snoc (λ u. u.journaled) views' c in let h = total_kept (λ u. u.journaled) s.views id v lent at refl in let d = r.journaled in omega (arith, l, h, d));
    }

-- To set the number of a new participant keeps the rule.
pub settles_moves : (slots id : ℕ) (me : Sat) → me.0.stage ≡ Idle
    → Allows Orderly slots id me 0 (λ n. n) (settles (step slots 0 0 0 none) me)
settles_moves slots id me idle s r wide at small =
    let x = r.world in
    let fits : Fits x.origin x.log id me.0 = subst (Knows x id me.0) idle (r.know id me.0 at) in
    let w : View = numbered me.0 (suc id) in (
      w,
      keeps,
      tt,
      stays_put s r 0 id me.1 me.0 w (word_same s r).0 at (λ is. absurd (cc))
          (subst (Knows x id w) (sym idle) (record { origin_is = fits.origin_is; number = inr refl; parent = fits.parent; seen = fits.seen; told = fits.told; mine = fits.mine }))
          (λ has. (has, refl)) (no_ticket s.views id w (ap has_ticket idle)) (λ k. absurd (cc)) refl refl refl refl
          refl,
      (suc id, refl, (λ z. absurd (omega arith)), (λ z. fits.parent (sym z)), λ none. none_before (suc id) x.log me.0.seen fits.seen (fits.mine ∙ none)),
    )

-- To read the history keeps the rule.
pub learns_moves : (slots id : ℕ) (me : Sat) → me.0.stage ≡ Idle
    → Allows Orderly slots id me 0 (λ n. n) (learns (step slots 0 0 0 none) me)
learns_moves slots id me idle s r wide at small =
    let x = r.world in
    let fits : Fits x.origin x.log id me.0 = subst (Knows x id me.0) idle (r.know id me.0 at) in
    let w : View = informed me.0 x.log in (
      w,
      keeps,
      tt,
      stays_put s r 0 id me.1 me.0 w (word_same s r).0 at (λ is. absurd (cc))
          (subst (Knows x id w) (sym idle) (record { origin_is = fits.origin_is; number = fits.number; parent = fits.parent; seen = starts_whole x.log; told = starts_with_none x.log; mine = fits.mine }))
          (λ has. (has, refl)) (no_ticket s.views id w (ap has_ticket idle)) (λ k. absurd (cc)) refl refl refl refl
          refl,
      (x.log, refl, reads x id me.0 fits r.legal, kept_apart s.views id me.0 r.taken_in at (λ k. absurd (cc)) fits.number),
    )

-- two views become one, which keeps these numbers, and of which as many are out as are left
module _ (id : ℕ) (v : View) (other : ℕ) (w : View) (kept : List ℕ) (idle : v.stage ≡ Idle) (idle' : w.stage ≡ Idle) (some_own : v.number ≢ 0) where
  abbrev pub with_told : View
  with_told =
      record v
      { told = w.seen; kept = kept; outstanding = outstanding_after v.number v.outstanding w.parent w.outstanding; drawn = v.drawn + w.drawn; journaled = v.journaled + w.journaled }

  lent_with : (views : List View) → Lent views → get_elem? views id ≡ some v → get_elem? views other ≡ some w
      → ¬ (other ≡ id) → v.number ≡ suc id → Lent (set (set views id with_told) other spent_view)
  lent_with views t at at_other apart number = ⊎_elim
      (λ (h : (w.parent ≡ v.number) × (w.outstanding ≡ 0) × (with_told.outstanding ≡ v.outstanding - 1)). lent_join views id v other w with_told t at at_other apart idle idle' number h.0 h.1 refl h.2)
      (λ (h : with_told.outstanding ≡ v.outstanding). lent_set (set views id with_told) other w spent_view
      (lent_set views id v with_told t at (λ e. absurd (cc)) (λ _. (refl, omega arith)))
      (set_else views id other with_told apart ∙ at_other) (λ e. absurd (cc)) (λ live. absurd (live refl)))
      (out_cases v.number v.outstanding w.parent w.outstanding)

  -- Two idle participants may be joined if the numbers that the new one keeps were kept and differ.
  pub joins_with : ((s : Table) (r : Orderly s) → get_elem? s.views id ≡ some v → ¬ (other ≡ id) → get_elem? s.views other ≡ some w → ((k : ℕ) → Has k kept → (Has k v.kept) ⊎ ((k ≡ suc other) ⊎ Has k w.kept)) × AllDiffer kept)
      → Joins Orderly id v other w with_told spent_view
  joins_with keeps_right s r at apart there =
      let x = r.world in
      let both : View = with_told in
      let views' : List View = set s.views id both in
      let fits : Fits x.origin x.log id v = subst (Knows x id v) idle (r.know id v at) in
      let at_other : get_elem? s.views other ≡ some w = sym (set_else s.views id other both apart) ∙ there in
      let fits' : Fits x.origin x.log other w = subst (Knows x other w) idle' (r.know other w at_other) in
      let right = keeps_right s r at apart at_other in
      let known : AllKnow x views' = know_set x s.views id both (λ j u _ e. r.know j u e)
      (subst (Knows x id both) (sym idle) (record { origin_is = fits.origin_is; number = fits.number; parent = fits.parent; seen = fits.seen; told = fits'.seen; mine = fits.mine })) in record {
        world = x;
        words = r.words;
        few = r.few;
        behind = r.behind;
        legal = r.legal;
        placed =
            placed_set x.outstanding x s.homes views' other w spent_view there (λ is. absurd (cc))
            (placed_set x.outstanding x s.homes s.views id v both at (λ is. absurd (cc)) r.placed);
        know = know_set x views' other spent_view (λ j u _ e. known j u e) (refl, refl);
        held =
            all_held_set x views' other w spent_view there (λ has. absurd (ticketless w.stage idle' has))
            (all_held_set x s.views id v both at (λ has. (has, refl)) r.held);
        differ =
            differ_set views' other spent_view
            (differ_set s.views id both r.differ (no_ticket s.views id both (ap has_ticket idle)))
            (no_ticket views' other spent_view refl);
        unborn =
            λ k le. r.unborn k
            (let a = length-set s.views id both in let b = length-set views' other spent_view in omega arith);
        taken_in = taken_join s.views id v other w both r.taken_in at at_other apart idle idle' right.0 right.1;
        lent = lent_with s.views r.lent at at_other apart (own_number x.origin x.log id v fits some_own);
        drawn =
            (let a = total_set (λ u. u.drawn) s.views id v both at in let b = total_set (λ u. u.drawn) views' other w spent_view there in let d = r.drawn in omega (arith, a, b, d));
        journaled =
            (let a = total_set (λ u. u.journaled) s.views id v both at in let b = total_set (λ u. u.journaled) views' other w spent_view there in let d = r.journaled in omega (arith, a, b, d));
      }

-- To join two participants keeps the rule.
pub joins_moves : (id : ℕ) (v : View) (other : ℕ) (w : View) → v.stage ≡ Idle → w.stage ≡ Idle → v.number ≢ 0
    → w.number ≢ 0 → Joins Orderly id v other w (told_of v w) spent_view
joins_moves id v other w idle idle' some_own some_number = joins_with id v other w (v.kept ++ w.number ∷ w.kept) idle idle' some_own (λ s r at apart at_other.
    let x = r.world in
    let fits' : Fits x.origin x.log other w = subst (Knows x other w) idle' (r.know other w at_other) in
    let number : w.number ≡ suc other =
    ⊎_elim (λ (z : w.number ≡ 0). absurd (some_number z)) (λ (z : w.number ≡ suc other). z) fits'.number in
    let unspent : w.stage ≡ Spent → ⊥ = λ e. absurd (cc) in (
      (λ k has. ⊎_elim (λ (h : Has k v.kept). inl h) (λ (h : (k ≡ w.number) ⊎ Has k w.kept). inr (⊎_elim (λ (e : k ≡ w.number). inl (e ∙ number)) (λ (m : Has k w.kept). inr m) h)) (has_append k v.kept (w.number ∷ w.kept) has)),
      differ_append v.kept (w.number ∷ w.kept) (r.taken_in.apart id v at)
          (kept_apart s.views other w r.taken_in at_other unspent fits'.number some_number)
          (λ k has has'. ⊎_elim
          (λ (e : k ≡ w.number). not_kept s.views other w id v r.taken_in at_other unspent at (subst (λ (n : ℕ). Has n v.kept) (e ∙ number) has))
          (λ (m : Has k w.kept). apart (sym (r.taken_in.once id other v w k at at_other has m)))
          has'),
    ))

-- To take back a note keeps the rule.
pub meets_moves : (id : ℕ) (v : View) (other : ℕ) (w : View) → v.stage ≡ Idle → w.stage ≡ Idle → v.number ≢ 0
    → Joins Orderly id v other w (met_of v w) spent_view
meets_moves id v other w idle idle' some_own =
    joins_with id v other w v.kept idle idle' some_own
    (λ s r at apart at_other. ((λ k has. inl has), r.taken_in.apart id v at))

replayed-length : (w : Rows) (es : List Event) → length (replayed w es) ≡ length es
replayed-length w [] = refl
replayed-length w (e ∷ es) = ap suc (replayed-length (after w e) es)

-- A device that is shared anew keeps the rule: no ticket was drawn, and the device is in its slot.
pub opens : (d : DeviceValue) (n : ℕ) → n ≡ length d.journal → FoundRoom (start_of d) d.journal
    → Orderly (opening (words_of n 0 0) (Some d ∷ []) (opening_view d))
opens d n is room =
    let w : Rows = start_of d in
    let log : List Entry = replayed w d.journal in
    let x : World = record { origin = d; log = log; next = 0; serving = 0; outstanding = false } in
    let v : View = opening_view d in record {
      world = x;
      words = ap (λ (k : ℕ). words_of k 0 0) (is ∙ sym (replayed-length w d.journal));
      few = omega arith;
      behind = omega arith;
      legal = replayed-legal w d.journal room;
      placed =
          ap (λ (es : List Event). some (some (Some (record d { journal = es })))) (sym (replayed-events w d.journal));
      know =
          know_one x v
          (record { origin_is = refl; number = inr refl; parent = λ z. absurd (omega arith); seen = starts_whole log; told = starts_with_none log; mine = replayed-calls 0 w d.journal });
      held = λ t from to. let none : t < 0 = to in absurd (omega arith);
      differ = differ_one v;
      unborn = λ k _. replayed-calls k w d.journal;
      taken_in = taken_one v refl;
      lent = lent_one v refl refl;
      drawn = refl;
      journaled = (let l = replayed-length w d.journal in omega (arith, l));
    }
  where
    know_one : (x : World) (v : View) → Knows x 0 v v.stage → AllKnow x (v ∷ [])
    know_one x v k zero u at = subst (λ (z : View). Knows x 0 z z.stage) (some-injective v u at) k
    know_one x v k (suc j) u at = absurd (some-ne-none u (sym at))

    differ_one : (v : View) → TicketsDiffer (v ∷ [])
    differ_one v zero zero a b at_i at_j has_i has_j same = refl
    differ_one v (suc i) j a b at_i at_j has_i has_j same = absurd (some-ne-none a (sym at_i))
    differ_one v zero (suc j) a b at_i at_j has_i has_j same = absurd (some-ne-none b (sym at_j))

-- where no ticket is out, the device is at home
quiet_home : (b : Bool) (x : World) (homes : List (maybe Slot)) (views : List View) → x.next ≡ x.serving
    → AllKnow x views → Placed b x homes views → get_elem? homes 0 ≡ some (some (Some (device_at x.origin x.log)))
quiet_home false x homes views quiet know p = p
quiet_home true x homes views quiet know p = let k : Knows x p.0 p.1 Serving = subst (Knows x p.0 p.1) p.3 (know p.0 p.1 p.2) in let b = k.2 in absurd (omega arith)

-- If all tickets were served at the end, the slot has the device with the history that the participant read.
pub closes : (id : ℕ) (v : View) (words : List ℕ) (xs : List Slot) (next serving : ℕ) (slot : Slot) → v.stage ≡ Idle
    → Final (Seen Orderly id v) words xs
    → get_elem? words 1 ≡ some next → get_elem? words 2 ≡ some serving → next ≡ serving → get_elem? xs 0 ≡ some slot
    → (log : List Entry) × (slot ≡ Some (device_at v.origin log)) × Reads v log
closes id v words xs next serving slot idle final at_next at_serving quiet at =
    let s : Table = final.0 in
    let r : Orderly s = final.1.0 in
    let x = r.world in
    let fits : Fits x.origin x.log id v = subst (Knows x id v) idle (r.know id v final.1.1) in
    let words_are : words ≡ words_of (length x.log) x.next x.serving = sym final.2 ∙ r.words in
    let next_is : x.next ≡ next =
    some-injective x.next next (ap (λ (l : List ℕ). get_elem? l 1) (sym words_are) ∙ at_next) in
    let serving_is : x.serving ≡ serving =
    some-injective x.serving serving (ap (λ (l : List ℕ). get_elem? l 2) (sym words_are) ∙ at_serving) in
    let home = quiet_home x.outstanding x s.homes s.views (next_is ∙ (quiet ∙ sym serving_is)) r.know r.placed in
    let found = final.4 0 (Some (device_at x.origin x.log)) home in
    (x.log, some-injective slot (Some (device_at x.origin x.log)) (sym at ∙ found) ∙ ap (λ (d : DeviceValue). Some (device_at d x.log)) (sym fits.origin_is), reads x id v fits r.legal)

-- If not all tickets were served, a participant has the ticket that is served.
pub turn_is_out : (id : ℕ) (v : View) (words : List ℕ) (xs : List Slot) (next serving : ℕ)
    → Final (Seen Orderly id v) words xs
    → get_elem? words 1 ≡ some next → get_elem? words 2 ≡ some serving → next ≢ serving
    → (s : Table) × Orderly s × (get_elem? s.views id ≡ some v) × IsHeld s.views (slice_index s.words 2)
turn_is_out id v words xs next serving final at_next at_serving ne =
    let s : Table = final.0 in
    let r : Orderly s = final.1.0 in
    let x = r.world in
    let words_are : words ≡ words_of (length x.log) x.next x.serving = sym final.2 ∙ r.words in
    let next_is : x.next ≡ next =
    some-injective x.next next (ap (λ (l : List ℕ). get_elem? l 1) (sym words_are) ∙ at_next) in
    let serving_is : x.serving ≡ serving =
    some-injective x.serving serving (ap (λ (l : List ℕ). get_elem? l 2) (sym words_are) ∙ at_serving) in
    let behind = r.behind in
    let out : x.next ≢ x.serving = λ e. ne (sym next_is ∙ (e ∙ serving_is)) in
    (s, r, final.1.1, subst (IsHeld s.views) (sym (word_is s r).2) (r.held x.serving (omega arith) (omega arith)))

-- If all that was split off the first participant is returned, all tickets were served and the slot has the device.
pub comes_home : (id : ℕ) (v : View) (words : List ℕ) (xs : List Slot) (next serving : ℕ) (slot : Slot) → v.stage ≡ Idle
    → v.number ≡ 1 → v.outstanding ≡ 0 → Final (Seen Orderly id v) words xs
    → get_elem? words 1 ≡ some next → get_elem? words 2 ≡ some serving → get_elem? xs 0 ≡ some slot
    → (next ≡ serving) × (d : DeviceValue) × (slot ≡ Some d)
comes_home id v words xs next serving slot idle first none_outstanding final at_next at_serving at =
    let s : Table = final.0 in
    let r : Orderly s = final.1.0 in
    let x = r.world in
    let fits : Fits x.origin x.log id v = subst (Knows x id v) idle (r.know id v final.1.1) in
    let number : v.number ≡ suc id = own_number x.origin x.log id v fits (λ z. absurd (omega arith)) in
    let is_first : id ≡ 0 = omega arith in
    let at_first : get_elem? s.views 0 ≡ some v = ap (get_elem? s.views) (sym is_first) ∙ final.1.1 in
    let free : (t : ℕ) → IsHeld s.views t → ⊥ =
    λ t h. no_ticket_out s.views r.lent v at_first (λ e. absurd (cc)) none_outstanding h.0 h.1 idle h.2 h.3 in
    let quiet : x.next ≡ x.serving =
    dite (ℕ_discrete x.next x.serving) (λ e. e)
    (λ ne. let b = r.behind in absurd (free x.serving (r.held x.serving (omega arith) (omega arith)))) in
    let home = quiet_home x.outstanding x s.homes s.views quiet r.know r.placed in
    let found = final.4 0 (Some (device_at x.origin x.log)) home in
    let words_are : words ≡ words_of (length x.log) x.next x.serving = sym final.2 ∙ r.words in (
      some-injective next x.next (sym at_next ∙ ap (λ (l : List ℕ). get_elem? l 1) words_are)
          ∙
          (quiet ∙ sym (some-injective serving x.serving (sym at_serving ∙ ap (λ (l : List ℕ). get_elem? l 2) words_are))),
      device_at x.origin x.log,
      some-injective slot (Some (device_at x.origin x.log)) (sym at ∙ found),
    )

-- If all that was split off the first participant is returned, the history has what was recorded before and what it
-- counts.
pub closes_counted : (id : ℕ) (v : View) (words : List ℕ) (xs : List Slot) (next serving : ℕ) (slot : Slot)
    → v.stage ≡ Idle → Final (Seen Orderly id v) words xs
    → get_elem? words 1 ≡ some next → get_elem? words 2 ≡ some serving → next ≡ serving → get_elem? xs 0 ≡ some slot
    → v.number ≡ 1 → v.outstanding ≡ 0
    → (log : List Entry) × (slot ≡ Some (device_at v.origin log)) × (length log ≡ length v.origin.journal + v.journaled)
unfolding closes
closes_counted id v words xs next serving slot idle final at_next at_serving quiet at first none_outstanding =
    let s : Table = final.0 in
    let r : Orderly s = final.1.0 in
    let x = r.world in
    let fits : Fits x.origin x.log id v = subst (Knows x id v) idle (r.know id v final.1.1) in
    let number : v.number ≡ suc id = own_number x.origin x.log id v fits (λ z. absurd (omega arith)) in
    let is_first : id ≡ 0 = omega arith in
    let all = (first_counts s r v (ap (get_elem? s.views) (sym is_first) ∙ final.1.1) idle none_outstanding).1 in
    let found = closes id v words xs next serving slot idle final at_next at_serving quiet at in
    (x.log, found.1, all ∙ ap (λ (d : DeviceValue). length d.journal + v.journaled) (sym fits.origin_is))

-- The view of the first participant has a legal history, with no entry that it made.
pub opening_own : (d : DeviceValue) → FoundRoom (start_of d) d.journal → IsOwn (opening_view d)
opening_own d room = (replayed-legal (start_of d) d.journal room, replayed-calls 0 (start_of d) d.journal)
