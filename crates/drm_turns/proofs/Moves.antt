-- Each step keeps the rule.
use Rattle.std.proofs.Common.{◌≡◌, ◌≢◌, ⊎_elim, ℕ, suc, ◌+◌, ◌-◌, ◌%◌, ◌<◌, ◌≤◌, ◌^◌, ◌==◌, Bool, true, false, List, [], ◌∷◌, ◌++◌, length, set, sym, refl, ap, ◌∙◌, subst, arith, length-append, Some, eq-eqb, ne_eqb}
use Rattle.std.specs.Prelude.{slice_set, slice_index}
use mathlib.Core.Option.{Option as maybe, some, none, some-injective}
use mathlib.Core.Logic.{dite}
use native.Mathlib.Decide.{ℕ_discrete}
use lib.ListN.{get_elem?}
use prog.Atomic.{either}
use Rattle.atomic_table.specs.Table.{step, keeps, takes, gives, homes_after, stepped, Allows}
use Rattle.atomic_table.proofs.Lists.{set_here}
use Rattle.drm_model.specs.Rows.{Rows}
use Rattle.drm_model.specs.Reply.{reply}
use Rattle.drm_model.specs.Run.{DeviceValue, no_room}
use Rattle.drm_turns.specs.declared.history.Entry.{Entry}
use Rattle.drm_turns.specs.declared.history.View.{View}
use Rattle.drm_turns.specs.declared.history.Stage.{Stage}
use Rattle.drm_turns.specs.declared.history.Stage.TheVariants.{Idle, Waiting, Serving, Spent}
use Rattle.drm_turns.specs.History.{IsLegal, device_at, calls_by, StartsWith, rows_after}
use Rattle.drm_turns.specs.Rule.{Slot, Sat, World, Fits, Knows, has_ticket, Placed, AllKnow, AllHeld, Table, TicketsDiffer, Orderly, words_of}
use Rattle.drm_turns.specs.Views.{counted, found_at, passed, serving, waiting}
use Rattle.drm_turns.proofs.FirstCounts.{first_counts}
use Rattle.drm_turns.proofs.Totals.{total_kept, total_set}
use Rattle.drm_turns.specs.Plays.{Reads, finds, draws, looks, counts, passes}
use Rattle.drm_turns.proofs.GrowingHistories.{calls_other, calls_own, legal-more, starts_more, starts_whole}
use Rattle.drm_turns.proofs.Rule.{at_below, all_held_set, held_set, lent_set, same_ticket, no_ticket, placed_set, taken_set, unchanged, stays_put, stays_whole, ticketless, word_same, word_is, refits}

-- the next ticket is as many as the first participant drew, where none is out of it
found_all : (s : Table) (r : Orderly s) (id : ℕ) (v : View) → get_elem? s.views id ≡ some v → v.stage ≡ Idle
    → v.number ≡ 1 → v.outstanding ≡ 0 → slice_index s.words 1 ≡ v.drawn
found_all s r id v at idle first none_outstanding =
    let fits : Fits r.world.origin r.world.log id v = subst (Knows r.world id v) idle (r.know id v at) in
    let is_first : id ≡ 0 =
    ⊎_elim (λ (z : v.number ≡ 0). absurd (omega arith)) (λ (z : v.number ≡ suc id). omega arith) fits.number in
    (word_is s r).1 ∙ (first_counts s r v (ap (get_elem? s.views) (sym is_first) ∙ at) idle none_outstanding).0

-- To look for the next ticket keeps the rule.
pub finds_moves : (slots id : ℕ) (me : Sat) → me.0.stage ≡ Idle
    → Allows Orderly slots id me 1 (λ n. n) (finds (step slots 1 0 0 none) me)
finds_moves slots id me idle s r wide at small =
    let fits : Fits r.world.origin r.world.log id me.0 = subst (Knows r.world id me.0) idle (r.know id me.0 at) in
    let w : View = found_at me.0 (slice_index s.words 1) in (
      w,
      keeps,
      tt,
      stays_put s r 1 id me.1 me.0 w (word_same s r).1 at (λ is. absurd (cc))
          (refits r.world.origin r.world.log id me.0 w.ticket Idle me.0.drawn fits)
          (λ has. absurd (ticketless me.0.stage idle has)) (no_ticket s.views id w refl) (λ is. absurd (cc)) refl refl refl
          refl refl,
      (refl, λ first none_outstanding. found_all s r id me.0 at idle first none_outstanding),
    )

-- what the others know, where the next ticket is a later one
later : (x : World) (next j : ℕ) (u : View) (g : Stage) → x.next ≤ next → Knows x j u g
    → Knows (record x { next = next }) j u g
later x next j u Idle le k = k
later x next j u Waiting le k = (k.0, k.1, (let h = k.2 in omega arith))
later x next j u Serving le k = (k.0, k.1, (let h = k.2 in omega arith), k.3, k.4)
later x next j u Spent le k = k

-- no ticket that is out is the next one
tickets_below : (x : World) (j : ℕ) (u : View) (g : Stage) → has_ticket g ≡ true → Knows x j u g → u.ticket ≡ x.next → ⊥
tickets_below x j u Idle has k is = absurd (cc)
tickets_below x j u Waiting has k is = let h = k.2 in absurd (omega arith)
tickets_below x j u Serving has k is = let h = k.1 in let h2 = k.2 in absurd (omega arith)
tickets_below x j u Spent has k is = absurd (cc)

placed_drawn : (b : Bool) (x : World) (old : ℕ) (homes : List (maybe Slot)) (views : List View) (id : ℕ) (v w : View)
    → get_elem? views id ≡ some v → (v.stage ≡ Serving → w.stage ≡ Serving)
    → Placed b x homes views → Placed b (record x { next = old + 1 }) homes (set views id w)
placed_drawn false x old homes views id v w at still p = p
placed_drawn true x old homes views id v w at still p = placed_set true x homes views id v w at still p

-- the ticket that is drawn is held next to those that were
held_drawn : (x : World) (views : List View) (id : ℕ) (v : View) (old : ℕ) → get_elem? views id ≡ some v
    → v.stage ≡ Idle → x.next ≡ old → AllHeld x views
    → AllHeld (record x { next = old + 1 }) (set views id (waiting v old))
held_drawn x views id v old at idle is held t from to = let below : t < old + 1 = to in dite (ℕ_discrete old t)
    (λ e. (id, waiting v old, set_here views id (waiting v old) (at_below views id v at), refl, e))
    (λ ne. held_set views id v (waiting v old) t at (λ has. absurd (ticketless v.stage idle has)) (held t from (omega arith)))

-- To draw a ticket keeps the rule.
pub draws_moves : (slots id : ℕ) (me : Sat) (old : ℕ) → me.0.stage ≡ Idle → old < 2 ^ 64 - 1
    → Allows Orderly slots id me 1 (λ n. either (n == old) (old + 1) n) (draws (step slots 1 old (old + 1) none) me)
draws_moves slots id me old idle room s r wide at small =
    let x = r.world in
    let n : ℕ = slice_index s.words 1 in
    let is_next : n ≡ x.next = (word_is s r).1 in
    let fits : Fits x.origin x.log id me.0 = subst (Knows x id me.0) idle (r.know id me.0 at) in
    let w : View = waiting me.0 old in
    let y : World = record x { next = old + 1 } in
    dite (ℕ_discrete n old)
    (λ hit.
    let b : x.serving ≤ x.next = r.behind in
    let next_is : x.next ≡ old = sym is_next ∙ hit in (
      w,
      keeps,
      tt,
      subst (λ (b : Bool). Orderly (stepped s 1 (either b (old + 1) n) id me.1 w keeps)) (sym (eq-eqb n old hit))
          (unchanged s r y 1 (old + 1) id me.1 w keeps (ap (λ (l : List ℕ). slice_set l 1 (old + 1)) r.words) (omega arith) (omega arith) r.legal
          (placed_drawn x.outstanding x old s.homes s.views id me.0 w at (λ k. absurd (cc)) r.placed)
          (λ j u ne e. later x (old + 1) j u u.stage (omega arith) (r.know j u e))
          (refits x.origin x.log id me.0 old Waiting (me.0.drawn + 1) fits, omega arith, omega arith)
          (held_drawn x s.views id me.0 old at idle next_is r.held)
          (λ j u ne e has _ same. tickets_below x j u u.stage has (r.know j u e) (same ∙ sym next_is))
          r.unborn (taken_set s.views id me.0 w r.taken_in at (λ k. absurd (cc)) refl)
          (lent_set s.views id me.0 w r.lent at (λ k. absurd (cc)) (λ _. (refl, omega arith)))
          (let more = total_set (λ u. u.drawn) s.views id me.0 w at in let drawn = r.drawn in omega (arith, more, drawn, next_is))
          (ap (λ (n : ℕ). length x.origin.journal + n) (total_kept (λ u. u.journaled) s.views id me.0 w at refl) ∙ r.journaled)),
      ((λ _. refl), λ not. absurd (not hit)),
    ))
    (λ miss. (
      me.0,
      keeps,
      tt,
      subst (λ (b : Bool). Orderly (stepped s 1 (either b (old + 1) n) id me.1 me.0 keeps)) (sym (ne_eqb n old miss))
          (stays_whole s r 1 id me.1 me.0 (word_same s r).1 at (λ k. absurd (cc))),
      ((λ hit. absurd (miss hit)), λ _. refl),
    ))

-- the device is at home, where the participant that is served has not taken it
is_home : (b : Bool) (x : World) (homes : List (maybe Slot)) (views : List View) (id : ℕ) (v : View)
    → get_elem? views id ≡ some v → v.stage ≡ Waiting → v.ticket ≡ x.serving
    → AllKnow x views → TicketsDiffer views → Placed b x homes views
    → get_elem? homes 0 ≡ some (some (Some (device_at x.origin x.log)))
is_home false x homes views id v at stage is know differ p = p
is_home true x homes views id v at stage is know differ p =
    let u : View = p.1 in
    let k : Knows x p.0 u Serving = subst (Knows x p.0 u) p.3 (know p.0 u p.2) in
    let same : id ≡ p.0 = differ id p.0 v u at p.2 (ap has_ticket stage) (ap has_ticket p.3) (is ∙ sym k.1) in
    let both : v ≡ u = some-injective v u (sym at ∙ (ap (get_elem? views) same ∙ p.2)) in
    let stages : Waiting ≡ Serving = sym stage ∙ (ap (λ (z : View). z.stage) both ∙ p.3) in
    absurd (cc)

-- what the others know, where the device is taken out
taken : (x : World) (j : ℕ) (u : View) (g : Stage) → Knows x j u g → Knows (record x { outstanding = true }) j u g
taken x j u Idle k = k
taken x j u Waiting k = k
taken x j u Serving k = (k.0, k.1, k.2, refl, k.4)
taken x j u Spent k = k

-- a participant's own entries in the history
own_calls : (origin : DeviceValue) (log : List Entry) (id : ℕ) (v : View) → Fits origin log id v → v.number ≢ 0
    → calls_by v.number log ≡ v.mine
own_calls origin log id v f some_number =
    ⊎_elim (λ (z : v.number ≡ 0). absurd (some_number z))
    (λ (z : v.number ≡ suc id). ap (λ (n : ℕ). calls_by n log) z ∙ f.mine) f.number

-- A participant's own entries in the history are those that it made.
pub reads : (x : World) (id : ℕ) (v : View) → Fits x.origin x.log id v → IsLegal x.origin x.log → Reads v x.log
reads x id v f legal =
    (f.seen, f.told, subst (λ (d : DeviceValue). IsLegal d x.log) (sym f.origin_is) legal, own_calls x.origin x.log id v f)

-- the view, where it has seen all
sees : (origin : DeviceValue) (log : List Entry) (id : ℕ) (v : View) (stage : Stage) → Fits origin log id v
    → Fits origin log id (record v { seen = log; stage = stage })
sees origin log id v stage f =
    record
    { origin_is = f.origin_is; number = f.number; parent = f.parent; seen = starts_whole log; told = f.told; mine = f.mine }

-- To look for the ticket that is served keeps the rule.
pub looks_moves : (slots id : ℕ) (me : Sat) → me.0.stage ≡ Waiting
    → Allows Orderly slots id me 2 (λ n. n) (looks (step slots 2 0 0 none) me)
looks_moves slots id me waits s r wide at small =
    let x = r.world in
    let n : ℕ = slice_index s.words 2 in
    let is : n ≡ x.serving = (word_is s r).2 in
    let known : Knows x id me.0 Waiting = subst (Knows x id me.0) waits (r.know id me.0 at) in
    let fits : Fits x.origin x.log id me.0 = known.0 in
    let w : View = serving me.0 x.log in
    let y : World = record x { outstanding = true } in
    dite (ℕ_discrete n me.0.ticket)
    (λ hit. (
      w,
      takes 0 (Some (device_at x.origin x.log)),
      is_home x.outstanding x s.homes s.views id me.0 at waits (sym hit ∙ is) r.know r.differ r.placed,
      unchanged s r y 2 n id me.1 w (takes 0 (Some (device_at x.origin x.log))) ((word_same s r).2 ∙ r.words) r.few
          r.behind r.legal
          (id, w, set_here s.views id w (at_below s.views id me.0 at), refl)
          (λ j u _ e. taken x j u u.stage (r.know j u e))
          (sees x.origin x.log id me.0 Serving fits, sym hit ∙ is, (let a = known.1 in let b = known.2 in let e : me.0.ticket ≡ x.serving = sym hit ∙ is in omega arith), refl, refl)
          (all_held_set x s.views id me.0 w at (λ _. (refl, refl)) r.held)
          (same_ticket s.views id me.0 w r.differ at (ap has_ticket waits) refl)
          r.unborn
          (taken_set s.views id me.0 w r.taken_in at (λ k. absurd (cc)) refl)
          (lent_set s.views id me.0 w r.lent at (λ k. absurd (cc)) (λ _. (refl, omega arith)))
          (total_kept (λ u. u.drawn) s.views id me.0 w at refl ∙ r.drawn)
          (ap (λ (n : ℕ). length x.origin.journal + n) (total_kept (λ u. u.journaled) s.views id me.0 w at refl) ∙ r.journaled),
      ((λ _. (x.log, ap (λ (d : DeviceValue). (serving me.0 x.log, (0, Some (device_at d x.log)) ∷ me.1)) (sym fits.origin_is), reads x id me.0 fits r.legal)), λ not. absurd (not hit)),
    ))
    (λ miss. (
      me.0,
      keeps,
      tt,
      stays_whole s r 2 id me.1 me.0 (word_same s r).2 at (λ k. absurd (cc)),
      ((λ hit. absurd (miss hit)), λ _. refl),
    ))

-- what others know, where an entry is added that is not theirs
fits_more : (origin : DeviceValue) (log : List Entry) (j : ℕ) (u : View) (e : Entry) → e.by ≢ suc j
    → Fits origin log j u → Fits origin (log ++ e ∷ []) j u
fits_more origin log j u e other f = record {
  origin_is = f.origin_is;
  number = f.number;
  parent = f.parent;
  seen = starts_more log u.seen e f.seen;
  told = starts_more log u.told e f.told;
  mine = calls_other (suc j) log e other ∙ f.mine;
}

others_count : (x : World) (j : ℕ) (u : View) (g : Stage) (e : Entry) → e.by ≢ suc j → (g ≡ Serving → ⊥) → Knows x j u g
    → Knows (record x { log = x.log ++ e ∷ [] }) j u g
others_count x j u Idle e other idles k = fits_more x.origin x.log j u e other k
others_count x j u Waiting e other idles k = (fits_more x.origin x.log j u e other k.0, k.1, k.2)
others_count x j u Serving e other idles k = absurd (idles refl)
others_count x j u Spent e other idles k = k

-- there is one participant that is served
alone : (x : World) (views : List View) (id j : ℕ) (v u : View) → TicketsDiffer views → get_elem? views id ≡ some v
    → v.stage ≡ Serving → v.ticket ≡ x.serving → j ≢ id → get_elem? views j ≡ some u
    → Knows x j u u.stage → u.stage ≡ Serving → ⊥
alone x views id j v u differ at is ticket ne at_j k serves =
    let known : Knows x j u Serving = subst (Knows x j u) serves k in ne (differ j id u v at_j at (ap has_ticket serves) (ap has_ticket is) (known.1 ∙ sym ticket))

placed_here : (b : Bool) (y : World) (homes : List (maybe Slot)) (views : List View) (id : ℕ) (w : View) → b ≡ true
    → get_elem? views id ≡ some w → w.stage ≡ Serving → Placed b y homes views
placed_here b y homes views id w outstanding at is =
    subst (λ (z : Bool). Placed z y homes views) (sym outstanding) (id, w, at, is)

-- To add an entry to the history keeps the rule.
pub counts_moves : (slots id : ℕ) (me : Sat) (e : Entry) → me.0.stage ≡ Serving → e.by ≡ me.0.number → me.0.number ≢ 0
    → length me.0.seen < 2 ^ 64 - 1
    → no_room (rows_after me.0.origin me.0.seen) e.event ≡ false
    → e.answer ≡ reply (rows_after me.0.origin me.0.seen) e.event
    → Allows Orderly slots id me 0 (λ n. (n + 1) % 2 ^ 64) (counts e (step slots 0 1 0 none) me)
counts_moves slots id me e serves by some_number few room answer s r wide at small =
    let x = r.world in
    let v : View = me.0 in
    let n : ℕ = slice_index s.words 0 in
    let is : n ≡ length x.log = (word_is s r).0 in
    let known : Knows x id v Serving = subst (Knows x id v) serves (r.know id v at) in
    let fits : Fits x.origin x.log id v = known.0 in
    let seen_is : v.seen ≡ x.log = known.4 in
    let w : View = counted v e in
    let y : World = record x { log = x.log ++ e ∷ [] } in
    let by_id : e.by ≡ suc id =
    by ∙ ⊎_elim (λ (z : v.number ≡ 0). absurd (some_number z)) (λ (z : v.number ≡ suc id). z) fits.number in
    let len : length (x.log ++ e ∷ []) ≡ length x.log + 1 = length-append x.log (e ∷ []) in
    let seen_len : length v.seen ≡ length x.log = ap length seen_is in
    let word : (n + 1) % 2 ^ 64 ≡ length (x.log ++ e ∷ []) = omega arith in
    let words : slice_set s.words 0 ((n + 1) % 2 ^ 64) ≡ words_of (length (x.log ++ e ∷ [])) x.next x.serving =
    ap (λ (l : List ℕ). slice_set l 0 ((n + 1) % 2 ^ 64)) r.words
    ∙ ap (λ (k : ℕ). words_of k x.next x.serving) word in
    let rows_are : rows_after v.origin v.seen ≡ rows_after x.origin x.log = λ i. rows_after (fits.origin_is i) (seen_is i) in (
      w,
      keeps,
      tt,
      unchanged s r y 0 ((n + 1) % 2 ^ 64) id me.1 w keeps words r.few r.behind
          (legal-more x.origin x.log e r.legal (subst (λ (z : Rows). no_room z e.event ≡ false) rows_are room) (subst (λ (z : Rows). e.answer ≡ reply z e.event) rows_are answer))
          (placed_here x.outstanding y s.homes (set s.views id w) id w known.3 (set_here s.views id w (at_below s.views id v at)) serves)
          (λ j u ne at_j. others_count x j u u.stage e (λ b. ne (let h : suc j ≡ suc id = sym b ∙ by_id in omega arith)) (alone x s.views id j v u r.differ at serves known.1 ne at_j (r.know j u at_j)) (r.know j u at_j))
          (subst (Knows y id w) (sym serves) (
            record {
              origin_is = fits.origin_is;
              number = fits.number;
              parent = fits.parent;
              seen =
                  subst (λ (l : List Entry). StartsWith (l ++ e ∷ []) (v.seen ++ e ∷ [])) seen_is
                  (starts_whole (v.seen ++ e ∷ []));
              told = starts_more x.log v.told e fits.told;
              mine = calls_own (suc id) x.log e by_id ∙ ap (λ (l : List Entry). l ++ e ∷ []) fits.mine;
            },
            known.1,
            known.2,
            known.3,
            ap (λ (l : List Entry). l ++ e ∷ []) seen_is,
          ))
          (all_held_set x s.views id v w at (λ has. (has, refl)) r.held)
          (same_ticket s.views id v w r.differ at (ap has_ticket serves) refl)
          (λ k le. calls_other (suc k) x.log e (λ b. let h : suc k ≡ suc id = sym b ∙ by_id in let i = at_below s.views id v at in absurd (omega arith)) ∙ r.unborn k le)
          (taken_set s.views id v w r.taken_in at (λ k. absurd (cc)) refl)
          (lent_set s.views id v w r.lent at (λ k. absurd (cc)) (λ _. (refl, omega arith)))
          (total_kept (λ u. u.drawn) s.views id v w at refl ∙ r.drawn)
          (let more = total_set (λ u. u.journaled) s.views id v w at in let journaled = r.journaled in omega (arith, more, journaled, len)),
      (refl, is ∙ sym seen_len),
    )

-- what others know, where the ticket that was served is passed
others_pass : (x : World) (j : ℕ) (u : View) (g : Stage) → (g ≡ Serving → ⊥)
    → (has_ticket g ≡ true → u.ticket ≢ x.serving) → Knows x j u g
    → Knows (record x { serving = x.serving + 1; outstanding = false }) j u g
others_pass x j u Idle idles other k = k
others_pass x j u Waiting idles other k = let ne = other refl in (k.0, (let h = k.1 in omega arith), k.2)
others_pass x j u Serving idles other k = absurd (idles refl)
others_pass x j u Spent idles other k = k

-- To pass on the ticket that was served keeps the rule.
pub passes_moves : (slots id : ℕ) (me : Sat) (more : List (ℕ × Slot)) → 0 < slots → me.0.stage ≡ Serving
    → me.1 ≡ (0, Some (device_at me.0.origin me.0.seen)) ∷ more
    → Allows Orderly slots id me 2 (λ n. (n + 1) % 2 ^ 64) (passes (step slots 2 1 0 none) me)
passes_moves slots id me more some_slot serves holds s r wide at small =
    let x = r.world in
    let v : View = me.0 in
    let n : ℕ = slice_index s.words 2 in
    let is : n ≡ x.serving = (word_is s r).2 in
    let known : Knows x id v Serving = subst (Knows x id v) serves (r.know id v at) in
    let fits : Fits x.origin x.log id v = known.0 in
    let w : View = passed v in
    let y : World = record x { serving = x.serving + 1; outstanding = false } in
    let few = r.few in
    let below = known.2 in
    let word : (n + 1) % 2 ^ 64 ≡ x.serving + 1 = omega arith in
    let words : slice_set s.words 2 ((n + 1) % 2 ^ 64) ≡ words_of (length x.log) x.next (x.serving + 1) =
    ap (λ (l : List ℕ). slice_set l 2 ((n + 1) % 2 ^ 64)) r.words
    ∙ ap (λ (k : ℕ). words_of (length x.log) x.next k) word in
    let device_is : device_at v.origin v.seen ≡ device_at x.origin x.log = λ i. device_at (fits.origin_is i) (known.4 i) in (
      w,
      gives,
      tt,
      unchanged s r y 2 ((n + 1) % 2 ^ 64) id me.1 w gives words r.few (omega arith) r.legal
          (subst (λ (c : List (ℕ × Slot)). get_elem? (homes_after s.homes c gives) 0 ≡ some (some (Some (device_at x.origin x.log)))) (sym holds)
          (set_here s.homes 0 (some (Some (device_at v.origin v.seen))) (omega arith) ∙ ap (λ d. some (some (Some d))) device_is))
          (λ j u ne at_j. others_pass x j u u.stage (alone x s.views id j v u r.differ at serves known.1 ne at_j (r.know j u at_j))
          (λ has same. ne (r.differ j id u v at_j at has (ap has_ticket serves) (same ∙ sym known.1))) (r.know j u at_j))
          (refits x.origin x.log id v v.ticket Idle v.drawn fits)
          (λ t from to. let later : x.serving + 1 ≤ t = from in held_set s.views id v w t at (λ _ e. let k = known.1 in absurd (omega arith)) (r.held t (omega arith) to))
          (no_ticket s.views id w refl)
          r.unborn
          (taken_set s.views id v w r.taken_in at (λ k. absurd (cc)) refl)
          (lent_set s.views id v w r.lent at (λ k. absurd (cc)) (λ _. (refl, omega arith)))
          (total_kept (λ u. u.drawn) s.views id v w at refl ∙ r.drawn)
          (ap (λ (n : ℕ). length x.origin.journal + n) (total_kept (λ u. u.journaled) s.views id v w at refl) ∙ r.journaled),
      refl,
    )
