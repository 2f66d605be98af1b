-- Each magic is that of the last GET_MAGIC that answered its number under its master, and a client that AUTH_MAGIC named is of a
-- step that was made.
use Rattle.std.proofs.Common.{◌≡◌, ℕ, ◌<◌, ◌≤◌, ◌==◌, Bool, true, false, cond, not, ◌&&◌, ◌||◌, List, [], ◌∷◌, length, filter, map, find, Option, None, Some, refl, sym, ap, ◌∙◌, arith, eq-eqb}
use Rattle.std.specs.Prelude.{if◌then◌else◌, unwrap_or}
use Rattle.std.specs.List.{list_any, AllByRecursion}
use Rattle.std.specs.Option.{is_some, option_map, option_or}
use Rattle.std.proofs.lemmas.Bool.{eqb-true, and_parts, not-true}
use Rattle.drm_index_array.specs.Numbers.{is_among}
use Rattle.drm_index_array.proofs.Lists.{all_weaker, all_both}
use Rattle.drm_index_array.proofs.Rising.{found}
use Rattle.drm_index_array.proofs.Each.{each_fails}
use Rattle.drm_index_array.proofs.Numbers.{less-differ}
use Rattle.drm_table.specs.declared.calls.Call.TheVariants.{Version, GetMagic, AuthMagic, SetMaster}
use Rattle.drm_table.specs.declared.events.Event.{Event}
use Rattle.drm_table.specs.declared.events.Event.TheVariants.{Open, Ask, Close}
use Rattle.drm_table.specs.declared.events.Opening.TheVariants.{Primary, Render, Lease}
use Rattle.drm_table.specs.declared.rules.Rule.{Rule}
use Rattle.drm_model.specs.Rows.{Rows, MagicRow, is_option, is_open, magic_row}
use Rattle.drm_history.proofs.ChangedRows.{LeftBy, magics_after}
use Rattle.drm_model.specs.Magics.{caller_master, magic_of, magics_under, free_magic, is_open_magic, magic_client, is_current, is_master}
use Rattle.drm_model.specs.Calls.{meaning}
use Rattle.drm_model.specs.Verdict.{verdict}
use Rattle.drm_model.specs.Change.{changed, swept, journaled}
use Rattle.drm_model.specs.Reply.{answer_of}
use Rattle.drm_model.proofs.FewLeased.{rules_hold}
use Rattle.drm_history.specs.History.{AnsweredEvent, next_number}
use Rattle.drm_history.specs.Effects.{effect}
use Rattle.drm_history.specs.MasterState.{MasterState, master_state, with_primary, with_set, lease_in, caller_master_in}
use Rattle.drm_history.specs.Magics.{magic_by, magic_in, is_named_by, is_named_in}
use Rattle.drm_history.proofs.AlwaysHolds.{IsReached, denied, carried}
use Rattle.drm_history.proofs.Rules.{caller_open}
use Rattle.drm_history.proofs.Effects.{denied_nothing}
use Rattle.drm_history.proofs.FreeNumbers.{least_passes}
use Rattle.drm_history.proofs.Stands.{StandsBy, master_state_denied, open_stands, current}
use Rattle.drm_history.proofs.ClosedForGood.{open_old}
use Rattle.drm_history.proofs.LessorsAndIds.{own_told}
use Rattle.drm_history.proofs.Few.{MagicsFit, magic_free}
use Rattle.drm_history.proofs.LastMagics.{none_of, fit_carried}

-- the magic is its client's by the history, under the master that its client has
abbrev pub MagicTold : List AnsweredEvent → MagicRow → Type 0
MagicTold past row =
    (magic_in past row.master row.number ≡ Some row.client) × (caller_master_in past row.client ≡ row.master) ×
    (row.client ≤ length past)

abbrev pub MagicsTold : List AnsweredEvent → Rows → Type 0
MagicsTold past w = AllByRecursion (MagicTold past) w.magics

-- ---- whose master a step leaves

primary_other : (n d : ℕ) (owner : Option ℕ) (s : MasterState) → (d == n) ≡ false
    → (with_primary n owner s).master d ≡ s.master d
primary_other n d None s e = ap (λ b. cond b (Some n) (s.master d)) e
primary_other n d (Some m) s e = ap (λ b. cond b (Some m) (s.master d)) e

set_other : (n c d : ℕ) (is_master : Bool) (s : MasterState) → (is_master ≡ false → (d == c) ≡ false)
    → (with_set n c is_master s).master d ≡ s.master d
set_other n c d true s e = refl
set_other n c d false s e = ap (λ b. cond b (Some n) (s.master d)) (e refl)

older : (past : List AnsweredEvent) (d : ℕ) → d ≤ length past → (d == next_number past) ≡ false
older past d h = less-differ d (next_number past) (omega (arith, h))

set_left : (is_current is_master : Bool) (P : Type 0) → (is_current ≡ true → is_master ≡ true)
    → (is_current ≡ false → is_master ≡ false → P) → is_master ≡ false → P
set_left true true P is left e = absurd (let n : true ≡ false = e in cc)
set_left true false P is left e = absurd (let n : false ≡ true = is refl in cc)
set_left false is_master P is left e = left refl e

-- the master of a client whose magic stays
own_still : (past : List AnsweredEvent) (w : Rows) (event : Event) → verdict w event ≡ None → StandsBy past w
    → (row : MagicRow) → MagicTold past row → LeftBy w event row
    → caller_master_in (carried w event ∷ past) row.client ≡ caller_master_in past row.client
unfolding master_state effect answer_of meaning
own_still past w (Open (Primary root universal)) v a row h left =
    ap (λ o. unwrap_or o 0)
    (primary_other (next_number past) row.client (master_state past).owner (master_state past) (older past row.client h.2))
own_still past w (Open Render) v a row h left =
    ap (λ b. unwrap_or (cond b None ((master_state past).master row.client)) 0) (older past row.client h.2)
own_still past w (Open (Lease token root universal)) v a row h left =
    ap (λ b. unwrap_or (cond b (lease_in past token) ((master_state past).master row.client)) 0)
    (older past row.client h.2)
own_still past w (Ask c Version) v a row h left = refl
own_still past w (Ask c SetMaster) v a row h left =
    let is = (open_stands past w a c (caller_open w c SetMaster v)).0 in
    ap (λ o. unwrap_or o 0)
    (set_other (next_number past) c row.client ((master_state past).is_master c) (master_state past) (λ e. set_left (is_current w c) (is_master w c) ((row.client == c) ≡ false) (λ k. (current w c k).0) left (is ∙ e)))
own_still past w (Ask c call) v a row h left = refl
own_still past w (Close c) v a row h left = refl

-- ---- a step

-- of a magic that stays, where the step answers none
told_still : (past : List AnsweredEvent) (step : AnsweredEvent)
    → ((m number : ℕ) → magic_in (step ∷ past) m number ≡ magic_in past m number) → (row : MagicRow)
    → caller_master_in (step ∷ past) row.client ≡ caller_master_in past row.client → MagicTold past row
    → MagicTold (step ∷ past) row
told_still past step same row own h = (same row.master row.number ∙ h.0, own ∙ h.1, let old = h.2 in omega (arith, old))

-- a magic that is answered again
again : (past : List AnsweredEvent) (c own number : ℕ) → magic_in past own number ≡ Some c → (m k : ℕ)
    → (if (number == k) && (own == m) then Some c else magic_in past m k) ≡ magic_in past m k
again past c own number h m k =
    elim (number == k) as (λ b. (number == k) ≡ b → (if b && (own == m) then Some c else magic_in past m k) ≡ magic_in past m k) [
      | true ↦ λ e.
          elim (own == m) as (λ b. (own == m) ≡ b → (if b then Some c else magic_in past m k) ≡ magic_in past m k) [
            | true ↦ λ f. sym h ∙ (λ i. magic_in past (eqb-true own m f i) (eqb-true number k e i))
            | false ↦ λ f. refl
          ] refl
      | false ↦ λ e. refl
    ] refl

-- a magic that none has
fresh_other : (past : List AnsweredEvent) (c own number : ℕ) (row : MagicRow)
    → ((row.master == own) && (row.number == number)) ≡ false → magic_in past row.master row.number ≡ Some row.client
    → (if (number == row.number) && (own == row.master) then Some c else magic_in past row.master row.number) ≡ Some row.client
fresh_other past c own number row free h =
    elim (number == row.number) as (λ b. (number == row.number) ≡ b → (if b && (own == row.master) then Some c else magic_in past row.master row.number) ≡ Some row.client) [
      | true ↦ λ e.
          elim (own == row.master) as (λ b. (own == row.master) ≡ b → (if b then Some c else magic_in past row.master row.number) ≡ Some row.client) [
            | true ↦ λ f. absurd (let n : false ≡ true = sym free ∙ (λ i. eq-eqb row.master own (sym (eqb-true own row.master f)) i && eq-eqb row.number number (sym (eqb-true number row.number e)) i) in cc)
            | false ↦ λ f. h
          ] refl
      | false ↦ λ e. h
    ] refl

both_parts : (own number : ℕ) → (rows : List MagicRow)
    → is_among (map (λ (row : MagicRow). row.number) (filter (λ (row : MagicRow). row.master == own) rows)) number ≡ list_any (λ (row : MagicRow). (row.master == own) && (row.number == number)) rows
both_parts own number [] = refl
both_parts own number (row ∷ rows) =
    elim (row.master == own) as (λ b. is_among (map (λ (row : MagicRow). row.number) (cond b (row ∷ filter (λ (row : MagicRow). row.master == own) rows) (filter (λ (row : MagicRow). row.master == own) rows))) number ≡ ((b && (row.number == number)) || list_any (λ (row : MagicRow). (row.master == own) && (row.number == number)) rows))
    [ true ↦ ap (λ b. (row.number == number) || b) (both_parts own number rows) | false ↦ both_parts own number rows ]

module _ (past : List AnsweredEvent) (w : Rows) (r : IsReached past w) (a : StandsBy past w) (fit : MagicsFit w) (c : ℕ) (v : verdict w (Ask c GetMagic) ≡ None) where
  opened : is_open w c ≡ true
  opened = caller_open w c GetMagic v

  own : caller_master w c ≡ caller_master_in past c
  own = own_told past w a c opened

  -- the client has a magic already
  had : (row : MagicRow) → magic_row w c ≡ Some row → MagicsTold past w → (m k : ℕ)
      → (if (row.number == k) && (caller_master_in past c == m) then Some c else magic_in past m k) ≡ magic_in past m k
  had row e h =
      let it = found (λ (row : MagicRow). row.client == c) (MagicTold past) row w.magics h e in
      let same = eqb-true row.client c it.0 in
      again past c (caller_master_in past c) row.number
      (ap (λ n. magic_in past n row.number) (ap (caller_master_in past) (sym same) ∙ it.1.1) ∙ it.1.0 ∙ ap Some same)

  free : magic_of w c ≡ None
      → AllByRecursion (λ (row : MagicRow). ((row.master == caller_master w c) && (row.number == unwrap_or (free_magic w (caller_master w c)) 0)) ≡ false) w.magics
  free none =
      let fresh = unwrap_or (free_magic w (caller_master w c)) 0 in
      let some = magic_free w fit c opened (none_of w c none) (caller_master w c) in
      each_fails (λ (row : MagicRow). (row.master == caller_master w c) && (row.number == fresh)) w.magics
      (sym (both_parts (caller_master w c) fresh w.magics) ∙ not-true (is_among (magics_under w (caller_master w c)) fresh) (least_passes (λ number. not (is_among (magics_under w (caller_master w c)) number)) 1 w.limits.clients some))

  -- what the step answers, by what magic the client has
  got : (magic : Option ℕ) → ℕ
  got magic = unwrap_or (option_or magic (free_magic w (caller_master w c))) 0

  -- what the history says of a magic that existed, where this is answered
  Got : ℕ → MagicRow → Type 0
  Got answered row =
      (if (answered == row.number) && (caller_master_in past c == row.master) then Some c else magic_in past row.master row.number)
      ≡ Some row.client

  each_got : (magic : Option ℕ) → magic_of w c ≡ magic → MagicsTold past w → AllByRecursion (Got (got magic)) w.magics
  unfolding Got got
  each_got None e h =
      let fresh = unwrap_or (free_magic w (caller_master w c)) 0 in
      all_both (λ (row : MagicRow). ((row.master == caller_master w c) && (row.number == fresh)) ≡ false)
      (MagicTold past) (Got fresh)
      (λ row f k. fresh_other past c (caller_master_in past c) fresh row (ap (λ n. (row.master == n) && (row.number == fresh)) (sym own) ∙ f) k.0)
      w.magics (free e) h
  each_got (Some number) e h = of_row (magic_row w c) refl e
    where
      it : (row : MagicRow) → magic_row w c ≡ Some row → row.number ≡ number → AllByRecursion (Got number) w.magics
      it row is same =
          all_weaker (MagicTold past) (Got number)
          (λ other k. ap (λ n. if (n == other.number) && (caller_master_in past c == other.master) then Some c else magic_in past other.master other.number) (sym same) ∙ had row is h other.master other.number ∙ k.0)
          w.magics h

      of_row : (o : Option MagicRow) → magic_row w c ≡ o → option_map (λ (row : MagicRow). row.number) o ≡ Some number
          → AllByRecursion (Got number) w.magics
      of_row None is k = absurd (let n : None ≡ Some number = k in cc)
      of_row (Some row) is k = it row is (let same : Some row.number ≡ Some number = k in cc)

  get_told : MagicsTold past w
      → MagicsTold (carried w (Ask c GetMagic) ∷ past) (journaled (swept (changed w (Ask c GetMagic))))
  unfolding Got got magic_in master_state effect answer_of meaning
  get_told h =
      let Q = λ (row : MagicRow). MagicTold past row × Got (got (magic_of w c)) row in
      magics_after w Q (MagicTold (carried w (Ask c GetMagic) ∷ past)) (λ row k. k) (Ask c GetMagic)
      (λ row k left. (k.1, k.0.1, let old = k.0.2 in omega (arith, old)))
      (λ none. (newest none, sym own, let old = open_old w c r.step_numbers.0.1 opened in let steps = r.steps in omega (arith, old, steps)))
      (all_both (MagicTold past) (Got (got (magic_of w c))) Q (λ row k g. (k, g)) w.magics h (each_got (magic_of w c) refl h))
    where
      fresh : ℕ
      fresh = unwrap_or (free_magic w (caller_master w c)) 0

      newest : magic_of w c ≡ None
          → (if (got (magic_of w c) == fresh) && (caller_master_in past c == caller_master w c) then Some c else magic_in past (caller_master w c) fresh) ≡ Some c
      newest none =
          (λ i. if eq-eqb (got (magic_of w c)) fresh (ap got none) i && eq-eqb (caller_master_in past c) (caller_master w c) (sym own) i then Some c else magic_in past (caller_master w c) fresh)

-- any other event answers no magic
magics_told : (past : List AnsweredEvent) (w : Rows) (event : Event) → IsReached past w → verdict w event ≡ None
    → StandsBy past w → MagicsFit w → MagicsTold past w
    → MagicsTold (carried w event ∷ past) (journaled (swept (changed w event)))
unfolding magic_in effect answer_of meaning
magics_told past w (Open (Primary root universal)) r v a fit h = let event = Open (Primary root universal) in magics_after w (MagicTold past) (MagicTold (carried w event ∷ past)) (λ row k. k) event (λ row k left. told_still past (carried w event) (λ m number. refl) row (own_still past w event v a row k left) k) tt h
magics_told past w (Open Render) r v a fit h = let event = Open Render in magics_after w (MagicTold past) (MagicTold (carried w event ∷ past)) (λ row k. k) event (λ row k left. told_still past (carried w event) (λ m number. refl) row (own_still past w event v a row k left) k) tt h
magics_told past w (Open (Lease token root universal)) r v a fit h = let event = Open (Lease token root universal) in magics_after w (MagicTold past) (MagicTold (carried w event ∷ past)) (λ row k. k) event (λ row k left. told_still past (carried w event) (λ m number. refl) row (own_still past w event v a row k left) k) tt h
magics_told past w (Ask c GetMagic) r v a fit h = get_told past w r a fit c v h
magics_told past w (Ask c call) r v a fit h =
    magics_after w (MagicTold past) (MagicTold (carried w (Ask c call) ∷ past)) (λ row k. k) (Ask c call)
    (λ row k left. told_still past (carried w (Ask c call)) (λ m number. refl) row (own_still past w (Ask c call) v a row k left) k)
    tt h
magics_told past w (Close c) r v a fit h = let event = Close c in magics_after w (MagicTold past) (MagicTold (carried w event ∷ past)) (λ row k. k) event (λ row k left. told_still past (carried w event) (λ m number. refl) row (own_still past w event v a row k left) k) tt h

magic_denied : (past : List AnsweredEvent) (event : Event) (rule : Rule) (m number : ℕ)
    → magic_in (denied event rule ∷ past) m number ≡ magic_in past m number
unfolding magic_in
magic_denied past event rule m number =
    ap (λ d. magic_by d past m number (magic_in past m number)) (denied_nothing event rule)

magics_denied : (past : List AnsweredEvent) (w : Rows) (event : Event) (rule : Rule) → MagicsTold past w
    → MagicsTold (denied event rule ∷ past) (journaled w)
magics_denied past w event rule h =
    all_weaker (MagicTold past) (MagicTold (denied event rule ∷ past))
    (λ row k. told_still past (denied event rule) (magic_denied past event rule) row (ap (λ s. unwrap_or (s.master row.client) 0) (master_state_denied past event rule)) k)
    w.magics h

-- ---- whom AUTH_MAGIC names

-- The client that an accepted AUTH_MAGIC names is the one that the history says, and is of a step that was made.
pub named_told : (past : List AnsweredEvent) (w : Rows) → StandsBy past w → MagicsTold past w → (c magic : ℕ)
    → verdict w (Ask c (AuthMagic magic)) ≡ None
    → (magic_client w (caller_master w c) magic ≡ magic_in past (caller_master_in past c) magic) × ((d : ℕ) → magic_in past (caller_master_in past c) magic ≡ Some d → d ≤ length past)
unfolding meaning
named_told past w a h c magic v =
    let own = own_told past w a c (caller_open w c (AuthMagic magic) v) in
    let row =
    of_client (find (is_open_magic (caller_master w c) magic) w.magics) (rules_hold w c (AuthMagic magic) v).0 in
    let it = found (is_open_magic (caller_master w c) magic) (MagicTold past) row.0 w.magics h row.1 in
    let parts = and_parts ((row.0.master == caller_master w c) && (row.0.number == magic)) (not row.0.spent) it.0 in
    let keys = and_parts (row.0.master == caller_master w c) (row.0.number == magic) parts.0 in
    let its : magic_in past (caller_master_in past c) magic ≡ Some row.0.client =
    (λ i. magic_in past (sym own i) magic)
    ∙
    (λ i. magic_in past (sym (eqb-true row.0.master (caller_master w c) keys.0) i) (sym (eqb-true row.0.number magic keys.1) i))
    ∙ it.1.0 in
    (ap (option_map (λ (row : MagicRow). row.client)) row.1 ∙ sym its, λ d e. let same : row.0.client ≡ d = (let s : Some row.0.client ≡ Some d = sym its ∙ e in cc) in let old = it.1.2 in omega (arith, old, same))
  where
    of_client : (o : Option MagicRow) → is_some (option_map (λ (row : MagicRow). row.client) o) ≡ true
        → (row : MagicRow) × (o ≡ Some row)
    of_client None e = absurd (let n : false ≡ true = e in cc)
    of_client (Some row) e = (row, refl)

-- no client to come was named
abbrev pub NamedBorn : List AnsweredEvent → Type 0
NamedBorn past = (d : ℕ) → length past < d → is_named_in past d ≡ false

is_option-other : (d : ℕ) (o : Option ℕ) → ((n : ℕ) → o ≡ Some n → n < d) → is_option d o ≡ false
is_option-other d None f = refl
is_option-other d (Some n) f = less-differ n d (f n refl)

born_carried : (past : List AnsweredEvent) (w : Rows) (event : Event) → verdict w event ≡ None → StandsBy past w
    → MagicsTold past w → NamedBorn past → NamedBorn (carried w event ∷ past)
unfolding is_named_in effect answer_of meaning
born_carried past w (Open (Primary root universal)) v a h born d late = born d (omega (arith, late))
born_carried past w (Open Render) v a h born d late = born d (omega (arith, late))
born_carried past w (Open (Lease token root universal)) v a h born d late = born d (omega (arith, late))
born_carried past w (Ask c Version) v a h born d late = born d (omega (arith, late))
born_carried past w (Ask c (AuthMagic magic)) v a h born d late =
    let told = named_told past w a h c magic v in
    ap (λ b. b || is_named_in past d)
    (is_option-other d (magic_in past (caller_master_in past c) magic) (λ n e. let old = told.1 n e in omega (arith, old, late)))
    ∙ born d (omega (arith, late))
born_carried past w (Ask c call) v a h born d late = born d (omega (arith, late))
born_carried past w (Close c) v a h born d late = born d (omega (arith, late))

named_denied : (past : List AnsweredEvent) (event : Event) (rule : Rule) (d : ℕ)
    → is_named_in (denied event rule ∷ past) d ≡ is_named_in past d
unfolding is_named_in
named_denied past event rule d =
    ap (λ effect. is_named_by effect past d || is_named_in past d) (denied_nothing event rule)

-- ---- all of magics

abbrev pub Magical : List AnsweredEvent → Rows → Type 0
Magical past w = MagicsFit w × MagicsTold past w × NamedBorn past

-- If magics follow from the history and are few, that is still so after a denial.
pub magical_denied : (past : List AnsweredEvent) (w : Rows) (event : Event) (rule : Rule) → Magical past w
    → Magical (denied event rule ∷ past) (journaled w)
magical_denied past w event rule p =
    (p.0, magics_denied past w event rule p.1, λ d late. named_denied past event rule d ∙ p.2 d (omega (arith, late)))

-- If magics follow from the history and are few, that is still so after an accepted event.
pub magical_carried : (past : List AnsweredEvent) (w : Rows) (event : Event) → IsReached past w → verdict w event ≡ None
    → StandsBy past w → Magical past w → Magical (carried w event ∷ past) (journaled (swept (changed w event)))
magical_carried past w event r v a p =
    (fit_carried w event v p.0, magics_told past w event r v a p.0 p.1, born_carried past w event v a p.1 p.2)
