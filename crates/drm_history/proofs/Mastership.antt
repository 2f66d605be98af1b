-- Mastership told step by step is that which is carried along.
use Rattle.std.proofs.Common.{◌≡◌, ℕ, ◌<◌, ◌==◌, Bool, true, false, ◌||◌, List, ◌∷◌, length, Option, None, Some, refl, sym, ap, ◌∙◌, subst, arith, eq-eqb}
use Rattle.std.specs.Prelude.{if◌then◌else◌, ⊤, ◌&&◌}
use Rattle.std.specs.Option.{is_some, option_map_or, option_or}
use Rattle.std.proofs.lemmas.Bool.{eqb-true}
use Rattle.drm_index_array.proofs.Numbers.{flipped, less-differ}
use Rattle.drm_table.specs.declared.calls.Call.TheVariants.{Version, SetMaster}
use Rattle.drm_table.specs.declared.events.Event.{Event}
use Rattle.drm_table.specs.declared.events.Event.TheVariants.{Open, Ask, Close}
use Rattle.drm_table.specs.declared.events.Opening.TheVariants.{Primary, Render, Lease}
use Rattle.drm_model.specs.Rows.{Rows, is_option}
use Rattle.drm_model.specs.Calls.{meaning}
use Rattle.drm_model.specs.Verdict.{verdict}
use Rattle.drm_model.specs.Reply.{answer_of}
use Rattle.drm_model.specs.Run.{DeviceValue}
use Rattle.drm_history.specs.History.{AnsweredEvent, next_number, history_of}
use Rattle.drm_history.specs.Effects.{Effect, Nothing, OpensPrimary, OpensRender, Redeems, Closes, SetsMaster, DropsMaster, effect}
use Rattle.drm_history.specs.MasterState.{MasterState, master_state, transition, with_primary, with_set, owner_without, lease_in, owner_in, is_master_in, master_in}
use Rattle.drm_history.specs.Mastership.{Opened, opened_apart, opened_primary, opened_by, opened_in, set_by, first_set, owner_after}
use Rattle.drm_history.specs.Authority.{MastersBecome}
use Rattle.drm_history.proofs.AlwaysHolds.{IsReached, denied, carried, by_verdict, at_all_times}
use Rattle.drm_history.proofs.Rules.{caller_open}
use Rattle.drm_history.proofs.Effects.{denied_nothing}
use Rattle.drm_history.proofs.ClosedForGood.{open_old}

-- ---- options

or_none : (x : Option ℕ) → option_or x None ≡ x
or_none None = refl
or_none (Some n) = refl

or_false : (b : Bool) → b ≡ (b || false)
or_false true = refl
or_false false = refl

same_if : (b : Bool) (x : Option ℕ) → x ≡ (if b then x else x)
same_if true x = refl
same_if false x = refl

-- ---- by how a client was opened, and its first SET_MASTER

abbrev becomes : Opened → Option ℕ → Bool
becomes opened set = opened.is_master || is_some set

abbrev its_master : Opened → Option ℕ → Option ℕ
its_master opened set = if opened.is_master then opened.master else option_or set opened.master

abbrev IsSo : Opened → Option ℕ → Bool → Option ℕ → Type 0
IsSo opened set is master = (is ≡ becomes opened set) × (master ≡ its_master opened set)

-- a client of no step so far
abbrev IsNone : Option ℕ → Bool → Option ℕ → Type 0
IsNone set is master = (is ≡ false) × (master ≡ None) × (set ≡ None)

just_opened : (opened : Opened) (set : Option ℕ) → set ≡ None
    → IsSo opened (option_or set None) opened.is_master opened.master
just_opened opened set e =
    let none = or_none set ∙ e in
    (or_false opened.is_master ∙ ap (becomes opened) (sym none), same_if opened.is_master opened.master ∙ ap (its_master opened) (sym none))

as_before : (opened : Opened) (set : Option ℕ) (is : Bool) (master : Option ℕ) → IsSo opened set is master
    → IsSo opened (option_or set None) is master
as_before opened set is master h =
    (h.0 ∙ ap (becomes opened) (sym (or_none set)), h.1 ∙ ap (its_master opened) (sym (or_none set)))

-- a step that opens a client
opening : (b : Bool) (opened before : Opened) (set : Option ℕ) (is : Bool) (master : Option ℕ) → (b ≡ true → set ≡ None)
    → IsSo before set is master
    → IsSo (if b then opened else before) (option_or set None) (if b then opened.is_master else is) (if b then opened.master else master)
opening true opened before set is master none h = just_opened opened set (none refl)
opening false opened before set is master none h = as_before before set is master h

-- a step that opens none and sets no master
another : (b : Bool) (before : Opened) (set : Option ℕ) (is : Bool) (master : Option ℕ)
    → (b ≡ true → IsNone set is master) → IsSo before set is master
    → IsSo (if b then opened_apart else before) (option_or set None) is master
another true before set is master none h =
    let n = none refl in
    let unset = or_none set ∙ n.2 in
    (n.0 ∙ ap (becomes opened_apart) (sym unset), n.1 ∙ ap (its_master opened_apart) (sym unset))
another false before set is master none h = as_before before set is master h

set_becomes : (is : Bool) (set : Option ℕ) (n : ℕ) → true ≡ (is || is_some (option_or set (Some n)))
set_becomes true set n = refl
set_becomes false None n = refl
set_becomes false (Some m) n = refl

-- SET_MASTER of a master, and of a client that is none
kept_master : (is : Bool) (master set : Option ℕ) (n : ℕ) → (is || is_some set) ≡ true
    → (if is then master else option_or set master) ≡ (if is then master else option_or (option_or set (Some n)) master)
kept_master true master set n h = refl
kept_master false master (Some m) n h = refl
kept_master false master None n h = absurd (let e : false ≡ true = h in cc)

new_master : (is : Bool) (master set : Option ℕ) (n : ℕ) → (is || is_some set) ≡ false
    → Some n ≡ (if is then master else option_or (option_or set (Some n)) master)
new_master true master set n h = absurd (let e : true ≡ false = h in cc)
new_master false master None n h = refl
new_master false master (Some m) n h = absurd (let e : true ≡ false = h in cc)

set_again : (before : Opened) (set : Option ℕ) (is : Bool) (master : Option ℕ) (n : ℕ) → is ≡ true
    → IsSo before set is master → IsSo before (option_or set (Some n)) is master
set_again before set is master n e h =
    (e ∙ set_becomes before.is_master set n, h.1 ∙ kept_master before.is_master before.master set n (sym h.0 ∙ e))

set_first : (before : Opened) (set : Option ℕ) (is : Bool) (master : Option ℕ) (n : ℕ) → is ≡ false
    → IsSo before set is master → IsSo before (option_or set (Some n)) true (Some n)
set_first before set is master n e h =
    (set_becomes before.is_master set n, new_master before.is_master before.master set n (sym h.0 ∙ e))

-- ---- a step, by its effect

-- who sets master was opened before
abbrev SetsOld : Effect → ℕ → Type 0
SetsOld (SetsMaster caller) n = caller < n
SetsOld _ n = ⊤

abbrev stands_by : List AnsweredEvent → Effect → MasterState
stands_by past d = transition d (next_number past) (lease_in past) (master_state past)

abbrev BecomeBy : List AnsweredEvent → Effect → ℕ → Type 0
BecomeBy past d c =
    IsSo (if c == next_number past then opened_by d past else opened_in past c)
    (option_or (first_set past c) (set_by d (next_number past) c)) ((stands_by past d).is_master c)
    ((stands_by past d).master c)

abbrev NoneBy : List AnsweredEvent → Effect → ℕ → Type 0
NoneBy past d c =
    IsNone (option_or (first_set past c) (set_by d (next_number past) c)) ((stands_by past d).is_master c)
    ((stands_by past d).master c)

abbrev Becomes : List AnsweredEvent → ℕ → Type 0
Becomes past c = IsSo (opened_in past c) (first_set past c) (is_master_in past c) (master_in past c)

abbrev IsUnborn : List AnsweredEvent → ℕ → Type 0
IsUnborn past c = IsNone (first_set past c) (is_master_in past c) (master_in past c)

abbrev Mastered : List AnsweredEvent → Rows → Type 0
Mastered past w = ((c : ℕ) → Becomes past c) × ((c : ℕ) → length past < c → IsUnborn past c)

primary_is : (n c : ℕ) (owner : Option ℕ) (s : MasterState)
    → ((with_primary n owner s).is_master c ≡ (if c == n then (opened_primary owner n).is_master else s.is_master c)) × ((with_primary n owner s).master c ≡ (if c == n then (opened_primary owner n).master else s.master c))
primary_is n c None s = (refl, refl)
primary_is n c (Some m) s = (refl, refl)

module _ (past : List AnsweredEvent) (c : ℕ) (told : Becomes past c) (newborn : (c == next_number past) ≡ true → IsUnborn past c) where
  unset : (c == next_number past) ≡ true → first_set past c ≡ None
  unset e = (newborn e).2

  opens : (opened : Opened)
      → IsSo (if c == next_number past then opened else opened_in past c) (option_or (first_set past c) None) (if c == next_number past then opened.is_master else is_master_in past c) (if c == next_number past then opened.master else master_in past c)
  opens opened =
      opening (c == next_number past) opened (opened_in past c) (first_set past c) (is_master_in past c)
      (master_in past c) unset told

  stays : IsSo (if c == next_number past then opened_apart else opened_in past c) (option_or (first_set past c) None) (is_master_in past c) (master_in past c)
  stays =
      another (c == next_number past) (opened_in past c) (first_set past c) (is_master_in past c) (master_in past c)
      newborn told

  module _ (caller : ℕ) (old : caller < next_number past) where
    -- the caller itself
    not_new : (c == caller) ≡ true → (c == next_number past) ≡ false
    not_new k = ap (λ n. n == next_number past) (eqb-true c caller k) ∙ less-differ caller (next_number past) old

    at_old : (k : (c == caller) ≡ true) (set : Option ℕ) (is : Bool) (master : Option ℕ)
        → IsSo (opened_in past c) set is master
        → IsSo (if c == next_number past then opened_apart else opened_in past c) set is master
    at_old k set is master h =
        subst (λ b. IsSo (if b then opened_apart else opened_in past c) set is master) (sym (not_new k)) h

    sets : (b : Bool) → is_master_in past caller ≡ b
        → IsSo (if c == next_number past then opened_apart else opened_in past c) (option_or (first_set past c) (if c == caller then Some (next_number past) else None)) ((with_set (next_number past) caller b (master_state past)).is_master c) ((with_set (next_number past) caller b (master_state past)).master c)
    sets true e =
        elim (c == caller) as (λ k. (c == caller) ≡ k → IsSo (if c == next_number past then opened_apart else opened_in past c) (option_or (first_set past c) (if k then Some (next_number past) else None)) (is_master_in past c) (master_in past c)) [
          | true ↦ λ k. at_old k (option_or (first_set past c) (Some (next_number past))) (is_master_in past c) (master_in past c) (set_again (opened_in past c) (first_set past c) (is_master_in past c) (master_in past c) (next_number past) (ap (is_master_in past) (eqb-true c caller k) ∙ e) told)
          | false ↦ λ k. stays
        ] refl
    sets false e =
        elim (c == caller) as (λ k. (c == caller) ≡ k → IsSo (if c == next_number past then opened_apart else opened_in past c) (option_or (first_set past c) (if k then Some (next_number past) else None)) (if k then true else is_master_in past c) (if k then Some (next_number past) else master_in past c)) [
          | true ↦ λ k. at_old k (option_or (first_set past c) (Some (next_number past))) true (Some (next_number past)) (set_first (opened_in past c) (first_set past c) (is_master_in past c) (master_in past c) (next_number past) (ap (is_master_in past) (eqb-true c caller k) ∙ e) told)
          | false ↦ λ k. stays
        ] refl

  become_by : (d : Effect) → SetsOld d (next_number past) → BecomeBy past d c
  become_by (OpensPrimary root capabilities) old =
      let is = primary_is (next_number past) c (owner_in past) (master_state past) in
      let so = opens (opened_primary (owner_in past) (next_number past)) in
      (is.0 ∙ so.0, is.1 ∙ so.1)
  become_by (Redeems token root capabilities) old = opens (record { is_master = true; master = lease_in past token })
  become_by OpensRender old = opens opened_apart
  become_by (SetsMaster caller) old = sets caller old (is_master_in past caller) refl
  become_by Nothing old = stays
  become_by _ old = stays

-- a client of a step to come
module _ (past : List AnsweredEvent) (c : ℕ) (late : next_number past < c) (none : IsUnborn past c) where
  not_this : (c == next_number past) ≡ false
  not_this = flipped (next_number past) c (less-differ (next_number past) c late)

  none_opens : (opened : Opened)
      → IsNone (option_or (first_set past c) None) (if c == next_number past then opened.is_master else is_master_in past c) (if c == next_number past then opened.master else master_in past c)
  none_opens opened =
      (ap (λ b. if b then opened.is_master else is_master_in past c) not_this ∙ none.0, ap (λ b. if b then opened.master else master_in past c) not_this ∙ none.1, or_none (first_set past c) ∙ none.2)

  none_stays : IsNone (option_or (first_set past c) None) (is_master_in past c) (master_in past c)
  none_stays = (none.0, none.1, or_none (first_set past c) ∙ none.2)

  module _ (caller : ℕ) (old : caller < next_number past) where
    not_caller : (c == caller) ≡ false
    not_caller = flipped caller c (less-differ caller c (omega (arith, old, late)))

    none_set : option_or (first_set past c) (if c == caller then Some (next_number past) else None) ≡ None
    none_set =
        ap (λ b. option_or (first_set past c) (if b then Some (next_number past) else None)) not_caller ∙ none_stays.2

    none_sets : (b : Bool)
        → IsNone (option_or (first_set past c) (if c == caller then Some (next_number past) else None)) ((with_set (next_number past) caller b (master_state past)).is_master c) ((with_set (next_number past) caller b (master_state past)).master c)
    none_sets true = (none.0, none.1, none_set)
    none_sets false =
        (ap (λ b. if b then true else is_master_in past c) not_caller ∙ none.0, ap (λ b. if b then Some (next_number past) else master_in past c) not_caller ∙ none.1, none_set)

  none_by : (d : Effect) → SetsOld d (next_number past) → NoneBy past d c
  none_by (OpensPrimary root capabilities) old =
      let is = primary_is (next_number past) c (owner_in past) (master_state past) in
      let so = none_opens (opened_primary (owner_in past) (next_number past)) in
      (is.0 ∙ so.0, is.1 ∙ so.1, so.2)
  none_by (Redeems token root capabilities) old = none_opens (record { is_master = true; master = lease_in past token })
  none_by OpensRender old = none_opens opened_apart
  none_by (SetsMaster caller) old = none_sets caller old (is_master_in past caller)
  none_by Nothing old = none_stays
  none_by _ old = none_stays

-- ---- along a history

mastered_more : (past : List AnsweredEvent) (step : AnsweredEvent) (w v : Rows)
    → SetsOld (effect step) (next_number past) → Mastered past w → Mastered (step ∷ past) v
unfolding master_state first_set opened_in
mastered_more past step w v old m = (
  λ c. become_by past c (m.0 c) (λ e. m.1 c (let same = eqb-true c (next_number past) e in omega (arith, same)))
      (effect step) old,
  λ c late. none_by past c (omega (arith, late)) (m.1 c (omega (arith, late))) (effect step) old,
)

caller_old : (past : List AnsweredEvent) (w : Rows) (event : Event) → IsReached past w → verdict w event ≡ None
    → SetsOld (effect (carried w event)) (next_number past)
unfolding effect answer_of meaning
caller_old past w (Open (Primary root universal)) r v = tt
caller_old past w (Open Render) r v = tt
caller_old past w (Open (Lease token root universal)) r v = tt
caller_old past w (Ask c SetMaster) r v = let old = open_old w c r.step_numbers.0.1 (caller_open w c SetMaster v) in let steps = r.steps in omega (arith, old, steps)
caller_old past w (Ask c Version) r v = tt
caller_old past w (Ask c call) r v = tt
caller_old past w (Close c) r v = tt

mastered : (h : DeviceValue) (c : ℕ) → Becomes (history_of h) c
unfolding master_state first_set opened_in
mastered h =
    (at_all_times Mastered
    (by_verdict Mastered
    (λ past w event rule r m. mastered_more past (denied event rule) w w (subst (λ d. SetsOld d (next_number past)) (sym (denied_nothing event rule)) tt) m)
    (λ past w event r v m. mastered_more past (carried w event) w w (caller_old past w event r v) m))
    h ((λ c. (refl, refl)), (λ c late. (refl, refl, refl)))).0

-- In any history a client is a master exactly if it was opened as one or set itself one.
pub masters_become : (h : DeviceValue) (c : ℕ) → MastersBecome (history_of h) c
masters_become h c = let so = mastered h c in record { is_master = so.0; master = so.1 }

-- ---- the device's master

module _ (past : List AnsweredEvent) where
  opened_owner : (s : MasterState) (n : ℕ) (owner : Option ℕ) → s.owner ≡ owner
      → (with_primary n owner s).owner ≡ option_or owner ((with_primary n owner s).master n)
  opened_owner s n None e = sym (ap (λ b. if b then Some n else s.master n) (eq-eqb n n refl))
  opened_owner s n (Some m) e = e

  set_owner : (s : MasterState) (n c : ℕ) (b : Bool)
      → (with_set n c b s).owner ≡ option_or s.owner ((with_set n c b s).master c)
  set_owner s n c true = refl
  set_owner s n c false = sym (ap (λ b. option_or s.owner (if b then Some n else s.master c)) (eq-eqb c c refl))

  closed_owner : (is : Bool) (master owner : Option ℕ)
      → owner_without is master owner ≡ (if is && option_map_or (λ m. is_option m owner) master false then None else owner)
  closed_owner true (Some m) owner = refl
  closed_owner true None owner = refl
  closed_owner false master owner = refl

-- The device's master after a step is the one that the step leaves.
pub owner_is_left : (step : AnsweredEvent) (past : List AnsweredEvent)
    → owner_in (step ∷ past) ≡ owner_after (effect step) step past
unfolding master_state
owner_is_left step past = by (effect step) refl
  where
    by : (d : Effect) → effect step ≡ d → (stands_by past d).owner ≡ owner_after d step past
    by (OpensPrimary root capabilities) e =
        opened_owner past (master_state past) (next_number past) (owner_in past) refl
        ∙ sym (ap (λ d. option_or (owner_in past) ((stands_by past d).master (next_number past))) e)
    by (SetsMaster c) e =
        set_owner past (master_state past) (next_number past) c (is_master_in past c)
        ∙ sym (ap (λ d. option_or (owner_in past) ((stands_by past d).master c)) e)
    by DropsMaster e = refl
    by (Closes c) e = closed_owner past (is_master_in past c) (master_in past c) (owner_in past)
    by Nothing e = refl
    by _ e = refl
