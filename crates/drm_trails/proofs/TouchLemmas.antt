-- What is noted of which handles steps gave or took.
use Rattle.std.proofs.Common.{◌≡◌, ℕ, ◌+◌, ◌<◌, ◌≤◌, ◌==◌, nat_lt, Bool, true, false, cond, ◌&&◌, List, [], ◌∷◌, ◌++◌, Option, None, Some, IfSome, length, get_or, option_to_list, reverse, take, refl, sym, ◌∙◌, ap, subst, arith}
use Rattle.std.specs.Option.{option_map_or}
use Rattle.std.proofs.lemmas.Bool.Decides.{nat_tests}
use Rattle.std.proofs.lemmas.List.{take_all, take_more, take-append-le, length-append}
use Rattle.drm_table.specs.declared.answers.Answer.{Answer}
use Rattle.drm_table.specs.declared.answers.Answer.TheVariants.{Done, Closed}
use Rattle.drm_table.specs.declared.calls.Call.{Call}
use Rattle.drm_table.specs.declared.calls.Call.TheVariants.{GemClose, DestroyDumb}
use Rattle.drm_table.specs.declared.events.Event.{Event}
use Rattle.drm_table.specs.declared.events.Event.TheVariants.{Open, Ask, Close}
use Rattle.drm_history.specs.History.{AnsweredEvent}
use Rattle.drm_history.specs.Steps.{Source, Giving, given, given_by, takes, taken_by}
use Rattle.drm_trails.specs.Answers.{closed_by}
use Rattle.drm_trails.specs.Steps.{entry_of, followed_by, history_of}
use Rattle.drm_trails.specs.Searches.{AreTouched, concerns, gift_behind, gift_or, is_touch_before, last_gift, source_for, touch_by, touch_in, touch_in_event, touch_in_step, touched_by}
use Rattle.drm_trails.specs.declared.searches.Touch.{Touch}
use Rattle.drm_trails.specs.declared.steps.Step.{Step}
use Rattle.drm_index_array.proofs.Lists.{all_append, all_weaker}
use Rattle.drm_index_array.proofs.Orders.{in_order_append}
use Rattle.drm_trails.proofs.HistoryLemmas.{followed_by-append}
use Rattle.drm_trails.proofs.NoteLemmas.{append-none, find-newest}
use Rattle.drm_trails.proofs.TrailLemmas.{found_before, lt_of, no_steps}
use Rattle.drm_trails.proofs.HandleLemmas.{and_true}

-- A note that was found up to a moment is of an earlier step.
pub touch_before : (notes : List Touch) (moment c h : ℕ)
    → IfSome (touch_in notes moment c h) (λ (t : Touch). t.past < moment)
touch_before notes moment c h = found_before (λ (t : Touch). t.past) moment (concerns c h) (reverse notes)

-- ---- a handle that a step doesn't touch

abbrev is_touched : ℕ → ℕ → Option Touch → Bool
is_touched c h touch = option_map_or (concerns c h) touch false

source_untouched : (past client c h : ℕ) (g : Option Giving) (closed : Option ℕ)
    → is_touched c h (touched_by past g client closed) ≡ false → source_for c h g ≡ None
source_untouched past client c h None closed e = refl
source_untouched past client c h (Some g) closed e = ap (λ b. cond b (Some g.source) None) e

takes_untouched : (past client c h : ℕ) (call : Call) (answer : Answer)
    → is_touched c h (touched_by past (given_by (Ask client call) answer) client (closed_by call)) ≡ false
    → taken_by (Ask client call) answer c h ≡ false
takes_untouched past client c h (GemClose handle) Done e = e
takes_untouched past client c h (GemClose handle) _ e = refl
takes_untouched past client c h (DestroyDumb handle) Done e = e
takes_untouched past client c h (DestroyDumb handle) _ e = refl
takes_untouched past client c h _ answer e = refl

closing_untouched : (client c h : ℕ) (answer : Answer) → ((client == c) && true) ≡ false
    → taken_by (Close client) answer c h ≡ false
closing_untouched client c h Closed e = and_true (client == c) ∙ e
closing_untouched client c h _ e = refl

untouched_by : (past c h : ℕ) (event : Event) (answer : Answer)
    → is_touched c h (touch_in_event past (given_by event answer) event) ≡ false
    → (source_for c h (given_by event answer) ≡ None) × (taken_by event answer c h ≡ false)
untouched_by past c h (Open opening) answer e = (refl, refl)
untouched_by past c h (Ask client call) answer e =
    (source_untouched past client c h (given_by (Ask client call) answer) (closed_by call) e, takes_untouched past client c h call answer e)
untouched_by past c h (Close client) answer e = (refl, closing_untouched client c h answer e)

untouched : (past c h : ℕ) (step : AnsweredEvent) → is_touched c h (touch_in_step past step) ≡ false
    → (source_for c h (given step) ≡ None) × (takes step c h ≡ false)
unfolding given takes
untouched past c h step e = untouched_by past c h step.event step.answer e

past_by : (past c : ℕ) (closed : Option ℕ) → IfSome (touch_by past c closed) (λ (t : Touch). t.past ≡ past)
past_by past c None = tt
past_by past c (Some handle) = refl

past_of : (past c : ℕ) (g : Option Giving) (closed : Option ℕ)
    → IfSome (touched_by past g c closed) (λ (t : Touch). t.past ≡ past)
past_of past c None closed = past_by past c closed
past_of past c (Some g) closed = refl

its_past : (past : ℕ) (g : Option Giving) (event : Event)
    → IfSome (touch_in_event past g event) (λ (t : Touch). t.past ≡ past)
its_past past g (Open opening) = tt
its_past past g (Ask c call) = past_of past c g (closed_by call)
its_past past g (Close c) = refl

-- ---- one step more

-- Without steps no handle was assigned or taken.
pub none_touched : AreTouched [] []
unfolding last_gift followed_by
none_touched =
    record
    { rise = tt; among = tt; within = λ moment c h. tt; told = λ moment c h. ap (λ (steps : List Step). last_gift (history_of steps) c h) (no_steps moment) }

-- what is told behind a step, by what it says
gift_behind-step : (steps : List Step) (past : ℕ) (step : Step) (c h : ℕ) (source : Option Source) (taken : Bool)
    → past < length steps → step ≡ get_or steps past step →
    source_for c h (given (entry_of step)) ≡ source → takes (entry_of step) c h ≡ taken →
    last_gift (history_of (take (past + 1) steps)) c h ≡ gift_or source taken (history_of (take past steps))
    (last_gift (history_of (take past steps)) c h)
unfolding last_gift
gift_behind-step steps past step c h source taken within is its_source its_take =
    ap (λ xs. last_gift (history_of xs) c h)
    (take_more steps past step within ∙ ap (λ x. take past steps ++ x ∷ []) (sym is))
    ∙ ap (λ history. last_gift history c h) (followed_by-append [] (take past steps) step)
    ∙
    (λ j. gift_or (its_source j) (its_take j) (history_of (take past steps)) (last_gift (history_of (take past steps)) c h))

module _ (steps : List Step) (step : Step) where
  abbrev longer : List Step
  longer = steps ++ step ∷ []

  one_longer : length longer ≡ length steps + 1
  one_longer = length-append steps (step ∷ [])

  still_within : (found : Option Touch) → IfSome found (λ t. t.past < length steps)
      → IfSome found (λ t. t.past < length longer)
  still_within None inside = tt
  still_within (Some t) inside = omega (arith, inside, one_longer)

  earlier : (moment c h : ℕ) → moment ≤ length steps
      → last_gift (history_of (take moment longer)) c h ≡ last_gift (history_of (take moment steps)) c h
  earlier moment c h within = ap (λ xs. last_gift (history_of xs) c h) (take-append-le moment steps (step ∷ []) within)

  later : (moment c h : ℕ) → (source_for c h (given (entry_of step)) ≡ None) × (takes (entry_of step) c h ≡ false)
      → length steps < moment →
      last_gift (history_of (take moment longer)) c h ≡ last_gift (history_of (take moment steps)) c h
  unfolding last_gift
  later moment c h says past =
      ap (λ xs. last_gift (history_of xs) c h) (take_all moment longer (omega (arith, past, one_longer)))
      ∙ ap (λ history. last_gift history c h) (followed_by-append [] steps step)
      ∙ (λ j. gift_or (says.0 j) (says.1 j) (history_of steps) (last_gift (history_of steps) c h))
      ∙ ap (λ xs. last_gift (history_of xs) c h) (sym (take_all moment steps (omega (arith, past))))

  same_behind : (c h : ℕ) (found : Option Touch) → IfSome found (λ t. t.past < length steps)
      → gift_behind longer c h found ≡ gift_behind steps c h found
  same_behind c h None inside = refl
  same_behind c h (Some t) inside =
      ap (λ xs. last_gift (history_of xs) c h) (take-append-le (t.past + 1) steps (step ∷ []) (omega (arith, inside)))

  module _ (notes : List Touch) (noted : AreTouched steps notes) where
    told_still : (moment c h : ℕ)
        → last_gift (history_of (take moment steps)) c h ≡ gift_behind longer c h (touch_in notes moment c h)
    told_still moment c h =
        noted.told moment c h ∙ sym (same_behind c h (touch_in notes moment c h) (noted.within moment c h))

    told_none : (moment c h : ℕ) (b : Bool) → nat_lt (length steps) moment ≡ b
        → (source_for c h (given (entry_of step)) ≡ None) × (takes (entry_of step) c h ≡ false) →
        last_gift (history_of (take moment longer)) c h ≡ gift_behind longer c h (touch_in notes moment c h)
    told_none moment c h true past says =
        later moment c h says (lt_of (length steps) moment past) ∙ told_still moment c h
    told_none moment c h false past says = earlier moment c h (grind (arith, nat_tests)) ∙ told_still moment c h

    touched_none : touch_in_step (length steps) (entry_of step) ≡ None → AreTouched longer notes
    touched_none is = record {
      rise = noted.rise;
      among =
          all_weaker (λ (t : Touch). t.past < length steps) (λ (t : Touch). t.past < length longer)
          (λ t lt. omega (arith, lt, one_longer)) notes noted.among;
      within = λ moment c h. still_within (touch_in notes moment c h) (noted.within moment c h);
      told =
          λ moment c h. told_none moment c h (nat_lt (length steps) moment) refl
          (untouched (length steps) c h (entry_of step) (ap (is_touched c h) is));
    }

    module _ (t : Touch) (is : touch_in_step (length steps) (entry_of step) ≡ Some t) (newest : t.past ≡ length steps) where
      within_if : (moment c h : ℕ) (b : Bool)
          → IfSome (cond b (Some t) (touch_in notes moment c h)) (λ u. u.past < length longer)
      within_if moment c h true = omega (arith, one_longer, newest)
      within_if moment c h false = still_within (touch_in notes moment c h) (noted.within moment c h)

      told_later : (moment c h : ℕ) (b : Bool) → concerns c h t ≡ b → nat_lt (length steps) moment ≡ true →
          last_gift (history_of (take moment longer)) c h ≡ gift_behind longer c h
          (cond b (Some t) (touch_in notes moment c h))
      told_later moment c h true own past =
          let behind = lt_of (length steps) moment past in
          ap (λ xs. last_gift (history_of xs) c h)
          (take_all moment longer (omega (arith, behind, one_longer)) ∙ sym (take_all (t.past + 1) longer (omega (arith, one_longer, newest))))
      told_later moment c h false other past =
          told_none moment c h true past (untouched (length steps) c h (entry_of step) (ap (is_touched c h) is ∙ other))

      told_if : (moment c h : ℕ) (b : Bool) → nat_lt (length steps) moment ≡ b →
          last_gift (history_of (take moment longer)) c h ≡ gift_behind longer c h
          (cond (b && concerns c h t) (Some t) (touch_in notes moment c h))
      told_if moment c h true past = told_later moment c h (concerns c h t) refl past
      told_if moment c h false past = earlier moment c h (grind (arith, nat_tests)) ∙ told_still moment c h

      touched_one : AreTouched longer (notes ++ t ∷ [])
      touched_one = record {
        rise =
            in_order_append (λ (x y : Touch). x.past < y.past) notes t noted.rise
            (all_weaker (λ (u : Touch). u.past < length steps) (λ (u : Touch). u.past < t.past) (λ u lt. omega (arith, lt, newest)) notes noted.among);
        among =
            all_append (λ (u : Touch). u.past < length longer) notes (t ∷ [])
            (all_weaker (λ (u : Touch). u.past < length steps) (λ (u : Touch). u.past < length longer) (λ u lt. omega (arith, lt, one_longer)) notes noted.among)
            (omega (arith, newest, one_longer), tt);
        within =
            λ moment c h. subst (λ (o : Option Touch). IfSome o (λ u. u.past < length longer))
            (sym (find-newest (is_touch_before moment c h) notes t))
            (within_if moment c h (is_touch_before moment c h t));
        told = λ moment c h.
            told_if moment c h (nat_lt (length steps) moment) refl
            ∙ ap
            (λ n. gift_behind longer c h (cond (nat_lt n moment && concerns c h t) (Some t) (touch_in notes moment c h)))
            (sym newest)
            ∙ ap (gift_behind longer c h) (sym (find-newest (is_touch_before moment c h) notes t));
      }

    touched_by_note : (touch : Option Touch) → touch_in_step (length steps) (entry_of step) ≡ touch
        → IfSome touch (λ (t : Touch). t.past ≡ length steps) → AreTouched longer (notes ++ option_to_list touch)
    touched_by_note None is newest = subst (AreTouched longer) (sym (append-none notes)) (touched_none is)
    touched_by_note (Some t) is newest = touched_one t is newest

    -- With one more step, its note is the newest of those that assigned or took a handle.
    pub touched_more : AreTouched longer (notes ++ option_to_list (touch_in_step (length steps) (entry_of step)))
    touched_more =
        touched_by_note (touch_in_step (length steps) (entry_of step)) refl
        (its_past (length steps) (given (entry_of step)) step.event)

-- What the notes say of handles carries over to equal lists.
pub touched_along : (steps same : List Step) (notes also : List Touch) → same ≡ steps → also ≡ notes
    → AreTouched steps notes → AreTouched same also
touched_along steps same notes also is are noted =
    subst (λ (x : List Step × List Touch). AreTouched x.0 x.1) (λ i. (sym is i, sym are i)) noted

module _ (steps : List Step) (notes : List Touch) (noted : AreTouched steps notes) (moment c h : ℕ) (t : Touch) (found : Some t ≡ touch_in notes moment c h) where
  -- A note that was found is of a step of the list.
  pub touch_within : t.past < length steps
  touch_within =
      subst (λ (o : Option Touch). IfSome o (λ u. u.past < length steps)) (sym found) (noted.within moment c h)

  -- The last assignment of a handle up to a moment follows from the newest step that assigned or took the handle.
  pub gift_at_touch : (step : Step) (source : Option Source) (taken : Bool) → step ≡ get_or steps t.past step
      → source_for c h (given (entry_of step)) ≡ source → takes (entry_of step) c h ≡ taken →
      last_gift (history_of (take moment steps)) c h ≡ gift_or source taken (history_of (take t.past steps))
      (last_gift (history_of (take t.past steps)) c h)
  gift_at_touch step source taken is its_source its_take =
      noted.told moment c h ∙ ap (gift_behind steps c h) (sym found)
      ∙ gift_behind-step steps t.past step c h source taken touch_within is its_source its_take
