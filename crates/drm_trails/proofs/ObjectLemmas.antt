-- The objects of handles, step by step.
use Rattle.std.proofs.Common.{◌≡◌, ◌<◌, ℕ, zero, suc, ◌+◌, ⊎_elim, ◌==◌, ◌&&◌, nat_lt, Bool, true, false, cond, List, [], ◌∷◌, ◌++◌, Option, None, Some, IfNone, IfSome, get_or, length, option_map, take, refl, sym, ◌∙◌, ap, subst, arith, eq-eqb}
use Rattle.std.specs.Prelude.{slice_get}
use Rattle.std.specs.Option.{option_and_then}
use Rattle.std.proofs.lemmas.Bool.Decides.{nat_tests}
use Rattle.std.proofs.lemmas.List.{take_all, take-append-le, length-append}
use Rattle.std.proofs.lemmas.Option.{get_or_from_slice_get, same_Some, slice_get-get_or, slice_get_cases, slice_get_past, slice_get_within}
use Rattle.std.proofs.Math.ListN.{get_or-append}
use Rattle.std.proofs.Math.Seq.{get_or-append_seam}
use Rattle.drm_history.specs.History.{AnsweredEvent, next_number}
use Rattle.drm_history.specs.Steps.{Key, Source, Creation, Transfer, Giving, given, takes}
use Rattle.drm_history.specs.Holds.{Has}
use Rattle.drm_history.proofs.HistoryFunctions.{has_is_told, Held, Kept, none_some, told_is_so}
use Rattle.drm_history.proofs.RunsAgree.{agrees}
use Rattle.drm_trails.specs.Chains.{HasNone, IsOfDevice}
use Rattle.drm_trails.specs.Handles.{is_given_at}
use Rattle.drm_trails.specs.Objects.{AreObjects, object_assigned, object_by, object_given, object_held, object_in, object_under}
use Rattle.drm_trails.specs.Searches.{AreNoted, Gift, gift_or, last_gift, last_sharing, publication_in, sharing_by, source_for}
use Rattle.drm_trails.specs.Steps.{entry_of, followed_by, history_of}
use Rattle.drm_trails.specs.declared.searches.Publication.{Publication}
use Rattle.drm_trails.specs.declared.steps.Step.{Step}
use Rattle.drm_trails.proofs.ChainLemmas.{has_none, told-last_gift, told-last_sharing, told_from_gift, told_from_sharing}
use Rattle.drm_trails.proofs.HistoryLemmas.{followed_by-append, length-history_of}
use Rattle.drm_trails.proofs.TrailLemmas.{lt_of}

-- ---- by the last gift

gift_object : (g : Gift) → told_from_gift (Some g) ≡ object_given g.past g.source
gift_object g = of g.source
  where
    of : (source : Source)
        → told_from_gift (Some (record { source = source; past = g.past })) ≡ object_given g.past source
    of Creation = refl
    of (Transfer key) = refl

-- The object of a handle is that of its last assignment.
pub held_by_gift : (history : List AnsweredEvent) (c h : ℕ) (g : Gift) → last_gift history c h ≡ Some g
    → object_held history c h ≡ object_given g.past g.source
held_by_gift history c h g e = told-last_gift history c h ∙ ap told_from_gift e ∙ gift_object g

-- A handle that no step assigned has no object.
pub held_by_none : (history : List AnsweredEvent) (c h : ℕ) → last_gift history c h ≡ None
    → object_held history c h ≡ None
held_by_none history c h e = told-last_gift history c h ∙ ap told_from_gift e

-- ---- by the last publishing

module _ (steps : List Step) (notes : List Publication) (noted : AreNoted steps notes) (key : Key) where
  shared : last_sharing (history_of steps) key ≡ option_map (sharing_by steps) (publication_in notes (length steps) key)
  shared =
      ap (λ xs. last_sharing (history_of xs) key) (sym (take_all (length steps) steps (omega arith)))
      ∙ sym (noted.told (length steps) key)

  -- Without a note of it, a key has no object.
  pub under_none : None ≡ publication_in notes (length steps) key → object_under (history_of steps) key ≡ None
  under_none none =
      told-last_sharing (history_of steps) key
      ∙ ap told_from_sharing (shared ∙ ap (option_map (sharing_by steps)) (sym none))

  -- The object under a key is that of the handle in the newest note of it.
  pub under_found : (p : Publication) → Some p ≡ publication_in notes (length steps) key
      → object_under (history_of steps) key ≡ object_held (history_of (take p.past steps)) p.client p.handle
  under_found p found =
      told-last_sharing (history_of steps) key
      ∙ ap told_from_sharing (shared ∙ ap (option_map (sharing_by steps)) (sym found))

-- ---- what it means

-- The object that was found for a handle is the one that the history grants.
pub held_is_had : (history : List AnsweredEvent) (c h : ℕ) (found : Option ℕ) → found ≡ object_held history c h
    → IfSome found (Has history c h)
held_is_had history c h None e = tt
held_is_had history c h (Some o) e = told_is_so history (Held c h) o (sym e)

-- If no object was found for a handle, a device's history grants none.
pub held_is_none : (history : List AnsweredEvent) (c h : ℕ) (found : Option ℕ) → found ≡ object_held history c h
    → IfNone found (IsOfDevice history → HasNone history c h)
held_is_none history c h None e = has_none history c h (sym e)
held_is_none history c h (Some o) e = tt

-- The object that a step assigned is in its place.
pub assigned_is_in : (steps : List Step) (objects : List (Option ℕ)) (step : ℕ) → AreObjects steps objects
    → object_in objects step ≡ object_assigned steps step
assigned_is_in steps objects zero known = refl
assigned_is_in steps objects (suc past) known =
    ⊎_elim (λ there. ap of_place (known.each past there.0 there.2) ∙ sym (ap of_step there.2))
    (λ none. ap of_place (slice_get_past objects past (let ends = none.0 in let same = known.count in omega (arith, ends, same))) ∙ sym (ap of_step none.1))
    (slice_get_cases steps past).1
  where
    of_place : Option (Option ℕ) → Option ℕ
    of_place found = option_and_then (λ (object : Option ℕ). object) found

    of_step : Option Step → Option ℕ
    of_step found = option_and_then (λ (step : Step). object_by (history_of (take past steps)) (given (entry_of step))) found

-- The object in the place of the step that assigned a handle is that of the handle.
pub assigned_is_held : (steps : List Step) (objects : List (Option ℕ)) (c h step : ℕ) → AreObjects steps objects
    → is_given_at (last_gift (history_of steps) c h) step ≡ true
    → object_in objects step ≡ object_held (history_of steps) c h
assigned_is_held steps objects c h step known given = of (last_gift (history_of steps) c h) refl given
  where
    of : (gift : Option Gift) → last_gift (history_of steps) c h ≡ gift → is_given_at gift step ≡ true
        → object_in objects step ≡ object_held (history_of steps) c h
    of None e given = absurd (let no : false ≡ true = given in cc)
    of (Some g) e given =
        let place : step ≡ suc (length g.past) = grind (arith, nat_tests) in
        ap (object_in objects) place
        ∙ ap (option_and_then (λ (object : Option ℕ). object)) (known.told (length steps) c h g (ap (λ xs. last_gift (history_of xs) c h) (take_all (length steps) steps (omega arith)) ∙ e))
        ∙ sym (held_by_gift (history_of steps) c h g e)

kept : (history : List AnsweredEvent) → IsOfDevice history → Kept history
kept history of_device = subst Kept (sym of_device.1) (agrees of_device.0).facts.held.kept

-- In a device's history a handle has one object.
pub had_once : (history : List AnsweredEvent) (c h o p : ℕ) → IsOfDevice history → Has history c h o → Has history c h p
    → o ≡ p
had_once history c h o p of_device one other =
    same_Some o p
    (sym (has_is_told o history c h (kept history of_device) one) ∙ has_is_told p history c h (kept history of_device) other)

-- In a device's history a handle that a client has was assigned by a step.
pub had_is_given : (history : List AnsweredEvent) (c h o : ℕ) → IsOfDevice history → Has history c h o
    → (s : ℕ) × (is_given_at (last_gift history c h) s ≡ true)
had_is_given history c h o of_device has =
    of (last_gift history c h)
    (sym (told-last_gift history c h) ∙ has_is_told o history c h (kept history of_device) has)
  where
    of : (gift : Option Gift) → told_from_gift gift ≡ Some o → (s : ℕ) × (is_given_at gift s ≡ true)
    of None e = none_some o e
    of (Some g) e = (next_number g.past, eq-eqb (next_number g.past) (next_number g.past) refl)

-- ---- one step more

-- Without steps no objects are known.
pub none_known : AreObjects [] []
unfolding last_gift followed_by
none_known = record {
  told =
      λ moment c h g e. none_some g
      (ap (λ (steps : List Step). last_gift (history_of steps) c h) (sym (take_all moment [] (omega arith))) ∙ e);
  each = λ past step e. absurd (let within = slice_get_within [] past step e in omega (arith, within));
  count = refl;
}

get_front : {X : Type 0} (xs ys : List X) (n : ℕ) (x : X) → slice_get xs n ≡ Some x → slice_get (xs ++ ys) n ≡ Some x
get_front xs ys n x e =
    let within = slice_get_within xs n x e in
    slice_get-get_or (xs ++ ys) n x (let size = length-append xs ys in omega (arith, within, size))
    ∙ ap Some (get_or-append xs ys x n within ∙ get_or_from_slice_get xs n x x e)

slice_get-front : {X : Type 0} (xs ys : List X) (n : ℕ) → n < length xs → slice_get (xs ++ ys) n ≡ slice_get xs n
slice_get-front xs ys n within =
    ⊎_elim (λ there. get_front xs ys n there.0 there.2 ∙ sym there.2)
    (λ past. absurd (let ends = past.0 in omega (arith, ends, within)))
    (slice_get_cases xs n).1

get_last : {X : Type 0} (xs : List X) (n : ℕ) (x : X) → n ≡ length xs → slice_get (xs ++ x ∷ []) n ≡ Some x
get_last xs n x e =
    slice_get-get_or (xs ++ x ∷ []) n x (let size = length-append xs (x ∷ []) in omega (arith, e, size))
    ∙ ap (λ k. Some (get_or (xs ++ x ∷ []) k x)) e ∙ ap Some (get_or-append_seam xs x [] x)

module _ (steps : List Step) (step : Step) (objects : List (Option ℕ)) (known : AreObjects steps objects) (object : Option ℕ) where
  abbrev longer : List Step
  longer = steps ++ step ∷ []

  abbrev more : List (Option ℕ)
  more = objects ++ object ∷ []

  -- the object of the gift of this step, if it is the one that is found, and else of an older
  by_step : (c h : ℕ) (source : Option Source) (taken : Bool) (g : Gift)
      → ((s : Source) → source ≡ Some s → object ≡ object_given (history_of steps) s)
      → gift_or source taken (history_of steps) (last_gift (history_of steps) c h) ≡ Some g →
      slice_get more (length g.past) ≡ Some (object_given g.past g.source)
  by_step c h (Some source) taken g its_object e =
      subst (λ (g : Gift). slice_get more (length g.past) ≡ Some (object_given g.past g.source)) (same_Some _ g e)
      (get_last objects (length (history_of steps)) object (length-history_of steps ∙ sym known.count) ∙ ap Some (its_object source refl))
  by_step c h None true g its_object e = none_some g e
  by_step c h None false g its_object e =
      get_front objects (object ∷ []) (length g.past) (object_given g.past g.source)
      (known.told (length steps) c h g (ap (λ xs. last_gift (history_of xs) c h) (take_all (length steps) steps (omega arith)) ∙ e))

  one_longer : length longer ≡ length steps + 1
  one_longer = length-append steps (step ∷ [])

  known_if : (moment c h : ℕ) (g : Gift) (b : Bool)
      → ((s : Source) → source_for c h (given (entry_of step)) ≡ Some s → object ≡ object_given (history_of steps) s)
      → nat_lt (length steps) moment ≡ b →
      last_gift (history_of (take moment longer)) c h ≡ Some g → slice_get more (length g.past) ≡ Some
      (object_given g.past g.source)
  unfolding last_gift
  known_if moment c h g true its_object past e =
      by_step c h (source_for c h (given (entry_of step))) (takes (entry_of step) c h) g its_object
      (ap (λ history. last_gift history c h) (sym (followed_by-append [] steps step)) ∙ ap (λ xs. last_gift (history_of xs) c h) (sym (take_all moment longer (let behind = lt_of (length steps) moment past in omega (arith, behind, one_longer)))) ∙ e)
  known_if moment c h g false its_object past e =
      get_front objects (object ∷ []) (length g.past) (object_given g.past g.source)
      (known.told moment c h g (ap (λ xs. last_gift (history_of xs) c h) (sym (take-append-le moment steps (step ∷ []) (grind (arith, nat_tests)))) ∙ e))

  -- a step before this one has the object that was known
  each_before : (past : ℕ) (earlier : Step) → past < length steps → slice_get longer past ≡ Some earlier
      → slice_get more past ≡ Some (object_by (history_of (take past longer)) (given (entry_of earlier)))
  each_before past earlier before e =
      get_front objects (object ∷ []) past _ (known.each past earlier (sym (slice_get-front steps (step ∷ []) past before) ∙ e))
      ∙ ap (λ xs. Some (object_by (history_of xs) (given (entry_of earlier)))) (sym (take-append-le past steps (step ∷ []) (omega (arith, before))))

  -- this step has its own
  each_last : (past : ℕ) (last : Step) → past ≡ length steps → slice_get longer past ≡ Some last
      → object ≡ object_by (history_of steps) (given (entry_of step))
      → slice_get more past ≡ Some (object_by (history_of (take past longer)) (given (entry_of last)))
  each_last past last end e its =
      get_last objects past object (end ∙ sym known.count)
      ∙ ap Some its
      ∙ ap (λ xs. Some (object_by (history_of xs) (given (entry_of step)))) (sym (take-append-le past steps (step ∷ []) (omega (arith, end)) ∙ take_all past steps (omega (arith, end))))
      ∙ ap (λ s. Some (object_by (history_of (take past longer)) (given (entry_of s)))) (same_Some step last (sym (get_last steps past step end) ∙ e))

  each_more : (past : ℕ) (any : Step) → object ≡ object_by (history_of steps) (given (entry_of step))
      → slice_get longer past ≡ Some any → (b : Bool) → nat_lt past (length steps) ≡ b
      → slice_get more past ≡ Some (object_by (history_of (take past longer)) (given (entry_of any)))
  each_more past any its e true before = each_before past any (lt_of past (length steps) before) e
  each_more past any its e false not_before =
      each_last past any (let within = slice_get_within longer past any e in grind (arith, nat_tests, within, one_longer)) e its

source_object : (c h : ℕ) (g : Option Giving) (past : List AnsweredEvent) (object : Option ℕ) → object ≡ object_by past g
    → (s : Source) → source_for c h g ≡ Some s → object ≡ object_given past s
source_object c h None past object its s e = none_some s e
source_object c h (Some g) past object its s e = of ((g.client == c) && (g.handle == h)) e
  where
    of : (b : Bool) → cond b (Some g.source) None ≡ Some s → object ≡ object_given past s
    of true e = its ∙ ap (object_given past) (same_Some g.source s e)
    of false e = none_some s e

-- With one more step, the object that the step assigned is known, as those before.
pub known_more : (steps : List Step) (step : Step) (objects : List (Option ℕ)) (object : Option ℕ)
    → AreObjects steps objects → object ≡ object_by (history_of steps) (given (entry_of step))
    → AreObjects (steps ++ step ∷ []) (objects ++ object ∷ [])
known_more steps step objects object known its = record {
  told =
      λ moment c h g e. known_if steps step objects known object moment c h g (nat_lt (length steps) moment)
      (source_object c h (given (entry_of step)) (history_of steps) object its) refl e;
  each = λ past any e. each_more steps step objects known object past any its e (nat_lt past (length steps)) refl;
  count = length-append objects (object ∷ []) ∙ ap (λ n. n + 1) known.count ∙ sym (length-append steps (step ∷ []));
}

-- What is known of the objects of handles carries over to equal lists.
pub known_along : (steps same : List Step) (objects also : List (Option ℕ)) → same ≡ steps → also ≡ objects
    → AreObjects steps objects → AreObjects same also
known_along steps same objects also is are known =
    subst (λ (x : List Step × List (Option ℕ)). AreObjects x.0 x.1) (λ i. (sym is i, sym are i)) known
