-- Handles of a client, step by step.
use Rattle.std.proofs.Common.{◌≡◌, ℕ, ◌+◌, ◌<◌, ◌==◌, Bool, true, false, cond, ◌&&◌, ◌||◌, List, [], ◌∷◌, length, get_or, map, take, Option, None, Some, refl, sym, ◌∙◌, ap, subst, arith}
use Rattle.std.specs.Prelude.{AllPairs}
use Rattle.std.specs.BTreeMap.{is_at}
use Rattle.std.specs.List.{AllByRecursion}
use Rattle.std.specs.List.Sorted.{IsStrictlySortedBy}
use Rattle.std.specs.Map.{keys_of, lookup}
use Rattle.std.specs.Ordering.{is_eq, nat_cmp}
use Rattle.std.specs.declared.cmp.Ordering.TheVariants.{Less}
use Rattle.std.proofs.lemmas.Bool.{eqb-true}
use Rattle.std.proofs.lemmas.Bool.Decides.{nat_tests}
use Rattle.std.proofs.lemmas.Map.Entries.{length-keys_of}
use Rattle.std.proofs.lemmas.Map.Keys.{below_from_sorted, sorted_head, sorted_tail}
use Rattle.std.proofs.lemmas.List.{length-map}
use Rattle.std.proofs.Math.Bool.{or-false}
use Rattle.std.proofs.Math.ListN.{get_or-map}
use Rattle.drm_index_array.proofs.Lists.{map-map}
use Rattle.std.specs.Option.{is_some}
use Rattle.std.proofs.lemmas.List.{take_more}
use Rattle.drm_model.specs.Rows.{is_option}
use Rattle.drm_history.specs.History.{AnsweredEvent, next_number}
use Rattle.drm_history.specs.Steps.{Source, given, takes}
use Rattle.drm_trails.specs.Steps.{entry_of, followed_by, history_of}
use Rattle.drm_trails.specs.Handles.{held_of, is_given_at, is_held_since, since_after, step_of_gift}
use Rattle.drm_trails.specs.Searches.{Gift, gift_or, last_gift, source_for}
use Rattle.drm_trails.specs.declared.handles.Held.{Held}
use Rattle.drm_trails.specs.declared.steps.Step.{Step}
use Rattle.drm_trails.proofs.HistoryLemmas.{followed_by-append, next_number-take}

-- A second test that passes leaves the result of the first.
pub and_true : (b : Bool) → b ≡ (b && true)
and_true true = refl
and_true false = refl

-- ---- what is told of a handle after one step more

gift_since : (source : Option Source) (taken : Bool) (past : List AnsweredEvent) (older : Option Gift)
    → step_of_gift (gift_or source taken past older) ≡ cond (is_some source) (Some (next_number past)) (cond taken None (step_of_gift older))
gift_since (Some source) taken past older = refl
gift_since None true past older = refl
gift_since None false past older = refl

-- After one more step, a handle's step is the one that the step says, or the older one.
pub handles_more : (steps : List Step) (n number c h : ℕ) (step : Step) (before after : Option ℕ) → n < length steps
    → step ≡ get_or steps n step → number ≡ n + 1 → before ≡ step_of_gift (last_gift (history_of (take n steps)) c h) →
    after ≡ since_after (entry_of step) number c h before → after ≡ step_of_gift
    (last_gift (history_of (take (n + 1) steps)) c h)
unfolding last_gift
handles_more steps n number c h step before after within is its_number its_before its_after =
    let past = history_of (take n steps) in
    let all : history_of (take (n + 1) steps) ≡ entry_of step ∷ past =
    ap history_of (take_more steps n step within) ∙ followed_by-append [] (take n steps) (get_or steps n step) ∙ ap (λ x. entry_of x ∷ past) (sym is) in
    let its_number_now : number ≡ next_number past =
    its_number ∙ sym (next_number-take steps n (omega (arith, within))) in
    its_after
    ∙
    (λ i. cond (is_some (source_for c h (given (entry_of step)))) (Some (its_number_now i)) (cond (takes (entry_of step) c h) None (its_before i)))
    ∙ sym (gift_since (source_for c h (given (entry_of step))) (takes (entry_of step) c h) past (last_gift past c h))
    ∙ ap (λ history. step_of_gift (last_gift history c h)) (sym all)

-- Before the first step no handle has a step.
pub handles_none : (c h : ℕ) → step_of_gift (last_gift (history_of []) c h) ≡ None
unfolding last_gift followed_by
handles_none c h = refl

-- The step of an assignment is a step's number exactly if the assignment was that step's.
pub is_step_of : (gift : Option Gift) (s : ℕ) → is_option s (step_of_gift gift) ≡ is_given_at gift s
is_step_of None s = refl
is_step_of (Some g) s = refl

-- ---- handles by their numbers

is_same : (h k : ℕ) → is_at (nat_cmp h) k ≡ (k == h)
is_same h k = grind (arith, nat_tests)

later_none : (es : List (ℕ × ℕ)) (h s : ℕ) → AllByRecursion (λ k. nat_cmp h k ≡ Less) (keys_of es)
    → is_held_since (map held_of es) h s ≡ false
later_none [] h s less = refl
later_none (e ∷ es) h s less =
    let other : (e.0 == h) ≡ false = sym (is_same h e.0) ∙ ap is_eq less.0 in
    ap (λ b. (b && (e.1 == s)) || is_held_since (map held_of es) h s) other ∙ later_none es h s less.1

-- The handles of a map that is in order have the steps of its entries.
pub listed-held : (es : List (ℕ × ℕ)) → IsStrictlySortedBy nat_cmp (keys_of es) → (h s : ℕ)
    → is_held_since (map held_of es) h s ≡ is_option s (lookup (is_at (nat_cmp h)) es)
listed-held [] sorted h s = refl
listed-held (e ∷ es) sorted h s =
    of (e.0 == h) refl (listed-held es (sorted_tail nat_cmp e.0 (keys_of es) sorted) h s)
    ∙ ap (λ b. is_option s (cond b (Some e.1) (lookup (is_at (nat_cmp h)) es))) (sym (is_same h e.0))
  where
    of : (b : Bool) → (e.0 == h) ≡ b → is_held_since (map held_of es) h s ≡ is_option s (lookup (is_at (nat_cmp h)) es)
        → ((b && (e.1 == s)) || is_held_since (map held_of es) h s) ≡ is_option s (cond b (Some e.1) (lookup (is_at (nat_cmp h)) es))
    of true is rest =
        let less =
        subst (λ n. AllByRecursion (λ k. nat_cmp n k ≡ Less) (keys_of es)) (eqb-true e.0 h is)
        (sorted_head nat_cmp e.0 (keys_of es) sorted) in
        ap (λ b. (e.1 == s) || b) (later_none es h s less) ∙ or-false (e.1 == s)
    of false is rest = rest

its_handle : (es : List (ℕ × ℕ)) (i : ℕ) (d : Held)
    → (get_or (map held_of es) i d).handle ≡ get_or (keys_of es) i d.handle
its_handle es i d =
    sym (get_or-map (λ (one : Held). one.handle) (map held_of es) i d)
    ∙ ap (λ l. get_or l i d.handle) (map-map (λ (one : Held). one.handle) held_of es)

-- The handles of a map that is in order rise.
pub listed-rising : (es : List (ℕ × ℕ)) → IsStrictlySortedBy nat_cmp (keys_of es)
    → AllPairs (λ (one other : Held). one.handle < other.handle) (map held_of es)
listed-rising es sorted = λ i j d before within.
    let below =
    below_from_sorted (keys_of es) i j d.handle sorted before
    (let size = length-map es held_of in let keys = length-keys_of es in omega (arith, within, size, keys)) in
    subst (λ (x : ℕ × ℕ). x.0 < x.1) (λ k. (sym (its_handle es i d) k, sym (its_handle es j d) k)) below
