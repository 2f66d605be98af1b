-- What was found, one element or one list after the other.
use Rattle.std.proofs.Common.{◌≡◌, ℕ, ◌+◌, ◌<◌, ◌≤◌, ◌==◌, Bool, true, false, cond, ◌&&◌, ◌||◌, List, [], ◌∷◌, ◌++◌, length, get_or, take, Option, None, Some, Result, Ok, Err, IfOk, IfNone, IfSome, refl, sym, ◌∙◌, ap, subst, arith}
use Rattle.std.specs.List.{list_all}
use Rattle.std.proofs.lemmas.Bool.{eqb-true, false≢true}
use Rattle.std.proofs.lemmas.List.{take_more}
use Rattle.std.proofs.lemmas.List.Folds.{list_all-append, list_all_more}
use Rattle.drm_index_array.specs.Numbers.{count, is_among}
use Rattle.drm_modes.specs.LeaseRules.{stands_once}
use Rattle.drm_model.proofs.Once.{each_once}
use Rattle.drm_refusals.specs.Kinds.{Shows, is_id, is_mode_object}
use Rattle.drm_refusals.specs.declared.facts.Fact.{Fact}
use Rattle.drm_refusals.specs.declared.facts.Fact.TheVariants as facts

-- What follows from two clauses about a result.
pub both_ok : {X E : Type 0} {P Q R : X → Type 0} (r : Result X E) → ((x : X) → P x → Q x → R x) → IfOk r P → IfOk r Q
    → IfOk r R
both_ok (Ok x) f p q = f x p q
both_ok (Err e) f p q = tt

-- ---- two tests, one after the other

-- If either test fails, that is found.
pub found_of : (front last : Bool) (Before After : Type 0) → (front ≡ false → Before) → (Before → After)
    → (last ≡ false → After) → (front && last) ≡ false → After
found_of false last Before After old kept new fails = kept (old refl)
found_of true false Before After old kept new fails = new refl
found_of true true Before After old kept new fails = absurd (let e : true ≡ false = fails in cc)

-- The second test is made if its condition does not hold.
pub found_unless : (front skips last : Bool) (Before After : Type 0) → skips ≡ false → (front ≡ false → Before)
    → (Before → After) → (last ≡ false → After) → (front && (skips || last)) ≡ false → After
found_unless front true last Before After made old kept new fails = absurd (let e : true ≡ false = made in cc)
found_unless front false last Before After made old kept new fails =
    found_of front last Before After old kept new fails

-- ---- lists

-- If the element at a place fails, it is found, and what was found before stays found.
pub found_more : {X : Type 0} (passes : X → Bool) (xs : List X) (i : ℕ) (d : X) (Before After : Type 0) → i < length xs
    → (list_all passes (take i xs) ≡ false → Before) → (Before → After) → (passes (get_or xs i d) ≡ false → After)
    → list_all passes (take (i + 1) xs) ≡ false → After
found_more passes xs i d Before After within old kept new fails =
    found_of (list_all passes (take i xs)) (passes (get_or xs i d)) Before After old kept new
    (sym (list_all_more passes xs i d within) ∙ fails)

-- If an element of either list fails, it is found.
pub found_both : {X : Type 0} (passes : X → Bool) (xs ys : List X) (Before After : Type 0)
    → (list_all passes xs ≡ false → Before) → (Before → After) → (list_all passes ys ≡ false → After)
    → list_all passes (xs ++ ys) ≡ false → After
found_both passes xs ys Before After old kept new fails =
    found_of (list_all passes xs) (list_all passes ys) Before After old kept new
    (sym (list_all-append passes xs ys) ∙ fails)

-- ---- ids that occur once

short : (b : Bool) (x : ℕ) → length (cond b (x ∷ []) []) ≤ 1
short true x = omega arith
short false x = omega arith

other_than : (xs : List ℕ) (x k : ℕ) → is_among xs x ≡ false → is_among xs k ≡ true → is_among (x ∷ []) k ≡ false
other_than xs x k absent there =
    elim (x == k) as (λ b. (x == k) ≡ b → (b || false) ≡ false) [
      | true ↦ λ e. absurd (false≢true (sym absent ∙ ap (is_among xs) (eqb-true x k e) ∙ there))
      | false ↦ λ e. refl
    ] refl

pushed_once : (xs : List ℕ) (x : ℕ) → list_all (stands_once xs) xs ≡ true → is_among xs x ≡ false
    → list_all (stands_once (xs ++ x ∷ [])) (xs ++ x ∷ []) ≡ true
pushed_once xs x once absent =
    each_once xs (x ∷ []) once (λ k. short (x == k) x) (λ k there. other_than xs x k absent there)

once_or : (xs : List ℕ) (x : ℕ) (Before After : Type 0) → (list_all (stands_once xs) xs ≡ false → Before)
    → (Before → After) → (is_among xs x ≡ true → After) → (b c : Bool) → list_all (stands_once xs) xs ≡ b
    → is_among xs x ≡ c → list_all (stands_once (xs ++ x ∷ [])) (xs ++ x ∷ []) ≡ false → After
once_or xs x Before After old kept new false c once among fails = kept (old once)
once_or xs x Before After old kept new true true once among fails = new among
once_or xs x Before After old kept new true false once among fails =
    absurd (false≢true (sym fails ∙ pushed_once xs x once among))

-- If the id at a place is also before it, it is found, and what was found before stays found.
pub once_more : (xs : List ℕ) (i d : ℕ) (Before After : Type 0) → i < length xs
    → (list_all (stands_once (take i xs)) (take i xs) ≡ false → Before) → (Before → After)
    → (is_among (take i xs) (get_or xs i d) ≡ true → After)
    → list_all (stands_once (take (i + 1) xs)) (take (i + 1) xs) ≡ false → After
once_more xs i d Before After within old kept new fails =
    once_or (take i xs) (get_or xs i d) Before After old kept new (list_all (stands_once (take i xs)) (take i xs))
    (is_among (take i xs) (get_or xs i d)) refl refl
    (subst (λ front. list_all (stands_once front) front ≡ false) (take_more xs i d within) fails)

-- ---- facts

-- A fact that is there unless a test fails is shown if the test passes.
pub shown_or : (fact : Option Fact) (kind : Fact → Bool) (found : List Fact) (b : Bool)
    → IfSome fact (λ new. kind new ≡ true) → IfSome fact (λ new. (k : Fact → Bool) → k new ≡ true → Shows found k)
    → IfNone fact (b ≡ false) → b ≡ true → Shows found kind
shown_or None kind found b is has none passes = absurd (false≢true (sym none ∙ passes))
shown_or (Some new) kind found b is has none passes = has kind is

-- The same of a fact that is there unless a test passes.
pub shown_unless : {P : Type 0} (fact : Option Fact) (kind : Fact → Bool) (found : List Fact) (b : Bool)
    → IfSome fact (λ new. kind new ≡ true) → IfSome fact (λ new. (k : Fact → Bool) → k new ≡ true → Shows found k)
    → IfNone fact P → (P → b ≡ true) → b ≡ false → Shows found kind
shown_unless None kind found b is has none passes fails = absurd (false≢true (sym fails ∙ passes none))
shown_unless (Some new) kind found b is has none passes fails = has kind is

wider_fact : (fact : Fact) → is_mode_object fact ≡ true → is_id fact ≡ true
wider_fact (facts.ModeObject fact) e = refl
wider_fact (facts.Client fact) e = absurd (false≢true e)
wider_fact (facts.Handle fact) e = absurd (false≢true e)
wider_fact (facts.Published fact) e = absurd (false≢true e)
wider_fact (facts.Magic fact) e = absurd (false≢true e)
wider_fact (facts.Lease fact) e = absurd (false≢true e)
wider_fact (facts.Size fact) e = absurd (false≢true e)
wider_fact (facts.Limit fact) e = absurd (false≢true e)
wider_fact (facts.Request fact) e = absurd (false≢true e)
wider_fact (facts.Told subject) e = absurd (false≢true e)

wider_or : (a b x y : Bool) → (a ≡ true → b ≡ true) → (x ≡ true → y ≡ true) → (a || x) ≡ true → (b || y) ≡ true
wider_or a true x y f g e = refl
wider_or true false x y f g e = absurd (false≢true (f refl))
wider_or false false x y f g e = g e

-- What is wrong with a mode object is wrong with an id.
pub wider : (found : List Fact) → Shows found is_mode_object → Shows found is_id
wider [] e = absurd (false≢true e)
wider (fact ∷ found) e =
    wider_or (is_mode_object fact) (is_id fact) _ _ (wider_fact fact) (wider found) e
