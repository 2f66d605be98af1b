-- The rows of a client's handles, one handle after the other.
use Rattle.std.proofs.Common.{◌≡◌, ℕ, ◌+◌, ◌<◌, ◌≤◌, ◌==◌, true, ◌&&◌, ◌||◌, false, Some, List, [], ◌∷◌, ◌++◌, length, get_or, take, sym, ◌∙◌, ap, subst, arith, eq-eqb}
use Rattle.std.specs.Prelude.{AllPairs}
use Rattle.std.specs.List.{AllByRecursion}
use Rattle.std.proofs.lemmas.Bool.{and_parts, eqb-true}
use Rattle.std.proofs.lemmas.List.{take_more}
use Rattle.std.proofs.lemmas.Option.{get_or_from_slice_get, slice_get-get_or}
use Rattle.drm_history.specs.History.{AnsweredEvent}
use Rattle.drm_history.specs.Holds.{Has}
use Rattle.drm_index_array.specs.Orders.{InOrder}
use Rattle.drm_index_array.proofs.Lists.{all_append, all_weaker, list_any_left, list_any_right, some_passing}
use Rattle.drm_index_array.proofs.Orders.{in_order_append}
use Rattle.drm_trails.specs.Chains.{HasNone, IsOfDevice}
use Rattle.drm_trails.specs.Handles.{is_given_at, is_held_since}
use Rattle.drm_trails.specs.Searches.{last_gift}
use Rattle.drm_trails.specs.declared.handles.Held.{Held}
use Rattle.drm_trails.proofs.ObjectLemmas.{had_is_given, had_once}
use Rattle.drm_explanations.specs.Rows.{is_shown}
use Rattle.drm_explanations.specs.declared.rows.HandleRow.{HandleRow}

-- each object of a handle has a row
abbrev pub IsShown : List AnsweredEvent → ℕ → List HandleRow → Held → Type 0
IsShown history c rows one = (o : ℕ) → Has history c one.handle o → is_shown rows one.handle o ≡ true

abbrev pub IsBelow : ℕ → HandleRow → Type 0
IsBelow h row = row.handle < h

-- the rows of a number of first handles
pub record AreRows (history : List AnsweredEvent) (c : ℕ) (held : List Held) (n : ℕ) (rows : List HandleRow) : Type 0 where
  pub rising : InOrder (λ (x y : HandleRow). x.handle < y.handle) rows
  pub below : (k : ℕ) (d : Held) → n ≤ k → k < length held → AllByRecursion (IsBelow (get_or held k d).handle) rows
  pub had : AllByRecursion (λ (row : HandleRow). Has history c row.handle row.object) rows
  pub each : IsOfDevice history → AllByRecursion (IsShown history c rows) (take n held)

-- The rows of no handles are empty.
pub no_rows : (history : List AnsweredEvent) (c : ℕ) (held : List Held) → AreRows history c held 0 []
no_rows history c held = record { rising = tt; below = λ k d le within. tt; had = tt; each = λ of_device. tt }

module _ (history : List AnsweredEvent) (c : ℕ) (held : List Held) (rise : AllPairs (λ (one other : Held). one.handle < other.handle) held) (n : ℕ) (one : Held) (within : n < length held) (is : one ≡ get_or held n one) (rows : List HandleRow) (told : AreRows history c held n rows) where
  shown_more : (more : List HandleRow) → ((h o : ℕ) → is_shown rows h o ≡ true → is_shown more h o ≡ true)
      → (IsOfDevice history → IsShown history c more one) → IsOfDevice history
      → AllByRecursion (IsShown history c more) (take (n + 1) held)
  shown_more more stay new of_device =
      subst (AllByRecursion (IsShown history c more))
      (sym (take_more held n one within ∙ ap (λ (x : Held). take n held ++ x ∷ []) (sym is)))
      (all_append (IsShown history c more) (take n held) (one ∷ []) (all_weaker (IsShown history c rows) (IsShown history c more) (λ x shown o has. stay x.handle o (shown o has)) (take n held) (told.each of_device)) (new of_device, tt))

  -- A handle of no object adds no row.
  pub without_row : (IsOfDevice history → HasNone history c one.handle) → AreRows history c held (n + 1) rows
  without_row none = record {
    rising = told.rising;
    below = λ k d le inside. told.below k d (omega (arith, le)) inside;
    had = told.had;
    each = shown_more rows (λ h o shown. shown) (λ of_device o has. absurd (none of_device o has));
  }

  module _ (row : HandleRow) (object : ℕ) (its_handle : row.handle ≡ one.handle) (its_object : row.object ≡ object) (has : Has history c one.handle object) where
    its : Has history c row.handle row.object
    its = subst (λ (x : ℕ × ℕ). Has history c x.0 x.1) (λ i. (sym its_handle i, sym its_object i)) has

    here : IsOfDevice history → IsShown history c (rows ++ row ∷ []) one
    here of_device = λ o other.
        let same : row.object ≡ o = its_object ∙ had_once history c one.handle object o of_device has other in
        list_any_right (λ (x : HandleRow). (x.handle == one.handle) && (x.object == o)) rows (row ∷ [])
        (ap (λ b. (b && (row.object == o)) || false) (eq-eqb row.handle one.handle its_handle) ∙ ap (λ b. b || false) (eq-eqb row.object o same))

    -- One more handle with an object adds its row to the rows.
    pub with_row : AreRows history c held (n + 1) (rows ++ row ∷ [])
    with_row = record {
      rising = in_order_append (λ (x y : HandleRow). x.handle < y.handle) rows row told.rising
          (subst (λ h. AllByRecursion (IsBelow h) rows) (sym (its_handle ∙ ap (λ (x : Held). x.handle) is)) (told.below n one (omega arith) within));
      below = λ k d le inside.
          let next : (get_or held n d).handle < (get_or held k d).handle = rise n k d (omega (arith, le)) inside in
          all_append (IsBelow (get_or held k d).handle) rows (row ∷ []) (told.below k d (omega (arith, le)) inside)
          (subst (λ h. h < (get_or held k d).handle) (ap (λ (x : Held). x.handle) (get_or_from_slice_get held n one d (slice_get-get_or held n one within ∙ ap Some (sym is))) ∙ sym its_handle) next, tt);
      had = all_append (λ (x : HandleRow). Has history c x.handle x.object) rows (row ∷ []) told.had (its, tt);
      each =
          shown_more (rows ++ row ∷ [])
          (λ h o shown. list_any_left (λ (x : HandleRow). (x.handle == h) && (x.object == o)) rows (row ∷ []) shown)
          here;
    }

-- Each handle that a device's history grants has a row.
pub all_rows : (history : List AnsweredEvent) (c : ℕ) (held : List Held) (rows : List HandleRow)
    → ((h s : ℕ) → is_held_since held h s ≡ is_given_at (last_gift history c h) s)
    → (IsOfDevice history → AllByRecursion (IsShown history c rows) held) →
    IsOfDevice history → (h o : ℕ) → Has history c h o → is_shown rows h o ≡ true
all_rows history c held rows are each of_device h o has =
    let since = had_is_given history c h o of_device has in
    let found =
    some_passing (λ (one : Held). (one.handle == h) && (one.step == since.0)) (IsShown history c rows) held
    (each of_device) (are h since.0 ∙ since.1) in
    let same : found.0.handle ≡ h =
    eqb-true found.0.handle h (and_parts (found.0.handle == h) (found.0.step == since.0) found.1).0 in
    subst (λ k. is_shown rows k o ≡ true) same (found.2 o (subst (λ k. Has history c k o) (sym same) has))
