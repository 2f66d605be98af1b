-- What one step does to the handles that a history grants and to the rows of handles, for each way in which a step can
-- change them.
use Rattle.std.proofs.Common.{◌≡◌, ℕ, ◌==◌, Bool, true, false, cond, not, ◌&&◌, List, [], ◌∷◌, ◌++◌, filter, find, map, Option, None, Some, refl, sym, ◌∙◌, ap, eq-eqb}
use Rattle.std.specs.List.{AllByRecursion}
use Rattle.std.specs.Option.{option_map, option_or}
use Rattle.std.proofs.lemmas.Bool.{eqb-true, and_parts}
use Rattle.std.proofs.lemmas.List.Folds.{find-append}
use Rattle.drm_index_array.specs.Orders.{InOrder}
use Rattle.drm_index_array.proofs.Lists.{all_both, all_weaker}
use Rattle.drm_index_array.proofs.FoundInLists.{none_found}
use Rattle.drm_index_array.proofs.Numbers.{same_either}
use Rattle.drm_index_array.proofs.Orders.{in_order_filter, in_order_append}
use Rattle.drm_index_array.proofs.Rising.{in_order_kept}
use Rattle.drm_model.specs.Rows.{HandleRow, is_handle}
use Rattle.drm_history.specs.History.{AnsweredEvent, next_number}
use Rattle.drm_history.specs.Steps.{Source, Creation, Transfer, takes}
use Rattle.drm_history.proofs.HistoryFunctions.{none_some, gift, Held, Published, told, from_source, Keeps, Kept}
use Rattle.std.proofs.lemmas.Option.{same_Some}

-- ---- rows of handles

abbrev pub object_at : List HandleRow → ℕ → ℕ → Option ℕ
object_at rows c h = option_map (λ (row : HandleRow). row.object) (find (is_handle c h) rows)

abbrev pub same_hold : HandleRow → HandleRow → Bool
same_hold x y = is_handle x.client x.handle y

abbrev pub HandlesDiffer : List HandleRow → Type 0
HandlesDiffer rows = InOrder (λ (x y : HandleRow). same_hold x y ≡ false) rows

-- Two rows are of the same handle in either order.
pub hold_turned : (x y : HandleRow) → same_hold x y ≡ same_hold y x
hold_turned x y =
    ap (λ b. b && (y.handle == x.handle)) (same_either y.client x.client)
    ∙ ap (λ b. (x.client == y.client) && b) (same_either y.handle x.handle)

-- A row is of the same handle as itself.
pub hold_itself : (x : HandleRow) → same_hold x x ≡ true
hold_itself x = ap (λ b. b && (x.handle == x.handle)) (eq-eqb x.client x.client refl) ∙ eq-eqb x.handle x.handle refl

-- If no two rows have the same client and handle, each row is found by them.
pub all_held : (rows : List HandleRow) → HandlesDiffer rows
    → AllByRecursion (λ (row : HandleRow). object_at rows row.client row.handle ≡ Some row.object) rows
all_held [] h = tt
all_held (x ∷ xs) h = (
  ap (λ b. option_map (λ (row : HandleRow). row.object) (cond b (Some x) (find (same_hold x) xs))) (hold_itself x),
  all_both (λ (y : HandleRow). same_hold x y ≡ false)
      (λ (y : HandleRow). object_at xs y.client y.handle ≡ Some y.object)
      (λ (y : HandleRow). object_at (x ∷ xs) y.client y.handle ≡ Some y.object)
      (λ y e k. ap (λ b. option_map (λ (row : HandleRow). row.object) (cond b (Some x) (find (same_hold y) xs))) (hold_turned y x ∙ e) ∙ k)
      xs h.0 (all_held xs h.1),
)

-- If a handle is free, a row of it may be added, and no two rows have the same client and handle.
pub with_free : (rows : List HandleRow) (x : HandleRow) → find (is_handle x.client x.handle) rows ≡ None
    → HandlesDiffer rows → HandlesDiffer (rows ++ x ∷ [])
with_free rows x free h =
    in_order_append (λ (a b : HandleRow). same_hold a b ≡ false) rows x h
    (all_weaker (λ (y : HandleRow). is_handle x.client x.handle y ≡ false) (λ (y : HandleRow). same_hold y x ≡ false) (λ y k. hold_turned y x ∙ k) rows (none_found (is_handle x.client x.handle) rows free))

-- What is computed from a client and a handle is the same for the same client and handle.
pub same_holder : (c h d k : ℕ) (X : Type 0) (f : ℕ → ℕ → X) → ((c == d) && (h == k)) ≡ true → f c h ≡ f d k
same_holder c h d k X f e =
    let both = and_parts (c == d) (h == k) e in
    ap (λ x. f x h) (eqb-true c d both.0) ∙ ap (f d) (eqb-true h k both.1)

-- ---- what the history grants is what the rows have

abbrev pub HoldsAgree : List AnsweredEvent → List HandleRow → Type 0
HoldsAgree past rows = (c h : ℕ) → told past (Held c h) ≡ object_at rows c h

-- A step that grants and takes no handle leaves the rows in agreement with the history, if each handle keeps its
-- object.
pub kept_agrees : (step : AnsweredEvent) (past : List AnsweredEvent) (rows after : List HandleRow)
    → ((c h : ℕ) → gift step c h ≡ None) → ((c h : ℕ) → takes step c h ≡ false) →
    ((c h : ℕ) → object_at after c h ≡ object_at rows c h) → HoldsAgree past rows → HoldsAgree (step ∷ past) after
unfolding told
kept_agrees step past rows after g t same a = λ c h. rw (g c h, t c h) (a c h ∙ sym (same c h))

-- A step that grants no handle overwrites none.
pub giftless_keeps : (step : AnsweredEvent) (past : List AnsweredEvent) → ((c h : ℕ) → gift step c h ≡ None)
    → Keeps step past
unfolding told
giftless_keeps step past g = λ c h o k t. rw (g c h, t) k

abbrev pub kept_by : (ℕ → ℕ → Bool) → HandleRow → Bool
kept_by test row = not (test row.client row.handle)

none_either : (t : Bool)
    → option_map (λ (row : HandleRow). row.object) None ≡ cond t None (option_map (λ (row : HandleRow). row.object) None)
none_either true = refl
none_either false = refl

-- Without the rows that a test removes, a handle has no object if it passes the test, and its old object if not.
pub without_at : (test : ℕ → ℕ → Bool) (c h : ℕ) → (rows : List HandleRow)
    → object_at (filter (kept_by test) rows) c h ≡ cond (test c h) None (object_at rows c h)
without_at test c h [] = none_either (test c h)
without_at test c h (x ∷ xs) =
    let f = λ (row : HandleRow). row.object in
    let q = is_handle c h in
    let rest = filter (kept_by test) xs in
    elim (is_handle c h x) as (λ b. is_handle c h x ≡ b → option_map f (find q (cond (not (test x.client x.handle)) (x ∷ rest) rest)) ≡ cond (test c h) None (option_map f (cond b (Some x) (find q xs)))) [
      | true ↦ λ e. ap (λ t. option_map f (find q (cond (not t) (x ∷ rest) rest))) (same_holder x.client x.handle c h Bool test e)
          ∙ elim (test c h) as (λ t. option_map f (find q rest) ≡ cond t None (option_map f (find q xs)) → option_map f (find q (cond (not t) (x ∷ rest) rest)) ≡ cond t None (Some x.object))
          [ true ↦ λ ih. ih | false ↦ λ ih. ap (λ b. option_map f (cond b (Some x) (find q rest))) e ]
          (without_at test c h xs)
      | false ↦ λ e. elim (test x.client x.handle) as (λ t. option_map f (find q (cond (not t) (x ∷ rest) rest)) ≡ cond (test c h) None (option_map f (find q xs)))
          [ true ↦ without_at test c h xs | false ↦ ap (λ b. option_map f (cond b (Some x) (find q rest))) e ∙ without_at test c h xs ]
    ] refl

-- If a step takes handles and grants none, the rows without them agree with the history.
pub taken_agrees : (step : AnsweredEvent) (past : List AnsweredEvent) (test : ℕ → ℕ → Bool) (rows : List HandleRow)
    → ((c h : ℕ) → gift step c h ≡ None) → ((c h : ℕ) → takes step c h ≡ test c h) →
    HoldsAgree past rows → HoldsAgree (step ∷ past) (filter (kept_by test) rows)
unfolding told
taken_agrees step past test rows g t a = λ c h. rw (g c h, t c h, a c h) (sym (without_at test c h rows))

-- a step that returns c the handle h
abbrev pub Gives : AnsweredEvent → ℕ → ℕ → Source → Type 0
Gives step c h source = (d k : ℕ) → gift step d k ≡ cond ((c == d) && (h == k)) (Some source) None

-- the object of the source
abbrev pub source_told : List AnsweredEvent → Source → Option ℕ
source_told past source = from_source (Some source) (next_number past) (λ key. told past (Published key)) None

given_one : (past : List AnsweredEvent) (source : Source) (o : ℕ) (b : Bool) (old new : Option ℕ)
    → source_told past source ≡ Some o → (b ≡ true → new ≡ Some o) → (b ≡ false → new ≡ old) →
    from_source (cond b (Some source) None) (next_number past) (λ key. told past (Published key)) old ≡ new
given_one past Creation o true old new s p q = s ∙ sym (p refl)
given_one past (Transfer key) o true old new s p q = s ∙ sym (p refl)
given_one past source o false old new s p q = sym (q refl)

-- If a step grants a handle of an object and the rows then have it, they still agree with the history.
pub given_agrees : (step : AnsweredEvent) (past : List AnsweredEvent) (rows after : List HandleRow) (c h o : ℕ) (source : Source)
    → Gives step c h source → ((d k : ℕ) → takes step d k ≡ false) → source_told past source ≡ Some o →
    ((d k : ℕ) → object_at after d k ≡ cond ((c == d) && (h == k)) (Some o) (object_at rows d k)) → HoldsAgree past rows
    → HoldsAgree (step ∷ past) after
unfolding told
given_agrees step past rows after c h o source g t s r a = λ d k.
    rw (g d k, t d k) (given_one past source o ((c == d) && (h == k)) (told past (Held d k)) (object_at after d k) s
    (λ b. r d k ∙ ap (λ x. cond x (Some o) (object_at rows d k)) b) (λ b. r d k ∙ ap (λ x. cond x (Some o) (object_at rows d k)) b ∙ sym (a d k)))

-- A step overwrites no handle if the handle that it grants was free or of the same object.
pub given_keeps : (step : AnsweredEvent) (past : List AnsweredEvent) (c h o : ℕ) (source : Source)
    → Gives step c h source → source_told past source ≡ Some o → ((p : ℕ) → told past (Held c h) ≡ Some p → p ≡ o)
    → Keeps step past
unfolding told
given_keeps step past c h o source g s only = λ d k p held t.
    rw (g d k, t) (given_one past source o ((c == d) && (h == k)) (told past (Held d k)) (Some p) s
    (λ b. ap (λ x. Some x) (only p (same_holder c h d k (Option ℕ) (λ x y. told past (Held x y)) b ∙ held))) (λ b. sym held))

at_free : (o : Option HandleRow) (x : HandleRow) → option_map (λ (row : HandleRow). row.object) o ≡ None
    → option_map (λ (row : HandleRow). row.object) (option_or o (Some x)) ≡ Some x.object
at_free None x h = refl
at_free (Some y) x h = none_some y.object (sym h)

or_none : {X : Type 0} (o : Option X) → option_or o None ≡ o
or_none None = refl
or_none (Some x) = refl

-- With a new row at a free handle, this handle has the object of the row, and all others have what they had.
pub append_at : (rows : List HandleRow) (x : HandleRow) → object_at rows x.client x.handle ≡ None → (d k : ℕ) →
    object_at (rows ++ x ∷ []) d k ≡ cond ((x.client == d) && (x.handle == k)) (Some x.object) (object_at rows d k)
append_at rows x free d k =
    let f = λ (row : HandleRow). row.object in
    ap (option_map f) (find-append (is_handle d k) rows (x ∷ []))
    ∙ elim (is_handle d k x) as (λ b. is_handle d k x ≡ b → option_map f (option_or (find (is_handle d k) rows) (cond b (Some x) None)) ≡ cond b (Some x.object) (object_at rows d k)) [
      | true ↦ λ e. at_free (find (is_handle d k) rows) x (sym (same_holder x.client x.handle d k (Option ℕ) (object_at rows) e) ∙ free)
      | false ↦ λ e. ap (option_map f) (or_none (find (is_handle d k) rows))
    ] refl

-- If a handle has an object already, nothing changes by assigning it again.
pub again_at : (rows : List HandleRow) (c h o : ℕ) → object_at rows c h ≡ Some o → (d k : ℕ)
    → object_at rows d k ≡ cond ((c == d) && (h == k)) (Some o) (object_at rows d k)
again_at rows c h o held d k =
    elim ((c == d) && (h == k)) as (λ b. ((c == d) && (h == k)) ≡ b → object_at rows d k ≡ cond b (Some o) (object_at rows d k))
    [ true ↦ λ e. sym (same_holder c h d k (Option ℕ) (object_at rows) e) ∙ held | false ↦ λ e. refl ] refl

-- ---- rows of handles next to their history

pub record HoldFacts (past : List AnsweredEvent) (holds : List HandleRow) : Type 0 where
  pub agree : HoldsAgree past holds
  pub kept : Kept past
  pub differ : HandlesDiffer holds

-- A history without steps grants no handle, as empty rows have none.
pub no_holds : HoldFacts [] []
unfolding told Kept
no_holds = record { agree = λ c h. refl; kept = tt; differ = tt }

-- Rows of handles still follow from the history after a step that grants and takes no handle.
pub holds_stay : (step : AnsweredEvent) (past : List AnsweredEvent) (holds : List HandleRow)
    → ((c h : ℕ) → gift step c h ≡ None) → ((c h : ℕ) → takes step c h ≡ false) → HoldFacts past holds
    → HoldFacts (step ∷ past) holds
unfolding Kept
holds_stay step past holds g t f =
    record
    { agree = kept_agrees step past holds holds g t (λ c h. refl) f.agree; kept = (giftless_keeps step past g, f.kept); differ = f.differ }

-- Rows of handles still follow after a step that changes them, but no client, handle or object.
pub holds_change : (step : AnsweredEvent) (past : List AnsweredEvent) (change : HandleRow → HandleRow) (holds : List HandleRow)
    → ((c h : ℕ) (row : HandleRow) → is_handle c h (change row) ≡ is_handle c h row) →
    ((row : HandleRow) → (change row).object ≡ row.object)
    → ((x y : HandleRow) → same_hold (change x) y ≡ same_hold x y) →
    ((c h : ℕ) → gift step c h ≡ None) → ((c h : ℕ) → takes step c h ≡ false) → HoldFacts past holds → HoldFacts
    (step ∷ past) (map change holds)
unfolding Kept
holds_change step past change holds same object from g t f = record {
  agree = kept_agrees step past holds (map change holds) g t (λ c h. at c h holds) f.agree;
  kept = (giftless_keeps step past g, f.kept);
  differ =
      in_order_kept (λ (x y : HandleRow). same_hold x y ≡ false) change
      (λ x y e. from x (change y) ∙ same x.client x.handle y ∙ e) holds f.differ;
}
  where
    at : (c h : ℕ) → (rows : List HandleRow) → object_at (map change rows) c h ≡ object_at rows c h
    at c h [] = refl
    at c h (x ∷ xs) =
        let f = λ (row : HandleRow). row.object in
        ap (λ b. option_map f (cond b (Some (change x)) (find (is_handle c h) (map change xs)))) (same c h x)
        ∙ elim (is_handle c h x) as (λ b. option_map f (cond b (Some (change x)) (find (is_handle c h) (map change xs))) ≡ option_map f (cond b (Some x) (find (is_handle c h) xs)))
        [ true ↦ ap (λ n. Some n) (object x) | false ↦ at c h xs ]

-- Rows of handles still follow after a step that takes handles, if their rows are removed.
pub holds_go : (step : AnsweredEvent) (past : List AnsweredEvent) (test : ℕ → ℕ → Bool) (holds : List HandleRow)
    → ((c h : ℕ) → gift step c h ≡ None) → ((c h : ℕ) → takes step c h ≡ test c h) → HoldFacts past holds
    → HoldFacts (step ∷ past) (filter (kept_by test) holds)
unfolding Kept
holds_go step past test holds g t f = record {
  agree = taken_agrees step past test holds g t f.agree;
  kept = (giftless_keeps step past g, f.kept);
  differ = in_order_filter (λ (x y : HandleRow). same_hold x y ≡ false) (kept_by test) holds f.differ;
}

-- Rows of handles still follow after a step that grants a free handle, if its row is added.
pub hold_comes : (step : AnsweredEvent) (past : List AnsweredEvent) (x : HandleRow) (source : Source) (holds : List HandleRow)
    → Gives step x.client x.handle source → ((c h : ℕ) → takes step c h ≡ false) →
    source_told past source ≡ Some x.object → find (is_handle x.client x.handle) holds ≡ None → HoldFacts past holds →
    HoldFacts (step ∷ past) (holds ++ x ∷ [])
unfolding Kept
hold_comes step past x source holds g t s free f =
    let none : object_at holds x.client x.handle ≡ None = ap (option_map (λ (row : HandleRow). row.object)) free in
    record {
      agree =
          given_agrees step past holds (holds ++ x ∷ []) x.client x.handle x.object source g t s
          (append_at holds x none) f.agree;
      kept =
          (given_keeps step past x.client x.handle x.object source g s (λ q held. none_some q (sym (f.agree x.client x.handle ∙ none) ∙ held)), f.kept);
      differ = with_free holds x free f.differ;
    }

-- Rows of handles still follow after a step that grants a handle that the client has already.
pub hold_comes_again : (step : AnsweredEvent) (past : List AnsweredEvent) (c h o : ℕ) (source : Source) (holds : List HandleRow)
    → Gives step c h source → ((d k : ℕ) → takes step d k ≡ false) →
    source_told past source ≡ Some o → object_at holds c h ≡ Some o → HoldFacts past holds → HoldFacts (step ∷ past)
    holds
unfolding Kept
hold_comes_again step past c h o source holds g t s here f = record {
  agree = given_agrees step past holds holds c h o source g t s (again_at holds c h o here) f.agree;
  kept = (given_keeps step past c h o source g s (λ q held. same_Some q o (sym held ∙ f.agree c h ∙ here)), f.kept);
  differ = f.differ;
}
