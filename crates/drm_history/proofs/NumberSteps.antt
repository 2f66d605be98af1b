-- What one step does to a list of rows with numbers under which objects are published: names, tokens or framebuffers.
use Rattle.std.proofs.Common.{◌≡◌, ℕ, ◌==◌, Bool, true, false, cond, ◌||◌, List, [], ◌∷◌, ◌++◌, map, filter, find, Option, None, Some, refl, sym, ◌∙◌, ap, eq-eqb}
use Rattle.std.specs.Prelude.{unwrap_or}
use Rattle.std.specs.List.{AllByRecursion, list_any}
use Rattle.std.specs.Option.{is_some, option_map}
use Rattle.std.proofs.lemmas.Bool.{eqb-true}
use Rattle.drm_index_array.specs.Numbers.{is_among}
use Rattle.drm_index_array.specs.Orders.{InOrder}
use Rattle.drm_index_array.proofs.Lists.{all_append, all_both, all_filter, all_weaker}
use Rattle.drm_index_array.proofs.Numbers.{flipped}
use Rattle.drm_index_array.proofs.Orders.{in_order_append, in_order_filter}
use Rattle.drm_index_array.proofs.Rising.{all_found_apart, found}
use Rattle.drm_table.specs.declared.answers.Answer.TheVariants.{Number}
use Rattle.drm_table.specs.declared.calls.Call.TheVariants.{AddFb}
use Rattle.drm_table.specs.declared.events.Event.TheVariants.{Ask}
use Rattle.drm_model.specs.Rows.{FramebufferRow}
use Rattle.drm_history.specs.History.{AnsweredEvent}
use Rattle.drm_history.specs.Steps.{Key, Framebuffer}
use Rattle.drm_history.proofs.HistoryFunctions.{holder_under, Holder, Question, Held, Published, Publisher, told, from_holder, last_under}
use Rattle.std.proofs.lemmas.Option.{same_Some}

-- what the history describes each row's number
abbrev pub Tells : {X : Type 0} → List AnsweredEvent → (ℕ → Question) → (X → ℕ) → (X → ℕ) → List X → Type 0
Tells past question number value rows =
    AllByRecursion (λ row. told past (question (number row)) ≡ Some (value row)) rows

-- the step publishes the handle's object under this number, and nothing else of the kind
abbrev pub PublishesAt : AnsweredEvent → (ℕ → Key) → ℕ → Holder → Type 0
PublishesAt step key n holder = (m : ℕ) → holder_under step (key m) ≡ cond (n == m) (Some holder) None

-- a question of keys, which a step answers where it publishes
abbrev pub IsAnswered : AnsweredEvent → List AnsweredEvent → (ℕ → Key) → (ℕ → Question) → (Holder → Option ℕ) → Type 0
IsAnswered step past key question had =
    (n : ℕ) → told (step ∷ past) (question n) ≡ from_holder (holder_under step (key n)) had (told past (question n))

-- A step that publishes sets the object under its key to that of the handle; any other step leaves it.
pub object_answered : (step : AnsweredEvent) (past : List AnsweredEvent) (key : ℕ → Key)
    → IsAnswered step past key (λ n. Published (key n)) (λ holder. told past (Held holder.client holder.handle))
unfolding told
object_answered step past key = λ n. refl

-- A step that publishes sets the publisher under its key to its client; any other step leaves it.
pub client_answered : (step : AnsweredEvent) (past : List AnsweredEvent) (key : ℕ → Key)
    → IsAnswered step past key (λ n. Publisher (key n)) (λ holder. Some holder.client)
unfolding told
client_answered step past key = λ n. refl

module _ {X : Type 0} (step : AnsweredEvent) (past : List AnsweredEvent) (key : ℕ → Key) (question : ℕ → Question) (had : Holder → Option ℕ) (answered : IsAnswered step past key question had) (number value : X → ℕ) where
  -- The history reports of each row what it did, if the step publishes nothing of the kind.
  pub tells_still : ((n : ℕ) → holder_under step (key n) ≡ None) → (rows : List X)
      → Tells past question number value rows → Tells (step ∷ past) question number value rows
  tells_still none rows h =
      all_weaker (λ (row : X). told past (question (number row)) ≡ Some (value row))
      (λ (row : X). told (step ∷ past) (question (number row)) ≡ Some (value row))
      (λ row k. answered (number row) ∙ ap (λ p. from_holder p had (told past (question (number row)))) (none (number row)) ∙ k)
      rows h

  tells_one : (n v m u : ℕ) (holder : Holder) → PublishesAt step key n holder → had holder ≡ Some v
      → ((n == m) ≡ true → u ≡ v) → ((n == m) ≡ false → told past (question m) ≡ Some u)
      → told (step ∷ past) (question m) ≡ Some u
  tells_one n v m u holder p held here there =
      answered m ∙ ap (λ x. from_holder x had (told past (question m))) (p m)
      ∙ elim (n == m) as (λ b. (n == m) ≡ b → from_holder (cond b (Some holder) None) had (told past (question m)) ≡ Some u)
      [ true ↦ λ b. held ∙ ap (λ x. Some x) (sym (here b)) | false ↦ λ b. there b ] refl

  -- The history still reports of each row what it did, if the step publishes under one number and rows of it have the
  -- published value.
  pub tells_again : (n v : ℕ) (holder : Holder) → PublishesAt step key n holder → had holder ≡ Some v → (rows : List X)
      → AllByRecursion (λ row. (n == number row) ≡ true → value row ≡ v) rows →
      Tells past question number value rows → Tells (step ∷ past) question number value rows
  tells_again n v holder p held [] only h = tt
  tells_again n v holder p held (x ∷ xs) only h =
      (tells_one n v (number x) (value x) holder p held only.0 (λ b. h.0), tells_again n v holder p held xs only.1 h.1)

  -- The history reports of a new row what its step publishes, if no other row has its number.
  pub tells_more : (x : X) (holder : Holder) → PublishesAt step key (number x) holder → had holder ≡ Some (value x)
      → (rows : List X) → AllByRecursion (λ row. (number row == number x) ≡ false) rows →
      Tells past question number value rows → Tells (step ∷ past) question number value (rows ++ x ∷ [])
  tells_more x holder p held rows free h =
      all_append (λ (row : X). told (step ∷ past) (question (number row)) ≡ Some (value row)) rows (x ∷ [])
      (tells_again (number x) (value x) holder p held rows
      (all_weaker (λ (row : X). (number row == number x) ≡ false) (λ (row : X). (number x == number row) ≡ true → value row ≡ value x)
      (λ row e k. absurd (let no : false ≡ true = sym (flipped (number row) (number x) e) ∙ k in cc)) rows free) h)
      (tells_one (number x) (value x) (number x) (value x) holder p held (λ b. refl) (λ b. absurd (let no : true ≡ false = sym (eq-eqb (number x) (number x) refl) ∙ b in cc)), tt)

-- ---- rows of a kind next to their history

abbrev pub NumbersApart : {X : Type 0} → (X → ℕ) → List X → Type 0
NumbersApart number rows = InOrder (λ x y. (number x == number y) ≡ false) rows

pub record Numbered {X : Type 0} (past : List AnsweredEvent) (key : ℕ → Key) (number object : X → ℕ) (rows : List X) : Type 0 where
  pub objects : Tells past (λ n. Published (key n)) number object rows
  pub differ : NumbersApart number rows

-- If no row has a number, each row has another.
pub other_numbers : {X : Type 0} (number : X → ℕ) (n : ℕ) → (rows : List X) → is_among (map number rows) n ≡ false
    → AllByRecursion (λ row. (number row == n) ≡ false) rows
other_numbers number n [] h = tt
other_numbers number n (x ∷ xs) h =
    elim (number x == n) as (λ b. (b || list_any (λ m. m == n) (map number xs)) ≡ false → (b ≡ false) × AllByRecursion (λ row. (number row == n) ≡ false) xs)
    [ true ↦ λ e. absurd (let no : true ≡ false = e in cc) | false ↦ λ e. (refl, other_numbers number n xs e) ] h

module _ {X : Type 0} (key : ℕ → Key) (number object : X → ℕ) where
  -- Some of the rows of a list still follow from the history.
  pub numbered_fewer : (past : List AnsweredEvent) (p : X → Bool) (rows : List X) → Numbered past key number object rows
      → Numbered past key number object (filter p rows)
  numbered_fewer past p rows f = record {
    objects = all_filter (λ (row : X). told past (Published (key (number row))) ≡ Some (object row)) p rows f.objects;
    differ = in_order_filter (λ (x y : X). (number x == number y) ≡ false) p rows f.differ;
  }

  -- Rows still follow from the history after a step that publishes nothing of their kind.
  pub numbered_still : (step : AnsweredEvent) (past : List AnsweredEvent) → ((n : ℕ) → holder_under step (key n) ≡ None)
      → (rows : List X) → Numbered past key number object rows → Numbered (step ∷ past) key number object rows
  numbered_still step past none rows f = record {
    objects =
        tells_still step past key (λ n. Published (key n)) (λ holder. told past (Held holder.client holder.handle))
        (object_answered step past key) number object none rows f.objects;
    differ = f.differ;
  }

  -- Rows with a new one still follow from the history after the step that published it under a free number.
  pub numbered_more : (step : AnsweredEvent) (past : List AnsweredEvent) (x : X) (holder : Holder)
      → PublishesAt step key (number x) holder → told past (Held holder.client holder.handle) ≡ Some (object x) →
      (rows : List X) → is_among (map number rows) (number x) ≡ false → Numbered past key number object rows
      → Numbered (step ∷ past) key number object (rows ++ x ∷ [])
  numbered_more step past x holder p held rows free f =
      let others = other_numbers number (number x) rows free in
      record {
        objects =
            tells_more step past key (λ n. Published (key n))
            (λ held_by. told past (Held held_by.client held_by.handle)) (object_answered step past key) number object x
            holder p held rows others f.objects;
        differ = in_order_append (λ (a b : X). (number a == number b) ≡ false) rows x f.differ others;
      }

  -- a row's number is reported to have its object
  pub numbered_found : (past : List AnsweredEvent) (n : ℕ) (rows : List X) (x : X)
      → find (λ row. number row == n) rows ≡ Some x → Numbered past key number object rows
      → told past (Published (key n)) ≡ Some (object x)
  numbered_found past n rows x e f =
      let is =
      found (λ (row : X). number row == n)
      (λ (row : X). told past (Published (key (number row))) ≡ Some (object row)) x rows f.objects e in
      ap (λ m. told past (Published (key m))) (sym (eqb-true (number x) n is.0)) ∙ is.1

  numbered_told_of : (past : List AnsweredEvent) (n : ℕ) (rows : List X) (r : Option X)
      → find (λ row. number row == n) rows ≡ r → is_some (option_map object r) ≡ true
      → Numbered past key number object rows →
      told past (Published (key n)) ≡ Some (unwrap_or (option_map object r) 0)
  numbered_told_of past n rows (Some x) e there f = numbered_found past n rows x e f
  numbered_told_of past n rows None e there f = absurd (let no : false ≡ true = there in cc)

  -- a number that is some row's is reported to have its object
  pub numbered_told : (past : List AnsweredEvent) (n : ℕ) (rows : List X)
      → is_some (option_map object (find (λ row. number row == n) rows)) ≡ true → Numbered past key number object rows →
      told past (Published (key n)) ≡ Some (unwrap_or (option_map object (find (λ row. number row == n) rows)) 0)
  numbered_told past n rows there f = numbered_told_of past n rows (find (λ row. number row == n) rows) refl there f

  -- Rows still follow from the history after a step that publishes an object again under the number of its row.
  pub numbered_again : (step : AnsweredEvent) (past : List AnsweredEvent) (x : X) (o : ℕ) (holder : Holder)
      → PublishesAt step key (number x) holder → told past (Held holder.client holder.handle) ≡ Some o →
      (rows : List X) → find (λ row. object row == o) rows ≡ Some x → Numbered past key number object rows
      → Numbered (step ∷ past) key number object rows
  numbered_again step past x o holder p held rows e f =
      let all = all_found_apart number rows f.differ in
      let is =
      found (λ (row : X). object row == o) (λ (row : X). find (λ y. number y == number row) rows ≡ Some row) x rows
      all e in
      record {
        objects =
            tells_again step past key (λ n. Published (key n))
            (λ held_by. told past (Held held_by.client held_by.handle)) (object_answered step past key) number object
            (number x) o holder p held rows
            (all_weaker (λ (row : X). find (λ y. number y == number row) rows ≡ Some row) (λ (row : X). (number x == number row) ≡ true → object row ≡ o)
            (λ row own k. ap object (same_Some row x (sym own ∙ ap (λ n. find (λ y. number y == n) rows) (sym (eqb-true (number x) (number row) k)) ∙ is.1)) ∙ eqb-true (object x) o is.0) rows all) f.objects;
        differ = f.differ;
      }

-- ---- rows of a kind that have a client: it published the object

pub record Owned {X : Type 0} (past : List AnsweredEvent) (key : ℕ → Key) (number object client : X → ℕ) (rows : List X) : Type 0 where
  pub numbered : Numbered past key number object rows
  pub clients : Tells past (λ n. Publisher (key n)) number client rows

module _ {X : Type 0} (key : ℕ → Key) (number object client : X → ℕ) where
  -- Some of the rows of a list with clients still follow from the history.
  pub owned_fewer : (past : List AnsweredEvent) (p : X → Bool) (rows : List X)
      → Owned past key number object client rows → Owned past key number object client (filter p rows)
  owned_fewer past p rows f = record {
    numbered = numbered_fewer key number object past p rows f.numbered;
    clients = all_filter (λ (row : X). told past (Publisher (key (number row))) ≡ Some (client row)) p rows f.clients;
  }

  -- Rows with clients still follow from the history after a step that publishes nothing of their kind.
  pub owned_still : (step : AnsweredEvent) (past : List AnsweredEvent) → ((n : ℕ) → holder_under step (key n) ≡ None)
      → (rows : List X) → Owned past key number object client rows → Owned (step ∷ past) key number object client rows
  owned_still step past none rows f = record {
    numbered = numbered_still key number object step past none rows f.numbered;
    clients =
        tells_still step past key (λ n. Publisher (key n)) (λ holder. Some holder.client)
        (client_answered step past key) number client none rows f.clients;
  }

  -- Rows with a new one of a client follow from the history after the step in which the client published it.
  pub owned_more : (step : AnsweredEvent) (past : List AnsweredEvent) (x : X) (handle : ℕ)
      → PublishesAt step key (number x) (record { client = client x; handle = handle })
      → told past (Held (client x) handle) ≡ Some (object x) →
      (rows : List X) → is_among (map number rows) (number x) ≡ false → Owned past key number object client rows
      → Owned (step ∷ past) key number object client (rows ++ x ∷ [])
  owned_more step past x handle p held rows free f =
      let holder : Holder = record { client = client x; handle = handle } in
      record {
        numbered = numbered_more key number object step past x holder p held rows free f.numbered;
        clients =
            tells_more step past key (λ n. Publisher (key n)) (λ held_by. Some held_by.client)
            (client_answered step past key) number client x holder p refl rows
            (other_numbers number (number x) rows free) f.clients;
      }

-- ---- framebuffers have the shape that they were added with

-- the step that adds the framebuffer over the object of this handle
abbrev pub adding : FramebufferRow → ℕ → AnsweredEvent
adding row handle =
    record
    { event = Ask row.client (AddFb row.width row.height row.pitch row.bpp handle); answer = Number row.framebuffer }

-- the last step that published under its id added it
abbrev pub WasAdded : List AnsweredEvent → FramebufferRow → Type 0
WasAdded past row = (handle : ℕ) × (last_under past (Framebuffer row.framebuffer) ≡ Some (adding row handle))

-- Framebuffers keep the step that added them over a step that publishes no framebuffer.
pub added_still : (step : AnsweredEvent) (past : List AnsweredEvent)
    → ((n : ℕ) → holder_under step (Framebuffer n) ≡ None) → (rows : List FramebufferRow)
    → AllByRecursion (WasAdded past) rows → AllByRecursion (WasAdded (step ∷ past)) rows
unfolding last_under
added_still step past none rows h =
    all_weaker (WasAdded past) (WasAdded (step ∷ past)) (λ row k. (k.0, rw (none row.framebuffer) k.1)) rows h

-- Framebuffers keep the step that added them if one more is added under a free id.
pub added_more : (past : List AnsweredEvent) (x : FramebufferRow) (handle : ℕ)
    → PublishesAt (adding x handle) Framebuffer x.framebuffer (record { client = x.client; handle = handle })
    → (rows : List FramebufferRow) →
    is_among (map (λ (row : FramebufferRow). row.framebuffer) rows) x.framebuffer ≡ false → AllByRecursion
    (WasAdded past) rows → AllByRecursion (WasAdded (adding x handle ∷ past)) (rows ++ x ∷ [])
unfolding last_under
added_more past x handle p rows free h =
    all_append (WasAdded (adding x handle ∷ past)) rows (x ∷ [])
    (all_both (λ (row : FramebufferRow). (row.framebuffer == x.framebuffer) ≡ false) (WasAdded past) (WasAdded (adding x handle ∷ past))
    (λ row other k. (k.0, rw (p row.framebuffer, flipped row.framebuffer x.framebuffer other) k.1)) rows (other_numbers (λ (row : FramebufferRow). row.framebuffer) x.framebuffer rows free) h)
    ((handle, rw (p x.framebuffer, eq-eqb x.framebuffer x.framebuffer refl) refl), tt)
