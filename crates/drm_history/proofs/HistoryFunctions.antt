-- What a history describes a handle or of a key, as a function, and that it is what the definitions say.
use Rattle.std.proofs.Common.{◌≡◌, ℕ, ◌==◌, Bool, true, false, cond, ◌&&◌, List, [], ◌∷◌, ◌++◌, Option, None, Some, refl, sym, ◌∙◌, ap, subst, eq-eqb}
use Rattle.std.specs.Prelude.{if◌then◌else◌}
use Rattle.std.specs.List.{AllByRecursion}
use Rattle.std.specs.Option.{option_map_or}
use Rattle.std.proofs.lemmas.Bool.{eqb-true, and_parts}
use Rattle.drm_history.specs.History.{AnsweredEvent, next_number}
use Rattle.drm_history.specs.Steps.{Key, Name, Token, Framebuffer, is_key, Source, Creation, Transfer, Giving, Publishing, given, takes, published, publishes}
use Rattle.drm_history.specs.Holds.{WasGiven, WasPublished, Has, made, passed, LastHad}
use Rattle.std.proofs.lemmas.Option.{same_Some}

-- No option is both empty and full.
pub none_some : {X : Type 0} {P : Type 0} (a : X) → None ≡ Some a → P
none_some a h = absurd (let e : None ≡ Some a = h in cc)

-- ---- a step, asked for one handle and for one key

abbrev pub gift_in : ℕ → ℕ → Option Giving → Option Source
gift_in c h None = None
gift_in c h (Some g) = if (g.client == c) && (g.handle == h) then Some g.source else None

-- where the step's gift of this handle is from, if it returns it
unfoldable pub gift : AnsweredEvent → ℕ → ℕ → Option Source
gift step c h = gift_in c h (given step)

pub record Holder : Type 0 where
  pub client : ℕ
  pub handle : ℕ

abbrev pub holder_in : Key → Option Publishing → Option Holder
holder_in key None = None
holder_in key (Some p) = if is_key p.key key then Some (record { client = p.client; handle = p.handle }) else None

-- whose handle the step publishes under the key, if it does
unfoldable pub holder_under : AnsweredEvent → Key → Option Holder
holder_under step key = holder_in key (published step)

is_key-same : (a b : Key) → is_key a b ≡ true → a ≡ b
is_key-same (Name m) (Name n) h = ap (λ k. Name k) (eqb-true m n h)
is_key-same (Token m) (Token n) h = ap (λ k. Token k) (eqb-true m n h)
is_key-same (Framebuffer m) (Framebuffer n) h = ap (λ k. Framebuffer k) (eqb-true m n h)
is_key-same (Name m) (Token n) h = absurd (let e : false ≡ true = h in cc)
is_key-same (Name m) (Framebuffer n) h = absurd (let e : false ≡ true = h in cc)
is_key-same (Token m) (Name n) h = absurd (let e : false ≡ true = h in cc)
is_key-same (Token m) (Framebuffer n) h = absurd (let e : false ≡ true = h in cc)
is_key-same (Framebuffer m) (Name n) h = absurd (let e : false ≡ true = h in cc)
is_key-same (Framebuffer m) (Token n) h = absurd (let e : false ≡ true = h in cc)

is_key-itself : (a : Key) → is_key a a ≡ true
is_key-itself (Name m) = eq-eqb m m refl
is_key-itself (Token m) = eq-eqb m m refl
is_key-itself (Framebuffer m) = eq-eqb m m refl

giving_by : (c h : ℕ) (g : Giving) (source : Source) (b : Bool) → ((g.client == c) && (g.handle == h)) ≡ b
    → cond b (Some g.source) None ≡ Some source → g ≡ record { client = c; handle = h; source = source }
giving_by c h g source true e k =
    let both = and_parts (g.client == c) (g.handle == h) e in
    let client = eqb-true g.client c both.0 in
    let handle = eqb-true g.handle h both.1 in
    let its_source = same_Some g.source source k in
    (λ i. record { client = client i; handle = handle i; source = its_source i })
giving_by c h g source false e k = none_some source k

gift_given : (c h : ℕ) (o : Option Giving) (source : Source) → gift_in c h o ≡ Some source
    → o ≡ Some (record { client = c; handle = h; source = source })
gift_given c h None source k = none_some source k
gift_given c h (Some g) source k = ap (λ x. Some x) (giving_by c h g source ((g.client == c) && (g.handle == h)) refl k)

given_gift : (c h : ℕ) (o : Option Giving) (source : Source)
    → o ≡ Some (record { client = c; handle = h; source = source }) → gift_in c h o ≡ Some source
given_gift c h o source e =
    ap (gift_in c h) e
    ∙ ap (λ b. cond b (Some source) None) (ap (λ b. b && (h == h)) (eq-eqb c c refl) ∙ eq-eqb h h refl)

publishing_by : (key : Key) (p : Publishing) (holder : Holder) (b : Bool) → is_key p.key key ≡ b
    → cond b (Some (record { client = p.client; handle = p.handle })) None ≡ Some holder
    → p ≡ record { key = key; client = holder.client; handle = holder.handle }
publishing_by key p holder true e k =
    let its_key = is_key-same p.key key e in
    let is : record { client = p.client; handle = p.handle } ≡ holder = same_Some _ holder k in
    (λ i. record { key = its_key i; client = (is i).client; handle = (is i).handle })
publishing_by key p holder false e k = none_some holder k

holder_published : (key : Key) (o : Option Publishing) (holder : Holder) → holder_in key o ≡ Some holder
    → o ≡ Some (record { key = key; client = holder.client; handle = holder.handle })
holder_published key None holder k = none_some holder k
holder_published key (Some p) holder k = ap (λ x. Some x) (publishing_by key p holder (is_key p.key key) refl k)

published_holder : (key : Key) (c h : ℕ) (o : Option Publishing)
    → o ≡ Some (record { key = key; client = c; handle = h })
    → holder_in key o ≡ Some (record { client = c; handle = h })
published_holder key c h o e =
    ap (holder_in key) e
    ∙
    (let holder : Holder = record { client = c; handle = h } in ap (λ b. cond b (Some holder) None) (is_key-itself key))

nobody_by : (b : Bool) (holder : Holder) → cond b (Some holder) None ≡ None → b ≡ false
nobody_by true holder e = none_some holder (sym e)
nobody_by false holder e = refl

nobody_published : (key : Key) (o : Option Publishing) → holder_in key o ≡ None
    → option_map_or (λ (p : Publishing). is_key p.key key) o false ≡ false
nobody_published key None k = refl
nobody_published key (Some p) k = nobody_by (is_key p.key key) (record { client = p.client; handle = p.handle }) k

published_nobody : (key : Key) (o : Option Publishing)
    → option_map_or (λ (p : Publishing). is_key p.key key) o false ≡ false → holder_in key o ≡ None
published_nobody key None k = refl
published_nobody key (Some p) k = let holder : Holder = record { client = p.client; handle = p.handle } in ap (λ b. cond b (Some holder) None) k

-- ---- what is reported

-- the object of a handle, the object under a key, and the client that published it there
pub data Question : Type 0 where
  Held : (client handle : ℕ) → Question
  Published : (key : Key) → Question
  Publisher : (key : Key) → Question

abbrev pub from_source : Option Source → ℕ → (Key → Option ℕ) → Option ℕ → Option ℕ
from_source None step_number under old = old
from_source (Some Creation) step_number under old = Some step_number
from_source (Some (Transfer key)) step_number under old = under key

abbrev pub from_holder : {X : Type 0} → Option Holder → (Holder → Option X) → Option X → Option X
from_holder None had old = old
from_holder (Some holder) had old = had holder

unfoldable pub told : List AnsweredEvent → Question → Option ℕ
told [] question = None
told (step ∷ past) (Held c h) =
    from_source (gift step c h) (next_number past) (λ key. told past (Published key))
    (cond (takes step c h) None (told past (Held c h)))
told (step ∷ past) (Published key) =
    from_holder (holder_under step key) (λ holder. told past (Held holder.client holder.handle))
    (told past (Published key))
told (step ∷ past) (Publisher key) =
    from_holder (holder_under step key) (λ holder. Some holder.client) (told past (Publisher key))

-- a step leaves what it doesn't take
abbrev pub Keeps : AnsweredEvent → List AnsweredEvent → Type 0
Keeps step past =
    (c h o : ℕ) → told past (Held c h) ≡ Some o → takes step c h ≡ false → told (step ∷ past) (Held c h) ≡ Some o

unfoldable pub Kept : List AnsweredEvent → Type 0
Kept [] = Unit {0}
Kept (step ∷ past) = Keeps step past × Kept past

-- ---- what is reported is so

-- A step that grants a handle is the one that granted it last.
pub given_now : (step : AnsweredEvent) (past : List AnsweredEvent) (c h : ℕ) (source : Source)
    → gift step c h ≡ Some source → WasGiven (step ∷ past) c h source past
unfolding gift
given_now step past c h source e =
    record { later = []; step = step; steps = refl; gives = gift_given c h (given step) source e; kept = tt }

-- A handle that was granted stays granted by the same step, if the next step does not take it.
pub given_before : (step : AnsweredEvent) (history past : List AnsweredEvent) (c h : ℕ) (source : Source)
    → takes step c h ≡ false → WasGiven history c h source past → WasGiven (step ∷ history) c h source past
given_before step history past c h source t g =
    record
    { later = step ∷ g.later; step = g.step; steps = ap (λ l. step ∷ l) g.steps; gives = g.gives; kept = (t, g.kept) }

-- A step that publishes under a key is the one that published there last.
pub published_now : (step : AnsweredEvent) (past : List AnsweredEvent) (key : Key) (holder : Holder)
    → holder_under step key ≡ Some holder → WasPublished (step ∷ past) key holder.client holder.handle past
unfolding holder_under
published_now step past key holder e =
    record
    { later = []; step = step; steps = refl; under_key = holder_published key (published step) holder e; last = tt }

-- What was published under a key stays so, if the next step publishes nothing under that key.
pub published_before : (step : AnsweredEvent) (history past : List AnsweredEvent) (key : Key) (c h : ℕ)
    → holder_under step key ≡ None → WasPublished history key c h past → WasPublished (step ∷ history) key c h past
unfolding holder_under
published_before step history past key c h e p =
    record { later = step ∷ p.later; step = p.step; steps = ap (λ l. step ∷ l) p.steps; under_key = p.under_key; last = (nobody_published key (published step) e, p.last) }

still_has : (step : AnsweredEvent) (history : List AnsweredEvent) (c h o : ℕ) → takes step c h ≡ false
    → Has history c h o → Has (step ∷ history) c h o
still_has step history c h o t (made {past = past} g e) = made (given_before step history past c h Creation t g) e
still_has step history c h o t (passed {past = past} {key = key} g p had) =
    passed (given_before step history past c h (Transfer key) t g) p had

still_had : (step : AnsweredEvent) (history : List AnsweredEvent) (key : Key) (c o : ℕ) → holder_under step key ≡ None
    → LastHad history key c o → LastHad (step ∷ history) key c o
still_had step history key c o e l =
    record
    { handle = l.handle; past = l.past; published = published_before step history l.past key c l.handle e l.published; had = l.had }

held_so : (step : AnsweredEvent) (past : List AnsweredEvent) (c h o : ℕ) (s : Option Source) → gift step c h ≡ s
    → (t : Bool) → takes step c h ≡ t → (told past (Held c h) ≡ Some o → Has past c h o) →
    ((key : Key) → told past (Published key) ≡ Some o → (d : ℕ) × LastHad past key d o) →
    from_source s (next_number past) (λ key. told past (Published key)) (cond t None (told past (Held c h))) ≡ Some o →
    Has (step ∷ past) c h o
held_so step past c h o (Some Creation) g t k held under e =
    made (given_now step past c h Creation g) (sym (same_Some _ o e))
held_so step past c h o (Some (Transfer key)) g t k held under e = let last = under key e in passed (given_now step past c h (Transfer key) g) last.1.published last.1.had
held_so step past c h o None g true k held under e = none_some o e
held_so step past c h o None g false k held under e = still_has step past c h o k (held e)

under_so : (step : AnsweredEvent) (past : List AnsweredEvent) (key : Key) (o : ℕ) (p : Option Holder)
    → holder_under step key ≡ p → ((c h : ℕ) → told past (Held c h) ≡ Some o → Has past c h o) →
    (told past (Published key) ≡ Some o → (d : ℕ) × LastHad past key d o) →
    from_holder p (λ holder. told past (Held holder.client holder.handle)) (told past (Published key)) ≡ Some o →
    (d : ℕ) × LastHad (step ∷ past) key d o
under_so step past key o (Some holder) p held under e =
    (holder.client, record { handle = holder.handle; past = past; published = published_now step past key holder p; had = held holder.client holder.handle e })
under_so step past key o None p held under e = let last = under e in (last.0, still_had step past key last.0 o p last.1)

-- what the answer to a question says
abbrev pub IsSo : List AnsweredEvent → Question → ℕ → Type 0
IsSo history (Held c h) o = Has history c h o
IsSo history (Published key) o = (c : ℕ) × LastHad history key c o
IsSo history (Publisher key) o = Unit {0}

-- What the function reports of a history is so: the client has the handle, or the object was published under the key.
pub told_is_so : (history : List AnsweredEvent) (question : Question) (o : ℕ) → told history question ≡ Some o
    → IsSo history question o
unfolding told
told_is_so [] question o e = none_some o e
told_is_so (step ∷ past) (Held c h) o e =
    held_so step past c h o (gift step c h) refl (takes step c h) refl (told_is_so past (Held c h) o)
    (λ key. told_is_so past (Published key) o) e
told_is_so (step ∷ past) (Published key) o e =
    under_so step past key o (holder_under step key) refl (λ c h. told_is_so past (Held c h) o)
    (told_is_so past (Published key) o) e
told_is_so (step ∷ past) (Publisher key) o e = tt

publisher_so : (step : AnsweredEvent) (past : List AnsweredEvent) (key : Key) (c o : ℕ) (p : Option Holder)
    → holder_under step key ≡ p →
    (told past (Published key) ≡ Some o → told past (Publisher key) ≡ Some c → LastHad past key c o) →
    from_holder p (λ holder. told past (Held holder.client holder.handle)) (told past (Published key)) ≡ Some o →
    from_holder p (λ holder. Some holder.client) (told past (Publisher key)) ≡ Some c →
    LastHad (step ∷ past) key c o
publisher_so step past key c o (Some holder) p under e k =
    subst (λ d. LastHad (step ∷ past) key d o) (same_Some holder.client c k)
    (record { handle = holder.handle; past = past; published = published_now step past key holder p; had = told_is_so past (Held holder.client holder.handle) o e })
publisher_so step past key c o None p under e k = still_had step past key c o p (under e k)

-- If a history reports an object and a client under a key, the client published this object there last.
pub publisher_is_so : (history : List AnsweredEvent) (key : Key) (c o : ℕ) → told history (Published key) ≡ Some o
    → told history (Publisher key) ≡ Some c → LastHad history key c o
unfolding told
publisher_is_so [] key c o e k = none_some o e
publisher_is_so (step ∷ past) key c o e k =
    publisher_so step past key c o (holder_under step key) refl (publisher_is_so past key c o) e k

-- ---- what is so is reported

kept_past : (later past : List AnsweredEvent) → Kept (later ++ past) → Kept past
unfolding Kept
kept_past [] past k = k
kept_past (step ∷ later) past k = kept_past later past k.1

held_through : (later past : List AnsweredEvent) (c h o : ℕ) → Kept (later ++ past)
    → AllByRecursion (λ (step : AnsweredEvent). takes step c h ≡ false) later → told past (Held c h) ≡ Some o
    → told (later ++ past) (Held c h) ≡ Some o
unfolding Kept
held_through [] past c h o k none e = e
held_through (step ∷ later) past c h o k none e = k.0 c h o (held_through later past c h o k.1 none.1 e) none.0

under_through : (later past : List AnsweredEvent) (key : Key) (o : ℕ)
    → AllByRecursion (λ (step : AnsweredEvent). publishes step key ≡ false) later → told past (Published key) ≡ Some o
    → told (later ++ past) (Published key) ≡ Some o
unfolding told holder_under
under_through [] past key o none e = e
under_through (step ∷ later) past key o none e =
    rw (published_nobody key (published step) none.0) (under_through later past key o none.1 e)

giving_told : (step : AnsweredEvent) (past : List AnsweredEvent) (c h o : ℕ) (source : Source)
    → gift step c h ≡ Some source
    → from_source (Some source) (next_number past) (λ key. told past (Published key)) None ≡ Some o
    → told (step ∷ past) (Held c h) ≡ Some o
unfolding told
giving_told step past c h o Creation k e = rw k e
giving_told step past c h o (Transfer key) k e = rw k e

given_told : (history past : List AnsweredEvent) (c h o : ℕ) (source : Source) → Kept history
    → WasGiven history c h source past
    → from_source (Some source) (next_number past) (λ key. told past (Published key)) None ≡ Some o
    → told history (Held c h) ≡ Some o
unfolding gift
given_told history past c h o source kept g e =
    subst (λ l. told l (Held c h) ≡ Some o) (sym g.steps)
    (held_through g.later (g.step ∷ past) c h o (subst Kept g.steps kept) g.kept (giving_told g.step past c h o source (given_gift c h (given g.step) source g.gives) e))

under_now : (step : AnsweredEvent) (past : List AnsweredEvent) (key : Key) (c h o : ℕ)
    → published step ≡ Some (record { key = key; client = c; handle = h }) → told past (Held c h) ≡ Some o
    → told (step ∷ past) (Published key) ≡ Some o
unfolding told holder_under
under_now step past key c h o p e = rw (published_holder key c h (published step) p) e

under_told : (history past : List AnsweredEvent) (key : Key) (c h o : ℕ) → WasPublished history key c h past
    → told past (Held c h) ≡ Some o → told history (Published key) ≡ Some o
under_told history past key c h o p e =
    subst (λ l. told l (Published key) ≡ Some o) (sym p.steps)
    (under_through p.later (p.step ∷ past) key o p.last (under_now p.step past key c h o p.under_key e))

kept_given : (history past : List AnsweredEvent) (c h : ℕ) (source : Source) → WasGiven history c h source past
    → Kept history → Kept past
unfolding Kept
kept_given history past c h source g kept = (kept_past g.later (g.step ∷ past) (subst Kept g.steps kept)).1

kept_published : (history past : List AnsweredEvent) (key : Key) (c h : ℕ) → WasPublished history key c h past
    → Kept history → Kept past
unfolding Kept
kept_published history past key c h p kept = (kept_past p.later (p.step ∷ past) (subst Kept p.steps kept)).1

-- A handle that a history grants is reported with its object, if no step overwrote a handle.
pub has_is_told : (o : ℕ) (history : List AnsweredEvent) (c h : ℕ) → Kept history → Has history c h o
    → told history (Held c h) ≡ Some o
has_is_told o history c h kept (made {past = past} g e) =
    given_told history past c h o Creation kept g (ap (λ n. Some n) (sym e))
has_is_told o history c h kept (passed {past = past} {before = before} {d = d} {k = k} {key = key} g p had) =
    let kept_before = kept_published past before key d k p (kept_given history past c h (Transfer key) g kept) in
    given_told history past c h o (Transfer key) kept g
    (under_told past before key d k o p (has_is_told o before d k kept_before had))

-- ---- the last step that published under a key

unfoldable pub last_under : List AnsweredEvent → Key → Option AnsweredEvent
last_under [] key = None
last_under (step ∷ past) key = from_holder (holder_under step key) (λ holder. Some step) (last_under past key)

last_through : (later past : List AnsweredEvent) (step : AnsweredEvent) (key : Key) (holder : Holder)
    → AllByRecursion (λ (other : AnsweredEvent). publishes other key ≡ false) later
    → holder_under step key ≡ Some holder → last_under (later ++ step ∷ past) key ≡ Some step
unfolding last_under holder_under
last_through [] past step key holder none e = rw e refl
last_through (other ∷ later) past step key holder none e =
    rw (published_nobody key (published other) none.0) (last_through later past step key holder none.1 e)

-- The step that is found as the last under a key is the one that published there last.
pub last_is_so : (history past : List AnsweredEvent) (key : Key) (c h : ℕ) (p : WasPublished history key c h past)
    → last_under history key ≡ Some p.step
unfolding holder_under
last_is_so history past key c h p =
    ap (λ l. last_under l key) p.steps
    ∙ last_through p.later past p.step key (record { client = c; handle = h }) p.last
    (published_holder key c h (published p.step) p.under_key)
