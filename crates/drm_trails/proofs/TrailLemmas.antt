-- What is noted of what steps published.
use Rattle.std.proofs.Common.{◌≡◌, ℕ, ◌+◌, ◌<◌, ◌≤◌, nat_lt, Bool, true, false, cond, ◌&&◌, List, [], ◌∷◌, ◌++◌, Option, None, Some, IfSome, find, length, option_map, option_to_list, reverse, take, refl, sym, ◌∙◌, ap, subst, arith}
use Rattle.std.proofs.lemmas.Bool.{false≢true}
use Rattle.std.proofs.lemmas.Bool.Decides.{nat_tests}
use Rattle.std.proofs.lemmas.List.{take_all, take_at, take-append-le, length-append}
use Rattle.drm_history.specs.Steps.{Key, is_key, Publishing, published}
use Rattle.drm_trails.specs.Steps.{entry_of, followed_by, history_of, key_of, publishing_of, publishings_of}
use Rattle.drm_trails.specs.Searches.{AreNoted, is_before, last_sharing, publication_in, publications_of, sharing_by, sharing_or}
use Rattle.drm_trails.specs.declared.searches.Publication.{Publication}
use Rattle.drm_trails.specs.declared.steps.Publishing.{Publishing as PublishedHandle}
use Rattle.drm_trails.specs.declared.steps.Step.{Step}
use Rattle.drm_index_array.proofs.Lists.{all_append, all_weaker}
use Rattle.drm_index_array.proofs.Orders.{in_order_append}
use Rattle.drm_trails.proofs.HistoryLemmas.{followed_by-append}
use Rattle.drm_trails.proofs.NoteLemmas.{append-none, find-newest}

-- ---- a note that is found

first_of : (a b : Bool) → (a && b) ≡ true → a ≡ true
first_of true b both = refl
first_of false b both = absurd (false≢true both)

-- A test of less passes only if the number is less.
pub lt_of : (a b : ℕ) → nat_lt a b ≡ true → a < b
lt_of a b is = grind (arith, nat_tests)

found_if : {X : Type 0} (moment_of : X → ℕ) (moment : ℕ) (q : X → Bool) (note : X) (older : Option X) (b : Bool)
    → (nat_lt (moment_of note) moment && q note) ≡ b → IfSome older (λ x. moment_of x < moment) →
    IfSome (cond b (Some note) older) (λ x. moment_of x < moment)
found_if moment_of moment q note older true is rest =
    lt_of (moment_of note) moment (first_of (nat_lt (moment_of note) moment) (q note) is)
found_if moment_of moment q note older false is rest = rest

-- A note that was found up to a moment is of an earlier step.
pub found_before : {X : Type 0} (moment_of : X → ℕ) (moment : ℕ) (q : X → Bool) (notes : List X)
    → IfSome (find (λ x. nat_lt (moment_of x) moment && q x) notes) (λ x. moment_of x < moment)
found_before moment_of moment q [] = tt
found_before moment_of moment q (note ∷ notes) =
    found_if moment_of moment q note (find (λ x. nat_lt (moment_of x) moment && q x) notes)
    (nat_lt (moment_of note) moment && q note) refl (found_before moment_of moment q notes)

-- A published key that was found up to a moment was published by an earlier step.
pub publication_before : (notes : List Publication) (moment : ℕ) (key : Key)
    → IfSome (publication_in notes moment key) (λ (p : Publication). p.past < moment)
publication_before notes moment key =
    found_before (λ (p : Publication). p.past) moment (λ (p : Publication). is_key (key_of p.key) key) (reverse notes)

-- ---- one step more

-- The first steps of an empty list are none.
pub no_steps : (moment : ℕ) → ◌≡◌ {A = List Step} (take moment []) []
no_steps moment = take_all moment [] (omega arith)

-- Without steps no publishing is recorded.
pub none_noted : AreNoted [] []
unfolding last_sharing followed_by
none_noted =
    record
    { rise = tt; among = tt; within = λ moment key. tt; told = λ moment key. sym (ap (λ (steps : List Step). last_sharing (history_of steps) key) (no_steps moment)) }

module _ (steps : List Step) (step : Step) where
  abbrev longer : List Step
  longer = steps ++ step ∷ []

  one_longer : length longer ≡ length steps + 1
  one_longer = length-append steps (step ∷ [])

  same_sharing : (found : Option Publication) → IfSome found (λ p. p.past < length steps)
      → option_map (sharing_by longer) found ≡ option_map (sharing_by steps) found
  same_sharing None inside = refl
  same_sharing (Some p) inside =
      ap (λ xs. Some (record { client = p.client; handle = p.handle; past = history_of xs }))
      (take-append-le p.past steps (step ∷ []) (omega (arith, inside)))

  still_within : (found : Option Publication) → IfSome found (λ p. p.past < length steps)
      → IfSome found (λ p. p.past < length longer)
  still_within None inside = tt
  still_within (Some p) inside = omega (arith, inside, one_longer)

  earlier : (moment : ℕ) (key : Key) → moment ≤ length steps
      → last_sharing (history_of (take moment longer)) key ≡ last_sharing (history_of (take moment steps)) key
  earlier moment key within =
      ap (λ xs. last_sharing (history_of xs) key) (take-append-le moment steps (step ∷ []) within)

  later : (moment : ℕ) (key : Key) (p : Option Publishing) → published (entry_of step) ≡ p → length steps < moment →
      last_sharing (history_of (take moment longer)) key ≡ sharing_or key p (history_of steps)
      (last_sharing (history_of (take moment steps)) key)
  unfolding last_sharing
  later moment key p is past =
      ap (λ xs. last_sharing (history_of xs) key) (take_all moment longer (omega (arith, past, one_longer)))
      ∙ ap (λ history. last_sharing history key) (followed_by-append [] steps step)
      ∙ ap (λ q. sharing_or key q (history_of steps) (last_sharing (history_of steps) key)) is
      ∙ ap (λ xs. sharing_or key p (history_of steps) (last_sharing (history_of xs) key))
      (sym (take_all moment steps (omega (arith, past))))

  module _ (notes : List Publication) (noted : AreNoted steps notes) where
    -- what is told where the step publishes nothing under the key
    told_still : (moment : ℕ) (key : Key)
        → option_map (sharing_by longer) (publication_in notes moment key) ≡ last_sharing (history_of (take moment steps)) key
    told_still moment key =
        same_sharing (publication_in notes moment key) (noted.within moment key) ∙ noted.told moment key

    noted_none : published (entry_of step) ≡ None → AreNoted longer notes
    noted_none is = record {
      rise = noted.rise;
      among =
          all_weaker (λ (p : Publication). p.past < length steps) (λ (p : Publication). p.past < length longer)
          (λ p lt. omega (arith, lt, one_longer)) notes noted.among;
      within = λ moment key. still_within (publication_in notes moment key) (noted.within moment key);
      told = λ moment key. told_still moment key ∙ of moment key (nat_lt (length steps) moment) refl;
    }
      where
        of : (moment : ℕ) (key : Key) (b : Bool) → nat_lt (length steps) moment ≡ b
            → last_sharing (history_of (take moment steps)) key ≡ last_sharing (history_of (take moment longer)) key
        of moment key true past = sym (later moment key None is (lt_of (length steps) moment past))
        of moment key false past = sym (earlier moment key (grind (arith, nat_tests)))

    module _ (p : PublishedHandle) (is : published (entry_of step) ≡ Some (publishing_of p)) where
      abbrev note : Publication
      note = record { past = length steps; key = p.key; client = p.client; handle = p.handle }

      abbrev found : ℕ → Key → Option Publication
      found moment key = publication_in notes moment key

      within_if : (moment : ℕ) (key : Key) (b : Bool)
          → IfSome (cond b (Some note) (found moment key)) (λ q. q.past < length longer)
      within_if moment key true = omega (arith, one_longer)
      within_if moment key false = still_within (found moment key) (noted.within moment key)

      its_past : sharing_by longer note ≡ record { client = p.client; handle = p.handle; past = history_of steps }
      its_past =
          ap (λ xs. record { client = p.client; handle = p.handle; past = history_of xs })
          (take_at steps (step ∷ []) (length steps) refl)

      told_later : (moment : ℕ) (key : Key) (b : Bool) → is_key (key_of p.key) key ≡ b → length steps < moment →
          option_map (sharing_by longer) (cond b (Some note) (found moment key)) ≡ last_sharing
          (history_of (take moment longer)) key
      told_later moment key true same past =
          ap Some its_past
          ∙ ap
          (λ b. cond b (Some (record { client = p.client; handle = p.handle; past = history_of steps })) (last_sharing (history_of (take moment steps)) key))
          (sym same)
          ∙ sym (later moment key (Some (publishing_of p)) is past)
      told_later moment key false other past =
          told_still moment key
          ∙ ap
          (λ b. cond b (Some (record { client = p.client; handle = p.handle; past = history_of steps })) (last_sharing (history_of (take moment steps)) key))
          (sym other)
          ∙ sym (later moment key (Some (publishing_of p)) is past)

      told_if : (moment : ℕ) (key : Key) (b : Bool) → nat_lt (length steps) moment ≡ b →
          option_map (sharing_by longer) (cond (b && is_key (key_of p.key) key) (Some note) (found moment key)) ≡
          last_sharing (history_of (take moment longer)) key
      told_if moment key true past =
          told_later moment key (is_key (key_of p.key) key) refl (lt_of (length steps) moment past)
      told_if moment key false past = told_still moment key ∙ sym (earlier moment key (grind (arith, nat_tests)))

      journaled_one : AreNoted longer (notes ++ note ∷ [])
      journaled_one = record {
        rise = in_order_append (λ (x y : Publication). x.past < y.past) notes note noted.rise noted.among;
        among =
            all_append (λ (q : Publication). q.past < length longer) notes (note ∷ [])
            (all_weaker (λ (q : Publication). q.past < length steps) (λ (q : Publication). q.past < length longer) (λ q lt. omega (arith, lt, one_longer)) notes noted.among)
            (omega (arith, one_longer), tt);
        within =
            λ moment key. subst (λ (o : Option Publication). IfSome o (λ q. q.past < length longer))
            (sym (find-newest (is_before moment key) notes note)) (within_if moment key (is_before moment key note));
        told =
            λ moment key. ap (option_map (sharing_by longer)) (find-newest (is_before moment key) notes note)
            ∙ told_if moment key (nat_lt (length steps) moment) refl;
      }

    -- With one more step, its publication, if any, is the newest note.
    pub noted_more : (p : Option PublishedHandle) → publishings_of p ≡ published (entry_of step)
        → AreNoted longer (notes ++ option_to_list (publications_of p (length steps)))
    noted_more None is = subst (AreNoted longer) (sym (append-none notes)) (noted_none (sym is))
    noted_more (Some p) is = journaled_one p (sym is)

-- What the notes say of publications carries over to equal lists.
pub noted_along : (steps same : List Step) (notes also : List Publication) → same ≡ steps → also ≡ notes
    → AreNoted steps notes → AreNoted same also
noted_along steps same notes also is are noted =
    subst (λ (x : List Step × List Publication). AreNoted x.0 x.1) (λ i. (sym is i, sym are i)) noted
