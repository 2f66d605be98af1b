-- What look-ups of names, tokens and PRIME handles find in the rows, by what they find in the parts.
use Rattle.std.proofs.Common.{◌≡◌, ℕ, ◌==◌, ◌+◌, Bool, true, false, not, cond, ◌&&◌, ◌||◌, List, [], ◌∷◌, ◌++◌, map, filter, find, Option, Some, None, refl, sym, ap, ◌∙◌, subst, eq-eqb, arith}
use Rattle.std.specs.Prelude.{unwrap_or}
use Rattle.std.specs.List.{list_any, filter_map, AllByRecursion}
use Rattle.std.specs.Option.{is_some, option_map, option_map_or, option_and_then, option_or}
use Rattle.std.proofs.lemmas.Bool.Decides.{nat_tests}
use Rattle.drm_index_array.specs.Orders.{SameRows}
use Rattle.drm_index_array.specs.Numbers.{is_among}
use Rattle.drm_index_array.proofs.Lists.{filter-map, filter-same, list_any-map, all_weaker, all_each, map-map}
use Rattle.drm_index_array.proofs.FoundInLists.{is_some-find, found-number}
use Rattle.drm_index_array.proofs.Numbers.{among-first, among-more, among-left, among-right}
use Rattle.drm_index_array.proofs.Orders.{same-any, same-filter, same-map}
use Rattle.drm_index_array.specs.Least.{least, least_of}
use Rattle.drm_index_array.specs.Rows.{InOrder}
use Rattle.drm_index_array.proofs.Least.{least-same, least_of-same}
use Rattle.drm_share.specs.Tokens.{or_else}
use Rattle.drm_files.specs.declared.rows.FileHandle.{FileHandle}
use Rattle.drm_files.specs.Files as files
use Rattle.drm_share.specs.declared.rows.SharedName.{SharedName}
use Rattle.drm_share.specs.declared.rows.SharedToken.{SharedToken}
use Rattle.drm_share.specs.Names as names
use Rattle.drm_share.specs.Names.{AreNames, names_object, is_name, name_before, have_other_objects}
use Rattle.drm_share.specs.Tokens as tokens
use Rattle.drm_share.specs.Tokens.{AreTokens, is_token, token_before}
use Rattle.drm_model.specs.Rows.{Rows, HandleRow, NameRow, TokenRow, is_option}
use Rattle.drm_model.specs.Sharing as model
use Rattle.drm_state.specs.declared.state.State.{State}
use Rattle.drm_state.specs.Parts.{step_number_at, handle_row_of, name_row_of, token_row_of, holds_of, names_of, tokens_of, keys_of, token_keys, framebuffer_keys, referring_keys}
use Rattle.drm_state.specs.Invariants.{MeetsInvariants}
use Rattle.drm_state.specs.Refinement.{Represents}
use Rattle.drm_state.proofs.Represented.{bounds_are, holds_are, names_are, tokens_are, last_token_is, objects_counted}
use Rattle.drm_state.proofs.Naming.{one_key}
use Rattle.drm_state.proofs.Sweeps.{names_known}

-- ---- one row that passes a test

-- Where two rows in order never both pass a test, all that pass have the number of the first.
pub one_passes : {X : Type 0} (before : X → X → Bool) (p : X → Bool) (f : X → ℕ)
    → ((x y : X) → p x ≡ true → before x y ≡ true → p y ≡ false) → (xs : List X) → InOrder before xs → (y : X)
    → find p xs ≡ Some y → list_any (λ x. p x && not (f x == f y)) xs ≡ false
one_passes before p f apart [] o y e = refl
one_passes {X} before p f apart (x ∷ xs) o y e =
    elim (p x) as (λ b. p x ≡ b → cond b (Some x) (find p xs) ≡ Some y → ((b && not (f x == f y)) || list_any (λ x. p x && not (f x == f y)) xs) ≡ false) [
      | true ↦ λ is j.
          let same : x ≡ y = let s : Some x ≡ Some y = j in cc in
          let first : not (f x == f y) ≡ false = ap (λ z. not (f z == f y)) same ∙ ap not (eq-eqb (f y) (f y) refl) in
          rw first (none_more is xs o.0)
      | false ↦ λ is j. one_passes before p f apart xs o.1 y j
    ] refl e
  where
    none_more : p x ≡ true → (zs : List X) → AllByRecursion (λ z. before x z ≡ true) zs
        → list_any (λ z. p z && not (f z == f y)) zs ≡ false
    none_more is [] k = refl
    none_more is (z ∷ zs) k = rw (apart x z is k.0) (none_more is zs k.1)

-- The number of the row that passes is the same by rows as in the state, in any order.
pub number_by : {X Y : Type 0} (row : X → Y) (p : Y → Bool) (q : X → Bool) (f : Y → ℕ) (g : X → ℕ) (number : ℕ → ℕ)
    → ((x : X) → f (row x) ≡ number (g x)) → (rows : List Y) (xs : List X) → SameRows rows (map row xs)
    → AllByRecursion (λ x. p (row x) ≡ q x) xs →
    ((y : X) → find q xs ≡ Some y → list_any (λ x. q x && not (number (g x) == number (g y))) xs ≡ false)
    → option_map f (find p rows) ≡ option_map (λ x. number (g x)) (find q xs)
number_by {X} {Y} row p q f g number is rows xs h agree one =
    let there : is_some (find p rows) ≡ is_some (find q xs) =
    is_some-find p rows ∙ same-any p rows (map row xs) h ∙ list_any-map p row xs ∙ any_same xs agree
    ∙ sym (is_some-find q xs) in
    by_found (find q xs) refl there
  where
    any_same : (xs : List X) → AllByRecursion (λ x. p (row x) ≡ q x) xs → list_any (λ x. p (row x)) xs ≡ list_any q xs
    any_same [] h = refl
    any_same (x ∷ xs) h = λ i. h.0 i || any_same xs h.1 i

    test_same : (n : ℕ) → (xs : List X) → AllByRecursion (λ x. p (row x) ≡ q x) xs
        → list_any (λ x. p (row x) && not (f (row x) == n)) xs ≡ list_any (λ x. q x && not (number (g x) == n)) xs
    test_same n [] h = refl
    test_same n (x ∷ xs) h = λ i. (h.0 i && not (is x i == n)) || test_same n xs h.1 i

    absent : (o : Option Y) → is_some o ≡ false → option_map f o ≡ None
    absent None e = refl
    absent (Some y) e = absurd (let k : true ≡ false = e in cc)

    by_found : (o : Option X) → find q xs ≡ o → is_some (find p rows) ≡ is_some (find q xs)
        → option_map f (find p rows) ≡ option_map (λ x. number (g x)) (find q xs)
    by_found None e there = absent (find p rows) (there ∙ ap is_some e) ∙ sym (ap (option_map (λ x. number (g x))) e)
    by_found (Some y) e there =
        let test = λ (z : Y). p z && not (f z == number (g y)) in
        let none : list_any test rows ≡ false =
        same-any test rows (map row xs) h ∙ list_any-map test row xs ∙ test_same (number (g y)) xs agree
        ∙ one y e in
        found-number p f (number (g y)) rows none (there ∙ ap is_some e) ∙ sym (ap (option_map (λ x. number (g x))) e)

-- the same of its number told by a key, which all that pass have
same_number : {X : Type 0} (q : X → Bool) (g : X → ℕ) (number : ℕ → ℕ) (n : ℕ) → (xs : List X)
    → list_any (λ x. q x && not (g x == n)) xs ≡ false
    → list_any (λ x. q x && not (number (g x) == number n)) xs ≡ false
same_number q g number n [] h = refl
same_number {X} q g number n (x ∷ xs) h =
    elim (q x) as (λ b. ((b && not (g x == n)) || list_any (λ x. q x && not (g x == n)) xs) ≡ false → ((b && not (number (g x) == number n)) || list_any (λ x. q x && not (number (g x) == number n)) xs) ≡ false) [
      | true ↦ λ k. by_equal (g x == n) refl k (same_number q g number n xs)
      | false ↦ λ k. same_number q g number n xs k
    ] h
  where
    equal : (m : ℕ) → (m == n) ≡ true → m ≡ n
    equal m e = grind (arith, nat_tests)

    by_equal : (b : Bool) → (g x == n) ≡ b → (not b || list_any (λ x. q x && not (g x == n)) xs) ≡ false
        → (list_any (λ x. q x && not (g x == n)) xs ≡ false → list_any (λ x. q x && not (number (g x) == number n)) xs ≡ false) →
        (not (number (g x) == number n) || list_any (λ x. q x && not (number (g x) == number n)) xs) ≡ false
    by_equal true e k more = rw (eq-eqb (number (g x)) (number n) (ap number (equal (g x) e))) (more k)
    by_equal false e k more = absurd (let j : true ≡ false = k in cc)

abbrev pub itself : ℕ → ℕ
itself n = n

-- Each number of a list is among the numbers of its items.
pub its_key : {X : Type 0} (f : X → ℕ) → (xs : List X) → AllByRecursion (λ x. is_among (map f xs) (f x) ≡ true) xs
its_key f [] = tt
its_key f (x ∷ xs) =
    (among-first (map f xs) (f x), all_weaker (λ y. is_among (map f xs) (f y) ≡ true) (λ y. is_among (map f (x ∷ xs)) (f y) ≡ true) (λ y e. among-more (map f xs) (f x) (f y) e) xs (its_key f xs))

-- What holds of all items of a list holds of the one that was found.
pub of_found : {X : Type 0} (P : ℕ → Type 0) (p : X → Bool) (f : X → ℕ) → (xs : List X)
    → AllByRecursion (λ x. P (f x)) xs → (n : ℕ) → Some n ≡ option_map f (find p xs) → P n
of_found P p f [] h n e = absurd (let k : Some n ≡ None = e in cc)
of_found P p f (x ∷ xs) h n e =
    elim (p x) as (λ b. Some n ≡ option_map f (cond b (Some x) (find p xs)) → P n) [
      | true ↦ λ j. let same : f x ≡ n = let k : Some n ≡ Some (f x) = j in cc in subst P same h.0
      | false ↦ λ j. of_found P p f xs h.1 n j
    ] e

-- what was found, told by another number
told_some : {X : Type 0} (f : X → ℕ) (number : ℕ → ℕ) (o : Option X) (n : ℕ) → Some n ≡ option_map f o
    → option_map (λ x. number (f x)) o ≡ Some (number n)
told_some f number None n e = absurd (let k : Some n ≡ None = e in cc)
told_some f number (Some x) n e = let same : f x ≡ n = let k : Some n ≡ Some (f x) = e in cc in ap (λ m. Some (number m)) same

told_none : {X : Type 0} (f : X → ℕ) (number : ℕ → ℕ) (o : Option X) → None ≡ option_map f o
    → option_map (λ x. number (f x)) o ≡ None
told_none f number None e = refl
told_none f number (Some x) e = absurd (let k : None ≡ Some (f x) = e in cc)

-- ---- names

differ : (k : ℕ) (x y : SharedName) → names_object k x ≡ true → have_other_objects x y ≡ true → names_object k y ≡ false
differ k x y h e = grind (arith, nat_tests)

later_name : (n : ℕ) (x y : SharedName) → is_name n x ≡ true → name_before x y ≡ true → is_name n y ≡ false
later_name n x y h e = grind (arith, nat_tests)

-- The name of a key's object is the same by rows as in the state.
pub name_found : (s : State) (w : Rows) (key : ℕ) → MeetsInvariants s → AreNames s.names → Represents s w
    → is_among (keys_of s.files.holds ++ referring_keys s) key ≡ true
    → model.name_of w (step_number_at s.objects.objects key) ≡ names.name_of s.names key
name_found s w key t are h known =
    let objects = s.objects.objects in
    let keys = keys_of s.files.holds in
    let refs = referring_keys s in
    number_by (name_row_of objects) (λ (row : NameRow). row.object == step_number_at objects key) (names_object key)
    (λ (row : NameRow). row.name) (λ (x : SharedName). x.name) itself (λ x. refl) w.names s.names.names
    (names_are s w h)
    (all_weaker (λ (x : SharedName). is_among (keys ++ refs) x.object ≡ true) (λ (x : SharedName). (step_number_at objects x.object == step_number_at objects key) ≡ names_object key x)
    (λ x e. one_key keys refs objects x.object key (objects_counted s t) e known) s.names.names (names_known s t))
    (λ y e. one_passes have_other_objects (names_object key) (λ (x : SharedName). x.name) (differ key) s.names.names are.objects_differ y e)

-- The object that has a name is the same by rows as in the state.
pub named_found : (s : State) (w : Rows) (n : ℕ) → AreNames s.names → Represents s w
    → model.named_object w n ≡ option_map (λ (x : SharedName). step_number_at s.objects.objects x.object) (find (is_name n) s.names.names)
named_found s w n are h =
    number_by (name_row_of s.objects.objects) (λ (row : NameRow). row.name == n) (is_name n)
    (λ (row : NameRow). row.object) (λ (x : SharedName). x.object) (step_number_at s.objects.objects) (λ x. refl)
    w.names s.names.names (names_are s w h)
    (all_each _ (λ x. refl) s.names.names)
    (λ y e. same_number (is_name n) (λ (x : SharedName). x.object) (step_number_at s.objects.objects) y.object s.names.names (one_passes name_before (is_name n) (λ (x : SharedName). x.object) (later_name n) s.names.names are.names_rise y e))

-- The free name is the same by rows as in the state.
pub free_name_found : (s : State) (w : Rows) → Represents s w → model.free_name w ≡ names.free_name s.names
free_name_found s w h =
    let row = name_row_of s.objects.objects in
    let name = λ (r : NameRow). r.name in
    let agree = λ (n : ℕ).
    let e : is_among (map name w.names) n ≡ is_among (map (λ (x : SharedName). x.name) s.names.names) n =
    same-any (λ k. k == n) (map name w.names) (map name (names_of s)) (same-map name w.names (names_of s) (names_are s w h)) ∙ ap (λ l. is_among l n) (map-map name row s.names.names) in e in
    least-same (λ n. not (is_among (map name w.names) n))
    (λ n. not (is_among (map (λ (x : SharedName). x.name) s.names.names) n)) 1 w.limits.names
    (λ n _ _. ap not (agree n))
    ∙ ap (least (λ n. not (is_among (map (λ (x : SharedName). x.name) s.names.names) n)) 1) (sym (bounds_are s w h).3)

-- ---- tokens

later_token : (n : ℕ) (x y : SharedToken) → is_token n x ≡ true → token_before x y ≡ true → is_token n y ≡ false
later_token n x y h e = grind (arith, nat_tests)

-- The object of a token is the same by rows as in the state.
pub exported_found : (s : State) (w : Rows) (n : ℕ) → AreTokens s.tokens → Represents s w
    → model.exported_object w n ≡ option_map (λ (x : SharedToken). step_number_at s.objects.objects x.object) (find (is_token n) s.tokens.tokens)
exported_found s w n are h =
    number_by (token_row_of s.objects.objects) (λ (row : TokenRow). row.token == n) (is_token n)
    (λ (row : TokenRow). row.object) (λ (x : SharedToken). x.object) (step_number_at s.objects.objects) (λ x. refl)
    w.tokens s.tokens.tokens (tokens_are s w h)
    (all_each _ (λ x. refl) s.tokens.tokens)
    (λ y e. same_number (is_token n) (λ (x : SharedToken). x.object) (step_number_at s.objects.objects) y.object s.tokens.tokens (one_passes token_before (is_token n) (λ (x : SharedToken). x.object) (later_token n) s.tokens.tokens are.tokens_rise y e))

-- The definition of an option, or else another, is the same for rows and for the state.
pub or_else_is : (x y : Option ℕ) → option_or x y ≡ or_else x y
or_else_is None y = refl
or_else_is (Some n) y = refl

-- The next token is the same by rows as in the state.
pub next_token_found : (s : State) (w : Rows) → Represents s w → model.next_token w ≡ tokens.next_token s.tokens
next_token_found s w h =
    let row = token_row_of s.objects.objects in
    let number = λ (r : TokenRow). r.token in
    let agree = λ (n : ℕ).
    let e : is_among (map number w.tokens) n ≡ is_among (map (λ (x : SharedToken). x.token) s.tokens.tokens) n =
    same-any (λ k. k == n) (map number w.tokens) (map number (tokens_of s)) (same-map number w.tokens (tokens_of s) (tokens_are s w h)) ∙ ap (λ l. is_among l n) (map-map number row s.tokens.tokens) in e in
    let from = λ (first : ℕ).
    let e : least (model.is_free_token w) first w.limits.tokens ≡ least (tokens.is_free s.tokens) first s.tokens.last =
    least-same (model.is_free_token w) (tokens.is_free s.tokens) first w.limits.tokens (λ n _ _. ap not (agree n)) ∙ ap (least (tokens.is_free s.tokens) first) (sym (bounds_are s w h).4) in e in
    let above : least (model.is_free_token w) (w.last_token + 1) w.limits.tokens ≡ least (tokens.is_free s.tokens) (unwrap_or s.tokens.last_given 0 + 1) s.tokens.last =
    ap (λ n. least (model.is_free_token w) (n + 1) w.limits.tokens) (last_token_is s w h) ∙ from (unwrap_or s.tokens.last_given 0 + 1) in
    ap (λ o. option_or o (least (model.is_free_token w) 1 w.limits.tokens)) above
    ∙ ap (option_or (least (tokens.is_free s.tokens) (unwrap_or s.tokens.last_given 0 + 1) s.tokens.last)) (from 1)
    ∙ or_else_is (least (tokens.is_free s.tokens) (unwrap_or s.tokens.last_given 0 + 1) s.tokens.last)
    (least (tokens.is_free s.tokens) 1 s.tokens.last)

-- A token is the client's by rows exactly if it is in the state.
pub own_token_found : (s : State) (w : Rows) (c n : ℕ) → Represents s w
    → is_some (find (model.is_token_of c n) w.tokens) ≡ is_some (find (tokens.is_token_of c n) s.tokens.tokens)
own_token_found s w c n h =
    is_some-find (model.is_token_of c n) w.tokens
    ∙ same-any (model.is_token_of c n) w.tokens (tokens_of s) (tokens_are s w h)
    ∙ list_any-map (model.is_token_of c n) (token_row_of s.objects.objects) s.tokens.tokens
    ∙ sym (is_some-find (tokens.is_token_of c n) s.tokens.tokens)

-- ---- PRIME handles

among-filter_map : {X : Type 0} (f : X → Option ℕ) (n : ℕ) → (xs : List X)
    → is_among (filter_map f xs) n ≡ list_any (λ x. option_map_or (λ p. p == n) (f x) false) xs
among-filter_map f n [] = refl
among-filter_map f n (x ∷ xs) = among_first (f x) refl (among-filter_map f n xs)
  where
    among_first : (o : Option ℕ) → f x ≡ o
        → is_among (filter_map f xs) n ≡ list_any (λ x. option_map_or (λ p. p == n) (f x) false) xs
        → is_among (filter_map f (x ∷ xs)) n ≡ (option_map_or (λ p. p == n) (f x) false || list_any (λ x. option_map_or (λ p. p == n) (f x) false) xs)
    among_first None e more = rw e more
    among_first (Some p) e more = rw e (ap (λ b. p == n || b) more)

has_export_order_is : (export_order : ℕ) (o : Option ℕ)
    → is_option export_order o ≡ option_map_or (λ p. p == export_order) o false
has_export_order_is export_order None = refl
has_export_order_is export_order (Some p) = refl

-- handles of the object of a key are those that name the key
held_for : (s : State) (c key : ℕ) → MeetsInvariants s
    → is_among (keys_of s.files.holds ++ referring_keys s) key ≡ true →
    AllByRecursion
    (λ (x : FileHandle). model.is_handle_of c (step_number_at s.objects.objects key) (handle_row_of s.objects.objects x) ≡ files.is_handle_of c key x)
    s.files.holds
held_for s c key t known =
    let keys = keys_of s.files.holds in
    all_weaker (λ (x : FileHandle). is_among keys x.object ≡ true)
    (λ (x : FileHandle). model.is_handle_of c (step_number_at s.objects.objects key) (handle_row_of s.objects.objects x) ≡ files.is_handle_of c key x)
    (λ x e. ap (λ b. (x.client == c) && b) (one_key keys (referring_keys s) s.objects.objects x.object key (objects_counted s t) (among-left keys (referring_keys s) x.object e) known))
    s.files.holds (its_key (λ (x : FileHandle). x.object) s.files.holds)

-- The PRIME handle of a key's object is the same by rows as in the state.
pub prime_found : (s : State) (w : Rows) (c key : ℕ) → MeetsInvariants s → Represents s w
    → is_among (keys_of s.files.holds ++ referring_keys s) key ≡ true
    → model.prime_handle w c (step_number_at s.objects.objects key) ≡ files.prime_handle s.files c key
unfolding model.prime_handle
prime_found s w c key t h known =
    let objects = s.objects.objects in
    let row = handle_row_of objects in
    let o = step_number_at objects key in
    let theirs = filter (model.is_handle_of c o) w.holds in
    let ours = filter (files.is_handle_of c key) s.files.holds in
    let held : filter (model.is_handle_of c o) (holds_of s) ≡ map row ours =
    filter-map (model.is_handle_of c o) row s.files.holds
    ∙ ap (map row)
    (filter-same (λ x. model.is_handle_of c o (row x)) (files.is_handle_of c key) s.files.holds (held_for s c key t known))
    in
    let same : SameRows theirs (map row ours) =
    subst (SameRows theirs) held (same-filter (model.is_handle_of c o) w.holds (holds_of s) (holds_are s w h)) in
    let export_orders : least_of (filter_map (λ (r : HandleRow). r.export_order) theirs) ≡ least_of (filter_map (λ (x : FileHandle). x.export_order) ours) =
    least_of-same (filter_map (λ (r : HandleRow). r.export_order) theirs) (filter_map (λ (x : FileHandle). x.export_order) ours) (λ n.
    among-filter_map (λ (r : HandleRow). r.export_order) n theirs
    ∙ same-any (λ (r : HandleRow). option_map_or (λ p. p == n) r.export_order false) theirs (map row ours) same
    ∙ list_any-map (λ (r : HandleRow). option_map_or (λ p. p == n) r.export_order false) row ours
    ∙ sym (among-filter_map (λ (x : FileHandle). x.export_order) n ours)) in
    let at = λ (export_order : ℕ).
    let e : least_of (model.handles_at w c o export_order) ≡ least_of (files.handles_at s.files c key export_order) =
    least_of-same (model.handles_at w c o export_order) (files.handles_at s.files c key export_order) (λ n.
    same-any (λ k. k == n) (model.handles_at w c o export_order)
    (map (λ (r : HandleRow). r.handle) (filter (λ (r : HandleRow). is_option export_order r.export_order) (map row ours)))
    (same-map (λ (r : HandleRow). r.handle) (filter (λ (r : HandleRow). is_option export_order r.export_order) theirs) (filter (λ (r : HandleRow). is_option export_order r.export_order) (map row ours)) (same-filter (λ (r : HandleRow). is_option export_order r.export_order) theirs (map row ours) same))
    ∙ ap (λ l. is_among (map (λ (r : HandleRow). r.handle) l) n)
    (filter-map (λ (r : HandleRow). is_option export_order r.export_order) row ours ∙ ap (map row) (filter-same (λ (x : FileHandle). is_option export_order x.export_order) (files.has_export_order export_order) ours (all_each _ (λ x. has_export_order_is export_order x.export_order) ours)))
    ∙ ap (λ l. is_among l n) (map-map (λ (r : HandleRow). r.handle) row (filter (files.has_export_order export_order) ours))) in e in
    ap (option_and_then (λ export_order. least_of (model.handles_at w c o export_order))) export_orders
    ∙ each_export_order (least_of (files.export_orders_of s.files c key)) at
  where
    each_export_order : (o : Option ℕ)
        → ((export_order : ℕ) → least_of (model.handles_at w c (step_number_at s.objects.objects key) export_order) ≡ least_of (files.handles_at s.files c key export_order))
        → option_and_then (λ export_order. least_of (model.handles_at w c (step_number_at s.objects.objects key) export_order)) o ≡ option_and_then (λ export_order. least_of (files.handles_at s.files c key export_order)) o
    each_export_order None at = refl
    each_export_order (Some export_order) at = at export_order

-- ---- by what a look-up found

module _ (s : State) (w : Rows) (r : Represents s w) where
  -- A name that the state has is one by rows, of the same object.
  pub name_there : (n key : ℕ) → AreNames s.names
      → Some key ≡ option_map (λ (x : SharedName). x.object) (find (is_name n) s.names.names)
      → model.named_object w n ≡ Some (step_number_at s.objects.objects key)
  name_there n key are e =
      named_found s w n are r
      ∙ told_some (λ (x : SharedName). x.object) (step_number_at s.objects.objects) (find (is_name n) s.names.names) key
      e

  -- A name that the state does not have is none by rows.
  pub no_name : (n : ℕ) → AreNames s.names
      → None ≡ option_map (λ (x : SharedName). x.object) (find (is_name n) s.names.names)
      → model.named_object w n ≡ None
  no_name n are e =
      named_found s w n are r
      ∙ told_none (λ (x : SharedName). x.object) (step_number_at s.objects.objects) (find (is_name n) s.names.names) e

  -- A token that is open in the state is open by rows, of the same object.
  pub token_there : (n key : ℕ) → AreTokens s.tokens
      → Some key ≡ option_map (λ (x : SharedToken). x.object) (find (is_token n) s.tokens.tokens)
      → model.exported_object w n ≡ Some (step_number_at s.objects.objects key)
  token_there n key are e =
      exported_found s w n are r
      ∙ told_some (λ (x : SharedToken). x.object) (step_number_at s.objects.objects) (find (is_token n) s.tokens.tokens)
      key e

  -- A token that is not open in the state is none by rows.
  pub no_token : (n : ℕ) → AreTokens s.tokens
      → None ≡ option_map (λ (x : SharedToken). x.object) (find (is_token n) s.tokens.tokens)
      → model.exported_object w n ≡ None
  no_token n are e =
      exported_found s w n are r
      ∙ told_none (λ (x : SharedToken). x.object) (step_number_at s.objects.objects) (find (is_token n) s.tokens.tokens)
      e

-- The key of a name is among the keys that something names.
pub name_known : (s : State) → MeetsInvariants s → (n key : ℕ)
    → Some key ≡ option_map (λ (x : SharedName). x.object) (find (is_name n) s.names.names)
    → is_among (keys_of s.files.holds ++ referring_keys s) key ≡ true
name_known s t n key e =
    of_found (λ k. is_among (keys_of s.files.holds ++ referring_keys s) k ≡ true) (is_name n)
    (λ (x : SharedName). x.object) s.names.names (names_known s t) key e

-- The key of an open token is among the keys that something names.
pub token_known : (s : State) (n key : ℕ)
    → Some key ≡ option_map (λ (x : SharedToken). x.object) (find (is_token n) s.tokens.tokens)
    → is_among (keys_of s.files.holds ++ referring_keys s) key ≡ true
token_known s n key e =
    among-right (keys_of s.files.holds) (referring_keys s) key
    (among-left (token_keys s.tokens.tokens) (framebuffer_keys s.modes.framebuffers) key
    (of_found (λ k. is_among (token_keys s.tokens.tokens) k ≡ true) (is_token n) (λ (x : SharedToken). x.object) s.tokens.tokens (its_key (λ (x : SharedToken). x.object) s.tokens.tokens) key e))
