-- What a handle of an object that exists, a name, a token and the end of a token leave of the parts.
use Rattle.std.proofs.Common.{◌≡◌, ℕ, ◌+◌, ◌==◌, ◌<◌, ◌≤◌, Bool, true, false, not, cond, ◌&&◌, ◌||◌, List, [], ◌∷◌, ◌++◌, map, filter, find, length, Option, Some, None, refl, sym, ap, ◌∙◌, subst, arith}
use Rattle.std.specs.Prelude.{nat_lt, unwrap_or, if◌then◌else◌}
use Rattle.std.specs.List.{AllByRecursion}
use Rattle.std.specs.Option.{option_map, option_map_or, option_or}
use Rattle.std.proofs.lemmas.Bool.{eqb-true, or_right, lt-ltb}
use Rattle.std.proofs.lemmas.Bool.Decides.{nat_tests}
use Rattle.std.proofs.lemmas.List.{length-map, length-append}
use Rattle.drm_index_array.specs.Orders.{SameRows}
use Rattle.drm_index_array.specs.Numbers.{is_among, count}
use Rattle.drm_index_array.proofs.Lists.{filter_all, filter-shorter, all_weaker}
use Rattle.drm_index_array.proofs.Numbers.{among-append, among-left, among-right}
use Rattle.drm_index_array.proofs.Orders.{same-trans, same-refl, same-cons, same-swap, same-map, same-any, last_first, in_order_map, in_order_weaker}
use Rattle.drm_index_array.specs.Rows.{placed}
use Rattle.drm_index_array.specs.Rows as rows
use Rattle.drm_gem.specs.declared.object.Object.{Object}
use Rattle.drm_gem.specs.Objects.{ObjectSet, passes, held, referred, changed_at}
use Rattle.drm_files.specs.declared.rows.FileHandle.{FileHandle}
use Rattle.drm_files.specs.Files as files
use Rattle.drm_files.specs.Files.{hold, handle_before, given_export_order}
use Rattle.drm_share.specs.declared.rows.SharedName.{SharedName}
use Rattle.drm_share.specs.declared.rows.SharedToken.{SharedToken}
use Rattle.drm_share.specs.Names.{name_before, shared_name, with_name}
use Rattle.drm_share.specs.Tokens as tokens
use Rattle.drm_share.specs.Tokens.{AreTokens, token, token_before, is_token, with_token, without_token}
use Rattle.drm_modes.specs.declared.rows.Framebuffer.{Framebuffer}
use Rattle.drm_model.specs.Rows.{Rows, HandleRow, NameRow, TokenRow, is_handle, free_handle, with_handle_row, step_number, without}
use Rattle.drm_model.specs.Sharing as model
use Rattle.drm_model.specs.Sharing.{with_export_order, free_name, new_token}
use Rattle.drm_model.specs.Change.{swept}
use Rattle.drm_state.specs.declared.state.State.{State}
use Rattle.drm_state.specs.Parts.{step_number_at, handle_row_of, name_row_of, token_row_of, holds_of, keys_of, token_keys, framebuffer_keys, referring, referring_keys}
use Rattle.drm_state.specs.Invariants.{MeetsInvariants, AreCounted, AreNamed, Counts}
use Rattle.drm_state.specs.Refinement.{Represents}
use Rattle.drm_state.proofs.Represented.{holds_are, names_are, tokens_are, framebuffers_are, last_token_is, holds_rise, objects_counted, names_held}
use Rattle.drm_state.proofs.Counting.{IsStep, is_found, all_named, same_invariants, same_references, handle_more, reference_more, more_named}
use Rattle.drm_state.proofs.Holding.{placed_same, all_placed, in_order_placed, free_is_new}
use Rattle.drm_state.proofs.NewBuffer.{free_handle_is, named_yet}
use Rattle.drm_state.proofs.Naming.{same-append}
use Rattle.drm_state.proofs.FramebuffersThere.{shown_yet}
use Rattle.drm_state.proofs.Sweeps.{moved, moved_invariants, names_known, opened_left, some_opened}

-- A new row at the end of the rows is that of a new item in its place, up to order.
pub pushed_same : {X Y : Type 0} (f : X → Y) (before : X → X → Bool) (rows : List Y) (row : Y) (x : X) (xs : List X)
    → row ≡ f x → SameRows rows (map f xs) → SameRows (rows ++ row ∷ []) (map f (placed before x xs))
pushed_same f before rows row x xs e h =
    same-trans (rows ++ row ∷ []) (row ∷ rows) (map f (placed before x xs)) (last_first rows row)
    (same-trans (row ∷ rows) (row ∷ map f xs) (map f (placed before x xs)) (same-cons row rows (map f xs) h)
    (subst (λ y. SameRows (y ∷ map f xs) (map f (placed before x xs))) (sym e) (same-map f (x ∷ xs) (placed before x xs) (placed_same before x xs))))

-- If keys are known, a further known key leaves them known.
pub known_too : (keys known : List ℕ) (k n : ℕ) → is_among known k ≡ true
    → (is_among keys n ≡ true → is_among known n ≡ true) → (k == n || is_among keys n) ≡ true → is_among known n ≡ true
known_too keys known k n h f e =
    elim (k == n) as (λ b. (k == n) ≡ b → (b || is_among keys n) ≡ true → is_among known n ≡ true) [ true ↦ λ is j. ap (is_among known) (sym (eqb-true k n is)) ∙ h | false ↦ λ is j. f j ] refl e

-- What is so of each key of two lists is so of each key of both together.
pub either : (xs ys : List ℕ) (n : ℕ) (b : Bool) → (is_among xs n ≡ true → b ≡ true) → (is_among ys n ≡ true → b ≡ true)
    → is_among (xs ++ ys) n ≡ true → b ≡ true
either xs ys n b f g e =
    elim (is_among xs n) as (λ d. is_among xs n ≡ d → (d || is_among ys n) ≡ true → b ≡ true) [ true ↦ λ is j. f is | false ↦ λ is j. g j ] refl (sym (among-append xs ys n) ∙ e)

fewer_than : (n m last : ℕ) → n ≤ m → m < last → last ≤ 100001 → n < 4294967295
fewer_than n m last h k l = omega (arith, h, k, l)

-- ---- a handle of an object that exists

-- the state with one more handle
abbrev pub with_handle : State → ℕ → ℕ → ℕ → Option ℕ → State
with_handle s c h key export_order =
    record s
    { files = files.with_handle_row s.files (hold c h key export_order); objects = changed_at key held s.objects }

module _ (s : State) (c h key : ℕ) (export_order : Option ℕ) (t : MeetsInvariants s) (known : is_among (keys_of s.files.holds ++ referring_keys s) key ≡ true) (free : files.free_handle s.files c ≡ Some h) where
  abbrev more : List FileHandle
  more = placed handle_before (hold c h key export_order) s.files.holds

  more_keys : SameRows (key ∷ keys_of s.files.holds) (keys_of more)
  more_keys =
      same-map (λ (x : FileHandle). x.object) (hold c h key export_order ∷ s.files.holds) more
      (placed_same handle_before (hold c h key export_order) s.files.holds)

  among_more : (n : ℕ) → is_among (keys_of more) n ≡ (key == n || is_among (keys_of s.files.holds) n)
  among_more n = sym (same-any (λ k. k == n) (key ∷ keys_of s.files.holds) (keys_of more) more_keys)

  more_known : (n : ℕ) → is_among (keys_of more ++ referring_keys s) n ≡ true
      → is_among (keys_of s.files.holds ++ referring_keys s) n ≡ true
  more_known n e =
      let keys = keys_of s.files.holds in
      let refs = referring_keys s in
      either (keys_of more) refs n (is_among (keys ++ refs) n)
      (λ j. known_too keys (keys ++ refs) key n known (λ k. among-left keys refs n k) (sym (among_more n) ∙ j))
      (λ j. among-right keys refs n j) e

  yet_known : (n : ℕ) → is_among (keys_of s.files.holds ++ referring_keys s) n ≡ true
      → is_among (keys_of more ++ referring_keys s) n ≡ true
  yet_known n e =
      let keys = keys_of s.files.holds in
      let refs = referring_keys s in
      either keys refs n (is_among (keys_of more ++ refs) n)
      (λ j. among-left (keys_of more) refs n (among_more n ∙ or_right (key == n) (is_among keys n) j))
      (λ j. among-right (keys_of more) refs n j) e

  more_invariants : AreCounted (keys_of more) (referring_keys s) (changed_at key held s.objects).objects
  more_invariants =
      same_invariants (key ∷ keys_of s.files.holds) (keys_of more) (referring_keys s) _ more_keys
      (handle_more key (keys_of s.files.holds) (referring_keys s) s.objects.objects known (objects_counted s t))

  more_names : AreNamed (keys_of more) s.names.names
  more_names = named_yet c h key export_order s.files.holds s.names.names (names_held s t)

  -- One handle more keeps all invariants.
  pub added_invariants : MeetsInvariants (with_handle s c h key export_order)
  added_invariants =
      moved_invariants s more s.tokens.tokens s.tokens.last_given s.names.names (changed_at key held s.objects) t
      (in_order_placed (hold c h key export_order) s.files.holds (holds_rise s t) (free_is_new s.files c h free))
      more_invariants more_names

  -- The state with one handle more represents the rows with it.
  pub added : (w : Rows) (o : ℕ) → Represents s w → o ≡ step_number_at s.objects.objects key
      → Represents (with_handle s c h key export_order) (swept (record w { holds = with_handle_row w c o export_order }))
  added w o r e =
      let number : unwrap_or (free_handle w c) 0 ≡ h = ap (λ f. unwrap_or f 0) (free_handle_is s w r c ∙ free) in
      let row : HandleRow =
      record { client = c; handle = unwrap_or (free_handle w c) 0; object = o; export_order = export_order } in
      let told : row ≡ handle_row_of s.objects.objects (hold c h key export_order) =
      λ i. record { client = c; handle = number i; object = e i; export_order = export_order } in
      moved s w (with_handle_row w c o export_order) w.tokens w.last_token w.names more s.tokens.tokens
      s.tokens.last_given s.names.names s.names.names (changed_at key held s.objects) t r
      (record {
        holds =
            pushed_same (handle_row_of s.objects.objects) handle_before w.holds row (hold c h key export_order)
            s.files.holds told (holds_are s w r);
        tokens = tokens_are s w r;
        framebuffers = framebuffers_are s w r;
        shown = shown_yet s w t r;
        names = names_are s w r;
        known = more_known;
        known_names = names_known s t;
        left_names = sym (filter_all (λ (x : SharedName). is_among (keys_of more) x.object) s.names.names more_names);
        those =
            more_named key held (keys_of s.files.holds) (referring_keys s) (keys_of more ++ referring_keys s)
            s.objects.objects (λ x. refl) yet_known (objects_counted s t);
      }) refl (last_token_is s w r)

-- An object that a key names can count one more handle.
pub can_hold : (s : State) (key last : ℕ) → MeetsInvariants s
    → is_among (keys_of s.files.holds ++ referring_keys s) key ≡ true → length s.files.holds < last → last ≤ 100001
    → passes (λ x. nat_lt x.holds 4294967295) s.objects key ≡ true
can_hold s key last t known few fits =
    let keys = keys_of s.files.holds in
    let it =
    is_found key s.objects.objects ((objects_counted s t).there key known) (Counts keys (referring_keys s))
    (objects_counted s t).counted in
    let most : count keys it.0.key ≤ length s.files.holds = let a = filter-shorter (λ k. k == it.0.key) keys in let b = length-map s.files.holds (λ (x : FileHandle). x.object) in omega (arith, a, b) in
    ap (λ o. option_map_or (λ (x : Object). nat_lt x.holds 4294967295) o false) it.1
    ∙ lt-ltb it.0.holds 4294967295
    (fewer_than it.0.holds (length s.files.holds) last (let e = it.3.0 in omega (arith, e, most)) few fits)

-- An object that a key names can count one more token or framebuffer.
pub can_refer : (s : State) (key last : ℕ) → MeetsInvariants s
    → is_among (keys_of s.files.holds ++ referring_keys s) key ≡ true → length s.tokens.tokens < last
    → length s.modes.framebuffers < last → last ≤ 100001 → passes (λ x. nat_lt x.refs 4294967295) s.objects key ≡ true
can_refer s key last t known few framed fits =
    let refs = referring_keys s in
    let it =
    is_found key s.objects.objects ((objects_counted s t).there key known) (Counts (keys_of s.files.holds) refs)
    (objects_counted s t).counted in
    let many : length refs ≡ length s.tokens.tokens + length s.modes.framebuffers =
    length-append (token_keys s.tokens.tokens) (framebuffer_keys s.modes.framebuffers)
    ∙ ap (λ n. n + length (framebuffer_keys s.modes.framebuffers))
    (length-map s.tokens.tokens (λ (x : SharedToken). x.object))
    ∙ ap (λ n. length s.tokens.tokens + n) (length-map s.modes.framebuffers (λ (x : Framebuffer). x.object)) in
    let counted = it.3.1 in
    let fewer = filter-shorter (λ k. k == it.0.key) refs in
    ap (λ o. option_map_or (λ (x : Object). nat_lt x.refs 4294967295) o false) it.1
    ∙ lt-ltb it.0.refs 4294967295 (omega (arith, counted, fewer, many, few, framed, fits))

-- ---- a name

module _ (s : State) (n key : ℕ) (t : MeetsInvariants s) (named : is_among (keys_of s.files.holds) key ≡ true) where
  abbrev names_more : List SharedName
  names_more = placed name_before (shared_name n key) s.names.names

  all_held : AreNamed (keys_of s.files.holds) names_more
  all_held =
      all_placed name_before (λ (x : SharedName). is_among (keys_of s.files.holds) x.object ≡ true) (shared_name n key)
      s.names.names named (names_held s t)

  -- One name more keeps all invariants.
  pub flinked_invariants : MeetsInvariants (record s { names = with_name s.names n key })
  flinked_invariants =
      moved_invariants s s.files.holds s.tokens.tokens s.tokens.last_given names_more s.objects t (holds_rise s t)
      (objects_counted s t) all_held

  -- The state with one name more represents the rows with it.
  pub flinked : (w : Rows) (o : ℕ) → Represents s w → o ≡ step_number_at s.objects.objects key
      → unwrap_or (free_name w) 0 ≡ n
      → Represents (record s { names = with_name s.names n key }) (swept (record w { names = w.names ++ record { name = unwrap_or (free_name w) 0; object = o } ∷ [] }))
  flinked w o r e number =
      let row : NameRow = record { name = unwrap_or (free_name w) 0; object = o } in
      let told : row ≡ name_row_of s.objects.objects (shared_name n key) =
      λ i. record { name = number i; object = e i } in
      moved s w w.holds w.tokens w.last_token (w.names ++ row ∷ []) s.files.holds s.tokens.tokens s.tokens.last_given
      names_more names_more s.objects t r
      (record {
        holds = holds_are s w r;
        tokens = tokens_are s w r;
        framebuffers = framebuffers_are s w r;
        shown = shown_yet s w t r;
        names =
            pushed_same (name_row_of s.objects.objects) name_before w.names row (shared_name n key) s.names.names told
            (names_are s w r);
        known = λ m j. j;
        known_names =
            all_weaker (λ (x : SharedName). is_among (keys_of s.files.holds) x.object ≡ true)
            (λ (x : SharedName). is_among (keys_of s.files.holds ++ referring_keys s) x.object ≡ true)
            (λ x j. among-left (keys_of s.files.holds) (referring_keys s) x.object j) names_more all_held;
        left_names =
            sym (filter_all (λ (x : SharedName). is_among (keys_of s.files.holds) x.object) names_more all_held);
        those = all_named (keys_of s.files.holds) (referring_keys s) s.objects.objects (objects_counted s t);
      }) refl (last_token_is s w r)

-- ---- a token

export_order_is : (o : Option ℕ) (m n : ℕ) → m ≡ n → Some (unwrap_or o m) ≡ option_or o (Some n)
export_order_is None m n e = ap Some e
export_order_is (Some p) m n e = refl

-- a handle with an export order, or unchanged
abbrev placed_at : ℕ → ℕ → ℕ → FileHandle → FileHandle
placed_at c h export_order x = if files.is_handle c h x then given_export_order export_order x else x

-- the change of a place leaves what is in the list, and its order
object_stays : (c h export_order : ℕ) (x : FileHandle) → (placed_at c h export_order x).object ≡ x.object
object_stays c h export_order x = elim (files.is_handle c h x) as (λ b. (if b then given_export_order export_order x else x).object ≡ x.object) [ true ↦ refl | false ↦ refl ]

order_stays : (c h export_order : ℕ) (x y : FileHandle) → handle_before x y ≡ true
    → handle_before (placed_at c h export_order x) (placed_at c h export_order y) ≡ true
order_stays c h export_order x y e =
    elim (files.is_handle c h x) as (λ b. handle_before (if b then given_export_order export_order x else x) (placed_at c h export_order y) ≡ true) [
      | true ↦ elim (files.is_handle c h y) as (λ b. handle_before (given_export_order export_order x) (if b then given_export_order export_order y else y) ≡ true) [ true ↦ e | false ↦ e ]
      | false ↦ elim (files.is_handle c h y) as (λ b. handle_before x (if b then given_export_order export_order y else y) ≡ true) [ true ↦ e | false ↦ e ]
    ]

objects_stay : (c h export_order : ℕ) → (xs : List FileHandle)
    → keys_of (map (placed_at c h export_order) xs) ≡ keys_of xs
objects_stay c h export_order [] = refl
objects_stay c h export_order (x ∷ xs) = λ i. object_stays c h export_order x i ∷ objects_stay c h export_order xs i

row_placed : (objects : List Object) (c h m n : ℕ) → m ≡ n → (x : FileHandle)
    → (if is_handle c h (handle_row_of objects x) then record (handle_row_of objects x) { export_order = Some (unwrap_or x.export_order m) } else handle_row_of objects x) ≡ handle_row_of objects (placed_at c h n x)
row_placed objects c h m n e x =
    elim (files.is_handle c h x) as (λ b. (if b then record (handle_row_of objects x) { export_order = Some (unwrap_or x.export_order m) } else handle_row_of objects x) ≡ handle_row_of objects (if b then given_export_order n x else x)) [
      | true ↦ λ i. record { client = x.client; handle = x.handle; object = step_number_at objects x.object; export_order = export_order_is x.export_order m n e i }
      | false ↦ refl
    ]

rows_placed : (objects : List Object) (c h m n : ℕ) → m ≡ n → (xs : List FileHandle)
    → with_export_order c h m (map (handle_row_of objects) xs) ≡ map (handle_row_of objects) (map (placed_at c h n) xs)
unfolding with_export_order
rows_placed objects c h m n e [] = refl
rows_placed objects c h m n e (x ∷ xs) = λ i. row_placed objects c h m n e x i ∷ rows_placed objects c h m n e xs i

with_export_order_same : (c h m : ℕ) (xs ys : List HandleRow) → SameRows xs ys
    → SameRows (with_export_order c h m xs) (with_export_order c h m ys)
unfolding with_export_order
with_export_order_same c h m xs ys e = same-map _ xs ys e

-- the state with one more token of a handle's object
abbrev pub with_export : State → ℕ → ℕ → ℕ → ℕ → ℕ → State
with_export s c h key export_order n =
    record s
    { files = files.with_export_order s.files c h export_order; tokens = with_token s.tokens (token n c key); objects = changed_at key referred s.objects }

module _ (s : State) (c h key export_order n : ℕ) (t : MeetsInvariants s) (named : is_among (keys_of s.files.holds) key ≡ true) where
  abbrev holds_placed : List FileHandle
  holds_placed = map (placed_at c h export_order) s.files.holds

  abbrev tokens_more : List SharedToken
  tokens_more = placed token_before (token n c key) s.tokens.tokens

  same_keys : keys_of holds_placed ≡ keys_of s.files.holds
  same_keys = objects_stay c h export_order s.files.holds

  abbrev refs_more : List ℕ
  refs_more = referring tokens_more s.modes.framebuffers

  one_reference_more : SameRows (key ∷ referring_keys s) refs_more
  one_reference_more =
      let frames = framebuffer_keys s.modes.framebuffers in
      same-append (key ∷ token_keys s.tokens.tokens) (token_keys tokens_more) frames frames
      (same-map (λ (x : SharedToken). x.object) (token n c key ∷ s.tokens.tokens) tokens_more (placed_same token_before (token n c key) s.tokens.tokens))
      (same-refl frames)

  among_tokens : (m : ℕ) → is_among refs_more m ≡ (key == m || is_among (referring_keys s) m)
  among_tokens m = sym (same-any (λ k. k == m) (key ∷ referring_keys s) refs_more one_reference_more)

  tokens_known : (m : ℕ) → is_among (keys_of holds_placed ++ refs_more) m ≡ true
      → is_among (keys_of s.files.holds ++ referring_keys s) m ≡ true
  tokens_known m e =
      let keys = keys_of s.files.holds in
      let refs = referring_keys s in
      either (keys_of holds_placed) refs_more m (is_among (keys ++ refs) m)
      (λ j. among-left keys refs m (ap (λ l. is_among l m) (sym same_keys) ∙ j))
      (λ j. known_too refs (keys ++ refs) key m (among-left keys refs key named) (λ k. among-right keys refs m k) (sym (among_tokens m) ∙ j))
      e

  known_yet : (m : ℕ) → is_among (keys_of s.files.holds ++ referring_keys s) m ≡ true
      → is_among (keys_of holds_placed ++ refs_more) m ≡ true
  known_yet m e =
      let keys = keys_of s.files.holds in
      let refs = referring_keys s in
      either keys refs m (is_among (keys_of holds_placed ++ refs_more) m)
      (λ j. among-left (keys_of holds_placed) refs_more m (ap (λ l. is_among l m) same_keys ∙ j))
      (λ j. among-right (keys_of holds_placed) refs_more m (among_tokens m ∙ or_right (key == m) (is_among refs m) j)) e

  export_invariants : AreCounted (keys_of holds_placed) refs_more (changed_at key referred s.objects).objects
  export_invariants =
      let keys = keys_of s.files.holds in
      subst (λ l. AreCounted l refs_more (changed_at key referred s.objects).objects) (sym same_keys)
      (same_references keys (key ∷ referring_keys s) refs_more _ one_reference_more (reference_more key keys (referring_keys s) s.objects.objects (among-left keys (referring_keys s) key named) (objects_counted s t)))

  names_yet : AreNamed (keys_of holds_placed) s.names.names
  names_yet = subst (λ l. AreNamed l s.names.names) (sym same_keys) (names_held s t)

  -- One token more keeps all invariants.
  pub exported_invariants : MeetsInvariants (with_export s c h key export_order n)
  exported_invariants =
      moved_invariants s holds_placed tokens_more (Some n) s.names.names (changed_at key referred s.objects) t
      (in_order_map (λ (x y : FileHandle). handle_before x y ≡ true) (placed_at c h export_order) s.files.holds (in_order_weaker _ _ (λ x y e. order_stays c h export_order x y e) s.files.holds (holds_rise s t)))
      export_invariants names_yet

  -- The state with one token more represents the rows with it, and with the export order of its handle.
  pub exported : (w : Rows) (o : ℕ) → Represents s w → o ≡ step_number_at s.objects.objects key → new_token w ≡ n
      → step_number w ≡ export_order →
      Represents (with_export s c h key export_order n)
      (swept (record w { tokens = w.tokens ++ record { token = new_token w; client = c; object = o } ∷ []; last_token = new_token w; holds = with_export_order c h (step_number w) w.holds }))
  exported w o r e number at =
      let row : TokenRow = record { token = new_token w; client = c; object = o } in
      let told : row ≡ token_row_of s.objects.objects (token n c key) =
      λ i. record { token = number i; client = c; object = e i } in
      moved s w (with_export_order c h (step_number w) w.holds) (w.tokens ++ row ∷ []) (new_token w) w.names
      holds_placed tokens_more (Some n) s.names.names s.names.names (changed_at key referred s.objects) t r
      (record {
        holds =
            subst (SameRows (with_export_order c h (step_number w) w.holds))
            (rows_placed s.objects.objects c h (step_number w) export_order at s.files.holds)
            (with_export_order_same c h (step_number w) w.holds (holds_of s) (holds_are s w r));
        tokens =
            pushed_same (token_row_of s.objects.objects) token_before w.tokens row (token n c key) s.tokens.tokens told
            (tokens_are s w r);
        framebuffers = framebuffers_are s w r;
        shown = shown_yet s w t r;
        names = names_are s w r;
        known = tokens_known;
        known_names = names_known s t;
        left_names =
            sym (filter_all (λ (x : SharedName). is_among (keys_of holds_placed) x.object) s.names.names names_yet);
        those =
            more_named key referred (keys_of s.files.holds) (referring_keys s) (keys_of holds_placed ++ refs_more)
            s.objects.objects (λ x. refl) known_yet (objects_counted s t);
      }) refl number

-- ---- the end of a token

other_token : (n : ℕ) (x z : SharedToken) → is_token n x ≡ true → token_before x z ≡ true → is_token n z ≡ false
other_token n x z h e = grind (arith, nat_tests)

keeps_tokens : (n : ℕ) (x : SharedToken) → is_token n x ≡ true → (xs : List SharedToken)
    → AllByRecursion (λ z. token_before x z ≡ true) xs → filter (λ (z : SharedToken). not (is_token n z)) xs ≡ xs
keeps_tokens n x h [] k = refl
keeps_tokens n x h (z ∷ zs) k =
    ap
    (λ b. cond (not b) (z ∷ filter (λ (z : SharedToken). not (is_token n z)) zs) (filter (λ (z : SharedToken). not (is_token n z)) zs))
    (other_token n x z h k.0)
    ∙ ap (λ l. z ∷ l) (keeps_tokens n x h zs k.1)

-- Without a token, one key fewer is named: the key of that token.
pub one_token_goes : (n : ℕ) (x : SharedToken) → (ts : List SharedToken) → rows.InOrder token_before ts
    → find (is_token n) ts ≡ Some x
    → SameRows (token_keys ts) (x.object ∷ token_keys (filter (λ (z : SharedToken). not (is_token n z)) ts))
one_token_goes n x [] o e = absurd (let k : None ≡ Some x = e in cc)
one_token_goes n x (y ∷ ys) o e =
    let rest = filter (λ (z : SharedToken). not (is_token n z)) ys in
    elim (is_token n y) as (λ b. is_token n y ≡ b → cond b (Some y) (find (is_token n) ys) ≡ Some x → SameRows (token_keys (y ∷ ys)) (x.object ∷ token_keys (cond (not b) (y ∷ rest) rest))) [
      | true ↦ λ is f.
          let same : y ≡ x = let k : Some y ≡ Some x = f in cc in
          subst (λ (z : SharedToken). SameRows (token_keys (y ∷ ys)) (z.object ∷ token_keys rest)) same
          (subst (λ l. SameRows (y.object ∷ token_keys ys) (y.object ∷ token_keys l)) (sym (keeps_tokens n y is ys o.0)) (same-refl (y.object ∷ token_keys ys)))
      | false ↦ λ is f.
          same-trans (y.object ∷ token_keys ys) (y.object ∷ x.object ∷ token_keys rest)
          (x.object ∷ y.object ∷ token_keys rest)
          (same-cons y.object (token_keys ys) (x.object ∷ token_keys rest) (one_token_goes n x ys o.1 f))
          (same-swap y.object x.object (token_keys rest))
    ] refl e

-- the client's token of a number is the token of that number
found_of_client : (c n : ℕ) → (ts : List SharedToken) → rows.InOrder token_before ts → (x : SharedToken)
    → find (tokens.is_token_of c n) ts ≡ Some x → find (is_token n) ts ≡ Some x
found_of_client c n [] o x e = absurd (let k : None ≡ Some x = e in cc)
found_of_client c n (y ∷ ys) o x e =
    elim (is_token n y) as (λ b. is_token n y ≡ b → cond (b && (y.client == c)) (Some y) (find (tokens.is_token_of c n) ys) ≡ Some x → cond b (Some y) (find (is_token n) ys) ≡ Some x) [
      | true ↦ λ is. elim (y.client == c) as (λ b. (y.client == c) ≡ b → cond b (Some y) (find (tokens.is_token_of c n) ys) ≡ Some x → Some y ≡ Some x)
          [ true ↦ λ own f. f | false ↦ λ own f. absurd (let k : None ≡ Some x = sym (none_later is ys o.0) ∙ f in cc) ]
          refl
      | false ↦ λ is f. found_of_client c n ys o.1 x f
    ] refl e
  where
    none_later : is_token n y ≡ true → (zs : List SharedToken) → AllByRecursion (λ z. token_before y z ≡ true) zs
        → find (tokens.is_token_of c n) zs ≡ None
    none_later is [] k = refl
    none_later is (z ∷ zs) k = rw (other_token n y z is k.0) (none_later is zs k.1)

-- so that one row goes of them
one_row_goes : (c n : ℕ) → (ts : List SharedToken) → rows.InOrder token_before ts → (x : SharedToken)
    → find (tokens.is_token_of c n) ts ≡ Some x
    → filter (λ (z : SharedToken). not (tokens.is_token_of c n z)) ts ≡ filter (λ (z : SharedToken). not (is_token n z)) ts
one_row_goes c n [] o x e = refl
one_row_goes c n (y ∷ ys) o x e =
    let own = filter (λ (z : SharedToken). not (tokens.is_token_of c n z)) ys in
    let all = filter (λ (z : SharedToken). not (is_token n z)) ys in
    elim (is_token n y) as (λ b. is_token n y ≡ b → cond (b && (y.client == c)) (Some y) (find (tokens.is_token_of c n) ys) ≡ Some x → cond (not (b && (y.client == c))) (y ∷ own) own ≡ cond (not b) (y ∷ all) all) [
      | true ↦ λ is. elim (y.client == c) as (λ b. (y.client == c) ≡ b → cond b (Some y) (find (tokens.is_token_of c n) ys) ≡ Some x → cond (not b) (y ∷ own) own ≡ all)
          [ true ↦ λ mine f. kept_own is ys o.0 ∙ sym (keeps_tokens n y is ys o.0) | false ↦ λ mine f. absurd (let k : None ≡ Some x = sym (none_later is ys o.0) ∙ f in cc) ]
          refl
      | false ↦ λ is f. ap (λ l. y ∷ l) (one_row_goes c n ys o.1 x f)
    ] refl e
  where
    none_later : is_token n y ≡ true → (zs : List SharedToken) → AllByRecursion (λ z. token_before y z ≡ true) zs
        → find (tokens.is_token_of c n) zs ≡ None
    none_later is [] k = refl
    none_later is (z ∷ zs) k = rw (other_token n y z is k.0) (none_later is zs k.1)

    kept_own : is_token n y ≡ true → (zs : List SharedToken) → AllByRecursion (λ z. token_before y z ≡ true) zs
        → filter (λ (z : SharedToken). not (tokens.is_token_of c n z)) zs ≡ zs
    kept_own is [] k = refl
    kept_own is (z ∷ zs) k = rw (other_token n y z is k.0) (ap (λ l. z ∷ l) (kept_own is zs k.1))

behind_token : (o : Option SharedToken) (key : ℕ) → Some key ≡ option_map (λ (x : SharedToken). x.object) o
    → (x : SharedToken) × (o ≡ Some x) × (x.object ≡ key)
behind_token None key e = absurd (let k : Some key ≡ None = e in cc)
behind_token (Some x) key e = (x, refl, let k : Some key ≡ Some x.object = e in cc)

-- the state without a token
abbrev pub without_open : State → ℕ → ObjectSet → State
without_open s n set = record s { tokens = without_token s.tokens n; objects = set }

module _ (s : State) (c n key : ℕ) (t : MeetsInvariants s) (are : AreTokens s.tokens) (of : Some key ≡ option_map (λ (x : SharedToken). x.object) (find (tokens.is_token_of c n) s.tokens.tokens)) where
  abbrev others : List SharedToken
  others = (without_token s.tokens n).tokens

  -- Objects count the key of the token, and the keys of all others.
  pub token_invariants : AreCounted (keys_of s.files.holds) (key ∷ referring others s.modes.framebuffers) s.objects.objects
  token_invariants =
      let it = behind_token (find (tokens.is_token_of c n) s.tokens.tokens) key of in
      let goes =
      one_token_goes n it.0 s.tokens.tokens are.tokens_rise
      (found_of_client c n s.tokens.tokens are.tokens_rise it.0 it.1) in
      let frames = framebuffer_keys s.modes.framebuffers in
      let one : SameRows (token_keys s.tokens.tokens) (key ∷ token_keys others) =
      subst (λ k. SameRows (token_keys s.tokens.tokens) (k ∷ token_keys others)) it.2 goes in
      same_references (keys_of s.files.holds) (referring_keys s) (key ∷ referring others s.modes.framebuffers)
      s.objects.objects
      (same-append (token_keys s.tokens.tokens) (key ∷ token_keys others) frames frames one (same-refl frames))
      (objects_counted s t)

  fewer_tokens : (m : ℕ) → is_among (referring others s.modes.framebuffers) m ≡ true
      → is_among (referring_keys s) m ≡ true
  fewer_tokens m j =
      either (token_keys others) (framebuffer_keys s.modes.framebuffers) m (is_among (referring_keys s) m)
      (λ k. among-left (token_keys s.tokens.tokens) (framebuffer_keys s.modes.framebuffers) m (some_opened (λ (x : SharedToken). not (is_token n x)) s.tokens.tokens m k))
      (λ k. among-right (token_keys s.tokens.tokens) (framebuffer_keys s.modes.framebuffers) m k) j

  module _ (set : ObjectSet) (step : IsStep s.objects.objects (keys_of s.files.holds) (referring others s.modes.framebuffers) set) (limit : set.limit ≡ s.objects.limit) where
    -- One token fewer keeps all invariants.
    pub closed_invariants : MeetsInvariants (without_open s n set)
    closed_invariants =
        moved_invariants s s.files.holds others s.tokens.last_given s.names.names set t (holds_rise s t) step.invariants
        (names_held s t)

    -- The state without a token represents the rows without it, after a sweep.
    pub closed : (w : Rows) → Represents s w
        → Represents (without_open s n set) (swept (record w { tokens = without (model.is_token_of c n) w.tokens }))
    closed w r =
        let it = behind_token (find (tokens.is_token_of c n) s.tokens.tokens) key of in
        let own = filter (λ (x : SharedToken). not (tokens.is_token_of c n x)) s.tokens.tokens in
        let same : own ≡ others = one_row_goes c n s.tokens.tokens are.tokens_rise it.0 it.1 in
        moved s w w.holds (without (model.is_token_of c n) w.tokens) w.last_token w.names s.files.holds others
        s.tokens.last_given s.names.names s.names.names set t r
        (record {
          holds = holds_are s w r;
          tokens =
              subst (λ l. SameRows (without (model.is_token_of c n) w.tokens) (map (token_row_of s.objects.objects) l))
              same
              (opened_left w.tokens (λ row. not (model.is_token_of c n row)) s.objects.objects s.tokens.tokens (tokens_are s w r));
          framebuffers = framebuffers_are s w r;
          shown = shown_yet s w t r;
          names = names_are s w r;
          known =
              λ m e. either (keys_of s.files.holds) (referring others s.modes.framebuffers) m
              (is_among (keys_of s.files.holds ++ referring_keys s) m)
              (λ j. among-left (keys_of s.files.holds) (referring_keys s) m j)
              (λ j. among-right (keys_of s.files.holds) (referring_keys s) m (fewer_tokens m j)) e;
          known_names = names_known s t;
          left_names =
              sym
              (filter_all (λ (x : SharedName). is_among (keys_of s.files.holds) x.object) s.names.names (names_held s t));
          those = step.named;
        }) limit (last_token_is s w r)
