-- Which framebuffer is found by rows, and what one framebuffer more or fewer leaves of the parts.
use Rattle.std.proofs.Common.{◌≡◌, ℕ, ◌==◌, ◌&&◌, ◌||◌, Bool, true, false, cond, not, List, [], ◌∷◌, ◌++◌, map, filter, find, Option, Some, None, refl, sym, ap, ◌∙◌, subst, arith}
use Rattle.std.specs.Prelude.{unwrap_or}
use Rattle.std.specs.List.{list_any, AllByRecursion}
use Rattle.std.specs.Option.{is_some, option_map}
use Rattle.std.proofs.Math.Bool.{and_comm}
use Rattle.std.proofs.lemmas.Bool.{eqb-true, or_right}
use Rattle.std.proofs.lemmas.Bool.Decides.{nat_tests}
use Rattle.drm_index_array.specs.Orders.{SameRows}
use Rattle.drm_index_array.specs.Numbers.{is_among}
use Rattle.drm_index_array.proofs.Lists.{all_weaker, all_each, filter_all, filter_true, filter-same, list_any-map, list_any_agree, map-map}
use Rattle.drm_index_array.proofs.FoundInLists.{is_some-find, find_none, find_others}
use Rattle.drm_index_array.proofs.Numbers.{among-left, among-right}
use Rattle.drm_index_array.proofs.Orders.{same-refl, same-sym, same-trans, same-cons, same-swap, same-map, same-any, moved_in}
use Rattle.drm_index_array.specs.Least.{least}
use Rattle.drm_index_array.specs.Rows as rows
use Rattle.drm_index_array.specs.Rows.{placed}
use Rattle.drm_index_array.proofs.Least.{least-same}
use Rattle.drm_table.specs.declared.answers.Answer.TheVariants.{Framebuffer as FramebufferIs}
use Rattle.drm_gem.specs.Objects.{ObjectSet, referred, changed_at}
use Rattle.drm_share.specs.declared.rows.SharedName.{SharedName}
use Rattle.drm_modes.specs.declared.rows.Fb.{Fb}
use Rattle.drm_modes.specs.declared.rows.Framebuffer.{Framebuffer}
use Rattle.drm_modes.specs.declared.rows.Shape.{Shape}
use Rattle.drm_modes.specs.declared.rows.Shown.{Shown}
use Rattle.drm_modes.specs.Modes as modes
use Rattle.drm_modes.specs.Modes.{ModeSet, AreModes, framebuffer_before, framebuffer, has_framebuffer, shown_rows, with_framebuffer, without_framebuffer}
use Rattle.drm_modes.specs.Topology.{Topology}
use Rattle.drm_model.specs.Rows.{Rows, FramebufferRow, framebuffer_row, is_framebuffer, without}
use Rattle.drm_model.specs.Modes as model
use Rattle.drm_model.specs.Modes.{framebuffer_object, framebuffer_answer, new_framebuffer}
use Rattle.drm_model.specs.Change.{swept}
use Rattle.drm_state.specs.declared.state.State.{State}
use Rattle.drm_state.specs.Parts.{step_number_at, framebuffer_row_of, framebuffers_of, keys_of, token_keys, framebuffer_keys, referring, referring_keys}
use Rattle.drm_state.specs.Invariants.{MeetsInvariants, AreCounted}
use Rattle.drm_state.specs.Refinement.{Represents}
use Rattle.drm_state.proofs.Represented.{bounds_are, holds_are, names_are, tokens_are, framebuffers_are, shown_are, last_token_is, modes_so, holds_rise, objects_counted, names_held}
use Rattle.drm_state.proofs.Counting.{IsStep, same_references, reference_more, more_named}
use Rattle.drm_state.proofs.Holding.{placed_same}
use Rattle.drm_state.proofs.Naming.{same-append}
use Rattle.drm_state.proofs.FramebuffersThere.{framebuffer_there, lit_shows, all_shown, shown_left, one_dark, some_framed, framed_left}
use Rattle.drm_state.proofs.Sweeps.{all_moved, all_moved_invariants, names_known}
use Rattle.drm_state.proofs.SharedLookups.{one_passes, number_by, itself, of_found, its_key}
use Rattle.drm_state.proofs.SharedChanges.{pushed_same, known_too, either}

-- ---- look-ups

later : (n : ℕ) (x y : Framebuffer) → modes.is_framebuffer n x ≡ true → framebuffer_before x y ≡ true
    → modes.is_framebuffer n y ≡ false
later n x y h e = grind (arith, nat_tests)

-- what a row says, by its numbers
told_by : (handle : ℕ) (o : Option FramebufferRow) (width height pitch bpp : ℕ)
    → option_map (λ (row : FramebufferRow). row.width) o ≡ Some width
    → option_map (λ (row : FramebufferRow). row.height) o ≡ Some height →
    option_map (λ (row : FramebufferRow). row.pitch) o ≡ Some pitch → option_map (λ (row : FramebufferRow). row.bpp) o ≡
    Some bpp → framebuffer_answer handle o ≡ FramebufferIs width height pitch bpp handle
told_by handle None width height pitch bpp a b c d = absurd (let e : None ≡ Some width = a in cc)
told_by handle (Some row) width height pitch bpp a b c d =
    let wide : row.width ≡ width = (let e : Some row.width ≡ Some width = a in cc) in
    let high : row.height ≡ height = (let e : Some row.height ≡ Some height = b in cc) in
    let far : row.pitch ≡ pitch = (let e : Some row.pitch ≡ Some pitch = c in cc) in
    let deep : row.bpp ≡ bpp = (let e : Some row.bpp ≡ Some bpp = d in cc) in
    λ i. FramebufferIs (wide i) (high i) (far i) (deep i) handle

-- a number of a framebuffer is one that its id has no part in
through_fb : (of : Fb → ℕ) (o : Option Framebuffer)
    → option_map (λ (x : Framebuffer). of (modes.fb_of x)) o ≡ option_map of (option_map modes.fb_of o)
through_fb of None = refl
through_fb of (Some x) = refl

module _ (s : State) (w : Rows) (t : MeetsInvariants s) (h : Represents s w) where
  -- A framebuffer has a row exactly if the state has it.
  pub framebuffer_is : (f : ℕ) → is_framebuffer w f ≡ has_framebuffer s.modes f
  framebuffer_is f = framebuffer_there w s.objects.objects s.modes.framebuffers f (framebuffers_are s w h)

  -- a number of it, by its row
  number_is : (f : ℕ) (told : FramebufferRow → ℕ) (of : Framebuffer → ℕ) (number : ℕ → ℕ)
      → ((x : Framebuffer) → told (framebuffer_row_of s.objects.objects x) ≡ number (of x)) →
      option_map told (framebuffer_row w f) ≡ option_map (λ x. number (of x))
      (find (modes.is_framebuffer f) s.modes.framebuffers)
  number_is f told of number is =
      number_by (framebuffer_row_of s.objects.objects) (λ (row : FramebufferRow). row.framebuffer == f)
      (modes.is_framebuffer f) told of number is w.framebuffers s.modes.framebuffers (framebuffers_are s w h)
      (all_each _ (λ x. refl) s.modes.framebuffers)
      (λ y e. one_passes framebuffer_before (modes.is_framebuffer f) (λ x. number (of x)) (later f) s.modes.framebuffers (modes_so s t).framebuffers_rise y e)

  module _ (f : ℕ) (x : Fb) (found : option_map modes.fb_of (find (modes.is_framebuffer f) s.modes.framebuffers) ≡ Some x) where
    number_found : (told : FramebufferRow → ℕ) (of : Fb → ℕ) (number : ℕ → ℕ)
        → ((x : Framebuffer) → told (framebuffer_row_of s.objects.objects x) ≡ number (of (modes.fb_of x)))
        → option_map told (framebuffer_row w f) ≡ Some (number (of x))
    number_found told of number is =
        number_is f told (λ y. of (modes.fb_of y)) number is
        ∙ through_fb (λ v. number (of v)) (find (modes.is_framebuffer f) s.modes.framebuffers)
        ∙ ap (option_map (λ v. number (of v))) found

    -- The answer of a framebuffer has the shape that the state has.
    pub framebuffer_told : (handle : ℕ)
        → framebuffer_answer handle (framebuffer_row w f) ≡ FramebufferIs x.shape.width x.shape.height x.shape.pitch x.shape.bpp handle
    framebuffer_told handle =
        told_by handle (framebuffer_row w f) x.shape.width x.shape.height x.shape.pitch x.shape.bpp
        (number_found (λ row. row.width) (λ y. y.shape.width) itself (λ y. refl))
        (number_found (λ row. row.height) (λ y. y.shape.height) itself (λ y. refl))
        (number_found (λ row. row.pitch) (λ y. y.shape.pitch) itself (λ y. refl))
        (number_found (λ row. row.bpp) (λ y. y.shape.bpp) itself (λ y. refl))

    -- The object of a framebuffer is that of its key.
    pub framebuffer_object_is : framebuffer_object w f ≡ step_number_at s.objects.objects x.object
    framebuffer_object_is =
        ap (λ o. unwrap_or o 0)
        (number_found (λ row. row.object) (λ y. y.object) (step_number_at s.objects.objects) (λ y. refl))

  -- A client owns a framebuffer by rows exactly if it owns it in the state.
  pub own_framebuffer : (c f : ℕ)
      → is_some (find (model.is_framebuffer_of c f) w.framebuffers) ≡ is_some (find (modes.is_framebuffer_of c f) s.modes.framebuffers)
  own_framebuffer c f =
      is_some-find (model.is_framebuffer_of c f) w.framebuffers
      ∙ same-any (model.is_framebuffer_of c f) w.framebuffers (framebuffers_of s) (framebuffers_are s w h)
      ∙ list_any-map (model.is_framebuffer_of c f) (framebuffer_row_of s.objects.objects) s.modes.framebuffers
      ∙ list_any_agree (λ x. model.is_framebuffer_of c f (framebuffer_row_of s.objects.objects x))
      (modes.is_framebuffer_of c f) (λ x. and_comm (x.client == c) (x.framebuffer == f)) s.modes.framebuffers
      ∙ sym (is_some-find (modes.is_framebuffer_of c f) s.modes.framebuffers)

  -- The free id of a framebuffer is the same by rows as in the state.
  pub free_framebuffer_is : model.free_framebuffer w ≡ modes.free_framebuffer s.modes
  free_framebuffer_is =
      let id = λ (row : FramebufferRow). row.framebuffer in
      let agree = λ (n : ℕ).
      let e : is_among (map id w.framebuffers) n ≡ is_among (map (λ (x : Framebuffer). x.framebuffer) s.modes.framebuffers) n =
      same-any (λ k. k == n) (map id w.framebuffers) (map id (framebuffers_of s)) (same-map id w.framebuffers (framebuffers_of s) (framebuffers_are s w h)) ∙ ap (λ l. is_among l n) (map-map id (framebuffer_row_of s.objects.objects) s.modes.framebuffers) in e in
      let bounds = bounds_are s w h in
      least-same (model.is_free_framebuffer w) (modes.is_free s.modes) (modes.first_framebuffer w.topology) _
      (λ n _ _. ap not (agree n))
      ∙ ap (least (modes.is_free s.modes) (modes.first_framebuffer w.topology)) (sym bounds.6)
      ∙ ap (λ (topology : Topology). least (modes.is_free s.modes) (modes.first_framebuffer topology) s.modes.last)
      (sym bounds.7)

-- The key of a framebuffer is among the keys that something names.
pub framebuffer_known : (s : State) (f key : ℕ)
    → Some key ≡ option_map (λ (x : Fb). x.object) (option_map modes.fb_of (find (modes.is_framebuffer f) s.modes.framebuffers))
    → is_among (keys_of s.files.holds ++ referring_keys s) key ≡ true
framebuffer_known s f key e =
    among-right (keys_of s.files.holds) (referring_keys s) key
    (among-right (token_keys s.tokens.tokens) (framebuffer_keys s.modes.framebuffers) key
    (of_found (λ k. is_among (framebuffer_keys s.modes.framebuffers) k ≡ true) (modes.is_framebuffer f) (λ (x : Framebuffer). x.object) s.modes.framebuffers (its_key (λ (x : Framebuffer). x.object) s.modes.framebuffers) key (e ∙ sym (through_fb (λ (x : Fb). x.object) (find (modes.is_framebuffer f) s.modes.framebuffers)))))

-- ---- one more

-- the state with one more framebuffer
abbrev pub with_frame : State → ℕ → ℕ → Shape → ℕ → State
with_frame s n c shape key =
    record s
    { modes = with_framebuffer s.modes (framebuffer n c shape key); objects = changed_at key referred s.objects }

module _ (s : State) (n c key : ℕ) (shape : Shape) (t : MeetsInvariants s) (named : is_among (keys_of s.files.holds) key ≡ true) (are : AreModes (with_framebuffer s.modes (framebuffer n c shape key))) where
  abbrev frames_more : List Framebuffer
  frames_more = placed framebuffer_before (framebuffer n c shape key) s.modes.framebuffers

  abbrev refs_more : List ℕ
  refs_more = referring s.tokens.tokens frames_more

  one_reference_more : SameRows (key ∷ referring_keys s) refs_more
  one_reference_more =
      let opened = token_keys s.tokens.tokens in
      let frames = framebuffer_keys s.modes.framebuffers in
      same-trans (key ∷ referring_keys s) (opened ++ key ∷ frames) refs_more (moved_in key opened frames)
      (same-append opened opened (key ∷ frames) (framebuffer_keys frames_more) (same-refl opened) (same-map (λ (x : Framebuffer). x.object) (framebuffer n c shape key ∷ s.modes.framebuffers) frames_more (placed_same framebuffer_before (framebuffer n c shape key) s.modes.framebuffers)))

  among_refs : (m : ℕ) → is_among refs_more m ≡ (key == m || is_among (referring_keys s) m)
  among_refs m = sym (same-any (λ k. k == m) (key ∷ referring_keys s) refs_more one_reference_more)

  refs_known : (m : ℕ) → is_among (keys_of s.files.holds ++ refs_more) m ≡ true
      → is_among (keys_of s.files.holds ++ referring_keys s) m ≡ true
  refs_known m e =
      let keys = keys_of s.files.holds in
      let refs = referring_keys s in
      either keys refs_more m (is_among (keys ++ refs) m) (λ j. among-left keys refs m j)
      (λ j. known_too refs (keys ++ refs) key m (among-left keys refs key named) (λ k. among-right keys refs m k) (sym (among_refs m) ∙ j))
      e

  known_yet : (m : ℕ) → is_among (keys_of s.files.holds ++ referring_keys s) m ≡ true
      → is_among (keys_of s.files.holds ++ refs_more) m ≡ true
  known_yet m e =
      let keys = keys_of s.files.holds in
      let refs = referring_keys s in
      either keys refs m (is_among (keys ++ refs_more) m) (λ j. among-left keys refs_more m j)
      (λ j. among-right keys refs_more m (among_refs m ∙ or_right (key == m) (is_among refs m) j)) e

  more_counted : AreCounted (keys_of s.files.holds) refs_more (changed_at key referred s.objects).objects
  more_counted =
      let keys = keys_of s.files.holds in
      same_references keys (key ∷ referring_keys s) refs_more _ one_reference_more
      (reference_more key keys (referring_keys s) s.objects.objects (among-left keys (referring_keys s) key named) (objects_counted s t))

  -- One framebuffer more keeps all invariants.
  pub framed_invariants : MeetsInvariants (with_frame s n c shape key)
  framed_invariants =
      all_moved_invariants s s.files.holds s.tokens.tokens s.tokens.last_given
      (with_framebuffer s.modes (framebuffer n c shape key)) s.names.names (changed_at key referred s.objects) t
      (holds_rise s t) are more_counted (names_held s t)

  -- the row of the new framebuffer
  abbrev row_more : Rows → ℕ → FramebufferRow
  row_more w o =
      record
      { framebuffer = new_framebuffer w; client = c; object = o; width = shape.width; height = shape.height; pitch = shape.pitch; bpp = shape.bpp }

  -- The state with one framebuffer more represents the rows with it, after a sweep.
  pub framed : (w : Rows) (o : ℕ) → Represents s w → o ≡ step_number_at s.objects.objects key → new_framebuffer w ≡ n
      → Represents (with_frame s n c shape key) (swept (record w { framebuffers = w.framebuffers ++ row_more w o ∷ [] }))
  framed w o r e number =
      let now = with_framebuffer s.modes (framebuffer n c shape key) in
      let v : Rows = record w { framebuffers = w.framebuffers ++ row_more w o ∷ [] } in
      let told : row_more w o ≡ framebuffer_row_of s.objects.objects (framebuffer n c shape key) =
      λ i. record
      { framebuffer = number i; client = c; object = e i; width = shape.width; height = shape.height; pitch = shape.pitch; bpp = shape.bpp }
      in
      let more : SameRows v.framebuffers (map (framebuffer_row_of s.objects.objects) frames_more) =
      pushed_same (framebuffer_row_of s.objects.objects) framebuffer_before w.framebuffers (row_more w o)
      (framebuffer n c shape key) s.modes.framebuffers told (framebuffers_are s w r) in
      all_moved s w w.holds w.tokens w.last_token (w.framebuffers ++ row_more w o ∷ []) w.names s.files.holds
      s.tokens.tokens s.tokens.last_given now s.names.names s.names.names (changed_at key referred s.objects) t r
      (record {
        holds = holds_are s w r;
        tokens = tokens_are s w r;
        framebuffers = more;
        shown = shown_left v s.objects.objects s.modes now more (shown_are s w r) (all_shown now are);
        names = names_are s w r;
        known = refs_known;
        known_names = names_known s t;
        left_names =
            sym
            (filter_all (λ (x : SharedName). is_among (keys_of s.files.holds) x.object) s.names.names (names_held s t));
        those =
            more_named key referred (keys_of s.files.holds) (referring_keys s) (keys_of s.files.holds ++ refs_more)
            s.objects.objects (λ x. refl) known_yet (objects_counted s t);
      }) refl refl refl (last_token_is s w r)

-- ---- one fewer

-- the framebuffers without one
abbrev pub others : ℕ → List Framebuffer → List Framebuffer
others f fs = filter (λ (x : Framebuffer). not (modes.is_framebuffer f x)) fs

-- a framebuffer that existed and is another stays
stays : (f g : ℕ) (fs : List Framebuffer) → list_any (modes.is_framebuffer g) fs ≡ true
    → not (g == f) ≡ list_any (modes.is_framebuffer g) (others f fs)
stays f g fs has =
    elim (g == f) as (λ b. (g == f) ≡ b → not b ≡ list_any (modes.is_framebuffer g) (others f fs)) [
      | true ↦ λ e.
          let none =
          find_none (modes.is_framebuffer g) (others f fs)
          (all_weaker (λ (x : Framebuffer). not (x.framebuffer == f) ≡ true) (λ (x : Framebuffer). (x.framebuffer == g) ≡ false) (λ x k. ap (λ m. x.framebuffer == m) (eqb-true g f e) ∙ not_so (x.framebuffer == f) k) (others f fs) (filter_true (λ (x : Framebuffer). not (x.framebuffer == f)) fs))
          in
          sym (sym (is_some-find (modes.is_framebuffer g) (others f fs)) ∙ ap is_some none)
      | false ↦ λ e. sym (sym (is_some-find (modes.is_framebuffer g) (others f fs)) ∙ ap is_some (find_others (λ (x : Framebuffer). x.framebuffer) g f e fs) ∙ is_some-find (modes.is_framebuffer g) fs ∙ has)
    ] refl
  where
    not_so : (b : Bool) → not b ≡ true → b ≡ false
    not_so true k = sym k
    not_so false k = refl

-- what shows it becomes dark, and nothing else
goes_dark : (set : ModeSet) (f : ℕ) → AreModes set
    → shown_rows (without_framebuffer set f) ≡ filter (λ (x : Shown). has_framebuffer (without_framebuffer set f) x.framebuffer) (shown_rows set)
goes_dark set f are =
    one_dark set f
    ∙ filter-same (λ (x : Shown). not (x.framebuffer == f))
    (λ (x : Shown). has_framebuffer (without_framebuffer set f) x.framebuffer) (shown_rows set)
    (all_weaker (λ (x : Shown). has_framebuffer set x.framebuffer ≡ true) (λ (x : Shown). not (x.framebuffer == f) ≡ has_framebuffer (without_framebuffer set f) x.framebuffer) (λ x e. stays f x.framebuffer set.framebuffers e) (shown_rows set) (lit_shows (has_framebuffer set) 1 set.scanouts are.scanouts_are))

-- of framebuffers in their order one is freed with its id, and it is the client's
record Goes (c f key : ℕ) (fs : List Framebuffer) : Type 0 where
  pub keys : SameRows (framebuffer_keys fs) (key ∷ framebuffer_keys (others f fs))
  pub own : AllByRecursion (λ (x : Framebuffer). modes.is_framebuffer_of c f x ≡ modes.is_framebuffer f x) fs

one_goes : (c f key : ℕ) → (fs : List Framebuffer) → rows.InOrder framebuffer_before fs
    → Some key ≡ option_map (λ (x : Framebuffer). x.object) (find (modes.is_framebuffer_of c f) fs) → Goes c f key fs
one_goes c f key [] o e = absurd (let k : Some key ≡ None = e in cc)
one_goes c f key (x ∷ xs) o e =
    elim (x.framebuffer == f) as (λ b. (x.framebuffer == f) ≡ b → Some key ≡ option_map (λ (x : Framebuffer). x.object) (cond (b && (x.client == c)) (Some x) (find (modes.is_framebuffer_of c f) xs)) → Goes c f key (x ∷ xs)) [
      | true ↦ λ is j. elim (x.client == c) as (λ b. (x.client == c) ≡ b → Some key ≡ option_map (λ (x : Framebuffer). x.object) (cond b (Some x) (find (modes.is_framebuffer_of c f) xs)) → Goes c f key (x ∷ xs))
          [ true ↦ first is | false ↦ λ mine k. absurd (let n : Some key ≡ None = k ∙ ap (option_map (λ (x : Framebuffer). x.object)) (none is) in cc) ]
          refl j
      | false ↦ λ is j. not_first is (one_goes c f key xs o.1 j)
    ] refl e
  where
    none_later : (x.framebuffer == f) ≡ true → AllByRecursion (λ (z : Framebuffer). (z.framebuffer == f) ≡ false) xs
    none_later is =
        all_weaker (λ (z : Framebuffer). framebuffer_before x z ≡ true)
        (λ (z : Framebuffer). (z.framebuffer == f) ≡ false) (λ z k. later f x z is k) xs o.0

    none : (x.framebuffer == f) ≡ true → find (modes.is_framebuffer_of c f) xs ≡ None
    none is =
        find_none (modes.is_framebuffer_of c f) xs
        (all_weaker (λ (z : Framebuffer). (z.framebuffer == f) ≡ false) (λ (z : Framebuffer). modes.is_framebuffer_of c f z ≡ false) (λ z k. ap (λ b. b && (z.client == c)) k) xs (none_later is))

    first : (x.framebuffer == f) ≡ true → (x.client == c) ≡ true → Some key ≡ Some x.object → Goes c f key (x ∷ xs)
    first is mine k =
        let same : key ≡ x.object = cc in
        let rest : others f xs ≡ xs =
        filter_all (λ (z : Framebuffer). not (z.framebuffer == f)) xs
        (all_weaker (λ (z : Framebuffer). (z.framebuffer == f) ≡ false) (λ (z : Framebuffer). not (z.framebuffer == f) ≡ true) (λ z n. ap not n) xs (none_later is))
        in
        let left : others f (x ∷ xs) ≡ xs = ap (λ b. cond (not b) (x ∷ others f xs) (others f xs)) is ∙ rest in
        record {
          keys =
              subst (λ l. SameRows (x.object ∷ framebuffer_keys xs) (key ∷ framebuffer_keys l)) (sym left)
              (subst (λ m. SameRows (x.object ∷ framebuffer_keys xs) (m ∷ framebuffer_keys xs)) (sym same) (same-refl (x.object ∷ framebuffer_keys xs)));
          own = (
            ap (λ b. (x.framebuffer == f) && b) mine ∙ ap (λ b. b && true) is ∙ sym is,
            all_weaker (λ (z : Framebuffer). (z.framebuffer == f) ≡ false)
                (λ (z : Framebuffer). modes.is_framebuffer_of c f z ≡ modes.is_framebuffer f z)
                (λ z n. ap (λ b. b && (z.client == c)) n ∙ sym n) xs (none_later is),
          );
        }

    not_first : (x.framebuffer == f) ≡ false → Goes c f key xs → Goes c f key (x ∷ xs)
    not_first is h =
        let left : others f (x ∷ xs) ≡ x ∷ others f xs = ap (λ b. cond (not b) (x ∷ others f xs) (others f xs)) is in
        record {
          keys = subst (λ l. SameRows (x.object ∷ framebuffer_keys xs) (key ∷ framebuffer_keys l)) (sym left)
              (same-trans (x.object ∷ framebuffer_keys xs) (x.object ∷ key ∷ framebuffer_keys (others f xs)) (key ∷ x.object ∷ framebuffer_keys (others f xs)) (same-cons x.object (framebuffer_keys xs) (key ∷ framebuffer_keys (others f xs)) h.keys) (same-swap x.object key (framebuffer_keys (others f xs))));
          own = (ap (λ b. b && (x.client == c)) is ∙ sym is, h.own);
        }

-- the state without a framebuffer
abbrev pub without_frame : State → ℕ → ObjectSet → State
without_frame s f set = record s { modes = without_framebuffer s.modes f; objects = set }

module _ (s : State) (c f key : ℕ) (t : MeetsInvariants s) (of : Some key ≡ option_map (λ (x : Framebuffer). x.object) (find (modes.is_framebuffer_of c f) s.modes.framebuffers)) where
  abbrev left : List Framebuffer
  left = others f s.modes.framebuffers

  goes : Goes c f key s.modes.framebuffers
  goes = one_goes c f key s.modes.framebuffers (modes_so s t).framebuffers_rise of

  -- Objects count the key of the framebuffer, and the keys of all others.
  pub frame_invariants : AreCounted (keys_of s.files.holds) (key ∷ referring s.tokens.tokens left) s.objects.objects
  frame_invariants =
      let opened = token_keys s.tokens.tokens in
      same_references (keys_of s.files.holds) (referring_keys s) (key ∷ referring s.tokens.tokens left)
      s.objects.objects
      (same-trans (referring_keys s) (opened ++ key ∷ framebuffer_keys left) (key ∷ referring s.tokens.tokens left) (same-append opened opened (framebuffer_keys s.modes.framebuffers) (key ∷ framebuffer_keys left) (same-refl opened) goes.keys)
      (same-sym (key ∷ referring s.tokens.tokens left) (opened ++ key ∷ framebuffer_keys left) (moved_in key opened (framebuffer_keys left))))
      (objects_counted s t)

  fewer_frames : (m : ℕ) → is_among (referring s.tokens.tokens left) m ≡ true → is_among (referring_keys s) m ≡ true
  fewer_frames m j =
      either (token_keys s.tokens.tokens) (framebuffer_keys left) m (is_among (referring_keys s) m)
      (λ k. among-left (token_keys s.tokens.tokens) (framebuffer_keys s.modes.framebuffers) m k)
      (λ k. among-right (token_keys s.tokens.tokens) (framebuffer_keys s.modes.framebuffers) m (some_framed (λ (x : Framebuffer). not (modes.is_framebuffer f x)) s.modes.framebuffers m k))
      j

  module _ (set : ObjectSet) (step : IsStep s.objects.objects (keys_of s.files.holds) (referring s.tokens.tokens left) set) (limit : set.limit ≡ s.objects.limit) (are : AreModes (without_framebuffer s.modes f)) where
    -- One framebuffer fewer keeps all invariants.
    pub unframed_invariants : MeetsInvariants (without_frame s f set)
    unframed_invariants =
        all_moved_invariants s s.files.holds s.tokens.tokens s.tokens.last_given (without_framebuffer s.modes f)
        s.names.names set t (holds_rise s t) are step.invariants (names_held s t)

    -- The state without a framebuffer represents the rows without it, after a sweep.
    pub unframed : (w : Rows) → Represents s w
        → Represents (without_frame s f set) (swept (record w { framebuffers = without (model.is_framebuffer_of c f) w.framebuffers }))
    unframed w r =
        let now = without_framebuffer s.modes f in
        let v : Rows = record w { framebuffers = without (model.is_framebuffer_of c f) w.framebuffers } in
        let same : filter (λ (x : Framebuffer). not (model.is_framebuffer_of c f (framebuffer_row_of s.objects.objects x))) s.modes.framebuffers ≡ left =
        filter-same (λ (x : Framebuffer). not (model.is_framebuffer_of c f (framebuffer_row_of s.objects.objects x)))
        (λ (x : Framebuffer). not (modes.is_framebuffer f x)) s.modes.framebuffers
        (all_weaker (λ (x : Framebuffer). modes.is_framebuffer_of c f x ≡ modes.is_framebuffer f x) (λ (x : Framebuffer). not (model.is_framebuffer_of c f (framebuffer_row_of s.objects.objects x)) ≡ not (modes.is_framebuffer f x))
        (λ x e. ap not (and_comm (x.client == c) (x.framebuffer == f) ∙ e)) s.modes.framebuffers goes.own) in
        let fewer : SameRows v.framebuffers (map (framebuffer_row_of s.objects.objects) left) =
        subst (λ l. SameRows v.framebuffers (map (framebuffer_row_of s.objects.objects) l)) same (framed_left w.framebuffers (λ row. not (model.is_framebuffer_of c f row)) s.objects.objects s.modes.framebuffers (framebuffers_are s w r)) in
        all_moved s w w.holds w.tokens w.last_token (without (model.is_framebuffer_of c f) w.framebuffers) w.names
        s.files.holds s.tokens.tokens s.tokens.last_given now s.names.names s.names.names set t r
        (record {
          holds = holds_are s w r;
          tokens = tokens_are s w r;
          framebuffers = fewer;
          shown =
              shown_left v s.objects.objects s.modes now fewer (shown_are s w r) (goes_dark s.modes f (modes_so s t));
          names = names_are s w r;
          known =
              λ m e. either (keys_of s.files.holds) (referring s.tokens.tokens left) m
              (is_among (keys_of s.files.holds ++ referring_keys s) m)
              (λ j. among-left (keys_of s.files.holds) (referring_keys s) m j)
              (λ j. among-right (keys_of s.files.holds) (referring_keys s) m (fewer_frames m j)) e;
          known_names = names_known s t;
          left_names =
              sym
              (filter_all (λ (x : SharedName). is_among (keys_of s.files.holds) x.object) s.names.names (names_held s t));
          those = step.named;
        }) limit refl refl (last_token_is s w r)
