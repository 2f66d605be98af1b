-- Which framebuffers are there by rows, and what of what is shown stays.
use Rattle.std.proofs.Common.{◌≡◌, ℕ, ◌+◌, ◌==◌, Bool, true, false, cond, not, ◌&&◌, ◌||◌, List, [], ◌∷◌, map, filter, refl, sym, ap, ◌∙◌, subst}
use Rattle.std.specs.Prelude.{if◌then◌else◌}
use Rattle.std.specs.List.{list_any, AllByRecursion}
use Rattle.std.proofs.lemmas.Bool.{eqb-true}
use Rattle.drm_index_array.specs.Orders.{SameRows}
use Rattle.drm_index_array.specs.Numbers.{is_among}
use Rattle.drm_index_array.proofs.Lists.{list_any-map, filter-map, filter_all, filter-same, all_each}
use Rattle.drm_index_array.proofs.FoundInLists.{is_some-find}
use Rattle.drm_index_array.proofs.Numbers.{among-more}
use Rattle.drm_index_array.proofs.Orders.{same-any, same-filter}
use Rattle.drm_gem.specs.declared.object.Object.{Object}
use Rattle.drm_modes.specs.declared.rows.Framebuffer.{Framebuffer}
use Rattle.drm_modes.specs.declared.rows.Shown.{Shown}
use Rattle.drm_modes.specs.Modes as modes
use Rattle.drm_modes.specs.Modes.{ModeSet, AreModes, shown, lit_rows, shown_rows, has_framebuffer}
use Rattle.drm_model.specs.Rows.{Rows, FramebufferRow, ShownRow, is_framebuffer}
use Rattle.drm_state.specs.declared.state.State.{State}
use Rattle.drm_state.specs.Parts.{framebuffer_row_of, shown_row_of, shown_of, framebuffer_keys}
use Rattle.drm_state.specs.Invariants.{MeetsInvariants}
use Rattle.drm_state.specs.Refinement.{Represents}
use Rattle.drm_state.proofs.Represented.{framebuffers_are, shown_are, modes_so}

-- A framebuffer has a row exactly if the state has it.
pub framebuffer_there : (v : Rows) (objects : List Object) (fs : List Framebuffer) (f : ℕ)
    → SameRows v.framebuffers (map (framebuffer_row_of objects) fs)
    → is_framebuffer v f ≡ list_any (modes.is_framebuffer f) fs
framebuffer_there v objects fs f h =
    let is = λ (row : FramebufferRow). row.framebuffer == f in
    is_some-find is v.framebuffers ∙ same-any is v.framebuffers (map (framebuffer_row_of objects) fs) h
    ∙ list_any-map is (framebuffer_row_of objects) fs

-- If each scanout shows nothing or what passes a test, each lit row shows what passes it.
pub lit_shows : (p : ℕ → Bool) (x : ℕ) → (scanouts : List ℕ) → AllByRecursion (λ f. ((f == 0) || p f) ≡ true) scanouts
    → AllByRecursion (λ (row : Shown). p row.framebuffer ≡ true) (lit_rows x scanouts)
lit_shows p x [] h = tt
lit_shows p x (f ∷ fs) h =
    elim (f == 0) as (λ b. (b || p f) ≡ true → AllByRecursion (λ (row : Shown). p row.framebuffer ≡ true) (cond (not b) (shown x f ∷ lit_rows (x + 1) fs) (lit_rows (x + 1) fs)))
    [ true ↦ λ e. lit_shows p (x + 1) fs h.1 | false ↦ λ e. (e, lit_shows p (x + 1) fs h.1) ] h.0

-- Of what is shown, a sweep leaves what shows a framebuffer that exists.
pub shown_left : (v : Rows) (objects : List Object) (old now : ModeSet)
    → SameRows v.framebuffers (map (framebuffer_row_of objects) now.framebuffers)
    → SameRows v.shown (map shown_row_of (shown_rows old)) →
    shown_rows now ≡ filter (λ (x : Shown). has_framebuffer now x.framebuffer) (shown_rows old) → SameRows
    (filter (λ (row : ShownRow). is_framebuffer v row.framebuffer) v.shown) (map shown_row_of (shown_rows now))
shown_left v objects old now h k e =
    let stays = λ (row : ShownRow). is_framebuffer v row.framebuffer in
    let same : filter stays (map shown_row_of (shown_rows old)) ≡ map shown_row_of (shown_rows now) =
    filter-map stays shown_row_of (shown_rows old)
    ∙ ap (map shown_row_of) (filter-same (λ (x : Shown). is_framebuffer v x.framebuffer) (λ (x : Shown). has_framebuffer now x.framebuffer) (shown_rows old)
    (all_each _ (λ x. framebuffer_there v objects now.framebuffers x.framebuffer h) (shown_rows old)))
    ∙ ap (map shown_row_of) (sym e) in
    subst (SameRows (filter stays v.shown)) same (same-filter stays v.shown (map shown_row_of (shown_rows old)) k)

-- A state whose mode objects meet their facts shows only framebuffers that exist.
pub all_shown : (set : ModeSet) → AreModes set
    → shown_rows set ≡ filter (λ (x : Shown). has_framebuffer set x.framebuffer) (shown_rows set)
all_shown set are =
    sym
    (filter_all (λ (x : Shown). has_framebuffer set x.framebuffer) (shown_rows set) (lit_shows (has_framebuffer set) 1 set.scanouts are.scanouts_are))

-- A state that meets the invariants shows only framebuffers that exist.
pub shown_yet : (s : State) (w : Rows) → MeetsInvariants s → Represents s w
    → SameRows (filter (λ (row : ShownRow). is_framebuffer w row.framebuffer) w.shown) (shown_of s)
shown_yet s w t h =
    shown_left w s.objects.objects s.modes s.modes (framebuffers_are s w h) (shown_are s w h)
    (all_shown s.modes (modes_so s t))

-- ---- fewer framebuffers

-- a framebuffer that goes takes what shows it
dark_rows : (g : ℕ) (x : ℕ) → (scanouts : List ℕ)
    → lit_rows x (map (modes.dark_of g) scanouts) ≡ filter (λ (row : Shown). not (row.framebuffer == g)) (lit_rows x scanouts)
dark_rows g x [] = refl
dark_rows g x (f ∷ fs) =
    let rest = lit_rows (x + 1) fs in
    let dark = lit_rows (x + 1) (map (modes.dark_of g) fs) in
    let stays = λ (row : Shown). not (row.framebuffer == g) in
    elim (f == g) as (λ b. (f == g) ≡ b → cond (not ((if b then 0 else f) == 0)) (shown x (if b then 0 else f) ∷ dark) dark ≡ filter stays (cond (not (f == 0)) (shown x f ∷ rest) rest)) [
      | true ↦ λ e. dark_rows g (x + 1) fs ∙ sym (gone e)
      | false ↦ λ e. elim (f == 0) as (λ b. cond (not b) (shown x f ∷ dark) dark ≡ filter stays (cond (not b) (shown x f ∷ rest) rest))
          [ true ↦ dark_rows g (x + 1) fs | false ↦ ap (λ l. shown x f ∷ l) (dark_rows g (x + 1) fs) ∙ ap (λ b. cond (not b) (shown x f ∷ filter stays rest) (filter stays rest)) (sym e) ]
    ] refl
  where
    gone : (f == g) ≡ true
        → filter (λ (row : Shown). not (row.framebuffer == g)) (cond (not (f == 0)) (shown x f ∷ lit_rows (x + 1) fs) (lit_rows (x + 1) fs)) ≡ filter (λ (row : Shown). not (row.framebuffer == g)) (lit_rows (x + 1) fs)
    gone e =
        elim (f == 0) as (λ b. filter (λ (row : Shown). not (row.framebuffer == g)) (cond (not b) (shown x f ∷ lit_rows (x + 1) fs) (lit_rows (x + 1) fs)) ≡ filter (λ (row : Shown). not (row.framebuffer == g)) (lit_rows (x + 1) fs)) [
          | true ↦ refl
          | false ↦ ap (λ b. cond (not b) (shown x f ∷ filter (λ (row : Shown). not (row.framebuffer == g)) (lit_rows (x + 1) fs)) (filter (λ (row : Shown). not (row.framebuffer == g)) (lit_rows (x + 1) fs))) e
        ]

-- Without a framebuffer, what showed it is dark, and all else is shown unchanged.
pub one_dark : (set : ModeSet) (g : ℕ)
    → shown_rows (modes.without_framebuffer set g) ≡ filter (λ (row : Shown). not (row.framebuffer == g)) (shown_rows set)
one_dark set g = dark_rows g 1 set.scanouts

-- all but one are there
others_there : (f g : ℕ) → (fs : List Framebuffer)
    → list_any (modes.is_framebuffer g) (filter (λ (x : Framebuffer). not (modes.is_framebuffer f x)) fs) ≡ (list_any (modes.is_framebuffer g) fs && not (g == f))
others_there f g [] = refl
others_there f g (x ∷ xs) =
    let rest = filter (λ (x : Framebuffer). not (modes.is_framebuffer f x)) xs in
    elim (x.framebuffer == f) as (λ b. (x.framebuffer == f) ≡ b → list_any (modes.is_framebuffer g) (cond (not b) (x ∷ rest) rest) ≡ ((x.framebuffer == g || list_any (modes.is_framebuffer g) xs) && not (g == f))) [
      | true ↦ λ e. others_there f g xs ∙ gone (x.framebuffer == g) (g == f) (list_any (modes.is_framebuffer g) xs) (λ k. ap (λ n. n == f) (sym (eqb-true x.framebuffer g k)) ∙ e)
      | false ↦ λ e. ap (λ b. x.framebuffer == g || b) (others_there f g xs) ∙ stays (x.framebuffer == g) (g == f) (list_any (modes.is_framebuffer g) xs) (λ k. ap (λ n. n == f) (sym (eqb-true x.framebuffer g k)) ∙ e)
    ] refl
  where
    and_false : (d : Bool) → (d && false) ≡ false
    and_false true = refl
    and_false false = refl

    gone : (a b d : Bool) → (a ≡ true → b ≡ true) → (d && not b) ≡ ((a || d) && not b)
    gone true b d h = rw (h refl) (and_false d)
    gone false b d h = refl

    stays : (a b d : Bool) → (a ≡ true → b ≡ false) → (a || (d && not b)) ≡ ((a || d) && not b)
    stays true b d h = rw (h refl) refl
    stays false b d h = refl

-- a framebuffer fewer leaves of what was shown what shows those that exist yet
left_of : (p q : ℕ → Bool) (f : ℕ) → ((g : ℕ) → q g ≡ (p g && not (g == f))) → (rows : List Shown)
    → filter (λ (row : Shown). not (row.framebuffer == f)) (filter (λ (row : Shown). p row.framebuffer) rows) ≡ filter (λ (row : Shown). q row.framebuffer) rows
left_of p q f h [] = refl
left_of p q f h (x ∷ xs) =
    let kept = filter (λ (row : Shown). p row.framebuffer) xs in
    let now = filter (λ (row : Shown). q row.framebuffer) xs in
    let stays = λ (row : Shown). not (row.framebuffer == f) in
    (elim (p x.framebuffer) as (λ b. filter stays (cond b (x ∷ kept) kept) ≡ cond (b && not (x.framebuffer == f)) (x ∷ now) now) [
      | true ↦ ap (λ l. cond (not (x.framebuffer == f)) (x ∷ l) l) (left_of p q f h xs)
      | false ↦ left_of p q f h xs
    ]) ∙ sym (ap (λ b. cond b (x ∷ now) now) (h x.framebuffer))

-- Without one framebuffer more, what shows one of those that remain is shown unchanged.
pub dark_further : (set : ModeSet) (f : ℕ) (start : List Shown)
    → shown_rows set ≡ filter (λ (x : Shown). has_framebuffer set x.framebuffer) start →
    shown_rows (modes.without_framebuffer set f) ≡ filter
    (λ (x : Shown). has_framebuffer (modes.without_framebuffer set f) x.framebuffer) start
dark_further set f start e =
    one_dark set f ∙ ap (filter (λ (row : Shown). not (row.framebuffer == f))) e
    ∙ left_of (has_framebuffer set) (has_framebuffer (modes.without_framebuffer set f)) f
    (λ g. others_there f g set.framebuffers) start

-- Fewer framebuffers name no other keys.
pub some_framed : (p : Framebuffer → Bool) → (fs : List Framebuffer) (n : ℕ)
    → is_among (framebuffer_keys (filter p fs)) n ≡ true → is_among (framebuffer_keys fs) n ≡ true
some_framed p [] n h = h
some_framed p (x ∷ xs) n h =
    elim (p x) as (λ b. is_among (framebuffer_keys (cond b (x ∷ filter p xs) (filter p xs))) n ≡ true → is_among (framebuffer_keys (x ∷ xs)) n ≡ true) [
      | true ↦ λ e. elim (x.object == n) as (λ d. (d || is_among (framebuffer_keys (filter p xs)) n) ≡ true → (d || is_among (framebuffer_keys xs) n) ≡ true) [ true ↦ λ k. refl | false ↦ λ k. some_framed p xs n k ] e
      | false ↦ λ e. among-more (framebuffer_keys xs) x.object n (some_framed p xs n e)
    ] h

-- The rows of framebuffers that pass a test are those of the framebuffers that pass it.
pub framed_left : (rows : List FramebufferRow) (p : FramebufferRow → Bool) (objects : List Object) (fs : List Framebuffer)
    → SameRows rows (map (framebuffer_row_of objects) fs)
    → SameRows (filter p rows) (map (framebuffer_row_of objects) (filter (λ x. p (framebuffer_row_of objects x)) fs))
framed_left rows p objects fs h =
    subst (SameRows (filter p rows)) (filter-map p (framebuffer_row_of objects) fs)
    (same-filter p rows (map (framebuffer_row_of objects) fs) h)
