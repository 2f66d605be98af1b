-- What CRTCs and planes show, by rows and by what the device keeps.
use Rattle.std.proofs.Common.{◌≡◌, ℕ, zero, suc, ◌+◌, ◌-◌, ◌<◌, ◌==◌, Bool, true, false, cond, not, ◌&&◌, ◌||◌, List, [], ◌∷◌, ◌++◌, map, filter, find, length, get_or, set, Option, None, Some, refl, sym, ap, subst, ◌∙◌, append-nil, eq-eqb, arith}
use Rattle.std.specs.Prelude.{if◌then◌else◌, unwrap_or}
use Rattle.std.specs.List.{list_any}
use Rattle.std.specs.Option.{is_some, option_map}
use Rattle.std.proofs.Math.Bool.{or-false, and-true, and-false}
use Rattle.std.proofs.lemmas.Bool.{eqb-true, ne_eqb}
use Rattle.std.proofs.lemmas.List.{map-append}
use Rattle.drm_index_array.specs.Orders.{SameRows}
use Rattle.drm_index_array.proofs.Lists.{list_any-map, list_any_agree, filter-map, length-filter_append}
use Rattle.drm_index_array.proofs.FoundInLists.{is_some-find, found-number}
use Rattle.drm_index_array.proofs.Numbers.{flipped, less-differ}
use Rattle.drm_index_array.proofs.Orders.{same-any, same-filter, same-map, same-cons, same-refl, same-trans, last_first}
use Rattle.drm_modes.specs.declared.rows.Shown.{Shown}
use Rattle.drm_modes.specs.Modes as modes
use Rattle.drm_modes.specs.Modes.{ModeSet, AreModes, shown, lit_rows, shown_rows, can_show}
use Rattle.drm_model.specs.Rows.{Rows, ShownRow}
use Rattle.drm_model.specs.Parts.{Part, Shown as ShownIs}
use Rattle.drm_model.specs.Modes as model
use Rattle.drm_state.specs.declared.state.State.{State}
use Rattle.drm_state.specs.Parts.{shown_row_of, shown_of, keys_of, referring}
use Rattle.drm_state.specs.Invariants.{Invariant, ModesAre, ObjectsCounted, meets_invariant, MeetsInvariants, AreCounted}
use Rattle.drm_state.specs.Refinement.{represents_part, Represents}
use Rattle.drm_state.proofs.Represented.{framebuffers_are, shown_are, objects_counted}
use Rattle.drm_state.proofs.FramebuffersThere.{framebuffer_there}

above_differ : (i x : ℕ) → x < i → (i == x) ≡ false
above_differ i x lt = flipped x i (less-differ x i lt)

-- ---- the row of one that shows something

module _ (q : ℕ → Bool) where
  abbrev test : ℕ → Shown → Bool
  test x row = (row.engine == x) && q row.framebuffer

  none_before : (x i : ℕ) → x < i → (fs : List ℕ) → list_any (test x) (lit_rows i fs) ≡ false
  none_before x i lt [] = refl
  none_before x i lt (f ∷ fs) =
      let rest : list_any (test x) (lit_rows (i + 1) fs) ≡ false = none_before x (i + 1) (omega (arith, lt)) fs in
      elim (f == 0) as (λ b. list_any (test x) (cond (not b) (shown i f ∷ lit_rows (i + 1) fs) (lit_rows (i + 1) fs)) ≡ false)
      [ true ↦ rest | false ↦ ap (λ b. (b && q f) || list_any (test x) (lit_rows (i + 1) fs)) (above_differ i x lt) ∙ rest ]

  any_at : (x i k : ℕ) → x ≡ i + k → (fs : List ℕ)
      → list_any (test x) (lit_rows i fs) ≡ (not (get_or fs k 0 == 0) && q (get_or fs k 0))
  any_at x i zero e [] = refl
  any_at x i (suc k) e [] = refl
  any_at x i zero e (f ∷ fs) =
      let rest : list_any (test x) (lit_rows (i + 1) fs) ≡ false = none_before x (i + 1) (omega (arith, e)) fs in
      elim (f == 0) as (λ b. list_any (test x) (cond (not b) (shown i f ∷ lit_rows (i + 1) fs) (lit_rows (i + 1) fs)) ≡ (not b && q f)) [
        | true ↦ rest
        | false ↦ ap (λ b. (b && q f) || list_any (test x) (lit_rows (i + 1) fs)) (eq-eqb i x (omega (arith, e))) ∙ ap (λ b. q f || b) rest ∙ or-false (q f)
      ]
  any_at x i (suc k) e (f ∷ fs) =
      let rest = any_at x (i + 1) k (omega (arith, e)) fs in
      elim (f == 0) as (λ b. list_any (test x) (cond (not b) (shown i f ∷ lit_rows (i + 1) fs) (lit_rows (i + 1) fs)) ≡ (not (get_or fs k 0 == 0) && q (get_or fs k 0))) [
        | true ↦ rest
        | false ↦ ap (λ b. (b && q f) || list_any (test x) (lit_rows (i + 1) fs)) (flipped x i (ne_eqb x i (λ same. apart i k (sym same ∙ e)))) ∙ rest
      ]
    where
      apart : (i k : ℕ) → i ≡ i + suc k → ⊥
      apart i k same = omega (arith, same)

  -- A CRTC or plane shows a framebuffer that passes a test exactly if it shows it in the state.
  pub shows : (s : State) (w : Rows) → Represents s w → (x : ℕ)
      → list_any (λ (row : ShownRow). (row.engine == x) && q row.framebuffer) w.shown ≡ (not (modes.shown_by s.modes x == 0) && q (modes.shown_by s.modes x))
  shows s w h x =
      let is = λ (row : ShownRow). (row.engine == x) && q row.framebuffer in
      same-any is w.shown (shown_of s) (shown_are s w h) ∙ list_any-map is shown_row_of (shown_rows s.modes)
      ∙ by_id (x == 0) refl
    where
      by_id : (b : Bool) → (x == 0) ≡ b
          → list_any (test x) (lit_rows 1 s.modes.scanouts) ≡ (not ((if b then 0 else get_or s.modes.scanouts (x - 1) 0) == 0) && q (if b then 0 else get_or s.modes.scanouts (x - 1) 0))
      by_id true e = none_before x 1 (let none : x ≡ 0 = eqb-true x 0 e in omega (arith, none)) s.modes.scanouts
      by_id false e = any_at x 1 (x - 1) (from_one x (λ none. clash x none e)) s.modes.scanouts
        where
          clash : (x : ℕ) → x ≡ 0 → (x == 0) ≡ false → ⊥
          clash x none e = let some : (x == 0) ≡ true = eq-eqb x 0 none in cc

          from_one : (x : ℕ) → (x ≡ 0 → ⊥) → x ≡ 1 + (x - 1)
          from_one zero some = absurd (some refl)
          from_one (suc x) some = omega arith

-- What a CRTC or a plane shows is the same by rows as in the state.
pub shown_is : (s : State) (w : Rows) → Represents s w → (x : ℕ) → model.shown_by w x ≡ modes.shown_by s.modes x
shown_is s w h x =
    let g = modes.shown_by s.modes x in
    let it = λ (row : ShownRow). row.engine == x in
    let framebuffer = λ (row : ShownRow). row.framebuffer in
    let some : is_some (find it w.shown) ≡ (not (g == 0) && true) =
    is_some-find it w.shown ∙ list_any_agree it (λ row. it row && true) (λ row. sym (and-true (it row))) w.shown
    ∙ shows (λ f. true) s w h x in
    let one : list_any (λ row. it row && not (framebuffer row == g)) w.shown ≡ false =
    shows (λ f. not (f == g)) s w h x ∙ ap (λ b. not (g == 0) && not b) (eq-eqb g g refl)
    ∙ and-false (not (g == 0)) in
    elim (g == 0) as (λ b. (g == 0) ≡ b → is_some (find it w.shown) ≡ (not b && true) → unwrap_or (option_map framebuffer (find it w.shown)) 0 ≡ g) [
      | true ↦ λ e none. dark (find it w.shown) none ∙ sym (eqb-true g 0 e)
      | false ↦ λ e there. ap (λ o. unwrap_or o 0) (found-number it framebuffer g w.shown one there)
    ] refl some
  where
    dark : (o : Option ShownRow) → is_some o ≡ false
        → unwrap_or (option_map (λ (row : ShownRow). row.framebuffer) o) 0 ≡ 0
    dark None e = refl
    dark (Some row) e = absurd (let n : true ≡ false = e in cc)

-- A framebuffer may be shown by rows exactly if it may be in the state.
pub may_show : (s : State) (w : Rows) → Represents s w → (f : ℕ) → model.is_framebuffer_or_none w f ≡ can_show s.modes f
may_show s w h f =
    ap (λ b. (f == 0) || b) (framebuffer_there w s.objects.objects s.modes.framebuffers f (framebuffers_are s w h))

-- ---- one that shows something else

abbrev one : ℕ → ℕ → List Shown
one x f = if f == 0 then [] else shown x f ∷ []

abbrev stays : ℕ → Shown → Bool
stays x row = not (row.engine == x)

others : (x i : ℕ) → x < i → (fs : List ℕ) → filter (stays x) (lit_rows i fs) ≡ lit_rows i fs
others x i lt [] = refl
others x i lt (f ∷ fs) =
    let rest = lit_rows (i + 1) fs in
    let all : filter (stays x) rest ≡ rest = others x (i + 1) (omega (arith, lt)) fs in
    elim (f == 0) as (λ b. filter (stays x) (cond (not b) (shown i f ∷ rest) rest) ≡ cond (not b) (shown i f ∷ rest) rest) [
      | true ↦ all
      | false ↦ ap (λ b. cond (not b) (shown i f ∷ filter (stays x) rest) (filter (stays x) rest)) (above_differ i x lt) ∙ ap (λ l. shown i f ∷ l) all
    ]

set_rows : (x i k f : ℕ) → x ≡ i + k → (fs : List ℕ) → k < length fs
    → SameRows (filter (stays x) (lit_rows i fs) ++ one x f) (lit_rows i (set fs k f))
set_rows x i k f e [] lt = absurd (omega (arith, lt))
set_rows x i zero f e (g ∷ fs) lt =
    let rest = lit_rows (i + 1) fs in
    let same : x ≡ i = omega (arith, e) in
    let all : filter (stays x) rest ≡ rest = others x (i + 1) (omega (arith, e)) fs in
    let left : filter (stays x) (lit_rows i (g ∷ fs)) ≡ rest =
    elim (g == 0) as (λ b. filter (stays x) (cond (not b) (shown i g ∷ rest) rest) ≡ rest)
    [ true ↦ all | false ↦ ap (λ b. cond (not b) (shown i g ∷ filter (stays x) rest) (filter (stays x) rest)) (eq-eqb i x (sym same)) ∙ all ] in
    let now : SameRows (rest ++ one x f) (cond (not (f == 0)) (shown x f ∷ rest) rest) =
    elim (f == 0) as (λ b. SameRows (rest ++ (if b then [] else shown x f ∷ [])) (cond (not b) (shown x f ∷ rest) rest))
    [ true ↦ subst (λ l. SameRows l rest) (sym (append-nil rest)) (same-refl rest) | false ↦ last_first rest (shown x f) ] in
    subst (λ l. SameRows (l ++ one x f) (cond (not (f == 0)) (shown i f ∷ rest) rest)) (sym left)
    (subst (λ n. SameRows (rest ++ one x f) (cond (not (f == 0)) (shown n f ∷ rest) rest)) same now)
set_rows x i (suc k) f e (g ∷ fs) lt =
    let old = lit_rows (i + 1) fs in
    let now = lit_rows (i + 1) (set fs k f) in
    let rest : SameRows (filter (stays x) old ++ one x f) now =
    set_rows x (i + 1) k f (omega (arith, e)) fs (omega (arith, lt)) in
    elim (g == 0) as (λ b. SameRows (filter (stays x) (cond (not b) (shown i g ∷ old) old) ++ one x f) (cond (not b) (shown i g ∷ now) now)) [
      | true ↦ rest
      | false ↦
          subst
          (λ b. SameRows (cond (not b) (shown i g ∷ filter (stays x) old) (filter (stays x) old) ++ one x f) (shown i g ∷ now))
          (sym (less-differ-from i x k e))
          (same-cons (shown i g) (filter (stays x) old ++ one x f) now rest)
    ]
  where
    less-differ-from : (i x k : ℕ) → x ≡ i + suc k → (i == x) ≡ false
    less-differ-from i x k e = less-differ i x (omega (arith, e))

same_left : {X : Type 0} (xs ys zs : List X) → SameRows xs ys → SameRows (xs ++ zs) (ys ++ zs)
same_left xs ys zs h =
    λ test. length-filter_append test xs zs ∙ ap (λ n. n + length (filter test zs)) (h test)
    ∙ sym (length-filter_append test ys zs)

-- the modes where one shows something else
abbrev pub with_scanout : State → ℕ → ℕ → State
with_scanout s x f = record s { modes = modes.with_shown s.modes x f }

shown_now : (s : State) (w : Rows) (x f : ℕ) → Represents s w → x ≡ 1 + (x - 1) → x - 1 < length s.modes.scanouts
    → SameRows (model.with_shown w x f) (shown_of (with_scanout s x f))
shown_now s w x f h first within =
    let is = λ (row : ShownRow). not (row.engine == x) in
    let now : List ShownRow = if f == 0 then [] else record { engine = x; framebuffer = f } ∷ [] in
    let old = shown_rows s.modes in
    let told : now ≡ map shown_row_of (one x f) = elim (f == 0) as (λ b. (let l : List ShownRow = if b then [] else record { engine = x; framebuffer = f } ∷ [] in l) ≡ map shown_row_of (if b then [] else shown x f ∷ [])) [ true ↦ refl | false ↦ refl ] in
    let same : filter is (shown_of s) ++ now ≡ map shown_row_of (filter (stays x) old ++ one x f) =
    (λ i. filter-map is shown_row_of old i ++ told i) ∙ sym (map-append shown_row_of (filter (stays x) old) (one x f)) in
    same-trans (filter is w.shown ++ now) (filter is (shown_of s) ++ now) (shown_of (with_scanout s x f))
    (same_left (filter is w.shown) (filter is (shown_of s)) now (same-filter is w.shown (shown_of s) (shown_are s w h)))
    (subst (λ l. SameRows l (shown_of (with_scanout s x f))) (sym same)
    (same-map shown_row_of (filter (stays x) old ++ one x f) (shown_rows (modes.with_shown s.modes x f)) (set_rows x 1 (x - 1) f first s.modes.scanouts within)))

-- The state in which a CRTC or plane shows another framebuffer represents the rows in which it does.
pub scanout_represents : (s : State) (w : Rows) (x f : ℕ) → Represents s w → x ≡ 1 + (x - 1)
    → x - 1 < length s.modes.scanouts → (part : Part)
    → represents_part part (with_scanout s x f) (record w { shown = model.with_shown w x f })
unfolding represents_part
scanout_represents s w x f h first within ShownIs = shown_now s w x f h first within
scanout_represents s w x f h first within part = h part

-- A change of what is shown keeps all invariants, if no framebuffer changes.
pub shown_invariants : (s : State) (now : ModeSet) → MeetsInvariants s → AreModes now
    → now.framebuffers ≡ s.modes.framebuffers → (invariant : Invariant)
    → meets_invariant invariant (record s { modes = now })
unfolding meets_invariant
shown_invariants s now t are same ModesAre = are
shown_invariants s now t are same ObjectsCounted =
    subst (λ fs. AreCounted (keys_of s.files.holds) (referring s.tokens.tokens fs) s.objects.objects) (sym same)
    (objects_counted s t)
shown_invariants s now t are same invariant = t invariant
