-- Lines that fit define a topology.
use Rattle.std.proofs.Common.{◌≡◌, ℕ, zero, suc, ◌+◌, ◌^◌, ◌==◌, ◌<◌, ◌≤◌, Bool, true, false, not, ◌&&◌, ◌||◌, cond, nat_lt, List, [], ◌∷◌, ◌++◌, length, map, filter, None, Some, Option, refl, sym, ap, subst, ◌∙◌, arith, length-append, take, get_or}
use Rattle.std.specs.Prelude.{nat_le, is_some, is_none, unwrap_or, Result, Ok, Err, OnOk}
use Rattle.std.specs.Result.{result_err}
use Rattle.std.specs.List.{list_all, list_any, zip, AllByRecursion}
use Rattle.std.proofs.lemmas.Bool.{false≢true, eqb-true, eq-eqb, and_parts, and_from, leb-true, le-leb, lt-ltb, ltb-true, not-true, or_parts}
use Rattle.std.proofs.lemmas.Option.{same_Some, slice_get-get_or}
use Rattle.std.proofs.lemmas.List.{take_more, length-map}
use Rattle.std.proofs.lemmas.List.Folds.{list_all-append}
use Rattle.drm_index_array.proofs.Lists.{all_weaker, all_append, length-filter_append}
use Rattle.drm_index_array.proofs.Each.{each_fails, filter_none, some_found}
use Rattle.drm_index_array.proofs.Numbers.{flipped}
use Rattle.drm_modes.specs.declared.kinds.PlaneKind.{PlaneKind}
use Rattle.drm_modes.specs.declared.kinds.PlaneKind.TheVariants as plane_kinds
use Rattle.drm_modes.specs.PlaneKinds.{crtc_of_kind, is_kind, is_possible, fits, stands_once, are_kinds}
use Rattle.drm_modes.specs.Topology.{is_topology, are_objects, is_encoder}
use Rattle.drm_modes.proofs.Ids.{list_all-numbers_from}
use Rattle.drm_script.specs.Fields.{Words}
use Rattle.drm_script.specs.Reading.{is_comment}
use Rattle.drm_runs.specs.declared.causes.Unfit.{Unfit}
use Rattle.drm_runs.specs.declared.causes.Unfit.TheVariants as causes
use Rattle.drm_runs.specs.declared.words.LineWord.{LineWord}
use Rattle.drm_runs.specs.declared.words.LineWord.TheVariants as words
use Rattle.drm_runs.specs.TopologyLines.{line_word_of, only_number, first_number, mask_of, own_crtc, encoder_place}
use Rattle.drm_runs.specs.Told.{Told, told, nothing_told, joined, crtc_count, objects_told, encoder_id, topology_told}
use Rattle.drm_runs.specs.Causes.{unless, first_cause, is_crtc_count, has_room, has_such_plane, mask_cause, plane_cause, own_plane_cause, crtcs_cause, cause_by, cause_of, next_cause, cause_below}
use Rattle.drm_runs.proofs.MaskLemmas.{name_crtcs, mask_below, own_possible}
use Rattle.drm_runs.proofs.TopologyLineLemmas.{told-nil, told-append, blank_tells_nothing, comment_tells_nothing, crtcs_told, overlay_told, primary_told, cursor_told, encoder_told, connector_told}

-- ---- causes that there are not

passes : (cause : Unfit) (holds : Bool) → unless cause holds ≡ None → holds ≡ true
passes cause true none = refl
passes cause false none = absurd (cc)

both_none : (a b : Option Unfit) → first_cause (a ∷ b ∷ []) ≡ None → (a ≡ None) × (b ≡ None)
both_none None None none = (refl, refl)
both_none None (Some cause) none = absurd (cc)
both_none (Some cause) b none = absurd (cc)

two_pass : (c d : Unfit) (a b : Bool) → first_cause (unless c a ∷ unless d b ∷ []) ≡ None → (a ≡ true) × (b ≡ true)
two_pass c d a b none = let each = both_none (unless c a) (unless d b) none in (passes c a each.0, passes d b each.1)

each_none : (a b c : Option Unfit) → first_cause (a ∷ b ∷ c ∷ []) ≡ None → (a ≡ None) × (b ≡ None) × (c ≡ None)
each_none None b c none = let rest = both_none b c none in (refl, rest.0, rest.1)
each_none (Some cause) b c none = absurd (cc)

none_from : (o : Option ℕ) → is_none o ≡ true → o ≡ None
none_from None e = refl
none_from (Some n) e = absurd (false≢true e)

-- a line of CRTCs that fits is above all others of its kind
crtcs_pass : (t : Told) (ws : Words) → crtcs_cause t ws ≡ None
    → (is_some (only_number ws) ≡ true) × (t.crtcs ≡ None) × (is_crtc_count (unwrap_or (only_number ws) 0) ≡ true)
crtcs_pass t ws none =
    let in_range = is_crtc_count (unwrap_or (only_number ws) 0) in
    let each = each_none (unless causes.CrtcCount (is_some (only_number ws))) (unless causes.SecondCrtcs (is_none t.crtcs)) (unless causes.CrtcCount in_range) none in (
      passes causes.CrtcCount (is_some (only_number ws)) each.0,
      none_from t.crtcs (passes causes.SecondCrtcs (is_none t.crtcs) each.1),
      passes causes.CrtcCount in_range each.2,
    )

-- A `crtcs` line that fits sets the number of CRTCs.
pub crtcs_line_told : {X : Type 0} (r : Result X Unfit) (t new : Told) (w : List ℕ) (ws : Words)
    → line_word_of w ≡ Some words.Crtcs → result_err r ≡ crtcs_cause t ws
    → OnOk r (new ≡ record t { crtcs = only_number ws }) → OnOk r (new ≡ joined t (told ((w ∷ ws) ∷ [])))
crtcs_line_told (Ok x) t new w ws is cause tells = tells ∙ crtcs_told t w ws is (crtcs_pass t ws (sym cause)).1
crtcs_line_told (Err e) t new w ws is cause tells = tt

-- ---- what holds for the parts of lines that fit

abbrev pub IsPlace : ℕ → ℕ → Type 0
IsPlace count place = (1 ≤ place) × (place ≤ count)

pub record IsSound (t : Told) : Type 0 where
  pub some : (n : ℕ) → t.crtcs ≡ Some n → 1 ≤ n
  pub few_crtcs : crtc_count t ≤ 8
  pub few : objects_told t ≤ 64
  pub nothing_before : t.crtcs ≡ None → t ≡ nothing_told
  pub one_kind_each : length t.kinds ≡ length t.planes
  pub planes : list_all (λ mask. nat_lt mask (2 ^ crtc_count t)) t.planes ≡ true
  pub encoders : list_all (λ mask. nat_lt mask (2 ^ crtc_count t)) t.encoders ≡ true
  pub fit : list_all (fits (crtc_count t)) (zip t.kinds t.planes) ≡ true
  pub once : list_all (stands_once t.kinds) t.kinds ≡ true
  pub places : AllByRecursion (IsPlace (length t.encoders)) t.connectors

nothing_sound : IsSound nothing_told
nothing_sound = record {
  some = λ n is. absurd (cc);
  few_crtcs = omega arith;
  few = omega arith;
  nothing_before = λ none. refl;
  one_kind_each = refl;
  planes = refl;
  encoders = refl;
  fit = refl;
  once = refl;
  places = tt;
}

-- ---- one more in a list

pushed_all : {X : Type 0} (p : X → Bool) (xs : List X) (x : X) → list_all p xs ≡ true → p x ≡ true
    → list_all p (xs ++ x ∷ []) ≡ true
pushed_all p xs x all it =
    list_all-append p xs (x ∷ []) ∙ and_from (list_all p xs) (p x && true) all (and_from (p x) true it refl)

length_pushed : {X : Type 0} (xs : List X) (x : X) → length (xs ++ x ∷ []) ≡ length xs + 1
length_pushed xs x = length-append xs (x ∷ []) ∙ omega arith

zip_pushed : {X Y : Type 0} (x : X) (y : Y) → (xs : List X) (ys : List Y) → length xs ≡ length ys
    → zip (xs ++ x ∷ []) (ys ++ y ∷ []) ≡ zip xs ys ++ (x, y) ∷ []
zip_pushed x y [] [] same = refl
zip_pushed x y [] (b ∷ ys) same = absurd (omega (arith, same))
zip_pushed x y (a ∷ xs) [] same = absurd (omega (arith, same))
zip_pushed x y (a ∷ xs) (b ∷ ys) same = ap (λ l. (a, b) ∷ l) (zip_pushed x y xs ys (omega (arith, same)))

-- ---- no CRTC has two such planes

-- neither is for what the other is for
apart : (x k : PlaneKind) → (is_some (crtc_of_kind k) && is_kind k x) ≡ false → is_some (crtc_of_kind x) ≡ true
    → is_kind x k ≡ false
apart plane_kinds.Overlay k other own = absurd (false≢true own)
apart (plane_kinds.Primary a) plane_kinds.Overlay other own = refl
apart (plane_kinds.Primary a) (plane_kinds.Primary b) other own = flipped b a other
apart (plane_kinds.Primary a) (plane_kinds.Cursor b) other own = refl
apart (plane_kinds.Cursor a) plane_kinds.Overlay other own = refl
apart (plane_kinds.Cursor a) (plane_kinds.Primary b) other own = refl
apart (plane_kinds.Cursor a) (plane_kinds.Cursor b) other own = flipped b a other

itself : (k : PlaneKind) → is_some (crtc_of_kind k) ≡ true → is_kind k k ≡ true
itself plane_kinds.Overlay own = absurd (false≢true own)
itself (plane_kinds.Primary a) own = eq-eqb a a refl
itself (plane_kinds.Cursor a) own = eq-eqb a a refl

count_pushed : (x k : PlaneKind) (ks : List PlaneKind) (b : Bool) → is_kind x k ≡ b
    → length (filter (is_kind x) (ks ++ k ∷ [])) ≡ length (filter (is_kind x) ks) + cond b 1 0
count_pushed x k ks b is =
    length-filter_append (is_kind x) ks (k ∷ [])
    ∙ ap (λ n. length (filter (is_kind x) ks) + n) (ap (λ t. length (cond t (k ∷ []) [])) is ∙ one b)
  where
    one : (b : Bool) → length (cond b (k ∷ []) []) ≡ cond b 1 0
    one true = refl
    one false = refl

-- one that occurs once still does after another that differs from it
stands_at : (x k : PlaneKind) (ks : List PlaneKind) (own : Bool) → is_some (crtc_of_kind x) ≡ own
    → (not own || (length (filter (is_kind x) ks) == 1)) ≡ true
    → (is_some (crtc_of_kind k) && is_kind k x) ≡ false
    → (not own || (length (filter (is_kind x) (ks ++ k ∷ [])) == 1)) ≡ true
stands_at x k ks true is stands other =
    let more = count_pushed x k ks false (apart x k other is) in
    let once : length (filter (is_kind x) ks) ≡ 1 = eqb-true _ 1 stands in
    eq-eqb _ 1 (omega (arith, more, once))
stands_at x k ks false is stands other = refl

stands_still : (x k : PlaneKind) (ks : List PlaneKind) → stands_once ks x ≡ true
    → (is_some (crtc_of_kind k) && is_kind k x) ≡ false → stands_once (ks ++ k ∷ []) x ≡ true
stands_still x k ks stands other = stands_at x k ks (is_some (crtc_of_kind x)) refl stands other

first_apart : (b q rest : Bool) → (b && (q || rest)) ≡ false → ((b && q) ≡ false) × ((b && rest) ≡ false)
first_apart true q rest none = or_parts q rest none
first_apart false q rest none = (refl, refl)

all_stand : (k : PlaneKind) (ks : List PlaneKind) → (xs : List PlaneKind) → list_all (stands_once ks) xs ≡ true
    → has_such_plane xs k ≡ false → list_all (stands_once (ks ++ k ∷ [])) xs ≡ true
all_stand k ks [] all none = refl
all_stand k ks (x ∷ xs) all none =
    let each = and_parts (stands_once ks x) (list_all (stands_once ks) xs) all in
    let others = first_apart (is_some (crtc_of_kind k)) (is_kind k x) (list_any (is_kind k) xs) none in
    and_from _ _ (stands_still x k ks each.0 others.0) (all_stand k ks xs each.1 others.1)

stands_last : (k : PlaneKind) (ks : List PlaneKind) (own : Bool) → is_some (crtc_of_kind k) ≡ own
    → (own && list_any (is_kind k) ks) ≡ false → (not own || (length (filter (is_kind k) (ks ++ k ∷ [])) == 1)) ≡ true
stands_last k ks true is none =
    let more = count_pushed k k ks true (itself k is) in
    let before : length (filter (is_kind k) ks) ≡ 0 =
    ap length (filter_none (is_kind k) ks (each_fails (is_kind k) ks none)) in
    eq-eqb _ 1 (omega (arith, more, before))
stands_last k ks false is none = refl

once_pushed : (k : PlaneKind) (ks : List PlaneKind) → list_all (stands_once ks) ks ≡ true → has_such_plane ks k ≡ false
    → list_all (stands_once (ks ++ k ∷ [])) (ks ++ k ∷ []) ≡ true
once_pushed k ks all none =
    pushed_all (stands_once (ks ++ k ∷ [])) ks k (all_stand k ks ks all none)
    (stands_last k ks (is_some (crtc_of_kind k)) refl none)

-- ---- each line keeps it

module _ (t : Told) (sound : IsSound t) where
  after_crtcs : is_some t.crtcs ≡ true → t.crtcs ≡ None → ⊥
  after_crtcs some none = false≢true (sym (ap is_some none) ∙ some)

  room : has_room t ≡ true → objects_told t < 64
  room has = ltb-true (objects_told t) 64 has

  plane_sound : (mask : ℕ) (kind : PlaneKind) → is_some t.crtcs ≡ true → mask < 2 ^ crtc_count t
      → fits (crtc_count t) (kind, mask) ≡ true → plane_cause t kind ≡ None
      → IsSound (record t { planes = t.planes ++ mask ∷ []; kinds = t.kinds ++ kind ∷ [] })
  plane_sound mask kind some low fit none =
      let pass = two_pass causes.TooMany causes.SecondPlane (has_room t) (not (has_such_plane t.kinds kind)) none in
      record {
        some = sound.some;
        few_crtcs = sound.few_crtcs;
        few = omega (arith, room pass.0, length_pushed t.planes mask);
        nothing_before = λ e. absurd (after_crtcs some e);
        one_kind_each = omega (arith, sound.one_kind_each, length_pushed t.planes mask, length_pushed t.kinds kind);
        planes =
            pushed_all (λ m. nat_lt m (2 ^ crtc_count t)) t.planes mask sound.planes
            (lt-ltb mask (2 ^ crtc_count t) low);
        encoders = sound.encoders;
        fit =
            ap (list_all (fits (crtc_count t))) (zip_pushed kind mask t.kinds t.planes sound.one_kind_each)
            ∙ pushed_all (fits (crtc_count t)) (zip t.kinds t.planes) (kind, mask) sound.fit fit;
        once = once_pushed kind t.kinds sound.once (not-true (has_such_plane t.kinds kind) pass.1);
        places = sound.places;
      }

  encoder_sound : (mask : ℕ) → is_some t.crtcs ≡ true → mask < 2 ^ crtc_count t → has_room t ≡ true
      → IsSound (record t { encoders = t.encoders ++ mask ∷ [] })
  encoder_sound mask some low free =
      let longer = length_pushed t.encoders mask in
      record {
        some = sound.some;
        few_crtcs = sound.few_crtcs;
        few = omega (arith, room free, longer);
        nothing_before = λ e. absurd (after_crtcs some e);
        one_kind_each = sound.one_kind_each;
        planes = sound.planes;
        encoders =
            pushed_all (λ m. nat_lt m (2 ^ crtc_count t)) t.encoders mask sound.encoders
            (lt-ltb mask (2 ^ crtc_count t) low);
        fit = sound.fit;
        once = sound.once;
        places =
            all_weaker (IsPlace (length t.encoders)) (IsPlace (length (t.encoders ++ mask ∷ [])))
            (λ place is. (is.0, omega (arith, is.1, longer))) t.connectors sound.places;
      }

  connector_sound : (place : ℕ) → IsPlace (length t.encoders) place → has_room t ≡ true
      → IsSound (record t { connectors = t.connectors ++ place ∷ [] })
  connector_sound place is free = record {
    some = sound.some;
    few_crtcs = sound.few_crtcs;
    few = omega (arith, room free, length_pushed t.connectors place);
    nothing_before = λ e. absurd (no_place (ap (λ (u : Told). length u.encoders) (sound.nothing_before e)));
    one_kind_each = sound.one_kind_each;
    planes = sound.planes;
    encoders = sound.encoders;
    fit = sound.fit;
    once = sound.once;
    places = all_append (IsPlace (length t.encoders)) t.connectors (place ∷ []) sound.places (is, tt);
  }
    where
      no_place : length t.encoders ≡ 0 → ⊥
      no_place none = omega (arith, none, is.0, is.1)

  crtcs_sound : (o : Option ℕ) → t.crtcs ≡ None → is_some o ≡ true → is_crtc_count (unwrap_or o 0) ≡ true
      → IsSound (record t { crtcs = o })
  crtcs_sound None none some range = absurd (false≢true some)
  crtcs_sound (Some n) none some range =
      let ends = and_parts (nat_le 1 n) (nat_le n 8) range in
      let low : 1 ≤ n = leb-true 1 n ends.0 in
      let high : n ≤ 8 = leb-true n 8 ends.1 in
      let alone : IsSound (record nothing_told { crtcs = Some n }) = record {
        some = λ m is. omega (arith, low, same_Some n m is);
        few_crtcs = high;
        few = omega (arith, high);
        nothing_before = λ e. absurd (cc);
        one_kind_each = refl;
        planes = refl;
        encoders = refl;
        fit = refl;
        once = refl;
        places = tt;
      } in
      subst IsSound (sym (ap (λ (u : Told). record u { crtcs = Some n }) (sound.nothing_before none))) alone

  -- a primary or a cursor plane fits its mask
  own_fits : (ws : Words) → name_crtcs (crtc_count t) ws ≡ true → is_some (first_number ws) ≡ true
      → is_possible (crtc_count t) (mask_of ws) (own_crtc ws) ≡ true
  own_fits ws all some =
      let own = some_found (first_number ws) some in
      let is : own_crtc ws ≡ own.0 = ap (λ o. unwrap_or o 0) own.1 in
      ap (is_possible (crtc_count t) (mask_of ws)) is ∙ own_possible (crtc_count t) ws own.0 sound.few_crtcs all own.1

  -- what a line of a plane or an encoder names
  named : (ws : Words) → mask_cause t ws ≡ None → (is_some t.crtcs ≡ true) × (name_crtcs (crtc_count t) ws ≡ true)
  unfolding mask_cause
  named ws none =
      two_pass causes.NoCrtcs (causes.Crtc (crtc_count t)) (is_some t.crtcs) (name_crtcs (crtc_count t) ws) none

  own_plane_sound : (kind : ℕ → PlaneKind) (ws : Words)
      → fits (crtc_count t) (kind (own_crtc ws), mask_of ws) ≡ is_possible (crtc_count t) (mask_of ws) (own_crtc ws)
      → own_plane_cause t kind ws ≡ None
      → IsSound (record t { planes = t.planes ++ mask_of ws ∷ []; kinds = t.kinds ++ kind (own_crtc ws) ∷ [] })
  own_plane_sound kind ws same none =
      let each =
      each_none (mask_cause t ws) (unless causes.NoCrtcOfItsOwn (is_some (first_number ws)))
      (plane_cause t (kind (own_crtc ws))) none in
      let names = named ws each.0 in
      plane_sound (mask_of ws) (kind (own_crtc ws)) names.0 (mask_below (crtc_count t) ws names.1)
      (same ∙ own_fits ws names.1 (passes causes.NoCrtcOfItsOwn (is_some (first_number ws)) each.1)) each.2

  -- A line without a cause, by its first word, leaves the parts sound.
  pub line_sound_by : (w : List ℕ) (ws : Words) (o : Option LineWord) → line_word_of w ≡ o → cause_by o t ws ≡ None
      → IsSound (joined t (told ((w ∷ ws) ∷ [])))
  line_sound_by w ws None is none = absurd (cc)
  line_sound_by w ws (Some words.Crtcs) is none =
      let pass = crtcs_pass t ws none in
      subst IsSound (crtcs_told t w ws is pass.1) (crtcs_sound (only_number ws) pass.1 pass.0 pass.2)
  line_sound_by w ws (Some words.Plane) is none =
      let each = both_none (mask_cause t ws) (plane_cause t plane_kinds.Overlay) none in
      let names = named ws each.0 in
      subst IsSound (overlay_told t w ws is)
      (plane_sound (mask_of ws) plane_kinds.Overlay names.0 (mask_below (crtc_count t) ws names.1) refl each.1)
  line_sound_by w ws (Some words.Primary) is none =
      subst IsSound (primary_told t w ws is) (own_plane_sound plane_kinds.Primary ws refl none)
  line_sound_by w ws (Some words.Cursor) is none =
      subst IsSound (cursor_told t w ws is) (own_plane_sound plane_kinds.Cursor ws refl none)
  line_sound_by w ws (Some words.Encoder) is none =
      let each = both_none (mask_cause t ws) (unless causes.TooMany (has_room t)) none in
      let names = named ws each.0 in
      subst IsSound (encoder_told t w ws is)
      (encoder_sound (mask_of ws) names.0 (mask_below (crtc_count t) ws names.1) (passes causes.TooMany (has_room t) each.1))
  line_sound_by w ws (Some words.Connector) is none =
      let place = encoder_place ws in
      let count = length t.encoders in
      let pass =
      two_pass (causes.Encoder count) causes.TooMany (nat_le 1 place && nat_le place count) (has_room t) none in
      let ends = and_parts (nat_le 1 place) (nat_le place count) pass.0 in
      subst IsSound (connector_told t w ws is)
      (connector_sound place (leb-true 1 place ends.0, leb-true place count ends.1) pass.1)

  line_sound_at : (w : List ℕ) (ws : Words) (b : Bool) → is_comment w ≡ b
      → cond b None (cause_by (line_word_of w) t ws) ≡ None → IsSound (joined t (told ((w ∷ ws) ∷ [])))
  line_sound_at w ws true is none = subst IsSound (comment_tells_nothing t w ws is) sound
  line_sound_at w ws false is none = line_sound_by w ws (line_word_of w) refl none

  -- A line without a cause leaves the parts sound.
  pub line_sound : (line : Words) → cause_of t line ≡ None → IsSound (joined t (told (line ∷ [])))
  unfolding cause_of
  line_sound [] none = subst IsSound (blank_tells_nothing t) sound
  line_sound (w ∷ ws) none = line_sound_at w ws (is_comment w) refl none

  -- ---- the topology

  placed : (first before count : ℕ) → first ≡ before + 1 → (places : List ℕ) → AllByRecursion (IsPlace count) places
      → list_all (λ x. nat_le first x && nat_lt x (first + count)) (map (λ place. before + place) places) ≡ true
  placed first before count is [] all = refl
  placed first before count is (place ∷ places) all =
      and_from _ _
      (and_from _ _ (le-leb first (before + place) (omega (arith, is, all.0.0))) (lt-ltb (before + place) (first + count) (omega (arith, is, all.0.1))))
      (placed first before count is places all.1)

  -- Sound parts with a number of CRTCs are a topology.
  pub topology_is : is_some t.crtcs ≡ true → is_topology (topology_told t) ≡ true
  unfolding are_objects are_kinds
  topology_is some =
      let n = crtc_count t in
      let found = some_found t.crtcs some in
      let is : n ≡ found.0 = ap (λ o. unwrap_or o 0) found.1 in
      let before = n + length t.planes in
      let ids = map (encoder_id t) t.connectors in
      let low : nat_le 1 n ≡ true = le-leb 1 n (omega (arith, is, sound.some found.0 found.1)) in
      let high : nat_le n 8 ≡ true = le-leb n 8 sound.few_crtcs in
      let few : nat_le (n + length t.planes + length t.encoders + length ids) 64 ≡ true =
      le-leb _ 64 (omega (arith, sound.few, length-map t.connectors (encoder_id t))) in
      let first = n + 1 + length t.planes in
      let connected : list_all (is_encoder (topology_told t)) ids ≡ true =
      list_all-numbers_from first (length t.encoders) ids ∙ placed first before (length t.encoders) (omega arith) t.connectors sound.places in
      let objects =
      and_from _ _
      (and_from _ _ (and_from _ _ (and_from _ _ (and_from _ _ low high) few) sound.planes) sound.encoders) connected
      in
      let kinds =
      and_from _ _ (and_from _ _ (eq-eqb (length t.kinds) (length t.planes) sound.one_kind_each) sound.fit)
      sound.once in
      and_from _ _ objects kinds

-- ---- the lines of a text

-- The parts of lines that fit are sound.
pub sound_above : (lines : List Words) (n : ℕ) → n ≤ length lines → ((i : ℕ) → i < n → cause_below lines i ≡ None)
    → IsSound (told (take n lines))
sound_above lines zero le fit = subst IsSound (sym told-nil) nothing_sound
sound_above lines (suc n) le fit =
    let lt : n < length lines = omega (arith, le) in
    let line = get_or lines n [] in
    let before = sound_above lines n (omega (arith, le)) (λ i less. fit i (omega (arith, less))) in
    let none : cause_of (told (take n lines)) line ≡ None =
    ap (next_cause (told (take n lines))) (sym (slice_get-get_or lines n [] lt)) ∙ fit n (omega arith) in
    let one : suc n ≡ n + 1 = omega arith in
    let whole : take (suc n) lines ≡ take n lines ++ line ∷ [] = ap (λ k. take k lines) one ∙ take_more lines n [] lt in
    subst IsSound (sym (ap told whole ∙ told-append (take n lines) (line ∷ [])))
    (line_sound (told (take n lines)) before line none)
