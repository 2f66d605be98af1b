-- The parts that one more line defines.
use Rattle.std.proofs.Common.{◌≡◌, ℕ, true, List, [], ◌∷◌, ◌++◌, map, filter, Option, None, Some, refl, sym, ap, subst, ◌∙◌, append-nil}
use Rattle.std.specs.Prelude.{slice_get}
use Rattle.std.specs.List.{filter_map, cons_option}
use Rattle.std.specs.Option.{option_or}
use Rattle.std.proofs.lemmas.Bool.{false≢true, eqb-true}
use Rattle.std.proofs.lemmas.List.{map-append}
use Rattle.std.proofs.lemmas.List.Elements.{filter-append, filter_map-append}
use Rattle.drm_modes.specs.declared.kinds.PlaneKind.TheVariants as plane_kinds
use Rattle.drm_script.specs.Fields.{Words}
use Rattle.drm_script.specs.Reading.{is_comment}
use Rattle.drm_script.proofs.FieldLaws.{found}
use Rattle.drm_runs.specs.declared.words.LineWord.{LineWord}
use Rattle.drm_runs.specs.declared.words.LineWord.TheVariants as words
use Rattle.drm_runs.specs.declared.words.TheConstants.{LINE_WORDS}
use Rattle.drm_runs.specs.TopologyLines.{line_text, line_word_of, begins_with, others, only_number, mask_of, own_crtc, encoder_place}
use Rattle.drm_runs.specs.Told.{Told, behind, tells_plane, kind_told, told, nothing_told, joined}

-- ---- lines, and those after them

first-append : (xs ys : List ℕ) → slice_get (xs ++ ys) 0 ≡ option_or (slice_get xs 0) (slice_get ys 0)
first-append [] ys = refl
first-append (x ∷ xs) ys = refl

behind-append : (name : LineWord) (xs ys : List Words) → behind name (xs ++ ys) ≡ behind name xs ++ behind name ys
behind-append name xs ys =
    ap (map others) (filter-append (begins_with name) xs ys)
    ∙ map-append others (filter (begins_with name) xs) (filter (begins_with name) ys)

-- The parts of two lists of lines are those of the first, joined with those of the second.
pub told-append : (xs ys : List Words) → told (xs ++ ys) ≡ joined (told xs) (told ys)
unfolding told
told-append xs ys =
    let counts = filter_map only_number in
    let crtcs : slice_get (counts (behind words.Crtcs (xs ++ ys))) 0 ≡ option_or (slice_get (counts (behind words.Crtcs xs)) 0) (slice_get (counts (behind words.Crtcs ys)) 0) =
    ap (λ l. slice_get (counts l) 0) (behind-append words.Crtcs xs ys)
    ∙ ap (λ l. slice_get l 0) (filter_map-append only_number (behind words.Crtcs xs) (behind words.Crtcs ys))
    ∙ first-append (counts (behind words.Crtcs xs)) (counts (behind words.Crtcs ys)) in
    let masks : Words → ℕ = λ line. mask_of (others line) in
    let planes =
    ap (map masks) (filter-append tells_plane xs ys)
    ∙ map-append masks (filter tells_plane xs) (filter tells_plane ys) in
    let kinds =
    ap (map kind_told) (filter-append tells_plane xs ys)
    ∙ map-append kind_told (filter tells_plane xs) (filter tells_plane ys) in
    let encoders =
    ap (map mask_of) (behind-append words.Encoder xs ys)
    ∙ map-append mask_of (behind words.Encoder xs) (behind words.Encoder ys) in
    let connectors =
    ap (map encoder_place) (behind-append words.Connector xs ys)
    ∙ map-append encoder_place (behind words.Connector xs) (behind words.Connector ys) in
    λ i. record
    { crtcs = crtcs i; planes = planes i; kinds = kinds i; encoders = encoders i; connectors = connectors i }

-- No lines define no parts.
pub told-nil : told [] ≡ nothing_told
unfolding told
told-nil = refl

-- ---- one line

or-none : (o : Option ℕ) → option_or o None ≡ o
or-none None = refl
or-none (Some n) = refl

-- Parts joined with no parts are unchanged.
pub joined-nothing : (t : Told) → joined t nothing_told ≡ t
joined-nothing t = λ i. record {
  crtcs = or-none t.crtcs i;
  planes = append-nil t.planes i;
  kinds = append-nil t.kinds i;
  encoders = append-nil t.encoders i;
  connectors = append-nil t.connectors i;
}

-- A blank line adds no part.
pub blank_tells_nothing : (t : Told) → t ≡ joined t (told ([] ∷ []))
unfolding told
blank_tells_nothing t = sym (joined-nothing t)

-- A comment adds no part.
pub comment_tells_nothing : (t : Told) (w : List ℕ) (ws : Words) → is_comment w ≡ true
    → t ≡ joined t (told ((w ∷ ws) ∷ []))
unfolding told
comment_tells_nothing t [] ws is = absurd (false≢true is)
comment_tells_nothing t (b ∷ bs) ws is =
    let P : ℕ → Type 0 = λ b. t ≡ joined t (told (((b ∷ bs) ∷ ws) ∷ [])) in
    subst P (sym (eqb-true b 35 is)) (sym (joined-nothing t))

-- a first word that is one of those that begin a line
first_word : (w : List ℕ) (name : LineWord) → line_word_of w ≡ Some name → w ≡ line_text name
unfolding line_word_of
first_word w name is = found line_text w LINE_WORDS name is

first_told : (o : Option ℕ) → slice_get (cons_option o []) 0 ≡ o
first_told None = refl
first_told (Some n) = refl

module _ (t : Told) (w : List ℕ) (ws : Words) where
  -- the parts with this line
  abbrev told_with : List ℕ → Told
  told_with w = joined t (told ((w ∷ ws) ∷ []))

  -- If no line above sets the number of CRTCs, a `crtcs` line sets it.
  pub crtcs_told : line_word_of w ≡ Some words.Crtcs → t.crtcs ≡ None
      → record t { crtcs = only_number ws } ≡ told_with w
  unfolding told
  crtcs_told is none =
      let crtcs : option_or t.crtcs (slice_get (cons_option (only_number ws) []) 0) ≡ only_number ws =
      ap (λ o. option_or o (slice_get (cons_option (only_number ws) []) 0)) none ∙ first_told (only_number ws) in
      sym (ap told_with (first_word w words.Crtcs is) ∙ (λ i. record {
        crtcs = crtcs i;
        planes = append-nil t.planes i;
        kinds = append-nil t.kinds i;
        encoders = append-nil t.encoders i;
        connectors = append-nil t.connectors i;
      }))

  -- A `plane` line adds an overlay plane with its CRTCs.
  pub overlay_told : line_word_of w ≡ Some words.Plane
      → record t { planes = t.planes ++ mask_of ws ∷ []; kinds = t.kinds ++ plane_kinds.Overlay ∷ [] } ≡ told_with w
  unfolding told
  overlay_told is =
      sym (ap told_with (first_word w words.Plane is) ∙ (λ i. record {
        crtcs = or-none t.crtcs i;
        planes = t.planes ++ mask_of ws ∷ [];
        kinds = t.kinds ++ plane_kinds.Overlay ∷ [];
        encoders = append-nil t.encoders i;
        connectors = append-nil t.connectors i;
      }))

  -- A `primary` line adds a primary plane with its CRTCs.
  pub primary_told : line_word_of w ≡ Some words.Primary
      → record t { planes = t.planes ++ mask_of ws ∷ []; kinds = t.kinds ++ plane_kinds.Primary (own_crtc ws) ∷ [] } ≡ told_with w
  unfolding told
  primary_told is =
      sym (ap told_with (first_word w words.Primary is) ∙ (λ i. record {
        crtcs = or-none t.crtcs i;
        planes = t.planes ++ mask_of ws ∷ [];
        kinds = t.kinds ++ plane_kinds.Primary (own_crtc ws) ∷ [];
        encoders = append-nil t.encoders i;
        connectors = append-nil t.connectors i;
      }))

  -- A `cursor` line adds a cursor plane with its CRTCs.
  pub cursor_told : line_word_of w ≡ Some words.Cursor
      → record t { planes = t.planes ++ mask_of ws ∷ []; kinds = t.kinds ++ plane_kinds.Cursor (own_crtc ws) ∷ [] } ≡ told_with w
  unfolding told
  cursor_told is =
      sym (ap told_with (first_word w words.Cursor is) ∙ (λ i. record {
        crtcs = or-none t.crtcs i;
        planes = t.planes ++ mask_of ws ∷ [];
        kinds = t.kinds ++ plane_kinds.Cursor (own_crtc ws) ∷ [];
        encoders = append-nil t.encoders i;
        connectors = append-nil t.connectors i;
      }))

  -- An `encoder` line adds an encoder with its CRTCs.
  pub encoder_told : line_word_of w ≡ Some words.Encoder
      → record t { encoders = t.encoders ++ mask_of ws ∷ [] } ≡ told_with w
  unfolding told
  encoder_told is =
      sym (ap told_with (first_word w words.Encoder is) ∙ (λ i. record {
        crtcs = or-none t.crtcs i;
        planes = append-nil t.planes i;
        kinds = append-nil t.kinds i;
        encoders = t.encoders ++ mask_of ws ∷ [];
        connectors = append-nil t.connectors i;
      }))

  -- A `connector` line adds a connector with its encoder.
  pub connector_told : line_word_of w ≡ Some words.Connector
      → record t { connectors = t.connectors ++ encoder_place ws ∷ [] } ≡ told_with w
  unfolding told
  connector_told is =
      sym (ap told_with (first_word w words.Connector is) ∙ (λ i. record {
        crtcs = or-none t.crtcs i;
        planes = append-nil t.planes i;
        kinds = append-nil t.kinds i;
        encoders = append-nil t.encoders i;
        connectors = t.connectors ++ encoder_place ws ∷ [];
      }))
