-- The lines that were read so far, and the lines of the rest.
use Rattle.std.proofs.Common.{◌≡◌, ◌≢◌, ℕ, ◌+◌, ◌==◌, ◌<◌, ◌≤◌, Bool, true, false, List, [], ◌∷◌, ◌++◌, length, take, drop, get_or, map, None, Some, Option, refl, sym, ap, subst, ◌∙◌, ◌⊎◌, inl, inr, arith, length-drop}
use Rattle.std.specs.Prelude.{slice_get, is_some, option_map}
use Rattle.std.specs.List.{AllByRecursion}
use Rattle.std.proofs.lemmas.Bool.{cases_lt, eqb-true, eqb-false}
use Rattle.std.proofs.lemmas.Option.{slice_get-get_or, slice_get_past, none-some, same_Some}
use Rattle.std.proofs.lemmas.List.{take_all, take_more, drop_more, drop_all, nil_from_length}
use Rattle.drm_index_array.proofs.Lists.{all_weaker}
use Rattle.drm_modes.specs.Topology.{is_topology}
use Rattle.drm_script.specs.Fields.{Words}
use Rattle.drm_script.specs.Lines.{lines_of, text_behind}
use Rattle.drm_script.specs.Words.{words_of}
use Rattle.drm_runs.specs.declared.causes.Unfit.TheVariants as causes
use Rattle.drm_runs.specs.declared.reading.UnfitLine.{UnfitLine}
use Rattle.drm_runs.specs.TopologyLines.{lines_in}
use Rattle.drm_runs.specs.Told.{Told, told, joined, nothing_told, topology_told}
use Rattle.drm_runs.specs.Causes.{cause_of, next_cause, cause_below, AllFit, IsFirstUnfit}
use Rattle.drm_runs.proofs.TopologyLineLemmas.{told-append, told-nil}
use Rattle.drm_runs.proofs.FittingLines.{IsSound, IsPlace, sound_above, topology_is}

-- `above` lines were read, they fit, and these are their parts
pub record SoFar (lines rest : List Words) (above : ℕ) (t : Told) : Type 0 where
  pub rest_is : drop above lines ≡ rest
  pub within : above ≤ length lines
  pub fit : (i : ℕ) → i < above → cause_below lines i ≡ None
  pub told_is : t ≡ told (take above lines)

-- Before the first line, no part is defined and all lines are left.
pub none_so_far : (lines : List Words) (t : Told) → t ≡ nothing_told → SoFar lines lines 0 t
none_so_far lines t none = record {
  rest_is = refl;
  within = omega arith;
  fit = λ i less. absurd (omega (arith, less));
  told_is = none ∙ sym told-nil;
}

-- ---- the next line

next_at : (lines : List Words) (n : ℕ) (line : Words) (rest : List Words) → drop n lines ≡ line ∷ rest
    → n < length lines
next_at lines n line rest is =
    elim (cases_lt n (length lines)) [
      | inl less ↦ less
      | inr past ↦ absurd (let e : [] ≡ line ∷ rest = sym (drop_all n lines past) ∙ is in cc)
    ]

module _ (lines rest : List Words) (line : Words) (above : ℕ) (t : Told) (so_far : SoFar lines (line ∷ rest) above t) where
  there : above < length lines
  there = next_at lines above line rest so_far.rest_is

  split : get_or lines above [] ∷ drop (above + 1) lines ≡ line ∷ rest
  split = sym (drop_more lines above [] there) ∙ so_far.rest_is

  is_next : get_or lines above [] ≡ line
  is_next = let e = split in cc

  rest_next : drop (above + 1) lines ≡ rest
  rest_next = let e = split in cc

  -- The cause at the next line is that of the line with the parts so far.
  pub next_cause_is : cause_below lines above ≡ cause_of t line
  next_cause_is =
      ap (next_cause (told (take above lines))) (slice_get-get_or lines above [] there)
      ∙ ap (λ l. cause_of (told (take above lines)) l) is_next
      ∙ ap (λ u. cause_of u line) (sym so_far.told_is)

  -- If the next line fits, its parts are joined to the parts so far.
  pub line_read : (t' : Told) → cause_of t line ≡ None → t' ≡ joined t (told (line ∷ []))
      → SoFar lines rest (above + 1) t'
  line_read t' none tells =
      let lt = there in record {
        rest_is = rest_next;
        within = omega (arith, lt);
        fit = λ i less. fits_at i less (cases_lt i above);
        told_is =
            tells
            ∙ ap (λ u. joined u (told (line ∷ []))) so_far.told_is
            ∙ sym (told-append (take above lines) (line ∷ []))
            ∙ ap told (ap (λ l. take above lines ++ l ∷ []) (sym is_next) ∙ sym (take_more lines above [] there));
      }
    where
      fits_at : (i : ℕ) → i < above + 1 → (i < above) ⊎ (above ≤ i) → cause_below lines i ≡ None
      fits_at i less (inl before) = so_far.fit i before
      fits_at i less (inr here) =
          let same : i ≡ above = omega (arith, less, here) in
          ap (cause_below lines) same ∙ next_cause_is ∙ none

  -- If the next line does not fit, it is the first unfit line.
  pub line_unfit : (unfit : UnfitLine) → unfit.number ≡ above + 1 → cause_of t line ≡ Some unfit.cause
      → IsFirstUnfit lines unfit
  line_unfit unfit number cause =
      record { above = above; number = number; fit = so_far.fit; cause = next_cause_is ∙ cause }

-- ---- the end

module _ (lines : List Words) (above : ℕ) (t : Told) (so_far : SoFar lines [] above t) where
  all_read : length lines ≤ above
  all_read =
      elim (cases_lt above (length lines)) [
        | inl less ↦ absurd (let e : get_or lines above [] ∷ drop (above + 1) lines ≡ [] = sym (drop_more lines above [] less) ∙ so_far.rest_is in cc)
        | inr past ↦ past
      ]

  -- If no lines are left, the parts so far are those of all lines.
  pub told_all : t ≡ told lines
  told_all = so_far.told_is ∙ ap told (take_all above lines all_read)

  end_cause : (i : ℕ) → length lines ≤ i → cause_below lines i ≡ next_cause t None
  end_cause i past =
      ap (λ u. next_cause u (slice_get lines i)) (ap told (take_all i lines past) ∙ sym told_all)
      ∙ ap (next_cause t) (slice_get_past lines i past)

  -- If no lines are left and the number of CRTCs is set, all lines fit.
  pub all_fit : is_some t.crtcs ≡ true → AllFit lines
  all_fit some i = fits_at i (cases_lt i above)
    where
      fits_at : (i : ℕ) → (i < above) ⊎ (above ≤ i) → cause_below lines i ≡ None
      fits_at i (inl before) = so_far.fit i before
      fits_at i (inr past) = let read = all_read in end_cause i (omega (arith, read, past)) ∙ rw some refl

  -- If no lines are left and the number of CRTCs is not set, the end is the first unfit line.
  pub end_unfit : (unfit : UnfitLine) → unfit.number ≡ above + 1 → unfit.cause ≡ causes.NoCrtcs → t.crtcs ≡ None
      → IsFirstUnfit lines unfit
  end_unfit unfit number cause none = record {
    above = above;
    number = number;
    fit = so_far.fit;
    cause = end_cause above all_read ∙ rw none (ap Some (sym cause));
  }

  -- If no lines are left, the parts are sound.
  pub all_sound : IsSound t
  all_sound = subst IsSound (sym so_far.told_is) (sound_above lines above so_far.within so_far.fit)

  -- If no lines are left, the place of each connector's encoder is at most 64.
  pub few_places : AllByRecursion (λ place. place ≤ 64) t.connectors
  few_places =
      let sound = all_sound in
      all_weaker (IsPlace (length t.encoders)) (λ place. place ≤ 64) (λ place is. omega (arith, is.1, sound.few))
      t.connectors sound.places

  -- If no lines are left and the number of CRTCs is set, the parts are a topology.
  pub topology_sound : is_some t.crtcs ≡ true → is_topology (topology_told t) ≡ true
  topology_sound some = topology_is t all_sound some

-- ---- the parts of the whole text

-- If all lines fit, no line is the first unfit one.
pub unfit_is_unfit : (lines : List Words) (unfit : UnfitLine) → IsFirstUnfit lines unfit → AllFit lines → ⊥
unfit_is_unfit lines unfit first all = none-some unfit.cause (sym (all first.above) ∙ first.cause)

-- ---- a text and the text after its first line

-- A text that does not test as empty is not empty.
pub nonempty : (text : List ℕ) (empty : Bool) → empty ≡ (length text == 0) → empty ≡ false → text ≢ []
nonempty text empty is not_empty none = eqb-false (length text) 0 (sym is ∙ not_empty) (ap length none)

-- If a text is not empty, its first line and the lines of the text after it are left.
pub at_line : (lines : List Words) (text line behind : List ℕ) (above : ℕ) (t : Told)
    → SoFar lines (lines_in text) above t → text ≢ [] → (text ≢ [] → lines_of text ≡ line ∷ lines_of behind)
    → SoFar lines (words_of line ∷ lines_in behind) above t
at_line lines text line behind above t so_far some first =
    let P : List Words → Type 0 = λ rest. SoFar lines rest above t in subst P (ap (map words_of) (first some)) so_far

-- If the text is empty, no lines are left.
pub at_end : (lines : List Words) (text : List ℕ) (above : ℕ) (t : Told) (empty : Bool)
    → SoFar lines (lines_in text) above t → empty ≡ (length text == 0) → empty ≡ true → SoFar lines [] above t
at_end lines text above t empty so_far is end =
    let none : text ≡ [] = nil_from_length text (eqb-true (length text) 0 (sym is ∙ end)) in
    let P : List Words → Type 0 = λ rest. SoFar lines rest above t in subst P (ap lines_in none) so_far

-- If an option mapped to x returns a value, the option has one, and the value is x.
pub some_made : {X : Type 0} (o : Option ℕ) (x y : X) → Some y ≡ option_map (λ _. x) o → (is_some o ≡ true) × (y ≡ x)
some_made None x y is = absurd (cc)
some_made (Some n) x y is = (refl, same_Some y x is)

-- If the mapped option has no value, the option has none.
pub none_made : {X : Type 0} (o : Option ℕ) (x : X) → None ≡ option_map (λ _. x) o → o ≡ None
none_made None x is = refl
none_made (Some n) x is = absurd (none-some x is)

-- The text after the first line is shorter than the text.
pub shorter : (text : List ℕ) (place : Option ℕ) → text ≢ [] → length (text_behind place text) < length text
shorter [] place some = absurd (some refl)
shorter (b ∷ bs) None some = omega arith
shorter (b ∷ bs) (Some n) some = omega (arith, length-drop (n + 1) (b ∷ bs))
