-- A file that was updated passes its check.
use Rattle.std.proofs.Common.{◌≡◌, ◌≢◌, ℕ, ◌+◌, ◌<◌, ◌≤◌, List, [], ◌∷◌, ◌++◌, length, take, drop, codes, refl, sym, ap, subst, ◌∙◌, arith, Bool, true, false, if◌then◌else◌, ◌&&◌, nat_eq, nat_le, Some, None, Option, Result, All, append-nil, length-append, take-append-drop, zero-add}
use Rattle.std.proofs.lemmas.Bool.{cond-true, cond-false, cond_both, and_right, leb-true, ne_eqb}
use Rattle.std.proofs.lemmas.List.{take_at, drop_at, drop-drop}
use Rattle.std.proofs.lemmas.List.Elements.{All-nil, All-head, All-tail, All-push}
use Rattle.std.proofs.lemmas.Slice.Eq.{bytes_eq-Decides}
use Rattle.drm_table.specs.declared.answers.Answer.{Answer}
use Rattle.drm_table.specs.declared.apart.Apart.{Apart}
use Rattle.drm_script.specs.Lines.{answer_words, is_line_end, lines_of, with_line_byte}
use Rattle.drm_script.specs.Reading.{is_comment}
use Rattle.drm_script.proofs.LineLaws.{answer_bare}
use Rattle.drm_runs.specs.Lines.{IsBare, ended, joined}
use Rattle.drm_runs.specs.Script.{Setting, Place, Uses}
use Rattle.drm_runs.proofs.LineLemmas.{IsBare-append}
use Rattle.drm_runs.proofs.LineStepLemmas.{joined-push}
use Rattle.drm_checks.specs.Expectations.{arrow_from, arrow_place, begins_with_arrow, before, behind, script_part, expected_part, is_whole, is_short}
use Rattle.drm_checks.specs.Differences.{Difference, met, unmet}
use Rattle.drm_checks.specs.Checker.{results_of}
use Rattle.drm_checks.specs.Checks.{Checked}
use Rattle.drm_checks.specs.Checks.Checked.{start as checked_start, line as checked_line}
use Rattle.drm_checks.specs.Updates.{Updated, answered_line, with_answer, stays, updated_line}
use Rattle.drm_checks.specs.Updates.Updated.{start, line}

-- ---- lines without line ends

-- no line end stands in any of them
abbrev AreBare : List (List ℕ) → Type 0
AreBare [] = Unit {0}
AreBare (next ∷ lines) = IsBare next × AreBare lines

AreBare-push : (lines : List (List ℕ)) (next : List ℕ) → AreBare lines → IsBare next → AreBare (lines ++ next ∷ [])
AreBare-push [] next bare b = (b, tt)
AreBare-push (first ∷ lines) next bare b = (bare.0, AreBare-push lines next bare.1 b)

IsBare-front : (xs ys : List ℕ) → IsBare (xs ++ ys) → IsBare xs
IsBare-front [] ys b = tt
IsBare-front (x ∷ xs) ys b = (b.0, IsBare-front xs ys b.1)

bare_words : (bs : List ℕ) → All (λ (b : ℕ). b ≢ 10) bs → IsBare bs
bare_words [] all = tt
bare_words (b ∷ bs) all =
    (ne_eqb b 10 (All-head (λ (b : ℕ). b ≢ 10) b bs all), bare_words bs (All-tail (λ (b : ℕ). b ≢ 10) b bs all))

lines_of-ended : (next rest : List ℕ) → IsBare next → lines_of (next ++ 10 ∷ rest) ≡ next ∷ lines_of rest
lines_of-ended [] rest bare = refl
lines_of-ended (b ∷ bs) rest bare =
    cond-false (is_line_end b) _ _ bare.0 ∙ ap (with_line_byte b) (lines_of-ended bs rest bare.1)

lines_of-joined : (lines : List (List ℕ)) → AreBare lines → lines_of (joined lines) ≡ lines
lines_of-joined [] bare = refl
lines_of-joined (next ∷ lines) bare =
    lines_of-ended next (joined lines) bare.0 ∙ ap (λ (ls : List (List ℕ)). next ∷ ls) (lines_of-joined lines bare.1)

-- ---- the first ` -> `

-- ` -> ` and the words behind it
abbrev arrow : List ℕ → List ℕ
arrow words = codes " -> " ++ words

some_same : (a b : ℕ) → Some a ≡ Some b → a ≡ b
some_same a b e = cc

found_later : (here : Bool) (m place : ℕ) (later : Option ℕ) → m < place → (if here then Some m else later) ≡ Some place
    → (here ≡ false) × (later ≡ Some place)
found_later true m place later past h = let same = some_same m place h in absurd (omega (arith, same, past))
found_later false m place later past h = (refl, h)

same_start : (b : ℕ) (script xs ys : List ℕ)
    → begins_with_arrow (b ∷ (script ++ arrow xs)) ≡ begins_with_arrow (b ∷ (script ++ arrow ys))
same_start b [] xs ys = refl
same_start b (c ∷ []) xs ys = refl
same_start b (c ∷ d ∷ []) xs ys = refl
same_start b (c ∷ d ∷ e ∷ script) xs ys = refl

no_start : (b : ℕ) (script words : List ℕ) → begins_with_arrow (b ∷ (script ++ arrow words)) ≡ false
    → begins_with_arrow (b ∷ script) ≡ false
no_start b [] words h = and_right (nat_eq b 32) false refl
no_start b (c ∷ []) words h = and_right (nat_eq b 32) (nat_eq c 45 && false) (and_right (nat_eq c 45) false refl)
no_start b (c ∷ d ∷ []) words h =
    let third : (nat_eq d 62 && false) ≡ false = and_right (nat_eq d 62) false refl in
    and_right (nat_eq b 32) (nat_eq c 45 && (nat_eq d 62 && false))
    (and_right (nat_eq c 45) (nat_eq d 62 && false) third)
no_start b (c ∷ d ∷ e ∷ script) words h = h

-- it stands where it stands, whatever words are behind it
first_there : (script words others : List ℕ) (m n : ℕ) → arrow_from m (script ++ arrow words) ≡ Some (m + length script)
    → arrow_from n (script ++ arrow others) ≡ Some (n + length script)
first_there [] words others m n h = let same : n ≡ n + 0 = omega arith in ap Some same
first_there (b ∷ script) words others m n h =
    let l =
    found_later (begins_with_arrow (b ∷ (script ++ arrow words))) m (m + length (b ∷ script))
    (arrow_from (m + 1) (script ++ arrow words)) (omega arith) h in
    let here : m + length (b ∷ script) ≡ (m + 1) + length script = omega arith in
    let there : (n + 1) + length script ≡ n + length (b ∷ script) = omega arith in
    cond-false _ _ _ (same_start b script others words ∙ l.0)
    ∙ first_there script words others (m + 1) (n + 1) (l.1 ∙ ap Some here) ∙ ap Some there

-- none stands in what is before it
none_before : (script words : List ℕ) (m n : ℕ) → arrow_from m (script ++ arrow words) ≡ Some (m + length script)
    → arrow_from n script ≡ None
none_before [] words m n h = refl
none_before (b ∷ script) words m n h =
    let l =
    found_later (begins_with_arrow (b ∷ (script ++ arrow words))) m (m + length (b ∷ script))
    (arrow_from (m + 1) (script ++ arrow words)) (omega arith) h in
    let here : m + length (b ∷ script) ≡ (m + 1) + length script = omega arith in
    cond-false _ _ _ (no_start b script words l.0) ∙ none_before script words (m + 1) (n + 1) (l.1 ∙ ap Some here)

begins : (text : List ℕ) → begins_with_arrow text ≡ true → text ≡ arrow (drop 4 text)
begins text h = sym (take-append-drop 4 text) ∙ ap (λ (front : List ℕ). front ++ drop 4 text) ((bytes_eq-Decides (take 4 text) (codes " -> ")).0 h)

-- the parts of a line with ` -> ` at this place, in a text whose first byte has place n
abbrev PartsAt : List ℕ → ℕ → ℕ → Type 0
PartsAt text n place =
    (script : List ℕ) × (words : List ℕ) × (text ≡ script ++ arrow words) × (place ≡ n + length script)

parts_here : (b : ℕ) (bs : List ℕ) (n place : ℕ) (here : Bool) → begins_with_arrow (b ∷ bs) ≡ here
    → (arrow_from (n + 1) bs ≡ Some place → PartsAt bs (n + 1) place)
    → (if here then Some n else arrow_from (n + 1) bs) ≡ Some place → PartsAt (b ∷ bs) n place
parts_here b bs n place true is later h = let same = some_same n place h in ([], drop 4 (b ∷ bs), begins (b ∷ bs) is, omega (arith, same))
parts_here b bs n place false is later h =
    let l = later h in
    let at = l.3 in
    (b ∷ l.0, l.1, ap (λ (rest : List ℕ). b ∷ rest) l.2, omega (arith, at))

parts_at : (text : List ℕ) (n place : ℕ) → arrow_from n text ≡ Some place → PartsAt text n place
parts_at [] n place h = absurd (cc)
parts_at (b ∷ bs) n place h = parts_here b bs n place (begins_with_arrow (b ∷ bs)) refl (parts_at bs (n + 1) place) h

-- ---- the parts of a line that expects something

same_comment : (script xs ys : List ℕ) → is_comment (script ++ arrow xs) ≡ is_comment (script ++ arrow ys)
same_comment [] xs ys = refl
same_comment (b ∷ script) xs ys = refl

no_comment_before : (script words : List ℕ) → is_comment (script ++ arrow words) ≡ false → is_comment script ≡ false
no_comment_before [] words h = refl
no_comment_before (b ∷ script) words h = h

-- a line that expects these words behind this script
record Expects (text script words : List ℕ) : Type 0 where
  parts : text ≡ script ++ arrow words
  first : arrow_from 0 (script ++ arrow words) ≡ Some (0 + length script)
  no_comment : is_comment (script ++ arrow words) ≡ false

no_comment_at : (comment : Bool) (found : Option ℕ) (place : ℕ) → (if comment then None else found) ≡ Some place
    → (comment ≡ false) × (found ≡ Some place)
no_comment_at true found place h = absurd (cc)
no_comment_at false found place h = (refl, h)

expects : (text : List ℕ) (place : ℕ) → arrow_place text ≡ Some place
    → (script : List ℕ) × (words : List ℕ) × Expects text script words
expects text place h =
    let found = no_comment_at (is_comment text) (arrow_from 0 text) place h in
    let p = parts_at text 0 place found.1 in (
      p.0,
      p.1,
      record {
        parts = p.2;
        first = subst (λ (l : List ℕ). arrow_from 0 l ≡ Some (0 + length p.0)) p.2 (found.1 ∙ ap Some p.3);
        no_comment = subst (λ (l : List ℕ). is_comment l ≡ false) p.2 found.0;
      },
    )

module _ {text script words : List ℕ} (e : Expects text script words) where
  place_of : (others : List ℕ) → arrow_place (script ++ arrow others) ≡ Some (length script)
  place_of others =
      cond-false _ _ _ (same_comment script others words ∙ e.no_comment) ∙ first_there script words others 0 0 e.first
      ∙ ap Some (zero-add (length script))

  script_behind : (others : List ℕ) → script_part (script ++ arrow others) ≡ script
  script_behind others =
      ap (λ (p : Option ℕ). before p (script ++ arrow others)) (place_of others)
      ∙ take_at script (arrow others) (length script) refl

  expected_behind : (others : List ℕ) → expected_part (script ++ arrow others) ≡ Some others
  expected_behind others =
      let all : List ℕ = script ++ arrow others in
      let words_behind : drop (length script + 4) all ≡ others =
      sym (drop-drop 4 (length script) all)
      ∙ ap (λ (l : List ℕ). drop 4 l) (drop_at script (arrow others) (length script) refl) in
      ap (λ (p : Option ℕ). behind p all) (place_of others) ∙ ap Some words_behind

  no_place : arrow_place script ≡ None
  no_place = cond-false _ _ _ (no_comment_before script words e.no_comment) ∙ none_before script words 0 0 e.first

  script_is : script_part text ≡ script
  script_is = ap script_part e.parts ∙ script_behind words

-- ---- a line that was updated

-- It is used as the line that it comes from, and expects what came, or nothing.
record Passes (text : List ℕ) (came : Option (Result Answer Apart)) (updated : List ℕ) : Type 0 where
  script : script_part updated ≡ script_part text
  none_unmet : (number : ℕ) → unmet number (expected_part updated) came ≡ []
  short : length updated ≤ 255
  bare : IsBare updated

stays_met : (expected : Option (List ℕ)) (came : Option (Result Answer Apart)) (number : ℕ) → stays expected came ≡ true
    → unmet number expected came ≡ []
stays_met None came number h = refl
stays_met (Some expected) came number h = cond-true _ _ _ h

module _ {text script words : List ℕ} (e : Expects text script words) (bare : IsBare text) (short : length text ≤ 255) where
  script_bare : IsBare script
  script_bare = IsBare-front script (arrow words) (subst IsBare e.parts bare)

  passes_alone : (came : Option (Result Answer Apart)) → Passes text came script
  passes_alone came = record {
    script = ap (λ (p : Option ℕ). before p script) (no_place e) ∙ sym (script_is e);
    none_unmet = λ (number : ℕ). ap (λ (p : Option ℕ). unmet number (behind p script) came) (no_place e);
    short =
        (let long = ap (λ (l : List ℕ). length l) e.parts in let all = length-append script (arrow words) in omega (arith, long, all, short));
    bare = script_bare;
  }

  passes_answered : (answer : Result Answer Apart) → length (answered_line script answer) ≤ 255
      → Passes text (Some answer) (answered_line script answer)
  passes_answered answer fits =
      let told = answer_words answer in
      let whole : is_whole told answer ≡ true = (bytes_eq-Decides told told).1 refl in record {
        script = script_behind e told ∙ sym (script_is e);
        none_unmet =
            λ (number : ℕ). ap (λ (x : Option (List ℕ)). unmet number x (Some answer)) (expected_behind e told)
            ∙ cond-true _ _ _ (cond-true _ true (is_short told answer) whole);
        short = fits;
        bare = IsBare-append script (arrow told) script_bare (IsBare-append (codes " -> ") told (refl, (refl, (refl, (refl, tt)))) (bare_words told (answer_bare answer)));
      }

  passes_with : (came : Option (Result Answer Apart)) → Passes text came (with_answer script came)
  passes_with None = passes_alone None
  passes_with (Some answer) =
      cond_both (nat_le (length (answered_line script answer)) 255) (answered_line script answer) script
      (Passes text (Some answer))
      (λ h. passes_answered answer (leb-true _ _ h)) (λ h. passes_alone (Some answer))

passes_changed : (text : List ℕ) (came : Option (Result Answer Apart)) (place : Option ℕ) → arrow_place text ≡ place
    → IsBare text → length text ≤ 255 → stays (behind place text) came ≡ false
    → Passes text came (with_answer (script_part text) came)
passes_changed text came None is bare short h = absurd (cc)
passes_changed text came (Some place) is bare short h =
    let e = expects text place is in
    subst (λ (s : List ℕ). Passes text came (with_answer s came)) (sym (script_is e.2))
    (passes_with e.2 bare short came)

passes : (text : List ℕ) (came : Option (Result Answer Apart)) → IsBare text → length text ≤ 255
    → Passes text came (updated_line text came)
passes text came bare short =
    cond_both (stays (expected_part text) came) text (with_answer (script_part text) came) (Passes text came)
    (λ h. record { script = refl; none_unmet = λ (number : ℕ). stays_met (expected_part text) came number h; short = short; bare = bare })
    (λ h. passes_changed text came (arrow_place text) refl bare short h)

-- ---- all lines that were updated

record IsChecked (setting : Setting) (updated : List ℕ) (device : Place) (labels : List ℕ) : Type 0 where
  lines : List (List ℕ)
  passed : ℕ
  checked : Checked setting lines passed [] device labels
  text : updated ≡ joined lines
  bare : AreBare lines
  short : All (λ (l : List ℕ). length l ≤ 255) lines

is_checked : {setting : Setting} {lines : List (List ℕ)} {updated : List ℕ} {device : Place} {labels : List ℕ}
    → Updated setting lines updated device labels → IsChecked setting updated device labels
is_checked start =
    record
    { lines = []; passed = 0; checked = checked_start; text = refl; bare = tt; short = All-nil (λ (l : List ℕ). length l ≤ 255) }
is_checked {setting} (line {device = device} {device' = device'} {labels = labels} {labels' = labels'} next came u bare short uses) =
    let so = is_checked u in
    let put = updated_line next came in
    let p = passes next came bare short in
    let same : Uses device labels (script_part put) (results_of came) device' labels' =
    subst (λ (s : List ℕ). Uses device labels s (results_of came) device' labels') (sym p.script) uses in
    record {
      lines = so.lines ++ put ∷ [];
      passed = so.passed + met (expected_part put) came;
      checked =
          subst
          (λ (ds : List Difference). Checked setting (so.lines ++ put ∷ []) (so.passed + met (expected_part put) came) ds device' labels')
          (p.none_unmet (length so.lines + 1)) (checked_line put came so.checked p.bare same);
      text =
          ap (λ (t : List ℕ). t ++ ended put) so.text ∙ sym (joined-push so.lines put [])
          ∙ append-nil (joined (so.lines ++ put ∷ []));
      bare = AreBare-push so.lines put so.bare p.bare;
      short = All-push (λ (l : List ℕ). length l ≤ 255) so.lines put so.short p.short;
    }

-- A file that was updated passes its check without a difference, and each of its lines is short enough.
pub passes_check : {setting : Setting} {lines : List (List ℕ)} {updated : List ℕ} {device : Place} {labels : List ℕ}
    → Updated setting lines updated device labels
    → (passed : ℕ) × Checked setting (lines_of updated) passed [] device labels × All (λ (l : List ℕ). length l ≤ 255) (lines_of updated)
passes_check {setting} {device = device} {labels = labels} u =
    let so = is_checked u in
    let same = ap lines_of so.text ∙ lines_of-joined so.lines so.bare in (
      so.passed,
      subst (λ (ls : List (List ℕ)). Checked setting ls so.passed [] device labels) (sym same) so.checked,
      subst (λ (ls : List (List ℕ)). All (λ (l : List ℕ). length l ≤ 255) ls) (sym same) so.short,
    )
