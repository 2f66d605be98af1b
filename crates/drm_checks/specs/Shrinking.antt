-- A script that is made shorter while one of its lines is answered the same (own).
use Rattle.std.specs.Prelude.{◌≡◌, ℕ, ◌+◌, ◌<◌, ◌≤◌, ◌==◌, Bool, true, false, not, List, [], ◌∷◌, ◌++◌, ◌⊎◌, Option, Some, Result, length, unwrap_or}
use Rattle.std.specs.List.{slice_get}
use Rattle.std.specs.Str.{bytes_eq}
use Rattle.drm_table.specs.declared.answers.Answer.{Answer}
use Rattle.drm_table.specs.declared.apart.Apart.{Apart}
use Rattle.drm_script.specs.Lines.{answer_line, lines_of}
use Rattle.drm_runs.specs.Lines.{ended}
use Rattle.drm_runs.specs.Script.{Setting, Place, Uses, unbound}
use Rattle.drm_runs.specs.Script.Place.{Planned}
use Rattle.drm_checks.specs.Expectations.{script_part}
use Rattle.drm_checks.specs.Checker.{results_of}
use Rattle.drm_checks.specs.Updates.{IsUnfit, with_answer}
use Rattle.drm_checks.specs.declared.update.UpdateFault.{UpdateFault}
use Rattle.drm_checks.specs.declared.update.UpdateFault.TheVariants as updates
use Rattle.drm_checks.specs.declared.replays.Kept.{Kept}
use Rattle.drm_checks.specs.declared.replays.Kept.TheVariants as kept
use Rattle.drm_checks.specs.declared.faults.ShrinkFault.{ShrinkFault}
use Rattle.drm_checks.specs.declared.faults.ShrinkFault.TheVariants as faults

-- whether the line at a place, from 0, is kept
abbrev pub keeps : Kept → ℕ → Bool
keeps kept.All place = true
keeps (kept.Marked marks) place = unwrap_or (slice_get marks.items place) true
keeps (kept.AllBut left_out) place = not (place == left_out)

-- The lines of a script, one after the other, each used as a line of a script if it is kept, and left out otherwise. The
-- indices are the number of used lines, the text of these with their answers, and the device and the labels.
pub data Selected (setting : Setting) (is_kept : ℕ → Bool) : List (List ℕ) → ℕ → List ℕ → Place → List ℕ → Type 0 where
  start : Selected setting is_kept [] 0 [] (Planned setting) unbound
  used : {lines : List (List ℕ)} {count : ℕ} {text : List ℕ} {device device' : Place} {labels labels' : List ℕ} (next : List ℕ) (came : Option (Result Answer Apart))
      → Selected setting is_kept lines count text device labels → is_kept (length lines) ≡ true → length next ≤ 255
      → Uses device labels (script_part next) (results_of came) device' labels'
      → Selected setting is_kept (lines ++ next ∷ []) (count + 1) (text ++ ended (with_answer (script_part next) came)) device' labels'
  left_out : {lines : List (List ℕ)} {count : ℕ} {text : List ℕ} {device : Place} {labels : List ℕ} (next : List ℕ)
      → Selected setting is_kept lines count text device labels → is_kept (length lines) ≡ false
      → Selected setting is_kept (lines ++ next ∷ []) count text device labels

-- the line with this number, from 1, and those before and after it
pub record LineAt (text : List ℕ) (number : ℕ) (before : List (List ℕ)) (line : List ℕ) : Type 0 where
  pub others : List (List ℕ)
  pub lines : lines_of text ≡ before ++ line ∷ others
  pub number_is : number ≡ length before + 1

-- The kept lines before the one with this number were used, and then that one, with this answer. The text has the
-- used lines with their answers, and the count is that of the lines before the last.
pub record IsReplay (setting : Setting) (is_kept : ℕ → Bool) (text : List ℕ) (number : ℕ) (written : List ℕ) (count : ℕ) (answer : Result Answer Apart) : Type 0 where
  pub before : List (List ℕ)
  pub last : List ℕ
  pub at : LineAt text number before last
  pub front : List ℕ
  pub device : Place
  pub device' : Place
  pub labels : List ℕ
  pub labels' : List ℕ
  pub selected : Selected setting is_kept before count front device labels
  pub answered : Uses device labels (script_part last) (answer ∷ []) device' labels'
  pub written_is : written ≡ front ++ ended (with_answer (script_part last) (Some answer))

-- The line with this number has an answer after all lines before it. After some of them it has the same. The text has
-- those and the line, with their answers, and the count is that of all of these.
pub record Shrinks (setting : Setting) (text : List ℕ) (number : ℕ) (shrunk : List ℕ) (lines : ℕ) : Type 0 where
  pub whole : List ℕ
  pub count : ℕ
  pub answer : Result Answer Apart
  pub same : Result Answer Apart
  pub is_whole : IsReplay setting (keeps kept.All) text (count + 1) whole count answer
  pub number_is : number ≡ count + 1
  pub some : ℕ → Bool
  pub kept : ℕ
  pub is_kept : IsReplay setting some text number shrunk kept same
  pub lines_are : lines ≡ kept + 1
  pub same_answer : answer_line same ≡ answer_line answer

-- this is the number of lines, and none has the requested number
abbrev pub HasNoLine : List ℕ → ℕ → ℕ → Type 0
HasNoLine text number lines = (lines ≡ length (lines_of text)) × ((number ≡ 0) ⊎ (lines < number))

-- the line with this number has no answer after the kept lines before it
pub record IsUnanswered (setting : Setting) (is_kept : ℕ → Bool) (text : List ℕ) (number : ℕ) : Type 0 where
  pub before : List (List ℕ)
  pub last : List ℕ
  pub at : LineAt text number before last
  pub count : ℕ
  pub written : List ℕ
  pub device : Place
  pub device' : Place
  pub labels : List ℕ
  pub labels' : List ℕ
  pub selected : Selected setting is_kept before count written device labels
  pub nothing : Uses device labels (script_part last) [] device' labels'

-- the line with this number can't be used after the kept lines before it
pub record HasUnfit (setting : Setting) (is_kept : ℕ → Bool) (text : List ℕ) (number : ℕ) : Type 0 where
  pub before : List (List ℕ)
  pub unfit : List ℕ
  pub at : LineAt text number before unfit
  pub count : ℕ
  pub written : List ℕ
  pub device : Place
  pub labels : List ℕ
  pub selected : Selected setting is_kept before count written device labels
  pub cause : IsUnfit device unfit

-- the reason the line with this number has no answer after the kept lines before it; memory may be refused at any line
abbrev pub HasFault : Setting → (ℕ → Bool) → List ℕ → ℕ → ShrinkFault → Type 0
HasFault setting is_kept text number (faults.NoLine lines) = HasNoLine text number lines
HasFault setting is_kept text number faults.NoAnswer = IsUnanswered setting is_kept text number
HasFault setting is_kept text number (faults.Malformed told cause) = HasUnfit setting is_kept text told
HasFault setting is_kept text number faults.NoMemory = Unit {0}

-- the reason there is no shorter script, with all lines or some of them
abbrev pub HasShrinkFault : Setting → List ℕ → ℕ → ShrinkFault → Type 0
HasShrinkFault setting text number fault = (is_kept : ℕ → Bool) × HasFault setting is_kept text number fault

-- ---- scripts that need each line

-- without the line at a place, from 0, the line with this number has another answer, or it can't be answered
pub data IsNeeded (setting : Setting) (text : List ℕ) (number : ℕ) (answer : Result Answer Apart) (place : ℕ) : Type 0 where
  another : {written : List ℕ} {count : ℕ} {other : Result Answer Apart}
      → IsReplay setting (keeps (kept.AllBut place)) text number written count other
      → bytes_eq (answer_line other) (answer_line answer) ≡ false → IsNeeded setting text number answer place
  unanswered : {fault : ShrinkFault} → HasFault setting (keeps (kept.AllBut place)) text number fault
      → ((fault ≡ faults.NoMemory) → ⊥) → IsNeeded setting text number answer place

-- without the line at a place, from 0, the line with this number has the same answer
pub record IsSpare (setting : Setting) (text : List ℕ) (number : ℕ) (answer : Result Answer Apart) (place : ℕ) : Type 0 where
  pub written : List ℕ
  pub count : ℕ
  pub same : Result Answer Apart
  pub is_replay : IsReplay setting (keeps (kept.AllBut place)) text number written count same
  pub same_answer : answer_line same ≡ answer_line answer

-- The shorter script needs each line before its last. Without any one of them, the last is not answered as the line with
-- this number is after all lines before it.
pub record NeedsEach (setting : Setting) (text : List ℕ) (number : ℕ) (shrunk : List ℕ) (lines : ℕ) : Type 0 where
  pub whole : List ℕ
  pub count : ℕ
  pub answer : Result Answer Apart
  pub is_whole : IsReplay setting (keeps kept.All) text number whole count answer
  pub needed : (place : ℕ) → place + 1 < lines → IsNeeded setting shrunk lines answer place

-- The shorter script has a line before its last without which the last is answered as the line with this number is after
-- all lines before it.
pub record HasSpare (setting : Setting) (text : List ℕ) (number : ℕ) (shrunk : List ℕ) (lines : ℕ) : Type 0 where
  pub whole : List ℕ
  pub count : ℕ
  pub answer : Result Answer Apart
  pub is_whole : IsReplay setting (keeps kept.All) text number whole count answer
  pub place : ℕ
  pub is_before : place + 1 < lines
  pub spare : IsSpare setting shrunk lines answer place

-- the same fault of the use of a line
abbrev pub fault_of : UpdateFault → ShrinkFault
fault_of (updates.Malformed number cause) = faults.Malformed number cause
fault_of updates.NoMemory = faults.NoMemory
