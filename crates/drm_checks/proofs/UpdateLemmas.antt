-- A text is updated, line by line.
use Rattle.std.proofs.Common.{◌≡◌, ◌≢◌, ℕ, ◌+◌, ◌<◌, ◌≤◌, List, [], ◌∷◌, ◌++◌, length, position, refl, sym, ap, subst, ◌∙◌, arith, Some, None, Option, Result, Ok, Err, Bool, false, ◌==◌, append_assoc, length-drop}
use Rattle.std.proofs.lemmas.Bool.Decides.{nat_tests}
use Rattle.std.proofs.lemmas.List.{length_push}
use Rattle.drm_table.specs.declared.answers.Answer.{Answer}
use Rattle.drm_table.specs.declared.apart.Apart.{Apart}
use Rattle.drm_script.specs.Lines.{is_line_end, line_before, text_behind, lines_of}
use Rattle.drm_runs.specs.Lines.{IsBare, ended}
use Rattle.drm_runs.specs.Script.{Setting}
use Rattle.drm_runs.specs.Interpreter.{InterpreterState, at_start}
use Rattle.drm_runs.proofs.LineLemmas.{bare_front, bare_all}
use Rattle.drm_checks.specs.Updates.{Updated, UsesLine, IsUnfit, HasUnfitLine, HasFault, updated_line}
use Rattle.drm_checks.specs.Updates.Updated.{start, line}
use Rattle.drm_checks.specs.declared.update.UpdateFault.{UpdateFault}
use Rattle.drm_checks.specs.declared.update.UpdateFault.TheVariants as faults

-- ---- the first line of a text

first_bare : (text : List ℕ) (place : Option ℕ) → position is_line_end text ≡ place → IsBare (line_before place text)
first_bare text None e = bare_all text e
first_bare text (Some at) e = bare_front text at e

behind_shorter : (text : List ℕ) (place : Option ℕ) → 0 < length text → length (text_behind place text) < length text
behind_shorter text None some = some
behind_shorter text (Some at) some = rw length-drop (omega (arith, some))

-- what `first_line` gives of a text
pub record FirstLine (text first behind : List ℕ) : Type 0 where
  pub front : first ≡ line_before (position is_line_end text) text
  pub rest : behind ≡ text_behind (position is_line_end text) text
  pub lines : lines_of text ≡ first ∷ lines_of behind
  pub more : 0 < length text

-- A text that is not empty has a first line and all that follows.
pub first_of : (text first behind : List ℕ) (empty : Bool) → empty ≡ (length text == 0) → empty ≡ false
    → first ≡ line_before (position is_line_end text) text
    → behind ≡ text_behind (position is_line_end text) text → (text ≢ [] → lines_of text ≡ first ∷ lines_of behind)
    → FirstLine text first behind
first_of text first behind empty is filled front rest lines =
    let some : 0 < length text = grind (arith, nat_tests) in record {
      front = front;
      rest = rest;
      lines = lines (λ (e : text ≡ []). let none = ap (λ (l : List ℕ). length l) e in omega (arith, none, some));
      more = some;
    }

-- Each line of a text leaves less of the text.
pub shorter : {text first behind : List ℕ} → FirstLine text first behind → length behind < length text
shorter {text} f = rw f.rest (behind_shorter text (position is_line_end text) f.more)

bare : {text first behind : List ℕ} → FirstLine text first behind → IsBare first
bare {text} f = rw f.front (first_bare text (position is_line_end text) refl)

-- ---- the lines so far

-- the lines that were used, what they became, and what is left of the text
pub record UpdatedSoFar (setting : Setting) (text rest updated : List ℕ) (number : ℕ) (interpreter : InterpreterState) : Type 0 where
  pub lines : List (List ℕ)
  pub used : Updated setting lines updated interpreter.device interpreter.labels
  pub whole : lines_of text ≡ lines ++ lines_of rest
  pub counted : number ≡ length lines
  pub bounded : number + length rest ≤ length text

-- An update that begins has used no line.
pub none_so_far : (setting : Setting) (text updated : List ℕ) (interpreter : InterpreterState)
    → interpreter ≡ at_start setting → updated ≡ [] → UpdatedSoFar setting text text updated 0 interpreter
none_so_far setting text updated interpreter at none = record {
  lines = [];
  used =
      subst (λ (i : InterpreterState). Updated setting [] updated i.device i.labels) (sym at)
      (subst (λ (u : List ℕ). Updated setting [] u (at_start setting).device (at_start setting).labels) (sym none) start);
  whole = refl;
  counted = refl;
  bounded = omega arith;
}

module _ {setting : Setting} {text rest updated : List ℕ} {number : ℕ} {interpreter : InterpreterState} (so : UpdatedSoFar setting text rest updated number interpreter) where
  module _ (first behind : List ℕ) (f : FirstLine rest first behind) (next : InterpreterState) where
    -- After one more line was used, each line so far is used and put as it became.
    pub one_more : (came : Option (Result Answer Apart)) (grown : List ℕ)
        → UsesLine interpreter next (number + 1) first (Ok came) → grown ≡ updated ++ ended (updated_line first came)
        → UpdatedSoFar setting text behind grown (number + 1) next
    one_more came grown u e = record {
      lines = so.lines ++ first ∷ [];
      used =
          subst (λ (t : List ℕ). Updated setting (so.lines ++ first ∷ []) t next.device next.labels) (sym e)
          (line first came so.used (bare f) u.0 u.1);
      whole =
          so.whole ∙ ap (λ (ls : List (List ℕ)). so.lines ++ ls) f.lines
          ∙ sym (append_assoc so.lines (first ∷ []) (lines_of behind));
      counted = (let a = so.counted in let b = length_push so.lines first in omega (arith, a, b));
      bounded = (let a = so.bounded in let b = shorter f in omega (arith, a, b));
    }

    unfit_line : IsUnfit interpreter.device first → HasUnfitLine setting text (number + 1)
    unfit_line cause = record {
      before = so.lines;
      unfit = first;
      others = lines_of behind;
      updated = updated;
      device = interpreter.device;
      labels = interpreter.labels;
      lines = so.whole ∙ ap (λ (ls : List (List ℕ)). so.lines ++ ls) f.lines;
      number_is = ap (λ n. n + 1) so.counted;
      used = so.used;
      cause = cause;
    }

    -- An update stops at a line out of place or without memory.
    pub fault_of_line : (fault : UpdateFault) → UsesLine interpreter next (number + 1) first (Err fault)
        → HasFault setting text fault
    fault_of_line (faults.Malformed told cause) u = subst (HasUnfitLine setting text) (sym u.0) (unfit_line u.1)
    fault_of_line faults.NoMemory u = tt
