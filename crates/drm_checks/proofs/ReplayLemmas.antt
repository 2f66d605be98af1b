-- The lines of a replay, one after the other.
use Rattle.std.proofs.Common.{◌≡◌, ℕ, zero, suc, ◌+◌, ◌<◌, ◌≤◌, ◌==◌, List, [], ◌∷◌, ◌++◌, ◌⊎◌, inl, inr, length, refl, sym, ap, subst, ◌∙◌, arith, Some, None, Option, Result, Ok, Err, Bool, true, false, append_assoc}
use Rattle.std.proofs.lemmas.List.{length_push}
use Rattle.std.proofs.lemmas.Bool.Decides.{nat_tests}
use Rattle.drm_table.specs.declared.answers.Answer.{Answer}
use Rattle.drm_table.specs.declared.apart.Apart.{Apart}
use Rattle.drm_script.specs.Lines.{lines_of}
use Rattle.drm_runs.specs.Lines.{ended}
use Rattle.drm_runs.specs.Script.{Setting}
use Rattle.drm_runs.specs.Interpreter.{InterpreterState, at_start}
use Rattle.drm_checks.specs.Expectations.{script_part}
use Rattle.drm_checks.specs.Updates.{IsUnfit, UsesLine, with_answer}
use Rattle.drm_checks.specs.declared.update.UpdateFault.{UpdateFault}
use Rattle.drm_checks.specs.declared.update.UpdateFault.TheVariants as updates
use Rattle.drm_checks.proofs.UpdateLemmas.{FirstLine, shorter}
use Rattle.drm_checks.specs.Shrinking.{Selected, LineAt, HasUnfit, HasFault, fault_of, keeps}
use Rattle.drm_checks.specs.Shrinking.Selected.{start, used, left_out}
use Rattle.drm_checks.specs.declared.replays.Kept.{Kept}
use Rattle.drm_checks.specs.declared.replays.Kept.TheVariants as variants

-- the lines so far, and what is left of the text
pub record ReplaySoFar (setting : Setting) (text rest written : List ℕ) (number before count : ℕ) (kept : Kept) (interpreter : InterpreterState) : Type 0 where
  pub lines : List (List ℕ)
  pub selected : Selected setting (keeps kept) lines count written interpreter.device interpreter.labels
  pub whole : lines_of text ≡ lines ++ lines_of rest
  pub counted : before ≡ length lines
  pub bounded : before + length rest ≤ length text
  pub few : count ≤ before
  pub not_yet : (number ≡ 0) ⊎ (before < number)
  pub all : kept ≡ variants.All → count ≡ before

-- A replay that begins has used no line.
pub none_so_far : (setting : Setting) (text written : List ℕ) (number : ℕ) (kept : Kept) (interpreter : InterpreterState)
    → interpreter ≡ at_start setting → written ≡ [] → ReplaySoFar setting text text written number 0 0 kept interpreter
none_so_far setting text written number kept interpreter at none = record {
  lines = [];
  selected =
      subst (λ (i : InterpreterState). Selected setting (keeps kept) [] 0 written i.device i.labels) (sym at)
      (subst (λ (u : List ℕ). Selected setting (keeps kept) [] 0 u (at_start setting).device (at_start setting).labels) (sym none) start);
  whole = refl;
  counted = refl;
  bounded = omega arith;
  few = omega arith;
  not_yet = begun number;
  all = λ _. refl;
}
  where
    begun : (n : ℕ) → (n ≡ 0) ⊎ (0 < n)
    begun zero = inl refl
    begun (suc n) = inr (omega arith)

module _ {setting : Setting} {text rest written : List ℕ} {number before count : ℕ} {kept : Kept} {interpreter : InterpreterState} (so : ReplaySoFar setting text rest written number before count kept interpreter) where
  module _ (first behind : List ℕ) (f : FirstLine rest first behind) where
    -- the first line of the rest has the next number
    here : LineAt text (before + 1) so.lines first
    here =
        record
        { others = lines_of behind; lines = so.whole ∙ ap (λ (ls : List (List ℕ)). so.lines ++ ls) f.lines; number_is = ap (λ n. n + 1) so.counted }

    whole_next : lines_of text ≡ (so.lines ++ first ∷ []) ++ lines_of behind
    whole_next =
        so.whole ∙ ap (λ (ls : List (List ℕ)). so.lines ++ ls) f.lines
        ∙ sym (append_assoc so.lines (first ∷ []) (lines_of behind))

    counted_next : before + 1 ≡ length (so.lines ++ first ∷ [])
    counted_next = let a = so.counted in let b = length_push so.lines first in omega (arith, a, b)

    bounded_next : before + 1 + length behind ≤ length text
    bounded_next = let a = so.bounded in let b = shorter f in omega (arith, a, b)

    not_yet_next : (before + 1 == number) ≡ false → (number ≡ 0) ⊎ (before + 1 < number)
    not_yet_next e = later so.not_yet
      where
        later : (number ≡ 0) ⊎ (before < number) → (number ≡ 0) ⊎ (before + 1 < number)
        later (inl zero_is) = inl zero_is
        later (inr past) = inr (grind (arith, nat_tests))

    -- After one more line was used, it is selected.
    pub one_used : (next : InterpreterState) (came : Option (Result Answer Apart)) (grown : List ℕ)
        → (before + 1 == number) ≡ false → keeps kept before ≡ true → UsesLine interpreter next (before + 1) first (Ok came)
        → grown ≡ written ++ ended (with_answer (script_part first) came)
        → ReplaySoFar setting text behind grown number (before + 1) (count + 1) kept next
    one_used next came grown e k u g = record {
      lines = so.lines ++ first ∷ [];
      selected =
          subst (λ (t : List ℕ). Selected setting (keeps kept) (so.lines ++ first ∷ []) (count + 1) t next.device next.labels)
          (sym g) (used first came so.selected (subst (λ (n : ℕ). keeps kept n ≡ true) so.counted k) u.0 u.1);
      whole = whole_next;
      counted = counted_next;
      bounded = bounded_next;
      few = (let a = so.few in omega (arith, a));
      not_yet = not_yet_next e;
      all = λ none. ap (λ n. n + 1) (so.all none);
    }

    -- A line that is left out changes nothing but the number of lines.
    pub one_left_out : keeps kept before ≡ false → (before + 1 == number) ≡ false
        → ReplaySoFar setting text behind written number (before + 1) count kept interpreter
    one_left_out left e = record {
      lines = so.lines ++ first ∷ [];
      selected = left_out first so.selected (subst (λ (n : ℕ). keeps kept n ≡ false) so.counted left);
      whole = whole_next;
      counted = counted_next;
      bounded = bounded_next;
      few = (let a = so.few in omega (arith, a));
      not_yet = not_yet_next e;
      all = λ all. let no : true ≡ false = subst (λ (x : Kept). keeps x before ≡ false) all left in absurd (cc);
    }

    -- A replay stops at a line that can't be used, or without memory.
    pub fault_of_use : (next : InterpreterState) (fault : UpdateFault)
        → UsesLine interpreter next (before + 1) first (Err fault) → HasFault setting (keeps kept) text number (fault_of fault)
    fault_of_use next (updates.Malformed told cause) u = subst (HasUnfit setting (keeps kept) text) (sym u.0) (record {
      before = so.lines;
      unfit = first;
      at = here;
      count = count;
      written = written;
      device = interpreter.device;
      labels = interpreter.labels;
      selected = so.selected;
      cause = u.1;
    })
    fault_of_use next updates.NoMemory u = tt

-- The same after values that are equal.
pub joined_so_far : {setting : Setting} {text rest written written' : List ℕ} {number before count count' : ℕ} {kept : Kept} {interpreter interpreter' : InterpreterState}
    → interpreter ≡ interpreter' → written ≡ written' → count ≡ count'
    → ReplaySoFar setting text rest written' number before count' kept interpreter'
    → ReplaySoFar setting text rest written number before count kept interpreter
joined_so_far {setting} {text} {rest} {written} {written'} {number} {before} {count} {count'} {kept} {interpreter} {interpreter'} i w c so =
    subst (λ (s : InterpreterState). ReplaySoFar setting text rest written number before count kept s) (sym i)
    (subst (λ (t : List ℕ). ReplaySoFar setting text rest t number before count kept interpreter') (sym w)
    (subst (λ (n : ℕ). ReplaySoFar setting text rest written' number before n kept interpreter') (sym c) so))
