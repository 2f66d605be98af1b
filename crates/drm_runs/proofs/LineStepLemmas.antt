-- The next line of a script, from what the reader of lines made of it.
use Rattle.std.proofs.Common.{◌≡◌, ℕ, ◌+◌, ◌≤◌, ◌<◌, List, [], ◌∷◌, ◌++◌, length, refl, sym, ap, subst, ◌∙◌, arith, Bool, true, false, Some, None, Option, append_assoc, append-nil, length-append, inl, inr}
use Rattle.std.proofs.lemmas.List.{length_push}
use Rattle.drm_frames.specs.Streams.{SourceTrace}
use Rattle.drm_frames.proofs.Traces.{Gave-none, Gave-then}
use Rattle.drm_runs.specs.Lines.{joined}
use Rattle.drm_runs.specs.Reader.{Buffered, Reads}
use Rattle.drm_runs.specs.Runs.{Covers}
use Rattle.drm_runs.specs.LineSteps.{LinesState, LinesRead, IsGiven, AreLines, HoldsLast, IsEndOfLines, ReadsNext, lines_state, no_lines}
use Rattle.drm_runs.specs.declared.stops.ScriptEnd.{ScriptEnd}
use Rattle.drm_runs.specs.declared.stops.ScriptEnd.TheVariants as ends
use Rattle.drm_runs.specs.declared.reader.NextLine.{NextLine}
use Rattle.drm_runs.specs.declared.reader.NextLine.TheVariants as next_line

-- The text of one more line is the old text, the line and its end.
pub joined-push : (lines : List (List ℕ)) (l rest : List ℕ)
    → joined (lines ++ l ∷ []) ++ rest ≡ joined lines ++ (l ++ 10 ∷ rest)
joined-push [] l rest = append_assoc l (10 ∷ []) rest
joined-push (x ∷ xs) l rest =
    append_assoc x (10 ∷ joined (xs ++ l ∷ [])) rest ∙ ap (λ z. x ++ 10 ∷ z) (joined-push xs l rest)
    ∙ sym (append_assoc x (10 ∷ joined xs) (l ++ 10 ∷ rest))

-- Before the first read no line is read.
pub no_lines_read : (source : SourceTrace) → LinesRead source source no_lines [] []
no_lines_read source =
    record { given = record { gave = Gave-none source; chunks = omega arith }; are_lines = refl; number = refl }

-- Lines at the front of what was read cover it up to the rest.
pub covers_lines : (is_last : Bool) {ended : Type 0} {read rest : List ℕ} {lines : List (List ℕ)}
    → AreLines is_last ended read lines rest → Covers ended read lines rest
covers_lines false a = inl a
covers_lines true a = inr a

module _ {source source' : SourceTrace} {had has : ℕ} {given : List ℕ} (old reader : Buffered) (n : ℕ) where
  -- what was read before, and then what was given for this line
  module _ {answer : NextLine} (r : Reads old reader source source' had has answer given) where
    at_most : has ≤ had
    at_most = let a = r.spent.cost in let b = r.spent.gave.counts.calls in omega (arith, a, b)

    module _ {start : SourceTrace} {read : List ℕ} {lines : List (List ℕ)} (so : LinesRead start source (lines_state old n false) read lines) where
      given_then : IsGiven start source' (read ++ given)
      given_then =
          record
          { gave = Gave-then so.given.gave r.spent.gave; chunks = (let a = so.given.chunks in let b = length-append read given in let c = r.chunks in omega (arith, a, b, c)) }

      whole_then : (rest : List ℕ) → old.pending ++ given ≡ rest → read ++ given ≡ joined lines ++ rest
      whole_then rest e =
          ap (λ z. z ++ given) so.are_lines ∙ append_assoc (joined lines) old.pending given
          ∙ ap (λ z. joined lines ++ z) e

      one_more : (line : List ℕ) → n + 1 ≡ length (lines ++ line ∷ [])
      one_more line = let a = so.number in let b = length_push lines line in omega (arith, a, b)

    ends_with : (end : ScriptEnd)
        → ((start : SourceTrace) (read : List ℕ) (lines : List (List ℕ)) → LinesRead start source (lines_state old n false) read lines → IsEndOfLines end start source' has (read ++ given) lines)
        → ReadsNext (lines_state old n false) (lines_state reader n false) source source' had has (Some end)
    ends_with end h = record {
      cost = r.spent.cost;
      at_most = at_most;
      onward = λ none. absurd (cc);
      reaches =
          λ (start : SourceTrace) (read : List ℕ) (lines : List (List ℕ))
          (so : LinesRead start source (lines_state old n false) read lines).
          (read ++ given, record { given = given_then so; why = h start read lines so });
    }

  -- If the reader has read a line, this line is the next one.
  pub reads_line : (is_last : Bool) → is_last ≡ false → Reads old reader source source' had has next_line.Line given
      → ReadsNext (lines_state old n is_last) (lines_state reader (n + 1) is_last) source source' had has None
  reads_line true h r = absurd (cc)
  reads_line false h r = record {
    cost = r.spent.cost;
    at_most = at_most r;
    onward = λ none. (refl, (let fuel = r.fuel refl in omega (arith, fuel)));
    reaches =
        λ (start : SourceTrace) (read : List ℕ) (lines : List (List ℕ))
        (so : LinesRead start source (lines_state old n false) read lines).
        let whole = whole_then r so (reader.held ++ 10 ∷ reader.pending) r.splits.0 in (
          read ++ given,
          record {
            so_far =
                record
                { given = given_then r so; are_lines = whole ∙ sym (joined-push lines reader.held reader.pending); number = one_more r so reader.held };
            behind = 10 ∷ reader.pending;
            whole = whole;
            until = inr (reader.pending, refl);
            bare = r.splits.1;
            short = r.splits.2;
            short_behind = (let few = r.splits.3 in omega (arith, few));
            short_pending = (let few = r.splits.3 in omega (arith, few));
          },
        );
  }

  -- the input has ended behind a line
  last_line : Reads old reader source source' had has next_line.End given
      → ReadsNext (lines_state old n false) (lines_state reader (n + 1) true) source source' had has None
  last_line r =
      let none : length reader.pending ≡ 0 = ap (λ (l : List ℕ). length l) r.splits.1 in record {
        cost = r.spent.cost;
        at_most = at_most r;
        onward = λ same. (refl, (let fewer = at_most r in omega (arith, none, fewer)));
        reaches =
            λ (start : SourceTrace) (read : List ℕ) (lines : List (List ℕ))
            (so : LinesRead start source (lines_state old n false) read lines).
            let whole = whole_then r so reader.held r.splits.0 in
            let ended : start.counts.ends < source'.counts.ends = let a = so.given.gave.counts.ends in let b = r.splits.4 in omega (arith, a, b) in (
              read ++ given,
              record {
                so_far =
                    record
                    { given = given_then r so; are_lines = (lines, reader.held, refl, whole, r.splits.1, ended); number = one_more r so reader.held };
                behind = [];
                whole = whole ∙ ap (λ z. joined lines ++ z) (sym (append-nil reader.held));
                until = inl (refl, ended);
                bare = r.splits.2;
                short = r.splits.3;
                short_behind = omega arith;
                short_pending = omega (arith, none);
              },
            );
      }

  -- If the input has ended, the next line is what is held, if it is not empty; otherwise no line is left.
  pub reads_last : (is_last : Bool) → is_last ≡ false → Reads old reader source source' had has next_line.End given
      → (new : LinesState) (end : Option ScriptEnd) → HoldsLast (lines_state reader n is_last) new end
      → ReadsNext (lines_state old n is_last) new source source' had has end
  reads_last true h r new end last = absurd (cc)
  reads_last false h r new None last =
      subst (λ (s : LinesState). ReadsNext (lines_state old n false) s source source' had has None) (sym last)
      (last_line r)
  reads_last false h r new (Some end) last =
      subst (λ (s : LinesState). ReadsNext (lines_state old n false) s source source' had has (Some end)) (sym last.2)
      (subst (λ (e : ScriptEnd). ReadsNext (lines_state old n false) (lines_state reader n false) source source' had has (Some e)) (sym last.0)
      (ends_with r ends.Done (λ start read lines so.
      let ended : start.counts.ends < source'.counts.ends = let a = so.given.gave.counts.ends in let b = r.splits.4 in omega (arith, a, b) in
      (inl (whole_then r so [] (r.splits.0 ∙ last.1)), ended))))

  -- If the reader finds the line too long, the script ends there as malformed.
  pub reads_too_long : (is_last : Bool) → is_last ≡ false → (end : ScriptEnd) → end ≡ ends.Malformed (n + 1)
      → Reads old reader source source' had has next_line.TooLong given
      → ReadsNext (lines_state old n is_last) (lines_state reader n is_last) source source' had has (Some end)
  reads_too_long true h end same r = absurd (cc)
  reads_too_long false h end same r =
      subst
      (λ (e : ScriptEnd). ReadsNext (lines_state old n false) (lines_state reader n false) source source' had has (Some e))
      (sym same)
      (ends_with r (ends.Malformed (n + 1)) (λ start read lines so. (ap (λ m. m + 1) so.number, old.pending ++ given, whole_then r so _ refl, r.splits.0, r.splits.1, r.splits.2)))

  -- If the source fails, the script ends with a read fault.
  pub reads_fault : (is_last : Bool) → is_last ≡ false → (end : ScriptEnd) → end ≡ ends.ReadFault
      → Reads old reader source source' had has next_line.ReadFault given
      → ReadsNext (lines_state old n is_last) (lines_state reader n is_last) source source' had has (Some end)
  reads_fault true h end same r = absurd (cc)
  reads_fault false h end same r =
      subst
      (λ (e : ScriptEnd). ReadsNext (lines_state old n false) (lines_state reader n false) source source' had has (Some e))
      (sym same)
      (ends_with r ends.ReadFault (λ start read lines so.
      (reader.held, whole_then r so _ r.splits.0, (r.splits.2, r.splits.3), (let a = so.given.gave.counts.faults in let b = r.splits.4 in omega (arith, a, b)))))

  -- If no turn is left, the script ends with its turns used.
  pub reads_no_turn : (is_last : Bool) → is_last ≡ false → (end : ScriptEnd) → end ≡ ends.TurnsUsed
      → Reads old reader source source' had has next_line.TurnsUsed given
      → ReadsNext (lines_state old n is_last) (lines_state reader n is_last) source source' had has (Some end)
  reads_no_turn true h end same r = absurd (cc)
  reads_no_turn false h end same r =
      subst
      (λ (e : ScriptEnd). ReadsNext (lines_state old n false) (lines_state reader n false) source source' had has (Some e))
      (sym same)
      (ends_with r ends.TurnsUsed (λ start read lines so. (reader.held, whole_then r so _ r.splits.0, (r.splits.2, r.splits.3), r.splits.4)))
