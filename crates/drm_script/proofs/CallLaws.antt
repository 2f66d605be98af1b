-- A call is read from just the words that spell it.
use Rattle.std.proofs.Common.{◌≡◌, ℕ, List, [], ◌∷◌, refl, sym, ap, subst, ◌∙◌, Some, None, Option, codes, IsSome, is_some, Bool, true, false, cond}
use Rattle.std.specs.Str.{bytes_eq}
use Rattle.std.proofs.lemmas.Slice.Eq.{bytes_eq-Decides}
use Rattle.drm_table.specs.declared.calls.Call.{Call}
use Rattle.drm_table.specs.declared.calls.Call.TheVariants as calls
use Rattle.drm_table.specs.declared.fields.Field.{Field}
use Rattle.drm_table.specs.declared.calls.CallKind.{CallKind}
use Rattle.drm_table.specs.declared.calls.CallKind.TheVariants as kinds
use Rattle.drm_table.specs.Table.{TableRow, kind_row, kind_word, kind_layout, call_kind_of_word, row_of, call_row, call_with, IsReadBack, AreFieldsOf}
use Rattle.drm_table.proofs.TableRows.{kind-short, word-found, word-of-its-own, read-back, fields-of}
use Rattle.drm_script.specs.Calls.{raw_call, raw_at, row_call_at, call_behind, call_at}
use Rattle.drm_script.specs.Fields.{Words, fields_at}
use Rattle.drm_script.specs.Grammar.{SpellEach, SpellsNumber, SpellsRow, SpellsBy, SpellsCall}
use Rattle.drm_script.specs.Grammar.Part.{number, row_number, rowless_number}
use Rattle.drm_script.proofs.FieldLaws.{some_same, bind_some, word_bind, words_behind, same_said, end_bind, number_bind, number16_at_some}
use Rattle.drm_script.proofs.CallFieldLaws.{fields_were, fields_read}

-- ---- a call by its bare number

raw_spells : (o : Option TableRow) (n : ℕ) (w : List ℕ) → row_of n ≡ o → SpellsNumber 16 n w → SpellsCall (cond (is_some o) (calls.BadLayout n) (calls.Unknown n)) (codes "raw" ∷ w ∷ [])
raw_spells None n w e s = (refl, ((s, e), tt))
raw_spells (Some row) n w e s = (refl, ((s, rw e refl), tt))

raw_reads : (ws : Words) (call : Call) → raw_at ws ≡ Some call → SpellsCall call (codes "raw" ∷ ws)
unfolding raw_at
raw_reads ws call e =
    let a = number_bind 16 ws _ call e in
    let z = end_bind a.rest _ call a.goes_on in
    same_said SpellsCall (codes "raw") ws (a.w ∷ []) call (raw_call a.n) (words_behind a.words z.0) (some_same _ _ z.1) (raw_spells (row_of a.n) a.n a.w refl a.spells)

raw_read : (ws : Words) (n : ℕ) → SpellEach (number 16 n ∷ []) ws → raw_at ws ≡ Some (raw_call n)
unfolding raw_at
raw_read (w ∷ []) n s = rw (number16_at_some w [] n s.0) refl
raw_read [] n s = absurd s
raw_read (w ∷ v ∷ ws) n s = absurd s.1

has_row : (o : Option TableRow) (n : ℕ) → IsSome o
    → cond (is_some o) (calls.BadLayout n) (calls.Unknown n) ≡ calls.BadLayout n
has_row None n s = absurd (cc)
has_row (Some row) n s = refl

row_read : (ws : Words) (n : ℕ) → SpellEach (row_number n ∷ []) ws → raw_at ws ≡ Some (calls.BadLayout n)
row_read [] n s = absurd s
row_read (w ∷ ws) n s = raw_read (w ∷ ws) n (s.0.0, s.1) ∙ ap Some (has_row (row_of n) n s.0.1)

rowless_read : (ws : Words) (n : ℕ) → SpellEach (rowless_number n ∷ []) ws → raw_at ws ≡ Some (calls.Unknown n)
rowless_read [] n s = absurd s
rowless_read (w ∷ ws) n s = raw_read (w ∷ ws) n (s.0.0, s.1) ∙ rw s.0.1 refl

-- ---- a call of a row

row_call_spells : (call : Call) (ws : Words) → SpellsBy (call_row call) ws → SpellsCall call ws
unfolding call_row
row_call_spells (calls.Unknown n) ws h = absurd h
row_call_spells (calls.BadLayout n) ws h = absurd h
row_call_spells call ws h = h

-- the call that is made of the fields
made : (kind : CallKind) (fs : List Field) (o : Option Call) (call : Call) (ws : Words) → AreFieldsOf kind fs o
    → o ≡ Some call → SpellsRow kind fs ws → SpellsCall call ws
made kind fs None call ws are e h = absurd (cc)
made kind fs (Some c) call ws are e h =
    let same : c ≡ call = some_same c call e in
    row_call_spells call ws
    (subst (λ (o : Option (CallKind × List Field)). SpellsBy o ws) (sym (ap call_row (sym same) ∙ are)) h)

row_call_reads : (w : List ℕ) (ws : Words) (call : Call) → row_call_at w ws ≡ Some call → SpellsCall call (w ∷ ws)
unfolding row_call_at
row_call_reads w ws call e =
    let a = bind_some (call_kind_of_word w) _ call e in
    let b = bind_some (fields_at (kind_layout a.step) ws) _ call a.goes_on in
    let were = fields_were (kind_layout a.step) ws b.step (kind-short a.step) b.made in
    made a.step b.step (call_with a.step b.step) call (w ∷ ws) (fields-of a.step b.step) b.goes_on
    (record { fits = were.1; words = (sym (word-of-its-own w a.step a.made), were.0) })

row_call_read : (w : List ℕ) (ws : Words) (call : Call) (kind : CallKind) (fs : List Field)
    → call_with kind fs ≡ Some call → SpellsRow kind fs (w ∷ ws) → row_call_at w ws ≡ Some call
unfolding row_call_at
row_call_read w ws call kind fs back h =
    let named : call_kind_of_word w ≡ Some kind = ap call_kind_of_word h.words.0 ∙ word-found kind in
    rw (named, fields_read (kind_layout kind) fs ws h.fits h.words.1) back

-- no row has the word of a bare number
not_raw : (kind : CallKind) → bytes_eq (kind_word kind) (codes "raw") ≡ false
unfolding kind_row
not_raw kinds.Version = refl
not_raw _ = refl

-- ---- a call by its word

behind_reads : (b : Bool) (w : List ℕ) (ws : Words) (call : Call) → bytes_eq w (codes "raw") ≡ b → cond b (raw_at ws) (row_call_at w ws) ≡ Some call → SpellsCall call (w ∷ ws)
behind_reads true w ws call t e = subst (λ (v : List ℕ). SpellsCall call (v ∷ ws)) (sym ((bytes_eq-Decides w (codes "raw")).0 t)) (raw_reads ws call e)
behind_reads false w ws call t e = row_call_reads w ws call e

-- Words that are read as a call spell it.
pub call_reads : (ws : Words) (call : Call) → call_at ws ≡ Some call → SpellsCall call ws
unfolding call_at
call_reads ws call e =
    let a = word_bind ws _ call e in
    subst (λ (v : Words). SpellsCall call v) (sym a.words) (behind_reads (bytes_eq a.w (codes "raw")) a.w a.rest call refl a.goes_on)

behind_read : (w : List ℕ) (ws : Words) (call : Call) (o : Option (CallKind × List Field)) → IsReadBack call o
    → SpellsBy o (w ∷ ws) → call_behind w ws ≡ Some call
behind_read w ws call None back s = absurd s
behind_read w ws call (Some row) back s =
    let other : bytes_eq w (codes "raw") ≡ false = ap (λ (v : List ℕ). bytes_eq v (codes "raw")) s.words.0 ∙ not_raw row.0 in
    rw other (row_call_read w ws call row.0 row.1 back s)

call_word_read : (w : List ℕ) (ws : Words) (call : Call) → SpellsCall call (w ∷ ws) → call_at (w ∷ ws) ≡ Some call
unfolding call_at
call_word_read w ws (calls.Unknown n) s = rw s.0 (rowless_read ws n s.1)
call_word_read w ws (calls.BadLayout n) s = rw s.0 (row_read ws n s.1)
call_word_read w ws call s = behind_read w ws call (call_row call) (read-back call) s

no_row : (o : Option (CallKind × List Field)) → SpellsBy o [] → ⊥
no_row None s = s
no_row (Some row) s = s.words

no_call : (call : Call) → SpellsCall call [] → ⊥
no_call (calls.Unknown n) s = s
no_call (calls.BadLayout n) s = s
no_call call s = no_row (call_row call) s

-- Words that spell a call are read as this call.
pub call_read : (ws : Words) (call : Call) → SpellsCall call ws → call_at ws ≡ Some call
call_read [] call s = absurd (no_call call s)
call_read (w ∷ ws) call s = call_word_read w ws call s
