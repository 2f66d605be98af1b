-- No line end is within the words of an answer.
use Rattle.std.proofs.Common.{refl, ◌≡◌, ◌≢◌, ℕ, ◌/◌, ◌%◌, List, [], ◌∷◌, arith, Bool, true, false, cond, zero, suc, not, eqb, ◌∙◌, Result, Ok, Err, decimal, All}
use Rattle.std.specs.Cmp.Derive.{both_true}
use Rattle.std.specs.Fmt.{digits, digits_onto, digit_glyph}
use Rattle.std.specs.List.{list_all, flat_map}
use Rattle.std.proofs.lemmas.Bool.Decides.{nat_tests}
use Rattle.std.proofs.lemmas.List.Folds.{list_all-append}
use Rattle.std.proofs.lemmas.List.Sums.{AllPass-from_list_all}
use Rattle.drm_table.specs.declared.answers.Answer.{Answer}
use Rattle.drm_table.specs.declared.answer_kinds.AnswerKind.{AnswerKind}
use Rattle.drm_table.specs.declared.answer_kinds.AnswerKind.TheVariants as kinds
use Rattle.drm_table.specs.declared.fields.Field.{Field}
use Rattle.drm_table.specs.Answers.{answer_kind_row, Told, answer_word, told}
use Rattle.drm_table.specs.Answers.Told.{row, resources, list, page, denial}
use Rattle.drm_table.specs.Fields.{number_in}
use Rattle.drm_table.specs.declared.apart.Apart.{Apart}
use Rattle.drm_table.specs.declared.apart.Apart.TheVariants as aparts
use Rattle.drm_table.specs.declared.rules.Rule.{Rule}
use Rattle.drm_table.specs.declared.rules.Rule.TheVariants as rules
use Rattle.drm_table.specs.Rules.{rule_name, apart_name}
use Rattle.drm_table.specs.declared.audits.AuditRow.{AuditRow}
use Rattle.drm_script.specs.Lines.{number_behind, row_behind, page_words, id_behind, joined_ids, resources_words, told_words, answer_words}

-- no byte of the text is a line end
abbrev is_bare : List ℕ → Bool
is_bare bs = list_all (λ b. not (eqb b 10)) bs

bare-from_test : (bs : List ℕ) → is_bare bs ≡ true → All (λ b. b ≢ 10) bs
bare-from_test bs e = let all = AllPass-from_list_all (λ b. not (eqb b 10)) bs e in λ k d h. let t = all k d h in grind (arith, nat_tests)

glyph_above : (d : ℕ) → not (eqb (digit_glyph false d) 10) ≡ true
glyph_above d = grind (arith, nat_tests)

onto_case : (b : Bool) (this other : List ℕ) → is_bare this ≡ true → is_bare other ≡ true
    → is_bare (cond b this other) ≡ true
onto_case true this other p q = p
onto_case false this other p q = q

onto_bare : (k n : ℕ) (acc : List ℕ) → is_bare acc ≡ true → is_bare (digits_onto k 10 false n acc) ≡ true
onto_bare zero n acc h = h
onto_bare (suc k) n acc h =
    let more : is_bare (digit_glyph false (n % 10) ∷ acc) ≡ true = both_true (glyph_above (n % 10)) h in
    onto_case (eqb (n / 10) 0) _ _ more (onto_bare k (n / 10) (digit_glyph false (n % 10) ∷ acc) more)

decimal_bare : (n : ℕ) → is_bare (decimal n) ≡ true
unfolding digits
decimal_bare n = onto_bare 64 n [] refl

rule_name_bare : (rule : Rule) → is_bare (rule_name rule) ≡ true
rule_name_bare rules.Unknown = refl
rule_name_bare _ = refl

apart_name_bare : (apart : Apart) → is_bare (apart_name apart) ≡ true
apart_name_bare aparts.JournalFull = refl
apart_name_bare aparts.NoMemory = refl
apart_name_bare aparts.Worn = refl

row_bare : (r : AuditRow) → is_bare (row_behind r) ≡ true
row_bare r = simp (list_all-append, decimal_bare)

rows_bare : (rows : List AuditRow) → is_bare (flat_map row_behind rows) ≡ true
rows_bare [] = refl
rows_bare (r ∷ rows) =
    list_all-append (λ b. not (eqb b 10)) (row_behind r) (flat_map row_behind rows)
    ∙ both_true (row_bare r) (rows_bare rows)

page_bare : (rows : List AuditRow) → is_bare (page_words rows) ≡ true
page_bare rows = simp (list_all-append, decimal_bare, rows_bare)

ids_bare : (ids : List ℕ) → is_bare (flat_map id_behind ids) ≡ true
ids_bare [] = refl
ids_bare (id ∷ ids) =
    list_all-append (λ b. not (eqb b 10)) (id_behind id) (flat_map id_behind ids)
    ∙ both_true (decimal_bare id) (ids_bare ids)

joined_bare : (ids : List ℕ) → is_bare (joined_ids ids) ≡ true
joined_bare [] = refl
joined_bare (id ∷ ids) = simp (list_all-append, decimal_bare, ids_bare)

resources_bare : (crtcs connectors encoders framebuffers : List ℕ)
    → is_bare (resources_words crtcs connectors encoders framebuffers) ≡ true
resources_bare crtcs connectors encoders framebuffers = simp (list_all-append, joined_bare)

word_bare : (kind : AnswerKind) → is_bare (answer_word kind) ≡ true
unfolding answer_kind_row
word_bare kinds.Done = refl
word_bare _ = refl

fields_bare : (fs : List Field) → is_bare (flat_map number_behind fs) ≡ true
fields_bare [] = refl
fields_bare (f ∷ fs) =
    list_all-append (λ b. not (eqb b 10)) (number_behind f) (flat_map number_behind fs)
    ∙ both_true (decimal_bare (number_in f)) (fields_bare fs)

told_bare : (t : Told) → is_bare (told_words t) ≡ true
told_bare (row kind fs) =
    list_all-append (λ b. not (eqb b 10)) (answer_word kind) (flat_map number_behind fs)
    ∙ both_true (word_bare kind) (fields_bare fs)
told_bare (resources crtcs connectors encoders framebuffers) = resources_bare crtcs connectors encoders framebuffers
told_bare (list ids) = joined_bare ids
told_bare (page rows) = page_bare rows
told_bare (denial rule) = simp (list_all-append, decimal_bare, rule_name_bare)

outcome_bare : (outcome : Result Answer Apart) → is_bare (answer_words outcome) ≡ true
outcome_bare (Ok answer) = told_bare (told answer)
outcome_bare (Err apart) = simp (list_all-append, decimal_bare, apart_name_bare)

-- The words of an answer contain no line end.
pub answer_bare : (outcome : Result Answer Apart) → All (λ b. b ≢ 10) (answer_words outcome)
answer_bare outcome = bare-from_test (answer_words outcome) (outcome_bare outcome)
