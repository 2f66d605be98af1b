use Rattle.std.proofs.Common.{◌≡◌, ℕ, ◌+◌, ◌-◌, List, length, drop, arith, refl, sym, ap, ◌∙◌, inr}
use Rattle.drm_script.specs.Malformations.{first_told}
use Rattle.drm_script.specs.Words.{words_of, trimmed, IsEndOf}
use Rattle.drm_script.proofs.EndLemmas.{end_of-end, end_short, trimmed_end, dropped}
use Rattle.drm_script.proofs.WordLemmas.{words-trimmed}
use Rattle.drm_script.proofs.malformations.Malformed.at_fault.Goals as goal

-- the column is that of the end of the line
at_column : {line at : List ℕ} → IsEndOf line at → drop (length line - length at + 1 - 1) line ≡ at
at_column {line} {at} end =
    let place : length line - length at + 1 - 1 ≡ length line - length at = omega arith in
    rw place (dropped end)

-- the end of a line after its first words, without the spaces in front
trimmed_at : {line skipped at : List ℕ} → IsEndOf line skipped → at ≡ trimmed skipped → IsEndOf line at
trimmed_at {line} {skipped} {at} end e = rw e (end_of-end end (trimmed_end skipped))

pub overflow_sub-place : goal.overflow_sub-place
overflow_sub-place c = end_short (trimmed_at c.skip_words.ensures.behind c.trim_spaces-at.ensures)

pub returns-clause-word : goal.returns-clause-word
returns-clause-word c =
    inr
    (c.first_told.ensures ∙ ap (λ x. first_told (words_of x)) (sym (at_column (trimmed_at c.skip_words.ensures.behind c.trim_spaces-at.ensures))))

pub returns-clause-told : goal.returns-clause-told
returns-clause-told c =
    c.first_told.ensures
    ∙ ap (λ x. first_told (words_of x))
    (sym (at_column (trimmed_at c.skip_words.ensures.behind c.trim_spaces-at.ensures)))

pub returns-clause-place : goal.returns-clause-place
returns-clause-place c =
    let end : IsEndOf c.args.line.now c.trim_spaces-at.result.now =
    trimmed_at c.skip_words.ensures.behind c.trim_spaces-at.ensures in
    ap words_of (at_column end) ∙ ap words_of c.trim_spaces-at.ensures ∙ words-trimmed c.skip_words.result.now
    ∙ c.skip_words.ensures.words
    ∙ ap (λ n. drop n (words_of c.args.line.now))
    (c.saturating_sub-fitting.ensures ∙ rw c.word_count.ensures.count (rw c.word_count-2.ensures.count refl))
