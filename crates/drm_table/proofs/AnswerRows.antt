-- The table of answers: a kind is found by its number, and an answer is that of its kind and its content.
use Rattle.std.proofs.Common.{◌≡◌, ℕ, ◌^◌, ◌<◌, ◌≤◌, List, [], ◌∷◌, length, Some, refl, lit<, lit≤}
use Rattle.std.specs.Prelude.{◌==◌}
use Rattle.std.proofs.lemmas.Bool.{eqb-true}
use Rattle.drm_table.specs.declared.answer_kinds.AnswerKind.{AnswerKind}
use Rattle.drm_table.specs.declared.answer_kinds.AnswerKind.TheVariants as kinds
use Rattle.drm_table.specs.declared.answers.Answer.{Answer}
use Rattle.drm_table.specs.declared.answers.Answer.TheVariants as answers
use Rattle.drm_table.specs.declared.fields.Field.{Field}
use Rattle.drm_table.specs.declared.fields.Field.TheVariants.{U32, U64}
use Rattle.drm_table.specs.Answers.{answer_kind_row, answer_number, answer_widths, answer_kind_of, all_kinds, told, answer_with, TellsBack, AreToldBy, HasToldWidths}
use Rattle.drm_table.proofs.FoundPasses.{found-passes}

-- The number of each kind of answer fits 16 bits.
pub number-small : (kind : AnswerKind) → answer_number kind < 2 ^ 16
unfolding answer_kind_row
number-small kinds.Done = lit< tt
number-small _ = lit< tt

-- A kind of answer has at most five fields.
pub few-widths : (kind : AnswerKind) → length (answer_widths kind) ≤ 5
unfolding answer_kind_row
few-widths kinds.Done = lit≤ tt
few-widths _ = lit≤ tt

-- Each kind of answer is found by its number.
pub kind-found : (kind : AnswerKind) → answer_kind_of (answer_number kind) ≡ Some kind
unfolding answer_kind_of answer_kind_row
kind-found kinds.Done = refl
kind-found _ = refl

-- A number finds only the kind of answer that has it.
pub kind-of-its-own : (number : ℕ) (kind : AnswerKind) → answer_kind_of number ≡ Some kind → answer_number kind ≡ number
unfolding answer_kind_of
kind-of-its-own number kind e =
    eqb-true (answer_number kind) number (found-passes (λ (k : AnswerKind). answer_number k == number) all_kinds kind e)

-- An answer that is no refusal is made again from its parts.
pub tells-back : (answer : Answer) → TellsBack answer (told answer)
unfolding told answer_with
tells-back answers.Done = refl
tells-back _ = refl

-- An answer made from a kind and fields has this kind and these fields.
pub told-by : (kind : AnswerKind) (fs : List Field) → AreToldBy kind fs (answer_with kind fs)
unfolding told answer_with
told-by kinds.Done [] = refl
told-by kinds.Opened (U32 client ∷ []) = refl
told-by kinds.Version (U32 major ∷ U32 minor ∷ U32 patch ∷ []) = refl
told-by kinds.Number (U64 value ∷ []) = refl
told-by kinds.Dumb (U32 handle ∷ U32 pitch ∷ U64 size ∷ []) = refl
told-by kinds.Buffer (U32 handle ∷ U64 size ∷ []) = refl
told-by kinds.Plane (U32 framebuffer ∷ U32 mask ∷ []) = refl
told-by kinds.Framebuffer (U32 width ∷ U32 height ∷ U32 pitch ∷ U32 bpp ∷ U32 handle ∷ []) = refl
told-by kinds.Lease (U32 id ∷ U32 token ∷ []) = refl
told-by kinds.Closed [] = refl
told-by _ _ = tt

-- The fields of an answer of a row have the widths of its kind.
pub has-widths : (answer : Answer) → HasToldWidths (told answer)
unfolding told answer_kind_row
has-widths (answers.Resources crtcs connectors encoders framebuffers) = tt
has-widths (answers.List ids) = tt
has-widths (answers.Audit rows) = tt
has-widths (answers.Denied rule) = tt
has-widths _ = refl
