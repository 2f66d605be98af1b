-- Which result a frame is, both ways.
use Rattle.std.proofs.Common.{◌≡◌, ℕ, ◌+◌, ◌*◌, ◌≤◌, List, [], ◌++◌, All, length, drop, Bool, true, false, cond, Option, Some, None, Ok, Err, refl, sym, ap, ◌∙◌, subst, arith}
use Rattle.std.specs.Prelude.{◌&&◌, nat_eq, nat_le}
use Rattle.std.proofs.lemmas.Bool.Decides.{nat_tests}
use Rattle.std.proofs.lemmas.Bool.{eqb-true}
use Rattle.std.specs.List.{flat_map}
use Rattle.std.specs.Option.{option_map, option_and_then}
use Rattle.std.proofs.lemmas.List.{append-nil, nil_from_length}
use Rattle.std.proofs.lemmas.Option.{none-some}
use Rattle.drm_table.specs.declared.answers.Answer.{Answer}
use Rattle.drm_table.specs.declared.answers.Answer.TheVariants.{List as Listed, Resources, Audit, Denied}
use Rattle.drm_table.specs.declared.answer_kinds.AnswerKind.{AnswerKind}
use Rattle.drm_table.specs.declared.fields.Field.{Field}
use Rattle.drm_table.specs.Answers.{Told, answer_number, answer_widths, answer_kind_of, answer_with, told, AreToldBy}
use Rattle.drm_table.specs.Fields.{FitsField}
use Rattle.drm_table.proofs.AnswerRows.{kind-of-its-own, told-by}
use Rattle.drm_table.specs.declared.apart.Apart.{Apart}
use Rattle.drm_table.specs.declared.rules.Rule.{Rule}
use Rattle.drm_table.specs.Rules.{rule_number, rule_errno, apart_number, apart_errno}
use Rattle.drm_frames.specs.Number.{u32, u32_in, AreBytes}
use Rattle.drm_frames.specs.Grammar.{FrameValue, frame_value, IsFrame}
use Rattle.drm_frames.specs.Fields.{field_text, numbers_in}
use Rattle.drm_frames.specs.Answers.{CallResult, told_frame, FitsTold, IsAnswer, Tells, rule_of, apart_of, denied, refused, resources_from, resources_in, list_from, list_in, audit_in, denied_in, refused_in, result_in, answer_in}
use Rattle.drm_frames.specs.Lists.{list_text, front_list, behind_list}
use Rattle.drm_frames.specs.Pages.{rows_in}
use Rattle.drm_frames.proofs.NumberBytes.{AreBytes-drop}
use Rattle.drm_frames.proofs.FieldLaws.{two-again}
use Rattle.drm_frames.proofs.RuleLaws.{rule-of-its-own, apart-of-its-own}
use Rattle.drm_frames.proofs.Sizes.{cond-some, some-is, both-true, frame_value-is}
use Rattle.drm_frames.proofs.FieldTexts.{numbers-were}
use Rattle.drm_frames.proofs.ListLaws.{IsInFront, front-again, four-apart, length-four}
use Rattle.drm_frames.proofs.PageLaws.{page-below, page-again}
use Rattle.drm_frames.proofs.AnswerTexts.{answer-found}

-- ---- what is found is a result

-- the answer that is made of the fields
made : (f : FrameValue) (kind : AnswerKind) (fs : List Field) (o : Option Answer) (outcome : CallResult)
    → AreToldBy kind fs o → option_map Ok o ≡ Some outcome → All FitsField fs
    → f ≡ frame_value (answer_number kind) (flat_map field_text fs) → IsAnswer f outcome
made f kind fs None outcome are e fits same = absurd (none-some outcome e)
made f kind fs (Some answer) outcome are e fits same =
    subst (λ (o : CallResult). IsAnswer f o) (some-is (Ok answer) outcome e)
    (subst (λ (t : Told). FitsTold t × (f ≡ told_frame t)) (sym are) (fits, same))

by-fields : (f : FrameValue) (kind : AnswerKind) (o : Option (List Field)) (outcome : CallResult) → AreBytes f.fields
    → f.number ≡ answer_number kind → numbers_in (answer_widths kind) f.fields ≡ o
    → option_map Ok (option_and_then (answer_with kind) o) ≡ Some outcome → IsAnswer f outcome
by-fields f kind None outcome b number t e = absurd (none-some outcome e)
by-fields f kind (Some fs) outcome b number t e =
    let were = numbers-were (answer_widths kind) f.fields fs b t in
    made f kind fs (answer_with kind fs) outcome (told-by kind fs) e were.fits
    (frame_value-is f (answer_number kind) _ number (were.text ∙ append-nil (flat_map field_text fs)))

-- a chain with a result, and the result of its first step
chained : {A B : Type 0} (next : A → Option B) (o : Option A) (b : B) → option_and_then next o ≡ Some b
    → (a : A) × (o ≡ Some a) × (next a ≡ Some b)
chained next None b e = absurd (none-some b e)
chained next (Some a) b e = (a, refl, e)

list-by : (f : FrameValue) (behind : List ℕ) (outcome : CallResult) → f.number ≡ 0x1007 → IsInFront f.fields behind
    → list_from f.fields behind ≡ Some outcome → IsAnswer f outcome
unfolding told
list-by f behind outcome number front e =
    let shown : CallResult = Ok (Listed (front_list f.fields)) in
    let s = cond-some (nat_eq (length behind) 0) (Some shown) outcome e in
    let none = nil_from_length behind (eqb-true (length behind) 0 s.0) in
    let text = list_text (front_list f.fields) in
    subst (λ (o : CallResult). IsAnswer f o) (some-is shown outcome s.1) (
      front.fits,
      frame_value-is f 0x1007 _ number (front.text ∙ ap (λ (t : List ℕ). text ++ t) none ∙ append-nil text),
    )

list-tells : (f : FrameValue) (outcome : CallResult) → AreBytes f.fields → f.number ≡ 0x1007
    → list_in f.fields ≡ Some outcome → IsAnswer f outcome
list-tells f outcome bytes number e =
    let one = chained (list_from f.fields) (behind_list f.fields) outcome e in
    list-by f one.0 outcome number (front-again f.fields one.0 one.1 bytes) one.2

-- the text of four lists, each in front of the next
four-texts : (first second third fourth behind : List ℕ) → IsInFront first second → IsInFront second third
    → IsInFront third fourth → IsInFront fourth behind → behind ≡ []
    → first ≡ list_text (front_list first) ++ list_text (front_list second) ++ list_text (front_list third) ++ list_text (front_list fourth)
four-texts first second third fourth behind a b c d none =
    let w = list_text (front_list first) in
    let x = list_text (front_list second) in
    let y = list_text (front_list third) in
    let z = list_text (front_list fourth) in
    a.text
    ∙ ap (λ (t : List ℕ). w ++ t)
    (b.text ∙ ap (λ (t : List ℕ). x ++ t) (c.text ∙ ap (λ (t : List ℕ). y ++ t) (d.text ∙ ap (λ (t : List ℕ). z ++ t) none)))
    ∙ sym (four-apart w x y z)

resources-by : (f : FrameValue) (second third fourth behind : List ℕ) (outcome : CallResult) → length f.fields ≤ 1022
    → f.number ≡ 0x1006
    → IsInFront f.fields second → IsInFront second third → IsInFront third fourth → IsInFront fourth behind
    → resources_from f.fields second third fourth behind ≡ Some outcome → IsAnswer f outcome
unfolding told
resources-by f second third fourth behind outcome short number a b c d e =
    let shown : CallResult =
    Ok (Resources (front_list f.fields) (front_list second) (front_list third) (front_list fourth)) in
    let s = cond-some (nat_eq (length behind) 0) (Some shown) outcome e in
    let none = nil_from_length behind (eqb-true (length behind) 0 s.0) in
    let text = four-texts f.fields second third fourth behind a b c d none in
    let size =
    ap length text ∙ length-four (front_list f.fields) (front_list second) (front_list third) (front_list fourth) in
    subst (λ (o : CallResult). IsAnswer f o) (some-is shown outcome s.1) (
      record {
        each_crtc = a.fits;
        each_connector = b.fits;
        each_encoder = c.fits;
        each_framebuffer = d.fits;
        few = omega (arith, size, short);
      },
      frame_value-is f 0x1006 _ number text,
    )

resources-tells : (f : FrameValue) (outcome : CallResult) → length f.fields ≤ 1022 → AreBytes f.fields
    → f.number ≡ 0x1006 → resources_in f.fields ≡ Some outcome → IsAnswer f outcome
resources-tells f outcome short bytes number e =
    let one =
    chained
    (λ (second : List ℕ). option_and_then (λ third. option_and_then (λ fourth. option_and_then (resources_from f.fields second third fourth) (behind_list fourth)) (behind_list third)) (behind_list second))
    (behind_list f.fields) outcome e in
    let second = one.0 in
    let two =
    chained
    (λ (third : List ℕ). option_and_then (λ fourth. option_and_then (resources_from f.fields second third fourth) (behind_list fourth)) (behind_list third))
    (behind_list second) outcome one.2 in
    let third = two.0 in
    let three =
    chained
    (λ (fourth : List ℕ). option_and_then (resources_from f.fields second third fourth) (behind_list fourth))
    (behind_list third) outcome two.2 in
    let fourth = three.0 in
    let four = chained (resources_from f.fields second third fourth) (behind_list fourth) outcome three.2 in
    let a = front-again f.fields second one.1 bytes in
    let b = front-again second third two.1 a.behind in
    let c = front-again third fourth three.1 b.behind in
    let d = front-again fourth four.0 four.1 c.behind in
    resources-by f second third fourth four.0 outcome short number a b c d four.2

audit-by : (f : FrameValue) (outcome : CallResult) → AreBytes f.fields → f.number ≡ 0x100B → u32_in f.fields ≤ 16
    → length f.fields ≡ 4 + 32 * u32_in f.fields
    → ◌≡◌ {A = Option CallResult} (Some (Ok (Audit (rows_in (u32_in f.fields) (drop 4 f.fields))))) (Some outcome)
    → IsAnswer f outcome
unfolding told
audit-by f outcome b number few len e =
    subst (λ (o : CallResult). IsAnswer f o) (some-is (Ok (Audit (rows_in (u32_in f.fields) (drop 4 f.fields)))) outcome e) (
      page-below (u32_in f.fields) (drop 4 f.fields) few (AreBytes-drop 4 f.fields b),
      frame_value-is f 0x100B _ number (page-again f.fields len b),
    )

audit-tells : (f : FrameValue) (outcome : CallResult) → AreBytes f.fields → f.number ≡ 0x100B
    → audit_in f.fields ≡ Some outcome → IsAnswer f outcome
audit-tells f outcome b number e =
    let count = u32_in f.fields in
    let s =
    cond-some (nat_le 4 (length f.fields) && nat_le count 16 && nat_eq (length f.fields) (4 + 32 * count))
    (Some (Ok (Audit (rows_in count (drop 4 f.fields))))) outcome e in
    let tests =
    both-true (nat_le 4 (length f.fields) && nat_le count 16) (nat_eq (length f.fields) (4 + 32 * count)) s.0 in
    let most = both-true (nat_le 4 (length f.fields)) (nat_le count 16) tests.0 in
    audit-by f outcome b number (grind (arith, nat_tests, most.1)) (eqb-true (length f.fields) (4 + 32 * count) tests.1)
    s.1

two-are : (fields : List ℕ) (number errno : ℕ) → length fields ≡ 8 → AreBytes fields → number ≡ u32_in fields
    → errno ≡ u32_in (drop 4 fields) → fields ≡ u32 number ++ u32 errno
two-are fields number errno len b n e =
    two-again fields len b ∙ ap (λ (k : ℕ). u32 k ++ u32 (u32_in (drop 4 fields))) (sym n)
    ∙ ap (λ (k : ℕ). u32 number ++ u32 k) (sym e)

denied-by : (f : FrameValue) (outcome : CallResult) (found : Option Rule) → AreBytes f.fields → f.number ≡ 0x2000
    → length f.fields ≡ 8
    → rule_of (u32_in f.fields) (u32_in (drop 4 f.fields)) ≡ found → denied found ≡ Some outcome → IsAnswer f outcome
unfolding told
denied-by f outcome None b number len is e = absurd (none-some outcome e)
denied-by f outcome (Some rule) b number len is e =
    let own = rule-of-its-own (u32_in f.fields) (u32_in (drop 4 f.fields)) rule is in
    subst (λ (o : CallResult). IsAnswer f o) (some-is (Ok (Denied rule)) outcome e)
    (tt, frame_value-is f 0x2000 _ number (two-are f.fields (rule_number rule) (rule_errno rule) len b own.0 own.1))

denied-tells : (f : FrameValue) (outcome : CallResult) → AreBytes f.fields → f.number ≡ 0x2000
    → denied_in f.fields ≡ Some outcome → IsAnswer f outcome
denied-tells f outcome b number e =
    let s =
    cond-some (nat_eq (length f.fields) 8) (denied (rule_of (u32_in f.fields) (u32_in (drop 4 f.fields)))) outcome e
    in
    denied-by f outcome _ b number (eqb-true (length f.fields) 8 s.0) refl s.1

refused-by : (f : FrameValue) (outcome : CallResult) (found : Option Apart) → AreBytes f.fields → f.number ≡ 0x2001
    → length f.fields ≡ 8
    → apart_of (u32_in f.fields) (u32_in (drop 4 f.fields)) ≡ found → refused found ≡ Some outcome → IsAnswer f outcome
refused-by f outcome None b number len is e = absurd (none-some outcome e)
refused-by f outcome (Some apart) b number len is e =
    let own = apart-of-its-own (u32_in f.fields) (u32_in (drop 4 f.fields)) apart is in
    subst (λ (o : CallResult). IsAnswer f o) (some-is (Err apart) outcome e)
    (tt, frame_value-is f 0x2001 _ number (two-are f.fields (apart_number apart) (apart_errno apart) len b own.0 own.1))

refused-tells : (f : FrameValue) (outcome : CallResult) → AreBytes f.fields → f.number ≡ 0x2001
    → refused_in f.fields ≡ Some outcome → IsAnswer f outcome
refused-tells f outcome b number e =
    let s =
    cond-some (nat_eq (length f.fields) 8) (refused (apart_of (u32_in f.fields) (u32_in (drop 4 f.fields)))) outcome
    e in
    refused-by f outcome _ b number (eqb-true (length f.fields) 8 s.0) refl s.1

-- by the number, or by another
by-number : (f : FrameValue) (n : ℕ) (outcome : CallResult) (this other : Option CallResult) (b : Bool)
    → nat_eq f.number n ≡ b → (f.number ≡ n → this ≡ Some outcome → IsAnswer f outcome)
    → (other ≡ Some outcome → IsAnswer f outcome) → cond b this other ≡ Some outcome → IsAnswer f outcome
by-number f n outcome this other true t here there e = here (eqb-true f.number n t) e
by-number f n outcome this other false t here there e = there e

by-kind : (f : FrameValue) (o : Option AnswerKind) (outcome : CallResult) → length f.fields ≤ 1022 → AreBytes f.fields
    → answer_kind_of f.number ≡ o → result_in o f ≡ Some outcome → IsAnswer f outcome
by-kind f (Some kind) outcome short bytes t e =
    by-fields f kind (numbers_in (answer_widths kind) f.fields) outcome bytes (sym (kind-of-its-own f.number kind t))
    refl e
by-kind f None outcome short bytes t e =
    by-number f 0x1006 outcome _ _ _ refl (resources-tells f outcome short bytes)
    (by-number f 0x1007 outcome _ _ _ refl (list-tells f outcome bytes)
    (by-number f 0x100B outcome _ _ _ refl (audit-tells f outcome bytes)
    (by-number f 0x2000 outcome _ _ _ refl (denied-tells f outcome bytes)
    (by-number f 0x2001 outcome _ _ _ refl (refused-tells f outcome bytes) (λ e. absurd (none-some outcome e)))))) e

found-tells : (f : FrameValue) (outcome : CallResult) → length f.fields ≤ 1022 → AreBytes f.fields
    → answer_in f ≡ Some outcome → IsAnswer f outcome
unfolding answer_in
found-tells f outcome short bytes e = by-kind f (answer_kind_of f.number) outcome short bytes refl e

tells-by : (f : FrameValue) (found : Option CallResult) → answer_in f ≡ found
    → ((outcome : CallResult) → found ≡ Some outcome → IsAnswer f outcome) → Tells f found
tells-by f None e each = λ outcome h. none-some outcome (sym e ∙ answer-found f outcome h)
tells-by f (Some outcome) e each = each outcome refl

-- The result found in a frame is the frame's, and a frame in which none is found has none.
pub tells : (f : FrameValue) → IsFrame f → Tells f (answer_in f)
tells f fits = tells-by f (answer_in f) refl (λ outcome e. found-tells f outcome fits.short fits.bytes e)
