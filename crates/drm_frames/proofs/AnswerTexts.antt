-- A result's frame is a frame, and the result is found in it.
use Rattle.std.proofs.Common.{◌≡◌, ℕ, ◌^◌, ◌<◌, ◌+◌, ◌*◌, ◌≤◌, List, [], ◌++◌, All, length, drop, true, Some, Ok, Err, refl, sym, ap, ◌∙◌, arith}
use Rattle.std.specs.Prelude.{nat_le, map}
use Rattle.std.specs.List.{flat_map}
use Rattle.std.proofs.lemmas.Bool.Decides.{nat_tests}
use Rattle.std.proofs.lemmas.Bool.{eq-eqb}
use Rattle.std.proofs.lemmas.List.{append-nil, drop_at, length-map}
use Rattle.drm_table.specs.declared.answers.Answer.{Answer}
use Rattle.drm_table.specs.declared.answers.Answer.TheVariants.{List as Listed, Resources, Audit, Denied}
use Rattle.drm_table.specs.declared.answer_kinds.AnswerKind.{AnswerKind}
use Rattle.drm_table.specs.declared.fields.Width.{Width}
use Rattle.drm_table.specs.declared.fields.Field.{Field}
use Rattle.drm_table.specs.Answers.{answer_kind_row, Told, answer_number, answer_widths, answer_kind_of, answer_with, told, TellsBack, HasToldWidths}
use Rattle.drm_table.specs.Answers.Told.{row, resources, list, page, denial}
use Rattle.drm_table.specs.Fields.{FitsField, width_of}
use Rattle.drm_table.proofs.AnswerRows.{number-small, few-widths, kind-found, tells-back, has-widths}
use Rattle.drm_table.specs.declared.apart.Apart.{Apart}
use Rattle.drm_table.specs.declared.audits.AuditRow.{AuditRow}
use Rattle.drm_table.specs.declared.rules.Rule.{Rule}
use Rattle.drm_table.specs.Rules.{rule_number, rule_errno, apart_number, apart_errno}
use Rattle.drm_frames.specs.Number.{u32, u32_in}
use Rattle.drm_frames.specs.Grammar.{FrameValue, frame_value, IsFrame}
use Rattle.drm_frames.specs.Fields.{field_text, numbers_in}
use Rattle.drm_frames.specs.Answers.{CallResult, told_frame, FitsTold, answer_frame, FitsFields, IsAnswer, rule_of, apart_of, denied, refused, resources_in, list_in, audit_in, denied_in, refused_in, answer_in}
use Rattle.drm_frames.specs.Lists.{list_text, FitsList, FitsResources, front_list, behind_list}
use Rattle.drm_frames.specs.Pages.{row_text, page_text, FitsPage, rows_in}
use Rattle.drm_frames.proofs.NumberBytes.{u32_in-u32, length-u32}
use Rattle.drm_frames.proofs.FieldLaws.{two-bytes, length-two, last-of-two}
use Rattle.drm_table.proofs.RefusalRows.{rule-small, apart-small}
use Rattle.drm_frames.proofs.RuleLaws.{rule-found, apart-found}
use Rattle.drm_frames.proofs.FieldTexts.{length-fields, fields-bytes, numbers-read}
use Rattle.drm_frames.proofs.ListLaws.{length-list, list-bytes, front-found, four-apart, length-four, four-bytes}
use Rattle.drm_frames.proofs.PageLaws.{rows_in-rows, length-page, page-bytes}

-- ---- a result's frame is a frame

told-fits : (t : Told) → HasToldWidths t → FitsTold t → IsFrame (told_frame t)
told-fits (row kind fs) widths h = record {
  number = number-small kind;
  short = omega (arith, length-fields fs, length-map fs width_of, ap length widths, few-widths kind);
  bytes = fields-bytes fs;
}
told-fits (resources crtcs connectors encoders framebuffers) widths h = record {
  number = omega arith;
  short = let few = h.few in omega (arith, length-four crtcs connectors encoders framebuffers);
  bytes = four-bytes crtcs connectors encoders framebuffers;
}
told-fits (list ids) widths h = record {
  number = omega arith;
  short = let few = h.few in omega (arith, length-list ids);
  bytes = list-bytes ids;
}
told-fits (page rows) widths h = record {
  number = omega arith;
  short = let few = h.few in omega (arith, length-page rows);
  bytes = page-bytes rows;
}
told-fits (denial rule) widths h = record {
  number = omega arith;
  short = omega (arith, length-two (rule_number rule) (rule_errno rule));
  bytes = two-bytes (rule_number rule) (rule_errno rule);
}

-- If the numbers of a result fit their fields, its frame fits the format of frames.
pub answer-fits : (outcome : CallResult) → FitsFields outcome → IsFrame (answer_frame outcome)
answer-fits (Ok answer) h = told-fits (told answer) (has-widths answer) h
answer-fits (Err apart) h = record {
  number = omega arith;
  short = omega (arith, length-two (apart_number apart) (apart_errno apart));
  bytes = two-bytes (apart_number apart) (apart_errno apart);
}

-- ---- a result is found

denied_in-two : (number errno : ℕ) → number < 2 ^ 32 → errno < 2 ^ 32
    → denied_in (u32 number ++ u32 errno) ≡ denied (rule_of number errno)
denied_in-two number errno a b =
    rw (eq-eqb _ 8 (length-two number errno), u32_in-u32 number (u32 errno) a, last-of-two number errno b) refl

refused_in-two : (number errno : ℕ) → number < 2 ^ 32 → errno < 2 ^ 32
    → refused_in (u32 number ++ u32 errno) ≡ refused (apart_of number errno)
refused_in-two number errno a b =
    rw (eq-eqb _ 8 (length-two number errno), u32_in-u32 number (u32 errno) a, last-of-two number errno b) refl

-- the numbers of the others are no row's
others-own : (fields : List ℕ)
    → (answer_in (frame_value 0x1007 fields) ≡ list_in fields) × (answer_in (frame_value 0x100B fields) ≡ audit_in fields)
    × (answer_in (frame_value 0x2000 fields) ≡ denied_in fields) ×
    (answer_in (frame_value 0x2001 fields) ≡ refused_in fields) ×
    (answer_in (frame_value 0x1006 fields) ≡ resources_in fields)
unfolding answer_in answer_kind_of answer_kind_row
others-own fields = (refl, refl, refl, refl, refl)

denied-found : (rule : Rule)
    → answer_in (frame_value 0x2000 (u32 (rule_number rule) ++ u32 (rule_errno rule))) ≡ Some (Ok (Denied rule))
denied-found rule =
    (others-own (u32 (rule_number rule) ++ u32 (rule_errno rule))).2
    ∙ denied_in-two (rule_number rule) (rule_errno rule) (rule-small rule).0 (rule-small rule).1
    ∙ ap denied (rule-found rule)

refused-found : (apart : Apart)
    → answer_in (frame_value 0x2001 (u32 (apart_number apart) ++ u32 (apart_errno apart))) ≡ Some (Err apart)
refused-found apart =
    (others-own (u32 (apart_number apart) ++ u32 (apart_errno apart))).3
    ∙ refused_in-two (apart_number apart) (apart_errno apart) (apart-small apart).0 (apart-small apart).1
    ∙ ap refused (apart-found apart)

list_in-behind : (fields : List ℕ) → behind_list fields ≡ Some []
    → list_in fields ≡ Some (Ok (Listed (front_list fields)))
list_in-behind fields e = rw e refl

list-found : (ids : List ℕ) → FitsList ids → answer_in (frame_value 0x1007 (list_text ids)) ≡ Some (Ok (Listed ids))
list-found ids fits =
    let text = list_text ids ++ [] in
    let front = front-found ids [] fits in
    (others-own (list_text ids)).0
    ∙ ap list_in (sym (append-nil (list_text ids)))
    ∙ list_in-behind text front.0
    ∙ ap (λ (xs : List ℕ). Some (Ok (Listed xs))) front.1

resources_in-lists : (first second third fourth : List ℕ) → behind_list first ≡ Some second
    → behind_list second ≡ Some third → behind_list third ≡ Some fourth → behind_list fourth ≡ Some []
    → resources_in first ≡ Some (Ok (Resources (front_list first) (front_list second) (front_list third) (front_list fourth)))
resources_in-lists first second third fourth a b c d = rw (a, b, c, d) refl

resources-found : (crtcs connectors encoders framebuffers : List ℕ)
    → FitsResources crtcs connectors encoders framebuffers
    → answer_in (frame_value 0x1006 (list_text crtcs ++ list_text connectors ++ list_text encoders ++ list_text framebuffers)) ≡ Some (Ok (Resources crtcs connectors encoders framebuffers))
resources-found crtcs connectors encoders framebuffers fits =
    let fourth = list_text framebuffers ++ [] in
    let third = list_text encoders ++ fourth in
    let second = list_text connectors ++ third in
    let first = list_text crtcs ++ second in
    let a = front-found crtcs second fits.each_crtc in
    let b = front-found connectors third fits.each_connector in
    let c = front-found encoders fourth fits.each_encoder in
    let d = front-found framebuffers [] fits.each_framebuffer in
    let lists : Resources (front_list first) (front_list second) (front_list third) (front_list fourth) ≡ Resources crtcs connectors encoders framebuffers =
    rw (a.1, b.1, c.1, d.1) refl in
    (others-own (list_text crtcs ++ list_text connectors ++ list_text encoders ++ list_text framebuffers)).4
    ∙ ap resources_in
    (four-apart (list_text crtcs) (list_text connectors) (list_text encoders) (list_text framebuffers))
    ∙ resources_in-lists first second third fourth a.0 b.0 c.0 d.0
    ∙ ap (λ (answer : Answer). Some (Ok answer)) lists

audit_in-page : (count : ℕ) (fields : List ℕ) → count ≤ 16 → length fields ≡ 4 + 32 * count → u32_in fields ≡ count
    → audit_in fields ≡ Some (Ok (Audit (rows_in count (drop 4 fields))))
audit_in-page count fields few len says =
    let long : nat_le 4 (length fields) ≡ true = grind (arith, nat_tests) in
    let most : nat_le count 16 ≡ true = grind (arith, nat_tests) in
    rw (long, says, most, eq-eqb (length fields) (4 + 32 * count) len) refl

audit-found : (shown : List AuditRow) → FitsPage shown
    → answer_in (frame_value 0x100B (page_text shown)) ≡ Some (Ok (Audit shown))
audit-found shown fits =
    let few = fits.few in
    let behind : drop 4 (page_text shown) ≡ flat_map row_text shown =
    drop_at (u32 (length shown)) (flat_map row_text shown) 4 (length-u32 (length shown)) in
    (others-own (page_text shown)).1
    ∙ audit_in-page (length shown) (page_text shown) few (length-page shown)
    (u32_in-u32 (length shown) (flat_map row_text shown) (omega arith))
    ∙ ap (λ (rows : List AuditRow). Some (Ok (Audit rows)))
    (ap (rows_in (length shown)) behind ∙ rows_in-rows shown fits.each)

row-found : (answer : Answer) (kind : AnswerKind) (fs : List Field) → answer_with kind fs ≡ Some answer
    → map width_of fs ≡ answer_widths kind → All FitsField fs
    → answer_in (frame_value (answer_number kind) (flat_map field_text fs)) ≡ Some (Ok answer)
unfolding answer_in
row-found answer kind fs back widths each =
    let fields : numbers_in (answer_widths kind) (flat_map field_text fs) ≡ Some fs =
    ap (λ (ws : List Width). numbers_in ws (flat_map field_text fs)) (sym widths) ∙ numbers-read fs each in
    rw (kind-found kind, fields, back) refl

told-found : (answer : Answer) (t : Told) → TellsBack answer t → HasToldWidths t → FitsTold t
    → answer_in (told_frame t) ≡ Some (Ok answer)
told-found answer (row kind fs) back widths h = row-found answer kind fs back widths h
told-found answer (resources crtcs connectors encoders framebuffers) back widths h =
    resources-found crtcs connectors encoders framebuffers h ∙ ap (λ (a : Answer). Some (Ok a)) (sym back)
told-found answer (list ids) back widths h = list-found ids h ∙ ap (λ (a : Answer). Some (Ok a)) (sym back)
told-found answer (page rows) back widths h = audit-found rows h ∙ ap (λ (a : Answer). Some (Ok a)) (sym back)
told-found answer (denial rule) back widths h = denied-found rule ∙ ap (λ (a : Answer). Some (Ok a)) (sym back)

-- If the numbers of a result fit their fields, the result is found in its frame.
pub written-found : (outcome : CallResult) → FitsFields outcome → answer_in (answer_frame outcome) ≡ Some outcome
written-found (Ok answer) h = told-found answer (told answer) (tells-back answer) (has-widths answer) h
written-found (Err apart) h = refused-found apart

-- The result of a frame is found in it.
pub answer-found : (f : FrameValue) (outcome : CallResult) → IsAnswer f outcome → answer_in f ≡ Some outcome
answer-found f outcome h = ap answer_in h.1 ∙ written-found outcome h.0
