-- What a result is as a frame (own).
use Rattle.std.specs.Prelude.{◌≡◌, ℕ, ◌+◌, ◌*◌, ◌&&◌, if◌then◌else◌, nat_eq, nat_le, List, ◌++◌, All, length, drop, Option, Some, None, Result, Ok, Err}
use Rattle.drm_table.specs.declared.answers.Answer.{Answer}
use Rattle.drm_table.specs.declared.answers.Answer.TheVariants.{List as Listed, Resources, Audit, Denied}
use Rattle.drm_table.specs.declared.answer_kinds.AnswerKind.{AnswerKind}
use Rattle.drm_table.specs.declared.apart.Apart.{Apart}
use Rattle.drm_table.specs.declared.rules.Rule.{Rule}
use Rattle.drm_table.specs.Answers.{Told, answer_number, answer_widths, answer_kind_of, answer_with, told}
use Rattle.drm_table.specs.Answers.Told.{row, resources, list, page, denial}
use Rattle.drm_table.specs.Fields.{FitsField}
use Rattle.drm_table.specs.Rules.{rule_number, rule_errno, rule_of_number, apart_number, apart_errno, apart_of_number}
use Rattle.std.specs.List.{flat_map}
use Rattle.std.specs.Option.{option_map, option_and_then}
use Rattle.drm_frames.specs.Number.{u32, u32_in}
use Rattle.drm_frames.specs.Grammar.{FrameValue, frame_value, frame_text}
use Rattle.drm_frames.specs.Fields.{field_text, numbers_in}
use Rattle.drm_frames.specs.Lists.{list_text, FitsList, FitsResources, front_list, behind_list}
use Rattle.drm_frames.specs.Pages.{page_text, FitsPage, rows_in}

-- the result of a step: an answer, or a fault
abbrev pub CallResult : Type 0
CallResult = Result Answer Apart

-- ---- the grammar

-- the fields of an answer one after the other, four lists, a list, a page, or the rule's number and errno
abbrev pub told_frame : Told → FrameValue
told_frame (row kind fs) = frame_value (answer_number kind) (flat_map field_text fs)
told_frame (resources crtcs connectors encoders framebuffers) =
    frame_value 0x1006 (list_text crtcs ++ list_text connectors ++ list_text encoders ++ list_text framebuffers)
told_frame (list ids) = frame_value 0x1007 (list_text ids)
told_frame (page rows) = frame_value 0x100B (page_text rows)
told_frame (denial rule) = frame_value 0x2000 (u32 (rule_number rule) ++ u32 (rule_errno rule))

-- the number of each result and its fields in order
abbrev pub answer_frame : CallResult → FrameValue
answer_frame (Ok answer) = told_frame (told answer)
answer_frame (Err apart) = frame_value 0x2001 (u32 (apart_number apart) ++ u32 (apart_errno apart))

-- The numbers in the content fit their fields.
abbrev pub FitsTold : Told → Type 0
FitsTold (row kind fs) = All FitsField fs
FitsTold (resources crtcs connectors encoders framebuffers) = FitsResources crtcs connectors encoders framebuffers
FitsTold (list ids) = FitsList ids
FitsTold (page rows) = FitsPage rows
FitsTold (denial rule) = Unit {0}

-- The numbers of a result fit their fields.
abbrev pub FitsFields : CallResult → Type 0
FitsFields (Ok answer) = FitsTold (told answer)
FitsFields (Err apart) = Unit {0}

-- The frame is this result.
abbrev pub IsAnswer : FrameValue → CallResult → Type 0
IsAnswer f outcome = FitsFields outcome × (f ≡ answer_frame outcome)

-- Every frame is one result or none.
abbrev pub Tells : FrameValue → Option CallResult → Type 0
Tells f None = (outcome : CallResult) → IsAnswer f outcome → ⊥
Tells f (Some outcome) = IsAnswer f outcome

-- the bytes of a result
unfoldable pub answer_text : CallResult → List ℕ
answer_text outcome = frame_text (answer_frame outcome)

-- ---- the same as a function

-- what a list says, where it ends the fields
abbrev pub list_from : List ℕ → List ℕ → Option CallResult
list_from fields behind = if nat_eq (length behind) 0 then Some (Ok (Listed (front_list fields))) else None

-- the list that the bytes are, without a rest
abbrev pub list_in : List ℕ → Option CallResult
list_in fields = option_and_then (list_from fields) (behind_list fields)

-- what four lists say, where the last ends the fields
abbrev pub resources_from : List ℕ → List ℕ → List ℕ → List ℕ → List ℕ → Option CallResult
resources_from crtcs connectors encoders framebuffers behind =
    if nat_eq (length behind) 0 then Some
    (Ok (Resources (front_list crtcs) (front_list connectors) (front_list encoders) (front_list framebuffers))) else
    None

-- the four lists that the bytes are, without a rest
abbrev pub resources_in : List ℕ → Option CallResult
resources_in fields =
    option_and_then
    (λ second. option_and_then (λ third. option_and_then (λ fourth. option_and_then (resources_from fields second third fourth) (behind_list fourth)) (behind_list third)) (behind_list second))
    (behind_list fields)

-- the page that the bytes are: a count n of at most 16 and n rows, without a rest
abbrev pub audit_in : List ℕ → Option CallResult
audit_in fields =
    if nat_le 4 (length fields) && nat_le (u32_in fields) 16 && nat_eq (length fields) (4 + 32 * u32_in fields) then
    Some (Ok (Audit (rows_in (u32_in fields) (drop 4 fields)))) else None

-- one whose errno is this
abbrev pub if_errno : {A : Type 0} → (A → ℕ) → ℕ → A → Option A
if_errno errno_of errno one = if nat_eq (errno_of one) errno then Some one else None

-- the rule of a number and its own errno
unfoldable pub rule_of : ℕ → ℕ → Option Rule
rule_of number errno = option_and_then (if_errno rule_errno errno) (rule_of_number number)

-- the fault with a number and its own errno
unfoldable pub apart_of : ℕ → ℕ → Option Apart
apart_of number errno = option_and_then (if_errno apart_errno errno) (apart_of_number number)

-- the denial by a rule, or by none
abbrev pub denied : Option Rule → Option CallResult
denied None = None
denied (Some rule) = Some (Ok (Denied rule))

-- the refusal by a fault, if there is one
abbrev pub refused : Option Apart → Option CallResult
refused None = None
refused (Some apart) = Some (Err apart)

-- the denial that the bytes are: a number and an errno, without a rest
abbrev pub denied_in : List ℕ → Option CallResult
denied_in fields = if nat_eq (length fields) 8 then denied (rule_of (u32_in fields) (u32_in (drop 4 fields))) else None

-- the refusal that the bytes are: the number and errno of a fault, without a rest
abbrev pub refused_in : List ℕ → Option CallResult
refused_in fields =
    if nat_eq (length fields) 8 then refused (apart_of (u32_in fields) (u32_in (drop 4 fields))) else None

-- what fields of fixed number say
abbrev pub row_in : AnswerKind → List ℕ → Option CallResult
row_in kind fields = option_map Ok (option_and_then (answer_with kind) (numbers_in (answer_widths kind) fields))

-- the result that a frame of this kind's number is
abbrev pub result_in : Option AnswerKind → FrameValue → Option CallResult
result_in (Some kind) f = row_in kind f.fields
result_in None f =
    if nat_eq f.number 0x1006 then resources_in f.fields
    else if nat_eq f.number 0x1007 then list_in f.fields
    else if nat_eq f.number 0x100B then audit_in f.fields
    else if nat_eq f.number 0x2000 then denied_in f.fields
    else if nat_eq f.number 0x2001 then refused_in f.fields
    else None

-- the result that the frame is
unfoldable pub answer_in : FrameValue → Option CallResult
answer_in f = result_in (answer_kind_of f.number) f
