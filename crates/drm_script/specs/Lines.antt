-- The end of the first line of a text, and the line of each answer (own).
use Rattle.std.specs.Prelude.{ℕ, ◌+◌, Bool, ◌==◌, if◌then◌else◌, Option, None, Some, take, drop, List, [], ◌∷◌, ◌++◌, codes, decimal, length, Result, Ok, Err}
use Rattle.std.specs.List.{flat_map}
use Rattle.drm_table.specs.declared.rules.Rule.{Rule}
use Rattle.drm_table.specs.declared.answers.Answer.{Answer}
use Rattle.drm_table.specs.declared.fields.Field.{Field}
use Rattle.drm_table.specs.declared.apart.Apart.{Apart}
use Rattle.drm_table.specs.declared.audits.AuditKind.{AuditKind}
use Rattle.drm_table.specs.declared.audits.AuditRow.{AuditRow}
use Rattle.drm_table.specs.Answers.{Told, answer_word, told}
use Rattle.drm_table.specs.Answers.Told.{row, resources, list, page, denial}
use Rattle.drm_table.specs.Audits.{kind_name}
use Rattle.drm_table.specs.Fields.{number_in}
use Rattle.drm_table.specs.Rules.{rule_number, rule_name, rule_errno, apart_number, apart_name, apart_errno}

-- whether a byte is a line end
abbrev pub is_line_end : ℕ → Bool
is_line_end b = b == 10

-- the text before a line end at this place; all of it if no line ends
abbrev pub line_before : Option ℕ → List ℕ → List ℕ
line_before None text = text
line_before (Some place) text = take place text

-- the text after a line end at this place; none if no line ends
abbrev pub text_behind : Option ℕ → List ℕ → List ℕ
text_behind None text = []
text_behind (Some place) text = drop (place + 1) text

-- a byte in front of the first line, or as a line if there is none
abbrev pub with_line_byte : ℕ → List (List ℕ) → List (List ℕ)
with_line_byte b [] = (b ∷ []) ∷ []
with_line_byte b (line ∷ lines) = (b ∷ line) ∷ lines

-- The lines of a text without their ends: the text before each line end, and the rest after the last one, if there is
-- any.
abbrev pub lines_of : List ℕ → List (List ℕ)
lines_of [] = []
lines_of (b ∷ bs) = if is_line_end b then [] ∷ lines_of bs else with_line_byte b (lines_of bs)

-- a number after a word, or after another number
abbrev pub number_behind : Field → List ℕ
number_behind field = codes " " ++ decimal (number_in field)

-- an id after another
abbrev pub id_behind : ℕ → List ℕ
id_behind id = codes "," ++ decimal id

-- the ids joined by commas, or a dash where there are none
abbrev pub joined_ids : List ℕ → List ℕ
joined_ids [] = codes "-"
joined_ids (id ∷ ids) = decimal id ++ flat_map id_behind ids

-- ids or handles
abbrev pub list_words : List ℕ → List ℕ
list_words ids = codes "list " ++ joined_ids ids

-- the ids of CRTCs, connectors, encoders and framebuffers
abbrev pub resources_words : (crtcs connectors encoders framebuffers : List ℕ) → List ℕ
resources_words crtcs connectors encoders framebuffers =
    codes "crtcs " ++ joined_ids crtcs ++ codes " connectors " ++ joined_ids connectors ++ codes " encoders " ++ joined_ids encoders ++ codes " framebuffers " ++ joined_ids framebuffers

-- the four numbers of a row of an audit
abbrev pub row_numbers : AuditRow → List ℕ
row_numbers r = decimal r.a ++ codes " " ++ decimal r.b ++ codes " " ++ decimal r.c ++ codes " " ++ decimal r.d

-- a row after the number of rows, or after another row
abbrev pub row_behind : AuditRow → List ℕ
row_behind r = codes " | " ++ row_numbers r

-- the number of rows, and each of them
abbrev pub page_words : List AuditRow → List ℕ
page_words rows = codes "rows " ++ decimal (length rows) ++ flat_map row_behind rows

-- the rule's number, its name and its errno
abbrev pub denied_words : Rule → List ℕ
denied_words rule = codes "denied " ++ decimal (rule_number rule) ++ codes " " ++ rule_name rule ++ codes " " ++ decimal (rule_errno rule)

-- the same of a fault
abbrev pub apart_words : Apart → List ℕ
apart_words apart = codes "apart " ++ decimal (apart_number apart) ++ codes " " ++ apart_name apart ++ codes " " ++ decimal (apart_errno apart)

-- the word of an answer and its fields in order, the lists of resources, a list, a page, or a denial
abbrev pub told_words : Told → List ℕ
told_words (row kind fs) = answer_word kind ++ flat_map number_behind fs
told_words (resources crtcs connectors encoders framebuffers) = resources_words crtcs connectors encoders framebuffers
told_words (list ids) = list_words ids
told_words (page rows) = page_words rows
told_words (denial rule) = denied_words rule

-- the words of an answer, without the line end
abbrev pub answer_words : Result Answer Apart → List ℕ
answer_words (Ok answer) = told_words (told answer)
answer_words (Err apart) = apart_words apart

-- the words, and the line end
abbrev pub answer_line : Result Answer Apart → List ℕ
answer_line outcome = answer_words outcome ++ 10 ∷ []

-- the line of a row in a listing: the name of its kind, its numbers, and the line end
abbrev pub audit_line : AuditKind → AuditRow → List ℕ
audit_line kind r = kind_name kind ++ codes " " ++ row_numbers r ++ 10 ∷ []
