use Rattle.std.proofs.Common.{◌≡◌, ◌++◌, ap, sym, ◌∙◌}
use Rattle.std.specs.List.{flat_map}
use Rattle.drm_table.specs.Answers.{told, told_of}
use Rattle.drm_frames.specs.Answers.{told_frame}
use Rattle.drm_frames.specs.Fields.{field_text}
use Rattle.drm_frames.specs.Grammar.{frame_value}
use Rattle.drm_frames.specs.Number.{u32}
use Rattle.drm_frames.proofs.AnswerLists.{few_told}
use Rattle.drm_frames.proofs.BehindHead.{behind-head}
use Rattle.drm_frames.proofs.answers.push_answer.Goals as goal

pub push_resources-requires-clause-few : goal.push_resources-requires-clause-few
push_resources-requires-clause-few c =
    let shown = c.in-Resources in
    few_told c.args.answer.now shown.crtcs.now shown.connectors.now shown.encoders.now shown.framebuffers.now
    c.requires.few (ap told_of (sym shown.is) ∙ c.told.ensures)

pub returns-in-Fields-clause-text : goal.returns-in-Fields-clause-text
returns-in-Fields-clause-text c =
    let said : frame_value c.number.result (flat_map field_text c.as_slice.result.now) ≡ told_frame (told c.args.answer.now) =
    rw (c.number.ensures, c.as_slice.ensures.fields) (ap told_frame (ap told_of (sym c.in-Fields.is) ∙ c.told.ensures)) in
    ap (frame_value c.number.result) (behind-head c.args.text.now _ _ c.requires.empty c.push_numbers.ensures.text)
    ∙ said

pub returns-in-Resources-clause-text : goal.returns-in-Resources-clause-text
returns-in-Resources-clause-text c =
    ap (frame_value 0x1006) (behind-head c.args.text.now _ _ c.requires.empty c.push_resources.ensures.text)
    ∙ ap told_frame (ap told_of (sym c.in-Resources.is) ∙ c.told.ensures)

pub returns-in-List-clause-text : goal.returns-in-List-clause-text
returns-in-List-clause-text c =
    ap (frame_value 0x1007) (behind-head c.args.text.now _ _ c.requires.empty c.push_list.ensures.text)
    ∙ ap told_frame (ap told_of (sym c.in-List.is) ∙ c.told.ensures)

pub returns-in-Page-clause-text : goal.returns-in-Page-clause-text
returns-in-Page-clause-text c =
    ap (frame_value 0x100B) (behind-head c.args.text.now _ _ c.requires.empty c.push_page.ensures.text)
    ∙ ap told_frame (ap told_of (sym c.in-Page.is) ∙ c.told.ensures)

pub returns-in-Denial-clause-text : goal.returns-in-Denial-clause-text
returns-in-Denial-clause-text c =
    let said : frame_value 0x2000 (u32 c.number-in-Denial.result ++ u32 c.errno.result) ≡ told_frame (told c.args.answer.now) =
    rw (c.number-in-Denial.ensures, c.errno.ensures) (ap told_frame (ap told_of (sym c.in-Denial.is) ∙ c.told.ensures)) in
    ap (frame_value 0x2000) (behind-head c.args.text.now _ _ c.requires.empty c.push_refusal.ensures.text) ∙ said
