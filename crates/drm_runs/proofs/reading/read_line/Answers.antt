use Rattle.std.proofs.Common.{[], ◌∷◌, Some, ap, sym, ◌∙◌}
use Rattle.std.proofs.lemmas.Result.{on_ok_weaker}
use Rattle.drm_script.specs.Words.{words_of}
use Rattle.drm_runs.specs.Parts.{told_in}
use Rattle.drm_runs.specs.Told.{told, joined}
use Rattle.drm_runs.proofs.TopologyLineLemmas.{blank_tells_nothing, comment_tells_nothing, overlay_told, primary_told, cursor_told, encoder_told, connector_told}
use Rattle.drm_runs.proofs.FittingLines.{crtcs_line_told}
use Rattle.drm_runs.proofs.reading.read_line.Goals as goal

pub returns-in_default-clause-told : goal.returns-in_default-clause-told
returns-in_default-clause-told c =
    let t = told_in c.args.parts.now in
    blank_tells_nothing t ∙ ap (λ line. joined t (told (line ∷ []))) (sym c.in_default.ensures.words)

pub returns-then-is_comment-clause-told : goal.returns-then-is_comment-clause-told
returns-then-is_comment-clause-told c =
    let t = told_in c.args.parts.now in
    comment_tells_nothing t c.in-Some.word.now (words_of c.in-Some.rest.now)
    (sym c.is_comment.ensures ∙ c.if-is_comment.true)
    ∙ ap (λ line. joined t (told (line ∷ []))) (sym c.in-Some.ensures.words)

pub returns-in-Some-Crtcs-clause-told : goal.returns-in-Some-Crtcs-clause-told
returns-in-Some-Crtcs-clause-told c =
    let t = told_in c.args.parts.now in
    let is = sym c.line_word.ensures ∙ c.in-Some-Crtcs.is ∙ ap Some c.in-Some-Crtcs.field-0-is in
    on_ok_weaker c.set_crtcs.result (λ e. e ∙ ap (λ line. joined t (told (line ∷ []))) (sym c.in-Some.ensures.words))
    (crtcs_line_told c.set_crtcs.result t (told_in c.set_crtcs.new.self) c.in-Some.word.now (words_of c.in-Some.rest.now) is c.set_crtcs.ensures.cause c.set_crtcs.ensures.ok)

pub returns-in-Some-Plane-clause-told : goal.returns-in-Some-Plane-clause-told
returns-in-Some-Plane-clause-told c =
    let t = told_in c.args.parts.now in
    let is = sym c.line_word.ensures ∙ c.in-Some-Plane.is ∙ ap Some c.in-Some-Plane.field-0-is in
    on_ok_weaker c.add_overlay.result
    (λ e. e ∙ overlay_told t c.in-Some.word.now (words_of c.in-Some.rest.now) is ∙ ap (λ line. joined t (told (line ∷ []))) (sym c.in-Some.ensures.words))
    c.add_overlay.ensures.ok

pub returns-in-Some-Primary-clause-told : goal.returns-in-Some-Primary-clause-told
returns-in-Some-Primary-clause-told c =
    let t = told_in c.args.parts.now in
    let is = sym c.line_word.ensures ∙ c.in-Some-Primary.is ∙ ap Some c.in-Some-Primary.field-0-is in
    on_ok_weaker c.add_primary.result
    (λ e. e ∙ primary_told t c.in-Some.word.now (words_of c.in-Some.rest.now) is ∙ ap (λ line. joined t (told (line ∷ []))) (sym c.in-Some.ensures.words))
    c.add_primary.ensures.ok

pub returns-in-Some-Cursor-clause-told : goal.returns-in-Some-Cursor-clause-told
returns-in-Some-Cursor-clause-told c =
    let t = told_in c.args.parts.now in
    let is = sym c.line_word.ensures ∙ c.in-Some-Cursor.is ∙ ap Some c.in-Some-Cursor.field-0-is in
    on_ok_weaker c.add_cursor.result
    (λ e. e ∙ cursor_told t c.in-Some.word.now (words_of c.in-Some.rest.now) is ∙ ap (λ line. joined t (told (line ∷ []))) (sym c.in-Some.ensures.words))
    c.add_cursor.ensures.ok

pub returns-in-Some-Encoder-clause-told : goal.returns-in-Some-Encoder-clause-told
returns-in-Some-Encoder-clause-told c =
    let t = told_in c.args.parts.now in
    let is = sym c.line_word.ensures ∙ c.in-Some-Encoder.is ∙ ap Some c.in-Some-Encoder.field-0-is in
    on_ok_weaker c.add_encoder.result
    (λ e. e ∙ encoder_told t c.in-Some.word.now (words_of c.in-Some.rest.now) is ∙ ap (λ line. joined t (told (line ∷ []))) (sym c.in-Some.ensures.words))
    c.add_encoder.ensures.ok

pub returns-in-Some-Connector-clause-told : goal.returns-in-Some-Connector-clause-told
returns-in-Some-Connector-clause-told c =
    let t = told_in c.args.parts.now in
    let is = sym c.line_word.ensures ∙ c.in-Some-Connector.is ∙ ap Some c.in-Some-Connector.field-0-is in
    on_ok_weaker c.add_connector.result
    (λ e. e ∙ connector_told t c.in-Some.word.now (words_of c.in-Some.rest.now) is ∙ ap (λ line. joined t (told (line ∷ []))) (sym c.in-Some.ensures.words))
    c.add_connector.ensures.ok
